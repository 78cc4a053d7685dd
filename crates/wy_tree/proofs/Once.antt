-- A text is read in one way: at a place there is one longest piece.
use Rattle.std.proofs.Common.{ℕ, zero, suc, ◌+◌, ◌<◌, ◌≡◌, ◌⊎◌, inl, inr, List, [], ◌∷◌, take, drop, Option, Some, None, refl, sym, ◌∙◌, ap, subst}
use Rattle.std.proofs.lemmas.Bool.{cases_order}
use Rattle.std.proofs.lemmas.Str.{utf8_valid_len-IsValidUpTo}
use Rattle.wy_tree.specs.Bytes.{line_ends}
use Rattle.wy_tree.specs.Pieces.{Piece, Between, Lexeme, Fault, piece_here, IsLongest}
use Rattle.wy_tree.specs.Tokens.{SpannedToken, Refusal, Stops, Adds, Begins, Reads, ReadsWhole}
use Rattle.wy_tree.specs.TokenLaws.{OneTokenList, TokensOrRefusal, OneRefusal, NotUtf8Alone}

no_longer : (text : List ℕ) (n m : ℕ) (p q : Piece) → IsLongest text n p → IsLongest text m q → n < m → ⊥
no_longer text n m p q a b lt = let e = a.longest m lt b.within in let f = b.here in absurd (cc)

one_length : (text : List ℕ) (n m : ℕ) (p q : Piece) → IsLongest text n p → IsLongest text m q → n ≡ m
one_length text n m p q a b = by (cases_order n m)
  where
    by : (n ≡ m) ⊎ ((n < m) ⊎ (m < n)) → n ≡ m
    by (inl e) = e
    by (inr (inl lt)) = absurd (no_longer text n m p q a b lt)
    by (inr (inr lt)) = absurd (no_longer text m n q p b a lt)

same_some : (p q : Piece) → Some p ≡ Some q → p ≡ q
same_some p q e = cc

pub one_piece : (text : List ℕ) (n m : ℕ) (p q : Piece) → IsLongest text n p → IsLongest text m q → p ≡ q
one_piece text n m p q a b = same_some p q (sym a.here ∙ ap (piece_here text) (one_length text n m p q a b) ∙ b.here)

pub no_bytes : (n : ℕ) → piece_here [] n ≡ None
unfolding piece_here
no_bytes zero = refl
no_bytes (suc n) = refl

nothing_begins : (place line n : ℕ) (spans more : List SpannedToken) → Begins [] place line n spans more → ⊥
nothing_begins place line n spans more b = let e = no_bytes n in let f = b.fits.here in absurd (cc)

adds_fault : (p : Piece) (place n line : ℕ) (spans more : List SpannedToken) → p ≡ Fault → Adds p place n line spans more → ⊥
adds_fault p place n line spans more e a = subst (λ z. Adds z place n line spans more) e a

stopped : (place line n : ℕ) (text : List ℕ) (spans more : List SpannedToken) (end : Option Refusal) → Stops place text end → Begins text place line n spans more → ⊥
stopped place line n [] spans more end s b = nothing_begins place line n spans more b
stopped place line n (c ∷ text) spans more end s b = adds_fault b.piece place n line spans more (s.0 n b.piece b.fits) b.adds

one_stop : (place : ℕ) (text : List ℕ) (x y : Option Refusal) → Stops place text x → Stops place text y → x ≡ y
one_stop place [] x y s t = s ∙ sym t
one_stop place (c ∷ text) x y s t = s.1 ∙ sym t.1

abbrev pub Same : List SpannedToken → List SpannedToken → Option Refusal → Option Refusal → Type 0
Same a b x y = (a ≡ b) × (x ≡ y)

same_adds : (p q : Piece) (place line n m : ℕ) (a b c d : List SpannedToken) → p ≡ q → n ≡ m → c ≡ d → Adds p place n line a c → Adds q place m line b d → a ≡ b
same_adds p q place line n m a b c d e f g s t = by p (subst (λ z. Adds z place m line b d) (sym e) t) s
  where
    by : (p : Piece) → Adds p place m line b d → Adds p place n line a c → a ≡ b
    by Between t s = s ∙ g ∙ sym t
    by (Lexeme k) t s = s ∙ ap (λ z. record { token = k; start = place; end = place + z; line = line } ∷ c) f ∙ ap (λ z. record { token = k; start = place; end = place + m; line = line } ∷ z) g ∙ sym t
    by Fault t s = absurd s

pub reads_once : (k j place line : ℕ) (text : List ℕ) (a b : List SpannedToken) (x y : Option Refusal) → Reads k place line text a x → Reads j place line text b y → Same a b x y
reads_once zero zero place line text a b x y r s = (r.0 ∙ sym s.0, one_stop place text x y r.1 s.1)
reads_once zero (suc j) place line text a b x y r s = absurd (stopped place line s.0 text b s.1 x r.1 s.2)
reads_once (suc k) zero place line text a b x y r s = absurd (stopped place line r.0 text a r.1 y s.1 r.2)
reads_once (suc k) (suc j) place line text a b x y r s =
    let f = r.2 in
    let g = s.2 in
    let e : r.0 ≡ s.0 = one_length text r.0 s.0 f.piece g.piece f.fits g.fits in
    let here : Reads j (place + r.0) (line + line_ends (take r.0 text)) (drop r.0 text) s.1 y =
    subst (λ n. Reads j (place + n) (line + line_ends (take n text)) (drop n text) s.1 y) (sym e) s.3 in
    let more = reads_once k j (place + r.0) (line + line_ends (take r.0 text)) (drop r.0 text) r.1 s.1 x y r.3 here in
    (same_adds f.piece g.piece place line r.0 s.0 a b r.1 s.1 (one_piece text r.0 s.0 f.piece g.piece f.fits g.fits) e more.0 f.adds g.adds, more.1)

pub whole_once : (text : List ℕ) (a b : List SpannedToken) (x y : Option Refusal) → ReadsWhole text a x → ReadsWhole text b y → Same a b x y
whole_once text a b x y r s = reads_once r.1.0 s.1.0 0 1 text a b x y r.1.1 s.1.1

pub one_token_list : OneTokenList
one_token_list text spans others t u = (whole_once text spans others None None t u).0

pub tokens_or_refusal : TokensOrRefusal
tokens_or_refusal text spans r t u = let e = (whole_once text spans u.0 None (Some r) t u.1).1 in absurd (cc)

same_refusal : (r s : Refusal) → Some r ≡ Some s → r ≡ s
same_refusal r s e = cc

pub one_refusal : OneRefusal
one_refusal text r s t u = same_refusal r s (whole_once text t.0 u.0 (Some r) (Some s) t.1 u.1).1

pub not_utf8_alone : NotUtf8Alone
not_utf8_alone text byte n = (λ spans t. n.0 t.0, λ r t. n.0 t.1.0, λ other m. sym (utf8_valid_len-IsValidUpTo text byte n.1) ∙ utf8_valid_len-IsValidUpTo text other m.1)
