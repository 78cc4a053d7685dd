-- The tokens of a text stand one after another within it.
use Rattle.std.proofs.Common.{ℕ, zero, suc, ◌+◌, ◌*◌, ◌-◌, ◌<◌, ◌≤◌, ◌≡◌, List, [], ◌∷◌, length, take, drop, Option, Some, None, refl, sym, ◌∙◌, ap, subst, arith}
use Rattle.std.proofs.lemmas.List.{length-drop}
use Rattle.std.specs.Str.{chars, chars_after, continuation_len, lead_bits}
use Rattle.wy_tree.specs.Bytes.{line_ends}
use Rattle.wy_tree.specs.Literals.{continued, first_char}
use Rattle.wy_tree.specs.Pieces.{Piece, Between, Lexeme, Fault, piece_here, IsLongest}
use Rattle.wy_tree.specs.Tokens.{SpannedToken, Refusal, Adds, Reads}
use Rattle.wy_tree.specs.TokenLaws.{InOrder, TokensInOrder, FirstCharacter}

earlier : (place first line low size : ℕ) (spans : List SpannedToken) → first ≤ place → low ≤ line → InOrder place line size spans → InOrder first low size spans
earlier place first line low size [] le lo o = tt
earlier place first line low size (t ∷ spans) le lo o = let a = o.0 in let b = o.3 in (omega arith, o.1, o.2, omega arith, o.4)

pub none_of_none : (text : List ℕ) → piece_here text 0 ≡ None
unfolding piece_here
none_of_none text = refl

pub some_bytes : (text : List ℕ) (n : ℕ) (p : Piece) → IsLongest text n p → 0 < n
some_bytes text zero p l = let e = none_of_none text in let f = l.here in absurd (cc)
some_bytes text (suc n) p l = omega arith

added : (p : Piece) (place n line next size : ℕ) (spans more : List SpannedToken) → 0 < n → place + n ≤ size → line ≤ next → Adds p place n line spans more → InOrder (place + n) next size more → InOrder place line size spans
added Between place n line next size spans more lt le lo a o = subst (InOrder place line size) (sym a) (earlier (place + n) place next line size more (omega arith) lo o)
added (Lexeme t) place n line next size spans more lt le lo a o =
    subst (InOrder place line size) (sym a) (omega arith, omega arith, le, omega arith, earlier (place + n) (place + n) next line size more (omega arith) lo o)
added Fault place n line next size spans more lt le lo a o = absurd a

reads_in_order : (k place line size : ℕ) (text : List ℕ) (spans : List SpannedToken) (end : Option Refusal) → place + length text ≡ size → Reads k place line text spans end → InOrder place line size spans
reads_in_order zero place line size text spans end e r = subst (InOrder place line size) (sym r.0) tt
reads_in_order (suc k) place line size text spans end e r =
    let n = r.0 in
    let b = r.2 in
    let within = b.fits.within in
    let left = length-drop n text in
    let next = line + line_ends (take n text) in
    let more = reads_in_order k (place + n) next size (drop n text) r.1 end (omega (arith, e, within, left)) r.3 in
    added b.piece place n line next size spans r.1 (some_bytes text n b.piece b.fits) (omega (arith, e, within)) (omega arith) b.adds more

pub tokens_in_order : TokensInOrder
tokens_in_order text spans t = reads_in_order t.1.0 0 1 (length text) text spans None (omega arith) t.1.1

abbrev Read : Type 0
Read = ℕ × List ℕ

rest_of : (d c : ℕ) (bytes rest : List ℕ) (x y : Read) → x ≡ (d, bytes) → y ≡ (c, rest) → Some x ≡ Some y → d ∷ chars bytes ≡ c ∷ chars rest
rest_of d c bytes rest x y e f g = let p : x ≡ y = cc in ap (λ (z : Read). z.0 ∷ chars z.1) (sym e ∙ p ∙ f)

ends_here : (d : ℕ) (bytes : List ℕ) → chars_after zero d bytes ≡ d ∷ chars bytes
unfolding chars
ends_here d [] = refl
ends_here d (b ∷ bytes) = refl

continued_chars : (n d : ℕ) (bytes rest : List ℕ) (c : ℕ) → continued n d bytes ≡ Some (c, rest) → chars_after n d bytes ≡ c ∷ chars rest
continued_chars zero d bytes rest c e = ends_here d bytes ∙ rest_of d c bytes rest (d, bytes) (c, rest) refl refl e
continued_chars (suc n) d [] rest c e = absurd (cc)
continued_chars (suc n) d (b ∷ bytes) rest c e = continued_chars n (d * 64 + (b - 128)) bytes rest c e

pub first_character : FirstCharacter
unfolding chars first_char
first_character b bytes rest c e = continued_chars (continuation_len b) (lead_bits b) bytes rest c e
