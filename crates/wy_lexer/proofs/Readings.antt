-- The tokens so far, and those of what is left, are those of the text.
use Rattle.std.proofs.Common.{ℕ, suc, ◌+◌, ◌-◌, ◌<◌, ◌≤◌, ◌≡◌, List, [], ◌∷◌, ◌++◌, length, take, drop, Option, Some, None, refl, sym, ◌∙◌, ap, subst, append_assoc, append-nil, arith}
use Rattle.std.proofs.lemmas.List.{length-drop}
use Rattle.std.specs.Str.{IsUtf8}
use Rattle.wy_lexer.specs.Lexing.{IsCause, refused}
use Rattle.wy_lexer.specs.Reading.{found}
use Rattle.wy_tree.specs.Seen.{Tok}
use Rattle.wy_tree.specs.Bytes.{line_ends}
use Rattle.wy_tree.specs.Pieces.{Piece, Between, Lexeme, Fault, IsLongest, NothingFits}
use Rattle.wy_tree.specs.Tokens.{SpannedToken, Refusal, BadToken, BadLiteral, refusal_at, Stops, Adds, Begins, Reads, Tokens, Refuses}
use Rattle.wy_lexer.proofs.Longest.{Right}
use Rattle.wy_lexer.proofs.Found.{found_right}

-- However the rest is read, the whole is read so, with these tokens first. A line has a byte or more.
pub record IsReadTo (text : List ℕ) (spans : List SpannedToken) (place : ℕ) (line : ℕ) (rest : List ℕ) : Type 0 where
  pub so_far : (k : ℕ) (more : List SpannedToken) (end : Option Refusal) → Reads k place line rest more end → (j : ℕ) × Reads j 0 1 text (spans ++ more) end
  pub reach : place + length rest ≡ length text
  pub lines : line ≤ place + 1

pub at_first : (text : List ℕ) (spans : List SpannedToken) → spans ≡ [] → IsReadTo text spans 0 1 text
at_first text spans e = subst (λ z. IsReadTo text z 0 1 text) (sym e) (record { so_far = λ k more end r. (k, r); reach = omega arith; lines = omega arith })

pub right_at : (rest : List ℕ) (b : ℕ) (behind : List ℕ) (p : Piece) (n : ℕ) → rest ≡ b ∷ behind → (p, n) ≡ found b behind → Right rest p n
right_at rest b behind p n e f = subst (λ z. Right z p n) (sym e) (subst (λ (x : Piece × ℕ). Right (b ∷ behind) x.0 x.1) (sym f) (found_right b behind))

pub goes_between : (rest : List ℕ) (p : Piece) (n : ℕ) → p ≡ Between → Right rest p n → IsLongest rest n Between × (0 < n)
goes_between rest p n e r = subst (λ z. Right rest z n) e r

pub goes_lexeme : (rest : List ℕ) (p : Piece) (n : ℕ) (t : Tok) → p ≡ Lexeme t → Right rest p n → IsLongest rest n (Lexeme t) × (0 < n)
goes_lexeme rest p n t e r = subst (λ z. Right rest z n) e r

pub shorter : (rest after : List ℕ) (p : Piece) (n : ℕ) → IsLongest rest n p × (0 < n) → after ≡ drop n rest → length after < length rest
shorter rest after p n r e =
    let f : length after ≡ length rest - n = ap length e ∙ length-drop n rest in
    let within = r.0.within in
    let some = r.1 in
    omega (arith, f, within, some)

pub go_on : (text : List ℕ) (spans more_spans : List SpannedToken) (place line : ℕ) (rest : List ℕ) → IsReadTo text spans place line rest → (n e : ℕ) (after : List ℕ) (p : Piece) → IsLongest rest n p × (0 < n)
    → ((more : List SpannedToken) → (all : List SpannedToken) × (Adds p place n line all more × (spans ++ all ≡ more_spans ++ more)))
    → after ≡ drop n rest → e ≡ line_ends (take n rest) → e ≤ n → IsReadTo text more_spans (place + n) (line + e) after
go_on text spans more_spans place line rest i n e after p r adds f g le =
    let size : length after ≡ length rest - n = ap length f ∙ length-drop n rest in
    let within = r.0.within in
    let reach = i.reach in
    let lines = i.lines in
    record {
      so_far = λ k more end here.
          let a = adds more in
          let there : Reads k (place + n) (line + line_ends (take n rest)) (drop n rest) more end = subst (λ z. Reads k (place + n) (line + z) (drop n rest) more end) g (subst (λ z. Reads k (place + n) (line + e) z more end) f here) in
          let begins : Begins rest place line n a.0 more = record { piece = p; fits = r.0; adds = a.1.0 } in
          let whole = i.so_far (suc k) a.0 end (n, more, begins, there) in
          (whole.0, subst (λ z. Reads whole.0 0 1 text z end) a.1.1 whole.1);
      reach = omega (arith, size, within, reach);
      lines = omega (arith, lines, le);
    }

pub over_blank : (text : List ℕ) (spans same : List SpannedToken) (place line : ℕ) (rest : List ℕ) → IsReadTo text spans place line rest → (n e : ℕ) (after : List ℕ) → IsLongest rest n Between × (0 < n)
    → same ≡ spans → after ≡ drop n rest → e ≡ line_ends (take n rest) → e ≤ n → IsReadTo text same (place + n) (line + e) after
over_blank text spans same place line rest i n e after r p f g le =
    go_on text spans same place line rest i n e after Between r (λ more. (more, (refl, ap (λ z. z ++ more) (sym p)))) f g le

pub over_token : (text : List ℕ) (spans longer : List SpannedToken) (place line : ℕ) (rest : List ℕ) → IsReadTo text spans place line rest → (n e : ℕ) (after : List ℕ) (t : Tok) → IsLongest rest n (Lexeme t) × (0 < n)
    → longer ≡ spans ++ (record { token = t; start = place; end = place + n; line = line } ∷ []) → after ≡ drop n rest → e ≡ line_ends (take n rest) → e ≤ n → IsReadTo text longer (place + n) (line + e) after
over_token text spans longer place line rest i n e after t r p f g le =
    let here : SpannedToken = record { token = t; start = place; end = place + n; line = line } in
    go_on text spans longer place line rest i n e after (Lexeme t) r
    (λ more. (here ∷ more, (refl, sym (append_assoc spans (here ∷ []) more) ∙ ap (λ z. z ++ more) (sym p)))) f g le

ended : (place : ℕ) (rest : List ℕ) → length rest ≡ 0 → Stops place rest None
ended place [] e = refl
ended place (b ∷ rest) e = absurd (omega arith)

pub all_read : (text : List ℕ) (spans : List SpannedToken) (place line : ℕ) (rest : List ℕ) → IsReadTo text spans place line rest → IsUtf8 text → length rest ≡ 0 → Tokens text spans
all_read text spans place line rest i u e =
    let whole = i.so_far 0 [] None (refl, ended place rest e) in
    (u, (whole.0, subst (λ z. Reads whole.0 0 1 text z None) (append-nil spans) whole.1))

cause : (text : List ℕ) (r : Refusal) → Refuses text r → IsCause text (refused r)
cause text (BadToken byte) f = f
cause text (BadLiteral byte) f = f

stopped : (place : ℕ) (rest : List ℕ) (b : ℕ) (behind : List ℕ) → rest ≡ b ∷ behind → NothingFits rest → Stops place rest (Some (refusal_at place rest))
stopped place [] b behind e f = absurd (cc)
stopped place (c ∷ rest) b behind e f = (f, refl)

pub is_refused : (text : List ℕ) (spans : List SpannedToken) (place line : ℕ) (rest : List ℕ) (b : ℕ) (behind : List ℕ) (p : Piece) (n : ℕ) → IsReadTo text spans place line rest → IsUtf8 text
    → rest ≡ b ∷ behind → p ≡ Fault → Right rest p n → IsCause text (refused (refusal_at place (b ∷ behind)))
is_refused text spans place line rest b behind p n i u e f r =
    let free : NothingFits rest = subst (λ z. Right rest z n) f r in
    let whole = i.so_far 0 [] (Some (refusal_at place rest)) (refl, stopped place rest b behind e free) in
    subst (λ z. IsCause text (refused (refusal_at place z))) e (cause text (refusal_at place rest) (spans ++ [], (u, whole)))
