-- A token's line is one more than the line ends before it: no CR LF is cut in two.
use Rattle.std.proofs.Common.{ℕ, zero, suc, ◌+◌, ◌<◌, ◌≤◌, ◌≡◌, Bool, true, false, not, ◌&&◌, ◌||◌, ◌==◌, List, [], ◌∷◌, ◌++◌, length, take, drop, All, Option, Some, None, refl, sym, ◌∙◌, ap, subst, arith, append_assoc, add_assoc, zero-add}
use Rattle.std.specs.Prelude.{if◌then◌else◌}
use Rattle.std.proofs.lemmas.Bool.{eqb-true}
use Rattle.std.proofs.lemmas.List.{take-append-drop, length-append, length-take-le}
use Rattle.std.proofs.Math.Seq.{take-append_seam}
use Rattle.wy_tree.specs.Bytes.{begins_with, line_ends, line_ends_after}
use Rattle.wy_tree.specs.Pieces.{Piece, Between, Lexeme, Fault, class_of, piece_here, IsLongest}
use Rattle.wy_tree.specs.Tokens.{SpannedToken, Refusal, Adds, Reads}
use Rattle.wy_tree.specs.TokenLaws.{LinesAreCounted}
use Rattle.wy_tree.proofs.Order.{none_of_none}
use Rattle.wy_tree.proofs.Ends.{last_byte, last_byte-append, ends_in_cr}

abbrev begins_lf : List ℕ → Bool
begins_lf text = begins_with (λ c. c == 10) text

-- no CR LF reaches from the byte before the text into it
abbrev Apart : ℕ → List ℕ → Type 0
Apart before text = before ≡ 13 → begins_lf text ≡ false

ends-append : (before : ℕ) (xs ys : List ℕ) → line_ends_after before (xs ++ ys) ≡ line_ends_after before xs + line_ends_after (last_byte before xs) ys
ends-append before [] ys = sym (zero-add (line_ends_after before ys))
ends-append before (x ∷ xs) ys =
    let n = (if x == 13 || (x == 10 && not (before == 13)) then 1 else 0) in
    ap (λ k. n + k) (ends-append x xs ys) ∙ sym (add_assoc n (line_ends_after x xs) (line_ends_after (last_byte x xs) ys))

same_test : (p d c : Bool) → (c ≡ true → d ≡ false) → (p || (d && not c)) ≡ (p || (d && true))
same_test p d false h = refl
same_test p false true h = refl
same_test p true true h = let e = h refl in absurd (cc)

ends_apart : (before : ℕ) (text : List ℕ) → Apart before text → line_ends_after before text ≡ line_ends_after 0 text
ends_apart before [] a = refl
ends_apart before (b ∷ text) a = ap (λ (c : Bool). (if c then 1 else 0) + line_ends_after b text) (same_test (b == 13) (b == 10) (before == 13) (λ e. a (eqb-true before 13 e)))

taken_apart : (n : ℕ) (text : List ℕ) → begins_lf text ≡ false → begins_lf (take n text) ≡ false
taken_apart zero text e = refl
taken_apart (suc n) [] e = refl
taken_apart (suc n) (b ∷ text) e = e

-- ---- no piece ends between a CR and an LF

-- CR LF is a piece
cr_lf : (text : List ℕ) → piece_here (13 ∷ 10 ∷ text) 2 ≡ Some Between
unfolding piece_here class_of
cr_lf text = refl

first_two : (b d : ℕ) (text : List ℕ) → b ≡ 13 → d ≡ 10 → piece_here (b ∷ d ∷ text) 2 ≡ Some Between
first_two b d text e f = ap (λ x. piece_here (x ∷ d ∷ text) 2) e ∙ ap (λ x. piece_here (13 ∷ x ∷ text) 2) f ∙ cr_lf text

apart_behind : (text : List ℕ) (n : ℕ) (p : Piece) → IsLongest text n p → (p ≡ Fault → ⊥) → (x : ℕ) → Apart (last_byte x (take n text)) (drop n text)
unfolding piece_here
apart_behind text zero p l fits x e = let f = none_of_none text in let g = l.here in absurd (cc)
apart_behind [] (suc n) p l fits x e = refl
apart_behind (b ∷ text) (suc n) p l fits x e = go n text (ends_in_cr (class_of b (take n text)) b (take n text) p fits l.here e) e l.longest
  where
    go : (m : ℕ) (rest : List ℕ) → take m rest ≡ [] → last_byte b (take m rest) ≡ 13 → ((k : ℕ) → suc m < k → k ≤ length (b ∷ rest) → piece_here (b ∷ rest) k ≡ None) → begins_lf (drop m rest) ≡ false
    go zero [] alone is longest = refl
    go (suc m) [] alone is longest = refl
    go (suc m) (d ∷ rest) alone is longest = absurd (cc)
    go zero (d ∷ rest) alone is longest = by (d == 10) refl
      where
        by : (t : Bool) → (d == 10) ≡ t → t ≡ false
        by false same = refl
        by true same = let f = first_two b d rest is (eqb-true d 10 same) in let g = longest 2 (omega arith) (omega arith) in absurd (cc)

-- ---- tokens

abbrev OnLines : List ℕ → List SpannedToken → Type 0
OnLines text [] = Unit {0}
OnLines text (t ∷ spans) = (t.line ≡ 1 + line_ends (take t.start text)) × OnLines text spans

lines_on : (text front : List ℕ) (n : ℕ) → Apart (last_byte 0 front) text → line_ends (front ++ take n text) ≡ line_ends front + line_ends (take n text)
unfolding line_ends
lines_on text front n a = ends-append 0 front (take n text) ∙ ap (λ k. line_ends_after 0 front + k) (ends_apart (last_byte 0 front) (take n text) (λ e. taken_apart n text (a e)))

added : (p : Piece) (place n line : ℕ) (whole : List ℕ) (spans more : List SpannedToken) → line ≡ 1 + line_ends (take place whole) → Adds p place n line spans more → OnLines whole more → OnLines whole spans
added Between place n line whole spans more is a rest = subst (OnLines whole) (sym a) rest
added (Lexeme t) place n line whole spans more is a rest = subst (OnLines whole) (sym a) (is, rest)
added Fault place n line whole spans more is a rest = absurd a

fault_adds_nothing : (p : Piece) (place n line : ℕ) (spans more : List SpannedToken) → Adds p place n line spans more → p ≡ Fault → ⊥
fault_adds_nothing p place n line spans more a e = subst (λ z. Adds z place n line spans more) e a

on_lines : (k place line : ℕ) (front text whole : List ℕ) (spans : List SpannedToken) (end : Option Refusal) → whole ≡ front ++ text → place ≡ length front → line ≡ 1 + line_ends front → Apart (last_byte 0 front) text → Reads k place line text spans end → OnLines whole spans
on_lines zero place line front text whole spans end e at is apart r = subst (OnLines whole) (sym r.0) tt
on_lines (suc k) place line front text whole spans end e at is apart r =
    let n = r.0 in
    let b = r.2 in
    let next : List ℕ = front ++ take n text in
    let here : take place whole ≡ front = ap (λ j. take j whole) at ∙ ap (take (length front)) e ∙ take-append_seam front text in
    let whole_is : whole ≡ next ++ drop n text = e ∙ ap (λ l. front ++ l) (sym (take-append-drop n text)) ∙ sym (append_assoc front (take n text) (drop n text)) in
    let place_is : place + n ≡ length next = ap (λ j. j + n) at ∙ sym (length-append front (take n text) ∙ ap (λ j. length front + j) (length-take-le n text b.fits.within)) in
    let line_is : line + line_ends (take n text) ≡ 1 + line_ends next = ap (λ j. j + line_ends (take n text)) is ∙ add_assoc 1 (line_ends front) (line_ends (take n text)) ∙ ap (λ j. 1 + j) (sym (lines_on text front n apart)) in
    let fits = fault_adds_nothing b.piece place n line spans r.1 b.adds in
    let apart_next : Apart (last_byte 0 next) (drop n text) = λ c. apart_behind text n b.piece b.fits fits (last_byte 0 front) (sym (last_byte-append 0 front (take n text)) ∙ c) in
    added b.piece place n line whole spans r.1 (is ∙ ap (λ l. 1 + line_ends l) (sym here)) b.adds (on_lines k (place + n) (line + line_ends (take n text)) next (drop n text) whole r.1 end whole_is place_is line_is apart_next r.3)

each_line : (text : List ℕ) (spans : List SpannedToken) → OnLines text spans → All (λ t. t.line ≡ 1 + line_ends (take t.start text)) spans
each_line text [] o k d within = absurd (omega (arith, within))
each_line text (t ∷ spans) o zero d within = o.0
each_line text (t ∷ spans) o (suc k) d within = each_line text spans o.1 k d (omega (arith, within))

pub lines_are_counted : LinesAreCounted
unfolding line_ends
lines_are_counted text spans t = each_line text spans (on_lines t.1.0 0 1 [] text text spans None refl refl refl (λ e. absurd (cc)) t.1.1)
