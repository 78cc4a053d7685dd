-- A text behind what leads to it, and parts of a line behind one another.
use Rattle.std.proofs.Common.{◌≡◌, ◌∙◌, ℕ, ◌-◌, Bool, List, [], ◌∷◌, ◌++◌, length, take, sym, ap, ap₂, append_assoc, append-nil, length-append, arith}
use Rattle.std.specs.Prelude.{codes}
use Rattle.std.proofs.lemmas.List.{take-append-le}
use Rattle.std.proofs.Math.Seq.{take-length}
use Rattle.wy_text.specs.EndLines.{line_of}
use Rattle.wy_text.specs.EventLines.{equation, led, line_with, star, where_at}
use Rattle.wy_text.specs.Names.{numbered}

-- no text came
pub taken_away : (end : ℕ) (whole new before front text : List ℕ) → new ≡ take end whole → length whole - end ≡ length before → length front ≡ end → whole ≡ front ++ (before ++ text) → new ≡ front ++ led before text
unfolding led
taken_away end whole new before front [] is none long all =
    is ∙ ap₂ take (sym long) all ∙ take-append-le (length front) front (before ++ []) (omega arith) ∙ take-length front ∙ sym (append-nil front)
taken_away end whole new before front (x ∷ xs) is none long all =
    absurd (omega (arith, none, long, ap length all, length-append front (before ++ x ∷ xs), length-append before (x ∷ xs)))

-- a text came
pub left_there : (end : ℕ) (whole before front text : List ℕ) → (length whole - end ≡ length before → ⊥) → length front ≡ end → whole ≡ front ++ (before ++ text) → whole ≡ front ++ led before text
unfolding led
left_there end whole before front [] some long all =
    absurd (some (omega (arith, long, ap length all, length-append front (before ++ []), length-append before [])))
left_there end whole before front (x ∷ xs) some long all = all

pub three_parts : (old a b new u v x y z : List ℕ) → u ≡ x → v ≡ y → a ≡ old ++ u → b ≡ a ++ v → new ≡ b ++ z → new ≡ old ++ (x ++ (y ++ z))
three_parts old a b new u v x y z first second at then is =
    is ∙ ap (λ (l : List ℕ). l ++ z) (then ∙ ap₂ (λ (l m : List ℕ). l ++ m) (at ∙ ap (λ (l : List ℕ). old ++ l) first) second)
    ∙ append_assoc (old ++ x) y z ∙ append_assoc old x (y ++ z)

pub whole_line : (lines : List ℕ) (n site : ℕ) (text : List ℕ) (marked : Bool) (old a b new : List ℕ) → a ≡ old ++ (numbered n ++ (codes " " ++ (where_at lines site ++ codes " "))) → b ≡ a ++ text → new ≡ b ++ line_of (star marked)
    → new ≡ old ++ line_with lines n site text marked
unfolding line_with
whole_line lines n site text marked old a b new first second third =
    third ∙ ap (λ (l : List ℕ). l ++ line_of (star marked)) (second ∙ ap (λ (l : List ℕ). l ++ text) first) ∙ simp append_assoc

-- a place and its value between what a line has before, between and behind them
pub held_line : (place value old a b c d new before between behind : List ℕ) → before ≡ codes " " → between ≡ codes " = " → behind ≡ codes "\n"
    → a ≡ old ++ before → b ≡ a ++ place → c ≡ b ++ between → d ≡ c ++ value → new ≡ d ++ behind → new ≡ old ++ (codes " " ++ line_of (equation place value))
unfolding equation
held_line place value old a b c d new before between behind is also last first second third fourth fifth =
    let one : a ≡ old ++ codes " " = first ∙ ap (λ (l : List ℕ). old ++ l) is in
    let two : b ≡ (old ++ codes " ") ++ place = second ∙ ap (λ (l : List ℕ). l ++ place) one in
    let three : c ≡ ((old ++ codes " ") ++ place) ++ codes " = " = third ∙ ap₂ (λ (l m : List ℕ). l ++ m) two also in
    let four : d ≡ (((old ++ codes " ") ++ place) ++ codes " = ") ++ value = fourth ∙ ap (λ (l : List ℕ). l ++ value) three in
    fifth ∙ ap₂ (λ (l m : List ℕ). l ++ m) four last ∙ simp append_assoc
