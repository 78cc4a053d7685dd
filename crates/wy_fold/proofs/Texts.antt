-- Texts, one part after another.
use Rattle.std.proofs.Common.{◌≡◌, ◌∙◌, ◌-◌, ℕ, List, [], ◌∷◌, ◌++◌, length, refl, sym, ap, ne_eqb, arith, append_assoc}
use Rattle.std.specs.Prelude.{codes, if◌then◌else◌}
use Rattle.std.specs.Fmt.{decimal}
use Rattle.wy_fold.specs.Rows.{beside, blanks, folded_away, left}

-- two parts that were put one after the other
pub joined : (before between after x y : List ℕ) → between ≡ before ++ x → after ≡ between ++ y → after ≡ before ++ (x ++ y)
joined before between after x y first second = second ∙ ap (λ l. l ++ y) first ∙ append_assoc before x y

pub beside_nothing : (text source : List ℕ) → length source ≡ 0 → beside text source ≡ text
beside_nothing text [] none = refl
beside_nothing text (b ∷ source) none = absurd (omega (arith, none))

pub beside_some : (text source : List ℕ) → ¬ (length source ≡ 0) → beside text source ≡ left 40 text ++ (codes " " ++ source)
beside_some text [] some = absurd (some refl)
beside_some text (b ∷ source) some = refl

-- what the source has, behind the text of an event
pub put_behind : (before a b c after text source : List ℕ) → ¬ (length source ≡ 0) → a ≡ before ++ text → b ≡ a ++ blanks (40 - length text) → c ≡ b ++ codes " " → after ≡ c ++ source
    → after ≡ before ++ beside text source
put_behind before a b c after text source some first second third last =
    joined before b after (left 40 text) (codes " " ++ source) (joined before a b text (blanks (40 - length text)) first second) (joined b c after (codes " ") source third last)
    ∙ ap (λ l. before ++ l) (sym (beside_some text source some))

pub some_away : (n : ℕ) → ¬ (n ≡ 0) → folded_away n ≡ codes ", " ++ (decimal n ++ codes " not shown: --all lists them")
some_away n some = ap (λ b. if b then [] else codes ", " ++ (decimal n ++ codes " not shown: --all lists them")) (ne_eqb n 0 some)
