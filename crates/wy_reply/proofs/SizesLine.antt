-- The line of sizes, from its two halves.
use Rattle.std.proofs.Common.{◌≡◌, ◌∙◌, ap₂, ℕ, List, ◌++◌, append_assoc}
use Rattle.std.specs.Prelude.{codes}
use Rattle.std.specs.Fmt.{decimal}
use Rattle.wy_reply.specs.Generated.{sizes_line}

pub sizes_are : (n e a d : ℕ) (first second line : List ℕ) → first ≡ codes "gen " ++ (decimal n ++ (codes ": " ++ (decimal e ++ codes " events, "))) → second ≡ decimal a ++ (codes " in the answer, " ++ (decimal d ++ codes " in its data\n"))
    → line ≡ first ++ second → line ≡ sizes_line n e a d
unfolding sizes_line
sizes_are n e a d first second line is also whole = whole ∙ ap₂ (λ (x y : List ℕ). x ++ y) is also ∙ simp append_assoc
