use Rattle.std.proofs.Common.{sym, ◌∙◌}
use Rattle.wy_overloads.proofs.Members.{chosen_exact}
use Rattle.wy_overloads.proofs.choice.is_chosen.Goals as goal
use Rattle.wy_overloads.proofs.choice.is_chosen.Goals.{then-applies, else-applies}

pub returns-then-is_most_specific : goal.returns-then-is_most_specific
returns-then-is_most_specific c =
    elim c.if-applies.branch [
      | then-applies w ↦ chosen_exact _ _ _ _ _ _ _ c.requires (c.applies.ensures.0 w.if-applies.true) (w.is_most_specific.ensures.0 (sym w.value-is ∙ c.if-is_most_specific.true)) c.is_counted.ensures
      | else-applies w ↦ (let e = sym w.value-is ∙ c.if-is_most_specific.true in absurd (cc))
    ]
