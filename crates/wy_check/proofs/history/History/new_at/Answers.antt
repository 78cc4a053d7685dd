use Rattle.std.proofs.Common.{ap, sym, ◌∙◌}
use Rattle.wy_check.specs.Marks.{mark_of}
use Rattle.wy_check.proofs.Histories.{new_marked, new_unmarked}
use Rattle.wy_check.proofs.history.History.new_at.Goals as goal

pub returns-then-is_marked : goal.returns-then-is_marked
returns-then-is_marked c = λ rs seen.
    new_marked rs c.args.event (ap (λ l. mark_of l c.args.event) (sym seen.made) ∙ ap (λ l. mark_of l c.args.event) (sym c.deref.ensures.value) ∙ sym c.is_marked.ensures ∙ c.if-is_marked.true)

pub returns-else-is_marked : goal.returns-else-is_marked
returns-else-is_marked c = λ rs seen.
    new_unmarked rs c.args.event (ap (λ l. mark_of l c.args.event) (sym seen.made) ∙ ap (λ l. mark_of l c.args.event) (sym c.deref.ensures.value) ∙ sym c.is_marked.ensures ∙ c.if-is_marked.false)
