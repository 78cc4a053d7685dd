use Rattle.std.proofs.Common.{ap, ◌∙◌, sym}
use Rattle.wy_value.specs.Text.{difference}
use Rattle.wy_value.proofs.Laws.{same_from_difference, difference_self, difference_reversed}
use Rattle.wy_value.proofs.law.difference_orders_texts.Goals as goal

pub returns-clause-zero : goal.returns-clause-zero
returns-clause-zero c a b = (same_from_difference a b, λ e. ap (difference a) (sym e) ∙ difference_self a)

pub returns-clause-reversed : goal.returns-clause-reversed
returns-clause-reversed c = difference_reversed
