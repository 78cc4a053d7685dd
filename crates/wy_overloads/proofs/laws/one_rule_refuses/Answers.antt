use Rattle.wy_overloads.proofs.Unique.{none_chosen_and_refused}
use Rattle.wy_overloads.proofs.laws.one_rule_refuses.Goals as goal

pub returns-clause-exclusive : goal.returns-clause-exclusive
returns-clause-exclusive c = none_chosen_and_refused
