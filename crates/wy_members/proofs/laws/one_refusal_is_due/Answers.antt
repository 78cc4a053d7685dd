use Rattle.wy_members.proofs.OneRefusal.{none_is_due, one_is_due}
use Rattle.wy_members.proofs.laws.one_refusal_is_due.Goals as goal

pub returns-clause-one : goal.returns-clause-one
returns-clause-one c = one_is_due

pub returns-clause-none : goal.returns-clause-none
returns-clause-none c = none_is_due
