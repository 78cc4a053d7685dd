use Rattle.wy_members.specs.Declarations.{table}
use Rattle.wy_members.specs.Constants.{initializers, without_constants}
use Rattle.wy_members.proofs.Least.{one_value, one_list}
use Rattle.wy_members.proofs.laws.one_constant_stands_for_a_field.Goals as goal

pub returns-clause-value : goal.returns-clause-value
returns-clause-value c = λ unit k v w first second. one_value (without_constants (table unit)) (initializers unit) first w second

pub returns-clause-list : goal.returns-clause-list
returns-clause-list c = one_list
