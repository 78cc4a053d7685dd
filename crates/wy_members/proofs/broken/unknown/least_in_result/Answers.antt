use Rattle.wy_syntax.specs.View.{outcome_of}
use Rattle.wy_members.specs.Names.{unit_of}
use Rattle.wy_members.specs.Within.{UnknownResult}
use Rattle.wy_members.proofs.Leasts.{at_form, no_token}
use Rattle.wy_members.proofs.broken.unknown.least_in_result.Goals as goal

pub returns-in-Value : goal.returns-in-Value
returns-in-Value c = at_form (λ outcome. UnknownResult (unit_of c.args.names.now) (outcome_of outcome)) _ _ _ c.in-Value.is c.least_in_type.ensures

pub returns-in-Nothing : goal.returns-in-Nothing
returns-in-Nothing c = at_form (λ outcome. UnknownResult (unit_of c.args.names.now) (outcome_of outcome)) _ _ _ c.in-Nothing.is no_token
