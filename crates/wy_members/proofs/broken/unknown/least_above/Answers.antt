use Rattle.std.specs.Prelude.{option_map}
use Rattle.wy_syntax.specs.View.{named_of}
use Rattle.wy_members.specs.Names.{unit_of}
use Rattle.wy_members.specs.Within.{UnknownAbove}
use Rattle.wy_members.proofs.Leasts.{at_form, no_token}
use Rattle.wy_members.proofs.broken.unknown.least_above.Goals as goal

pub returns-in-Some : goal.returns-in-Some
returns-in-Some c = at_form (λ above. UnknownAbove (unit_of c.args.names.now) (option_map named_of above)) _ _ _ c.in-Some.is c.least_in_name.ensures

pub returns-in-None : goal.returns-in-None
returns-in-None c = at_form (λ above. UnknownAbove (unit_of c.args.names.now) (option_map named_of above)) _ _ _ c.in-None.is no_token
