use Rattle.std.proofs.Common.{rules}
use Rattle.std.specs.Str.{bytes_eq}
use Rattle.wy_members.specs.Declarations.{denoted, class_names}
use Rattle.wy_members.specs.Names.{unit_of}
use Rattle.wy_members.proofs.Numbering.{position_below}
use Rattle.wy_members.proofs.names.Names.denoted.Goals as goal

pub returns-clause-few : goal.returns-clause-few
unfolding denoted
returns-clause-few c = position_below (bytes_eq c.args.name.now) (class_names (unit_of c.args.self.now)) 4294967295 c.copied.result (search rules) (search rules)
