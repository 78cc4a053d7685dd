use Rattle.std.proofs.Common.{sym}
use Rattle.wy_watch.specs.Sight.{sight_seen}
use Rattle.wy_watch.proofs.Forms.{no_class}
use Rattle.wy_watch.proofs.value.class_in.Goals as goal

pub returns-in_default-clause-class : goal.returns-in_default-clause-class
returns-in_default-clause-class g c = λ rs is. sym (no_class (sight_seen rs c.args.sight.now) c.args.e.now c.in_default.not-Name)
