use Rattle.std.proofs.Common.{◌∙◌, ap, sym}
use Rattle.wy_kernel.specs.View.{statement, test_of}
use Rattle.wy_scope.specs.Regions.{loop_region}
use Rattle.wy_scope.proofs.Regions.{own_is}
use Rattle.wy_scope.proofs.region.loop_region.Goals as goal

pub returns-in-Some : goal.returns-in-Some
returns-in-Some c = own_is c.args.body.now ∙ sym (ap (λ t. loop_region c.args.region (test_of t) (statement c.args.body.now)) c.in-Some.is)
