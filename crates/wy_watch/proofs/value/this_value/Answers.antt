use Rattle.std.proofs.Common.{ap}
use Rattle.std.specs.Prelude.{option_and_then}
use Rattle.wy_watch.specs.Sight.{sight_seen}
use Rattle.wy_watch.specs.Value.{stored_at}
use Rattle.wy_watch.proofs.Looking.{look_as}
use Rattle.wy_watch.proofs.value.this_value.Goals as goal

pub returns-clause-looks : goal.returns-clause-looks
returns-clause-looks g c = look_as _ _ _ _ _ (λ rs told. ap (option_and_then (stored_at (sight_seen rs c.args.sight.now))) c.this_of.ensures.this) c.stored_in.ensures.looks
