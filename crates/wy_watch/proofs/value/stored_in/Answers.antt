use Rattle.std.proofs.Common.{ap, sym}
use Rattle.std.specs.Prelude.{option_and_then}
use Rattle.wy_watch.specs.Sight.{sight_seen}
use Rattle.wy_watch.specs.Value.{stored_at}
use Rattle.wy_watch.proofs.Looking.{look_as}
use Rattle.wy_watch.proofs.value.stored_in.Goals as goal

pub returns-in-Some-clause-looks : goal.returns-in-Some-clause-looks
returns-in-Some-clause-looks g c = look_as _ _ _ _ _ (λ rs told. sym (ap (option_and_then (stored_at (sight_seen rs c.args.sight.now))) c.in-Some.is)) c.stored_at.ensures.looks
