use Rattle.std.proofs.Common.{refl}
use Rattle.std.specs.Prelude.{map}
use Rattle.wy_event.specs.Record.{recorded}
use Rattle.wy_fold.proofs.asking.resolved.Goals as goal

pub returns-clause-event : goal.returns-clause-event
returns-clause-event g c = c.resolve.ensures.event (map recorded c.args.opened.now.view.events.items) refl
