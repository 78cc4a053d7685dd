-- A default refers to nothing.
use Rattle.std.proofs.Common.{sym, subst}
use Rattle.wy_event.specs.Record.{recorded}
use Rattle.wy_kernel.specs.Parts.{program_of}
use Rattle.wy_view.specs.References.{ValueBelow}
use Rattle.wy_travel.proofs.Giving.{created_below}
use Rattle.wy_travel.proofs.slots.given_by.Goals as goal

pub returns-else-writes-clause-below : goal.returns-else-writes-clause-below
returns-else-writes-clause-below c = λ n refers. subst (ValueBelow n) (sym c.default_in.ensures) (created_below n (program_of c.args.program.now) (recorded c.args.event.now) c.args.slot)
