use Rattle.std.proofs.Common.{ap, ◌∙◌}
use Rattle.wy_kernel.specs.Parts.{program_of}
use Rattle.wy_event.specs.Sources.{creation, last_write, or_else}
use Rattle.wy_check.specs.Writes.{owners}
use Rattle.wy_check.proofs.history.History.last_write.Goals as goal

pub returns-in-Some : goal.returns-in-Some
unfolding last_write or_else
returns-in-Some c = λ rs seen asked. ap (λ o. or_else o (creation (owners (program_of c.args.program.now)) rs c.args.slot c.args.moment)) (c.in-Some.ensures rs seen asked)

pub returns-in-None : goal.returns-in-None
unfolding last_write or_else
returns-in-None c = λ rs seen asked. c.creation.ensures rs seen ∙ ap (λ o. or_else o (creation (owners (program_of c.args.program.now)) rs c.args.slot c.args.moment)) (c.in-None.ensures rs seen asked)
