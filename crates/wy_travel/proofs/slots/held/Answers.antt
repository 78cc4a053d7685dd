-- What was given last is held, and nothing where nothing was given.
use Rattle.std.proofs.Common.{◌∙◌}
use Rattle.wy_kernel.specs.Parts.{program_of}
use Rattle.wy_travel.proofs.Reading.{held_given}
use Rattle.wy_travel.proofs.slots.held.Goals as goal

pub returns-clause-held : goal.returns-clause-held
returns-clause-held g c = λ rs is.
    c.unwrap_or.ensures ∙ held_given (program_of c.args.program.now) rs c.args.slot c.args.event c.in_ok-given.given (c.in_ok-given.ensures.given rs is)
