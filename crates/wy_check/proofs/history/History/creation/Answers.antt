use Rattle.std.proofs.Common.{sym, ◌∙◌}
use Rattle.wy_kernel.specs.Parts.{program_of}
use Rattle.wy_index.proofs.Creations.{creation_from}
use Rattle.wy_check.specs.Writes.{owners}
use Rattle.wy_check.proofs.history.History.creation.Goals as goal

pub returns : goal.returns
returns c = λ rs seen. c.earlier.ensures ∙ sym (creation_from (owners (program_of c.args.program.now)) rs c.args.slot c.args.moment c.maker.result (c.maker.ensures rs seen))
