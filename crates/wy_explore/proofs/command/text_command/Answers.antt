use Rattle.std.proofs.Common.{◌∙◌, ap}
use Rattle.wy_explore.specs.Commands.{command_in}
use Rattle.wy_explore.proofs.Lines.{no_text, reads_text}
use Rattle.wy_explore.proofs.command.text_command.Goals as goal

pub returns-in-Ok : goal.returns-in-Ok
returns-in-Ok c = reads_text c.args.line.now c.command_in.result c.requires (c.command_in.ensures ∙ ap command_in (c.in-Ok.ensures {u = tt}).cases.0)

pub returns-in-Err : goal.returns-in-Err
returns-in-Err c = no_text c.args.line.now c.requires (c.in-Err.ensures {u = tt}).cases.0
