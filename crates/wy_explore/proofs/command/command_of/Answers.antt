use Rattle.std.proofs.Common.{◌∙◌, ap, refl, sym}
use Rattle.std.specs.Prelude.{option_map}
use Rattle.wy_explore.specs.declared.command.Command.TheVariants as command
use Rattle.wy_explore.proofs.Lines.{reads_shown}
use Rattle.wy_explore.proofs.command.command_of.Goals as goal

pub returns-in-Some : goal.returns-in-Some
returns-in-Some c = reads_shown c.args.line.now c.in-Some.text.now (command.Show c.in-Some.text) (sym c.shown_in.ensures ∙ ap (option_map (λ text. text.now)) c.in-Some.is) refl
