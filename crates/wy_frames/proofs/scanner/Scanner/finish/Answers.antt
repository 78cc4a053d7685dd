use Rattle.std.proofs.Common.{◌∙◌, subst}
use Rattle.wy_frames.specs.declared.stage.Stage.{Stage}
use Rattle.wy_frames.specs.Ends.{IsUnsealed}
use Rattle.wy_frames.proofs.Fed.{cut_at}
use Rattle.wy_frames.proofs.scanner.Scanner.finish.Goals as goal

pub returns-clause-read : goal.returns-clause-read
returns-clause-read c = λ v p head fed t h. (c.in-Ok.ensures.size ∙ cut_at c.args.self v p head fed t h, subst (λ (s : Stage). IsUnsealed s) (c.replace.ensures.value ∙ h.holds.stage) c.in-None.ensures)
