use Rattle.std.proofs.Common.{◌++◌, ◌∙◌, List, ℕ, ap}
use Rattle.wy_kernel.specs.Parts.{program_of}
use Rattle.wy_session.specs.Frames.{frames_text}
use Rattle.wy_session.proofs.Framing.{one_text}
use Rattle.wy_session.proofs.frames.frame_lines.Goals as goal

pub returns-clause-lines : goal.returns-clause-lines
returns-clause-lines g c = λ rs is.
    let p = program_of c.args.program.now in
    let frames = c.args.frames.now in
    c.in_ok-put_frames.ensures.lines rs is ∙ ap (λ (l : List ℕ). l ++ frames_text p rs frames) c.new-lines.ensures.items ∙ one_text p rs frames
