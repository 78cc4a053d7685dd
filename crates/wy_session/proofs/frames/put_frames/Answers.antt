-- One frame after another.
use Rattle.std.proofs.Common.{◌∙◌, ◌++◌, List, ℕ, ap}
use Rattle.wy_kernel.specs.Parts.{program_of}
use Rattle.wy_travel.specs.declared.frames.Frame.{Frame}
use Rattle.wy_travel.specs.Backtrace.{stack_frame}
use Rattle.wy_view.proofs.Views.{keeps_on}
use Rattle.wy_session.specs.Frames.{stack_frame_text}
use Rattle.wy_session.proofs.Framing.{one_more}
use Rattle.wy_session.proofs.frames.put_frames.Goals as goal

pub loop-frame-preserved : goal.loop-frame-preserved
loop-frame-preserved g c =
    let told = g.V.EventView.tells in
    let v = c.loop-frame.invariant in
    let p = program_of c.args.program.now in
    let frame = c.frame-item.result in
    record {
      keeps = keeps_on (told c.args.view.now) (told c.loop-frame.view) (told c.put_frame.new.view) v.keeps c.put_frame.ensures.keeps;
      faults = c.in_ok-put_frame.ensures.answers ∙ v.faults;
      lines = λ rs is.
          let lines_of : Frame → List ℕ = λ f. stack_frame_text p rs (stack_frame f) in
          one_more lines_of c.args.frames.now c.loop-frame.frame-index frame c.args.out.now.items c.loop-frame.out.items c.put_frame.new.out.items c.loop-frame-test.true
          (v.lines rs is) (c.in_ok-put_frame.ensures.lines rs (v.keeps.records ∙ is) ∙ ap (λ f. c.loop-frame.out.items ++ lines_of f) c.frame-item.is);
    }
