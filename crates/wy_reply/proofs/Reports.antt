-- What the machine leaves is reported as the definition has it.
use Rattle.std.proofs.Common.{◌≡◌, ◌∙◌, refl, sym, ap, subst, inl, inr, ◌++◌, ◌<◌, ◌^◌, ℕ, List, map}
use Rattle.std.specs.List.{concat}
use Rattle.wy_kernel.specs.declared.program.Program as memory
use Rattle.wy_kernel.specs.Program.{Program}
use Rattle.wy_kernel.specs.Parts.{program_of}
use Rattle.wy_kernel.specs.View.{present}
use Rattle.wy_event.specs.declared.record.Head.{Head}
use Rattle.wy_fitting.specs.Fits.{AllFit, EndFits}
use Rattle.wy_steps.specs.Sets.{nothing}
use Rattle.wy_meaning.specs.Run as meaning
use Rattle.wy_meaning.specs.Kept.{kept_tail, kept_thrown}
use Rattle.wy_machine.specs.declared.ended.Ended.{Ended}
use Rattle.wy_machine.specs.Ended.{IsEndOf, IsTailOf}
use Rattle.wy_machine.specs.Traces.{BeginTrace, IsLeft, closed}
use Rattle.wy_record.specs.declared.recorder.Phase.{Phase}
use Rattle.wy_record.specs.declared.recorder.Phase.TheVariants.{Done as Finished}
use Rattle.wy_record.specs.declared.recorder.RecordError.{RecordError}
use Rattle.wy_record.specs.Recorders.{Mirrors}
use Rattle.wy_text.specs.EndLines.{stop_line}
use Rattle.wy_telling.specs.Output.{whole_lines}
use Rattle.wy_reply.specs.declared.answer.Answer.{Answer}
use Rattle.wy_reply.specs.declared.status.Status.TheVariants.{Done}
use Rattle.wy_reply.specs.Lines.{recorded_line}
use Rattle.wy_reply.specs.Recordings.{Spelling, IsTraceOf, HoldTrace, HoldByPhase, RecordsAs}
use Rattle.wy_reply.specs.Report.{report, recorded_report, report_of_end, recorded_of_end}

pub reported : (p : Program) (lines input : List ℕ) (steps : ℕ) (e : Ended) → IsEndOf p input steps e → report_of_end p lines e ≡ report p lines input steps
unfolding kept_tail kept_thrown
reported p lines input steps e is =
    let stop : e.tail.stop ≡ (meaning.tail nothing p input steps).stop = ap (λ t. t.stop) is.tail in
    let class : present e.thrown.class ≡ (meaning.thrown nothing p input steps).class = ap (λ t. t.class) is.thrown in
    let site : present e.thrown.site ≡ (meaning.thrown nothing p input steps).site = ap (λ t. t.site) is.thrown in
    λ i. whole_lines (is.output i) ++ stop_line p lines (stop i) (class i) (site i)

counted : (p : Program) (input : List ℕ) (steps : ℕ) (e : Ended) → IsEndOf p input steps e → e.tail.events ≡ (meaning.tail nothing p input steps).events
unfolding kept_tail
counted p input steps e is = ap (λ t. t.events) is.tail

recorded : (p : Program) (lines input : List ℕ) (steps : ℕ) (e : Ended) → IsEndOf p input steps e → recorded_of_end p lines e ≡ recorded_report p lines input steps
recorded p lines input steps e is = λ i. reported p lines input steps e is i ++ recorded_line (counted p input steps e is i)

-- the bytes of a run's trace
abbrev bytes_of : Spelling → Program → Head → Ended → List ℕ
bytes_of s p head e = let front = s.opening head ++ concat (map s.frame (meaning.events nothing p head.input head.steps)) in front ++ s.closing e.tail front

traced : (s : Spelling) (p : Program) (head : Head) (e : Ended) → IsEndOf p head.input head.steps e → head.steps < 2 ^ 32 → AllFit (meaning.events nothing p head.input head.steps) → EndFits e.tail →
    IsTraceOf s p head.source head.input head.steps (bytes_of s p head e)
traced s p head e is few fit ends = record { head = head; steps_are = refl; input_is = refl; source_is = refl; end = e.tail; end_is = is.tail; steps_fit = few; events_fit = fit; end_fits = ends; spelled = refl }

pub records : (s : Spelling) (p : memory.Program) (head : Head) (e : Ended) (old new : Mirrors) (n m : ℕ) (answer : Answer) → IsEndOf (program_of p) head.input head.steps e → head.steps < 2 ^ 32 → AllFit (meaning.events nothing (program_of p) head.input head.steps) → EndFits e.tail →
    new ≡ closed (s.closing e.tail) (s.opening head ++ concat (map s.frame (meaning.events nothing (program_of p) head.input head.steps))) old → m ≡ n →
    answer.status ≡ Done → answer.text.items ≡ recorded_of_end (program_of p) p.lines.items e → RecordsAs s p head old new n m answer
records s p head e old new n m answer is few fit ends holds same done text =
    inr (
      done,
      text ∙ recorded (program_of p) p.lines.items head.input head.steps e is,
      record { bytes = bytes_of s (program_of p) head e; is_trace = traced s (program_of p) head e is few fit ends; held = holds },
      same,
    )

-- ---- what the mirrors hold

pub held_whole : (s : Spelling) (p : Program) (head : Head) (e : Ended) (phase : Phase) (old new : Mirrors) → IsEndOf p head.input head.steps e → head.steps < 2 ^ 32 → AllFit (meaning.events nothing p head.input head.steps) → EndFits e.tail →
    new ≡ closed (s.closing e.tail) (s.opening head ++ concat (map s.frame (meaning.events nothing p head.input head.steps))) old → phase ≡ Finished → HoldByPhase s p head.source head.input head.steps phase old new
held_whole s p head e phase old new is few fit ends holds finished =
    let trace : HoldTrace s p head.source head.input head.steps old new = record { bytes = bytes_of s p head e; is_trace = traced s p head e is few fit ends; held = holds } in
    subst (λ (z : Phase). HoldByPhase s p head.source head.input head.steps z old new) (sym finished) trace

pub held_front : (s : Spelling) (p : Program) (head : Head) (e : RecordError) (phase : Phase) (old new : Mirrors) →
    BeginTrace s.closing (IsTailOf p head.input head.steps) (s.opening head ++ concat (map s.frame (meaning.events nothing p head.input head.steps))) old new → IsLeft e phase →
    HoldByPhase s p head.source head.input head.steps phase old new
held_front s p head e phase old new begun (inl failed) =
    subst (λ (z : Phase). HoldByPhase s p head.source head.input head.steps z old new) (sym failed) (record { head = head; steps_are = refl; input_is = refl; source_is = refl; begun = begun })
held_front s p head e phase old new begun (inr (lack, recording)) =
    subst (λ (z : Phase). HoldByPhase s p head.source head.input head.steps z old new) (sym recording) (record { head = head; steps_are = refl; input_is = refl; source_is = refl; begun = begun })
