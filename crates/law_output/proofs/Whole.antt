-- What `output` tells of the records and the end of a run, put together.
use Rattle.std.proofs.Common.{◌≡◌, ◌∙◌, sym, ap, subst, ℕ, ◌≤◌, List, ◌++◌, length, Some}
use Rattle.std.specs.Prelude.{slice_get}
use Rattle.wy_tree.specs.Tokens.{token_limit}
use Rattle.wy_kernel.specs.declared.program.Program as memory
use Rattle.wy_kernel.specs.Parts.{program_of}
use Rattle.wy_kernel.specs.Program as parts
use Rattle.wy_kernel.specs.View.{present}
use Rattle.wy_event.specs.declared.record.Head.{Head}
use Rattle.wy_event.specs.declared.record.Tail.{Tail as Kept}
use Rattle.wy_event.specs.Record.{Recorded}
use Rattle.wy_steps.specs.Sets.{nothing}
use Rattle.wy_meaning.specs.Run.{Tail, events, output, tail, thrown}
use Rattle.wy_meaning.specs.Kept.{kept_tail}
use Rattle.wy_text.specs.EndLines.{stop_line}
use Rattle.wy_telling.specs.Printed.{printed}
use Rattle.wy_telling.specs.Thrown.{thrown_class, thrown_site}
use Rattle.wy_telling.specs.Output.{output_text, whole_lines}
use Rattle.law_shaped.specs.Shaped.{RecordsAreShaped}
use Rattle.law_in_range.specs.InRange.{IsSite, RunsAreInRange}
use Rattle.law_own_traces.specs.Own.{IsOwn, text_of}
use Rattle.law_output.specs.Written.{run_text, PrintsAreOutput, TellsRun}
use Rattle.law_output.proofs.Prints.{prints_written}
use Rattle.law_output.proofs.Ends.{same_class, same_site}

-- what is known of the references of every run
abbrev pub AreShaped : Type 0
AreShaped = (p : parts.Program) (input : List ℕ) (steps : ℕ) → RecordsAreShaped nothing p input steps

module _ (P : memory.Program) (shaped : AreShaped) (ranged : RunsAreInRange nothing (text_of P) (program_of P)) (head : Head) (end : Kept) where
  abbrev rs : List Recorded
  rs = events nothing (program_of P) head.input head.steps

  prints_with : IsOwn P head rs end → printed (program_of P) rs ≡ output nothing (program_of P) head.input head.steps
  prints_with own = prints_written (program_of P) rs (shaped (program_of P) head.input head.steps) ∙ sym (ranged.output head.input head.steps own.bytes)

  sited : IsOwn P head rs end → (n : ℕ) (e : Recorded) → slice_get rs n ≡ Some e → IsSite (length P.lines.items) e.site
  sited own n e there = (ranged.records head.input head.steps own.bytes n e there).site

  text_with : length P.lines.items ≤ token_limit → IsOwn P head rs end → output_text (program_of P) P.lines.items rs end ≡ run_text P head.input head.steps
  unfolding output_text kept_tail thrown
  text_with few own =
      let ending = tail nothing (program_of P) head.input head.steps in
      let thrown_last = thrown nothing (program_of P) head.input head.steps in
      let stops : end.stop ≡ ending.stop = ap (λ (t : Tail). t.stop) own.end_is in
      let lasts : present end.last ≡ ending.last = ap (λ (t : Tail). t.last) own.end_is in
      let class : thrown_class rs (present end.last) ≡ thrown_last.class = ap (thrown_class rs) lasts ∙ same_class rs (length P.lines.items) few (sited own) ending.last in
      let site : thrown_site rs (present end.last) ≡ thrown_last.site = ap (thrown_site rs) lasts ∙ same_site rs (length P.lines.items) few (sited own) ending.last in
      ap (λ (l : List ℕ). whole_lines l ++ stop_line (program_of P) P.lines.items end.stop (thrown_class rs (present end.last)) (thrown_site rs (present end.last))) (prints_with own)
      ∙ ap (λ n. whole_lines (output nothing (program_of P) head.input head.steps) ++ stop_line (program_of P) P.lines.items n (thrown_class rs (present end.last)) (thrown_site rs (present end.last))) stops
      ∙ ap (λ o. whole_lines (output nothing (program_of P) head.input head.steps) ++ stop_line (program_of P) P.lines.items ending.stop o (thrown_site rs (present end.last))) class
      ∙ ap (λ o. whole_lines (output nothing (program_of P) head.input head.steps) ++ stop_line (program_of P) P.lines.items ending.stop thrown_last.class o) site

pub prints_are_output : (P : memory.Program) → AreShaped → RunsAreInRange nothing (text_of P) (program_of P) → PrintsAreOutput P
prints_are_output P shaped ranged head records end own =
    subst (λ (l : List Recorded). IsOwn P head l end → printed (program_of P) l ≡ output nothing (program_of P) head.input head.steps) (sym own.events_are) (prints_with P shaped ranged head end) own

pub tells_run : (P : memory.Program) → AreShaped → RunsAreInRange nothing (text_of P) (program_of P) → TellsRun P
tells_run P shaped ranged few head records end own =
    subst (λ (l : List Recorded). IsOwn P head l end → output_text (program_of P) P.lines.items l end ≡ run_text P head.input head.steps) (sym own.events_are) (text_with P shaped ranged head end few) own
