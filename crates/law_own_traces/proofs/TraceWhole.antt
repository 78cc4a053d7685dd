-- The trace of a run keeps every rule of a reader, where its records are shaped and in range.
use Rattle.std.proofs.Common.{◌≡◌, ◌≤◌, arith, ℕ, List, [], ◌∷◌, length, Some, refl, sym, ap, ◌∙◌, subst}
use Rattle.std.specs.Prelude.{map, take, slice_get}
use Rattle.std.proofs.lemmas.List.{length-map}
use Rattle.wy_kernel.specs.declared.program.Program as memory
use Rattle.wy_kernel.specs.Parts.{program_of}
use Rattle.wy_kernel.specs.Program as parts
use Rattle.wy_kernel.specs.View.{present}
use Rattle.wy_event.specs.declared.record.Version.{Version}
use Rattle.wy_event.specs.declared.record.Head.{Head}
use Rattle.wy_event.specs.declared.record.Tail.{Tail as Kept}
use Rattle.wy_event.specs.Record.{Recorded}
use Rattle.wy_steps.specs.Sets.{nothing}
use Rattle.wy_meaning.specs.Run.{Tail, events, output, tail}
use Rattle.wy_meaning.specs.Kept.{covered_of, kept_tail}
use Rattle.law_typed_states.specs.Typed.{KeepsLibrary}
use Rattle.wy_payload.specs.Ranges.{ranges_of}
use Rattle.wy_kernel.specs.Limits.{output_limit}
use Rattle.law_shaped.specs.Shaped as shaped_count
use Rattle.law_shaped.specs.Shaped.{Shaped, RecordsAreShaped, CoverageIsShaped, LastIsShaped, CountsAreShaped, CoverFits, OptionBelow, IsThrow}
use Rattle.law_reading.specs.Readable.{uses_in, printed, IsReadable}
use Rattle.law_in_range.specs.InRange.{LastFits, InRange, RunsAreInRange}
use Rattle.law_own_traces.specs.Own.{text_of, IsOwn, OwnTracesKeepRules}
use Rattle.law_own_traces.proofs.Records.{all_may_stand, all_written}
use Rattle.law_own_traces.proofs.Ends.{covers_stand, last_stands}

-- what is known of the references of every run
pub record AreShaped : Type 0 where
  pub records : (p : parts.Program) (input : List ℕ) (budget : ℕ) → RecordsAreShaped nothing p input budget
  pub coverage : (p : parts.Program) (input : List ℕ) (budget : ℕ) → CoverageIsShaped nothing p input budget
  pub counts : (p : parts.Program) (input : List ℕ) (budget : ℕ) → CountsAreShaped nothing p input budget
  pub last : (p : parts.Program) (input : List ℕ) (budget : ℕ) → LastIsShaped nothing p input budget

uses_same : (rs : List Recorded) → shaped_count.uses_in rs ≡ uses_in rs
unfolding uses_in
uses_same [] = refl
uses_same (e ∷ rest) = let h = uses_same rest in omega (arith, h)

module _ (V : Version) (P : memory.Program) (library : KeepsLibrary (program_of P)) (laws : AreShaped) (ranged : RunsAreInRange nothing (text_of P) (program_of P)) (head : Head) where
  abbrev rs : List Recorded
  rs = events nothing (program_of P) head.input head.steps

  abbrev ending : Tail
  ending = tail nothing (program_of P) head.input head.steps

  shaped : (n : ℕ) (e : Recorded) → slice_get rs n ≡ Some e → Shaped rs n e
  shaped = laws.records (program_of P) head.input head.steps

  keeps_with : (end : Kept) → IsOwn P head rs end → IsReadable V P head rs end
  unfolding kept_tail
  keeps_with end own =
      let last = laws.last (program_of P) head.input head.steps in
      let counts = laws.counts (program_of P) head.input head.steps in
      let closed = ranged.end head.input head.steps own.bytes in
      let in_range : (n : ℕ) (e : Recorded) → slice_get rs n ≡ Some e → InRange (length P.lines.items) (program_of P) (slice_get (take n rs)) e = ranged.records head.input head.steps own.bytes in
      let covers : map covered_of end.coverage.statements ≡ ending.coverage = ap (λ (t : Tail). t.coverage) own.end_is in
      let stops : end.stop ≡ ending.stop = ap (λ (t : Tail). t.stop) own.end_is in
      let lasts : present end.last ≡ ending.last = ap (λ (t : Tail). t.last) own.end_is in
      let steps : end.steps ≡ ending.steps = ap (λ (t : Tail). t.steps) own.end_is in
      let written : length (output nothing (program_of P) head.input head.steps) ≡ printed (ranges_of V P) [] rs = ap length (ranged.output head.input head.steps own.bytes) ∙ sym (all_written V P library.few rs shaped in_range) in
      record {
        head_stands = own.head_stands;
        fit = own.fit;
        few = counts.0;
        events_stand = all_may_stand V P library.few rs shaped in_range;
        little_output = subst (λ n. n ≤ output_limit) written counts.5;
        end_stands = record {
          each_covered = sym (length-map end.coverage.statements covered_of) ∙ ap length covers ∙ closed.covers;
          covers = covers_stand rs shaped end.coverage.statements ending.coverage covers (λ k d lt. (own.end_fits.covers k d lt).begins) (laws.coverage (program_of P) head.input head.steps);
          stop = subst (λ n. n ≤ 11) (sym stops) closed.stop;
          last = last_stands rs shaped end.stop end.last (subst (λ n. LastFits n (present end.last)) (sym stops) (subst (λ o. LastFits ending.stop o) (sym lasts) closed.last)) (subst (λ o. OptionBelow rs IsThrow (length rs) o) (sym lasts) last);
          steps = subst (λ n. n ≤ head.steps) (sym steps) closed.steps;
        };
        counts = record {
          events = ap (λ (t : Tail). t.events) own.end_is ∙ counts.1;
          uses = ap (λ (t : Tail). t.uses) own.end_is ∙ counts.2 ∙ uses_same rs;
          output = ap (λ (t : Tail). t.output) own.end_is ∙ counts.4 ∙ written;
        };
      }

pub own_keep_rules : (P : memory.Program) → KeepsLibrary (program_of P) → AreShaped → RunsAreInRange nothing (text_of P) (program_of P) → OwnTracesKeepRules P
own_keep_rules P library laws ranged v head records end own =
    subst (λ (l : List Recorded). IsOwn P head l end → IsReadable v P head l end) (sym own.events_are) (keeps_with v P library laws ranged head end) own
