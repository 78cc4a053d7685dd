-- A trace that is read keeps the rules of the version that its bytes begin with.
use Rattle.std.proofs.Common.{◌≡◌, ℕ, ◌≤◌, List, map, length, drop, Result, Ok, Err, refl, sym, ap, ◌∙◌, subst, All, arith}
use Rattle.std.specs.Prelude.{MatchResult}
use Rattle.std.proofs.lemmas.List.{length-map}
use Rattle.wy_kernel.specs.Limits.{event_limit, output_limit}
use Rattle.wy_kernel.specs.declared.program.Program.{Program}
use Rattle.wy_event.specs.declared.record.Cover.{Cover}
use Rattle.wy_event.specs.declared.record.Event.{Event}
use Rattle.wy_event.specs.declared.record.Head.{Head}
use Rattle.wy_event.specs.declared.record.Tail.{Tail}
use Rattle.wy_event.specs.declared.record.Trace.{Trace}
use Rattle.wy_event.specs.declared.record.Version.{Version}
use Rattle.wy_event.specs.Record.{Recorded, recorded}
use Rattle.wy_fitting.specs.Fits.{AllFit, CoverFits, EndFits}
use Rattle.wy_payload.specs.declared.known.Known.{Known}
use Rattle.wy_payload.specs.Ranges.{ranges_of}
use Rattle.wy_frames.specs.declared.error.TraceError.{TraceError}
use Rattle.wy_frames.specs.declared.stage.ReadEvent.{ReadEvent}
use Rattle.wy_frames.specs.declared.stage.Stage.{Stage}
use Rattle.wy_frames.specs.Heads.{ReadHead, head_of, version_of}
use Rattle.wy_frames.specs.Progress.{known_as_placed}
use Rattle.wy_frames.specs.Traces.{IsReadBehind}
use Rattle.law_reading.specs.Readable.{CountsAre, CoverMayStand, EndMayStand, HeadMayStand, IsReadable, known_in}
use Rattle.law_reading.proofs.Heads.{version_read}
use Rattle.law_reading.proofs.ReferringTraces.{are_few}
use Rattle.law_migrated.specs.Kept.{ReadTracesKeepRules}
use Rattle.law_migrated.proofs.Ends.{CoverStands}
use Rattle.law_migrated.proofs.Frames.{EndKept, Kept, SoFar, StageKept, all_kept, knowns_are, records}
use Rattle.law_migrated.proofs.Heads.{head_stands}

-- ---- ends

covers_stand : (earlier : List Known) (cs : List Cover) → All (CoverStands earlier) cs → All CoverFits cs → All (CoverMayStand earlier) cs
covers_stand earlier cs stand fit k d less = record { begins = (fit k d less).begins; ends = (stand k d less).ends; first = (stand k d less).first; cause = (stand k d less).cause }

module _ (v : Version) (p : Program) (steps : ℕ) (placed : List ReadEvent) (uses output : ℕ) (t : Tail) (so_far : SoFar (ranges_of v p) placed uses output) (is : EndKept (ranges_of v p) steps placed uses output t) (fits : EndFits t) where
  abbrev rs : List Recorded
  rs = records placed

  known : map known_as_placed placed ≡ map known_in rs
  known = knowns_are placed

  end_stands : EndMayStand p.statements steps (map known_in rs) t
  unfolding ranges_of
  end_stands = subst (λ (l : List Known). EndMayStand p.statements steps l t) known (record {
    each_covered = is.coverage.each;
    covers = covers_stand (map known_as_placed placed) t.coverage.statements is.coverage.covers fits.covers;
    stop = is.tail.stop;
    last = is.tail.last;
    steps = is.tail.steps;
  })

  counts : CountsAre (ranges_of v p) rs t
  counts = record {
    events = is.tail.events ∙ ap length known ∙ length-map rs known_in;
    uses = is.tail.uses ∙ so_far.uses_are;
    output = is.tail.output ∙ so_far.output_is;
  }

-- ---- a trace

behind : (v : Version) (p : Program) (head : Head) (fed : List ℕ) (x : Trace) → HeadMayStand head → AllFit (map recorded x.events) → EndFits x.tail → length x.events ≤ event_limit → IsReadBehind v p head fed (Ok x) → IsReadable v p x.head (map recorded x.events) x.tail
behind v p head fed x stands fit fits few (t, all, has) =
    let kept : Kept (ranges_of v p) head.steps t = all_kept (ranges_of v p) head.steps v head fed t all.rest all.leaves in
    let end : EndKept (ranges_of v p) head.steps t.placed t.uses t.output x.tail = subst (λ (stage : Stage). StageKept (ranges_of v p) head.steps t.placed t.uses t.output stage) has.sealed kept.stage in
    let events : map recorded x.events ≡ records t.placed = ap (λ (es : List Event). map recorded es) has.events in
    let read : IsReadable v p head (records t.placed) x.tail = record {
      head_stands = stands;
      fit = subst (λ (l : List Recorded). AllFit l) events fit;
      few = omega (arith, few, length-map x.events recorded, ap length events);
      events_stand = kept.so_far.may;
      little_output = subst (λ n. n ≤ output_limit) kept.so_far.output_is kept.so_far.little;
      end_stands = end_stands v p head.steps t.placed t.uses t.output x.tail kept.so_far end fits;
      counts = counts v p head.steps t.placed t.uses t.output x.tail kept.so_far end fits;
    } in
    subst (λ (h : Head). IsReadable v p h (map recorded x.events) x.tail) (sym has.head_is) (subst (λ (l : List Recorded). IsReadable v p head l x.tail) (sym events) read)

by_head : (p : Program) (bytes : List ℕ) (x : Trace) (h : Result ReadHead TraceError) → head_of bytes ≡ h → AllFit (map recorded x.events) → EndFits x.tail → length x.events ≤ event_limit → MatchResult h (λ y. IsReadBehind y.2 p y.0 (drop y.1 bytes) (Ok x)) (λ e. Ok x ≡ Err e)
    → IsReadable (version_of bytes) p x.head (map recorded x.events) x.tail
by_head p bytes x (Ok y) e fit fits few is = subst (λ (v : Version). IsReadable v p x.head (map recorded x.events) x.tail) (sym (version_read bytes y e)) (behind y.2 p y.0 (drop y.1 bytes) x (head_stands bytes y e) fit fits few is)
by_head p bytes x (Err d) e fit fits few is = absurd cc

pub keep_rules : ReadTracesKeepRules
keep_rules p bytes x fit fits is = by_head p bytes x (head_of bytes) refl fit fits (are_few p bytes x is) is
