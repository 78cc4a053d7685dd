-- What follows of a recorder that took a run, and of one that didn't take all of it.
use Rattle.std.proofs.Common.{◌≡◌, ◌∙◌, ℕ, Bool, List, [], ◌++◌, map, take, drop, length, Result, Ok, Err, IfErr, IfOk, inl, inr, refl, sym, ap, subst}
use Rattle.std.specs.List.{concat}
use Rattle.std.proofs.Math.Seq.{take-length}
use Rattle.std.proofs.lemmas.List.{map-append, take-append-drop}
use Rattle.std.proofs.lemmas.List.Folds.{concat-append}
use Rattle.wy_event.specs.Record.{Recorded}
use Rattle.wy_kernel.specs.Program.{Program}
use Rattle.wy_meaning.specs.Run.{events}
use Rattle.wy_record.specs.declared.recorder.Phase.{Phase}
use Rattle.wy_record.specs.declared.recorder.RecordError.TheVariants.{SinkFault, Differs, NoMemory as Lacking}
use Rattle.wy_record.specs.Recorders.{CountsAs, FaultsAs, HavePrefix, Mirrors, with_more}
use Rattle.wy_steps.specs.Sets.{nothing}
use Rattle.wy_machine.specs.declared.ended.Ended.{Ended}
use Rattle.wy_machine.specs.declared.refusal.RunError.{RunError}
use Rattle.wy_machine.specs.declared.refusal.RunError.TheVariants.{Recorder, NoMemory}
use Rattle.wy_machine.specs.Differences.{DiffersAsFirst}
use Rattle.wy_machine.specs.Ended.{IsEndOf}
use Rattle.wy_machine.specs.Refusals.{as_told, phase_after, told}
use Rattle.wy_machine.specs.Shown.{HasTaken, IsRecorded, Shown, TakesRun}
use Rattle.wy_machine.specs.Traces.{IsLeft}
use Rattle.wy_machine.proofs.Mirrors.{front_more, front_whole}

module _ (keeps compares : Bool) (frame : Recorded → List ℕ) (given : List Recorded) (old new : Shown) where
  -- the first of the events are in the mirrors
  front_of : (n : ℕ) → HasTaken keeps compares frame old new (take n given) → HavePrefix (concat (map frame given)) old.mirrors new.mirrors
  front_of n h =
      let first : HavePrefix (concat (map frame (take n given))) old.mirrors new.mirrors = subst (HavePrefix (concat (map frame (take n given))) old.mirrors) (sym h.mirrors) (front_whole (concat (map frame (take n given))) old.mirrors) in
      subst (λ (bytes : List ℕ). HavePrefix bytes old.mirrors new.mirrors)
      (sym (ap concat (map-append frame (take n given) (drop n given)) ∙ concat-append (map frame (take n given)) (map frame (drop n given))) ∙ ap (λ es. concat (map frame es)) (take-append-drop n given))
      (front_more (concat (map frame (take n given))) (concat (map frame (drop n given))) old.mirrors new.mirrors first)

  module _ {X : Type 0} where
    abbrev Took : Result X RunError → Type 0
    Took r = TakesRun keeps compares frame given old r new

    pub begun_so : (r : Result X RunError) → Took r → IfErr r (λ e. HavePrefix (concat (map frame given)) old.mirrors new.mirrors)
    begun_so (Ok x) h = tt
    begun_so (Err (Recorder e)) h = h.mirrors
    begun_so (Err NoMemory) h = front_of h.0 h.1

    pub phase_so : (r : Result X RunError) → Took r → new.phase ≡ phase_after r
    phase_so (Ok x) h = h.phase
    phase_so (Err (Recorder e)) h = h.phase
    phase_so (Err NoMemory) h = h.1.phase

    pub expected_so : (r : Result X RunError) → Took r → new.expected ≡ old.expected
    expected_so (Ok x) h = h.expected
    expected_so (Err (Recorder e)) h = h.expected
    expected_so (Err NoMemory) h = h.1.expected

    pub faults_so : (r : Result X RunError) → Took r → FaultsAs (as_told r) old.faults new.faults
    faults_so (Ok x) h = h.faults
    faults_so (Err (Recorder (SinkFault mirror))) h = h.faults
    faults_so (Err (Recorder (Differs event))) h = h.faults
    faults_so (Err (Recorder Lacking)) h = h.faults
    faults_so (Err NoMemory) h = h.1.faults

    pub counts_so : (r : Result X RunError) → Took r → CountsAs (as_told r) old.counts new.counts
    counts_so (Ok x) h = h.counts
    counts_so (Err (Recorder (SinkFault mirror))) h = h.counts
    counts_so (Err (Recorder (Differs event))) h = h.counts
    counts_so (Err (Recorder Lacking)) h = h.counts
    counts_so (Err NoMemory) h = h.1.counts

    pub differs_so : (r : Result X RunError) → Took r → DiffersAsFirst (as_told r) compares old.expected given
    differs_so (Ok x) h = tt
    differs_so (Err (Recorder (SinkFault mirror))) h = tt
    differs_so (Err (Recorder (Differs event))) h = h.differs
    differs_so (Err (Recorder Lacking)) h = tt
    differs_so (Err NoMemory) h = tt

  -- the same refusal, whatever was to be answered
  pub refused_alike : (X Y : Type 0) (e : RunError) → TakesRun keeps compares frame {X = X} given old (Err e) new → TakesRun keeps compares frame {X = Y} given old (Err e) new
  refused_alike X Y (Recorder e) h = h
  refused_alike X Y NoMemory h = h

  -- all were taken, and memory is wanting behind them
  pub took_before : HasTaken keeps compares frame old new given → (n : ℕ) × HasTaken keeps compares frame old new (take n given)
  took_before h = (length given, subst (HasTaken keeps compares frame old new) (sym (take-length given)) h)

-- a recording that a run refuses leaves its recorder so
pub left_so : (X : Type 0) (e : RunError) (phase : Phase) → phase ≡ phase_after {X = X} (Err e) → IsLeft (told e) phase
left_so X (Recorder e) phase is = inl is
left_so X NoMemory phase is = inr (refl, is)

module _ (keeps compares : Bool) (frame : Recorded → List ℕ) (old new : Shown) (p : Program) (input : List ℕ) (steps : ℕ) where
  pub recorded_so : (r : Result Ended RunError) → IfOk r (λ e. IsEndOf p input steps e) → TakesRun keeps compares frame (events nothing p input steps) old r new → IfOk r (λ e. IsRecorded keeps compares frame p input steps old e new)
  recorded_so (Ok e) end h = record { end = end; taken = h }
  recorded_so (Err e) end h = tt
