-- What contracts see of a recorder, and what it is that it took the events of a run.
use Rattle.std.specs.Prelude.{◌≡◌, ℕ, Bool, true, List, ◌++◌, map, length, take, if◌then◌else◌, Result, Ok, Err}
use Rattle.std.specs.List.{concat}
use Rattle.wy_kernel.specs.Program.{Program}
use Rattle.wy_event.specs.Record.{Recorded}
use Rattle.wy_meaning.specs.Run.{events}
use Rattle.wy_steps.specs.Sets.{nothing}
use Rattle.wy_record.specs.declared.recorder.Phase.{Phase}
use Rattle.wy_record.specs.declared.recorder.Phase.TheVariants.{Failed, Recording}
use Rattle.wy_record.specs.declared.recorder.RecordError.{RecordError}
use Rattle.wy_record.specs.Recorders.{CountsAs, FaultsAs, HavePrefix, Mirrors, with_more}
use Rattle.wy_machine.specs.declared.ended.Ended.{Ended}
use Rattle.wy_machine.specs.declared.refusal.RunError.{RunError}
use Rattle.wy_machine.specs.declared.refusal.RunError.TheVariants.{Recorder, NoMemory}
use Rattle.wy_machine.specs.Differences.{AgreeBelow, DiffersAsFirst}
use Rattle.wy_machine.specs.Ended.{IsEndOf}

pub record Shown : Type 0 where
  pub phase : Phase
  pub kept : List Recorded
  pub expected : List Recorded
  pub position : ℕ
  pub faults : ℕ
  pub counts : List ℕ
  pub mirrors : Mirrors

abbrev pub shown : {R : Type 0} → (R → Phase) → (R → List Recorded) → (R → List Recorded) → (R → ℕ) → (R → ℕ) → (R → List ℕ) → (R → Mirrors) → R → Shown
shown phase kept expected position faults counts mirrors r = record {
  phase = phase r;
  kept = kept r;
  expected = expected r;
  position = position r;
  faults = faults r;
  counts = counts r;
  mirrors = mirrors r;
}

-- of a recorder that records: whether it keeps events, whether it compares them, and how it spells one
module _ (keeps compares : Bool) (frame : Recorded → List ℕ) where
  -- it took these events, each of which is the expected one, and goes on
  pub record HasTaken (old new : Shown) (given : List Recorded) : Type 0 where
    pub phase : new.phase ≡ Recording
    pub kept : new.kept ≡ (if keeps then old.kept ++ given else old.kept)
    pub expected : new.expected ≡ old.expected
    pub position : compares ≡ true → new.position ≡ length given
    pub agreed : compares ≡ true → AgreeBelow (length given) old.expected given
    pub faults : new.faults ≡ old.faults
    pub counts : new.counts ≡ old.counts
    pub mirrors : new.mirrors ≡ with_more (concat (map frame given)) old.mirrors

  -- it refused one of these events, and took those before it
  pub record HasRefused (old new : Shown) (given : List Recorded) (e : RecordError) : Type 0 where
    pub phase : new.phase ≡ Failed
    pub expected : new.expected ≡ old.expected
    pub differs : DiffersAsFirst {X = Unit {0}} (Err e) compares old.expected given
    pub faults : FaultsAs {X = Unit {0}} (Err e) old.faults new.faults
    pub counts : CountsAs {X = Unit {0}} (Err e) old.counts new.counts
    pub mirrors : HavePrefix (concat (map frame given)) old.mirrors new.mirrors

  -- behind those before it took these too; or it refused one of them, whatever would have come then
  abbrev pub TakesOn : {X : Type 0} → Shown → List Recorded → List Recorded → Result X RecordError → Shown → Type 0
  TakesOn first before given (Ok x) new = HasTaken first new (before ++ given)
  TakesOn first before given (Err e) new = (rest : List Recorded) → HasRefused first new ((before ++ given) ++ rest) e

  -- it took all of a run; or it refused one of the events; or memory was wanting for the run, and it took those before that
  abbrev pub TakesRun : {X : Type 0} → List Recorded → Shown → Result X RunError → Shown → Type 0
  TakesRun given old (Ok x) new = HasTaken old new given
  TakesRun given old (Err (Recorder e)) new = HasRefused old new given e
  TakesRun given old (Err NoMemory) new = (n : ℕ) × HasTaken old new (take n given)

  -- it is what the run of the program leaves, and the recorder took all of its events
  pub record IsRecorded (p : Program) (input : List ℕ) (steps : ℕ) (old : Shown) (e : Ended) (new : Shown) : Type 0 where
    pub end : IsEndOf p input steps e
    pub taken : HasTaken old new (events nothing p input steps)
