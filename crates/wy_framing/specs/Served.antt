-- Which mirror's count of faults a refusal names, and what a recorder that writes keeps.
use Rattle.std.specs.Prelude.{◌≡◌, ◌≢◌, ℕ, ◌+◌, ◌-◌, ◌^◌, ◌<◌, min, List, [], ◌∷◌, slice_get, Some, Result, Ok, Err}
use Rattle.std.specs.Prelude.{None as Absent}
use Rattle.sha2.specs.Hashers.{Holds256}
use Rattle.sha2.specs.declared.Sha256.{Sha256}
use Rattle.wy_outside.specs.Counts.{Rose, last_count}
use Rattle.wy_record.specs.Recorders.{ChangedOnlyAt, Mirrors, opened}
use Rattle.wy_record.specs.declared.recorder.Phase.{Phase}
use Rattle.wy_record.specs.declared.recorder.Phase.TheVariants.{Failed, Ready, Recording}
use Rattle.wy_record.specs.declared.recorder.RecordError.{RecordError}
use Rattle.wy_record.specs.declared.recorder.RecordError.TheVariants.{SinkFault, Differs, NoMemory}

-- a fault is that of the mirror that it names, and at every other answer the counts stay
abbrev pub RoseIn : Result Unit RecordError → List ℕ → List ℕ → Type 0
RoseIn (Ok _) olds news = news ≡ olds
RoseIn (Err (SinkFault mirror)) olds news = ChangedOnlyAt Rose mirror olds news
RoseIn (Err NoMemory) olds news = news ≡ olds
RoseIn (Err (Differs event)) olds news = ⊥

-- a refusal as it reads once a mirror stands before those that it speaks of
abbrev pub behind : RecordError → RecordError
behind (SinkFault mirror) = SinkFault (min (mirror + 1) (2 ^ 32 - 1))
behind (Differs event) = Differs event
behind NoMemory = NoMemory

-- the sum of the counts
abbrev pub total : List ℕ → ℕ
total [] = 0
total (count ∷ rest) = count + total rest

-- no count stands at its last value
abbrev pub AreLow : List ℕ → Type 0
AreLow counts = (n count : ℕ) → slice_get counts n ≡ Some count → count < last_count

-- the bytes of each mirror that tells them are held
abbrev pub AreHeld : (List ℕ → Type 0) → Mirrors → Type 0
AreHeld Holds [] = Unit {0}
AreHeld Holds (Absent ∷ rest) = AreHeld Holds rest
AreHeld Holds (Some bytes ∷ rest) = Holds bytes × AreHeld Holds rest

-- the mirrors hold nothing before the recorder starts; until it has failed no count stands at its last value; and while it records the hasher has the bytes of each mirror that tells them
pub record Keeps (phase : Phase) (hasher : Sha256) (mirrors : Mirrors) (counts : List ℕ) : Type 0 where
  pub empty : phase ≡ Ready → opened mirrors ≡ mirrors
  pub low : phase ≢ Failed → AreLow counts
  pub held : phase ≡ Recording → AreHeld (Holds256 hasher) mirrors
