-- What a view tells, and what a call of it leaves.
use Rattle.std.specs.Prelude.{◌≡◌, ◌≢◌, ◌≤◌, ℕ, List, Option, Some, IfSome, option_map, slice_get, Result, Ok, Err, ⊤}
use Rattle.std.specs.Borrow.{follows_so, Fml, RattleType, MutBor, GName}
use Rattle.std.specs.Prelude.{None as Absent}
use mathlib.Core.Option.{none}
use Rattle.wy_event.specs.Record.{Recorded}
use Rattle.wy_view.specs.Counts.{count_after, Rose}
use Rattle.wy_view.specs.declared.view.ViewError.{ViewError}
use Rattle.wy_view.specs.declared.view.ViewError.TheVariants.{ReadFault, Gone, Changed, NoMemory}

-- from whom a view has borrowed what it reads, and what files this one holds, by their names, where that is told
pub record Lender : Type 0 where
  pub name : GName
  pub holds : Option (List ℕ → Option (List ℕ))

-- the records, and how many events were asked for, where these are told; how many records there are;
-- how often a read failed, the trace was gone, and a part of it was found changed;
-- and the lender of what the view reads, where it has borrowed that
pub record Told : Type 0 where
  pub records : Option (List Recorded)
  pub reads : Option ℕ
  pub count : ℕ
  pub faults : ℕ
  pub misses : ℕ
  pub changes : ℕ
  pub lender : Option Lender

-- the records stay, and who lent with what he holds; no count fell
pub record Keeps (old new : Told) : Type 0 where
  pub records : new.records ≡ old.records
  pub count : new.count ≡ old.count
  pub faults : old.faults ≤ new.faults
  pub misses : old.misses ≤ new.misses
  pub changes : old.changes ≤ new.changes
  pub lender : new.lender ≡ old.lender

-- told reads count one more
abbrev pub ReadsOnce : Told → Told → Type 0
ReadsOnce old new = new.reads ≡ option_map (λ n. count_after n 1) old.reads

-- what rose where a view refuses: each refusal but that of memory has its cause, and only ReadFault is a fault.
-- What is told is there, and is what it was
abbrev pub RefusedFor : ViewError → Told → Told → Type 0
RefusedFor ReadFault old new = Rose old.faults new.faults
RefusedFor Gone old new = Rose old.misses new.misses × (new.faults ≡ old.faults) × (old.records ≡ Absent)
RefusedFor (Changed block kept found) old new =
    Rose old.changes new.changes × (kept ≢ found) × (new.faults ≡ old.faults) × (old.records ≡ Absent)
RefusedFor NoMemory old new = new.faults ≡ old.faults

-- an answer, and what rose where it is a refusal
abbrev pub KeepsCounts : {X : Type 0} → Result X ViewError → Told → Told → Type 0
KeepsCounts (Ok x) old new = new.faults ≡ old.faults
KeepsCounts (Err e) old new = RefusedFor e old new

-- record n, where the records are told
abbrev pub IsRecordOf : Told → ℕ → Recorded → Type 0
IsRecordOf told n e = IfSome told.records (λ rs. slice_get rs n ≡ Some e)

-- this holds of the value behind the reference, once what was borrowed from it is given back
abbrev pub Rests : (R : RattleType) → MutBor R.Denot → (R.Denot → Type 0) → Fml
Rests R s P = follows_so R R s.ghost_name none (λ _ _. ⊤) P
