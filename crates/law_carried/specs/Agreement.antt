-- When a state of a run agrees with the records of that run, which values arise in the run, and what their uses say of them.
use Rattle.std.specs.Prelude.{◌≡◌, ℕ, ◌<◌, ◌≤◌, List, [], ◌∷◌, length, Option, Some, option_to_list, slice_get}
use Rattle.std.specs.Prelude.{None as Absent}
use Rattle.wy_kernel.specs.Form.{Expression, Place as Assignable, Row, Statement}
use Rattle.wy_kernel.specs.Program.{Program}
use Rattle.wy_event.specs.declared.record.Slot.{Slot}
use Rattle.wy_event.specs.declared.record.Use.{Use}
use Rattle.wy_event.specs.declared.record.Use.TheVariants.{Place, Value, Choice}
use Rattle.wy_event.specs.Numbers.{Numbers, union}
use Rattle.wy_event.specs.Record.{Recorded}
use Rattle.wy_event.specs.Sources.{Owners, last_write, closure, data_closure}
use Rattle.wy_steps.specs.Sets.{numbers}
use Rattle.wy_steps.specs.State.{Carried, Held, Store, Noted, Active, State, Returned, Threw, Run, Outcome, Done, Left}
use Rattle.wy_steps.specs.Steps.{owner_in, read}
use Rattle.wy_meaning.specs.World.{all_of}
use Rattle.wy_meaning.specs.Place.{Spot, find}
use Rattle.wy_meaning.specs.Expression.{eval, locate, eval_row}
use Rattle.wy_meaning.specs.Statement.{exec}
use Rattle.wy_meaning.specs.Run.{world, end, start, outcome, events}
use Rattle.law_carried.specs.Backward.{data_of_uses, all_of_uses}

-- ---- what agrees with the records of a run

-- the events so far, the newest first, are the first of the records
abbrev pub AreFirst : List Recorded → List (Noted numbers) → Type 0
AreFirst records [] = Unit {0}
AreFirst records (e ∷ rest) = (slice_get records (length rest) ≡ Some e.event) × AreFirst records rest

-- the moment of a use is at most n, or its event is below n
abbrev pub IsPast : ℕ → Use → Type 0
IsPast n (Place x m) = m ≤ n
IsPast n (Value e) = e < n
IsPast n (Choice e) = e < n

abbrev pub ArePast : ℕ → List Use → Type 0
ArePast n [] = Unit {0}
ArePast n (u ∷ us) = IsPast n u × ArePast n us

-- each number of the list is below n
abbrev pub AllBelow : ℕ → List ℕ → Type 0
AllBelow n [] = Unit {0}
AllBelow n (w ∷ ws) = (w < n) × AllBelow n ws

-- what a slot holds comes from its last write, and a slot without one holds nothing
abbrev pub SlotAgrees : Owners → List Recorded → Option (Held numbers) → Option ℕ → Type 0
SlotAgrees owner records Absent Absent = Unit {0}
SlotAgrees owner records Absent (Some n) = ⊥
SlotAgrees owner records (Some h) Absent = ⊥
SlotAgrees owner records (Some h) (Some n) = (h.from_data ≡ data_closure owner records n) × (h.from_all ≡ closure owner records n)

-- the store as it is with n events
abbrev pub StoreAgrees : Owners → List Recorded → Store numbers → ℕ → Type 0
StoreAgrees owner records store n = (x : Slot) → SlotAgrees owner records (store x) (last_write owner records x n)

-- the uses and the control parent of event n are before it
pub record IsBehind (n : ℕ) (e : Recorded) : Type 0 where
  pub uses : ArePast n e.uses
  pub control : AllBelow n (option_to_list e.control)

-- each event came from its closures, and so did the store just before it
abbrev pub EventsAgree : Owners → List Recorded → List (Noted numbers) → Type 0
EventsAgree owner records [] = Unit {0}
EventsAgree owner records (e ∷ rest) =
    (e.from_data ≡ data_closure owner records (length rest)) × (e.from_all ≡ closure owner records (length rest)) × StoreAgrees owner records e.before (length rest) × IsBehind (length rest) e.event × EventsAgree owner records rest

-- the set has all that the entries come from
abbrev pub Absorbs : Numbers → List (Active numbers) → Type 0
Absorbs a [] = Unit {0}
Absorbs a (b ∷ rest) = (union a b.from_all ≡ a) × Absorbs a rest

-- each active entry is one of the n events and comes from its closure, in which is all that older entries come from
abbrev pub EntriesAgree : Owners → List Recorded → ℕ → List (Active numbers) → Type 0
EntriesAgree owner records n [] = Unit {0}
EntriesAgree owner records n (a ∷ rest) =
    (a.number < n) × (a.from_all ≡ closure owner records a.number) × Absorbs a.from_all rest × EntriesAgree owner records n rest

-- the slots, the events and the active entries of a state carry what the records of the run give for them
pub record Agrees (owner : Owners) (records : List Recorded) (s : State numbers) : Type 0 where
  pub store : StoreAgrees owner records s.store (length s.noted)
  pub noted : EventsAgree owner records s.noted
  pub active : EntriesAgree owner records (length s.noted) s.active

-- ---- what a run does with it

-- from a state that agrees with the records it leads to one that does, if the events at its end are the first of them
abbrev pub Leads : {X : Type 0} → Program → Run numbers X → Type 0
Leads p m =
    (records : List Recorded) (s : State numbers) →
    Agrees (owner_in p) records s → AreFirst records (end (m s)).noted → Agrees (owner_in p) records (end (m s))

-- in a program, with so many frames left
abbrev pub ExpressionsLead : Program → Type 0
ExpressionsLead p = (depth : ℕ) (e : Expression) → Leads p (eval (world p depth) e)

abbrev pub StatementsLead : Program → Type 0
StatementsLead p = (depth : ℕ) (x : Statement) → Leads p (exec (world p depth) x)

abbrev pub PlacesLead : Program → Type 0
PlacesLead p = (depth : ℕ) (x : Assignable) → Leads p (find (world p depth) (locate (world p depth) x))

abbrev pub ArgumentsLead : Program → Type 0
ArgumentsLead p = (depth : ℕ) (args : Row) → Leads p (all_of (eval_row (world p depth) args))

abbrev pub InitializationsLead : Program → Type 0
InitializationsLead p = (depth site class : ℕ) → Leads p ((world p depth).enter site class)

abbrev pub StartsAgree : Program → Type 0
StartsAgree p = (records : List Recorded) (input : List ℕ) (budget : ℕ) → Agrees (owner_in p) records (start input budget)

abbrev pub EndsAgree : Program → Type 0
EndsAgree p = (input : List ℕ) (budget : ℕ) → Agrees (owner_in p) (events numbers p input budget) (end (outcome {A = numbers} p input budget))

-- ---- values that arise in a run

-- a part of a run, from a state that agrees with the records, ends in this way, and its events are the first of the records
pub record Comes {X : Type 0} (p : Program) (records : List Recorded) (m : Run numbers X) (o : Outcome numbers X) : Type 0 where
  pub from : State numbers
  pub agrees : Agrees (owner_in p) records from
  pub is : m from ≡ o
  pub first : AreFirst records (end o).noted

-- the value of an expression, what the parts of a place carry, an argument, what is read of a slot, and what a statement or an expression is left with
pub data Arises (p : Program) (records : List Recorded) : Carried numbers → Type 0 where
  Evaluated : (depth : ℕ) (e : Expression) (v : Carried numbers) (s : State numbers) →
      Comes p records (eval (world p depth) e) (Done v s) → Arises p records v
  Located : (depth : ℕ) (x : Assignable) (spot : Spot numbers) (s : State numbers) →
      Comes p records (find (world p depth) (locate (world p depth) x)) (Done spot s) → Arises p records spot.parts
  Passed : (depth : ℕ) (args : Row) (vs : List (Carried numbers)) (i : ℕ) (v : Carried numbers) (s : State numbers) →
      Comes p records (all_of (eval_row (world p depth) args)) (Done vs s) → slice_get vs i ≡ Some v → Arises p records v
  Stored : (x : Slot) (v : Carried numbers) (s : State numbers) →
      Comes p records (read x) (Done v s) → Arises p records v
  HandedBack : (depth : ℕ) (x : Statement) (n : ℕ) (v : Carried numbers) (s : State numbers) →
      Comes p records (exec (world p depth) x) (Left (Returned n v) s) → Arises p records v
  Thrown : (depth : ℕ) (x : Statement) (n : ℕ) (v : Carried numbers) (s : State numbers) →
      Comes p records (exec (world p depth) x) (Left (Threw n v) s) → Arises p records v
  Failed : (depth : ℕ) (e : Expression) (n : ℕ) (v : Carried numbers) (s : State numbers) →
      Comes p records (eval (world p depth) e) (Left (Threw n v) s) → Arises p records v

-- what a value carries is what the records give for its uses
abbrev pub IsByUses : Owners → List Recorded → Carried numbers → Type 0
IsByUses owner records v = (v.from_data ≡ data_of_uses owner records v.uses) × (v.from_all ≡ all_of_uses owner records v.uses)

abbrev pub ValuesAreByUses : Program → Type 0
ValuesAreByUses p = (records : List Recorded) (v : Carried numbers) → Arises p records v → IsByUses (owner_in p) records v

-- two values of a run with the same uses carry the same sets
abbrev pub EqualUsesEqualSets : Program → Type 0
EqualUsesEqualSets p =
    (records : List Recorded) (v w : Carried numbers) → Arises p records v → Arises p records w →
    v.uses ≡ w.uses → (v.from_data ≡ w.from_data) × (v.from_all ≡ w.from_all)
