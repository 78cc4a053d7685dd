-- When the entries of a run are active: each from its event to the end of its reach, not longer.
use Rattle.std.specs.Prelude.{◌≡◌, ◌<◌, ◌≤◌, ◌⊎◌, ℕ, suc, Bool, true, false, List, [], ◌∷◌, length, Option, Some}
use Rattle.std.specs.Prelude.{None as Absent}
use Rattle.std.specs.Prelude.{slice_get}
use Rattle.wy_kernel.specs.Form.{Expression, Part, Statement, Stmt}
use Rattle.wy_kernel.specs.Program.{Program}
use Rattle.wy_kernel.specs.Statements.{statements}
use Rattle.wy_event.specs.declared.record.Kind.{Kind}
use Rattle.wy_event.specs.declared.record.Kind.TheVariants as kind
use Rattle.wy_event.specs.Record.{Recorded}
use Rattle.wy_steps.specs.Sets.{Sets}
use Rattle.wy_steps.specs.State.{Carried, Noted, Reach, Around, Through, Active, State, Done, Run, return}
use Rattle.wy_steps.specs.Steps.{event_in, parent, ends_with}
use Rattle.wy_steps.specs.Laws.{IfDone}
use Rattle.wy_meaning.specs.World.{World}
use Rattle.wy_meaning.specs.Expression.{conditional, eval, eval_part}
use Rattle.wy_meaning.specs.Statement.{tested, Clause, caught, number_of, exec}
use Rattle.wy_meaning.specs.Run.{world, outcome, end, events}

-- ---- in the records

-- a Call or an Init runs a body
unfoldable pub runs_body : Kind → Bool
runs_body kind.Call = true
runs_body kind.Init = true
runs_body _ = false

-- record n is there, and was recorded by a body
pub record IsOf (records : List Recorded) (frame : Option ℕ) (n : ℕ) : Type 0 where
  pub event : Recorded
  pub there : slice_get records n ≡ Some event
  pub of_body : event.frame ≡ frame

-- what controls an event of a body is the Call or Init of that body, or an event of that body; only
-- what no body recorded has no control parent
abbrev pub IsControlOf : List Recorded → Option ℕ → Option ℕ → Type 0
IsControlOf records frame Absent = frame ≡ Absent
IsControlOf records frame (Some control) = (frame ≡ Some control) ⊎ IsOf records frame control

abbrev pub ControlIsOfTheBody : Sets → Program → Type 0
ControlIsOfTheBody A p =
    (input : List ℕ) (budget n : ℕ) (e : Recorded) →
    slice_get (events A p input budget) n ≡ Some e →
    IsControlOf (events A p input budget) e.frame e.control

-- ---- at the end

-- nothing is active when a run has ended, however it ended
abbrev pub NothingIsActiveAtTheEnd : Sets → Program → Type 0
NothingIsActiveAtTheEnd A p =
    (input : List ℕ) (budget : ℕ) → (end (outcome {A = A} p input budget)).active ≡ []

-- ---- in each part of a run

abbrev pub IsAmong : {A : Sets} → Active A → List (Active A) → Type 0
IsAmong a [] = ⊥
IsAmong a (b ∷ rest) = (b ≡ a) ⊎ IsAmong a rest

-- the newest first, and all below a number
abbrev pub AreInOrder : {A : Sets} → ℕ → List (Active A) → Type 0
AreInOrder n [] = Unit {0}
AreInOrder n (a ∷ rest) = (a.number < n) × AreInOrder a.number rest

-- the entries of a state are in order, behind all its events
abbrev pub IsInOrder : {A : Sets} → State A → Type 0
IsInOrder s = AreInOrder (length s.noted) s.active

abbrev pub IsFrom : ℕ → Option ℕ → Type 0
IsFrom k Absent = ⊥
IsFrom k (Some control) = k ≤ control

-- what was recorded from a moment on is controlled by event k or a later one
abbrev pub IsControlledBy : {A : Sets} → ℕ → ℕ → List (Noted A) → Type 0
IsControlledBy k moment noted =
    (n : ℕ) (e : Recorded) → moment ≤ n → event_in noted n ≡ Some e → IsFrom k e.control

-- one of these statements is such
abbrev pub OneOf : List Statement → (Statement → Type 0) → Type 0
OneOf [] Q = ⊥
OneOf (x ∷ rest) Q = Q x ⊎ OneOf rest Q

abbrev pub IsNumberOf : List Statement → ℕ → Type 0
IsNumberOf xs n = OneOf xs (λ x. n ≡ number_of x)

abbrev pub statement_reach : Statement → ℕ
statement_reach (Stmt number site askable reach act) = reach

-- how far the test of one of these statements reaches, or the Catch of a clause whose block it is
abbrev pub IsReachOf : List Statement → ℕ → Type 0
IsReachOf xs n = OneOf xs (λ x. (n ≡ statement_reach x) ⊎ (n ≡ number_of x))

-- such a reach in a body
abbrev pub IsThroughOneOf : List Statement → Option ℕ → Reach → Type 0
IsThroughOneOf xs frame Around = ⊥
IsThroughOneOf xs frame (Through f n) = (f ≡ frame) × IsReachOf xs n

-- an entry that reaches through no statement that is x or stands in it
abbrev pub Outlasts : {A : Sets} → Statement → State A → Active A → Type 0
Outlasts x s a = (n : ℕ) → IsNumberOf (statements x) n → ends_with s.frame n a.reach ≡ false

-- an event since the start of x, with a reach of x or of a statement in it
abbrev pub IsNew : {A : Sets} → Statement → State A → Active A → Type 0
IsNew x s a = (length s.noted ≤ a.number) × IsThroughOneOf (statements x) s.frame a.reach

-- from the start of a statement to its end: such an entry stays active, and what is recorded
-- meanwhile is controlled by it or a later event; what is added is new; the entries stay in order
pub record KeepsEntries {A : Sets} (x : Statement) (s t : State A) : Type 0 where
  pub stays : (a : Active A) → IsAmong a s.active → Outlasts x s a → IsAmong a t.active
  pub controls : (a : Active A) → IsAmong a s.active → Outlasts x s a → IsInOrder s →
      IsControlledBy a.number (length s.noted) t.noted
  pub added : (a : Active A) → IsAmong a t.active → IsAmong a s.active ⊎ IsNew x s a
  pub order : IsInOrder s → IsInOrder t

abbrev pub StatementsKeepEntries : Sets → Program → Type 0
StatementsKeepEntries A p =
    (depth : ℕ) (x : Statement) (s : State A) → KeepsEntries x s (end (exec (world p depth) x s))

-- where a statement started, no entry that reaches through it is active after it
abbrev pub EntriesEndWithTheirReach : Sets → Program → Type 0
EntriesEndWithTheirReach A p =
    (depth : ℕ) (x : Statement) (s : State A) (left : ℕ) → s.left ≡ suc left →
    (a : Active A) → IsAmong a (end (exec (world p depth) x s)).active →
    ends_with s.frame (number_of x) a.reach ≡ false

-- after an expression, however it ended, the same entries are active as before it, and what is
-- recorded meanwhile is controlled by each of them or a later event
pub record AddsNoEntry {A : Sets} (s t : State A) : Type 0 where
  pub same : t.active ≡ s.active
  pub controls : (a : Active A) → IsAmong a s.active → IsInOrder s →
      IsControlledBy a.number (length s.noted) t.noted
  pub order : IsInOrder s → IsInOrder t

abbrev pub ExpressionsAddNoEntry : Sets → Program → Type 0
ExpressionsAddNoEntry A p =
    (depth : ℕ) (e : Expression) (s : State A) → AddsNoEntry s (end (eval (world p depth) e s))

abbrev pub IsGreatest : {A : Sets} → Option ℕ → List (Active A) → Type 0
IsGreatest Absent entries = entries ≡ []
IsGreatest {A = A} (Some control) entries = (a : Active A) → IsAmong a entries → a.number ≤ control

-- while they are in order, the control parent that an event gets is the greatest active event
abbrev pub TheParentIsTheGreatest : Sets → Type 0
TheParentIsTheGreatest A = (s : State A) → IsInOrder s → IsGreatest (parent s.active) s.active

-- the last event is active, and reaches so; besides, the same entries are active as before
pub record BecameActive {A : Sets} (reach : Reach) (s t : State A) : Type 0 where
  pub entry : Active A
  pub active : t.active ≡ entry ∷ s.active
  pub last : suc entry.number ≡ length t.noted
  pub reaches : entry.reach ≡ reach

-- the Test of a statement is active from its event on, and reaches to the end of the statement that
-- it names
abbrev pub TestsBecomeActive : Sets → Program → Type 0
TestsBecomeActive A p =
    (depth : ℕ) (e : Expression) (site reach : ℕ) (s : State A) →
    IfDone (tested site reach (eval (world p depth) e) s)
    (λ b t. BecameActive (Through s.frame reach) s t)

-- the Catch of a clause is active from its event on, and reaches to the end of its block
abbrev pub CatchesBecomeActive : Sets → Type 0
CatchesBecomeActive A =
    (c : Clause A) (v : Carried A) (s : State A) →
    IfDone (caught (record c { block = return tt }) v s)
    (λ u t. BecameActive (Through s.frame c.number) s t)

abbrev pub choice : {A : Sets} → World A → Expression → Part → Part → ℕ → Run A (Carried A)
choice w test a b site = conditional (eval w test) (eval_part w a) (eval_part w b) site

-- the Test of `?:`, `&&` or `||` follows the condition, and what the arm that it chose records is
-- controlled by it or a later event (JLS 15.23 to 15.25)
abbrev pub ArmsAreControlledByTheirTest : Sets → Program → Type 0
ArmsAreControlledByTheirTest A p =
    (depth : ℕ) (test : Expression) (a b : Part) (site : ℕ) (s t : State A) (v : Carried A) →
    eval (world p depth) test s ≡ Done v t → IsInOrder s →
    IsControlledBy (length t.noted) (suc (length t.noted))
    (end (choice (world p depth) test a b site s)).noted
