-- What the covers of a run count of each statement: how often it began and ended normally, and when
-- it began first.
use Rattle.std.specs.Prelude.{◌≡◌, ◌≤◌, ◌+◌, ℕ, suc, false, nat_eq, List, [], ◌∷◌, length, Option, Some}
use Rattle.std.specs.Prelude.{slice_get, None as Absent}
use Rattle.wy_kernel.specs.Form.{Expression, Statement, Stmt}
use Rattle.wy_kernel.specs.Program.{Program}
use Rattle.wy_steps.specs.Sets.{Sets}
use Rattle.wy_steps.specs.State.{Covered, State, Outcome, Done, Left, Stopped, Run}
use Rattle.wy_steps.specs.Steps.{going_on, never_left, event_of, stop_cause}
use Rattle.wy_meaning.specs.World.{World}
use Rattle.wy_meaning.specs.Expression.{eval}
use Rattle.wy_meaning.specs.Statement.{number_of, exec, exec_act}
use Rattle.wy_meaning.specs.Run.{world, end, tail}

-- ---- at the end of a run

-- what holds of the cover of each statement at the end of every run
abbrev pub AtTheEnd : Sets → Program → (ℕ → Covered → Type 0) → Type 0
AtTheEnd A p Q =
    (input : List ℕ) (budget number : ℕ) (c : Covered) →
    slice_get (tail A p input budget).coverage number ≡ Some c →
    Q (tail A p input budget).stop c

-- it ended normally as often as it began exactly where nothing ever left it
pub record Balances (stop : ℕ) (c : Covered) : Type 0 where
  pub all_ended : c.begins ≡ c.ends → c.cause ≡ never_left
  pub not_left : c.cause ≡ never_left → c.begins ≡ c.ends

-- it was still going on only where the run was stopped, and not by a failed initialization
abbrev pub GoesOnOnlyAtAStop : ℕ → Covered → Type 0
GoesOnOnlyAtAStop stop c = c.cause ≡ going_on → (2 ≤ stop) × (stop ≤ 10)

abbrev pub begins_in : List Covered → ℕ
begins_in [] = 0
begins_in (c ∷ rest) = c.begins + begins_in rest

-- each begin took a step: all statements together began at most as often as the run took steps
abbrev pub EachBeginTakesAStep : Sets → Program → Type 0
EachBeginTakesAStep A p =
    (input : List ℕ) (budget : ℕ) →
    begins_in (tail A p input budget).coverage ≤ (tail A p input budget).steps

-- ---- in each execution of a statement

-- the state as if no statement had begun so far
abbrev pub anew : {A : Sets} → State A → State A
anew s = record s { coverage = λ n. record (s.coverage n) { begins = 0; ends = 0; first = Absent } }

-- what a part of a run counts of statement n, from a state on
abbrev pub counted : {A : Sets} {X : Type 0} → Run A X → State A → ℕ → Covered
counted m s n = (end (m (anew s))).coverage n

abbrev pub earlier : Option ℕ → Option ℕ → Option ℕ
earlier (Some moment) later = Some moment
earlier Absent later = later

-- what was counted later, added to what was counted before it
abbrev pub added : Covered → Covered → Covered
added before c = record c {
  begins = c.begins + before.begins;
  ends = c.ends + before.ends;
  first = earlier before.first c.first;
}

-- what a part of a run counts, it adds to what was counted before it, whatever that was
abbrev pub AddsWhatItCounts : {A : Sets} {X : Type 0} → Run A X → Type 0
AddsWhatItCounts {A = A} m =
    (s : State A) (n : ℕ) → (end (m s)).coverage n ≡ added (s.coverage n) (counted m s n)

abbrev pub StatementsAddWhatTheyCount : Sets → Program → Type 0
StatementsAddWhatTheyCount A p =
    (depth : ℕ) (x : Statement) → AddsWhatItCounts (exec {A = A} (world p depth) x)

-- an expression counts what the bodies that it calls count
abbrev pub ExpressionsAddWhatTheyCount : Sets → Program → Type 0
ExpressionsAddWhatTheyCount A p =
    (depth : ℕ) (e : Expression) → AddsWhatItCounts (eval {A = A} (world p depth) e)

-- what stands in a statement
abbrev pub inside : {A : Sets} → World A → Statement → Run A Unit
inside w (Stmt number site askable reach act) = exec_act w site reach act

abbrev pub one_if_done : {A : Sets} {X : Type 0} → Outcome A X → ℕ
one_if_done (Done x s) = 1
one_if_done (Left why s) = 0
one_if_done (Stopped why s) = 0

-- what left a statement that ended so, else what had left it before
abbrev pub last_cause : {A : Sets} {X : Type 0} → Outcome A X → ℕ → ℕ
last_cause (Done x s) before = before
last_cause (Left why s) before = event_of why
last_cause (Stopped why s) before = stop_cause why

-- a statement that began at a moment and ended so counts one begin, and one end exactly if it ended
-- normally, besides what stands in it
pub record CountsOnce {A : Sets} (n moment : ℕ) (o : Outcome A Unit) (whole within : ℕ → Covered)
    : Type 0 where
  pub begins : (whole n).begins ≡ suc (within n).begins
  pub ends : (whole n).ends ≡ one_if_done o + (within n).ends
  pub first : (whole n).first ≡ Some moment
  pub cause : (whole n).cause ≡ last_cause o (within n).cause
  pub others : (other : ℕ) → nat_eq other n ≡ false → whole other ≡ within other

-- a statement that starts takes a step and begins at the number of the events that there are; what
-- stands in it follows
abbrev pub EachStartCountsOnce : Sets → Program → Type 0
EachStartCountsOnce A p =
    (depth : ℕ) (x : Statement) (s : State A) (left : ℕ) → s.left ≡ suc left →
    CountsOnce (number_of x) (length s.noted) (exec (world p depth) x s)
    (counted (exec (world p depth) x) s)
    (counted (inside (world p depth) x) (record s { left = left }))

-- without a step it does not start, and counts nothing
abbrev pub NothingCountsWithoutAStep : Sets → Program → Type 0
NothingCountsWithoutAStep A p =
    (depth : ℕ) (x : Statement) (s : State A) → s.left ≡ 0 →
    (end (exec (world p depth) x s)).coverage ≡ s.coverage
