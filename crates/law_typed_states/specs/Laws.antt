-- States are typed: in every run of a program that fits its types each value in a local, a field or an element, and of each expression, is of
-- its type.
use Rattle.std.specs.Prelude.{◌≡◌, ◌↔◌, ℕ, true, List, Option, Some, option_and_then, slice_get}
use Rattle.std.specs.Prelude.{None as Absent}
use Rattle.wy_kernel.specs.declared.types.Ty.{Ty}
use Rattle.wy_kernel.specs.Form.{Expression, Statement}
use Rattle.wy_kernel.specs.Program.{Program, Method, is_below, is_subclass}
use Rattle.wy_kernel.specs.Subtyping.{IsReference, Below, class_type}
use Rattle.wy_kernel.specs.Builtin.{throwable_class}
use Rattle.wy_steps.specs.Sets.{Sets}
use Rattle.wy_steps.specs.State.{Noted, State, Reason, Jumped, Returned, Threw, Outcome, Done, Left, Stopped}
use Rattle.wy_meaning.specs.Expression.{eval}
use Rattle.wy_meaning.specs.Statement.{exec}
use Rattle.wy_meaning.specs.Run.{world, outcome, end}
use Rattle.wy_typing.specs.Expressions.{HasType, IsMethod}
use Rattle.wy_typing.specs.Programs.{result_of}
use Rattle.wy_typing.specs.Statements.{Within, IsTyped}
use Rattle.law_induction.specs.Law.{FrameKind, OfCall, OfInit}
use Rattle.law_typed_states.specs.Typed.{Is, Runs, local_types, IsTypedState}

-- the body runs in the frame of the state
pub record RunsIn {A : Sets} (i : FrameKind) (s : State A) : Type 0 where
  pub number : ℕ
  pub frame : s.frame ≡ Some number
  pub runs : Runs s.noted number i

-- why a part of the body is left: what is thrown is a Throwable, and what is given back is of the result of the method; an initializer
-- gives nothing back
abbrev pub IsTypedReason : {A : Sets} → Program → List (Noted A) → FrameKind → Reason A → Type 0
IsTypedReason p noted i (Jumped target e) = Unit {0}
IsTypedReason p noted (OfCall m) (Returned e v) = (md : Method) → IsMethod p m md → Is p noted md.result v.value
IsTypedReason p noted (OfInit c) (Returned e v) = ⊥
IsTypedReason p noted i (Threw e v) = Is p noted (class_type throwable_class) v.value

-- a part of a run of the body ends in a typed state of it, whichever way it ends, and this is known of what it gives
abbrev pub EndsTyped : {A : Sets} {X : Type 0} → Program → FrameKind → (List (Noted A) → X → Type 0) → Outcome A X → Type 0
EndsTyped p i Q (Done x s) = IsTypedState p s × RunsIn i s × Q s.noted x
EndsTyped p i Q (Left why s) = IsTypedState p s × RunsIn i s × IsTypedReason p s.noted i why
EndsTyped p i Q (Stopped why s) = IsTypedState p s × RunsIn i s

-- from each typed state of a body each expression of it, at whatever depth of calls, gives a value of each type that it has
abbrev pub ExpressionsAreTyped : Sets → Program → Type 0
ExpressionsAreTyped A p =
    (depth : ℕ) (i : FrameKind) (e : Expression) (ty : Ty) (s : State A) → HasType p (local_types p i) e ty → IsTypedState p s → RunsIn i s
    → EndsTyped p i (λ noted v. Is p noted ty v.value) (eval (world p depth) e s)

-- the type of what a body gives back, where it may have a `return`
abbrev pub result_in : Program → FrameKind → Option Ty
result_in p (OfCall m) = option_and_then (λ (md : Method). result_of md.form md.result) (slice_get p.methods m)
result_in p (OfInit c) = Absent

abbrev pub within_body : Program → FrameKind → Within
within_body p i = record { program = p; locals = local_types p i; result = result_in p i }

-- and each statement of it leads to such states alone
abbrev pub StatementsAreTyped : Sets → Program → Type 0
StatementsAreTyped A p =
    (depth : ℕ) (i : FrameKind) (x : Statement) (s : State A) → IsTyped (within_body p i) x → IsTypedState p s → RunsIn i s
    → EndsTyped p i (λ noted t. Unit {0}) (exec (world p depth) x s)

-- a run ends in a typed state: so was the store before each of its events
abbrev pub RunsAreTyped : Sets → Program → Type 0
RunsAreTyped A p = (input : List ℕ) (budget : ℕ) → IsTypedState p (end (outcome {A = A} p input budget))

pub record StatesAreTyped (A : Sets) (p : Program) : Type 0 where
  pub runs : RunsAreTyped A p
  pub expressions : ExpressionsAreTyped A p
  pub statements : StatementsAreTyped A p

-- ---- the two subtypings

-- what a run finds of a run-time type, which is a reference, and of two classes is what the relation of types says
pub record TestsAreExact (p : Program) : Type 0 where
  pub types : (a b : Ty) → IsReference a → (is_below p a b ≡ true ↔ IsReference b × Below p.classes a b)
  pub classes : (c d : ℕ) → (is_subclass p c d ≡ true ↔ Below p.classes (class_type c) (class_type d))
