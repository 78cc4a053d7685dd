-- What operators give, once their operands are there.
use Rattle.std.proofs.Common.{◌≡◌, ◌∙◌, ℕ, List, ◌∷◌, refl, ap, sym, Err}
use Rattle.wy_kernel.specs.Program.{Program}
use Rattle.wy_meaning.specs.Run.{world}
use Rattle.wy_state.specs.declared.parts.Halt.{Halt}
use Rattle.wy_state.specs.Agrees.{Shape, Onward, StepGives}
use Rattle.wy_state.specs.Seen.{given}
use Rattle.wy_state.proofs.Onward.{onward_as}
use Rattle.wy_operation.specs.Around.{IsSameAround, KeepsAt}
use Rattle.wy_operation.proofs.Runs.{answers_as}
use Rattle.wy_work.specs.Expressions.{put_on}
use Rattle.wy_work.specs.Tasks.{MachineState, then_all, goes, Resumed}
use Rattle.wy_work.proofs.Runs.{failed_at, gave_at, world_program}
use Rattle.wy_kernel.specs.declared.operator.BinOp.{BinOp}
use Rattle.wy_value.specs.declared.value.Value.{Value}
use Rattle.wy_value.specs.declared.value.Value.TheVariants.{None as Nothing}
use Rattle.wy_value.specs.Operator.{binary_of}
use Rattle.wy_event.specs.declared.record.Use.{Use}
use Rattle.wy_steps.specs.Sets.{nothing}
use Rattle.wy_steps.specs.State.{State, Carried, ◌>>=◌, go_on, return}
use Rattle.wy_steps.specs.Steps.{joined}
use Rattle.wy_meaning.specs.World.{World}
use Rattle.wy_meaning.specs.Place.{divided}
use Rattle.wy_meaning.specs.Expression.{binary}
use Rattle.wy_operands.specs.Values.{Values, at, top, under_many, uses_of_last, joined_last}
use Rattle.wy_operation.specs.Operands.{Pair}

pub binary_is : (w : World nothing) (op : BinOp) (a b : Carried nothing) (left right : Value) (site : ℕ) → left ≡ a.value → right ≡ b.value → (s : State nothing) →
    binary w op (return a) (return b) site s ≡ divided w site (joined Nothing a b) (binary_of op left right) s
unfolding binary ◌>>=◌ go_on return
binary_is w op a b left right site l r s = rw (l, r) refl

-- the last two values with their uses
abbrev pub last_pair : (vs : Values) (left right : Value) (us : List Use) → left ≡ (at 1 vs).value → right ≡ (top vs).value → us ≡ uses_of_last 2 vs → Pair left right us
last_pair vs left right us l r is = record { first = at 1 vs; second = top vs; is_left = sym l; is_right = sym r; are_joined = sym is }

-- what the machine does with its last two values by an operator
module _ (p : Program) (m : MachineState) (s : Shape) (us : Values) (op : BinOp) (left right : Value) (used : List Use) (site : ℕ) (l : left ≡ (at 1 m.values).value) (r : right ≡ (top m.values).value) (u : used ≡ uses_of_last 2 m.values) where
  pub binary_went : (v : Value) → ((w : World nothing) (o : Pair left right used) → w.program ≡ p → Onward p m.state (divided w site (joined Nothing o.first o.second) (binary_of op left right)) s (return (given v used))) → IsSameAround m.state.calls s.calls → us ≡ joined_last 2 v m.values →
      Onward p m.state (then_all p m (put_on (under_many 2 m.values) (binary (world p m.depth) op (return (at 1 m.values)) (return (top m.values)) site))) s (goes p (record m { state = s; values = us }))
  binary_went v a same values =
      gave_at p m s us _ (given v used) (under_many 2 m.values) (onward_as (binary_is (world p m.depth) op (at 1 m.values) (top m.values) left right site l r) (a (world p m.depth) (last_pair m.values left right used l r u) (world_program p m.depth))) same
      (values ∙ ap (λ x. given v x ∷ under_many 2 m.values) (sym u))

  pub binary_failed : (e : Halt) → ((w : World nothing) (o : Pair left right used) → w.program ≡ p → StepGives p (λ v. given v used) (Err e) m.state (divided w site (joined Nothing o.first o.second) (binary_of op left right)) s) → KeepsAt e m.state.calls s.calls →
      Resumed p (then_all p m (put_on (under_many 2 m.values) (binary (world p m.depth) op (return (at 1 m.values)) (return (top m.values)) site))) m.state (Err e) (record m { state = s; values = us })
  binary_failed e a same =
      failed_at p m s us _ (λ v. return (v ∷ under_many 2 m.values)) (λ v. given v used) e (λ x. return us)
      (answers_as p (λ v. given v used) (Err e) m.state s _ _ (binary_is (world p m.depth) op (at 1 m.values) (top m.values) left right site l r) (a (world p m.depth) (last_pair m.values left right used l r u) (world_program p m.depth))) same
