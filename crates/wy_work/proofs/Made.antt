-- What is made of a row of operands: operations of the library, and arrays by their dimensions.
use Rattle.std.proofs.Common.{◌≡◌, ◌∙◌, ℕ, List, ◌∷◌, map, ap, sym, subst, Err}
use Rattle.wy_kernel.specs.Program.{Program}
use Rattle.wy_kernel.specs.declared.form.LibOp.{LibOp}
use Rattle.wy_kernel.specs.declared.types.Ty.{Ty}
use Rattle.wy_value.specs.declared.value.Value.{Value}
use Rattle.wy_value.specs.declared.value.Value.TheVariants as val
use Rattle.wy_event.specs.declared.record.Use.{Use}
use Rattle.wy_steps.specs.Sets.{nothing}
use Rattle.wy_steps.specs.State.{State, Carried, return}
use Rattle.wy_steps.specs.Steps.{joined_all}
use Rattle.wy_meaning.specs.World.{World}
use Rattle.wy_meaning.specs.Run.{world}
use Rattle.wy_meaning.specs.Array.{create_array}
use Rattle.wy_meaning.specs.Library.{library}
use Rattle.wy_state.specs.declared.parts.Halt.{Halt}
use Rattle.wy_state.specs.Agrees.{Shape, Onward, StepGives}
use Rattle.wy_state.specs.Seen.{given, valued}
use Rattle.wy_state.proofs.Onward.{onward_as}
use Rattle.wy_operation.specs.Around.{IsSameAround, KeepsAt}
use Rattle.wy_operation.proofs.Runs.{answers_as}
use Rattle.wy_operands.specs.Values.{Values, last_many, under_many, uses_of_last, joined_last, with_event}
use Rattle.wy_operation.specs.Found.{found_of}
use Rattle.wy_operation.specs.declared.texts.found.Found.{Found}
use Rattle.wy_operation.specs.declared.texts.found.Found.TheVariants.{Same, Made}
use Rattle.wy_work.specs.Expressions.{put_on}
use Rattle.wy_work.specs.Tasks.{MachineState, then_all, goes, Resumed}
use Rattle.wy_work.proofs.Runs.{failed_at, gave_at, world_program}

module _ (p : Program) (m : MachineState) (s : Shape) (us : Values) (site count : ℕ) (row : List (Carried nothing)) (used : List Use) (is : row ≡ last_many count m.values) (joins : used ≡ (joined_all (last_many count m.values)).uses) where
  join_all : (joined_all row).uses ≡ used
  join_all = ap (λ r. (joined_all r).uses) is ∙ sym joins

  module _ (op : LibOp) where
    library_is : (w : World nothing) (at : State nothing) → library w op site (last_many count m.values) at ≡ library w op site row at
    library_is w at = ap (λ r. library w op site r at) (sym is)

    pub library_same : (found : Found) (v : Value) → found ≡ Same v → used ≡ uses_of_last count m.values → ((w : World nothing) → w.program ≡ p → (joined_all row).uses ≡ used → Onward p m.state (library w op site row) s (return (found_of used found))) → IsSameAround m.state.calls s.calls → us ≡ joined_last count v m.values →
        Onward p m.state (then_all p m (put_on (under_many count m.values) (library (world p m.depth) op site (last_many count m.values)))) s (goes p (record m { state = s; values = us }))
    library_same found v found_is u a same values =
        gave_at p m s us _ (given v used) (under_many count m.values) (onward_as (library_is (world p m.depth)) (subst (λ z. Onward p m.state (library (world p m.depth) op site row) s (return (found_of used z))) found_is (a (world p m.depth) (world_program p m.depth) join_all))) same
        (values ∙ ap (λ x. given v x ∷ under_many count m.values) (sym u))

    pub library_made : (found : Found) (v : Value) (e : ℕ) → found ≡ Made v e → ((w : World nothing) → w.program ≡ p → (joined_all row).uses ≡ used → Onward p m.state (library w op site row) s (return (found_of used found))) → IsSameAround m.state.calls s.calls → us ≡ with_event count v e m.values →
        Onward p m.state (then_all p m (put_on (under_many count m.values) (library (world p m.depth) op site (last_many count m.values)))) s (goes p (record m { state = s; values = us }))
    library_made found v e found_is a same values =
        gave_at p m s us _ (valued e v) (under_many count m.values) (onward_as (library_is (world p m.depth)) (subst (λ z. Onward p m.state (library (world p m.depth) op site row) s (return (found_of used z))) found_is (a (world p m.depth) (world_program p m.depth) join_all))) same values

    pub library_failed : (e : Halt) → ((w : World nothing) → w.program ≡ p → (joined_all row).uses ≡ used → StepGives p (found_of used) (Err e) m.state (library w op site row) s) → KeepsAt e m.state.calls s.calls →
        Resumed p (then_all p m (put_on (under_many count m.values) (library (world p m.depth) op site (last_many count m.values)))) m.state (Err e) (record m { state = s; values = us })
    library_failed e a same =
        failed_at p m s us _ (λ v. return (v ∷ under_many count m.values)) (found_of used) e (λ x. return us)
        (answers_as p (found_of used) (Err e) m.state s _ _ (library_is (world p m.depth)) (a (world p m.depth) (world_program p m.depth) join_all)) same

  module _ (ty : Ty) where
    arrays_is : (w : World nothing) (at : State nothing) → create_array w ty (map return (last_many count m.values)) site at ≡ create_array w ty (map return row) site at
    arrays_is w at = ap (λ r. create_array w ty (map return r) site at) (sym is)

    pub arrays_made : (e : ℕ) → ((q : Program) (w : World nothing) → (joined_all row).uses ≡ used → w.program ≡ q → Onward q m.state (create_array w ty (map return row) site) s (return (valued e (val.Object e)))) → IsSameAround m.state.calls s.calls → us ≡ with_event count (val.Object e) e m.values →
        Onward p m.state (then_all p m (put_on (under_many count m.values) (create_array (world p m.depth) ty (map return (last_many count m.values)) site))) s (goes p (record m { state = s; values = us }))
    arrays_made e a same values =
        gave_at p m s us _ (valued e (val.Object e)) (under_many count m.values) (onward_as (arrays_is (world p m.depth)) (a p (world p m.depth) join_all (world_program p m.depth))) same values

    pub arrays_failed : (e : Halt) → ((q : Program) (w : World nothing) → (joined_all row).uses ≡ used → w.program ≡ q → StepGives {X = ℕ} q (λ n. valued n (val.Object n)) (Err e) m.state (create_array w ty (map return row) site) s) → KeepsAt e m.state.calls s.calls →
        Resumed p (then_all p m (put_on (under_many count m.values) (create_array (world p m.depth) ty (map return (last_many count m.values)) site))) m.state (Err e) (record m { state = s; values = us })
    arrays_failed e a same =
        failed_at p m s us _ (λ v. return (v ∷ under_many count m.values)) (λ (n : ℕ). valued n (val.Object n)) e (λ x. return us)
        (answers_as p (λ (n : ℕ). valued n (val.Object n)) (Err e) m.state s _ _ (arrays_is (world p m.depth)) (a p (world p m.depth) join_all (world_program p m.depth))) same
