-- Where an expression goes on, by the values that are on the stack: what is still to be done of it.
use Rattle.std.specs.Prelude.{ℕ, suc, pos, Bool, if◌then◌else◌, List, [], ◌∷◌, length, drop, Option, Some}
use Rattle.std.specs.Prelude.{None as Absent}
use Rattle.wy_kernel.specs.declared.operator.BinOp.{BinOp}
use Rattle.wy_kernel.specs.declared.operator.Primitive.{Primitive}
use Rattle.wy_kernel.specs.declared.types.Ty.{Ty}
use Rattle.wy_kernel.specs.declared.form.CallForm.TheVariants as form
use Rattle.wy_kernel.specs.Form.{Expression, Read, Set, Upd, Cond, New, NewArray, Call, Static}
use Rattle.wy_kernel.specs.Form as plain
use Rattle.wy_value.specs.declared.value.Value.TheVariants as val
use Rattle.wy_event.specs.declared.record.Kind.TheVariants as kind
use Rattle.wy_event.specs.declared.record.Slot.{Slot}
use Rattle.wy_event.specs.declared.record.Slot.TheVariants as slot
use Rattle.wy_steps.specs.Sets.{nothing}
use Rattle.wy_steps.specs.State.{Carried, Run, Around, go_on, ◌>>=◌, ◌>>◌, return, choose}
use Rattle.wy_steps.specs.Steps.{constant, joined, value_of, note, note_new, note_write, activating}
use Rattle.wy_meaning.specs.World.{World, plain, about, into, class_code, is_true, arm_of_truth, all_of}
use Rattle.wy_meaning.specs.Place.{Spot, fetch, store}
use Rattle.wy_meaning.specs.Text.{concatenated, shown}
use Rattle.wy_meaning.specs.Call.{construct}
use Rattle.wy_meaning.specs.Array.{set_elements, first_site}
use Rattle.wy_meaning.specs.Expression.{part_or, arm, eval, eval_part, eval_row}
use Rattle.wy_state.specs.Seen.{made_of}
use Rattle.wy_operation.specs.Spots.{spot_of}
use Rattle.wy_operation.specs.Updated.{updated}
use Rattle.wy_operation.specs.Words.{joined_texts}
use Rattle.wy_operands.specs.Values.{Values, top, under, at, under_many, last_many}
use Rattle.wy_work.specs.declared.task.ExprStep.{ExprStep}
use Rattle.wy_work.specs.declared.task.ExprStep.TheVariants as step
use Rattle.wy_work.specs.Operands.{Given, list_of, operands_of, operate}

-- a value comes on the stack, or what was done leaves it
abbrev pub put_on : Values → Given → Run nothing Values
put_on vs m = λ s. go_on (m s) (λ v. return (v ∷ vs))

abbrev pub leaving : Values → Run nothing (Unit {0}) → Run nothing Values
leaving vs m = λ s. go_on (m s) (λ u. return vs)

abbrev pub static_at : ℕ → Spot nothing
static_at f = spot_of (slot.Static f) (constant val.None)

module _ (w : World nothing) where
  -- the values of expressions come on the stack in order
  abbrev pub put_all : List Expression → Values → Run nothing Values
  put_all [] vs = return vs
  put_all (e ∷ es) vs = λ s. go_on (eval w e s) (λ v. put_all es (v ∷ vs))

  -- `op=`, `++` and `--`, once the old value and the right side are there
  abbrev pub update_rest : Spot nothing → BinOp → Carried nothing → Carried nothing → Ty → Option Primitive → Bool → ℕ → Given
  update_rest spot op old v ty Absent gives_old site = do
    text ← concatenated w site old v
    store w site spot text
  update_rest spot op old v ty (Some wide) gives_old site = do
    set ← updated w op ty wide site spot old v
    return (if gives_old then old else set)

  -- the same once the place is found
  abbrev pub updating : Spot nothing → BinOp → Given → Ty → Option Primitive → Bool → ℕ → Given
  updating spot op right ty wide gives_old site = do
    old ← fetch spot
    v ← right
    update_rest spot op old v ty wide gives_old site

  abbrev pub right_side : plain.Part → Given
  right_side value = part_or (val.Int (pos 1)) (eval_part w value)

  -- what an update does once its place is found
  abbrev pub updating_of : Expression → Spot nothing → Values → Run nothing Values
  updating_of (Upd place op value value_ty ty wide gives_old site) spot vs = put_on vs (updating spot op (right_side value) ty wide gives_old site)
  updating_of _ spot vs = return vs

  -- a new object, once its class is initialized
  abbrev pub created : ℕ → Option ℕ → plain.Row → ℕ → Given
  created c constructor args site = do
    e ← note_new w.program (about kind.New site (class_code c) val.None) (constant val.None)
    vs ← all_of (eval_row w args)
    construct w site constructor (value_of e (val.Object e.number)) vs
    return (value_of e (val.Object e.number))

  -- the test of `?:`, `&&` and `||` is there, and then the arm
  abbrev pub decided : Carried nothing → plain.Part → plain.Part → ℕ → Given
  decided v if_true if_false site = do
    e ← activating Around (note (plain kind.Test site (val.Arm (arm_of_truth (is_true v.value)))) v)
    choose (is_true v.value) (arm e v.value (eval_part w if_true)) (arm e v.value (eval_part w if_false))

  -- the elements of an array from an index on
  abbrev pub elements_from : ℕ → ℕ → List ℕ → plain.Row → Run nothing (Unit {0})
  elements_from array i sites elements = set_elements (made_of array) i (drop i sites) (drop i (eval_row w elements))

  abbrev pub element_set : ℕ → ℕ → List ℕ → Carried nothing → Run nothing (Unit {0})
  element_set array i sites v = do
    e ← note_write (into kind.Set (first_site (drop i sites)) (slot.Elem array i) v.value) (joined v.value (value_of (made_of array) (val.Object array)) v)
    return tt

  abbrev pub ready : Expression → Values → Run nothing Values
  ready (Read (Static f at)) vs = put_on vs (fetch (static_at f))
  ready (Set (Static f at) value site) vs = put_on (under vs) (store w site (static_at f) (top vs))
  ready (Upd (Static f at) op value value_ty ty wide gives_old site) vs = updating_of (Upd (Static f at) op value value_ty ty wide gives_old site) (static_at f) vs
  ready (New c constructor args site) vs = put_on vs (created c constructor args site)
  ready (Call form.Static m receiver ty args site) vs = put_on (under_many (length (list_of args)) vs) (w.call site m Absent (last_many (length (list_of args)) vs))
  ready _ vs = return vs

  abbrev pub assigned : Expression → Slot → Values → Run nothing Values
  assigned (Upd place op value value_ty ty wide gives_old site) x vs = put_on (under_many 3 vs) (update_rest (spot_of x (at 2 vs)) op (at 1 vs) (top vs) ty wide gives_old site)
  assigned _ x vs = return vs

  abbrev pub stored : Expression → Slot → Values → Run nothing Values
  stored (Upd place op value value_ty ty wide gives_old site) x vs = put_on (under_many 2 vs) (store w site (spot_of x (at 1 vs)) (top vs))
  stored _ x vs = return vs

  abbrev pub chosen_by : Expression → Values → Run nothing Values
  chosen_by (Cond f test if_true if_false site) vs = put_on (under vs) (decided (top vs) if_true if_false site)
  chosen_by _ vs = return vs

  abbrev pub constructed : Expression → Values → Run nothing Values
  constructed (New c constructor args site) vs = leaving (under_many (suc (length (list_of args))) vs) (construct w site constructor (at (length (list_of args)) vs) (last_many (length (list_of args)) vs))
  constructed _ vs = return vs

  abbrev pub filled_from : Expression → ℕ → ℕ → Values → Run nothing Values
  filled_from (NewArray ty dims elements sites site) array i vs = leaving vs (elements_from array i sites elements)
  filled_from _ array i vs = return vs

  abbrev pub filled_at : Expression → ℕ → ℕ → Values → Run nothing Values
  filled_at (NewArray ty dims elements sites site) array i vs = leaving (under vs) (element_set array i sites (top vs) >> elements_from array (suc i) sites elements)
  filled_at _ array i vs = return vs

  abbrev pub expr_step : Expression → ExprStep → Values → Run nothing Values
  expr_step e step.Find vs = put_on vs (eval w e)
  expr_step e step.Operate vs = put_on (under_many (length (operands_of e)) vs) (operate w e (last_many (length (operands_of e)) vs))
  expr_step e step.Ready vs = ready e vs
  expr_step e (step.Assign x) vs = assigned e x vs
  expr_step e (step.Store x) vs = stored e x vs
  expr_step e step.Decide vs = chosen_by e vs
  expr_step e step.Chosen vs = return (joined (top vs).value (at 1 vs) (top vs) ∷ under_many 2 vs)
  expr_step e step.Construct vs = constructed e vs
  expr_step e (step.Elements array i) vs = filled_from e array i vs
  expr_step e (step.Element array i) vs = filled_at e array i vs

  -- the text of the left operand of `+` is there
  abbrev pub showing_right : ℕ → Values → Run nothing Values
  showing_right site vs = put_on (under_many 3 vs) (do
    right ← shown w site (at 1 vs)
    joined_texts w site (top vs) right)
