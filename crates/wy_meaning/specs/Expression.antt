-- What an expression does (JLS 15): each form by what its parts do, and the recursion on the forms. Each start of a form takes one step.
use Rattle.std.specs.Prelude.{ℕ, pos, Bool, false, if◌then◌else◌, List, [], ◌∷◌, Option, Some}
use Rattle.std.specs.Prelude.{None as Absent}
use Rattle.wy_kernel.specs.declared.operator.Primitive.{Primitive}
use Rattle.wy_kernel.specs.declared.operator.BinOp.{BinOp}
use Rattle.wy_kernel.specs.declared.operator.UnOp.{UnOp}
use Rattle.wy_kernel.specs.declared.types.Ty.{Ty}
use Rattle.wy_kernel.specs.declared.form.CallForm.{CallForm}
use Rattle.wy_kernel.specs.declared.form.CallForm.TheVariants as form
use Rattle.wy_kernel.specs.Form.{Constant, Null, Truth, Byte, Short, Char, Int, Long, Expression, Const, Str, Read, Set, Upd, Un, Bin, Conv, Cast, InstanceOf, Cond, New, NewArray, Call, Cat, Lib, Place, Local, Static, Field, Elem, Part, absent, the, Row, none, more}
use Rattle.wy_kernel.specs.Program.{is_below}
use Rattle.wy_value.specs.declared.value.Value.{Value}
use Rattle.wy_value.specs.declared.value.Value.TheVariants as val
use Rattle.wy_value.specs.Operator.{binary_of, unary_of}
use Rattle.wy_value.specs.Conversion.{converted}
use Rattle.wy_event.specs.declared.record.Kind.TheVariants as kind
use Rattle.wy_steps.specs.Sets.{Sets}
use Rattle.wy_steps.specs.State.{Carried, Run, Around, ◌>>=◌, ◌>>◌, return, choose}
use Rattle.wy_steps.specs.Steps.{Made, constant, joined, with_value, value_of, chosen, tick, note, activating, scoped}
use Rattle.wy_meaning.specs.World.{World, plain, fail, class_cast, is_true, arm_of_truth, is_null, type_of}
use Rattle.wy_meaning.specs.Place.{Located, AtLocal, AtStatic, AtField, AtElem, read_place, set_place, update_place, divided}
use Rattle.wy_meaning.specs.Text.{cat, append_place}
use Rattle.wy_meaning.specs.Call.{call_on, call_static, create}
use Rattle.wy_meaning.specs.Array.{new_array}
use Rattle.wy_meaning.specs.Library.{library_form}

unfoldable pub constant_value : Constant → Value
constant_value Null = val.Null
constant_value (Truth b) = val.Bool b
constant_value (Byte z) = val.Byte z
constant_value (Short z) = val.Short z
constant_value (Char n) = val.Char n
constant_value (Int z) = val.Int z
constant_value (Long z) = val.Long z

-- the part, or nothing
unfoldable pub part_or : {A : Sets} → Value → Option (Run A (Carried A)) → Run A (Carried A)
part_or v Absent = return (constant v)
part_or v (Some m) = m

-- `op=`, `++` and `--`: the last two add and take away one; without a type of the operation it is `+=` on a text
unfoldable pub update : {A : Sets} → World A → Located A → BinOp → Run A (Carried A) → Ty → Option Primitive → Bool → ℕ → Run A (Carried A)
update w place op right ty Absent gives_old site = append_place w place right site
update w place op right ty (Some wide) gives_old site = update_place w place op right ty wide gives_old site

unfoldable pub unary : {A : Sets} → UnOp → Run A (Carried A) → Run A (Carried A)
unary op operand = do
  v ← operand
  return (with_value (unary_of op v.value) v)

-- both operands before the operation (JLS 15.7)
unfoldable pub binary : {A : Sets} → World A → BinOp → Run A (Carried A) → Run A (Carried A) → ℕ → Run A (Carried A)
binary w op left right site = do
  a ← left
  b ← right
  divided w site (joined val.None a b) (binary_of op a.value b.value)

unfoldable pub convert : {A : Sets} → Primitive → Run A (Carried A) → Run A (Carried A)
convert to operand = do
  v ← operand
  return (with_value (converted to v.value) v)

-- null may be cast to each reference type (JLS 15.16)
unfoldable pub cast : {A : Sets} → World A → Ty → Run A (Carried A) → ℕ → Run A (Carried A)
cast w ty operand site = do
  v ← operand
  found ← type_of v.value
  choose (is_null v.value) (return v) (choose (is_below w.program found ty) (return v) (fail w class_cast site v))

-- null is an instance of nothing (JLS 15.20.2)
unfoldable pub instance_of : {A : Sets} → World A → Ty → Run A (Carried A) → Run A (Carried A)
instance_of w ty operand = do
  v ← operand
  found ← type_of v.value
  return (with_value (val.Bool (if is_null v.value then false else is_below w.program found ty)) v)

-- the arm that was chosen; an empty one has the value of the condition
unfoldable pub arm : {A : Sets} → Made A → Value → Option (Run A (Carried A)) → Run A (Carried A)
arm e v Absent = return (value_of e v)
arm e v (Some m) = do
  c ← m
  return (chosen e c)

-- `?:`, `&&` and `||`: the Test is active in the whole expression (JLS 15.23 to 15.25)
unfoldable pub conditional : {A : Sets} → Run A (Carried A) → Option (Run A (Carried A)) → Option (Run A (Carried A)) → ℕ → Run A (Carried A)
conditional test if_true if_false site = scoped (do
  v ← test
  e ← activating Around (note (plain kind.Test site (val.Arm (arm_of_truth (is_true v.value)))) v)
  choose (is_true v.value) (arm e v.value if_true) (arm e v.value if_false))

unfoldable pub call : {A : Sets} → World A → CallForm → ℕ → Option (Run A (Carried A)) → List (Run A (Carried A)) → ℕ → Run A (Carried A)
call w form.Static m receiver args site = call_static w m args site
call w f m receiver args site = call_on w f m (part_or val.Null receiver) args site

unfoldable mutual
  pub eval : {A : Sets} → World A → Expression → Run A (Carried A)
  eval w (Const v) = tick >> return (constant (constant_value v))
  eval w (Str n) = tick >> return (constant (val.Fixed n))
  eval w (Read place) = tick >> read_place w (locate w place)
  eval w (Set place value site) = tick >> set_place w (locate w place) (eval w value) site
  eval w (Upd place op value value_ty ty wide gives_old site) = tick >> update w (locate w place) op (part_or (val.Int (pos 1)) (eval_part w value)) ty wide gives_old site
  eval w (Un op operand) = tick >> unary op (eval w operand)
  eval w (Bin op left right site) = tick >> binary w op (eval w left) (eval w right) site
  eval w (Conv to operand) = tick >> convert to (eval w operand)
  eval w (Cast ty operand site) = tick >> cast w ty (eval w operand) site
  eval w (InstanceOf ty operand) = tick >> instance_of w ty (eval w operand)
  eval w (Cond form test if_true if_false site) = tick >> conditional (eval w test) (eval_part w if_true) (eval_part w if_false) site
  eval w (New c constructor args site) = tick >> create w c constructor (eval_row w args) site
  eval w (NewArray ty dims elements sites site) = tick >> new_array w ty (eval_row w dims) (eval_row w elements) sites site
  eval w (Call form m receiver ty args site) = tick >> call w form m (eval_part w receiver) (eval_row w args) site
  eval w (Cat left right left_ty right_ty site) = tick >> cat w (eval w left) (eval w right) site
  eval w (Lib op args site) = tick >> library_form w op (eval_row w args) site

  pub locate : {A : Sets} → World A → Place → Located A
  locate w (Local i) = AtLocal i
  locate w (Static f site) = AtStatic f site
  locate w (Field object f site) = AtField (eval w object) f site
  locate w (Elem array index site) = AtElem (eval w array) (eval w index) site

  pub eval_part : {A : Sets} → World A → Part → Option (Run A (Carried A))
  eval_part w absent = Absent
  eval_part w (the e) = Some (eval w e)

  pub eval_row : {A : Sets} → World A → Row → List (Run A (Carried A))
  eval_row w none = []
  eval_row w (more e rest) = eval w e ∷ eval_row w rest
