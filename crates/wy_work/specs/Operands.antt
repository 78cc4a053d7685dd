-- What an expression does once the values of its operands are there: its form again, by operands that are evaluated.
use Rattle.std.specs.Prelude.{ℕ, pos, List, [], ◌∷◌, ◌++◌, map}
use Rattle.wy_kernel.specs.declared.form.CallForm.{CallForm}
use Rattle.wy_kernel.specs.declared.form.CallForm.TheVariants as form
use Rattle.wy_kernel.specs.Form.{Expression, Const, Str, Read, Set, Upd, Un, Bin, Conv, Cast, InstanceOf, Cond, New, NewArray, Call, Cat, Lib, Place, Local, Static, Field, Elem, Part, absent, the, Row, none, more}
use Rattle.wy_value.specs.declared.value.Value.TheVariants as val
use Rattle.wy_steps.specs.Sets.{nothing}
use Rattle.wy_steps.specs.State.{Carried, Run, return}
use Rattle.wy_steps.specs.Steps.{constant}
use Rattle.wy_meaning.specs.World.{World}
use Rattle.wy_meaning.specs.Place.{Located, AtLocal, AtStatic, AtField, AtElem, read_place, set_place}
use Rattle.wy_meaning.specs.Text.{cat}
use Rattle.wy_meaning.specs.Call.{call_on, call_static, create}
use Rattle.wy_meaning.specs.Array.{create_array, create_filled}
use Rattle.wy_meaning.specs.Library.{library_form}
use Rattle.wy_meaning.specs.Expression.{constant_value, part_or, update, unary, binary, convert, cast, instance_of, conditional, eval, eval_part, eval_row}

abbrev pub list_of : Row → List Expression
list_of none = []
list_of (more e rest) = e ∷ list_of rest

abbrev pub place_operands : Place → List Expression
place_operands (Local i) = []
place_operands (Static f site) = []
place_operands (Field object f site) = object ∷ []
place_operands (Elem array index site) = array ∷ index ∷ []

abbrev pub receiver_operands : CallForm → Part → List Expression
receiver_operands form.Static r = []
receiver_operands f absent = []
receiver_operands f (the e) = e ∷ []

-- what is evaluated first, in order, whatever comes after it
abbrev pub operands_of : Expression → List Expression
operands_of (Const v) = []
operands_of (Str n) = []
operands_of (Read place) = place_operands place
operands_of (Set place value site) = place_operands place ++ value ∷ []
operands_of (Upd place op value value_ty ty wide gives_old site) = place_operands place
operands_of (Un op operand) = operand ∷ []
operands_of (Bin op left right site) = left ∷ right ∷ []
operands_of (Conv to operand) = operand ∷ []
operands_of (Cast ty operand site) = operand ∷ []
operands_of (InstanceOf ty operand) = operand ∷ []
operands_of (Cond f test if_true if_false site) = []
operands_of (New c constructor args site) = []
operands_of (NewArray ty dims elements sites site) = list_of dims
operands_of (Call f m receiver ty args site) = receiver_operands f receiver ++ list_of args
operands_of (Cat left right left_ty right_ty site) = left ∷ right ∷ []
operands_of (Lib op args site) = list_of args

abbrev pub Given : Type 0
Given = Run nothing (Carried nothing)

-- values as what was evaluated
abbrev pub evaluated : List (Carried nothing) → List Given
evaluated = map return

-- where there is another number of values than of operands, nothing is known
abbrev pub unfit : Given
unfit = return (constant val.None)

module _ (w : World nothing) where
  abbrev pub read_at : Place → List (Carried nothing) → Given
  read_at (Local i) [] = read_place w (AtLocal i)
  read_at (Static f site) [] = read_place w (AtStatic f site)
  read_at (Field object f site) (o ∷ []) = read_place w (AtField (return o) f site)
  read_at (Elem array index site) (a ∷ k ∷ []) = read_place w (AtElem (return a) (return k) site)
  read_at _ _ = unfit

  abbrev pub set_at : Place → ℕ → List (Carried nothing) → Given
  set_at (Local i) site (v ∷ []) = set_place w (AtLocal i) (return v) site
  set_at (Static f at) site (v ∷ []) = set_place w (AtStatic f at) (return v) site
  set_at (Field object f at) site (o ∷ v ∷ []) = set_place w (AtField (return o) f at) (return v) site
  set_at (Elem array index at) site (a ∷ k ∷ v ∷ []) = set_place w (AtElem (return a) (return k) at) (return v) site
  set_at _ site _ = unfit

  abbrev pub update_at : Place → (Located nothing → Given) → List (Carried nothing) → Given
  update_at (Local i) f [] = f (AtLocal i)
  update_at (Static n at) f [] = f (AtStatic n at)
  update_at (Field object n at) f (o ∷ []) = f (AtField (return o) n at)
  update_at (Elem array index at) f (a ∷ k ∷ []) = f (AtElem (return a) (return k) at)
  update_at _ f _ = unfit

  abbrev pub of_one : (Given → Given) → List (Carried nothing) → Given
  of_one f (a ∷ []) = f (return a)
  of_one f _ = unfit

  abbrev pub of_two : (Given → Given → Given) → List (Carried nothing) → Given
  of_two f (a ∷ b ∷ []) = f (return a) (return b)
  of_two f _ = unfit

  abbrev pub of_first : (Given → List Given → Given) → List (Carried nothing) → Given
  of_first f (a ∷ rest) = f (return a) (evaluated rest)
  of_first f [] = unfit

  abbrev pub call_with : CallForm → ℕ → Part → ℕ → List (Carried nothing) → Given
  call_with form.Static m r site vs = call_static w m (evaluated vs) site
  call_with f m absent site vs = call_on w f m (return (constant val.Null)) (evaluated vs) site
  call_with f m (the r) site vs = of_first (λ receiver args. call_on w f m receiver args site) vs

  abbrev pub array_with : Row → List Given → (List Given → Given) → Given → List (Carried nothing) → Given
  array_with none elements by_dims filled vs = filled
  array_with (more d ds) elements by_dims filled vs = by_dims (evaluated vs)

  abbrev pub operate : Expression → List (Carried nothing) → Given
  operate (Const v) vs = return (constant (constant_value v))
  operate (Str n) vs = return (constant (val.Fixed n))
  operate (Read place) vs = read_at place vs
  operate (Set place value site) vs = set_at place site vs
  operate (Upd place op value value_ty ty wide gives_old site) vs = update_at place (λ at. update w at op (part_or (val.Int (pos 1)) (eval_part w value)) ty wide gives_old site) vs
  operate (Un op operand) vs = of_one (unary op) vs
  operate (Bin op left right site) vs = of_two (λ a b. binary w op a b site) vs
  operate (Conv to operand) vs = of_one (convert to) vs
  operate (Cast ty operand site) vs = of_one (λ a. cast w ty a site) vs
  operate (InstanceOf ty operand) vs = of_one (instance_of w ty) vs
  operate (Cond f test if_true if_false site) vs = conditional (eval w test) (eval_part w if_true) (eval_part w if_false) site
  operate (New c constructor args site) vs = create w c constructor (eval_row w args) site
  operate (NewArray ty dims elements sites site) vs = array_with dims (eval_row w elements) (λ ds. create_array w ty ds site) (create_filled w ty (eval_row w elements) sites site) vs
  operate (Call f m receiver ty args site) vs = call_with f m receiver site vs
  operate (Cat left right left_ty right_ty site) vs = of_two (λ a b. cat w a b site) vs
  operate (Lib op args site) vs = library_form w op (evaluated vs) site
