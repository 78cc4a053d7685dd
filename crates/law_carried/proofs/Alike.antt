-- Each form does the same, whatever is carried.
use Rattle.std.proofs.Common.{◌≡◌, ℕ, zero, suc, Bool, true, false, List, [], ◌∷◌, Option, Some, refl, sym, subst, ap}
use Rattle.std.specs.Prelude.{None as Absent}
use Rattle.std.specs.Prelude.{ℤ, pos, if◌then◌else◌, ◌||◌, length}
use Rattle.wy_kernel.specs.declared.operator.Primitive.{Primitive}
use Rattle.wy_kernel.specs.declared.operator.BinOp.{BinOp}
use Rattle.wy_kernel.specs.declared.operator.UnOp.{UnOp}
use Rattle.wy_kernel.specs.declared.types.Ty.{Ty}
use Rattle.wy_kernel.specs.declared.form.CallForm.{CallForm}
use Rattle.wy_kernel.specs.declared.form.CallForm.TheVariants as form
use Rattle.wy_kernel.specs.declared.form.LibOp.{LibOp}
use Rattle.wy_kernel.specs.declared.form.LibOp.TheVariants as op
use Rattle.wy_kernel.specs.Program.{Program, is_source}
use Rattle.wy_value.specs.declared.value.Value.{Value}
use Rattle.wy_value.specs.declared.value.Value.TheVariants as val
use Rattle.wy_event.specs.declared.record.Slot.{Slot}
use Rattle.wy_event.specs.declared.record.Slot.TheVariants as slot
use Rattle.wy_steps.specs.State.{Carried, Run, Reach, Reason, Jumped, Returned, Threw, leave, catching, choose}
use Rattle.wy_steps.specs.Steps.{Made, Draft, constant, with_value, joined, joined_all, value_of, chosen, note, note_new, activating}
use Rattle.wy_meaning.specs.World.{World, throwing, fail, type_of, units_of, length_of, object_of, all_of}
use Rattle.wy_meaning.specs.Place.{Located, AtLocal, AtStatic, AtField, AtElem, Spot, initialize_source, initialize, local_spot, static_spot, field_spot, checked_index, element_spot, find, fetch, read_place, assign, check_store, store, set_place, primitive_of, divided, update_place}
use Rattle.wy_meaning.specs.Text.{call_chosen, shown_as, shown, spelled_as, make_text, concatenated, cat, append_place, print, print_value, print_nothing}
use Rattle.wy_meaning.specs.Call.{text_equals, call_on_text, call_form, call_on, call_static, construct, create}
use Rattle.wy_meaning.specs.Array.{make_array, for_each, subarrays, make_arrays, create_array, set_elements, create_filled, new_array}
use Rattle.wy_meaning.specs.Library.{text_arg, unit_or_fail, part_or_fail, int_or_fail, parse, read_byte, library_one, library_two, library_three, library, library_form}
use Rattle.wy_meaning.specs.Expression.{part_or, update, unary, binary, convert, cast, instance_of, arm, conditional, call}
use Rattle.wy_kernel.specs.Form.{Expression, Const, Str, Read, Set, Upd, Un, Bin, Conv, Cast, InstanceOf, Cond, New, NewArray, Call, Cat, Lib, Place, Local, Static, Field, Elem, Part, absent, the, Row, none, more, Statement, Stmt, Act, Block, Eval, Declare, If, While, Do, For, Labelled, Jump, Return, Throw, Try, Print, Other, nothing as no_statement, this, Statements, done, first, Catches, uncaught, catch}
use Rattle.wy_kernel.specs.Program.{Body, Method}
use Rattle.wy_meaning.specs.Call.{bind_all, end_body, at_return, run_body, frame_of_call, call_uses, bound, call_method, at_failure, initialize_above, initialization}
use Rattle.wy_meaning.specs.Expression.{eval, locate, eval_part, eval_row}
use Rattle.wy_meaning.specs.Statement.{statement, armed, tested, evaluated, declaration, if_form, turns, while_form, do_form, for_test, for_form, jump, return_form, throw_form, Clause, caught, handle, at_throw, finally, try_form, print_form, other_or, exec, exec_act, exec_other, exec_all, exec_catches}
use Rattle.wy_meaning.specs.Run.{call_body, init_block, main_run, strings}
use Rattle.wy_kernel.specs.declared.types.MethodForm.{MethodForm}
use Rattle.wy_kernel.specs.declared.types.MethodForm.TheVariants as kinds
use Rattle.wy_steps.specs.Sets.{Sets, nothing}
use Rattle.law_carried.proofs.Erased.{value_erased, made_erased, spot_erased, all_erased, option_erased, reason_erased, plain as same, Erases, after, with_number, with_option, with_flag, with_type, with_carried, with_made, with_spot, with_all, erases_return, erases_leave, erases_stop, erases_catching, erases_choose, erases_tick, erases_steps_left, erases_note, erases_note_write, erases_note_new, erases_activating, erases_scoped, erases_reaching, erases_in_frame, erases_covered, joined_all_same, steps}
use Rattle.wy_value.specs.Operator.{unary_of}
use Rattle.wy_value.specs.Conversion.{converted}
use Rattle.wy_meaning.specs.Array.{is_negative, any_negative}
use Rattle.wy_meaning.specs.Library.{byte_value}
use Rattle.law_carried.proofs.Erased.{erases_frame, erases_next_byte}

module _ (A : Sets) where
  abbrev pub OfValue : Run A (Carried A) → Run nothing (Carried nothing) → Type 0
  OfValue m k = Erases A (value_erased A) m k

  abbrev pub Of : {X : Type 0} → Run A X → Run nothing X → Type 0
  Of m k = Erases A (same A) m k

  pub erases_throwing : {X Y : Type 0} {e : X → Y} (site : ℕ) (v : Carried A) → Erases A e (throwing site v) (throwing site (value_erased A v))
  unfolding throwing joined constant with_value value_of chosen
  erases_throwing site v = search steps depth 12

  pub erases_type_of : (v : Value) → Of (type_of v) (type_of v)
  unfolding type_of
  erases_type_of (val.Object n) = search steps depth 12
  erases_type_of _ = search steps depth 12

  pub erases_length_of : (n : ℕ) → Of (length_of n) (length_of n)
  unfolding length_of
  erases_length_of n = search steps depth 12

  abbrev pub AllErase : List (Run A (Carried A)) → List (Run nothing (Carried nothing)) → Type 0
  AllErase [] [] = Unit {0}
  AllErase [] (k ∷ ks) = ⊥
  AllErase (m ∷ ms) [] = ⊥
  AllErase (m ∷ ms) (k ∷ ks) = OfValue m k × AllErase ms ks

  pub erases_all_of : (ms : List (Run A (Carried A))) (ks : List (Run nothing (Carried nothing))) → AllErase ms ks → Erases A (all_erased A) (all_of ms) (all_of ks)
  unfolding all_of
  erases_all_of [] [] h = erases_return _ [] [] refl
  erases_all_of [] (k ∷ ks) h = absurd h
  erases_all_of (m ∷ ms) [] h = absurd h
  erases_all_of (m ∷ ms) (k ∷ ks) h = with_carried _ _ h.0 (λ v. with_all _ _ (erases_all_of ms ks h.1) (λ vs. erases_return _ (v ∷ vs) _ refl))

  abbrev pub PartErases : Option (Run A (Carried A)) → Option (Run nothing (Carried nothing)) → Type 0
  PartErases Absent Absent = Unit {0}
  PartErases Absent (Some k) = ⊥
  PartErases (Some m) Absent = ⊥
  PartErases (Some m) (Some k) = OfValue m k

  -- the same place, with parts that do the same
  abbrev pub PlaceErases : Located A → Located nothing → Type 0
  PlaceErases (AtLocal i) y = y ≡ AtLocal i
  PlaceErases (AtStatic f site) y = y ≡ AtStatic f site
  PlaceErases (AtField o f site) y = (q : Run nothing (Carried nothing)) × (y ≡ AtField q f site) × OfValue o q
  PlaceErases (AtElem a k site) y = (b : Run nothing (Carried nothing)) × (l : Run nothing (Carried nothing)) × (y ≡ AtElem b l site) × OfValue a b × OfValue k l

pub ruleset basics = (erases_throwing, erases_type_of, erases_length_of, erases_all_of)

module _ (A : Sets) (p : Program) (c : (site method : ℕ) → Option (Carried A) → List (Carried A) → Run A (Carried A)) (n : (site class : ℕ) → Run A Unit)
    (c' : (site method : ℕ) → Option (Carried nothing) → List (Carried nothing) → Run nothing (Carried nothing)) (n' : (site class : ℕ) → Run nothing Unit)
    (calls : (site m : ℕ) (r : Option (Carried A)) (args : List (Carried A)) → Erases A (value_erased A) (c site m r args) (c' site m (option_erased A r) (all_erased A args)))
    (enters : (site k : ℕ) → Erases A (same A) (n site k) (n' site k)) where
  abbrev pub w : World A
  w = record { program = p; call = c; enter = n }

  abbrev pub w' : World nothing
  w' = record { program = p; call = c'; enter = n' }

  abbrev pub Value₂ : Run A (Carried A) → Run nothing (Carried nothing) → Type 0
  Value₂ m k = Erases A (value_erased A) m k

  abbrev pub Plain₂ : {X : Type 0} → Run A X → Run nothing X → Type 0
  Plain₂ m k = Erases A (same A) m k

  abbrev pub Spot₂ : Run A (Spot A) → Run nothing (Spot nothing) → Type 0
  Spot₂ m k = Erases A (spot_erased A) m k

  abbrev pub er : Carried A → Carried nothing
  er v = value_erased A v

  called_some : (site m : ℕ) (r : Carried A) (args : List (Carried A)) → Value₂ (c site m (Some r) args) (c' site m (Some (er r)) (all_erased A args))
  called_some site m r args = calls site m (Some r) args

  called_empty : (site m : ℕ) (r : Carried A) → Value₂ (c site m (Some r) []) (c' site m (Some (er r)) [])
  called_empty site m r = calls site m (Some r) []

  called_none : (site m : ℕ) (args : List (Carried A)) → Value₂ (c site m Absent args) (c' site m Absent (all_erased A args))
  called_none site m args = calls site m Absent args

  pub erases_fail : {X Y : Type 0} {e : X → Y} (k site : ℕ) (v : Carried A) → Erases A e (fail w k site v) (fail w' k site (er v))
  unfolding fail joined constant with_value value_of chosen
  erases_fail k site v = search (steps, basics) depth 14

  pub erases_units_of : (v : Value) → Plain₂ (units_of w v) (units_of w' v)
  unfolding units_of joined constant with_value value_of chosen
  erases_units_of (val.Text n) = search (steps) depth 14
  erases_units_of _ = search (steps) depth 14

  pub erases_object_of : (site : ℕ) (v : Carried A) (x : Value) → Plain₂ (object_of w site v x) (object_of w' site (er v) x)
  unfolding object_of joined constant with_value value_of chosen
  erases_object_of site v (val.Object n) = search (steps) depth 14
  erases_object_of site v _ = erases_fail _ site v

  pub erases_initialize_source : (site k : ℕ) (b : Bool) → Plain₂ (initialize_source w site k b) (initialize_source w' site k b)
  unfolding initialize_source joined constant with_value value_of chosen
  erases_initialize_source site k false = search (steps) depth 14
  erases_initialize_source site k true = search (steps, enters) depth 14

  pub erases_initialize : (site k : ℕ) → Plain₂ (initialize w site k) (initialize w' site k)
  unfolding initialize joined constant with_value value_of chosen
  erases_initialize site k = erases_initialize_source site k (is_source k)

  pub erases_local_spot : (i : ℕ) → Spot₂ (local_spot i) (local_spot i)
  unfolding local_spot joined constant with_value value_of chosen
  erases_local_spot i = search (steps) depth 14

  pub erases_static_spot : (f site : ℕ) → Spot₂ (static_spot w f site) (static_spot w' f site)
  unfolding static_spot joined constant with_value value_of chosen
  erases_static_spot f site = search (steps, erases_initialize) depth 14

  pub erases_field_spot : (f site : ℕ) (o : Carried A) → Spot₂ (field_spot w f site o) (field_spot w' f site (er o))
  unfolding field_spot joined constant with_value value_of chosen
  erases_field_spot f site o = search (steps, erases_object_of) depth 14

  pub erases_checked_index : (site : ℕ) (v : Carried A) (o : Option ℕ) → Plain₂ (checked_index w site v o) (checked_index w' site (er v) o)
  unfolding checked_index joined constant with_value value_of chosen
  erases_checked_index site v (Some i) = search (steps) depth 14
  erases_checked_index site v Absent = erases_fail _ site v

  pub erases_element_spot : (site : ℕ) (a k : Carried A) → Spot₂ (element_spot w site a k) (element_spot w' site (er a) (er k))
  unfolding element_spot joined constant with_value value_of chosen
  erases_element_spot site a k = search (steps, basics, erases_object_of, erases_checked_index) depth 16

  pub erases_find : (x : Located A) (y : Located nothing) → PlaceErases A x y → Spot₂ (find w x) (find w' y)
  unfolding find joined constant with_value value_of chosen
  erases_find (AtLocal i) y h = subst (λ z. Spot₂ (find w (AtLocal i)) (find w' z)) (sym h) (erases_local_spot i)
  erases_find (AtStatic f site) y h = subst (λ z. Spot₂ (find w (AtStatic f site)) (find w' z)) (sym h) (erases_static_spot f site)
  erases_find (AtField o f site) y h = subst (λ z. Spot₂ (find w (AtField o f site)) (find w' z)) (sym h.1) (with_carried _ _ h.2 (λ v. erases_field_spot f site v))
  erases_find (AtElem a k site) y h = subst (λ z. Spot₂ (find w (AtElem a k site)) (find w' z)) (sym h.2) (with_carried _ _ h.3 (λ u. with_carried _ _ h.4 (λ v. erases_element_spot site u v)))

  pub erases_fetch : (x : Spot A) → Value₂ (fetch x) (fetch (spot_erased A x))
  unfolding fetch joined constant with_value value_of chosen
  erases_fetch x = search (steps) depth 14

  pub erases_assign : (site : ℕ) (x : Spot A) (v : Carried A) → Value₂ (assign site x v) (assign site (spot_erased A x) (er v))
  unfolding assign joined constant with_value value_of chosen
  erases_assign site x v = search (steps) depth 14

  pub erases_check_store : (site : ℕ) (x : Spot A) (v : Carried A) (y : Slot) → Plain₂ (check_store w site x v y) (check_store w' site (spot_erased A x) (er v) y)
  unfolding check_store joined constant with_value value_of chosen
  erases_check_store site x v (slot.Elem k i) = search (steps, basics, erases_fail) depth 14
  erases_check_store site x v _ = search (steps) depth 14

  pub erases_store : (site : ℕ) (x : Spot A) (v : Carried A) → Value₂ (store w site x v) (store w' site (spot_erased A x) (er v))
  unfolding store joined constant with_value value_of chosen
  erases_store site x v = search (steps, erases_check_store, erases_assign) depth 14

  pub erases_divided : (site : ℕ) (v : Carried A) (o : Option Value) → Value₂ (divided w site v o) (divided w' site (er v) o)
  unfolding divided joined constant with_value value_of chosen
  erases_divided site v (Some x) = search (steps) depth 14
  erases_divided site v Absent = erases_fail _ site v

  pub erases_call_chosen : (site m : ℕ) (r : Carried A) (args : List (Carried A)) → Value₂ (call_chosen w site m r args) (call_chosen w' site m (er r) (all_erased A args))
  unfolding call_chosen joined constant with_value value_of chosen
  erases_call_chosen site m r args = search (steps, basics, called_some) depth 14

  pub erases_shown_as : (site : ℕ) (v : Carried A) (x : Value) → Value₂ (shown_as w site v x) (shown_as w' site (er v) x)
  unfolding shown_as joined constant with_value value_of chosen
  erases_shown_as site v (val.Object k) = erases_call_chosen site _ v []
  erases_shown_as site v _ = search (steps) depth 14

  pub erases_shown : (site : ℕ) (v : Carried A) → Value₂ (shown w site v) (shown w' site (er v))
  unfolding shown joined constant with_value value_of chosen
  erases_shown site v = erases_shown_as site v v.value

  pub erases_spelled_as : (v : Value) → Plain₂ (spelled_as w v) (spelled_as w' v)
  unfolding spelled_as joined constant with_value value_of chosen
  erases_spelled_as (val.Text k) = erases_units_of (val.Text k)
  erases_spelled_as (val.Fixed k) = erases_units_of (val.Fixed k)
  erases_spelled_as _ = search (steps) depth 14

  pub erases_make_text : (site : ℕ) (units : List ℕ) (v : Carried A) → Value₂ (make_text site units v) (make_text site units (er v))
  unfolding make_text joined constant with_value value_of chosen
  erases_make_text site units v = search (steps) depth 14

  pub erases_concatenated : (site : ℕ) (a b : Carried A) → Value₂ (concatenated w site a b) (concatenated w' site (er a) (er b))
  unfolding concatenated joined constant with_value value_of chosen
  erases_concatenated site a b = search (steps, erases_shown, erases_spelled_as, erases_make_text) depth 20

  pub erases_print : (site : ℕ) (bytes : List ℕ) (v : Carried A) → Plain₂ (print site bytes v) (print site bytes (er v))
  unfolding print joined constant with_value value_of chosen
  erases_print site bytes v = search (steps) depth 16

  pub erases_print_nothing : (b : Bool) (site : ℕ) → Plain₂ (print_nothing b site) (print_nothing b site)
  unfolding print_nothing joined constant with_value value_of chosen
  erases_print_nothing b site = erases_print site _ (constant val.None)

  pub erases_read_place : (x : Located A) (y : Located nothing) → PlaceErases A x y → Value₂ (read_place w x) (read_place w' y)
  unfolding read_place joined constant with_value value_of chosen
  erases_read_place x y h = with_spot _ _ (erases_find x y h) (λ spot. erases_fetch spot)

  pub erases_set_place : (x : Located A) (y : Located nothing) (m : Run A (Carried A)) (k : Run nothing (Carried nothing)) (site : ℕ) → PlaceErases A x y → Value₂ m k → Value₂ (set_place w x m site) (set_place w' y k site)
  unfolding set_place joined constant with_value value_of chosen
  erases_set_place (AtLocal i) y m k site h hm = subst (λ z. Value₂ (set_place w (AtLocal i) m site) (set_place w' z k site)) (sym h) (with_carried _ _ hm (λ v. with_spot _ _ (erases_local_spot i) (λ spot. erases_store site spot v)))
  erases_set_place (AtStatic f at) y m k site h hm = subst (λ z. Value₂ (set_place w (AtStatic f at) m site) (set_place w' z k site)) (sym h) (with_carried _ _ hm (λ v. with_spot _ _ (erases_static_spot f at) (λ spot. erases_store site spot v)))
  erases_set_place (AtField o f at) y m k site h hm = subst (λ z. Value₂ (set_place w (AtField o f at) m site) (set_place w' z k site)) (sym h.1) (with_carried _ _ h.2 (λ u. with_carried _ _ hm (λ v. with_spot _ _ (erases_field_spot f at u) (λ spot. erases_store site spot v))))
  erases_set_place (AtElem a i at) y m k site h hm = subst (λ z. Value₂ (set_place w (AtElem a i at) m site) (set_place w' z k site)) (sym h.2) (with_carried _ _ h.3 (λ u. with_carried _ _ h.4 (λ j. with_carried _ _ hm (λ v. with_spot _ _ (erases_element_spot at u j) (λ spot. erases_store site spot v)))))

  if_erased : (b : Bool) (x y : Carried A) → (if b then er x else er y) ≡ er (if b then x else y)
  if_erased true x y = refl
  if_erased false x y = refl

  pub erases_update_place : (x : Located A) (y : Located nothing) (o : BinOp) (m : Run A (Carried A)) (k : Run nothing (Carried nothing)) (ty : Ty) (wide : Primitive) (gives_old : Bool) (site : ℕ) → PlaceErases A x y → Value₂ m k → Value₂ (update_place w x o m ty wide gives_old site) (update_place w' y o k ty wide gives_old site)
  unfolding update_place joined constant with_value value_of chosen
  erases_update_place x y o m k ty wide gives_old site h hm = with_spot _ _ (erases_find x y h) (λ spot. with_carried _ _ (erases_fetch spot) (λ old. with_carried _ _ hm (λ v. with_carried _ _ (erases_divided site (joined val.None old v) _) (λ new. with_carried _ _ (erases_assign site spot (with_value (primitive_of ty new.value) new)) (λ set. erases_return _ _ _ (if_erased gives_old old set))))))

  pub erases_append_place : (x : Located A) (y : Located nothing) (m : Run A (Carried A)) (k : Run nothing (Carried nothing)) (site : ℕ) → PlaceErases A x y → Value₂ m k → Value₂ (append_place w x m site) (append_place w' y k site)
  unfolding append_place joined constant with_value value_of chosen
  erases_append_place x y m k site h hm = with_spot _ _ (erases_find x y h) (λ spot. with_carried _ _ (erases_fetch spot) (λ old. with_carried _ _ hm (λ v. with_carried _ _ (erases_concatenated site old v) (λ text. erases_store site spot text))))

  pub erases_cat : (l r : Run A (Carried A)) (l' r' : Run nothing (Carried nothing)) (site : ℕ) → Value₂ l l' → Value₂ r r' → Value₂ (cat w l r site) (cat w' l' r' site)
  unfolding cat joined constant with_value value_of chosen
  erases_cat l r l' r' site hl hr = search (steps, erases_concatenated) depth 14

  pub erases_print_value : (m : Run A (Carried A)) (k : Run nothing (Carried nothing)) (b : Bool) (site : ℕ) → Value₂ m k → Plain₂ (print_value w m b site) (print_value w' k b site)
  unfolding print_value joined constant with_value value_of chosen
  erases_print_value m k b site h = search (steps, erases_shown, erases_spelled_as, erases_print) depth 18

  pub erases_text_equals : (a b : Carried A) → Value₂ (text_equals w a b) (text_equals w' (er a) (er b))
  unfolding text_equals joined constant with_value value_of chosen
  erases_text_equals a b = search (steps, erases_units_of) depth 14

  pub erases_call_on_text : (b : Bool) (r : Carried A) (args : List (Carried A)) → Value₂ (call_on_text w b r args) (call_on_text w' b (er r) (all_erased A args))
  unfolding call_on_text joined constant with_value value_of chosen
  erases_call_on_text true r (v ∷ vs) = erases_text_equals r v
  erases_call_on_text true r [] = search (steps) depth 14
  erases_call_on_text false r [] = search (steps) depth 14
  erases_call_on_text false r (v ∷ vs) = search (steps) depth 14

  pub erases_call_form : (f : CallForm) (site m : ℕ) (r : Carried A) (args : List (Carried A)) → Value₂ (call_form w f site m r args) (call_form w' f site m (er r) (all_erased A args))
  unfolding call_form joined constant with_value value_of chosen
  erases_call_form form.Chosen site m r args = search (steps, erases_call_on_text, erases_call_chosen) depth 14
  erases_call_form _ site m r args = calls site m (Some r) args

  pub erases_call_on : (f : CallForm) (i : ℕ) (m : Run A (Carried A)) (k : Run nothing (Carried nothing)) (ms : List (Run A (Carried A))) (ks : List (Run nothing (Carried nothing))) (site : ℕ) → Value₂ m k → AllErase A ms ks → Value₂ (call_on w f i m ms site) (call_on w' f i k ks site)
  unfolding call_on joined constant with_value value_of chosen
  erases_call_on f i m k ms ks site h hs = with_carried _ _ h (λ r. with_all _ _ (erases_all_of A ms ks hs) (λ vs. erases_choose _ _ (erases_fail _ site r) (erases_call_form f site i r vs)))

  pub erases_call_static : (i : ℕ) (ms : List (Run A (Carried A))) (ks : List (Run nothing (Carried nothing))) (site : ℕ) → AllErase A ms ks → Value₂ (call_static w i ms site) (call_static w' i ks site)
  unfolding call_static joined constant with_value value_of chosen
  erases_call_static i ms ks site hs = with_all _ _ (erases_all_of A ms ks hs) (λ vs. after _ (erases_initialize site _) (calls site i Absent vs))

  pub erases_construct : (site : ℕ) (k : Option ℕ) (o : Carried A) (args : List (Carried A)) → Plain₂ (construct w site k o args) (construct w' site k (er o) (all_erased A args))
  unfolding construct joined constant with_value value_of chosen
  erases_construct site Absent o args = search (steps) depth 14
  erases_construct site (Some m) o args = with_carried _ _ (calls site m (Some o) args) (λ v. erases_return _ tt tt refl)

  pub erases_create : (k : ℕ) (constructor : Option ℕ) (ms : List (Run A (Carried A))) (ks : List (Run nothing (Carried nothing))) (site : ℕ) → AllErase A ms ks → Value₂ (create w k constructor ms site) (create w' k constructor ks site)
  unfolding create joined constant with_value value_of chosen
  erases_create k constructor ms ks site hs = after _ (erases_initialize site k) (with_made _ _ (erases_note_new _ p _ _) (λ e. with_all _ _ (erases_all_of A ms ks hs) (λ vs. after _ (erases_construct site constructor (value_of e (val.Object e.number)) vs) (erases_return _ (value_of e (val.Object e.number)) _ refl))))

  pub erases_make_array : (site : ℕ) (ty : Ty) (k : ℕ) (d : Carried A) → Erases A (made_erased A) (make_array w site ty k d) (make_array w' site ty k (er d))
  unfolding make_array joined constant with_value value_of chosen
  erases_make_array site ty k d = search (steps) depth 14

  pub erases_for_each : (k i : ℕ) (f : ℕ → Run A Unit) (g : ℕ → Run nothing Unit) → ((j : ℕ) → Plain₂ (f j) (g j)) → Plain₂ (for_each i k f) (for_each i k g)
  unfolding for_each joined constant with_value value_of chosen
  erases_for_each zero i f g h = search (steps) depth 14
  erases_for_each (suc k) i f g h = after _ (h i) (erases_for_each k (suc i) f g h)

  pub erases_subarrays : (ds : List (Carried A)) (site : ℕ) (ty : Ty) (parent k : ℕ) → Plain₂ (subarrays w site ty ds parent k) (subarrays w' site ty (all_erased A ds) parent k)
  unfolding subarrays joined constant with_value value_of chosen
  erases_subarrays [] site ty parent k = search (steps) depth 14
  erases_subarrays (d ∷ ds) site ty parent k = erases_for_each k 0 _ _ (λ i. with_made _ _ (erases_make_array site ty _ d) (λ sub. with_made _ _ (erases_note_write _ _ (value_of sub (val.Object sub.number))) (λ set. erases_subarrays ds site _ sub.number _)))

  pub erases_make_arrays : (site : ℕ) (ty : Ty) (ds : List (Carried A)) → Value₂ (make_arrays w site ty ds) (make_arrays w' site ty (all_erased A ds))
  unfolding make_arrays joined constant with_value value_of chosen
  erases_make_arrays site ty [] = search (steps) depth 14
  erases_make_arrays site ty (d ∷ ds) = with_made _ _ (erases_make_array site ty _ d) (λ e. after _ (erases_subarrays ds site _ e.number _) (erases_return _ (value_of e (val.Object e.number)) _ refl))

  negative_same : (ds : List (Carried A)) → any_negative (all_erased A ds) ≡ any_negative ds
  unfolding any_negative
  negative_same [] = refl
  negative_same (d ∷ ds) = ap (λ b. is_negative d.value || b) (negative_same ds)

  chosen_same : {X Y : Type 0} {e : X → Y} (b d : Bool) (m l : Run A X) (k j : Run nothing Y) → d ≡ b → Erases A e m k → Erases A e l j → Erases A e (choose b m l) (choose d k j)
  chosen_same {e = e} b d m l k j is h i = subst (λ t. Erases A e (choose b m l) (choose t k j)) (sym is) (erases_choose _ b h i)

  fail_all : {X Y : Type 0} {e : X → Y} (k site : ℕ) (ds : List (Carried A)) → Erases A e (fail w k site (joined_all ds)) (fail w' k site (joined_all (all_erased A ds)))
  fail_all {e = e} k site ds = subst (λ u. Erases A e (fail w k site (joined_all ds)) (fail w' k site u)) (sym (joined_all_same A ds)) (erases_fail k site (joined_all ds))

  pub erases_create_array : (ty : Ty) (ms : List (Run A (Carried A))) (ks : List (Run nothing (Carried nothing))) (site : ℕ) → AllErase A ms ks → Value₂ (create_array w ty ms site) (create_array w' ty ks site)
  unfolding create_array joined constant with_value value_of chosen
  erases_create_array ty ms ks site h = with_all _ _ (erases_all_of A ms ks h) (λ ds. chosen_same _ _ _ _ _ _ (negative_same ds) (fail_all _ site ds) (erases_make_arrays site ty ds))

  pub erases_set_elements : (ms : List (Run A (Carried A))) (ks : List (Run nothing (Carried nothing))) (e : Made A) (i : ℕ) (sites : List ℕ) → AllErase A ms ks → Plain₂ (set_elements e i sites ms) (set_elements (made_erased A e) i sites ks)
  unfolding set_elements joined constant with_value value_of chosen
  erases_set_elements [] [] e i sites h = search (steps) depth 14
  erases_set_elements [] (k ∷ ks) e i sites h = absurd h
  erases_set_elements (m ∷ ms) [] e i sites h = absurd h
  erases_set_elements (m ∷ ms) (k ∷ ks) e i sites h = with_carried _ _ h.0 (λ v. with_made _ _ (erases_note_write _ _ (joined v.value (value_of e (val.Object e.number)) v)) (λ set. erases_set_elements ms ks e (suc i) _ h.1))

  length_all : (ms : List (Run A (Carried A))) (ks : List (Run nothing (Carried nothing))) → AllErase A ms ks → length ks ≡ length ms
  length_all [] [] h = refl
  length_all [] (k ∷ ks) h = absurd h
  length_all (m ∷ ms) [] h = absurd h
  length_all (m ∷ ms) (k ∷ ks) h = ap suc (length_all ms ks h.1)

  made_of_length : (site : ℕ) (ty : Ty) (i j : ℕ) → j ≡ i → Erases A (made_erased A) (make_array w site ty i (constant val.None)) (make_array w' site ty j (constant val.None))
  unfolding constant
  made_of_length site ty i j h = subst (λ k. Erases A (made_erased A) (make_array w site ty i (constant val.None)) (make_array w' site ty k (constant val.None))) (sym h) (erases_make_array site ty i (constant val.None))

  pub erases_create_filled : (ty : Ty) (ms : List (Run A (Carried A))) (ks : List (Run nothing (Carried nothing))) (sites : List ℕ) (site : ℕ) → AllErase A ms ks → Value₂ (create_filled w ty ms sites site) (create_filled w' ty ks sites site)
  unfolding create_filled joined constant with_value value_of chosen
  erases_create_filled ty ms ks sites site h = with_made _ _ (made_of_length site ty _ _ (length_all ms ks h)) (λ e. after _ (erases_set_elements ms ks e 0 sites h) (erases_return _ (value_of e (val.Object e.number)) _ refl))

  pub erases_new_array : (ty : Ty) (ds : List (Run A (Carried A))) (gs : List (Run nothing (Carried nothing))) (ms : List (Run A (Carried A))) (ks : List (Run nothing (Carried nothing))) (sites : List ℕ) (site : ℕ) → AllErase A ds gs → AllErase A ms ks → Value₂ (new_array w ty ds ms sites site) (new_array w' ty gs ks sites site)
  unfolding new_array joined constant with_value value_of chosen
  erases_new_array ty [] [] ms ks sites site hd h = erases_create_filled ty ms ks sites site h
  erases_new_array ty [] (g ∷ gs) ms ks sites site hd h = absurd hd
  erases_new_array ty (d ∷ ds) [] ms ks sites site hd h = absurd hd
  erases_new_array ty (d ∷ ds) (g ∷ gs) ms ks sites site hd h = erases_create_array ty (d ∷ ds) (g ∷ gs) site hd

  pub erases_text_arg : (site : ℕ) (v : Carried A) (x : Value) → Plain₂ (text_arg w site v x) (text_arg w' site (er v) x)
  unfolding text_arg joined constant with_value value_of chosen
  erases_text_arg site v (val.Text k) = erases_units_of (val.Text k)
  erases_text_arg site v (val.Fixed k) = erases_units_of (val.Fixed k)
  erases_text_arg site v _ = erases_fail _ site v

  pub erases_unit_or_fail : (site : ℕ) (v : Carried A) (o : Option ℕ) → Value₂ (unit_or_fail w site v o) (unit_or_fail w' site (er v) o)
  unfolding unit_or_fail joined constant with_value value_of chosen
  erases_unit_or_fail site v (Some x) = search (steps) depth 14
  erases_unit_or_fail site v Absent = erases_fail _ site v

  pub erases_part_or_fail : (site : ℕ) (v : Carried A) (o : Option (List ℕ)) → Value₂ (part_or_fail w site v o) (part_or_fail w' site (er v) o)
  unfolding part_or_fail joined constant with_value value_of chosen
  erases_part_or_fail site v (Some x) = erases_make_text site x v
  erases_part_or_fail site v Absent = erases_fail _ site v

  pub erases_int_or_fail : (site : ℕ) (v : Carried A) (o : Option ℤ) → Value₂ (int_or_fail w site v o) (int_or_fail w' site (er v) o)
  unfolding int_or_fail joined constant with_value value_of chosen
  erases_int_or_fail site v (Some x) = search (steps) depth 14
  erases_int_or_fail site v Absent = erases_fail _ site v

  pub erases_parse : (site : ℕ) (v : Carried A) (x : Value) → Value₂ (parse w site v x) (parse w' site (er v) x)
  unfolding parse joined constant with_value value_of chosen
  erases_parse site v (val.Text k) = search (steps, erases_units_of, erases_int_or_fail) depth 14
  erases_parse site v (val.Fixed k) = search (steps, erases_units_of, erases_int_or_fail) depth 14
  erases_parse site v _ = erases_fail _ site v

  pub erases_read_byte : (site : ℕ) → Value₂ (read_byte site) (read_byte site)
  unfolding read_byte joined constant with_value value_of chosen
  erases_read_byte site = with_option _ (erases_next_byte _) (λ b. with_made _ _ (erases_note _ _ (constant val.None)) (λ e. erases_return _ (value_of e (byte_value b)) _ refl))

  pub erases_library_one : (o : LibOp) (site : ℕ) (all a : Carried A) → Value₂ (library_one w o site all a) (library_one w' o site (er all) (er a))
  unfolding library_one joined constant with_value value_of chosen
  erases_library_one op.ArrayLength site all a = search (steps, basics, erases_object_of) depth 14
  erases_library_one op.Length site all a = search (steps, erases_text_arg) depth 14
  erases_library_one op.IsEmpty site all a = search (steps, erases_text_arg) depth 14
  erases_library_one op.Itself site all a = search (steps, erases_text_arg) depth 14
  erases_library_one op.ValueOf site all a = erases_make_text site _ all
  erases_library_one op.IntText site all a = erases_make_text site _ all
  erases_library_one op.ParseInt site all a = erases_parse site all a.value
  erases_library_one op.Abs site all a = search (steps) depth 14
  erases_library_one op.ClassText site all a = search (steps, basics, erases_make_text) depth 14
  erases_library_one op.ObjectText site all a = search (steps, basics, erases_make_text) depth 14
  erases_library_one _ site all a = search (steps) depth 14

  pub erases_library_two : (o : LibOp) (site : ℕ) (all a b : Carried A) → Value₂ (library_two w o site all a b) (library_two w' o site (er all) (er a) (er b))
  unfolding library_two joined constant with_value value_of chosen
  erases_library_two op.CharAt site all a b = search (steps, erases_text_arg, erases_unit_or_fail) depth 14
  erases_library_two op.PartFrom site all a b = search (steps, erases_text_arg, erases_part_or_fail) depth 14
  erases_library_two op.Same site all a b = search (steps, erases_text_arg, erases_units_of) depth 14
  erases_library_two op.Compare site all a b = search (steps, erases_text_arg) depth 14
  erases_library_two op.Max site all a b = search (steps) depth 14
  erases_library_two op.Min site all a b = search (steps) depth 14
  erases_library_two _ site all a b = search (steps) depth 14

  pub erases_library_three : (o : LibOp) (site : ℕ) (all a b d : Carried A) → Value₂ (library_three w o site all a b d) (library_three w' o site (er all) (er a) (er b) (er d))
  unfolding library_three joined constant with_value value_of chosen
  erases_library_three op.Part site all a b d = search (steps, erases_text_arg, erases_part_or_fail) depth 14
  erases_library_three _ site all a b d = search (steps) depth 14

  pub erases_library : (o : LibOp) (site : ℕ) (vs : List (Carried A)) → Value₂ (library w o site vs) (library w' o site (all_erased A vs))
  unfolding library joined constant with_value value_of chosen
  erases_library o site [] = erases_read_byte site
  erases_library o site (a ∷ []) = subst (λ u. Value₂ (library_one w o site (joined_all (a ∷ [])) a) (library_one w' o site u (er a))) (sym (joined_all_same A (a ∷ []))) (erases_library_one o site (joined_all (a ∷ [])) a)
  erases_library o site (a ∷ b ∷ []) = subst (λ u. Value₂ (library_two w o site (joined_all (a ∷ b ∷ [])) a b) (library_two w' o site u (er a) (er b))) (sym (joined_all_same A (a ∷ b ∷ []))) (erases_library_two o site (joined_all (a ∷ b ∷ [])) a b)
  erases_library o site (a ∷ b ∷ d ∷ rest) = subst (λ u. Value₂ (library_three w o site (joined_all (a ∷ b ∷ d ∷ rest)) a b d) (library_three w' o site u (er a) (er b) (er d))) (sym (joined_all_same A (a ∷ b ∷ d ∷ rest))) (erases_library_three o site (joined_all (a ∷ b ∷ d ∷ rest)) a b d)

  pub erases_library_form : (o : LibOp) (ms : List (Run A (Carried A))) (ks : List (Run nothing (Carried nothing))) (site : ℕ) → AllErase A ms ks → Value₂ (library_form w o ms site) (library_form w' o ks site)
  unfolding library_form joined constant with_value value_of chosen
  erases_library_form o ms ks site h = with_all _ _ (erases_all_of A ms ks h) (λ vs. erases_library o site vs)

  pub erases_part_or : (v : Value) (m : Option (Run A (Carried A))) (k : Option (Run nothing (Carried nothing))) → PartErases A m k → Value₂ (part_or v m) (part_or v k)
  unfolding part_or joined constant with_value value_of chosen
  erases_part_or v Absent Absent h = search (steps) depth 14
  erases_part_or v Absent (Some k) h = absurd h
  erases_part_or v (Some m) Absent h = absurd h
  erases_part_or v (Some m) (Some k) h = h

  pub erases_update : (x : Located A) (y : Located nothing) (o : BinOp) (m : Run A (Carried A)) (k : Run nothing (Carried nothing)) (ty : Ty) (wide : Option Primitive) (gives_old : Bool) (site : ℕ) → PlaceErases A x y → Value₂ m k → Value₂ (update w x o m ty wide gives_old site) (update w' y o k ty wide gives_old site)
  unfolding update joined constant with_value value_of chosen
  erases_update x y o m k ty Absent gives_old site h hm = erases_append_place x y m k site h hm
  erases_update x y o m k ty (Some wide) gives_old site h hm = erases_update_place x y o m k ty wide gives_old site h hm

  pub erases_unary : (o : UnOp) (m : Run A (Carried A)) (k : Run nothing (Carried nothing)) → Value₂ m k → Value₂ (unary o m) (unary o k)
  unfolding unary joined constant with_value value_of chosen
  erases_unary o m k h = with_carried _ _ h (λ v. erases_return _ (with_value (unary_of o v.value) v) _ refl)

  pub erases_binary : (o : BinOp) (l r : Run A (Carried A)) (l' r' : Run nothing (Carried nothing)) (site : ℕ) → Value₂ l l' → Value₂ r r' → Value₂ (binary w o l r site) (binary w' o l' r' site)
  unfolding binary joined constant with_value value_of chosen
  erases_binary o l r l' r' site hl hr = with_carried _ _ hl (λ a. with_carried _ _ hr (λ b. erases_divided site (joined val.None a b) _))

  pub erases_convert : (to : Primitive) (m : Run A (Carried A)) (k : Run nothing (Carried nothing)) → Value₂ m k → Value₂ (convert to m) (convert to k)
  unfolding convert joined constant with_value value_of chosen
  erases_convert to m k h = with_carried _ _ h (λ v. erases_return _ (with_value (converted to v.value) v) _ refl)

  pub erases_cast : (ty : Ty) (m : Run A (Carried A)) (k : Run nothing (Carried nothing)) (site : ℕ) → Value₂ m k → Value₂ (cast w ty m site) (cast w' ty k site)
  unfolding cast joined constant with_value value_of chosen
  erases_cast ty m k site h = search (steps, basics, erases_fail) depth 16

  pub erases_instance_of : (ty : Ty) (m : Run A (Carried A)) (k : Run nothing (Carried nothing)) → Value₂ m k → Value₂ (instance_of w ty m) (instance_of w' ty k)
  unfolding instance_of joined constant with_value value_of chosen
  erases_instance_of ty m k h = search (steps, basics) depth 16

  pub erases_arm : (e : Made A) (v : Value) (m : Option (Run A (Carried A))) (k : Option (Run nothing (Carried nothing))) → PartErases A m k → Value₂ (arm e v m) (arm (made_erased A e) v k)
  unfolding arm joined constant with_value value_of chosen
  erases_arm e v Absent Absent h = search (steps) depth 14
  erases_arm e v Absent (Some k) h = absurd h
  erases_arm e v (Some m) Absent h = absurd h
  erases_arm e v (Some m) (Some k) h = with_carried _ _ h (λ x. erases_return _ (chosen e x) _ refl)

  pub erases_conditional : (t : Run A (Carried A)) (t' : Run nothing (Carried nothing)) (a b : Option (Run A (Carried A))) (a' b' : Option (Run nothing (Carried nothing))) (site : ℕ) → Value₂ t t' → PartErases A a a' → PartErases A b b' → Value₂ (conditional t a b site) (conditional t' a' b' site)
  unfolding conditional joined constant with_value value_of chosen
  erases_conditional t t' a b a' b' site ht ha hb = erases_scoped _ (with_carried _ _ ht (λ v. with_made _ _ (erases_activating _ _ (erases_note _ _ v)) (λ e. erases_choose _ _ (erases_arm e v.value a a' ha) (erases_arm e v.value b b' hb))))

  pub erases_call : (f : CallForm) (i : ℕ) (m : Option (Run A (Carried A))) (k : Option (Run nothing (Carried nothing))) (ms : List (Run A (Carried A))) (ks : List (Run nothing (Carried nothing))) (site : ℕ) → PartErases A m k → AllErase A ms ks → Value₂ (call w f i m ms site) (call w' f i k ks site)
  unfolding call joined constant with_value value_of chosen
  erases_call form.Static i m k ms ks site h hs = erases_call_static i ms ks site hs
  erases_call _ i m k ms ks site h hs = erases_call_on _ i _ _ ms ks site (erases_part_or _ m k h) hs

  refl_constant : (v : Value) → constant v ≡ er (constant v)
  unfolding constant
  refl_constant v = refl

  mutual
    unfolding eval locate eval_part eval_row

    pub erases_eval : (e : Expression) → Value₂ (eval w e) (eval w' e)
    erases_eval (Const v) = after _ (erases_tick _) (erases_return _ _ _ (refl_constant _))
    erases_eval (Str k) = after _ (erases_tick _) (erases_return _ _ _ (refl_constant _))
    erases_eval (Read place) = after _ (erases_tick _) (erases_read_place _ _ (erases_locate place))
    erases_eval (Set place value site) = after _ (erases_tick _) (erases_set_place _ _ _ _ site (erases_locate place) (erases_eval value))
    erases_eval (Upd place o value value_ty ty wide gives_old site) = after _ (erases_tick _) (erases_update _ _ o _ _ ty wide gives_old site (erases_locate place) (erases_part_or _ _ _ (erases_part value)))
    erases_eval (Un o operand) = after _ (erases_tick _) (erases_unary o _ _ (erases_eval operand))
    erases_eval (Bin o left right site) = after _ (erases_tick _) (erases_binary o _ _ _ _ site (erases_eval left) (erases_eval right))
    erases_eval (Conv to operand) = after _ (erases_tick _) (erases_convert to _ _ (erases_eval operand))
    erases_eval (Cast ty operand site) = after _ (erases_tick _) (erases_cast ty _ _ site (erases_eval operand))
    erases_eval (InstanceOf ty operand) = after _ (erases_tick _) (erases_instance_of ty _ _ (erases_eval operand))
    erases_eval (Cond f test a b site) = after _ (erases_tick _) (erases_conditional _ _ _ _ _ _ site (erases_eval test) (erases_part a) (erases_part b))
    erases_eval (New k constructor args site) = after _ (erases_tick _) (erases_create k constructor _ _ site (erases_row args))
    erases_eval (NewArray ty dims elements sites site) = after _ (erases_tick _) (erases_new_array ty _ _ _ _ sites site (erases_row dims) (erases_row elements))
    erases_eval (Call f m receiver ty args site) = after _ (erases_tick _) (erases_call f m _ _ _ _ site (erases_part receiver) (erases_row args))
    erases_eval (Cat left right left_ty right_ty site) = after _ (erases_tick _) (erases_cat _ _ _ _ site (erases_eval left) (erases_eval right))
    erases_eval (Lib o args site) = after _ (erases_tick _) (erases_library_form o _ _ site (erases_row args))

    erases_locate : (x : Place) → PlaceErases A (locate w x) (locate w' x)
    erases_locate (Local i) = refl
    erases_locate (Static f site) = refl
    erases_locate (Field object f site) = (eval w' object, refl, erases_eval object)
    erases_locate (Elem array index site) = (eval w' array, eval w' index, refl, erases_eval array, erases_eval index)

    erases_part : (x : Part) → PartErases A (eval_part w x) (eval_part w' x)
    erases_part absent = tt
    erases_part (the e) = erases_eval e

    erases_row : (x : Row) → AllErase A (eval_row w x) (eval_row w' x)
    erases_row none = tt
    erases_row (more e rest) = (erases_eval e, erases_row rest)

  pub erases_statement : (number : ℕ) (m : Run A Unit) (k : Run nothing Unit) → Plain₂ m k → Plain₂ (statement number m) (statement number k)
  unfolding statement joined constant with_value value_of chosen
  erases_statement number m k h = after _ (erases_tick _) (erases_reaching _ number (erases_covered _ number h))

  erases_armed : (site reach n : ℕ) (v : Carried A) → Plain₂ (armed site reach n v) (armed site reach n (value_erased A v))
  unfolding armed
  erases_armed site reach n v = with_option _ (erases_frame _) (λ f. with_made _ _ (erases_activating _ _ (erases_note _ _ v)) (λ e. erases_return _ tt tt refl))

  pub erases_tested : (site reach : ℕ) (m : Run A (Carried A)) (k : Run nothing (Carried nothing)) → Value₂ m k → Plain₂ (tested site reach m) (tested site reach k)
  unfolding tested joined constant with_value value_of chosen
  erases_tested site reach m k h = with_carried _ _ h (λ v. after _ (erases_armed site reach _ v) (erases_return _ _ _ refl))

  pub erases_evaluated : (m : Run A (Carried A)) (k : Run nothing (Carried nothing)) → Value₂ m k → Plain₂ (evaluated m) (evaluated k)
  unfolding evaluated joined constant with_value value_of chosen
  erases_evaluated m k h = with_carried _ _ h (λ v. erases_return _ tt tt refl)

  pub erases_declaration : (i : ℕ) → Plain₂ (declaration i) (declaration i)
  unfolding declaration joined constant with_value value_of chosen
  erases_declaration i = search (steps) depth 14

  pub erases_if : (t : Run A Bool) (t' : Run nothing Bool) (a b : Run A Unit) (a' b' : Run nothing Unit) → Plain₂ t t' → Plain₂ a a' → Plain₂ b b' → Plain₂ (if_form t a b) (if_form t' a' b')
  unfolding if_form joined constant with_value value_of chosen
  erases_if t t' a b a' b' ht ha hb = with_flag _ ht (λ x. erases_choose _ x ha hb)

  pub erases_turns : (i : ℕ) (t : Run A Bool) (t' : Run nothing Bool) (m : Run A Unit) (k : Run nothing Unit) → Plain₂ t t' → Plain₂ m k → Plain₂ (turns i t m) (turns i t' k)
  unfolding turns joined constant with_value value_of chosen
  erases_turns zero t t' m k ht h = erases_stop _ _
  erases_turns (suc i) t t' m k ht h = with_flag _ ht (λ x. erases_choose _ x (after _ h (erases_turns i t t' m k ht h)) (erases_return _ tt tt refl))

  pub erases_while : (t : Run A Bool) (t' : Run nothing Bool) (m : Run A Unit) (k : Run nothing Unit) → Plain₂ t t' → Plain₂ m k → Plain₂ (while_form t m) (while_form t' k)
  unfolding while_form joined constant with_value value_of chosen
  erases_while t t' m k ht h = with_number _ (erases_steps_left _) (λ i. erases_turns (suc i) t t' m k ht h)

  pub erases_do : (m : Run A Unit) (k : Run nothing Unit) (t : Run A Bool) (t' : Run nothing Bool) → Plain₂ m k → Plain₂ t t' → Plain₂ (do_form m t) (do_form k t')
  unfolding do_form joined constant with_value value_of chosen
  erases_do m k t t' h ht = with_number _ (erases_steps_left _) (λ i. after _ h (erases_turns (suc i) t t' m k ht h))

  pub erases_for_test : (site reach : ℕ) (m : Option (Run A (Carried A))) (k : Option (Run nothing (Carried nothing))) → PartErases A m k → Plain₂ (for_test site reach m) (for_test site reach k)
  unfolding for_test joined constant with_value value_of chosen
  erases_for_test site reach Absent Absent h = erases_return _ true true refl
  erases_for_test site reach Absent (Some k) h = absurd h
  erases_for_test site reach (Some m) Absent h = absurd h
  erases_for_test site reach (Some m) (Some k) h = erases_tested site reach m k h

  pub erases_for : (i : Run A Unit) (i' : Run nothing Unit) (t : Run A Bool) (t' : Run nothing Bool) (u : Run A Unit) (u' : Run nothing Unit) (m : Run A Unit) (k : Run nothing Unit) → Plain₂ i i' → Plain₂ t t' → Plain₂ u u' → Plain₂ m k → Plain₂ (for_form i t u m) (for_form i' t' u' k)
  unfolding for_form joined constant with_value value_of chosen
  erases_for i i' t t' u u' m k hi ht hu h = after _ hi (erases_while t t' _ _ ht (after _ h hu))

  pub erases_jump : (site target : ℕ) → Plain₂ (jump site target) (jump site target)
  unfolding jump joined constant with_value value_of chosen
  erases_jump site target = with_made _ _ (erases_note _ _ (constant val.None)) (λ e. erases_leave _ (Jumped target e.number) _ refl)

  pub erases_return_form : (site : ℕ) (m : Run A (Carried A)) (k : Run nothing (Carried nothing)) → Value₂ m k → Plain₂ (return_form site m) (return_form site k)
  unfolding return_form joined constant with_value value_of chosen
  erases_return_form site m k h = with_carried _ _ h (λ v. with_made _ _ (erases_note _ _ v) (λ e. erases_leave _ (Returned e.number (value_of e v.value)) _ refl))

  pub erases_throw_form : (site : ℕ) (m : Run A (Carried A)) (k : Run nothing (Carried nothing)) → Value₂ m k → Plain₂ (throw_form w site m) (throw_form w' site k)
  unfolding throw_form joined constant with_value value_of chosen
  erases_throw_form site m k h = with_carried _ _ h (λ v. erases_choose _ _ (erases_fail _ site v) (erases_throwing A site v))

  abbrev ClausesErase : List (Clause A) → List (Clause nothing) → Type 0
  ClausesErase [] y = y ≡ []
  ClausesErase (x ∷ xs) y = (k : Run nothing Unit) × (ks : List (Clause nothing)) × (y ≡ record { class = x.class; local = x.local; site = x.site; number = x.number; block = k } ∷ ks) × Plain₂ x.block k × ClausesErase xs ks

  abbrev OptionErases : Option (Run A Unit) → Option (Run nothing Unit) → Type 0
  OptionErases Absent Absent = Unit {0}
  OptionErases Absent (Some k) = ⊥
  OptionErases (Some m) Absent = ⊥
  OptionErases (Some m) (Some k) = Plain₂ m k

  erases_caught : (x : Clause A) (k : Run nothing Unit) (v : Carried A) → Plain₂ x.block k → Plain₂ (caught x v) (caught (record { class = x.class; local = x.local; site = x.site; number = x.number; block = k }) (er v))
  unfolding caught
  erases_caught x k v h = with_option _ (erases_frame _) (λ f. with_made _ _ (erases_activating _ _ (erases_note_write _ _ v)) (λ e. h))

  erases_handle : (xs : List (Clause A)) (ys : List (Clause nothing)) (k e : ℕ) (v : Carried A) → ClausesErase xs ys → Plain₂ (handle p xs k e v) (handle p ys k e (er v))
  unfolding handle
  erases_handle [] ys k e v h = subst (λ z. Plain₂ (leave (Threw e v)) (handle p z k e (er v))) (sym h) (erases_leave _ (Threw e v) _ refl)
  erases_handle (x ∷ xs) ys k e v h = subst (λ z. Plain₂ (handle p (x ∷ xs) k e v) (handle p z k e (er v))) (sym h.2) (erases_choose _ _ (erases_caught x h.0 v h.3) (erases_handle xs h.1 k e v h.4))

  erases_at_throw : (xs : List (Clause A)) (ys : List (Clause nothing)) (why : Reason A) → ClausesErase xs ys → Plain₂ (at_throw w xs why) (at_throw w' ys (reason_erased A why))
  unfolding at_throw
  erases_at_throw xs ys (Jumped target e) h = erases_leave _ (Jumped target e) _ refl
  erases_at_throw xs ys (Returned e v) h = erases_leave _ (Returned e v) _ refl
  erases_at_throw xs ys (Threw e v) h = with_type _ (erases_type_of A v.value) (λ ty. erases_handle xs ys _ e v h)

  erases_catches : (m : Run A Unit) (k : Run nothing Unit) (xs : List (Clause A)) (ys : List (Clause nothing)) → Plain₂ m k → ClausesErase xs ys → Plain₂ (catching m (at_throw w xs)) (catching k (at_throw w' ys))
  erases_catches m k xs ys h hs = erases_catching _ _ h (λ why. erases_at_throw xs ys why hs)

  erases_finally : (m : Run A Unit) (k : Run nothing Unit) (l : Run A Unit) (j : Run nothing Unit) → Plain₂ m k → Plain₂ l j → Plain₂ (finally m l) (finally k j)
  unfolding finally
  erases_finally m k l j h hl = after _ (erases_catching _ _ h (λ why. after _ hl (erases_leave _ why _ refl))) hl

  erases_try : (m : Run A Unit) (k : Run nothing Unit) (xs : List (Clause A)) (ys : List (Clause nothing)) (l : Option (Run A Unit)) (j : Option (Run nothing Unit)) → Plain₂ m k → ClausesErase xs ys → OptionErases l j → Plain₂ (try_form w m xs l) (try_form w' k ys j)
  unfolding try_form
  erases_try m k xs ys Absent Absent h hs hl = erases_catches m k xs ys h hs
  erases_try m k xs ys Absent (Some j) h hs hl = absurd hl
  erases_try m k xs ys (Some l) Absent h hs hl = absurd hl
  erases_try m k xs ys (Some l) (Some j) h hs hl = erases_finally _ _ l j (erases_catches m k xs ys h hs) hl

  erases_print_form : (m : Option (Run A (Carried A))) (k : Option (Run nothing (Carried nothing))) (b : Bool) (site : ℕ) → PartErases A m k → Plain₂ (print_form w m b site) (print_form w' k b site)
  unfolding print_form
  erases_print_form Absent Absent b site h = erases_print_nothing b site
  erases_print_form Absent (Some k) b site h = absurd h
  erases_print_form (Some m) Absent b site h = absurd h
  erases_print_form (Some m) (Some k) b site h = erases_print_value m k b site h

  erases_other_or : (m : Option (Run A Unit)) (k : Option (Run nothing Unit)) → OptionErases m k → Plain₂ (other_or m) (other_or k)
  unfolding other_or
  erases_other_or Absent Absent h = erases_return _ tt tt refl
  erases_other_or Absent (Some k) h = absurd h
  erases_other_or (Some m) Absent h = absurd h
  erases_other_or (Some m) (Some k) h = h

  mutual
    unfolding exec exec_act exec_other exec_all exec_catches

    pub erases_exec : (x : Statement) → Plain₂ (exec w x) (exec w' x)
    erases_exec (Stmt number site askable reach act) = erases_statement number _ _ (erases_act site reach act)

    erases_act : (site reach : ℕ) (x : Act) → Plain₂ (exec_act w site reach x) (exec_act w' site reach x)
    erases_act site reach (Block parts) = erases_exec_all parts
    erases_act site reach (Eval value) = erases_evaluated _ _ (erases_eval value)
    erases_act site reach (Declare i) = erases_declaration i
    erases_act site reach (If test a b) = erases_if _ _ _ _ _ _ (erases_tested site reach _ _ (erases_eval test)) (erases_exec a) (erases_other_or _ _ (erases_other b))
    erases_act site reach (While test m) = erases_while _ _ _ _ (erases_tested site reach _ _ (erases_eval test)) (erases_exec m)
    erases_act site reach (Do m test) = erases_do _ _ _ _ (erases_exec m) (erases_tested site reach _ _ (erases_eval test))
    erases_act site reach (For inits test updates m) = erases_for _ _ _ _ _ _ _ _ (erases_exec_all inits) (erases_for_test site reach _ _ (erases_part test)) (erases_exec_all updates) (erases_exec m)
    erases_act site reach (Labelled m) = erases_exec m
    erases_act site reach (Jump target) = erases_jump site target
    erases_act site reach (Return value) = erases_return_form site _ _ (erases_part_or _ _ _ (erases_part value))
    erases_act site reach (Throw value) = erases_throw_form site _ _ (erases_eval value)
    erases_act site reach (Try m clauses last) = erases_try _ _ _ _ _ _ (erases_exec m) (erases_clauses clauses) (erases_other last)
    erases_act site reach (Print operand ty b at) = erases_print_form _ _ b at (erases_part operand)

    erases_other : (x : Other) → OptionErases (exec_other w x) (exec_other w' x)
    erases_other no_statement = tt
    erases_other (this s) = erases_exec s

    erases_exec_all : (x : Statements) → Plain₂ (exec_all w x) (exec_all w' x)
    erases_exec_all done = erases_return _ tt tt refl
    erases_exec_all (first s rest) = after _ (erases_exec s) (erases_exec_all rest)

    erases_clauses : (x : Catches) → ClausesErase (exec_catches w x) (exec_catches w' x)
    erases_clauses uncaught = refl
    erases_clauses (catch k local site block rest) = (exec w' block, exec_catches w' rest, refl, erases_exec block, erases_clauses rest)

  -- ---- calls and initializations

  erases_bind_all : (vs : List (Carried A)) (b : Body) (f i : ℕ) → Plain₂ (bind_all b f i vs) (bind_all b f i (all_erased A vs))
  unfolding bind_all
  erases_bind_all [] b f i = erases_return _ tt tt refl
  erases_bind_all (v ∷ vs) b f i = with_made _ _ (erases_note_write _ _ v) (λ e. erases_bind_all vs b f (suc i))

  erases_end_body : (b : Bool) (site : ℕ) → Value₂ (end_body b site) (end_body b site)
  unfolding end_body constant value_of
  erases_end_body false site = erases_stop _ _
  erases_end_body true site = with_made _ _ (erases_note _ _ (constant val.None)) (λ e. erases_return _ (value_of e val.None) _ refl)

  erases_at_return : (why : Reason A) → Value₂ (at_return why) (at_return (reason_erased A why))
  unfolding at_return
  erases_at_return (Jumped target e) = erases_leave _ (Jumped target e) _ refl
  erases_at_return (Returned e v) = erases_return _ v _ refl
  erases_at_return (Threw e v) = erases_leave _ (Threw e v) _ refl

  erases_run_body : (m : Run A Unit) (k : Run nothing Unit) (b : Bool) (site : ℕ) → Plain₂ m k → Value₂ (run_body m b site) (run_body k b site)
  unfolding run_body
  erases_run_body m k b site h = erases_catching _ _ (after _ h (erases_end_body b site)) (λ why. erases_at_return why)

  erases_frame_of_call : (b : Body) (m : Run A Unit) (k : Run nothing Unit) (void : Bool) (f : ℕ) (vs : List (Carried A)) → Plain₂ m k → Value₂ (frame_of_call b m void f vs) (frame_of_call b k void f (all_erased A vs))
  unfolding frame_of_call
  erases_frame_of_call b m k void f vs h = after _ (erases_bind_all vs b f 0) (erases_run_body m k void _ h)

  call_uses_same : (f : MethodForm) (r : Option (Carried A)) → call_uses f (option_erased A r) ≡ er (call_uses f r)
  unfolding call_uses constant
  call_uses_same kinds.Constructor r = refl
  call_uses_same _ Absent = refl
  call_uses_same _ (Some v) = refl

  bound_same : (r : Option (Carried A)) (args : List (Carried A)) → bound (option_erased A r) (all_erased A args) ≡ all_erased A (bound r args)
  unfolding bound
  bound_same Absent args = refl
  bound_same (Some v) args = refl

  call_noted : (reach : Reach) (d : Draft) (u : Carried nothing) (v : Carried A) → u ≡ er v → Erases A (made_erased A) (activating reach (note d v)) (activating reach (note d u))
  call_noted reach d u v h = subst (λ z. Erases A (made_erased A) (activating reach (note d v)) (activating reach (note d z))) (sym h) (erases_activating _ reach (erases_note _ d v))

  frame_same : (b : Body) (m : Run A Unit) (k : Run nothing Unit) (void : Bool) (f : ℕ) (vs : List (Carried A)) (us : List (Carried nothing)) → us ≡ all_erased A vs → Plain₂ m k → Value₂ (frame_of_call b m void f vs) (frame_of_call b k void f us)
  frame_same b m k void f vs us e h = subst (λ z. Value₂ (frame_of_call b m void f vs) (frame_of_call b k void f z)) (sym e) (erases_frame_of_call b m k void f vs h)

  erases_call_method : (site i : ℕ) (d : Method) (b : Body) (m : Run A Unit) (k : Run nothing Unit) (r : Option (Carried A)) (args : List (Carried A)) → Plain₂ m k → Value₂ (call_method site i d b m r args) (call_method site i d b k (option_erased A r) (all_erased A args))
  unfolding call_method
  erases_call_method site i d b m k r args h = erases_scoped _ (with_made _ _ (call_noted _ _ _ _ (call_uses_same d.form r)) (λ e. erases_in_frame _ e.number (frame_same b m k _ e.number _ _ (bound_same r args) h)))

  erases_at_failure : (why : Reason A) → Plain₂ (at_failure why) (at_failure (reason_erased A why))
  unfolding at_failure
  erases_at_failure (Jumped target e) = erases_leave _ (Jumped target e) _ refl
  erases_at_failure (Returned e v) = erases_leave _ (Returned e v) _ refl
  erases_at_failure (Threw e v) = erases_stop _ _

  erases_initialize_above : (site : ℕ) (above : Option ℕ) → Plain₂ (initialize_above w site above) (initialize_above w' site above)
  unfolding initialize_above
  erases_initialize_above site Absent = erases_return _ tt tt refl
  erases_initialize_above site (Some k) = erases_initialize site k

  init_noted : (reach : Reach) (d : Draft) → Erases A (made_erased A) (activating reach (note_new p d (constant val.None))) (activating reach (note_new p d (constant val.None)))
  unfolding constant
  init_noted reach d = erases_activating _ reach (erases_note_new _ p d (constant val.None))

  pub erases_initialization : (site k : ℕ) (m : Run A Unit) (j : Run nothing Unit) → Plain₂ m j → Plain₂ (initialization w site k m) (initialization w' site k j)
  unfolding initialization
  erases_initialization site k m j h = erases_scoped _ (with_made _ _ (init_noted _ _) (λ e. erases_in_frame _ e.number (after _ (erases_initialize_above _ _) (erases_catching _ _ h (λ why. erases_at_failure why)))))

  pub erases_call_body : (site i : ℕ) (o : Option Body) (r : Option (Carried A)) (args : List (Carried A)) → Value₂ (call_body w site i o r args) (call_body w' site i o (option_erased A r) (all_erased A args))
  unfolding call_body
  erases_call_body site i Absent r args = erases_stop _ _
  erases_call_body site i (Some b) r args = erases_call_method site i _ b _ _ r args (erases_exec b.block)

  pub erases_init_block : (o : Option Body) → Plain₂ (init_block w o) (init_block w' o)
  unfolding init_block
  erases_init_block Absent = erases_return _ tt tt refl
  erases_init_block (Some b) = erases_exec b.block

  zero_array : (site : ℕ) → Erases A (made_erased A) (make_array w site strings 0 (constant (val.Int (pos 0)))) (make_array w' site strings 0 (constant (val.Int (pos 0))))
  unfolding constant
  zero_array site = erases_make_array site strings 0 (constant (val.Int (pos 0)))

  pub erases_main_run : Value₂ (main_run w) (main_run w')
  unfolding main_run value_of
  erases_main_run = after _ (erases_initialize _ _) (with_made _ _ (zero_array _) (λ e. calls _ _ Absent (value_of e (val.Object e.number) ∷ [])))
