-- What the steps of a run have, and what is put together of them, the run of every expression has.
use Rattle.std.proofs.Common.{ℕ, zero, suc, Bool, true, false, List, [], ◌∷◌, Option, Some}
use Rattle.std.specs.Prelude.{None as Absent}
use Rattle.std.specs.Prelude.{ℤ}
use Rattle.wy_kernel.specs.Form.{Expression, Const, Str, Read, Set, Upd, Un, Bin, Conv, Cast, InstanceOf, Cond, New, NewArray, Call, Cat, Lib, Place, Local, Static, Field, Elem, Part, absent, the, Row, none, more}
use Rattle.wy_kernel.specs.declared.operator.Primitive.{Primitive}
use Rattle.wy_kernel.specs.declared.operator.BinOp.{BinOp}
use Rattle.wy_kernel.specs.declared.operator.UnOp.{UnOp}
use Rattle.wy_kernel.specs.declared.types.Ty.{Ty}
use Rattle.wy_kernel.specs.declared.form.CallForm.{CallForm}
use Rattle.wy_kernel.specs.declared.form.CallForm.TheVariants as form
use Rattle.wy_kernel.specs.declared.form.LibOp.{LibOp}
use Rattle.wy_kernel.specs.declared.form.LibOp.TheVariants as op
use Rattle.wy_kernel.specs.Program.{Program, is_source}
use Rattle.wy_value.specs.declared.value.Value.{Value}
use Rattle.wy_value.specs.declared.value.Value.TheVariants as val
use Rattle.wy_event.specs.declared.record.Slot.{Slot}
use Rattle.wy_event.specs.declared.record.Slot.TheVariants as slot
use Rattle.wy_steps.specs.Sets.{Sets}
use Rattle.wy_steps.specs.State.{Carried, Run, Unassigned, ◌>>=◌, ◌>>◌, return, stop, choose}
use Rattle.wy_steps.specs.Steps.{Made, Draft, constant, tick, frame, event_at, is_begun, read, declare, note, note_write, note_new, take_elements, take_units, room_for_output, write_out, next_byte}
use Rattle.wy_meaning.specs.World.{World, throwing, fail, type_of, units_of, length_of, object_of, all_of}
use Rattle.wy_meaning.specs.Place.{Located, AtLocal, AtStatic, AtField, AtElem, Spot, initialize_source, initialize, local_spot, static_spot, field_spot, checked_index, element_spot, find, fetch, read_place, assign, check_store, store, set_place, divided, update_place}
use Rattle.wy_meaning.specs.Text.{call_chosen, shown_as, shown, spelled_as, make_text, concatenated, cat, append_place, print, print_value, print_nothing}
use Rattle.wy_meaning.specs.Call.{text_equals, call_on_text, call_form, call_on, call_static, construct, create}
use Rattle.wy_meaning.specs.Array.{make_array, for_each, subarrays, make_arrays, create_array, set_elements, create_filled, new_array}
use Rattle.wy_meaning.specs.Library.{text_arg, unit_or_fail, part_or_fail, int_or_fail, parse, read_byte, library_one, library_two, library_three, library, library_form}
use Rattle.wy_meaning.specs.Expression.{part_or, update, unary, binary, convert, cast, instance_of, arm, conditional, call, eval, locate, eval_part, eval_row}
use Rattle.wy_meaning.specs.Statement.{evaluated, declaration, throw_form, print_form}
use Rattle.law_induction.specs.Composed.{Composed}

module _ (A : Sets) (Q : (X : Type 0) → Run A X → Type 0) where
  -- what a call and what the need of a class do
  pub record WorldHas (w : World A) : Type 0 where
    pub call : (site m : ℕ) (receiver : Option (Carried A)) (args : List (Carried A)) → Q _ (w.call site m receiver args)
    pub enter : (site c : ℕ) → Q _ (w.enter site c)

  -- runs that are parts of an expression
  abbrev pub AllHave : List (Run A (Carried A)) → Type 0
  AllHave [] = Unit {0}
  AllHave (m ∷ ms) = Q _ m × AllHave ms

  abbrev pub PlaceHas : Located A → Type 0
  PlaceHas (AtLocal i) = Unit {0}
  PlaceHas (AtStatic f site) = Unit {0}
  PlaceHas (AtField object f site) = Q _ object
  PlaceHas (AtElem array index site) = Q _ array × Q _ index

  abbrev pub PartHas : Option (Run A (Carried A)) → Type 0
  PartHas Absent = Unit {0}
  PartHas (Some m) = Q _ m

module _ (A : Sets) (Q : (X : Type 0) → Run A X → Type 0) (kept : Composed A Q) where
  -- the rules, as a search can list them

  bind : {X Y : Type 0} {m : Run A X} {f : X → Run A Y} → Q _ m → ((x : X) → Q _ (f x)) → Q _ (m >>= f)
  bind = kept.bind

  after : {X Y : Type 0} {m : Run A X} {k : Run A Y} → Q _ m → Q _ k → Q _ (m >> k)
  after = kept.after

  on_choose : {X : Type 0} {m k : Run A X} (b : Bool) → Q _ m → Q _ k → Q _ (choose b m k)
  on_choose = kept.on_choose

  on_return : {X : Type 0} (x : X) → Q _ (return x)
  on_return = kept.on_return

  on_throwing : (X : Type 0) (site : ℕ) (v : Carried A) → Q X (throwing site v)
  on_throwing = kept.on_throwing

  on_unassigned : {X : Type 0} → Q X (stop Unassigned)
  on_unassigned = kept.on_unassigned

  on_tick : Q _ tick
  on_tick = kept.on_tick

  on_frame : Q _ frame
  on_frame = kept.on_frame

  on_event_at : (n : ℕ) → Q _ (event_at n)
  on_event_at = kept.on_event_at

  on_is_begun : (c : ℕ) → Q _ (is_begun c)
  on_is_begun = kept.on_is_begun

  on_read : (x : Slot) → Q _ (read x)
  on_read = kept.on_read

  on_declare : (x : Slot) → Q _ (declare x)
  on_declare = kept.on_declare

  on_take_elements : (n : ℕ) → Q _ (take_elements n)
  on_take_elements = kept.on_take_elements

  on_take_units : (n : ℕ) → Q _ (take_units n)
  on_take_units = kept.on_take_units

  on_room_for_output : (bytes : List ℕ) → Q _ (room_for_output bytes)
  on_room_for_output = kept.on_room_for_output

  on_write_out : (bytes : List ℕ) → Q _ (write_out bytes)
  on_write_out = kept.on_write_out

  on_next_byte : Q _ next_byte
  on_next_byte = kept.on_next_byte

  on_note : (x : Draft) (v : Carried A) → Q _ (note x v)
  on_note = kept.on_note

  on_note_write : (x : Draft) (v : Carried A) → Q _ (note_write x v)
  on_note_write = kept.on_note_write

  on_note_new : (p : Program) (x : Draft) (v : Carried A) → Q _ (note_new p x v)
  on_note_new = kept.on_note_new

  ruleset steps = (bind, after, on_choose, on_return, on_unassigned, on_tick, on_frame, on_event_at, on_is_begun, on_read, on_declare, on_take_elements, on_take_units, on_room_for_output, on_write_out, on_next_byte, on_note, on_note_write, on_note_new)

  -- ---- the machine's own throws, and what values refer to

  pub on_fail : (w : World A) (X : Type 0) (c site : ℕ) (v : Carried A) → Q X (fail w c site v)
  unfolding fail
  on_fail w X c site v = search (steps, on_throwing) depth 12

  pub on_type_of : (v : Value) → Q _ (type_of v)
  unfolding type_of
  on_type_of (val.Object n) = search steps depth 12
  on_type_of _ = search steps depth 12

  pub on_units_of : (w : World A) (v : Value) → Q _ (units_of w v)
  unfolding units_of
  on_units_of w (val.Text n) = search steps depth 12
  on_units_of w _ = search steps depth 12

  pub on_length_of : (n : ℕ) → Q _ (length_of n)
  unfolding length_of
  on_length_of n = search steps depth 12

  pub on_object_of : (w : World A) (site : ℕ) (c : Carried A) (v : Value) → Q _ (object_of w site c v)
  unfolding object_of
  on_object_of w site c (val.Object n) = on_return n
  on_object_of w site c _ = on_fail w _ _ site c

  pub on_all_of : (ms : List (Run A (Carried A))) → AllHave A Q ms → Q _ (all_of ms)
  unfolding all_of
  on_all_of [] h = on_return []
  on_all_of (m ∷ ms) h = bind h.0 (λ v. bind (on_all_of ms h.1) (λ vs. on_return (v ∷ vs)))

  ruleset looked = (on_throwing, on_fail, on_type_of, on_units_of, on_length_of, on_object_of, on_all_of)

  module _ (w : World A) (pw : WorldHas A Q w) where
    -- ---- places

    pub on_initialize_source : (site c : ℕ) (b : Bool) → Q _ (initialize_source w site c b)
    unfolding initialize_source
    on_initialize_source site c true = let enter = pw.enter in search (steps, enter) depth 12
    on_initialize_source site c false = on_return tt

    pub on_initialize : (site c : ℕ) → Q _ (initialize w site c)
    unfolding initialize
    on_initialize site c = on_initialize_source site c (is_source c)

    pub on_local_spot : (i : ℕ) → Q (Spot A) (local_spot i)
    unfolding local_spot
    on_local_spot i = search steps depth 12

    pub on_static_spot : (f site : ℕ) → Q _ (static_spot w f site)
    unfolding static_spot
    on_static_spot f site = search (steps, on_initialize) depth 12

    pub on_field_spot : (f site : ℕ) (o : Carried A) → Q _ (field_spot w f site o)
    unfolding field_spot
    on_field_spot f site o = search (steps, looked) depth 12

    pub on_checked_index : (site : ℕ) (c : Carried A) (o : Option ℕ) → Q _ (checked_index w site c o)
    unfolding checked_index
    on_checked_index site c (Some i) = on_return i
    on_checked_index site c Absent = on_fail w _ _ site c

    pub on_element_spot : (site : ℕ) (a k : Carried A) → Q _ (element_spot w site a k)
    unfolding element_spot
    on_element_spot site a k = search (steps, looked, on_checked_index) depth 14

    pub on_find : (place : Located A) → PlaceHas A Q place → Q _ (find w place)
    unfolding find
    on_find (AtLocal i) h = on_local_spot i
    on_find (AtStatic f site) h = on_static_spot f site
    on_find (AtField object f site) h = bind h (λ o. on_field_spot f site o)
    on_find (AtElem array index site) h = bind h.0 (λ a. bind h.1 (λ k. on_element_spot site a k))

    pub on_fetch : (spot : Spot A) → Q _ (fetch spot)
    unfolding fetch
    on_fetch spot = search steps depth 12

    pub on_read_place : (place : Located A) → PlaceHas A Q place → Q _ (read_place w place)
    unfolding read_place
    on_read_place place h = bind (on_find place h) (λ spot. on_fetch spot)

    pub on_assign : (site : ℕ) (spot : Spot A) (v : Carried A) → Q _ (assign site spot v)
    unfolding assign
    on_assign site spot v = search steps depth 12

    pub on_check_store : (site : ℕ) (spot : Spot A) (v : Carried A) (x : Slot) → Q _ (check_store w site spot v x)
    unfolding check_store
    on_check_store site spot v (slot.Elem n i) = search (steps, looked) depth 14
    on_check_store site spot v _ = on_return tt

    pub on_store : (site : ℕ) (spot : Spot A) (v : Carried A) → Q _ (store w site spot v)
    unfolding store
    on_store site spot v = search (steps, on_check_store, on_assign) depth 12

    pub on_set_place : (place : Located A) (right : Run A (Carried A)) (site : ℕ) → PlaceHas A Q place → Q _ right → Q _ (set_place w place right site)
    unfolding set_place
    on_set_place (AtLocal i) right site h hr = search (steps, on_local_spot, on_store) depth 12
    on_set_place (AtStatic f at) right site h hr = search (steps, on_static_spot, on_store) depth 12
    on_set_place (AtField object f at) right site h hr = search (steps, on_field_spot, on_store) depth 14
    on_set_place (AtElem array index at) right site h hr = bind h.0 (λ a. bind h.1 (λ k. bind hr (λ v. bind (on_element_spot at a k) (λ spot. on_store site spot v))))

    pub on_divided : (site : ℕ) (c : Carried A) (o : Option Value) → Q _ (divided w site c o)
    unfolding divided
    on_divided site c (Some v) = on_return _
    on_divided site c Absent = on_fail w _ _ site c

    pub on_update_place : (place : Located A) (o : BinOp) (right : Run A (Carried A)) (ty : Ty) (wide : Primitive) (gives_old : Bool) (site : ℕ) → PlaceHas A Q place → Q _ right → Q _ (update_place w place o right ty wide gives_old site)
    unfolding update_place
    on_update_place place o right ty wide gives_old site h hr = search (steps, on_find, on_fetch, on_divided, on_assign) depth 18

    -- ---- texts

    pub on_call_chosen : (site m : ℕ) (r : Carried A) (args : List (Carried A)) → Q _ (call_chosen w site m r args)
    unfolding call_chosen
    on_call_chosen site m r args = let call = pw.call in search (steps, looked, call) depth 12

    pub on_shown_as : (site : ℕ) (v : Carried A) (x : Value) → Q _ (shown_as w site v x)
    unfolding shown_as
    on_shown_as site v (val.Object n) = on_call_chosen site _ v []
    on_shown_as site v _ = on_return v

    pub on_shown : (site : ℕ) (v : Carried A) → Q _ (shown w site v)
    unfolding shown
    on_shown site v = on_shown_as site v v.value

    pub on_spelled_as : (v : Value) → Q _ (spelled_as w v)
    unfolding spelled_as
    on_spelled_as (val.Text n) = on_units_of w (val.Text n)
    on_spelled_as (val.Fixed n) = on_units_of w (val.Fixed n)
    on_spelled_as _ = on_return _

    pub on_make_text : (site : ℕ) (units : List ℕ) (c : Carried A) → Q _ (make_text site units c)
    unfolding make_text
    on_make_text site units c = search steps depth 12

    pub on_concatenated : (site : ℕ) (a b : Carried A) → Q _ (concatenated w site a b)
    unfolding concatenated
    on_concatenated site a b = search (steps, on_shown, on_spelled_as, on_make_text) depth 16

    pub on_cat : (l r : Run A (Carried A)) (site : ℕ) → Q _ l → Q _ r → Q _ (cat w l r site)
    unfolding cat
    on_cat l r site hl hr = search (steps, on_concatenated) depth 12

    pub on_append_place : (place : Located A) (right : Run A (Carried A)) (site : ℕ) → PlaceHas A Q place → Q _ right → Q _ (append_place w place right site)
    unfolding append_place
    on_append_place place right site h hr = search (steps, on_find, on_fetch, on_concatenated, on_store) depth 16

    pub on_print : (site : ℕ) (bytes : List ℕ) (v : Carried A) → Q _ (print site bytes v)
    unfolding print
    on_print site bytes v = search steps depth 12

    pub on_print_value : (operand : Run A (Carried A)) (ends_line : Bool) (site : ℕ) → Q _ operand → Q _ (print_value w operand ends_line site)
    unfolding print_value
    on_print_value operand ends_line site h = search (steps, on_shown, on_spelled_as, on_print) depth 14

    pub on_print_nothing : (ends_line : Bool) (site : ℕ) → Q (Unit {0}) (print_nothing ends_line site)
    unfolding print_nothing
    on_print_nothing ends_line site = on_print site _ (constant val.None)

    -- ---- calls

    pub on_text_equals : (a b : Carried A) → Q _ (text_equals w a b)
    unfolding text_equals
    on_text_equals a b = search (steps, looked) depth 14

    pub on_call_on_text : (b : Bool) (r : Carried A) (args : List (Carried A)) → Q _ (call_on_text w b r args)
    unfolding call_on_text
    on_call_on_text true r (v ∷ vs) = on_text_equals r v
    on_call_on_text _ r args = on_return r

    pub on_call_form : (f : CallForm) (site m : ℕ) (r : Carried A) (args : List (Carried A)) → Q _ (call_form w f site m r args)
    unfolding call_form
    on_call_form form.Chosen site m r args = search (steps, on_call_on_text, on_call_chosen) depth 12
    on_call_form _ site m r args = pw.call site m (Some r) args

    pub on_call_on : (f : CallForm) (m : ℕ) (receiver : Run A (Carried A)) (args : List (Run A (Carried A))) (site : ℕ) → Q _ receiver → AllHave A Q args → Q _ (call_on w f m receiver args site)
    unfolding call_on
    on_call_on f m receiver args site hr ha = search (steps, looked, on_call_form) depth 14

    pub on_call_static : (m : ℕ) (args : List (Run A (Carried A))) (site : ℕ) → AllHave A Q args → Q _ (call_static w m args site)
    unfolding call_static
    on_call_static m args site ha = let call = pw.call in search (steps, looked, on_initialize, call) depth 14

    pub on_construct : (site : ℕ) (constructor : Option ℕ) (object : Carried A) (args : List (Carried A)) → Q _ (construct w site constructor object args)
    unfolding construct
    on_construct site Absent object args = on_return tt
    on_construct site (Some m) object args = let call = pw.call in search (steps, call) depth 12

    pub on_create : (c : ℕ) (constructor : Option ℕ) (args : List (Run A (Carried A))) (site : ℕ) → AllHave A Q args → Q _ (create w c constructor args site)
    unfolding create
    on_create c constructor args site ha = search (steps, looked, on_initialize, on_construct) depth 16

    -- ---- arrays

    pub on_make_array : (site : ℕ) (ty : Ty) (n : ℕ) (c : Carried A) → Q _ (make_array w site ty n c)
    unfolding make_array
    on_make_array site ty n c = search steps depth 12

    pub on_for_each : (n i : ℕ) (f : ℕ → Run A Unit) → ((k : ℕ) → Q _ (f k)) → Q _ (for_each i n f)
    unfolding for_each
    on_for_each zero i f h = on_return tt
    on_for_each (suc n) i f h = after (h i) (on_for_each n (suc i) f h)

    pub on_subarrays : (ds : List (Carried A)) (site : ℕ) (ty : Ty) (parent n : ℕ) → Q _ (subarrays w site ty ds parent n)
    unfolding subarrays
    on_subarrays [] site ty parent n = on_return tt
    on_subarrays (x ∷ ds) site ty parent n = on_for_each n 0 _ (λ i.
        bind (on_make_array site ty _ x) (λ sub.
        bind (on_note_write _ _) (λ e.
        on_subarrays ds site _ sub.number _)))

    pub on_make_arrays : (site : ℕ) (ty : Ty) (ds : List (Carried A)) → Q _ (make_arrays w site ty ds)
    unfolding make_arrays
    on_make_arrays site ty [] = on_return _
    on_make_arrays site ty (x ∷ ds) = search (steps, on_make_array, on_subarrays) depth 12

    pub on_create_array : (ty : Ty) (dims : List (Run A (Carried A))) (site : ℕ) → AllHave A Q dims → Q _ (create_array w ty dims site)
    unfolding create_array
    on_create_array ty dims site h = search (steps, looked, on_make_arrays) depth 12

    pub on_set_elements : (ms : List (Run A (Carried A))) (e : Made A) (i : ℕ) (sites : List ℕ) → AllHave A Q ms → Q _ (set_elements e i sites ms)
    unfolding set_elements
    on_set_elements [] e i sites hs = on_return tt
    on_set_elements (m ∷ ms) e i sites hs =
        bind hs.0 (λ v. bind (on_note_write _ _) (λ set. on_set_elements ms e (suc i) _ hs.1))

    pub on_create_filled : (ty : Ty) (elements : List (Run A (Carried A))) (sites : List ℕ) (site : ℕ) → AllHave A Q elements → Q _ (create_filled w ty elements sites site)
    unfolding create_filled
    on_create_filled ty elements sites site h = search (steps, on_make_array, on_set_elements) depth 12

    pub on_new_array : (ty : Ty) (dims elements : List (Run A (Carried A))) (sites : List ℕ) (site : ℕ) → AllHave A Q dims → AllHave A Q elements → Q _ (new_array w ty dims elements sites site)
    unfolding new_array
    on_new_array ty [] elements sites site hd he = on_create_filled ty elements sites site he
    on_new_array ty (x ∷ ds) elements sites site hd he = on_create_array ty (x ∷ ds) site hd

    -- ---- the library

    pub on_text_arg : (site : ℕ) (c : Carried A) (v : Value) → Q _ (text_arg w site c v)
    unfolding text_arg
    on_text_arg site c (val.Text n) = on_units_of w (val.Text n)
    on_text_arg site c (val.Fixed n) = on_units_of w (val.Fixed n)
    on_text_arg site c _ = on_fail w _ _ site c

    pub on_unit_or_fail : (site : ℕ) (c : Carried A) (o : Option ℕ) → Q _ (unit_or_fail w site c o)
    unfolding unit_or_fail
    on_unit_or_fail site c (Some u) = on_return _
    on_unit_or_fail site c Absent = on_fail w _ _ site c

    pub on_part_or_fail : (site : ℕ) (c : Carried A) (o : Option (List ℕ)) → Q _ (part_or_fail w site c o)
    unfolding part_or_fail
    on_part_or_fail site c (Some units) = on_make_text site units c
    on_part_or_fail site c Absent = on_fail w _ _ site c

    pub on_int_or_fail : (site : ℕ) (c : Carried A) (o : Option ℤ) → Q _ (int_or_fail w site c o)
    unfolding int_or_fail
    on_int_or_fail site c (Some z) = on_return _
    on_int_or_fail site c Absent = on_fail w _ _ site c

    pub on_parse : (site : ℕ) (c : Carried A) (v : Value) → Q _ (parse w site c v)
    unfolding parse
    on_parse site c (val.Text n) = search (steps, looked, on_int_or_fail) depth 12
    on_parse site c (val.Fixed n) = search (steps, looked, on_int_or_fail) depth 12
    on_parse site c _ = on_fail w _ _ site c

    pub on_read_byte : (site : ℕ) → Q (Carried A) (read_byte site)
    unfolding read_byte
    on_read_byte site = search steps depth 12

    pub on_library_one : (o : LibOp) (site : ℕ) (all a : Carried A) → Q _ (library_one w o site all a)
    unfolding library_one
    on_library_one op.ArrayLength site all a = search (steps, looked) depth 12
    on_library_one op.Length site all a = search (steps, on_text_arg) depth 12
    on_library_one op.IsEmpty site all a = search (steps, on_text_arg) depth 12
    on_library_one op.Itself site all a = search (steps, on_text_arg) depth 12
    on_library_one op.ValueOf site all a = on_make_text site _ all
    on_library_one op.IntText site all a = on_make_text site _ all
    on_library_one op.ParseInt site all a = on_parse site all a.value
    on_library_one op.Abs site all a = on_return _
    on_library_one op.ClassText site all a = search (steps, looked, on_make_text) depth 12
    on_library_one op.ObjectText site all a = search (steps, looked, on_make_text) depth 12
    on_library_one _ site all a = on_return _

    pub on_library_two : (o : LibOp) (site : ℕ) (all a b : Carried A) → Q _ (library_two w o site all a b)
    unfolding library_two
    on_library_two op.CharAt site all a b = search (steps, on_text_arg, on_unit_or_fail) depth 12
    on_library_two op.PartFrom site all a b = search (steps, on_text_arg, on_part_or_fail) depth 12
    on_library_two op.Same site all a b = search (steps, looked, on_text_arg) depth 12
    on_library_two op.Compare site all a b = search (steps, on_text_arg) depth 12
    on_library_two op.Max site all a b = on_return _
    on_library_two op.Min site all a b = on_return _
    on_library_two _ site all a b = on_return _

    pub on_library_three : (o : LibOp) (site : ℕ) (all a b c : Carried A) → Q _ (library_three w o site all a b c)
    unfolding library_three
    on_library_three op.Part site all a b c = search (steps, on_text_arg, on_part_or_fail) depth 12
    on_library_three _ site all a b c = on_return _

    pub on_library : (o : LibOp) (site : ℕ) (vs : List (Carried A)) → Q _ (library w o site vs)
    unfolding library
    on_library o site [] = on_read_byte site
    on_library o site (a ∷ []) = on_library_one o site _ a
    on_library o site (a ∷ b ∷ []) = on_library_two o site _ a b
    on_library o site (a ∷ b ∷ c ∷ rest) = on_library_three o site _ a b c

    pub on_library_form : (o : LibOp) (args : List (Run A (Carried A))) (site : ℕ) → AllHave A Q args → Q _ (library_form w o args site)
    unfolding library_form
    on_library_form o args site h = search (steps, looked, on_library) depth 12

    -- ---- expressions

    pub on_part_or : (v : Value) (o : Option (Run A (Carried A))) → PartHas A Q o → Q _ (part_or v o)
    unfolding part_or
    on_part_or v Absent h = on_return _
    on_part_or v (Some m) h = h

    pub on_update : (place : Located A) (o : BinOp) (right : Run A (Carried A)) (ty : Ty) (wide : Option Primitive) (gives_old : Bool) (site : ℕ) → PlaceHas A Q place → Q _ right → Q _ (update w place o right ty wide gives_old site)
    unfolding update
    on_update place o right ty Absent gives_old site h hr = on_append_place place right site h hr
    on_update place o right ty (Some wide) gives_old site h hr = on_update_place place o right ty wide gives_old site h hr

    pub on_unary : (o : UnOp) (m : Run A (Carried A)) → Q _ m → Q _ (unary o m)
    unfolding unary
    on_unary o m h = search steps depth 12

    pub on_binary : (o : BinOp) (l r : Run A (Carried A)) (site : ℕ) → Q _ l → Q _ r → Q _ (binary w o l r site)
    unfolding binary
    on_binary o l r site hl hr = search (steps, on_divided) depth 12

    pub on_convert : (to : Primitive) (m : Run A (Carried A)) → Q _ m → Q _ (convert to m)
    unfolding convert
    on_convert to m h = search steps depth 12

    pub on_cast : (ty : Ty) (m : Run A (Carried A)) (site : ℕ) → Q _ m → Q _ (cast w ty m site)
    unfolding cast
    on_cast ty m site h = search (steps, looked) depth 14

    pub on_instance_of : (ty : Ty) (m : Run A (Carried A)) → Q _ m → Q _ (instance_of w ty m)
    unfolding instance_of
    on_instance_of ty m h = search (steps, looked) depth 12

    pub on_arm : (e : Made A) (v : Value) (o : Option (Run A (Carried A))) → PartHas A Q o → Q _ (arm e v o)
    unfolding arm
    on_arm e v Absent h = on_return _
    on_arm e v (Some m) h = search steps depth 12

    pub on_conditional : (test : Run A (Carried A)) (if_true if_false : Option (Run A (Carried A))) (site : ℕ) → Q _ test → PartHas A Q if_true → PartHas A Q if_false → Q _ (conditional test if_true if_false site)
    unfolding conditional
    on_conditional test if_true if_false site h ht hf =
        kept.on_decided site h (λ v e. on_choose _ (on_arm e v.value if_true ht) (on_arm e v.value if_false hf))

    pub on_call : (f : CallForm) (m : ℕ) (receiver : Option (Run A (Carried A))) (args : List (Run A (Carried A))) (site : ℕ) → PartHas A Q receiver → AllHave A Q args → Q _ (call w f m receiver args site)
    unfolding call
    on_call form.Static m receiver args site hr ha = on_call_static m args site ha
    on_call _ m receiver args site hr ha = on_call_on _ m _ args site (on_part_or _ receiver hr) ha

    -- ---- every expression

    ticked : (m : Run A (Carried A)) → Q _ m → Q _ (tick >> m)
    ticked m h = after (on_tick) h

    mutual
      unfolding eval locate eval_part eval_row

      pub on_eval : (e : Expression) → Q _ (eval w e)
      on_eval (Const v) = ticked _ (on_return _)
      on_eval (Str n) = ticked _ (on_return _)
      on_eval (Read place) = ticked _ (on_read_place _ (on_locate place))
      on_eval (Set place value site) = ticked _ (on_set_place _ _ site (on_locate place) (on_eval value))
      on_eval (Upd place o value value_ty ty wide gives_old site) = ticked _ (on_update _ o _ ty wide gives_old site (on_locate place) (on_part_or _ _ (on_part value)))
      on_eval (Un o operand) = ticked _ (on_unary o _ (on_eval operand))
      on_eval (Bin o left right site) = ticked _ (on_binary o _ _ site (on_eval left) (on_eval right))
      on_eval (Conv to operand) = ticked _ (on_convert to _ (on_eval operand))
      on_eval (Cast ty operand site) = ticked _ (on_cast ty _ site (on_eval operand))
      on_eval (InstanceOf ty operand) = ticked _ (on_instance_of ty _ (on_eval operand))
      on_eval (Cond f test if_true if_false site) = ticked _ (on_conditional _ _ _ site (on_eval test) (on_part if_true) (on_part if_false))
      on_eval (New c constructor args site) = ticked _ (on_create c constructor _ site (on_row args))
      on_eval (NewArray ty dims elements sites site) = ticked _ (on_new_array ty _ _ sites site (on_row dims) (on_row elements))
      on_eval (Call f m receiver ty args site) = ticked _ (on_call f m _ _ site (on_part receiver) (on_row args))
      on_eval (Cat left right left_ty right_ty site) = ticked _ (on_cat _ _ site (on_eval left) (on_eval right))
      on_eval (Lib o args site) = ticked _ (on_library_form o _ site (on_row args))

      on_locate : (x : Place) → PlaceHas A Q (locate w x)
      on_locate (Local i) = tt
      on_locate (Static f site) = tt
      on_locate (Field object f site) = on_eval object
      on_locate (Elem array index site) = (on_eval array, on_eval index)

      pub on_part : (x : Part) → PartHas A Q (eval_part w x)
      on_part absent = tt
      on_part (the e) = on_eval e

      on_row : (x : Row) → AllHave A Q (eval_row w x)
      on_row none = tt
      on_row (more e rest) = (on_eval e, on_row rest)

    -- ---- statements of one expression

    pub on_evaluated : (m : Run A (Carried A)) → Q _ m → Q _ (evaluated m)
    unfolding evaluated
    on_evaluated m h = search steps depth 12

    pub on_declaration : (i : ℕ) → Q (Unit {0}) (declaration i)
    unfolding declaration
    on_declaration i = search steps depth 12

    pub on_throw_form : (site : ℕ) (m : Run A (Carried A)) → Q _ m → Q _ (throw_form w site m)
    unfolding throw_form
    on_throw_form site m h = search (steps, looked) depth 12

    pub on_print_form : (o : Option (Run A (Carried A))) (ends_line : Bool) (site : ℕ) → PartHas A Q o → Q _ (print_form w o ends_line site)
    unfolding print_form
    on_print_form Absent ends_line site h = on_print_nothing ends_line site
    on_print_form (Some m) ends_line site h = on_print_value m ends_line site h
