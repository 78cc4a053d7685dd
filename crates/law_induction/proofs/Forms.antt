-- Each form of an expression keeps what the steps keep.
use Rattle.std.proofs.Common.{◌≡◌, ℕ, zero, Bool, true, false, List, [], ◌∷◌, Option, Some}
use Rattle.std.specs.Prelude.{None as Absent}
use Rattle.std.specs.Prelude.{ℤ, pos, if◌then◌else◌}
use Rattle.std.proofs.Common.{◌&&◌, int_eq}
use Rattle.std.specs.Int.{Width, w32, w64}
use Rattle.wy_kernel.specs.declared.operator.Primitive.{Primitive}
use Rattle.wy_kernel.specs.declared.operator.Primitive.TheVariants as prim
use Rattle.wy_kernel.specs.declared.types.Base.TheVariants.{Primitive as Basic}
use Rattle.wy_kernel.specs.declared.types.Ty.TheVariants.{Of}
use Rattle.wy_value.specs.Operator.{arithmetic, comparison, is_comparison, is_division, on_numbers, binary_of, unary_of}
use Rattle.wy_value.specs.Conversion.{value_in, converted}
use Rattle.wy_kernel.specs.declared.operator.BinOp.{BinOp}
use Rattle.wy_kernel.specs.declared.operator.UnOp.{UnOp}
use Rattle.wy_kernel.specs.declared.types.Ty.{Ty}
use Rattle.wy_kernel.specs.Program.{is_source}
use Rattle.wy_value.specs.declared.value.Value.{Value}
use Rattle.wy_value.specs.declared.value.Value.TheVariants as val
use Rattle.wy_event.specs.declared.record.Kind.{Kind}
use Rattle.wy_event.specs.declared.record.Kind.TheVariants as kind
use Rattle.wy_event.specs.declared.record.Slot.{Slot}
use Rattle.wy_event.specs.declared.record.Slot.TheVariants as slot
use Rattle.wy_steps.specs.Sets.{Sets}
use Rattle.wy_steps.specs.State.{Carried, Run, ◌>>=◌}
use Rattle.wy_steps.specs.Steps.{Made, value_of}
use Rattle.wy_meaning.specs.World.{World, throwing, fail, type_of, units_of, length_of, object_of, all_of}
use Rattle.wy_meaning.specs.Place.{Located, AtLocal, AtStatic, AtField, AtElem, Spot, initialize_source, initialize, local_spot, static_spot, field_spot, checked_index, element_spot, find, fetch, read_place, assign, check_store, store, set_place, primitive_of, operated, divided, update_place}
use Rattle.wy_meaning.specs.Text.{call_chosen, shown_as, shown, spelled_as, make_text, concatenated, cat, append_place, print, print_value, print_nothing}
use Rattle.law_induction.specs.Law.{Fact, nothing, both, Entails, FrameKind, Region, In}
use Rattle.law_induction.specs.Uniform.{Uniform}
use Rattle.wy_meaning.specs.Text.{to_string}
use Rattle.law_induction.proofs.Rules.{newest, before, trivially}
use Rattle.law_induction.proofs.Steps.{keeps_return, keeps_unassigned, keeps_choose, after, keeps_tick, keeps_take_elements, keeps_take_units, keeps_next_byte, keeps_scoped, keeps_reaching, keeps_covered, stored, fits, value_fact, made_fit, object_fact, Keeps, keeps_leave, keeps_catching, then_unit, with_number, with_option, with_event, with_flag, with_type, with_codes, with_carried, with_made, spot_fits, with_spot, with_object, with_frame, all_fit, with_all, option_fits, absent_fits, some_fits, no_values_fit, more_fit, jumped_fits, returned_fits, threw_fits, plain_value, carried_value, object_value, text_value, object_at, at_new, at_throw, at_jump, at_return, elem_slot, static_slot, field_slot, spot_local, spot_static, spot_field, spot_elem, spot_slot, spot_parts, constant_fits, with_value_fits, joined_fits, joined_all_fit, value_of_fits, chosen_fits, keeps_frame, keeps_is_begun, with_read_of, of_read, keeps_declare, keeps_in_frame, note_throw, note_return, note_byte, note_jump, note_text, note_test, note_call, note_set, note_bind, note_catch, keeps_printed, note_object, note_array, note_init}

module _ (A : Sets) (L : Uniform A) where
  abbrev pub Hold : {X : Type 0} → Region → (Fact L.moments) → Run A X → (X → (Fact L.moments)) → Type 0
  Hold b P m Q = Keeps A L b P m Q

  abbrev pub Fit : Carried A → (Fact L.moments)
  Fit = fits A L

  abbrev pub MadeFit : Kind → Made A → (Fact L.moments)
  MadeFit k = made_fit A L k

  abbrev pub ValueFact : Value → (Fact L.moments)
  ValueFact v = value_fact A L v

  -- a run that gives a value, and one that gives none, in a frame
  pub record Carries (fr : FrameKind) (m : Run A (Carried A)) : Type 1 where
    pub by : (P : (Fact L.moments)) → Hold (In fr) P m Fit

  pub record Acts (fr : FrameKind) {X : Type 0} (m : Run A X) : Type 1 where
    pub by : (P : (Fact L.moments)) → Hold (In fr) P m (λ x. nothing)

  pub record WorldKeeps (w : World A) : Type 1 where
    pub program : w.program ≡ L.program
    pub call : (b : Region) (site m : ℕ) (receiver : Option (Carried A)) (args : List (Carried A)) (P : (Fact L.moments)) → Entails P (option_fits A L receiver) → Entails P (all_fit A L args) → Hold b P (w.call site m receiver args) Fit
    pub enter : (b : Region) (site c : ℕ) (P : (Fact L.moments)) → Hold b P (w.enter site c) (λ t. nothing)

  -- ---- what follows a recorded event

  pub with_new : {b : Region} {Y : Type 0} {P : (Fact L.moments)} {S : Y → (Fact L.moments)} {m : Run A (Made A)} {f : Made A → Run A Y} → Hold b P m (MadeFit kind.New) → ((e : Made A) → Hold b (both P (MadeFit kind.New e)) (f e) S) → Hold b P (m >>= f) S
  with_new h l = with_made A L kind.New h l

  pub with_set : {b : Region} {Y : Type 0} {P : (Fact L.moments)} {S : Y → (Fact L.moments)} {m : Run A (Made A)} {f : Made A → Run A Y} → Hold b P m (MadeFit kind.Set) → ((e : Made A) → Hold b (both P (MadeFit kind.Set e)) (f e) S) → Hold b P (m >>= f) S
  with_set h l = with_made A L kind.Set h l

  pub with_text : {b : Region} {Y : Type 0} {P : (Fact L.moments)} {S : Y → (Fact L.moments)} {m : Run A (Made A)} {f : Made A → Run A Y} → Hold b P m (MadeFit kind.Text) → ((e : Made A) → Hold b (both P (MadeFit kind.Text e)) (f e) S) → Hold b P (m >>= f) S
  with_text h l = with_made A L kind.Text h l

  pub with_read : {b : Region} {Y : Type 0} {P : (Fact L.moments)} {S : Y → (Fact L.moments)} {m : Run A (Made A)} {f : Made A → Run A Y} → Hold b P m (MadeFit kind.Read) → ((e : Made A) → Hold b (both P (MadeFit kind.Read e)) (f e) S) → Hold b P (m >>= f) S
  with_read h l = with_made A L kind.Read h l

  pub with_print : {b : Region} {Y : Type 0} {P : (Fact L.moments)} {S : Y → (Fact L.moments)} {m : Run A (Made A)} {f : Made A → Run A Y} → Hold b P m (MadeFit kind.Print) → ((e : Made A) → Hold b (both P (MadeFit kind.Print e)) (f e) S) → Hold b P (m >>= f) S
  with_print h l = with_made A L kind.Print h l

  pub with_return : {b : Region} {Y : Type 0} {P : (Fact L.moments)} {S : Y → (Fact L.moments)} {m : Run A (Made A)} {f : Made A → Run A Y} → Hold b P m (MadeFit kind.Return) → ((e : Made A) → Hold b (both P (MadeFit kind.Return e)) (f e) S) → Hold b P (m >>= f) S
  with_return h l = with_made A L kind.Return h l

  pub with_jump : {b : Region} {Y : Type 0} {P : (Fact L.moments)} {S : Y → (Fact L.moments)} {m : Run A (Made A)} {f : Made A → Run A Y} → Hold b P m (MadeFit kind.Jump) → ((e : Made A) → Hold b (both P (MadeFit kind.Jump e)) (f e) S) → Hold b P (m >>= f) S
  with_jump h l = with_made A L kind.Jump h l

  pub with_throw : {b : Region} {Y : Type 0} {P : (Fact L.moments)} {S : Y → (Fact L.moments)} {m : Run A (Made A)} {f : Made A → Run A Y} → Hold b P m (MadeFit kind.Throw) → ((e : Made A) → Hold b (both P (MadeFit kind.Throw e)) (f e) S) → Hold b P (m >>= f) S
  with_throw h l = with_made A L kind.Throw h l

  pub with_test : {b : Region} {Y : Type 0} {P : (Fact L.moments)} {S : Y → (Fact L.moments)} {m : Run A (Made A)} {f : Made A → Run A Y} → Hold b P m (MadeFit kind.Test) → ((e : Made A) → Hold b (both P (MadeFit kind.Test e)) (f e) S) → Hold b P (m >>= f) S
  with_test h l = with_made A L kind.Test h l

  pub with_call : {b : Region} {Y : Type 0} {P : (Fact L.moments)} {S : Y → (Fact L.moments)} {m : Run A (Made A)} {f : Made A → Run A Y} → Hold b P m (MadeFit kind.Call) → ((e : Made A) → Hold b (both P (MadeFit kind.Call e)) (f e) S) → Hold b P (m >>= f) S
  with_call h l = with_made A L kind.Call h l

  pub with_bind : {b : Region} {Y : Type 0} {P : (Fact L.moments)} {S : Y → (Fact L.moments)} {m : Run A (Made A)} {f : Made A → Run A Y} → Hold b P m (MadeFit kind.Bind) → ((e : Made A) → Hold b (both P (MadeFit kind.Bind e)) (f e) S) → Hold b P (m >>= f) S
  with_bind h l = with_made A L kind.Bind h l

  pub with_catch : {b : Region} {Y : Type 0} {P : (Fact L.moments)} {S : Y → (Fact L.moments)} {m : Run A (Made A)} {f : Made A → Run A Y} → Hold b P m (MadeFit kind.Catch) → ((e : Made A) → Hold b (both P (MadeFit kind.Catch e)) (f e) S) → Hold b P (m >>= f) S
  with_catch h l = with_made A L kind.Catch h l

  pub with_init : {b : Region} {Y : Type 0} {P : (Fact L.moments)} {S : Y → (Fact L.moments)} {m : Run A (Made A)} {f : Made A → Run A Y} → Hold b P m (MadeFit kind.Init) → ((e : Made A) → Hold b (both P (MadeFit kind.Init e)) (f e) S) → Hold b P (m >>= f) S
  with_init h l = with_made A L kind.Init h l

  -- ---- what is known, form by form

  pub valued_new : {P : (Fact L.moments)} (e : Made A) (v : Value) → Entails P (MadeFit kind.New e) → Entails P (ValueFact v) → Entails P (Fit (value_of e v))
  valued_new e v h f = value_of_fits A L kind.New e v h tt f

  pub valued_set : {P : (Fact L.moments)} (e : Made A) (v : Value) → Entails P (MadeFit kind.Set e) → Entails P (ValueFact v) → Entails P (Fit (value_of e v))
  valued_set e v h f = value_of_fits A L kind.Set e v h tt f

  pub valued_test : {P : (Fact L.moments)} (e : Made A) (v : Value) → Entails P (MadeFit kind.Test e) → Entails P (ValueFact v) → Entails P (Fit (value_of e v))
  valued_test e v h f = value_of_fits A L kind.Test e v h tt f

  pub valued_text : {P : (Fact L.moments)} (e : Made A) (v : Value) → Entails P (MadeFit kind.Text e) → Entails P (ValueFact v) → Entails P (Fit (value_of e v))
  valued_text e v h f = value_of_fits A L kind.Text e v h tt f

  pub valued_read : {P : (Fact L.moments)} (e : Made A) (v : Value) → Entails P (MadeFit kind.Read e) → Entails P (ValueFact v) → Entails P (Fit (value_of e v))
  valued_read e v h f = value_of_fits A L kind.Read e v h tt f

  pub valued_return : {P : (Fact L.moments)} (e : Made A) (v : Value) → Entails P (MadeFit kind.Return e) → Entails P (ValueFact v) → Entails P (Fit (value_of e v))
  valued_return e v h f = value_of_fits A L kind.Return e v h tt f

  pub valued_throw : {P : (Fact L.moments)} (e : Made A) (v : Value) → Entails P (MadeFit kind.Throw e) → Entails P (ValueFact v) → Entails P (Fit (value_of e v))
  valued_throw e v h f = value_of_fits A L kind.Throw e v h tt f

  pub none_value : {P : (Fact L.moments)} → Entails P (ValueFact (val.None))
  none_value = plain_value A L (val.None) tt

  pub bool_value : {P : (Fact L.moments)} (x : Bool) → Entails P (ValueFact (val.Bool x))
  bool_value x = plain_value A L (val.Bool x) tt

  pub number_value : {P : (Fact L.moments)} (z : ℤ) → Entails P (ValueFact (val.Int z))
  number_value z = plain_value A L (val.Int z) tt

  pub char_value : {P : (Fact L.moments)} (c : ℕ) → Entails P (ValueFact (val.Char c))
  char_value c = plain_value A L (val.Char c) tt

  pub fixed_value : {P : (Fact L.moments)} (n : ℕ) → Entails P (ValueFact (val.Fixed n))
  fixed_value n = plain_value A L (val.Fixed n) tt

  pub null_value : {P : (Fact L.moments)} → Entails P (ValueFact (val.Null))
  null_value = plain_value A L (val.Null) tt

  -- ---- values of operations

  -- a value, where there is one
  unfoldable pub option_value : Option Value → (Fact L.moments)
  option_value Absent = nothing
  option_value (Some v) = ValueFact v

  pub absent_value : {P : (Fact L.moments)} → Entails P (option_value Absent)
  unfolding option_value
  absent_value = trivially

  pub some_value : {P : (Fact L.moments)} (v : Value) → Entails P (ValueFact v) → Entails P (option_value (Some v))
  unfolding option_value
  some_value v e = e

  pub of_some : {P : (Fact L.moments)} (v : Value) → Entails P (option_value (Some v)) → Entails P (ValueFact v)
  unfolding option_value
  of_some v e = e

  on_numbers_value : {P : (Fact L.moments)} (width : Width) (make : ℤ → Value) (o : BinOp) (x y : ℤ) → ((z : ℤ) → Entails P (ValueFact (make z))) → Entails P (option_value (on_numbers width make o x y))
  on_numbers_value {P = P} width make o x y h = go (is_comparison o) (is_division o && int_eq y (pos 0)) (arithmetic width o x y)
    where
      go : (c d : Bool) (z : ℤ) → Entails P (option_value (if c then Some (val.Bool (comparison o x y)) else (if d then Absent else Some (make z))))
      go true d z = some_value _ (bool_value _)
      go false true z = absent_value
      go false false z = some_value _ (h z)

  pub binary_value : {P : (Fact L.moments)} (o : BinOp) (x y : Value) → Entails P (option_value (binary_of o x y))
  binary_value o (val.Int x) (val.Int y) = on_numbers_value w32 (λ z. val.Int z) o x y (λ z. number_value z)
  binary_value o (val.Long x) (val.Long y) = on_numbers_value w64 (λ z. val.Long z) o x y (λ z. plain_value A L (val.Long z) tt)
  binary_value o (val.Int x) (val.Long y) = some_value _ (number_value _)
  binary_value o (val.Long x) (val.Int y) = some_value _ (plain_value A L (val.Long _) tt)
  binary_value o (val.Bool x) (val.Bool y) = some_value _ (bool_value _)
  binary_value o _ _ = some_value _ (bool_value _)

  pub unary_value : {P : (Fact L.moments)} (o : UnOp) (v : Value) → Entails P (ValueFact v) → Entails P (ValueFact (unary_of o v))
  unary_value o (val.Int z) e = number_value _
  unary_value o (val.Long z) e = plain_value A L (val.Long _) tt
  unary_value o (val.Bool z) e = bool_value _
  unary_value o _ e = e

  number_in : {P : (Fact L.moments)} (to : Primitive) (z : ℤ) → Entails P (ValueFact (value_in to z))
  number_in prim.Bool z = bool_value false
  number_in prim.Byte z = plain_value A L (val.Byte _) tt
  number_in prim.Short z = plain_value A L (val.Short _) tt
  number_in prim.Char z = plain_value A L (val.Char _) tt
  number_in prim.Int z = plain_value A L (val.Int _) tt
  number_in prim.Long z = plain_value A L (val.Long _) tt

  pub converted_value : {P : (Fact L.moments)} (to : Primitive) (v : Value) → Entails P (ValueFact v) → Entails P (ValueFact (converted to v))
  converted_value to (val.Byte z) e = number_in to z
  converted_value to (val.Short z) e = number_in to z
  converted_value to (val.Char c) e = number_in to (pos c)
  converted_value to (val.Int z) e = number_in to z
  converted_value to (val.Long z) e = number_in to z
  converted_value to _ e = e

  pub primitive_value : {P : (Fact L.moments)} (ty : Ty) (v : Value) → Entails P (ValueFact v) → Entails P (ValueFact (primitive_of ty v))
  unfolding primitive_of
  primitive_value (Of (Basic q) zero) v e = converted_value q v e
  primitive_value _ v e = e

  pub operated_value : {P : (Fact L.moments)} (o : BinOp) (wide : Primitive) (x y : Value) → Entails P (option_value (operated o wide x y))
  unfolding operated
  operated_value o wide x y = binary_value o _ _

pub ruleset known = (newest, before, trivially, absent_fits, some_fits, no_values_fit, more_fit, jumped_fits, returned_fits, threw_fits, constant_fits, with_value_fits, joined_fits, joined_all_fit, chosen_fits, valued_new, valued_set, valued_test, valued_text, valued_read, valued_return, valued_throw, none_value, bool_value, number_value, char_value, fixed_value, null_value, spot_static, spot_field, spot_elem, carried_value, object_value, text_value, static_slot, field_slot, elem_slot, spot_slot, spot_parts, at_new, at_throw, at_jump, at_return)

pub ruleset steps = (after, then_unit, with_number, with_option, with_event, with_flag, with_type, with_codes, with_carried, with_new, with_set, with_text, with_read, with_print, with_return, with_jump, with_throw, with_test, with_call, with_bind, with_catch, with_init, with_spot, with_object, with_frame, with_all, keeps_return, keeps_leave, keeps_catching, keeps_choose, keeps_tick, keeps_frame, keeps_is_begun, keeps_take_elements, keeps_take_units, keeps_next_byte, with_read_of, keeps_declare, keeps_unassigned, keeps_scoped, keeps_reaching, keeps_in_frame, keeps_covered, newest, before, trivially, absent_fits, some_fits, no_values_fit, more_fit, jumped_fits, returned_fits, threw_fits, constant_fits, with_value_fits, joined_fits, joined_all_fit, chosen_fits, valued_new, valued_set, valued_test, valued_text, valued_read, valued_return, valued_throw, none_value, bool_value, number_value, char_value, fixed_value, null_value, spot_static, spot_field, spot_elem, carried_value, object_value, text_value, static_slot, field_slot, elem_slot, spot_slot, spot_parts, at_new, at_throw, at_jump, at_return)

pub ruleset notes = (note_throw, note_byte, note_return, note_jump, note_text, note_test, note_call, note_set, note_bind, note_catch, note_object, note_array, note_init)

module _ (A : Sets) (L : Uniform A) where
  pub carries : {fr : FrameKind} {P : (Fact L.moments)} (m : Run A (Carried A)) → Carries A L fr m → Hold A L (In fr) P m (Fit A L)
  carries m h = h.by _

  pub acts : {fr : FrameKind} {X : Type 0} {P : (Fact L.moments)} (m : Run A X) → Acts A L fr m → Hold A L (In fr) P m (λ x. nothing)
  acts m h = h.by _

  pub keeps_throwing : (b : Region) (X : Type 0) (Q : X → (Fact L.moments)) (P : (Fact L.moments)) (site : ℕ) (v : Carried A) → Entails P (Fit A L v) → Hold A L b P (throwing site v) Q
  unfolding throwing
  keeps_throwing b X Q P site v e = with_made _ _ kind.Throw (note_throw A L site v.value v (carried_value _ _ v e) e) (λ m. keeps_leave _ _ _ (threw_fits _ _ b m.number _ (search known depth 6) (value_of_fits _ _ kind.Throw m v.value (search known depth 6) tt (search known depth 6))))

  pub keeps_fail : (b : Region) (w : World A) (kw : WorldKeeps A L w) (X : Type 0) (Q : X → (Fact L.moments)) (P : (Fact L.moments)) (c site : ℕ) (v : Carried A) → Entails P (Fit A L v) → Hold A L b P (fail w c site v) Q
  unfolding fail
  keeps_fail b w kw X Q P c site v e = let is = kw.program in search (steps, notes, is, keeps_throwing) depth 14

  pub keeps_type_of : (b : Region) (P : (Fact L.moments)) (v : Value) → Hold A L b P (type_of v) (λ t. nothing)
  unfolding type_of
  keeps_type_of b P (val.Object n) = search (steps, notes) depth 14
  keeps_type_of b P _ = search (steps, notes) depth 14

  pub keeps_units_of : (b : Region) (w : World A) (P : (Fact L.moments)) (v : Value) → Hold A L b P (units_of w v) (λ t. nothing)
  unfolding units_of
  keeps_units_of b w P (val.Text n) = search (steps, notes) depth 14
  keeps_units_of b w P _ = search (steps, notes) depth 14

  pub keeps_length_of : (b : Region) (P : (Fact L.moments)) (n : ℕ) → Hold A L b P (length_of n) (λ t. nothing)
  unfolding length_of
  keeps_length_of b P n = search (steps, notes) depth 14

  pub keeps_object_of : (b : Region) (w : World A) (kw : WorldKeeps A L w) (P : (Fact L.moments)) (site : ℕ) (c : Carried A) (v : Value) → Entails P (Fit A L c) → Entails P (value_fact A L v) → Hold A L b P (object_of w site c v) (object_fact A L)
  unfolding object_of
  keeps_object_of b w kw P site c (val.Object n) e ev = keeps_return _ _ n (object_at _ _ n ev)
  keeps_object_of b w kw P site c _ e ev = keeps_fail b w kw _ _ P _ site c e

  abbrev pub AllCarry : FrameKind → List (Run A (Carried A)) → Type 1
  AllCarry fr [] = Unit {1}
  AllCarry fr (m ∷ ms) = Carries A L fr m × AllCarry fr ms

  pub keeps_all_of : (fr : FrameKind) (ms : List (Run A (Carried A))) (P : (Fact L.moments)) → AllCarry fr ms → Hold A L (In fr) P (all_of ms) (all_fit A L)
  unfolding all_of
  keeps_all_of fr [] P h = keeps_return _ _ [] (no_values_fit _ _)
  keeps_all_of fr (m ∷ ms) P h = with_carried _ _ (h.0.by P) (λ v. with_all _ _ (keeps_all_of fr ms _ h.1) (λ vs. search (steps, notes) depth 14))

pub ruleset looked = (keeps_throwing, keeps_fail, keeps_type_of, keeps_units_of, keeps_length_of, keeps_object_of, keeps_all_of, carries, acts)

module _ (A : Sets) (L : Uniform A) (w : World A) (kw : WorldKeeps A L w) (fr : FrameKind) where
  -- ---- places

  abbrev pub PlaceCarries : Located A → Type 1
  PlaceCarries (AtLocal i) = Unit {1}
  PlaceCarries (AtStatic f site) = Unit {1}
  PlaceCarries (AtField object f site) = Carries A L fr object
  PlaceCarries (AtElem array index site) = Carries A L fr array × Carries A L fr index

  pub keeps_initialize_source : (d : Region) (P : (Fact L.moments)) (site c : ℕ) (b : Bool) → Hold A L d P (initialize_source w site c b) (λ t. nothing)
  unfolding initialize_source
  keeps_initialize_source d P site c true = let enter = kw.enter in search (steps, notes, enter) depth 14
  keeps_initialize_source d P site c false = search (steps, notes) depth 14

  pub keeps_initialize : (d : Region) (P : (Fact L.moments)) (site c : ℕ) → Hold A L d P (initialize w site c) (λ t. nothing)
  unfolding initialize
  keeps_initialize d P site c = keeps_initialize_source d P site c (is_source c)

  abbrev pub SpotFit : Spot A → (Fact L.moments)
  SpotFit = spot_fits A L

  pub keeps_local_spot : (P : (Fact L.moments)) (i : ℕ) → Hold A L (In fr) P (local_spot i) SpotFit
  unfolding local_spot
  keeps_local_spot P i = with_frame _ _ (keeps_frame _ _) (λ o. keeps_return _ _ _ (spot_local A L fr o i _ (newest _ _) (constant_fits _ _ _ (none_value A L))))

  pub keeps_static_spot : (P : (Fact L.moments)) (f site : ℕ) → Hold A L (In fr) P (static_spot w f site) SpotFit
  unfolding static_spot
  keeps_static_spot P f site = search (steps, notes, keeps_initialize) depth 14

  pub keeps_field_spot : (P : (Fact L.moments)) (f site : ℕ) (o : Carried A) → Entails P (Fit A L o) → Hold A L (In fr) P (field_spot w f site o) SpotFit
  unfolding field_spot
  keeps_field_spot P f site o e = search (steps, notes, looked) depth 14

  pub keeps_checked_index : (P : (Fact L.moments)) (site : ℕ) (c : Carried A) (o : Option ℕ) → Entails P (Fit A L c) → Hold A L (In fr) P (checked_index w site c o) (λ n. nothing)
  unfolding checked_index
  keeps_checked_index P site c (Some i) e = search (steps, notes) depth 14
  keeps_checked_index P site c Absent e = keeps_fail A L (In fr) w kw _ _ P _ site c e

  pub keeps_element_spot : (P : (Fact L.moments)) (site : ℕ) (a k : Carried A) → Entails P (Fit A L a) → Entails P (Fit A L k) → Hold A L (In fr) P (element_spot w site a k) SpotFit
  unfolding element_spot
  keeps_element_spot P site a k ea ek = search (steps, notes, looked, keeps_checked_index) depth 16

  pub keeps_find : (P : (Fact L.moments)) (place : Located A) → PlaceCarries place → Hold A L (In fr) P (find w place) SpotFit
  unfolding find
  keeps_find P (AtLocal i) h = keeps_local_spot P i
  keeps_find P (AtStatic f site) h = keeps_static_spot P f site
  keeps_find P (AtField object f site) h = with_carried _ _ (h.by P) (λ o. keeps_field_spot _ f site o (newest _ _))
  keeps_find P (AtElem array index site) h = with_carried _ _ (h.0.by P) (λ a. with_carried _ _ (h.1.by _) (λ k. keeps_element_spot _ site a k (before _ _ (newest _ _)) (newest _ _)))

  pub keeps_fetch : (P : (Fact L.moments)) (spot : Spot A) → Entails P (spot_fits A L spot) → Hold A L (In fr) P (fetch spot) (Fit A L)
  unfolding fetch
  keeps_fetch P spot e = with_read_of _ _ spot.slot (spot_slot _ _ spot e) (λ v. keeps_choose _ _ _ (keeps_unassigned _ _) (keeps_return _ _ _ (joined_fits _ _ v.value spot.parts v (carried_value _ _ v (of_read _ _ spot.slot v (newest _ _))) (spot_parts _ _ spot (before _ _ e)) (of_read _ _ spot.slot v (newest _ _)))))

  pub keeps_read_place : (P : (Fact L.moments)) (place : Located A) → PlaceCarries place → Hold A L (In fr) P (read_place w place) (Fit A L)
  unfolding read_place
  keeps_read_place P place h = with_spot _ _ (keeps_find P place h) (λ spot. keeps_fetch _ spot (newest _ _))

  pub keeps_check_store : (P : (Fact L.moments)) (site : ℕ) (spot : Spot A) (v : Carried A) (x : Slot) → Entails P (spot_fits A L spot) → Entails P (Fit A L v) → Hold A L (In fr) P (check_store w site spot v x) (λ t. nothing)
  unfolding check_store
  keeps_check_store P site spot v (slot.Elem n i) e ev = search (steps, notes, looked) depth 14
  keeps_check_store P site spot v _ e ev = search (steps, notes) depth 14

  pub keeps_divided : (P : (Fact L.moments)) (site : ℕ) (c : Carried A) (o : Option Value) → Entails P (Fit A L c) → Entails P (option_value A L o) → Hold A L (In fr) P (divided w site c o) (Fit A L)
  unfolding divided
  keeps_divided P site c (Some v) e ev = keeps_return _ _ _ (with_value_fits _ _ v c (of_some A L v ev) e)
  keeps_divided P site c Absent e ev = keeps_fail A L (In fr) w kw _ _ P _ site c e

  -- ---- texts

  pub keeps_called : (b : Region) (P : (Fact L.moments)) (site m : ℕ) (r : Option (Carried A)) (args : List (Carried A)) → Entails P (option_fits A L r) → Entails P (all_fit A L args) → Hold A L b P (w.call site m r args) (Fit A L)
  keeps_called b P site m r args er ea = kw.call b site m r args P er ea

  pub keeps_call_chosen : (P : (Fact L.moments)) (site m : ℕ) (r : Carried A) (args : List (Carried A)) → Entails P (Fit A L r) → Entails P (all_fit A L args) → Hold A L (In fr) P (call_chosen w site m r args) (Fit A L)
  unfolding call_chosen
  keeps_call_chosen P site m r args er ea = search (steps, notes, looked, keeps_called) depth 14

  keeps_shown_as : (P : (Fact L.moments)) (site : ℕ) (v : Carried A) (x : Value) → Entails P (Fit A L v) → Hold A L (In fr) P (shown_as w site v x) (Fit A L)
  unfolding shown_as
  keeps_shown_as P site v (val.Object _) e = keeps_call_chosen P site to_string v [] e (no_values_fit A L)
  keeps_shown_as P site v _ e = keeps_return _ _ v e

  pub keeps_shown : (P : (Fact L.moments)) (site : ℕ) (v : Carried A) → Entails P (Fit A L v) → Hold A L (In fr) P (shown w site v) (Fit A L)
  unfolding shown
  keeps_shown P site v e = keeps_shown_as P site v v.value e

  pub keeps_spelled_as : (P : (Fact L.moments)) (v : Value) → Hold A L (In fr) P (spelled_as w v) (λ t. nothing)
  unfolding spelled_as
  keeps_spelled_as P (val.Text n) = keeps_units_of A L (In fr) w P (val.Text n)
  keeps_spelled_as P (val.Fixed n) = keeps_units_of A L (In fr) w P (val.Fixed n)
  keeps_spelled_as P _ = search (steps, notes) depth 14

  pub keeps_make_text : (P : (Fact L.moments)) (site : ℕ) (units : List ℕ) (c : Carried A) → Entails P (Fit A L c) → Hold A L (In fr) P (make_text site units c) (Fit A L)
  unfolding make_text
  keeps_make_text P site units c e = search (steps, notes) depth 14

  pub keeps_concatenated : (P : (Fact L.moments)) (site : ℕ) (a b : Carried A) → Entails P (Fit A L a) → Entails P (Fit A L b) → Hold A L (In fr) P (concatenated w site a b) (Fit A L)
  unfolding concatenated
  keeps_concatenated P site a b ea eb = search (steps, notes, keeps_shown, keeps_spelled_as, keeps_make_text) depth 20

  pub keeps_cat : (P : (Fact L.moments)) (l r : Run A (Carried A)) (site : ℕ) → Carries A L fr l → Carries A L fr r → Hold A L (In fr) P (cat w l r site) (Fit A L)
  unfolding cat
  keeps_cat P l r site hl hr = search (steps, notes, looked, keeps_concatenated) depth 16

  pub keeps_print : (P : (Fact L.moments)) (site : ℕ) (bytes : List ℕ) (v : Carried A) → Entails P (Fit A L v) → Hold A L (In fr) P (print site bytes v) (λ t. nothing)
  unfolding print
  keeps_print P site bytes v e = keeps_printed _ _ site v.value v bytes (carried_value _ _ v e) e

  pub keeps_print_value : (P : (Fact L.moments)) (operand : Run A (Carried A)) (ends_line : Bool) (site : ℕ) → Carries A L fr operand → Hold A L (In fr) P (print_value w operand ends_line site) (λ t. nothing)
  unfolding print_value
  keeps_print_value P operand ends_line site h = search (steps, notes, looked, keeps_shown, keeps_spelled_as, keeps_print) depth 18

  pub keeps_print_nothing : (P : (Fact L.moments)) (ends_line : Bool) (site : ℕ) → Hold A L (In fr) P (print_nothing ends_line site) (λ t. nothing)
  unfolding print_nothing
  keeps_print_nothing P ends_line site = search (steps, notes, keeps_print) depth 14

  -- ---- what is stored

  pub keeps_assign : (P : (Fact L.moments)) (site : ℕ) (spot : Spot A) (v : Carried A) → Entails P (spot_fits A L spot) → Entails P (Fit A L v) → Hold A L (In fr) P (assign site spot v) (Fit A L)
  unfolding assign
  keeps_assign P site spot v e ev = search (steps, notes, stored) depth 14

  pub keeps_store : (P : (Fact L.moments)) (site : ℕ) (spot : Spot A) (v : Carried A) → Entails P (spot_fits A L spot) → Entails P (Fit A L v) → Hold A L (In fr) P (store w site spot v) (Fit A L)
  unfolding store
  keeps_store P site spot v e ev = search (steps, notes, keeps_check_store, keeps_assign) depth 14

  pub keeps_set_place : (P : (Fact L.moments)) (place : Located A) (right : Run A (Carried A)) (site : ℕ) → PlaceCarries place → Carries A L fr right → Hold A L (In fr) P (set_place w place right site) (Fit A L)
  unfolding set_place
  keeps_set_place P (AtLocal i) right site h hr = search (steps, notes, looked, keeps_local_spot, keeps_store) depth 16
  keeps_set_place P (AtStatic f at) right site h hr = search (steps, notes, looked, keeps_static_spot, keeps_store) depth 16
  keeps_set_place P (AtField object f at) right site h hr = search (steps, notes, looked, keeps_field_spot, keeps_store) depth 18
  keeps_set_place P (AtElem array index at) right site h hr = let ha = h.0.by in let hk = h.1.by in search (steps, notes, looked, ha, hk, keeps_element_spot, keeps_store) depth 20

  if_fits : {P : (Fact L.moments)} (b : Bool) (x y : Carried A) → Entails P (Fit A L x) → Entails P (Fit A L y) → Entails P (Fit A L (if b then x else y))
  if_fits true x y ex ey = ex
  if_fits false x y ex ey = ey

  pub keeps_update_place : (P : (Fact L.moments)) (place : Located A) (op : BinOp) (right : Run A (Carried A)) (ty : Ty) (wide : Primitive) (gives_old : Bool) (site : ℕ) → PlaceCarries place → Carries A L fr right → Hold A L (In fr) P (update_place w place op right ty wide gives_old site) (Fit A L)
  unfolding update_place
  keeps_update_place P place op right ty wide gives_old site h hr = search (steps, notes, looked, keeps_find, keeps_fetch, keeps_divided, keeps_assign, if_fits, operated_value, primitive_value) depth 22

  pub keeps_append_place : (P : (Fact L.moments)) (place : Located A) (right : Run A (Carried A)) (site : ℕ) → PlaceCarries place → Carries A L fr right → Hold A L (In fr) P (append_place w place right site) (Fit A L)
  unfolding append_place
  keeps_append_place P place right site h hr = search (steps, notes, looked, keeps_find, keeps_fetch, keeps_concatenated, keeps_store) depth 20
