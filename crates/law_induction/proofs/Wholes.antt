-- Calls, arrays, operations of the library and the forms of an expression keep what the steps keep.
use Rattle.std.proofs.Common.{ℕ, zero, suc, Bool, true, false, List, [], ◌∷◌, Option, Some}
use Rattle.std.specs.Prelude.{None as Absent}
use Rattle.std.specs.Prelude.{ℤ, if◌then◌else◌}
use Rattle.wy_kernel.specs.declared.operator.Primitive.{Primitive}
use Rattle.wy_kernel.specs.declared.operator.BinOp.{BinOp}
use Rattle.wy_kernel.specs.declared.operator.UnOp.{UnOp}
use Rattle.wy_kernel.specs.declared.types.Ty.{Ty}
use Rattle.wy_kernel.specs.declared.form.CallForm.{CallForm}
use Rattle.wy_kernel.specs.declared.form.CallForm.TheVariants as form
use Rattle.wy_kernel.specs.declared.form.LibOp.{LibOp}
use Rattle.wy_kernel.specs.declared.form.LibOp.TheVariants as op
use Rattle.wy_value.specs.declared.value.Value.{Value}
use Rattle.wy_value.specs.declared.value.Value.TheVariants as val
use Rattle.wy_event.specs.declared.record.Kind.TheVariants as kind
use Rattle.wy_steps.specs.Sets.{Sets}
use Rattle.wy_steps.specs.State.{Carried, Run}
use Rattle.wy_steps.specs.Steps.{Made}
use Rattle.wy_meaning.specs.World.{World}
use Rattle.wy_meaning.specs.Place.{Located}
use Rattle.wy_meaning.specs.Call.{text_equals, call_on_text, call_form, call_on, call_static, construct, create}
use Rattle.wy_meaning.specs.Array.{make_array, for_each, subarrays, make_arrays, create_array, set_elements, create_filled, new_array}
use Rattle.wy_meaning.specs.Library.{text_arg, unit_or_fail, part_or_fail, int_or_fail, parse, byte_value, absolute, greater, lesser, read_byte, library_one, library_two, library_three, library, library_form}
use Rattle.wy_meaning.specs.Expression.{part_or, update, unary, binary, convert, cast, instance_of, arm, conditional, call}
use Rattle.law_induction.specs.Law.{IsInt, Fact, nothing, Entails, FrameKind, Region, In}
use Rattle.law_induction.specs.Uniform.{IsNoReference, Uniform}
use Rattle.law_induction.proofs.Rules.{newest, before, trivially, same, chain}
use Rattle.law_induction.proofs.Steps.{keeps_return, after, keeps_next_byte, stored, value_fact, object_fact, with_option, with_carried, all_fit, some_fits, first_fits, rest_fit, plain_value, carried_value, object_value, at_new, elem_slot, constant_fits, joined_fits, joined_all_fit, int_value, note_byte, note_set}
use Rattle.law_induction.proofs.Forms.{keeps_called, Hold, Fit, MadeFit, Carries, WorldKeeps, with_new, with_set, with_read, valued_new, valued_test, valued_read, number_value, binary_value, unary_value, converted_value, steps, notes, keeps_fail, keeps_units_of, AllCarry, looked, PlaceCarries, keeps_initialize, keeps_divided, keeps_update_place, keeps_call_chosen, keeps_make_text, keeps_append_place}

module _ (A : Sets) (L : Uniform A) (w : World A) (kw : WorldKeeps A L w) (fr : FrameKind) where
  -- ---- calls

  pub keeps_text_equals : (P : (Fact L.moments)) (a b : Carried A) → Entails P (Fit A L a) → Entails P (Fit A L b) → Hold A L (In fr) P (text_equals w a b) (Fit A L)
  unfolding text_equals
  keeps_text_equals P a b ea eb = search (steps, notes, looked) depth 16

  pub keeps_call_on_text : (P : (Fact L.moments)) (b : Bool) (r : Carried A) (args : List (Carried A)) → Entails P (Fit A L r) → Entails P (all_fit A L args) → Hold A L (In fr) P (call_on_text w b r args) (Fit A L)
  unfolding call_on_text
  keeps_call_on_text P true r (v ∷ vs) er ea = keeps_text_equals P r v er (first_fits _ _ v vs ea)
  keeps_call_on_text P _ r args er ea = keeps_return _ _ r er

  -- ---- arrays

  pub keeps_make_array : (d : Region) (P : (Fact L.moments)) (site : ℕ) (ty : Ty) (n : ℕ) (c : Carried A) → Entails P (Fit A L c) → Hold A L d P (make_array w site ty n c) (MadeFit A L kind.New)
  unfolding make_array
  keeps_make_array d P site ty n c e = let is = kw.program in search (steps, notes, is) depth 16

  pub keeps_for_each : (n i : ℕ) (f : ℕ → Run A Unit) (P : (Fact L.moments)) → ((k : ℕ) (P' : (Fact L.moments)) → Entails P' P → Hold A L (In fr) P' (f k) (λ t. nothing)) → Hold A L (In fr) P (for_each i n f) (λ t. nothing)
  unfolding for_each
  keeps_for_each zero i f P h = search (steps, notes) depth 14
  keeps_for_each (suc n) i f P h = after _ _ (h i P same) (keeps_for_each n (suc i) f P h)

  -- ---- the library

  pub keeps_text_arg : (P : (Fact L.moments)) (site : ℕ) (c : Carried A) (v : Value) → Entails P (Fit A L c) → Hold A L (In fr) P (text_arg w site c v) (λ t. nothing)
  unfolding text_arg
  keeps_text_arg P site c (val.Text n) e = keeps_units_of A L (In fr) w P (val.Text n)
  keeps_text_arg P site c (val.Fixed n) e = keeps_units_of A L (In fr) w P (val.Fixed n)
  keeps_text_arg P site c _ e = keeps_fail A L (In fr) w kw _ _ P _ site c e

  pub keeps_unit_or_fail : (P : (Fact L.moments)) (site : ℕ) (c : Carried A) (o : Option ℕ) → Entails P (Fit A L c) → Hold A L (In fr) P (unit_or_fail w site c o) (Fit A L)
  unfolding unit_or_fail
  keeps_unit_or_fail P site c (Some u) e = search (steps, notes) depth 14
  keeps_unit_or_fail P site c Absent e = keeps_fail A L (In fr) w kw _ _ P _ site c e

  pub keeps_part_or_fail : (P : (Fact L.moments)) (site : ℕ) (c : Carried A) (o : Option (List ℕ)) → Entails P (Fit A L c) → Hold A L (In fr) P (part_or_fail w site c o) (Fit A L)
  unfolding part_or_fail
  keeps_part_or_fail P site c (Some units) e = keeps_make_text A L w kw fr P site units c e
  keeps_part_or_fail P site c Absent e = keeps_fail A L (In fr) w kw _ _ P _ site c e

  pub keeps_int_or_fail : (P : (Fact L.moments)) (site : ℕ) (c : Carried A) (o : Option ℤ) → Entails P (Fit A L c) → Hold A L (In fr) P (int_or_fail w site c o) (Fit A L)
  unfolding int_or_fail
  keeps_int_or_fail P site c (Some z) e = search (steps, notes) depth 14
  keeps_int_or_fail P site c Absent e = keeps_fail A L (In fr) w kw _ _ P _ site c e

  pub keeps_parse : (P : (Fact L.moments)) (site : ℕ) (c : Carried A) (v : Value) → Entails P (Fit A L c) → Hold A L (In fr) P (parse w site c v) (Fit A L)
  unfolding parse
  keeps_parse P site c (val.Text n) e = search (steps, notes, looked, keeps_int_or_fail) depth 14
  keeps_parse P site c (val.Fixed n) e = search (steps, notes, looked, keeps_int_or_fail) depth 14
  keeps_parse P site c _ e = keeps_fail A L (In fr) w kw _ _ P _ site c e

  byte_is_int : (o : Option ℕ) → IsInt (byte_value o)
  unfolding byte_value
  byte_is_int Absent = tt
  byte_is_int (Some c) = tt

  pub keeps_read_byte : (P : (Fact L.moments)) (site : ℕ) → Hold A L (In fr) P (read_byte site) (Fit A L)
  unfolding read_byte
  keeps_read_byte P site = with_option _ _ (keeps_next_byte _ _) (λ c. with_read A L (note_byte A L site (byte_value c) (byte_is_int c)) (λ e. keeps_return _ _ _ (valued_read A L e (byte_value c) (newest _ _) (int_value A L (byte_value c) (byte_is_int c)))))

  absolute_value : {P : (Fact L.moments)} (v : Value) → Entails P (value_fact A L v) → Entails P (value_fact A L (absolute v))
  unfolding absolute
  absolute_value (val.Int z) e = number_value A L _
  absolute_value (val.Long z) e = plain_value A L (val.Long _) tt
  absolute_value _ e = e

  either_value : {P : (Fact L.moments)} (c : Bool) (x y : Value) → Entails P (value_fact A L x) → Entails P (value_fact A L y) → Entails P (value_fact A L (if c then x else y))
  either_value true x y ex ey = ex
  either_value false x y ex ey = ey

  greater_value : {P : (Fact L.moments)} (x y : Value) → Entails P (value_fact A L x) → Entails P (value_fact A L y) → Entails P (value_fact A L (greater x y))
  unfolding greater
  greater_value x y ex ey = either_value _ y x ey ex

  lesser_value : {P : (Fact L.moments)} (x y : Value) → Entails P (value_fact A L x) → Entails P (value_fact A L y) → Entails P (value_fact A L (lesser x y))
  unfolding lesser
  lesser_value x y ex ey = either_value _ y x ey ex

  pub keeps_library_one : (P : (Fact L.moments)) (o : LibOp) (site : ℕ) (all a : Carried A) → Entails P (Fit A L all) → Entails P (Fit A L a) → Hold A L (In fr) P (library_one w o site all a) (Fit A L)
  unfolding library_one
  keeps_library_one P op.ArrayLength site all a e ea = search (steps, notes, looked) depth 16
  keeps_library_one P op.Length site all a e ea = search (steps, notes, keeps_text_arg) depth 16
  keeps_library_one P op.IsEmpty site all a e ea = search (steps, notes, keeps_text_arg) depth 16
  keeps_library_one P op.Itself site all a e ea = search (steps, notes, keeps_text_arg) depth 16
  keeps_library_one P op.ValueOf site all a e ea = keeps_make_text A L w kw fr P site _ all e
  keeps_library_one P op.IntText site all a e ea = keeps_make_text A L w kw fr P site _ all e
  keeps_library_one P op.ParseInt site all a e ea = keeps_parse P site all a.value e
  keeps_library_one P op.Abs site all a e ea = search (steps, notes, absolute_value) depth 16
  keeps_library_one P op.ClassText site all a e ea = search (steps, notes, looked, keeps_make_text) depth 16
  keeps_library_one P op.ObjectText site all a e ea = search (steps, notes, looked, keeps_make_text) depth 16
  keeps_library_one P _ site all a e ea = search (steps, notes) depth 16

  pub keeps_library_two : (P : (Fact L.moments)) (o : LibOp) (site : ℕ) (all a b : Carried A) → Entails P (Fit A L all) → Entails P (Fit A L a) → Entails P (Fit A L b) → Hold A L (In fr) P (library_two w o site all a b) (Fit A L)
  unfolding library_two
  keeps_library_two P op.CharAt site all a b e ea eb = search (steps, notes, keeps_text_arg, keeps_unit_or_fail) depth 16
  keeps_library_two P op.PartFrom site all a b e ea eb = search (steps, notes, keeps_text_arg, keeps_part_or_fail) depth 16
  keeps_library_two P op.Same site all a b e ea eb = search (steps, notes, looked, keeps_text_arg) depth 16
  keeps_library_two P op.Compare site all a b e ea eb = search (steps, notes, keeps_text_arg) depth 16
  keeps_library_two P op.Max site all a b e ea eb = search (steps, notes, greater_value) depth 16
  keeps_library_two P op.Min site all a b e ea eb = search (steps, notes, lesser_value) depth 16
  keeps_library_two P _ site all a b e ea eb = search (steps, notes) depth 16

  pub keeps_library_three : (P : (Fact L.moments)) (o : LibOp) (site : ℕ) (all a b c : Carried A) → Entails P (Fit A L all) → Hold A L (In fr) P (library_three w o site all a b c) (Fit A L)
  unfolding library_three
  keeps_library_three P op.Part site all a b c e = search (steps, notes, keeps_text_arg, keeps_part_or_fail) depth 16
  keeps_library_three P _ site all a b c e = search (steps, notes) depth 16

  pub keeps_library : (P : (Fact L.moments)) (o : LibOp) (site : ℕ) (vs : List (Carried A)) → Entails P (all_fit A L vs) → Hold A L (In fr) P (library w o site vs) (Fit A L)
  unfolding library
  keeps_library P o site [] e = keeps_read_byte P site
  keeps_library P o site (a ∷ []) e = keeps_library_one P o site _ a (joined_all_fit _ _ _ e) (first_fits _ _ _ _ e)
  keeps_library P o site (a ∷ b ∷ []) e = keeps_library_two P o site _ a b (joined_all_fit _ _ _ e) (first_fits _ _ _ _ e) (first_fits _ _ _ _ (rest_fit _ _ _ _ e))
  keeps_library P o site (a ∷ b ∷ c ∷ rest) e = keeps_library_three P o site _ a b c (joined_all_fit _ _ _ e)

  pub keeps_library_form : (P : (Fact L.moments)) (o : LibOp) (args : List (Run A (Carried A))) (site : ℕ) → AllCarry A L fr args → Hold A L (In fr) P (library_form w o args site) (Fit A L)
  unfolding library_form
  keeps_library_form P o args site h = search (steps, notes, looked, keeps_library) depth 16

  -- ---- expressions

  abbrev pub PartCarries : Option (Run A (Carried A)) → Type 1
  PartCarries Absent = Unit {1}
  PartCarries (Some m) = Carries A L fr m

  pub part_or_carries : (v : Value) (o : Option (Run A (Carried A))) → IsNoReference v → PartCarries o → Carries A L fr (part_or v o)
  unfolding part_or
  part_or_carries v Absent n h = record { by = λ P. keeps_return _ _ _ (constant_fits _ _ v (plain_value _ _ v n)) }
  part_or_carries v (Some m) n h = h

  pub keeps_unary : (P : (Fact L.moments)) (o : UnOp) (m : Run A (Carried A)) → Carries A L fr m → Hold A L (In fr) P (unary o m) (Fit A L)
  unfolding unary
  keeps_unary P o m h = search (steps, notes, looked, unary_value) depth 14

  pub keeps_binary : (P : (Fact L.moments)) (o : BinOp) (l r : Run A (Carried A)) (site : ℕ) → Carries A L fr l → Carries A L fr r → Hold A L (In fr) P (binary w o l r site) (Fit A L)
  unfolding binary
  keeps_binary P o l r site hl hr = search (steps, notes, looked, keeps_divided, binary_value) depth 16

  pub keeps_convert : (P : (Fact L.moments)) (to : Primitive) (m : Run A (Carried A)) → Carries A L fr m → Hold A L (In fr) P (convert to m) (Fit A L)
  unfolding convert
  keeps_convert P to m h = search (steps, notes, looked, converted_value) depth 14

  pub keeps_cast : (P : (Fact L.moments)) (ty : Ty) (m : Run A (Carried A)) (site : ℕ) → Carries A L fr m → Hold A L (In fr) P (cast w ty m site) (Fit A L)
  unfolding cast
  keeps_cast P ty m site h = search (steps, notes, looked) depth 16

  pub keeps_instance_of : (P : (Fact L.moments)) (ty : Ty) (m : Run A (Carried A)) → Carries A L fr m → Hold A L (In fr) P (instance_of w ty m) (Fit A L)
  unfolding instance_of
  keeps_instance_of P ty m h = search (steps, notes, looked) depth 16

  pub keeps_arm : (P : (Fact L.moments)) (e : Made A) (v : Value) (o : Option (Run A (Carried A))) → Entails P (MadeFit A L kind.Test e) → Entails P (value_fact A L v) → PartCarries o → Hold A L (In fr) P (arm e v o) (Fit A L)
  unfolding arm
  keeps_arm P e v Absent he ev h = keeps_return _ _ _ (valued_test A L e v he ev)
  keeps_arm P e v (Some m) he ev h = search (steps, notes, looked) depth 14

  pub keeps_conditional : (P : (Fact L.moments)) (test : Run A (Carried A)) (if_true if_false : Option (Run A (Carried A))) (site : ℕ) → Carries A L fr test → PartCarries if_true → PartCarries if_false → Hold A L (In fr) P (conditional test if_true if_false site) (Fit A L)
  unfolding conditional
  keeps_conditional P test if_true if_false site h ht hf = search (steps, notes, looked, keeps_arm) depth 18

  -- ---- what is stored

  pub keeps_subarrays : (ds : List (Carried A)) (site : ℕ) (ty : Ty) (parent n : ℕ) (P : (Fact L.moments)) → Entails P (object_fact A L parent) → Entails P (all_fit A L ds) → Hold A L (In fr) P (subarrays w site ty ds parent n) (λ t. nothing)
  unfolding subarrays
  keeps_subarrays [] site ty parent n P ep e = keeps_return _ _ tt trivially
  keeps_subarrays (x ∷ ds) site ty parent n P ep e = keeps_for_each n 0 _ P (λ i P' e'.
      with_new A L (keeps_make_array (In fr) P' site ty _ x (chain e' (first_fits _ _ x ds e))) (λ sub.
      with_set A L (note_set A L site _ _ _ (elem_slot _ _ parent i (before _ _ (chain e' ep))) (stored A L _ _ (elem_slot _ _ parent i (before _ _ (chain e' ep))) (object_value _ _ sub (newest _ _))) (object_value _ _ sub (newest _ _)) (valued_new A L sub _ (newest _ _) (object_value _ _ sub (newest _ _)))) (λ set.
      keeps_subarrays ds site _ sub.number _ _ (before _ _ (at_new A L sub (newest _ _))) (before _ _ (before _ _ (chain e' (rest_fit _ _ x ds e)))))))

  pub keeps_make_arrays : (P : (Fact L.moments)) (site : ℕ) (ty : Ty) (ds : List (Carried A)) → Entails P (all_fit A L ds) → Hold A L (In fr) P (make_arrays w site ty ds) (Fit A L)
  unfolding make_arrays
  keeps_make_arrays P site ty [] e = search (steps, notes) depth 14
  keeps_make_arrays P site ty (x ∷ ds) e =
      with_new A L (keeps_make_array (In fr) P site ty _ x (first_fits _ _ x ds e)) (λ made.
      after _ _ (keeps_subarrays ds site _ made.number _ _ (at_new A L made (newest _ _)) (before _ _ (rest_fit _ _ x ds e))) (search (steps, notes) depth 14))

  pub keeps_create_array : (P : (Fact L.moments)) (ty : Ty) (dims : List (Run A (Carried A))) (site : ℕ) → AllCarry A L fr dims → Hold A L (In fr) P (create_array w ty dims site) (Fit A L)
  unfolding create_array
  keeps_create_array P ty dims site h = search (steps, notes, looked, keeps_make_arrays) depth 16

  pub keeps_set_elements : (ms : List (Run A (Carried A))) (e : Made A) (i : ℕ) (sites : List ℕ) (P : (Fact L.moments)) → Entails P (MadeFit A L kind.New e) → AllCarry A L fr ms → Hold A L (In fr) P (set_elements e i sites ms) (λ t. nothing)
  unfolding set_elements
  keeps_set_elements [] e i sites P h hs = keeps_return _ _ tt trivially
  keeps_set_elements (m ∷ ms) e i sites P h hs =
      with_carried _ _ (hs.0.by P) (λ v.
      with_set A L (note_set A L _ _ _ _ (elem_slot _ _ e.number i (at_new A L e (before _ _ h))) (stored A L _ _ (elem_slot _ _ e.number i (at_new A L e (before _ _ h))) (carried_value _ _ v (newest _ _))) (carried_value _ _ v (newest _ _)) (joined_fits _ _ v.value _ v (carried_value _ _ v (newest _ _)) (valued_new A L e _ (before _ _ h) (object_value _ _ e (before _ _ h))) (newest _ _))) (λ set.
      keeps_set_elements ms e (suc i) _ _ (before _ _ (before _ _ h)) hs.1))

  pub keeps_create_filled : (P : (Fact L.moments)) (ty : Ty) (elements : List (Run A (Carried A))) (sites : List ℕ) (site : ℕ) → AllCarry A L fr elements → Hold A L (In fr) P (create_filled w ty elements sites site) (Fit A L)
  unfolding create_filled
  keeps_create_filled P ty elements sites site h = search (steps, notes, keeps_make_array, keeps_set_elements) depth 18

  pub keeps_new_array : (P : (Fact L.moments)) (ty : Ty) (dims elements : List (Run A (Carried A))) (sites : List ℕ) (site : ℕ) → AllCarry A L fr dims → AllCarry A L fr elements → Hold A L (In fr) P (new_array w ty dims elements sites site) (Fit A L)
  unfolding new_array
  keeps_new_array P ty [] elements sites site hd he = keeps_create_filled P ty elements sites site he
  keeps_new_array P ty (d ∷ ds) elements sites site hd he = keeps_create_array P ty (d ∷ ds) site hd

  pub keeps_update : (P : (Fact L.moments)) (place : Located A) (o : BinOp) (right : Run A (Carried A)) (ty : Ty) (wide : Option Primitive) (gives_old : Bool) (site : ℕ) → PlaceCarries A L w kw fr place → Carries A L fr right → Hold A L (In fr) P (update w place o right ty wide gives_old site) (Fit A L)
  unfolding update
  keeps_update P place o right ty Absent gives_old site h hr = keeps_append_place A L w kw fr P place right site h hr
  keeps_update P place o right ty (Some wide) gives_old site h hr = keeps_update_place A L w kw fr P place o right ty wide gives_old site h hr

  pub keeps_call_form : (P : (Fact L.moments)) (f : CallForm) (site m : ℕ) (r : Carried A) (args : List (Carried A)) → Entails P (Fit A L r) → Entails P (all_fit A L args) → Hold A L (In fr) P (call_form w f site m r args) (Fit A L)
  unfolding call_form
  keeps_call_form P form.Chosen site m r args er ea = let chosen = keeps_call_chosen A L w kw fr in search (steps, notes, keeps_call_on_text, chosen) depth 14
  keeps_call_form P _ site m r args er ea = keeps_called A L w kw fr (In fr) P site m (Some r) args (some_fits _ _ r er) ea

  pub keeps_call_on : (P : (Fact L.moments)) (f : CallForm) (m : ℕ) (receiver : Run A (Carried A)) (args : List (Run A (Carried A))) (site : ℕ) → Carries A L fr receiver → AllCarry A L fr args → Hold A L (In fr) P (call_on w f m receiver args site) (Fit A L)
  unfolding call_on
  keeps_call_on P f m receiver args site hr ha = search (steps, notes, looked, keeps_call_form) depth 18

  pub keeps_call_static : (P : (Fact L.moments)) (m : ℕ) (args : List (Run A (Carried A))) (site : ℕ) → AllCarry A L fr args → Hold A L (In fr) P (call_static w m args site) (Fit A L)
  unfolding call_static
  keeps_call_static P m args site ha = let call = keeps_called A L w kw fr in search (steps, notes, looked, keeps_initialize, call) depth 16

  pub keeps_construct : (P : (Fact L.moments)) (site : ℕ) (constructor : Option ℕ) (object : Carried A) (args : List (Carried A)) → Entails P (Fit A L object) → Entails P (all_fit A L args) → Hold A L (In fr) P (construct w site constructor object args) (λ t. nothing)
  unfolding construct
  keeps_construct P site Absent object args eo ea = search (steps, notes) depth 14
  keeps_construct P site (Some m) object args eo ea = let call = keeps_called A L w kw fr in search (steps, notes, call) depth 14

  pub keeps_create : (P : (Fact L.moments)) (c : ℕ) (constructor : Option ℕ) (args : List (Run A (Carried A))) (site : ℕ) → AllCarry A L fr args → Hold A L (In fr) P (create w c constructor args site) (Fit A L)
  unfolding create
  keeps_create P c constructor args site ha = let is = kw.program in search (steps, is, notes, looked, keeps_initialize, keeps_construct) depth 20

  pub keeps_call : (P : (Fact L.moments)) (f : CallForm) (m : ℕ) (receiver : Option (Run A (Carried A))) (args : List (Run A (Carried A))) (site : ℕ) → PartCarries receiver → AllCarry A L fr args → Hold A L (In fr) P (call w f m receiver args site) (Fit A L)
  unfolding call
  keeps_call P form.Static m receiver args site hr ha = keeps_call_static P m args site ha
  keeps_call P _ m receiver args site hr ha = keeps_call_on P _ m _ args site (part_or_carries val.Null receiver tt hr) ha
