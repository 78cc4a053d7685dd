-- Calls, arrays, operations of the library and the forms of an expression keep what the steps keep.
use Rattle.std.proofs.Common.{ℕ, zero, suc, Bool, true, List, [], ◌∷◌, Option, Some}
use Rattle.std.specs.Prelude.{None as Absent}
use Rattle.std.specs.Prelude.{ℤ}
use Rattle.wy_kernel.specs.declared.operator.Primitive.{Primitive}
use Rattle.wy_kernel.specs.declared.operator.BinOp.{BinOp}
use Rattle.wy_kernel.specs.declared.operator.UnOp.{UnOp}
use Rattle.wy_kernel.specs.declared.types.Ty.{Ty}
use Rattle.wy_kernel.specs.declared.form.CallForm.{CallForm}
use Rattle.wy_kernel.specs.declared.form.CallForm.TheVariants as form
use Rattle.wy_kernel.specs.declared.form.LibOp.{LibOp}
use Rattle.wy_kernel.specs.declared.form.LibOp.TheVariants as op
use Rattle.wy_kernel.specs.Program.{Program}
use Rattle.wy_value.specs.declared.value.Value.{Value}
use Rattle.wy_value.specs.declared.value.Value.TheVariants as val
use Rattle.wy_event.specs.Record.{Recorded}
use Rattle.wy_steps.specs.Sets.{numbers}
use Rattle.wy_steps.specs.State.{Carried, Run}
use Rattle.wy_steps.specs.Steps.{Made, owner_in}
use Rattle.wy_meaning.specs.World.{World}
use Rattle.wy_meaning.specs.Place.{Located}
use Rattle.wy_meaning.specs.Call.{text_equals, call_on_text, call_form, call_on, call_static, construct, create}
use Rattle.wy_meaning.specs.Array.{make_array, for_each, subarrays, make_arrays, create_array, set_elements, create_filled, new_array}
use Rattle.wy_meaning.specs.Library.{text_arg, unit_or_fail, part_or_fail, int_or_fail, parse, read_byte, library_one, library_two, library_three, library, library_form}
use Rattle.wy_meaning.specs.Expression.{part_or, update, unary, binary, convert, cast, instance_of, arm, conditional, call}
use Rattle.law_carried.proofs.Rules.{Fact, nothing, Entails, before, same, chain, keeps_return, after, with_carried, with_made, all_fit, some_fits, first_fits, rest_fit, constant_fits, joined_all_fit}
use Rattle.law_carried.proofs.Forms.{steps, known, notes, looked, Hold, Fit, MadeFit, Carries, WorldKeeps, note_set, note_object, keeps_fail, keeps_units_of, AllCarry, PlaceCarries, keeps_initialize, keeps_divided, keeps_update_place, keeps_call_chosen, keeps_make_text, keeps_append_place}

module _ (p : Program) (records : List Recorded) (w : World numbers) (kw : WorldKeeps p records w) where
  -- ---- calls

  pub keeps_text_equals : (P : Fact) (a b : Carried numbers) → Entails P (Fit p records a) → Entails P (Fit p records b) → Hold p records P (text_equals w a b) (Fit p records)
  unfolding text_equals
  keeps_text_equals P a b ea eb = search (steps, notes, looked) depth 16

  pub keeps_call_on_text : (P : Fact) (b : Bool) (r : Carried numbers) (args : List (Carried numbers)) → Entails P (Fit p records r) → Entails P (all_fit (owner_in p) records args) → Hold p records P (call_on_text w b r args) (Fit p records)
  unfolding call_on_text
  keeps_call_on_text P true r (v ∷ vs) er ea = keeps_text_equals P r v er (first_fits _ _ v vs ea)
  keeps_call_on_text P _ r args er ea = keeps_return _ _ r er

  pub keeps_call_form : (P : Fact) (f : CallForm) (site m : ℕ) (r : Carried numbers) (args : List (Carried numbers)) → Entails P (Fit p records r) → Entails P (all_fit (owner_in p) records args) → Hold p records P (call_form w f site m r args) (Fit p records)
  unfolding call_form
  keeps_call_form P form.Chosen site m r args er ea = search (steps, notes, keeps_call_on_text, keeps_call_chosen) depth 14
  keeps_call_form P _ site m r args er ea = kw.call site m (Some r) args P (some_fits _ _ r er) ea

  pub keeps_call_on : (P : Fact) (f : CallForm) (m : ℕ) (receiver : Run numbers (Carried numbers)) (args : List (Run numbers (Carried numbers))) (site : ℕ) → Carries p records receiver → AllCarry p records args → Hold p records P (call_on w f m receiver args site) (Fit p records)
  unfolding call_on
  keeps_call_on P f m receiver args site hr ha = search (steps, notes, looked, keeps_call_form) depth 18

  pub keeps_call_static : (P : Fact) (m : ℕ) (args : List (Run numbers (Carried numbers))) (site : ℕ) → AllCarry p records args → Hold p records P (call_static w m args site) (Fit p records)
  unfolding call_static
  keeps_call_static P m args site ha = let call = kw.call in search (steps, notes, looked, keeps_initialize, call) depth 16

  pub keeps_construct : (P : Fact) (site : ℕ) (constructor : Option ℕ) (object : Carried numbers) (args : List (Carried numbers)) → Entails P (Fit p records object) → Entails P (all_fit (owner_in p) records args) → Hold p records P (construct w site constructor object args) (λ t. nothing)
  unfolding construct
  keeps_construct P site Absent object args eo ea = search (steps, notes) depth 14
  keeps_construct P site (Some m) object args eo ea = let call = kw.call in search (steps, notes, call) depth 14

  pub keeps_create : (P : Fact) (c : ℕ) (constructor : Option ℕ) (args : List (Run numbers (Carried numbers))) (site : ℕ) → AllCarry p records args → Hold p records P (create w c constructor args site) (Fit p records)
  unfolding create
  keeps_create P c constructor args site ha = let object = note_object p records w kw in search (steps, notes, looked, keeps_initialize, object, keeps_construct) depth 20

  -- ---- arrays

  pub keeps_make_array : (P : Fact) (site : ℕ) (ty : Ty) (n : ℕ) (c : Carried numbers) → Entails P (Fit p records c) → Hold p records P (make_array w site ty n c) (MadeFit p records)
  unfolding make_array
  keeps_make_array P site ty n c e = let object = note_object p records w kw in search (steps, notes, object) depth 16

  pub keeps_for_each : (n i : ℕ) (f : ℕ → Run numbers Unit) (P : Fact) → ((k : ℕ) (P' : Fact) → Entails P' P → Hold p records P' (f k) (λ t. nothing)) → Hold p records P (for_each i n f) (λ t. nothing)
  unfolding for_each
  keeps_for_each zero i f P h = search (steps, notes) depth 14
  keeps_for_each (suc n) i f P h = after _ _ (h i P same) (keeps_for_each n (suc i) f P h)

  pub keeps_subarrays : (ds : List (Carried numbers)) (site : ℕ) (ty : Ty) (parent n : ℕ) (P : Fact) → Entails P (all_fit (owner_in p) records ds) → Hold p records P (subarrays w site ty ds parent n) (λ t. nothing)
  unfolding subarrays
  keeps_subarrays [] site ty parent n P e = search (steps, notes) depth 14
  keeps_subarrays (d ∷ ds) site ty parent n P e = keeps_for_each n 0 _ P (λ i P' e'.
      with_made _ _ (keeps_make_array P' site ty _ d (chain e' (first_fits _ _ d ds e))) (λ sub.
      with_made _ _ (note_set p records site _ _ _ (search known depth 12)) (λ set.
      keeps_subarrays ds site _ sub.number _ _ (before _ _ (before _ _ (chain e' (rest_fit _ _ d ds e)))))))

  pub keeps_make_arrays : (P : Fact) (site : ℕ) (ty : Ty) (ds : List (Carried numbers)) → Entails P (all_fit (owner_in p) records ds) → Hold p records P (make_arrays w site ty ds) (Fit p records)
  unfolding make_arrays
  keeps_make_arrays P site ty [] e = search (steps, notes) depth 14
  keeps_make_arrays P site ty (d ∷ ds) e =
      with_made _ _ (keeps_make_array P site ty _ d (first_fits _ _ d ds e)) (λ made.
      after _ _ (keeps_subarrays ds site _ made.number _ _ (before _ _ (rest_fit _ _ d ds e))) (search (steps, notes) depth 14))

  pub keeps_create_array : (P : Fact) (ty : Ty) (dims : List (Run numbers (Carried numbers))) (site : ℕ) → AllCarry p records dims → Hold p records P (create_array w ty dims site) (Fit p records)
  unfolding create_array
  keeps_create_array P ty dims site h = search (steps, notes, looked, keeps_make_arrays) depth 16

  pub keeps_set_elements : (ms : List (Run numbers (Carried numbers))) (e : Made numbers) (i : ℕ) (sites : List ℕ) (P : Fact) → Entails P (MadeFit p records e) → AllCarry p records ms → Hold p records P (set_elements e i sites ms) (λ t. nothing)
  unfolding set_elements
  keeps_set_elements [] e i sites P h hs = search (steps, notes) depth 14
  keeps_set_elements (m ∷ ms) e i sites P h hs =
      with_carried _ _ (hs.0.by P) (λ v.
      with_made _ _ (note_set p records _ _ _ _ (search known depth 12)) (λ set.
      keeps_set_elements ms e (suc i) _ _ (before _ _ (before _ _ h)) hs.1))

  pub keeps_create_filled : (P : Fact) (ty : Ty) (elements : List (Run numbers (Carried numbers))) (sites : List ℕ) (site : ℕ) → AllCarry p records elements → Hold p records P (create_filled w ty elements sites site) (Fit p records)
  unfolding create_filled
  keeps_create_filled P ty elements sites site h = search (steps, notes, keeps_make_array, keeps_set_elements) depth 16

  pub keeps_new_array : (P : Fact) (ty : Ty) (dims elements : List (Run numbers (Carried numbers))) (sites : List ℕ) (site : ℕ) → AllCarry p records dims → AllCarry p records elements → Hold p records P (new_array w ty dims elements sites site) (Fit p records)
  unfolding new_array
  keeps_new_array P ty [] elements sites site hd he = keeps_create_filled P ty elements sites site he
  keeps_new_array P ty (d ∷ ds) elements sites site hd he = keeps_create_array P ty (d ∷ ds) site hd

  -- ---- the library

  pub keeps_text_arg : (P : Fact) (site : ℕ) (c : Carried numbers) (v : Value) → Entails P (Fit p records c) → Hold p records P (text_arg w site c v) (λ t. nothing)
  unfolding text_arg
  keeps_text_arg P site c (val.Text n) e = keeps_units_of p records w P (val.Text n)
  keeps_text_arg P site c (val.Fixed n) e = keeps_units_of p records w P (val.Fixed n)
  keeps_text_arg P site c _ e = keeps_fail p records w kw _ _ P _ site c e

  pub keeps_unit_or_fail : (P : Fact) (site : ℕ) (c : Carried numbers) (o : Option ℕ) → Entails P (Fit p records c) → Hold p records P (unit_or_fail w site c o) (Fit p records)
  unfolding unit_or_fail
  keeps_unit_or_fail P site c (Some u) e = search (steps, notes) depth 14
  keeps_unit_or_fail P site c Absent e = keeps_fail p records w kw _ _ P _ site c e

  pub keeps_part_or_fail : (P : Fact) (site : ℕ) (c : Carried numbers) (o : Option (List ℕ)) → Entails P (Fit p records c) → Hold p records P (part_or_fail w site c o) (Fit p records)
  unfolding part_or_fail
  keeps_part_or_fail P site c (Some units) e = keeps_make_text p records w kw P site units c e
  keeps_part_or_fail P site c Absent e = keeps_fail p records w kw _ _ P _ site c e

  pub keeps_int_or_fail : (P : Fact) (site : ℕ) (c : Carried numbers) (o : Option ℤ) → Entails P (Fit p records c) → Hold p records P (int_or_fail w site c o) (Fit p records)
  unfolding int_or_fail
  keeps_int_or_fail P site c (Some z) e = search (steps, notes) depth 14
  keeps_int_or_fail P site c Absent e = keeps_fail p records w kw _ _ P _ site c e

  pub keeps_parse : (P : Fact) (site : ℕ) (c : Carried numbers) (v : Value) → Entails P (Fit p records c) → Hold p records P (parse w site c v) (Fit p records)
  unfolding parse
  keeps_parse P site c (val.Text n) e = search (steps, notes, looked, keeps_int_or_fail) depth 14
  keeps_parse P site c (val.Fixed n) e = search (steps, notes, looked, keeps_int_or_fail) depth 14
  keeps_parse P site c _ e = keeps_fail p records w kw _ _ P _ site c e

  pub keeps_read_byte : (P : Fact) (site : ℕ) → Hold p records P (read_byte site) (Fit p records)
  unfolding read_byte
  keeps_read_byte P site = search (steps, notes) depth 16

  pub keeps_library_one : (P : Fact) (o : LibOp) (site : ℕ) (all a : Carried numbers) → Entails P (Fit p records all) → Hold p records P (library_one w o site all a) (Fit p records)
  unfolding library_one
  keeps_library_one P op.ArrayLength site all a e = search (steps, notes, looked) depth 16
  keeps_library_one P op.Length site all a e = search (steps, notes, keeps_text_arg) depth 16
  keeps_library_one P op.IsEmpty site all a e = search (steps, notes, keeps_text_arg) depth 16
  keeps_library_one P op.Itself site all a e = search (steps, notes, keeps_text_arg) depth 16
  keeps_library_one P op.ValueOf site all a e = keeps_make_text p records w kw P site _ all e
  keeps_library_one P op.IntText site all a e = keeps_make_text p records w kw P site _ all e
  keeps_library_one P op.ParseInt site all a e = keeps_parse P site all a.value e
  keeps_library_one P op.Abs site all a e = search (steps, notes) depth 16
  keeps_library_one P op.ClassText site all a e = search (steps, notes, looked, keeps_make_text) depth 16
  keeps_library_one P op.ObjectText site all a e = search (steps, notes, looked, keeps_make_text) depth 16
  keeps_library_one P _ site all a e = search (steps, notes) depth 16

  pub keeps_library_two : (P : Fact) (o : LibOp) (site : ℕ) (all a b : Carried numbers) → Entails P (Fit p records all) → Hold p records P (library_two w o site all a b) (Fit p records)
  unfolding library_two
  keeps_library_two P op.CharAt site all a b e = search (steps, notes, keeps_text_arg, keeps_unit_or_fail) depth 16
  keeps_library_two P op.PartFrom site all a b e = search (steps, notes, keeps_text_arg, keeps_part_or_fail) depth 16
  keeps_library_two P op.Same site all a b e = search (steps, notes, looked, keeps_text_arg) depth 16
  keeps_library_two P op.Compare site all a b e = search (steps, notes, keeps_text_arg) depth 16
  keeps_library_two P op.Max site all a b e = search (steps, notes) depth 16
  keeps_library_two P op.Min site all a b e = search (steps, notes) depth 16
  keeps_library_two P _ site all a b e = search (steps, notes) depth 16

  pub keeps_library_three : (P : Fact) (o : LibOp) (site : ℕ) (all a b c : Carried numbers) → Entails P (Fit p records all) → Hold p records P (library_three w o site all a b c) (Fit p records)
  unfolding library_three
  keeps_library_three P op.Part site all a b c e = search (steps, notes, keeps_text_arg, keeps_part_or_fail) depth 16
  keeps_library_three P _ site all a b c e = search (steps, notes) depth 16

  pub keeps_library : (P : Fact) (o : LibOp) (site : ℕ) (vs : List (Carried numbers)) → Entails P (all_fit (owner_in p) records vs) → Hold p records P (library w o site vs) (Fit p records)
  unfolding library
  keeps_library P o site [] e = keeps_read_byte P site
  keeps_library P o site (a ∷ []) e = keeps_library_one P o site _ a (joined_all_fit _ _ _ e)
  keeps_library P o site (a ∷ b ∷ []) e = keeps_library_two P o site _ a b (joined_all_fit _ _ _ e)
  keeps_library P o site (a ∷ b ∷ c ∷ rest) e = keeps_library_three P o site _ a b c (joined_all_fit _ _ _ e)

  pub keeps_library_form : (P : Fact) (o : LibOp) (args : List (Run numbers (Carried numbers))) (site : ℕ) → AllCarry p records args → Hold p records P (library_form w o args site) (Fit p records)
  unfolding library_form
  keeps_library_form P o args site h = search (steps, notes, looked, keeps_library) depth 16

  -- ---- expressions

  abbrev pub PartCarries : Option (Run numbers (Carried numbers)) → Type 1
  PartCarries Absent = Unit {1}
  PartCarries (Some m) = Carries p records m

  pub part_or_carries : (v : Value) (o : Option (Run numbers (Carried numbers))) → PartCarries o → Carries p records (part_or v o)
  unfolding part_or
  part_or_carries v Absent h = record { by = λ P. keeps_return _ _ _ (constant_fits _ _ v) }
  part_or_carries v (Some m) h = h

  pub keeps_update : (P : Fact) (place : Located numbers) (o : BinOp) (right : Run numbers (Carried numbers)) (ty : Ty) (wide : Option Primitive) (gives_old : Bool) (site : ℕ) → PlaceCarries p records w kw place → Carries p records right → Hold p records P (update w place o right ty wide gives_old site) (Fit p records)
  unfolding update
  keeps_update P place o right ty Absent gives_old site h hr = keeps_append_place p records w kw P place right site h hr
  keeps_update P place o right ty (Some wide) gives_old site h hr = keeps_update_place p records w kw P place o right ty wide gives_old site h hr

  pub keeps_unary : (P : Fact) (o : UnOp) (m : Run numbers (Carried numbers)) → Carries p records m → Hold p records P (unary o m) (Fit p records)
  unfolding unary
  keeps_unary P o m h = search (steps, notes, looked) depth 14

  pub keeps_binary : (P : Fact) (o : BinOp) (l r : Run numbers (Carried numbers)) (site : ℕ) → Carries p records l → Carries p records r → Hold p records P (binary w o l r site) (Fit p records)
  unfolding binary
  keeps_binary P o l r site hl hr = search (steps, notes, looked, keeps_divided) depth 16

  pub keeps_convert : (P : Fact) (to : Primitive) (m : Run numbers (Carried numbers)) → Carries p records m → Hold p records P (convert to m) (Fit p records)
  unfolding convert
  keeps_convert P to m h = search (steps, notes, looked) depth 14

  pub keeps_cast : (P : Fact) (ty : Ty) (m : Run numbers (Carried numbers)) (site : ℕ) → Carries p records m → Hold p records P (cast w ty m site) (Fit p records)
  unfolding cast
  keeps_cast P ty m site h = search (steps, notes, looked) depth 16

  pub keeps_instance_of : (P : Fact) (ty : Ty) (m : Run numbers (Carried numbers)) → Carries p records m → Hold p records P (instance_of w ty m) (Fit p records)
  unfolding instance_of
  keeps_instance_of P ty m h = search (steps, notes, looked) depth 16

  pub keeps_arm : (P : Fact) (e : Made numbers) (v : Value) (o : Option (Run numbers (Carried numbers))) → Entails P (MadeFit p records e) → PartCarries o → Hold p records P (arm e v o) (Fit p records)
  unfolding arm
  keeps_arm P e v Absent he h = search (steps, notes) depth 14
  keeps_arm P e v (Some m) he h = search (steps, notes, looked) depth 14

  pub keeps_conditional : (P : Fact) (test : Run numbers (Carried numbers)) (if_true if_false : Option (Run numbers (Carried numbers))) (site : ℕ) → Carries p records test → PartCarries if_true → PartCarries if_false → Hold p records P (conditional test if_true if_false site) (Fit p records)
  unfolding conditional
  keeps_conditional P test if_true if_false site h ht hf = search (steps, notes, looked, keeps_arm) depth 18

  pub keeps_call : (P : Fact) (f : CallForm) (m : ℕ) (receiver : Option (Run numbers (Carried numbers))) (args : List (Run numbers (Carried numbers))) (site : ℕ) → PartCarries receiver → AllCarry p records args → Hold p records P (call w f m receiver args site) (Fit p records)
  unfolding call
  keeps_call P form.Static m receiver args site hr ha = keeps_call_static P m args site ha
  keeps_call P _ m receiver args site hr ha = keeps_call_on P _ m _ args site (part_or_carries _ receiver hr) ha
