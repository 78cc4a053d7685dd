-- Parts of forms that execute no point, whatever their values are.
use Rattle.std.proofs.Common.{◌≡◌, ℕ, zero, suc, Bool, true, false, List, [], ◌∷◌, Option, Some, sym, ◌∙◌}
use Rattle.std.specs.Prelude.{None as Absent}
use Rattle.std.specs.Prelude.{ℤ, pos}
use Rattle.wy_kernel.specs.declared.types.Ty.{Ty}
use Rattle.wy_kernel.specs.declared.form.LibOp.{LibOp}
use Rattle.wy_kernel.specs.declared.form.LibOp.TheVariants as op
use Rattle.wy_kernel.specs.Program.{string_class, type_of_code, type_code, element_type}
use Rattle.wy_kernel.specs.Subtyping.{class_type}
use Rattle.wy_value.specs.declared.value.Value.{Value}
use Rattle.wy_value.specs.declared.value.Value.TheVariants as val
use Rattle.wy_event.specs.declared.record.Kind.TheVariants as kind
use Rattle.wy_event.specs.declared.record.Slot.{Slot}
use Rattle.wy_event.specs.declared.record.Slot.TheVariants as slot
use Rattle.wy_steps.specs.State.{Carried, Run, Reason, Jumped, Returned, Threw}
use Rattle.wy_steps.specs.Steps.{constant, code_of}
use Rattle.wy_meaning.specs.World.{World, plain, about, into, spelling, class_code, throwing, fail, type_of, units_of, length_of, object_of, natural_of, null_pointer, arithmetic, array_store, array_index, number_format, string_index, negative_size, class_cast}
use Rattle.wy_meaning.specs.Place.{Spot, local_spot, field_spot, checked_index, element_spot, lacks_value, fetch, assign, check_store, store, divided}
use Rattle.wy_meaning.specs.Array.{make_array, for_each, subarrays, make_arrays}
use Rattle.wy_meaning.specs.Text.{spelled_as, make_text, print, print_nothing}
use Rattle.wy_meaning.specs.Library.{text_arg, unit_or_fail, part_or_fail, int_or_fail, parse, byte_value, read_byte, library_one, library_two, library_three, library}
use Rattle.wy_meaning.specs.Call.{text_equals, call_on_text, end_body, at_return, at_failure}
use Rattle.wy_meaning.specs.Statement.{declaration, jump}
use Rattle.wy_typing.specs.Types.{text_type}
use Rattle.law_typed_states.proofs.Library.{Fails, arithmetic_fails, array_store_fails, array_index_fails, null_pointer_fails, number_format_fails, string_index_fails, negative_size_fails, class_cast_fails}
use Rattle.law_typed_states.proofs.Rules.{Ground, A, p}
use Rattle.law_typed_states.proofs.Places.{Methods, world_of}
use Rattle.law_reached.proofs.Quiet.{IsQuietDraft, Quiet, q_bind, q_after, q_return, q_leave, q_stop, q_choose, q_frame, q_event_at, q_read, q_declare, q_take_elements, q_take_units, q_room, q_write_out, q_next_byte, q_note, q_write, q_new}

pub class_same : (c d : ℕ) → class_type c ≡ class_type d → c ≡ d
class_same c d e = cc e

module _ (G : Ground) (M : Methods G) where
  abbrev w : World (A G)
  w = world_of G M

  abbrev C : Type 0
  C = Carried (A G)

  -- ---- exceptions

  pub q_throwing : {X : Type 0} (site : ℕ) (v : C) → Quiet {X = X} (throwing site v)
  unfolding throwing plain
  q_throwing site v = q_bind (q_note (plain kind.Throw site v.value) v (record { plain = λ h. h; no_text = λ e. absurd (cc e) })) (λ e. q_leave _)

  -- a New of another class than String
  pub q_object : (site c : ℕ) (v : C) → (type_of_code (class_code c) ≡ text_type → ⊥) → IsQuietDraft (about kind.New site (class_code c) val.None)
  unfolding about code_of
  q_object site c v n = record { plain = λ h. h; no_text = λ e h. n h }

  q_fails : {X : Type 0} (c site : ℕ) (v : C) → Fails (p G) c → (c ≡ string_class → ⊥) → Quiet {X = X} (fail w c site v)
  unfolding fail
  q_fails c site v f n = q_bind (q_new (p G) (about kind.New site (class_code c) val.None) v (q_object site c v (λ h. n (class_same c string_class (sym f.code ∙ h))))) (λ e. q_throwing site _)

  pub q_null : {X : Type 0} (site : ℕ) (v : C) → Quiet {X = X} (fail w null_pointer site v)
  q_null site v = q_fails null_pointer site v (null_pointer_fails (p G) G.fits.declarations.library_classes) (λ e. cc e)

  pub q_cast : {X : Type 0} (site : ℕ) (v : C) → Quiet {X = X} (fail w class_cast site v)
  q_cast site v = q_fails class_cast site v (class_cast_fails (p G) G.fits.declarations.library_classes) (λ e. cc e)

  pub q_size : {X : Type 0} (site : ℕ) (v : C) → Quiet {X = X} (fail w negative_size site v)
  q_size site v = q_fails negative_size site v (negative_size_fails (p G) G.fits.declarations.library_classes) (λ e. cc e)

  q_number : {X : Type 0} (site : ℕ) (v : C) → Quiet {X = X} (fail w number_format site v)
  q_number site v = q_fails number_format site v (number_format_fails (p G) G.fits.declarations.library_classes) (λ e. cc e)

  q_place : {X : Type 0} (site : ℕ) (v : C) → Quiet {X = X} (fail w string_index site v)
  q_place site v = q_fails string_index site v (string_index_fails (p G) G.fits.declarations.library_classes) (λ e. cc e)

  -- ---- what is looked up

  pub q_type_of : (v : Value) → Quiet {A = A G} (type_of v)
  unfolding type_of
  q_type_of (val.Object k) = q_bind (q_event_at k) (λ o. q_return _)
  q_type_of (val.Text k) = q_return _
  q_type_of (val.Fixed k) = q_return _
  q_type_of _ = q_return _

  pub q_units_of : (v : Value) → Quiet (units_of w v)
  unfolding units_of
  q_units_of (val.Text k) = q_bind (q_event_at k) (λ o. q_return _)
  q_units_of (val.Fixed k) = q_return _
  q_units_of _ = q_return _

  q_length_of : (n : ℕ) → Quiet {A = A G} (length_of n)
  unfolding length_of
  q_length_of n = q_bind (q_event_at n) (λ o. q_return _)

  q_object_of : (site : ℕ) (c : C) (v : Value) → Quiet (object_of w site c v)
  unfolding object_of
  q_object_of site c (val.Object n) = q_return _
  q_object_of site c _ = q_null site c

  -- ---- places

  pub q_local_spot : (k : ℕ) → Quiet {A = A G} (local_spot k)
  unfolding local_spot
  q_local_spot k = q_bind q_frame (λ f. q_return _)

  pub q_field_spot : (k site : ℕ) (o : C) → Quiet (field_spot w k site o)
  unfolding field_spot
  q_field_spot k site o = q_bind (q_object_of site o o.value) (λ n. q_return _)

  q_index : (site : ℕ) (c : C) (o : Option ℕ) → Quiet (checked_index w site c o)
  unfolding checked_index
  q_index site c (Some k) = q_return _
  q_index site c Absent = q_fails array_index site c (array_index_fails (p G) G.fits.declarations.library_classes) (λ e. cc e)

  pub q_element_spot : (site : ℕ) (a k : C) → Quiet (element_spot w site a k)
  unfolding element_spot
  q_element_spot site a k = q_bind (q_object_of site _ a.value) (λ n. q_bind (q_length_of n) (λ l. q_bind (q_index site _ _) (λ j. q_return _)))

  pub q_fetch : (x : Spot (A G)) → Quiet (fetch x)
  unfolding fetch
  q_fetch x = q_bind (q_read x.slot) (λ v. q_choose (lacks_value x.slot v.value) (q_stop _) (q_return _))

  pub q_set : (site : ℕ) (x : Slot) (v : Value) → IsQuietDraft (into kind.Set site x v)
  unfolding into
  q_set site x v = record { plain = λ h. h; no_text = λ e. absurd (cc e) }

  pub q_assign : (site : ℕ) (x : Spot (A G)) (v : C) → Quiet (assign site x v)
  unfolding assign
  q_assign site x v = q_bind (q_write _ _ (q_set site x.slot v.value)) (λ e. q_return _)

  q_check : (site : ℕ) (x : Spot (A G)) (v : C) (y : Slot) → Quiet (check_store w site x v y)
  unfolding check_store
  q_check site x v (slot.Elem a j) = q_bind (q_type_of (val.Object a)) (λ t. q_bind (q_type_of v.value) (λ u. q_choose _ (q_return tt) (q_fails array_store site _ (array_store_fails (p G) G.fits.declarations.library_classes) (λ e. cc e))))
  q_check site x v _ = q_return tt

  pub q_store : (site : ℕ) (x : Spot (A G)) (v : C) → Quiet (store w site x v)
  unfolding store
  q_store site x v = q_after (q_check site x v x.slot) (q_assign site x v)

  pub q_divided : (site : ℕ) (c : C) (o : Option Value) → Quiet (divided w site c o)
  unfolding divided
  q_divided site c (Some v) = q_return _
  q_divided site c Absent = q_fails arithmetic site c (arithmetic_fails (p G) G.fits.declarations.library_classes) (λ e. cc e)

  -- ---- texts

  pub q_make_text : (site : ℕ) (units : List ℕ) (c : C) → Quiet (make_text site units c)
  unfolding make_text spelling
  q_make_text site units c = q_after (q_take_units _) (q_bind (q_note (spelling site units) c (record { plain = λ h. h; no_text = λ e. absurd (cc e) })) (λ e. q_return _))

  pub q_spelled : (v : Value) → Quiet (spelled_as w v)
  unfolding spelled_as
  q_spelled (val.Text n) = q_units_of (val.Text n)
  q_spelled (val.Fixed n) = q_units_of (val.Fixed n)
  q_spelled _ = q_return _

  pub q_print : (site : ℕ) (bytes : List ℕ) (v : C) → Quiet (print site bytes v)
  unfolding print plain
  q_print site bytes v = q_after (q_room bytes) (q_bind (q_note (plain kind.Print site v.value) v (record { plain = λ h. h; no_text = λ e. absurd (cc e) })) (λ e. q_write_out bytes))

  pub q_print_nothing : (ends_line : Bool) (site : ℕ) → Quiet {A = A G} (print_nothing ends_line site)
  unfolding print_nothing
  q_print_nothing ends_line site = q_print site _ _

  -- ---- the library

  q_text_arg : (site : ℕ) (c : C) (v : Value) → Quiet (text_arg w site c v)
  unfolding text_arg
  q_text_arg site c (val.Text k) = q_units_of (val.Text k)
  q_text_arg site c (val.Fixed k) = q_units_of (val.Fixed k)
  q_text_arg site c _ = q_null site c

  q_unit : (site : ℕ) (c : C) (o : Option ℕ) → Quiet (unit_or_fail w site c o)
  unfolding unit_or_fail
  q_unit site c (Some u) = q_return _
  q_unit site c Absent = q_place site c

  q_part : (site : ℕ) (c : C) (o : Option (List ℕ)) → Quiet (part_or_fail w site c o)
  unfolding part_or_fail
  q_part site c (Some us) = q_make_text site us c
  q_part site c Absent = q_place site c

  q_int : (site : ℕ) (c : C) (o : Option ℤ) → Quiet (int_or_fail w site c o)
  unfolding int_or_fail
  q_int site c (Some z) = q_return _
  q_int site c Absent = q_number site c

  q_parse : (site : ℕ) (c : C) (v : Value) → Quiet (parse w site c v)
  unfolding parse
  q_parse site c (val.Text k) = q_bind (q_units_of (val.Text k)) (λ us. q_int site c _)
  q_parse site c (val.Fixed k) = q_bind (q_units_of (val.Fixed k)) (λ us. q_int site c _)
  q_parse site c _ = q_number site c

  q_read_byte : (site : ℕ) → Quiet {A = A G} (read_byte site)
  unfolding read_byte plain
  q_read_byte site = q_bind q_next_byte (λ b. q_bind (q_note (plain kind.Read site (byte_value b)) (constant val.None) (record { plain = λ h. h; no_text = λ e. absurd (cc e) })) (λ e. q_return _))

  q_one : (o : LibOp) (site : ℕ) (all a : C) → Quiet (library_one w o site all a)
  unfolding library_one
  q_one op.ArrayLength site all a = q_bind (q_object_of site all a.value) (λ n. q_bind (q_length_of n) (λ l. q_return _))
  q_one op.Length site all a = q_bind (q_text_arg site all a.value) (λ us. q_return _)
  q_one op.IsEmpty site all a = q_bind (q_text_arg site all a.value) (λ us. q_return _)
  q_one op.Itself site all a = q_bind (q_text_arg site all a.value) (λ us. q_return _)
  q_one op.ValueOf site all a = q_make_text site _ all
  q_one op.IntText site all a = q_make_text site _ all
  q_one op.ParseInt site all a = q_parse site all a.value
  q_one op.Abs site all a = q_return _
  q_one op.ClassText site all a = q_bind (q_type_of a.value) (λ t. q_make_text site _ all)
  q_one op.ObjectText site all a = q_bind (q_type_of a.value) (λ t. q_make_text site _ all)
  q_one _ site all a = q_return _

  q_two : (o : LibOp) (site : ℕ) (all a b : C) → Quiet (library_two w o site all a b)
  unfolding library_two
  q_two op.CharAt site all a b = q_bind (q_text_arg site all a.value) (λ us. q_unit site all _)
  q_two op.PartFrom site all a b = q_bind (q_text_arg site all a.value) (λ us. q_part site all _)
  q_two op.Same site all a b = q_bind (q_text_arg site all a.value) (λ x. q_bind (q_units_of b.value) (λ y. q_return _))
  q_two op.Compare site all a b = q_bind (q_text_arg site all a.value) (λ x. q_bind (q_text_arg site all b.value) (λ y. q_return _))
  q_two op.Max site all a b = q_return _
  q_two op.Min site all a b = q_return _
  q_two _ site all a b = q_return _

  q_three : (o : LibOp) (site : ℕ) (all a b c : C) → Quiet (library_three w o site all a b c)
  unfolding library_three
  q_three op.Part site all a b c = q_bind (q_text_arg site all a.value) (λ us. q_part site all _)
  q_three _ site all a b c = q_return _

  pub q_library : (o : LibOp) (site : ℕ) (vs : List C) → Quiet (library w o site vs)
  unfolding library
  q_library o site [] = q_read_byte site
  q_library o site (a ∷ []) = q_one o site _ a
  q_library o site (a ∷ b ∷ []) = q_two o site _ a b
  q_library o site (a ∷ b ∷ c ∷ rest) = q_three o site _ a b c

  pub q_on_text : (b : Bool) (r : C) (args : List C) → Quiet (call_on_text w b r args)
  unfolding call_on_text text_equals
  q_on_text true r (v ∷ vs) = q_bind (q_units_of r.value) (λ x. q_bind (q_units_of v.value) (λ y. q_return _))
  q_on_text true r [] = q_return _
  q_on_text false r args = q_return _

  -- ---- arrays

  -- each of so many arrays in one another is an array, by its code
  abbrev pub Arrays : Ty → List C → Type 0
  Arrays ty [] = Unit {0}
  Arrays ty (d ∷ ds) = (type_of_code (type_code ty) ≡ text_type → ⊥) × Arrays (element_type ty) ds

  pub q_make_array : (site : ℕ) (ty : Ty) (n : ℕ) (c : C) → (type_of_code (type_code ty) ≡ text_type → ⊥) → Quiet (make_array w site ty n c)
  unfolding make_array about code_of
  q_make_array site ty n c h = q_after (q_take_elements n) (q_new (p G) (about kind.New site (type_code ty) (val.Int (pos n))) c (record { plain = λ h. h; no_text = λ e q. h q }))

  q_for_each : (n k : ℕ) (f : ℕ → Run (A G) Unit) → ((j : ℕ) → Quiet (f j)) → Quiet (for_each k n f)
  unfolding for_each
  q_for_each zero k f h = q_return tt
  q_for_each (suc n) k f h = q_after (h k) (q_for_each n (suc k) f h)

  q_subarrays : (ds : List C) (site : ℕ) (ty : Ty) (parent n : ℕ) → Arrays ty ds → Quiet (subarrays w site ty ds parent n)
  unfolding subarrays
  q_subarrays [] site ty parent n h = q_return tt
  q_subarrays (d ∷ ds) site ty parent n h = q_for_each n 0 _ (λ j. q_bind (q_make_array site ty (natural_of d.value) d h.0) (λ sub. q_bind (q_write _ _ (q_set site (slot.Elem parent j) (val.Object sub.number))) (λ e. q_subarrays ds site (element_type ty) sub.number (natural_of d.value) h.1)))

  pub q_make_arrays : (site : ℕ) (ty : Ty) (ds : List C) → Arrays ty ds → Quiet (make_arrays w site ty ds)
  unfolding make_arrays
  q_make_arrays site ty [] h = q_return _
  q_make_arrays site ty (d ∷ ds) h = q_bind (q_make_array site ty (natural_of d.value) d h.0) (λ e. q_after (q_subarrays ds site (element_type ty) e.number (natural_of d.value) h.1) (q_return _))

  -- ---- ends of bodies, and jumps

  pub q_end_body : (c : Bool) (site : ℕ) → Quiet {A = A G} (end_body c site)
  unfolding end_body plain
  q_end_body false site = q_stop _
  q_end_body true site = q_bind (q_note (plain kind.Return site val.None) (constant val.None) (record { plain = λ h. h; no_text = λ e. absurd (cc e) })) (λ e. q_return _)

  pub q_at_return : (why : Reason (A G)) → Quiet (at_return why)
  unfolding at_return
  q_at_return (Jumped target e) = q_leave _
  q_at_return (Returned e v) = q_return v
  q_at_return (Threw e v) = q_leave _

  pub q_at_failure : (why : Reason (A G)) → Quiet (at_failure why)
  unfolding at_failure
  q_at_failure (Jumped target e) = q_leave _
  q_at_failure (Returned e v) = q_leave _
  q_at_failure (Threw e v) = q_stop _

  pub q_declaration : (k : ℕ) → Quiet {A = A G} (declaration k)
  unfolding declaration
  q_declaration k = q_bind q_frame (λ f. q_declare _)

  pub q_jump : (site target : ℕ) → Quiet {A = A G} (jump site target)
  unfolding jump plain
  q_jump site target = q_bind (q_note (plain kind.Jump site val.None) (constant val.None) (record { plain = λ h. h; no_text = λ e. absurd (cc e) })) (λ e. q_leave _)

  pub q_returning : (site : ℕ) (v : Value) (c : C) → IsQuietDraft (plain kind.Return site v)
  unfolding plain
  q_returning site v c = record { plain = λ h. h; no_text = λ e. absurd (cc e) }
