-- Each form of an expression keeps what the steps keep.
use Rattle.std.proofs.Common.{◌≡◌, ℕ, Bool, true, false, List, [], ◌∷◌, Option, Some}
use Rattle.std.specs.Prelude.{None as Absent}
use Rattle.std.specs.Prelude.{if◌then◌else◌}
use Rattle.wy_kernel.specs.declared.operator.Primitive.{Primitive}
use Rattle.wy_kernel.specs.declared.operator.BinOp.{BinOp}
use Rattle.wy_kernel.specs.declared.types.Ty.{Ty}
use Rattle.wy_kernel.specs.Program.{Program, is_source}
use Rattle.wy_value.specs.declared.value.Value.{Value}
use Rattle.wy_value.specs.declared.value.Value.TheVariants as val
use Rattle.wy_event.specs.declared.record.Kind.TheVariants as kind
use Rattle.wy_event.specs.declared.record.Slot.{Slot}
use Rattle.wy_event.specs.declared.record.Slot.TheVariants as slot
use Rattle.wy_event.specs.Record.{Recorded}
use Rattle.wy_steps.specs.Sets.{numbers}
use Rattle.wy_steps.specs.State.{Carried, Run, Reach}
use Rattle.wy_steps.specs.Steps.{Made, owner_in, note, note_write, note_new, activating}
use Rattle.wy_meaning.specs.World.{World, plain, about, into, spelling, throwing, fail, type_of, units_of, length_of, object_of, all_of}
use Rattle.wy_meaning.specs.Place.{Located, AtLocal, AtStatic, AtField, AtElem, Spot, initialize_source, initialize, local_spot, static_spot, field_spot, checked_index, element_spot, find, fetch, read_place, assign, check_store, store, set_place, divided, update_place}
use Rattle.wy_meaning.specs.Text.{call_chosen, shown_as, shown, spelled_as, make_text, concatenated, cat, append_place, print, print_value, print_nothing}
use Rattle.law_carried.proofs.Rules.{Fact, nothing, both, Entails, newest, before, trivially, same, chain, fits, made_fit, reason_fits, Keeps, keeps_bind, weaker, keeps_return, keeps_leave, keeps_stop, keeps_catching, keeps_choose, after, then_unit, with_number, with_option, with_record, with_flag, with_type, with_codes, with_carried, with_made, spot_fits, with_spot, all_fit, with_all, option_fits, absent_fits, some_fits, no_values_fit, more_fit, first_fits, rest_fit, jumped_fits, returned_fits, threw_fits, of_returned, of_threw, constant_fits, with_value_fits, joined_fits, joined_all_fit, value_of_fits, chosen_fits, keeps_tick, keeps_steps_left, keeps_frame, keeps_event_at, keeps_is_begun, keeps_take_elements, keeps_take_units, keeps_room_for_output, keeps_write_out, keeps_next_byte, keeps_read, keeps_declare, keeps_note, keeps_note_write, keeps_activating_note, keeps_activating_write, keeps_scoped, keeps_reaching, keeps_in_frame, keeps_covered, keeps_note_new, keeps_activating_new}

pub ruleset known = (newest, before, trivially, absent_fits, some_fits, no_values_fit, more_fit, jumped_fits, returned_fits, threw_fits, constant_fits, with_value_fits, joined_fits, joined_all_fit, value_of_fits, chosen_fits)

pub ruleset steps = (after, then_unit, with_number, with_option, with_record, with_flag, with_type, with_codes, with_carried, with_made, with_spot, with_all, keeps_return, keeps_leave, keeps_stop, keeps_catching, keeps_choose, keeps_tick, keeps_steps_left, keeps_frame, keeps_event_at, keeps_is_begun, keeps_take_elements, keeps_take_units, keeps_room_for_output, keeps_write_out, keeps_next_byte, keeps_read, keeps_declare, keeps_scoped, keeps_reaching, keeps_in_frame, keeps_covered, newest, before, trivially, absent_fits, some_fits, no_values_fit, more_fit, jumped_fits, returned_fits, threw_fits, constant_fits, with_value_fits, joined_fits, joined_all_fit, value_of_fits, chosen_fits)

module _ (p : Program) (records : List Recorded) where
  abbrev pub Hold : {X : Type 0} → Fact → Run numbers X → (X → Fact) → Type 0
  Hold P m Q = Keeps (owner_in p) records P m Q

  abbrev pub Fit : Carried numbers → Fact
  Fit = fits (owner_in p) records

  abbrev pub MadeFit : Made numbers → Fact
  MadeFit = made_fit (owner_in p) records

  -- a run that gives a value, and one that gives none
  pub record Carries (m : Run numbers (Carried numbers)) : Type 1 where
    pub by : (P : Fact) → Hold P m Fit

  pub record Acts {X : Type 0} (m : Run numbers X) : Type 1 where
    pub by : (P : Fact) → Hold P m (λ x. nothing)

  pub record WorldKeeps (w : World numbers) : Type 1 where
    pub program_is : w.program ≡ p
    pub call : (site m : ℕ) (receiver : Option (Carried numbers)) (args : List (Carried numbers)) (P : Fact) → Entails P (option_fits (owner_in p) records receiver) → Entails P (all_fit (owner_in p) records args) → Hold P (w.call site m receiver args) Fit
    pub enter : (site c : ℕ) (P : Fact) → Hold P (w.enter site c) (λ t. nothing)

  -- ---- events by their kind

  pub note_throw : {P : Fact} (site : ℕ) (v : Value) (c : Carried numbers) → Entails P (Fit c) → Hold P (note (plain kind.Throw site v) c) MadeFit
  unfolding plain
  note_throw site v c e = keeps_note (owner_in p) records (plain kind.Throw site v) c tt e

  pub note_print : {P : Fact} (site : ℕ) (v : Value) (c : Carried numbers) → Entails P (Fit c) → Hold P (note (plain kind.Print site v) c) MadeFit
  unfolding plain
  note_print site v c e = keeps_note (owner_in p) records (plain kind.Print site v) c tt e

  pub note_byte : {P : Fact} (site : ℕ) (v : Value) (c : Carried numbers) → Entails P (Fit c) → Hold P (note (plain kind.Read site v) c) MadeFit
  unfolding plain
  note_byte site v c e = keeps_note (owner_in p) records (plain kind.Read site v) c tt e

  pub note_return : {P : Fact} (site : ℕ) (v : Value) (c : Carried numbers) → Entails P (Fit c) → Hold P (note (plain kind.Return site v) c) MadeFit
  unfolding plain
  note_return site v c e = keeps_note (owner_in p) records (plain kind.Return site v) c tt e

  pub note_jump : {P : Fact} (site : ℕ) (v : Value) (c : Carried numbers) → Entails P (Fit c) → Hold P (note (plain kind.Jump site v) c) MadeFit
  unfolding plain
  note_jump site v c e = keeps_note (owner_in p) records (plain kind.Jump site v) c tt e

  pub note_text : {P : Fact} (site : ℕ) (units : List ℕ) (c : Carried numbers) → Entails P (Fit c) → Hold P (note (spelling site units) c) MadeFit
  unfolding spelling
  note_text site units c e = keeps_note (owner_in p) records (spelling site units) c tt e

  pub note_test : {P : Fact} (reach : Reach) (site : ℕ) (v : Value) (c : Carried numbers) → Entails P (Fit c) → Hold P (activating reach (note (plain kind.Test site v) c)) MadeFit
  unfolding plain
  note_test reach site v c e = keeps_activating_note (owner_in p) records reach (plain kind.Test site v) c tt e

  pub note_call : {P : Fact} (reach : Reach) (site entity : ℕ) (v : Value) (c : Carried numbers) → Entails P (Fit c) → Hold P (activating reach (note (about kind.Call site entity v) c)) MadeFit
  unfolding about
  note_call reach site entity v c e = keeps_activating_note (owner_in p) records reach (about kind.Call site entity v) c tt e

  pub note_set : {P : Fact} (site : ℕ) (x : Slot) (v : Value) (c : Carried numbers) → Entails P (Fit c) → Hold P (note_write (into kind.Set site x v) c) MadeFit
  unfolding into
  note_set site x v c e = keeps_note_write (owner_in p) records (into kind.Set site x v) c tt e

  pub note_bind : {P : Fact} (site : ℕ) (x : Slot) (v : Value) (c : Carried numbers) → Entails P (Fit c) → Hold P (note_write (into kind.Bind site x v) c) MadeFit
  unfolding into
  note_bind site x v c e = keeps_note_write (owner_in p) records (into kind.Bind site x v) c tt e

  pub note_catch : {P : Fact} (reach : Reach) (site : ℕ) (x : Slot) (v : Value) (c : Carried numbers) → Entails P (Fit c) → Hold P (activating reach (note_write (into kind.Catch site x v) c)) MadeFit
  unfolding into
  note_catch reach site x v c e = keeps_activating_write (owner_in p) records reach (into kind.Catch site x v) c tt e

  pub note_object : (w : World numbers) → WorldKeeps w → (P : Fact) (site entity : ℕ) (v : Value) (c : Carried numbers) → Entails P (Fit c) → Hold P (note_new w.program (about kind.New site entity v) c) MadeFit
  unfolding about
  note_object w kw P site entity v c e = keeps_note_new p records w.program kw.program_is (about kind.New site entity v) c tt e

  pub note_init : (w : World numbers) → WorldKeeps w → (P : Fact) (reach : Reach) (site entity : ℕ) (v : Value) (c : Carried numbers) → Entails P (Fit c) → Hold P (activating reach (note_new w.program (about kind.Init site entity v) c)) MadeFit
  unfolding about
  note_init w kw P reach site entity v c e = keeps_activating_new p records w.program kw.program_is reach (about kind.Init site entity v) c tt e

pub ruleset notes = (note_throw, note_print, note_byte, note_return, note_jump, note_text, note_test, note_call, note_set, note_bind, note_catch)

module _ (p : Program) (records : List Recorded) where
  pub carries : {P : Fact} (m : Run numbers (Carried numbers)) → Carries p records m → Hold p records P m (Fit p records)
  carries m h = h.by _

  pub acts : {X : Type 0} {P : Fact} (m : Run numbers X) → Acts p records m → Hold p records P m (λ x. nothing)
  acts m h = h.by _

  -- ---- the machine's own throws, and what values refer to

  pub keeps_throwing : (X : Type 0) (Q : X → Fact) (P : Fact) (site : ℕ) (v : Carried numbers) → Entails P (Fit p records v) → Hold p records P (throwing site v) Q
  unfolding throwing
  keeps_throwing X Q P site v e = search (steps, notes) depth 14

  pub keeps_fail : (w : World numbers) → WorldKeeps p records w → (X : Type 0) (Q : X → Fact) (P : Fact) (c site : ℕ) (v : Carried numbers) → Entails P (Fit p records v) → Hold p records P (fail w c site v) Q
  unfolding fail
  keeps_fail w kw X Q P c site v e = with_made _ _ (note_object p records w kw P site _ _ v e) (λ m. keeps_throwing X Q _ site _ (search known depth 12))

  pub keeps_type_of : (P : Fact) (v : Value) → Hold p records P (type_of v) (λ t. nothing)
  unfolding type_of
  keeps_type_of P (val.Object n) = search (steps, notes) depth 14
  keeps_type_of P _ = search (steps, notes) depth 14

  pub keeps_units_of : (w : World numbers) (P : Fact) (v : Value) → Hold p records P (units_of w v) (λ t. nothing)
  unfolding units_of
  keeps_units_of w P (val.Text n) = search (steps, notes) depth 14
  keeps_units_of w P _ = search (steps, notes) depth 14

  pub keeps_length_of : (P : Fact) (n : ℕ) → Hold p records P (length_of n) (λ t. nothing)
  unfolding length_of
  keeps_length_of P n = search (steps, notes) depth 14

  pub keeps_object_of : (w : World numbers) → WorldKeeps p records w → (P : Fact) (site : ℕ) (c : Carried numbers) (v : Value) → Entails P (Fit p records c) → Hold p records P (object_of w site c v) (λ n. nothing)
  unfolding object_of
  keeps_object_of w kw P site c (val.Object n) e = search (steps, notes) depth 14
  keeps_object_of w kw P site c _ e = keeps_fail w kw _ _ P _ site c e

  abbrev pub AllCarry : List (Run numbers (Carried numbers)) → Type 1
  AllCarry [] = Unit {1}
  AllCarry (m ∷ ms) = Carries p records m × AllCarry ms

  pub keeps_all_of : (ms : List (Run numbers (Carried numbers))) (P : Fact) → AllCarry ms → Hold p records P (all_of ms) (all_fit (owner_in p) records)
  unfolding all_of
  keeps_all_of [] P h = search (steps, notes) depth 14
  keeps_all_of (m ∷ ms) P h = with_carried _ _ (h.0.by P) (λ v. with_all _ _ (keeps_all_of ms _ h.1) (λ vs. search (steps, notes) depth 14))

pub ruleset looked = (keeps_throwing, keeps_fail, keeps_type_of, keeps_units_of, keeps_length_of, keeps_object_of, keeps_all_of, carries, acts)

module _ (p : Program) (records : List Recorded) (w : World numbers) (kw : WorldKeeps p records w) where
  -- ---- places

  abbrev pub PlaceCarries : Located numbers → Type 1
  PlaceCarries (AtLocal i) = Unit {1}
  PlaceCarries (AtStatic f site) = Unit {1}
  PlaceCarries (AtField object f site) = Carries p records object
  PlaceCarries (AtElem array index site) = Carries p records array × Carries p records index

  pub keeps_initialize_source : (P : Fact) (site c : ℕ) (b : Bool) → Hold p records P (initialize_source w site c b) (λ t. nothing)
  unfolding initialize_source
  keeps_initialize_source P site c true = let enter = kw.enter in search (steps, notes, enter) depth 14
  keeps_initialize_source P site c false = search (steps, notes) depth 14

  pub keeps_initialize : (P : Fact) (site c : ℕ) → Hold p records P (initialize w site c) (λ t. nothing)
  unfolding initialize
  keeps_initialize P site c = keeps_initialize_source P site c (is_source c)

  abbrev pub SpotFit : Spot numbers → Fact
  SpotFit = spot_fits (owner_in p) records

  pub keeps_local_spot : (P : Fact) (i : ℕ) → Hold p records P (local_spot i) SpotFit
  unfolding local_spot
  keeps_local_spot P i = search (steps, notes) depth 14

  pub keeps_static_spot : (P : Fact) (f site : ℕ) → Hold p records P (static_spot w f site) SpotFit
  unfolding static_spot
  keeps_static_spot P f site = search (steps, notes, keeps_initialize) depth 14

  pub keeps_field_spot : (P : Fact) (f site : ℕ) (o : Carried numbers) → Entails P (Fit p records o) → Hold p records P (field_spot w f site o) SpotFit
  unfolding field_spot
  keeps_field_spot P f site o e = search (steps, notes, looked) depth 14

  pub keeps_checked_index : (P : Fact) (site : ℕ) (c : Carried numbers) (o : Option ℕ) → Entails P (Fit p records c) → Hold p records P (checked_index w site c o) (λ n. nothing)
  unfolding checked_index
  keeps_checked_index P site c (Some i) e = search (steps, notes) depth 14
  keeps_checked_index P site c Absent e = keeps_fail p records w kw _ _ P _ site c e

  pub keeps_element_spot : (P : Fact) (site : ℕ) (a k : Carried numbers) → Entails P (Fit p records a) → Entails P (Fit p records k) → Hold p records P (element_spot w site a k) SpotFit
  unfolding element_spot
  keeps_element_spot P site a k ea ek = search (steps, notes, looked, keeps_checked_index) depth 16

  pub keeps_find : (P : Fact) (place : Located numbers) → PlaceCarries place → Hold p records P (find w place) SpotFit
  unfolding find
  keeps_find P (AtLocal i) h = keeps_local_spot P i
  keeps_find P (AtStatic f site) h = keeps_static_spot P f site
  keeps_find P (AtField object f site) h = with_carried _ _ (h.by P) (λ o. keeps_field_spot _ f site o (newest _ _))
  keeps_find P (AtElem array index site) h = with_carried _ _ (h.0.by P) (λ a. with_carried _ _ (h.1.by _) (λ k. keeps_element_spot _ site a k (before _ _ (newest _ _)) (newest _ _)))

  pub keeps_fetch : (P : Fact) (spot : Spot numbers) → Entails P (Fit p records spot.parts) → Hold p records P (fetch spot) (Fit p records)
  unfolding fetch
  keeps_fetch P spot e = search (steps, notes) depth 14

  pub keeps_read_place : (P : Fact) (place : Located numbers) → PlaceCarries place → Hold p records P (read_place w place) (Fit p records)
  unfolding read_place
  keeps_read_place P place h = with_spot _ _ (keeps_find P place h) (λ spot. keeps_fetch _ spot (newest _ _))

  pub keeps_assign : (P : Fact) (site : ℕ) (spot : Spot numbers) (v : Carried numbers) → Entails P (Fit p records spot.parts) → Entails P (Fit p records v) → Hold p records P (assign site spot v) (Fit p records)
  unfolding assign
  keeps_assign P site spot v e ev = search (steps, notes) depth 14

  pub keeps_check_store : (P : Fact) (site : ℕ) (spot : Spot numbers) (v : Carried numbers) (x : Slot) → Entails P (Fit p records spot.parts) → Entails P (Fit p records v) → Hold p records P (check_store w site spot v x) (λ t. nothing)
  unfolding check_store
  keeps_check_store P site spot v (slot.Elem n i) e ev = search (steps, notes, looked) depth 14
  keeps_check_store P site spot v _ e ev = search (steps, notes) depth 14

  pub keeps_store : (P : Fact) (site : ℕ) (spot : Spot numbers) (v : Carried numbers) → Entails P (Fit p records spot.parts) → Entails P (Fit p records v) → Hold p records P (store w site spot v) (Fit p records)
  unfolding store
  keeps_store P site spot v e ev = search (steps, notes, keeps_check_store, keeps_assign) depth 14

  pub keeps_set_place : (P : Fact) (place : Located numbers) (right : Run numbers (Carried numbers)) (site : ℕ) → PlaceCarries place → Carries p records right → Hold p records P (set_place w place right site) (Fit p records)
  unfolding set_place
  keeps_set_place P (AtLocal i) right site h hr = search (steps, notes, looked, keeps_local_spot, keeps_store) depth 16
  keeps_set_place P (AtStatic f at) right site h hr = search (steps, notes, looked, keeps_static_spot, keeps_store) depth 16
  keeps_set_place P (AtField object f at) right site h hr = search (steps, notes, looked, keeps_field_spot, keeps_store) depth 18
  keeps_set_place P (AtElem array index at) right site h hr = let ha = h.0.by in let hk = h.1.by in search (steps, notes, looked, ha, hk, keeps_element_spot, keeps_store) depth 20

  pub keeps_divided : (P : Fact) (site : ℕ) (c : Carried numbers) (o : Option Value) → Entails P (Fit p records c) → Hold p records P (divided w site c o) (Fit p records)
  unfolding divided
  keeps_divided P site c (Some v) e = search (steps, notes) depth 14
  keeps_divided P site c Absent e = keeps_fail p records w kw _ _ P _ site c e

  if_fits : {P : Fact} (b : Bool) (x y : Carried numbers) → Entails P (Fit p records x) → Entails P (Fit p records y) → Entails P (Fit p records (if b then x else y))
  if_fits true x y ex ey = ex
  if_fits false x y ex ey = ey

  pub keeps_update_place : (P : Fact) (place : Located numbers) (op : BinOp) (right : Run numbers (Carried numbers)) (ty : Ty) (wide : Primitive) (gives_old : Bool) (site : ℕ) → PlaceCarries place → Carries p records right → Hold p records P (update_place w place op right ty wide gives_old site) (Fit p records)
  unfolding update_place
  keeps_update_place P place op right ty wide gives_old site h hr = search (steps, notes, looked, keeps_find, keeps_fetch, keeps_divided, keeps_assign, if_fits) depth 22

  -- ---- texts

  pub keeps_call_chosen : (P : Fact) (site m : ℕ) (r : Carried numbers) (args : List (Carried numbers)) → Entails P (Fit p records r) → Entails P (all_fit (owner_in p) records args) → Hold p records P (call_chosen w site m r args) (Fit p records)
  unfolding call_chosen
  keeps_call_chosen P site m r args er ea = let call = kw.call in search (steps, notes, looked, call) depth 14

  pub keeps_shown_as : (P : Fact) (site : ℕ) (v : Carried numbers) (x : Value) → Entails P (Fit p records v) → Hold p records P (shown_as w site v x) (Fit p records)
  unfolding shown_as
  keeps_shown_as P site v (val.Object n) e = search (steps, notes, keeps_call_chosen) depth 14
  keeps_shown_as P site v _ e = search (steps, notes) depth 14

  pub keeps_shown : (P : Fact) (site : ℕ) (v : Carried numbers) → Entails P (Fit p records v) → Hold p records P (shown w site v) (Fit p records)
  unfolding shown
  keeps_shown P site v e = keeps_shown_as P site v v.value e

  pub keeps_spelled_as : (P : Fact) (v : Value) → Hold p records P (spelled_as w v) (λ t. nothing)
  unfolding spelled_as
  keeps_spelled_as P (val.Text n) = keeps_units_of p records w P (val.Text n)
  keeps_spelled_as P (val.Fixed n) = keeps_units_of p records w P (val.Fixed n)
  keeps_spelled_as P _ = search (steps, notes) depth 14

  pub keeps_make_text : (P : Fact) (site : ℕ) (units : List ℕ) (c : Carried numbers) → Entails P (Fit p records c) → Hold p records P (make_text site units c) (Fit p records)
  unfolding make_text
  keeps_make_text P site units c e = search (steps, notes) depth 14

  pub keeps_concatenated : (P : Fact) (site : ℕ) (a b : Carried numbers) → Entails P (Fit p records a) → Entails P (Fit p records b) → Hold p records P (concatenated w site a b) (Fit p records)
  unfolding concatenated
  keeps_concatenated P site a b ea eb = search (steps, notes, keeps_shown, keeps_spelled_as, keeps_make_text) depth 20

  pub keeps_cat : (P : Fact) (l r : Run numbers (Carried numbers)) (site : ℕ) → Carries p records l → Carries p records r → Hold p records P (cat w l r site) (Fit p records)
  unfolding cat
  keeps_cat P l r site hl hr = search (steps, notes, looked, keeps_concatenated) depth 16

  pub keeps_append_place : (P : Fact) (place : Located numbers) (right : Run numbers (Carried numbers)) (site : ℕ) → PlaceCarries place → Carries p records right → Hold p records P (append_place w place right site) (Fit p records)
  unfolding append_place
  keeps_append_place P place right site h hr = search (steps, notes, looked, keeps_find, keeps_fetch, keeps_concatenated, keeps_store) depth 20

  pub keeps_print : (P : Fact) (site : ℕ) (bytes : List ℕ) (v : Carried numbers) → Entails P (Fit p records v) → Hold p records P (print site bytes v) (λ t. nothing)
  unfolding print
  keeps_print P site bytes v e = search (steps, notes) depth 16

  pub keeps_print_value : (P : Fact) (operand : Run numbers (Carried numbers)) (ends_line : Bool) (site : ℕ) → Carries p records operand → Hold p records P (print_value w operand ends_line site) (λ t. nothing)
  unfolding print_value
  keeps_print_value P operand ends_line site h = search (steps, notes, looked, keeps_shown, keeps_spelled_as, keeps_print) depth 18

  pub keeps_print_nothing : (P : Fact) (ends_line : Bool) (site : ℕ) → Hold p records P (print_nothing ends_line site) (λ t. nothing)
  unfolding print_nothing
  keeps_print_nothing P ends_line site = search (steps, notes, keeps_print) depth 14
