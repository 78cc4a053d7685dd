-- Sites, classes, methods, types, slots and uses that are in range keep the rules of a reader.
use Rattle.std.proofs.Common.{◌≡◌, ◌<◌, ◌≤◌, ◌+◌, ◌*◌, ◌-◌, ◌%◌, ◌^◌, inl, inr, arith, ℕ, zero, suc, Bool, true, false, ◌&&◌, ◌||◌, List, [], ◌∷◌, length, Option, Some, refl, sym, ap, ◌∙◌, subst}
use Rattle.std.specs.Prelude.{None as Absent}
use Rattle.std.specs.Prelude.{map, nat_lt, nat_le, slice_get, slice_index, slice_index_or}
use Rattle.std.specs.List.{All}
use Rattle.std.specs.Option.{option_map}
use Rattle.std.proofs.lemmas.Bool.Decides.{nat_tests}
use Rattle.std.proofs.lemmas.List.{length-map}
use Rattle.std.proofs.lemmas.List.Elements.{All-nil, All-cons}
use Rattle.std.proofs.lemmas.Nat.{mod-mul-add}
use Rattle.wy_kernel.specs.declared.operator.Primitive.{Primitive}
use Rattle.wy_kernel.specs.declared.operator.Primitive.TheVariants as prim
use Rattle.wy_kernel.specs.declared.types.Base.TheVariants.{Primitive as Basic, Class as Named}
use Rattle.wy_kernel.specs.declared.types.Ty.{Ty}
use Rattle.wy_kernel.specs.declared.types.Ty.TheVariants.{Void, Null as OfNull, Of}
use Rattle.wy_kernel.specs.declared.types.Field as memory_field
use Rattle.wy_kernel.specs.declared.form.Body as memory_body
use Rattle.wy_kernel.specs.declared.program.Program as memory
use Rattle.wy_kernel.specs.Parts.{program_of}
use Rattle.wy_kernel.specs.Program.{Program, Field, body, init_body, type_code, base_code, primitive_code}
use Rattle.wy_kernel.specs.Builtin as builtin
use Rattle.wy_kernel.specs.Builtin.{method_site}
use Rattle.wy_kernel.specs.View.{field_of, body_of, local_of}
use Rattle.wy_event.specs.declared.record.Version.{Version}
use Rattle.wy_event.specs.declared.record.Kind.{Kind}
use Rattle.wy_event.specs.declared.record.Kind.TheVariants as kind
use Rattle.wy_event.specs.declared.record.Slot.{Slot}
use Rattle.wy_event.specs.declared.record.Slot.TheVariants as slot
use Rattle.wy_event.specs.declared.record.Use.{Use}
use Rattle.wy_event.specs.declared.record.Use.TheVariants as use_of
use Rattle.wy_event.specs.Record.{Recorded}
use Rattle.wy_typing.specs.Expressions.{IsField}
use Rattle.law_induction.specs.Law.{FrameKind, OfCall, OfInit}
use Rattle.law_typed_states.specs.Typed.{running_as, types_of, local_types}
use Rattle.wy_payload.specs.declared.known.Known.{Known}
use Rattle.wy_payload.specs.declared.known.Known.TheVariants as known
use Rattle.wy_payload.specs.declared.known.Role.TheVariants as role
use Rattle.wy_payload.specs.declared.ranges.Ranges.{Ranges}
use Rattle.wy_payload.specs.declared.slot.SlotForm.TheVariants as form
use Rattle.wy_payload.specs.Bodies.{locals_of}
use Rattle.wy_payload.specs.Ranges.{ranges_of, known_as}
use Rattle.wy_payload.specs.Rules.{in_range, site_rule, entity_rule, is_code, is_static, field_rule, locals_in, brackets_unit}
use Rattle.wy_payload.specs.Places.{slot_form, allows_slot}
use Rattle.law_shaped.specs.Shaped as shaped_place
use Rattle.law_shaped.specs.Shaped.{Shaped, Below, IsLocal, IsNowhere, SlotFits, SlotOf, UseFits, UsesFit, IsFrame, IsTest}
use Rattle.law_reading.specs.Readable.{or_none, known_in, tag_of_slot, SlotIsThere, UseMayStand}
use Rattle.law_in_range.specs.InRange.{IsSite, IsTypeOfObjects, IsCode, EntityInRange, HasLocal, SlotInRange, IsPlace, UseInRange, UsesInRange}
use Rattle.law_own_traces.proofs.Known.{earlier, front, known_there, below_refers, object_refers, array_refers, known_length}

true_passes : (b : Bool) → b ≡ true → in_range b ≡ Absent
true_passes b e = ap in_range e

-- ---- sites and numbers

module _ (V : Version) (P : memory.Program) where
  abbrev p : Program
  p = program_of P

  abbrev r : Ranges
  r = ranges_of V P

  pub site_passes : (site : ℕ) → IsSite (length P.lines.items) site → site_rule (ranges_of V P) site ≡ Absent
  unfolding site_rule ranges_of builtin.methods builtin.first_methods
  site_passes site (inl lt) = true_passes _ (grind (arith, nat_tests))
  site_passes site (inr (m, lt, e)) = true_passes _ (grind (arith, nat_tests))

  class_count : length (program_of P).classes ≡ length P.classes.items
  class_count = length-map P.classes.items _

  method_count : length (program_of P).methods ≡ length P.methods.items
  method_count = length-map P.methods.items _

  -- a number that is below a count
  class_passes : (c : ℕ) → c < length (program_of P).classes → in_range (nat_lt c (length P.classes.items)) ≡ Absent
  class_passes c lt = let e = class_count in true_passes _ (grind (arith, nat_tests))

  method_passes : (m : ℕ) → m < length (program_of P).methods → in_range (nat_lt m (length P.methods.items)) ≡ Absent
  method_passes m lt = let e = method_count in true_passes _ (grind (arith, nat_tests))

  -- ---- codes of types

  module _ (few : 16 + length (program_of P).classes ≤ 2 ^ 24) where
    abbrev IsCodeOf : ℕ → ℕ → Bool
    IsCodeOf base n = (nat_lt base 6 && nat_le brackets_unit n) || (nat_le 16 base && nat_lt (base - 16) (length P.classes.items))

    remainder : (brackets base : ℕ) → base < 2 ^ 24 → (2 ^ 24 * brackets + base) % brackets_unit ≡ base
    remainder brackets base lt = ap (λ n. n % 2 ^ 24) (let e : 2 ^ 24 * brackets + base ≡ brackets * 2 ^ 24 + base = omega arith in e) ∙ mod-mul-add brackets (2 ^ 24) base lt

    class_code : (brackets c : ℕ) → c < length (program_of P).classes → IsCodeOf (16 + c) (2 ^ 24 * brackets + (16 + c)) ≡ true
    class_code brackets c lt = let e = class_count in grind (arith, nat_tests)

    small_primitive : (q : Primitive) → primitive_code q < 6
    unfolding primitive_code
    small_primitive prim.Bool = omega arith
    small_primitive prim.Byte = omega arith
    small_primitive prim.Short = omega arith
    small_primitive prim.Char = omega arith
    small_primitive prim.Int = omega arith
    small_primitive prim.Long = omega arith

    primitive_array : (n k : ℕ) → k < 6 → IsCodeOf k (2 ^ 24 * suc n + k) ≡ true
    primitive_array n k lt = grind (arith, nat_tests)

    code_of_type : (ty : Ty) → IsTypeOfObjects (program_of P) ty → is_code (ranges_of V P) (type_code ty) ≡ true
    unfolding is_code ranges_of type_code base_code
    code_of_type (Of (Named c) zero) h = let lt = h.0 in ap (λ b. IsCodeOf b (2 ^ 24 * zero + (16 + c))) (remainder zero (16 + c) (omega (arith, lt, few))) ∙ class_code zero c lt
    code_of_type (Of (Named c) (suc n)) h = ap (λ b. IsCodeOf b (2 ^ 24 * suc n + (16 + c))) (remainder (suc n) (16 + c) (omega (arith, h, few))) ∙ class_code (suc n) c h
    code_of_type (Of (Basic q) (suc n)) h = let lt = small_primitive q in ap (λ b. IsCodeOf b (2 ^ 24 * suc n + primitive_code q)) (remainder (suc n) (primitive_code q) (omega (arith, lt))) ∙ primitive_array n (primitive_code q) lt
    code_of_type (Of (Basic q) zero) h = absurd h
    code_of_type Void h = absurd h
    code_of_type OfNull h = absurd h

    code_passes : (code : ℕ) → IsCode (program_of P) code → in_range (is_code (ranges_of V P) code) ≡ Absent
    code_passes code h = true_passes _ (ap (is_code (ranges_of V P)) (sym h.2) ∙ code_of_type h.0 h.1)

    pub entity_passes : (k : Kind) (entity : Option ℕ) → EntityInRange (program_of P) k entity → entity_rule (ranges_of V P) k (or_none entity) ≡ Absent
    unfolding entity_rule ranges_of
    entity_passes kind.Init (Some c) h = class_passes c h
    entity_passes kind.Init Absent h = absurd h
    entity_passes kind.New (Some code) h = code_passes code h
    entity_passes kind.New Absent h = absurd h
    entity_passes kind.Call (Some m) h = method_passes m h
    entity_passes kind.Call Absent h = absurd h
    entity_passes kind.Bind Absent h = refl
    entity_passes kind.Set Absent h = refl
    entity_passes kind.Test Absent h = refl
    entity_passes kind.Text Absent h = refl
    entity_passes kind.Read Absent h = refl
    entity_passes kind.Print Absent h = refl
    entity_passes kind.Return Absent h = refl
    entity_passes kind.Jump Absent h = refl
    entity_passes kind.Throw Absent h = refl
    entity_passes kind.Catch Absent h = refl
    entity_passes kind.Bind (Some n) h = absurd h
    entity_passes kind.Set (Some n) h = absurd h
    entity_passes kind.Test (Some n) h = absurd h
    entity_passes kind.Text (Some n) h = absurd h
    entity_passes kind.Read (Some n) h = absurd h
    entity_passes kind.Print (Some n) h = absurd h
    entity_passes kind.Return (Some n) h = absurd h
    entity_passes kind.Jump (Some n) h = absurd h
    entity_passes kind.Throw (Some n) h = absurd h
    entity_passes kind.Catch (Some n) h = absurd h

  -- ---- fields

  static_as : (fs : List memory_field.Field) (k : ℕ) (f : Field) → slice_get (map field_of fs) k ≡ Some f → slice_get (map (λ g. g.is_static) fs) k ≡ Some f.is_static
  static_as [] k f e = absurd (cc e)
  static_as (g ∷ fs) zero f e = let q : field_of g ≡ f = cc e in ap (λ (z : Field). Some z.is_static) q
  static_as (g ∷ fs) (suc k) f e = static_as fs k f e

  wanted_passes : (wanted s : Bool) → s ≡ wanted → is_static wanted (Some s) ≡ true
  wanted_passes true s e = e
  wanted_passes false true e = absurd (cc e)
  wanted_passes false false e = refl

  pub field_passes : (wanted : Bool) (k : ℕ) (f : Field) → IsField (program_of P) k f → f.is_static ≡ wanted → field_rule (ranges_of V P) wanted k ≡ Absent
  unfolding field_rule ranges_of
  field_passes wanted k f e s = true_passes _ (ap (is_static wanted) (static_as P.fields.items k f e) ∙ wanted_passes wanted f.is_static s)

  -- ---- locals

  count_of : (o : Option memory_body.Body) → length (types_of (option_map body_of o)) ≡ locals_of o
  count_of Absent = refl
  count_of (Some b) = length-map (map local_of b.locals.items) _ ∙ length-map b.locals.items local_of

  count_at : (xs : List (Option memory_body.Body)) (m : ℕ) → length (types_of (slice_index_or (map (option_map body_of) xs) m Absent)) ≡ slice_index (map locals_of xs) m
  count_at [] m = refl
  count_at (o ∷ xs) zero = count_of o
  count_at (o ∷ xs) (suc m) = count_at xs m

  call_count : (m : ℕ) → length (local_types (program_of P) (OfCall m)) ≡ locals_in (ranges_of V P) (Some (known.Call m))
  unfolding body ranges_of locals_in
  call_count m = count_at P.bodies.items m

  init_count : (c : ℕ) → length (local_types (program_of P) (OfInit c)) ≡ locals_in (ranges_of V P) (Some (known.Init c))
  unfolding init_body ranges_of locals_in
  init_count c = count_at P.init_bodies.items c

  body_count : (k : Kind) (entity : Option ℕ) (units : List ℕ) (i : FrameKind) → running_as k entity ≡ Some i → length (local_types (program_of P) i) ≡ locals_in (ranges_of V P) (Some (known_as k (or_none entity) units))
  body_count kind.Call (Some m) units i e = ap (λ j. length (local_types (program_of P) j)) (let q : OfCall m ≡ i = cc e in sym q) ∙ call_count m
  body_count kind.Init (Some c) units i e = ap (λ j. length (local_types (program_of P) j)) (let q : OfInit c ≡ i = cc e in sym q) ∙ init_count c
  body_count kind.Call Absent units i e = absurd (cc e)
  body_count kind.Init Absent units i e = absurd (cc e)
  body_count _ entity units i e = absurd (cc e)

-- ---- slots and uses

local_form : (x : Slot) → IsLocal x → allows_slot form.Local (tag_of_slot x) ≡ true
local_form (slot.Local f k) h = refl
local_form _ h = absurd h

no_form : (x : Slot) → IsNowhere x → allows_slot form.Nothing (tag_of_slot x) ≡ true
no_form slot.None h = refl
no_form _ h = absurd h

place_form : (x : Slot) → IsPlace x → allows_slot form.Place (tag_of_slot x) ≡ true
place_form slot.None h = absurd h
place_form (slot.Local f k) h = refl
place_form (slot.Static k) h = refl
place_form (slot.Field o k) h = refl
place_form (slot.Elem a j) h = refl

set_place : (x : Slot) → shaped_place.IsPlace x → IsPlace x
set_place slot.None h = absurd h
set_place (slot.Local f k) h = tt
set_place (slot.Static k) h = tt
set_place (slot.Field o k) h = tt
set_place (slot.Elem a j) h = tt

pub slot_allowed : (k : Kind) (x : Slot) → SlotOf k x → allows_slot (slot_form k) (tag_of_slot x) ≡ true
slot_allowed kind.Bind x h = local_form x h
slot_allowed kind.Catch x h = local_form x h
slot_allowed kind.Set x h = place_form x (set_place x h)
slot_allowed kind.Init x h = no_form x h
slot_allowed kind.New x h = no_form x h
slot_allowed kind.Call x h = no_form x h
slot_allowed kind.Test x h = no_form x h
slot_allowed kind.Text x h = no_form x h
slot_allowed kind.Read x h = no_form x h
slot_allowed kind.Print x h = no_form x h
slot_allowed kind.Return x h = no_form x h
slot_allowed kind.Jump x h = no_form x h
slot_allowed kind.Throw x h = no_form x h

module _ (V : Version) (P : memory.Program) (rs : List Recorded) (shaped : (n : ℕ) (e : Recorded) → slice_get rs n ≡ Some e → Shaped rs n e) (n : ℕ) (within : n ≤ length rs) where
  abbrev before : List Known
  before = earlier (front rs shaped n)

  local_there : (f k : ℕ) → HasLocal (program_of P) (slice_get (front rs shaped n)) f k → k < locals_in (ranges_of V P) (slice_get before f)
  local_there f k h =
      let known : slice_get before f ≡ Some (known_in h.event) = known_there (front rs shaped n) f h.event h.there in
      subst (λ o. k < locals_in (ranges_of V P) o) (sym known) (subst (λ m. k < m) (body_count V P h.event.kind h.event.entity h.event.units h.body h.runs) h.within)

  pub slot_there : (x : Slot) → SlotInRange (program_of P) (slice_get (front rs shaped n)) x → SlotFits rs n x → SlotIsThere (ranges_of V P) before x
  slot_there slot.None h f = tt
  slot_there (slot.Local g k) h f = (below_refers rs shaped n role.Frame IsFrame (λ k h. h) g f, local_there g k h)
  slot_there (slot.Static k) h f = field_passes V P true k h.0 h.1 h.2
  slot_there (slot.Field o k) h f = (object_refers rs shaped n o h.0, field_passes V P false k h.1.0 h.1.1 h.1.2)
  slot_there (slot.Elem a j) h f = (array_refers rs shaped n a h.0, h.1)

  use_stands : (u : Use) → UseInRange (program_of P) (slice_get (front rs shaped n)) u → UseFits rs n u → UseMayStand (ranges_of V P) before u
  use_stands (use_of.Place x moment) h f = (record { form = place_form x h.0; there = slot_there x h.1 f.0 }, subst (λ m. moment ≤ m) (sym (known_length rs shaped n within)) f.1)
  use_stands (use_of.Value k) h f = subst (λ m. k < m) (sym (known_length rs shaped n within)) f.before
  use_stands (use_of.Choice k) h f = below_refers rs shaped n role.Test IsTest (λ k h. h) k f

  pub uses_stand : (us : List Use) → UsesInRange (program_of P) (slice_get (front rs shaped n)) us → UsesFit rs n us → All (UseMayStand (ranges_of V P) before) us
  uses_stand [] h f = All-nil (UseMayStand (ranges_of V P) before)
  uses_stand (u ∷ us) h f = All-cons (UseMayStand (ranges_of V P) before) u us (use_stands u h.0 f.0) (uses_stand us h.1 f.1)
