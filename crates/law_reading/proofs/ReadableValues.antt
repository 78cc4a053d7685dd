-- Values, units and uses are read.
use Rattle.std.proofs.Common.{◌≡◌, ℕ, ◌<◌, ◌^◌, Bool, true, false, cond, eqb, List, ◌∷◌, ◌++◌, length, Some, Ok, refl, sym, ap, ◌∙◌, append_assoc, ℤ, FitsSigned, All}
use Rattle.std.specs.Prelude.{None as Absent}
use Rattle.std.specs.Prelude.{nat_lt}
use Rattle.std.specs.List.{flat_map}
use mir.Val.{bits}
use mir.ValLaws as laws
use Rattle.std.specs.Int.{Width, w8, w16, w32, w64, to_be_bytes, cast_signed, cast_unsigned}
use Rattle.std.proofs.lemmas.Int.{to_z-of_z}
use Rattle.std.proofs.lemmas.Bool.{lt-ltb}
use Rattle.std.proofs.lemmas.List.Elements.{recursion_from_All}
use Rattle.wy_value.specs.declared.value.Value.{Value}
use Rattle.wy_value.specs.declared.value.Value.TheVariants as val
use Rattle.wy_event.specs.declared.record.Version.{Version}
use Rattle.wy_event.specs.declared.record.Version.TheVariants as version
use Rattle.wy_event.specs.declared.record.Use.{Use}
use Rattle.wy_event.specs.declared.record.Use.TheVariants as used
use Rattle.wy_fitting.specs.Fits.{IsNumber, IsUnit, ValueFits, UseFits}
use Rattle.wy_spelling.specs.Spelling.{arm_number, arm_tag, number, slot_bytes, value_bytes, units_bytes, use_bytes, uses_bytes}
use Rattle.wy_payload.specs.declared.ranges.Ranges.{Ranges}
use Rattle.wy_payload.specs.declared.known.Known.{Known}
use Rattle.wy_payload.specs.declared.known.Role.TheVariants as role
use Rattle.wy_payload.specs.declared.slot.SlotForm.TheVariants as form
use Rattle.wy_payload.specs.declared.value.ValueTag.{ValueTag}
use Rattle.wy_payload.specs.declared.value.ValueTag.TheVariants as tags
use Rattle.wy_payload.specs.declared.value.ValueForm.{ValueForm}
use Rattle.wy_payload.specs.declared.value.ValueForm.TheVariants as wanted_form
use Rattle.wy_payload.specs.declared.event.UseTag.TheVariants as ways
use Rattle.wy_payload.specs.Rules.{in_range}
use Rattle.wy_payload.specs.Reading.{passed, number_at, reference_at, below_at, at_most_at}
use Rattle.wy_payload.specs.Places.{slot_at}
use Rattle.wy_payload.specs.Values.{arm_at, arm_limit, value_tag, allows_value, int_rule, object_role, bool_at, int_at, plain_at, object_at, text_at, fixed_at, value_of, value_at, units_tag, units_at}
use Rattle.wy_payload.specs.Events.{use_tag, place_at, use_of, use_at, uses_at}
use Rattle.law_reading.specs.Readable.{Refers, ValueMayStand, UseMayStand}
use Rattle.wy_payload.proofs.Tags.{listed_tag}
use Rattle.law_reading.proofs.SpelledValues.{is_bit}
use Rattle.law_reading.proofs.ReadableSteps.{Reads, then_is, passes, ranged, byte_is, is_16, is_64, number_is, tag_is, rows_are, both}
use Rattle.law_reading.proofs.Parts.{reference_is, below_is, at_most_is, slot_is}

-- ---- values

unsigned_fits : (w : Width) (z : ℤ) → FitsSigned w z → cast_unsigned w z < 2 ^ bits w
unsigned_fits w z fit = (laws.of_z_fits w z fit).fits

-- a number with a sign comes back from the one without
signed_is : (w : Width) (z : ℤ) (rest : List ℕ) (made : ℤ → Value) → FitsSigned w z → ◌≡◌ {A = Value × List ℕ} (made (cast_signed w (cast_unsigned w z)), rest) (made z, rest)
signed_is w z rest made fit = ap (λ k. (made k, rest)) (to_z-of_z w z fit)

truth_is : (b : Bool) → eqb (cond b 1 0) 1 ≡ b
truth_is true = refl
truth_is false = refl

truth_small : (b : Bool) → nat_lt (cond b 1 0) 2 ≡ true
truth_small true = refl
truth_small false = refl

bool_is : (b : Bool) (rest : List ℕ) → Reads (bool_at (cond b 1 0 ∷ rest)) (val.Bool b) rest
unfolding bool_at
bool_is b rest =
    let n : ℕ = cond b 1 0 in
    then_is (number_at w8 (n ∷ rest)) _ (n, rest) _ (byte_is n rest)
    (passes (in_range (nat_lt n 2)) (val.Bool (eqb n 1), rest) (ranged (nat_lt n 2) (truth_small b)) ∙ ap (λ c. Ok (val.Bool c, rest)) (truth_is b))

int_is : (wanted : ValueForm) (z : ℤ) (rest : List ℕ) → FitsSigned w32 z → int_rule wanted z ≡ Absent → Reads (int_at wanted (number (cast_unsigned w32 z) ++ rest)) (val.Int z) rest
unfolding int_at
int_is wanted z rest fit keeps =
    let n = cast_unsigned w32 z in
    then_is (number_at w32 (number n ++ rest)) _ (n, rest) _ (number_is n rest (unsigned_fits w32 z fit))
    (ap (λ (k : ℤ). passed (int_rule wanted k) (val.Int k, rest)) (to_z-of_z w32 z fit) ∙ passes (int_rule wanted z) (val.Int z, rest) keeps)

-- behind their tags
byte_value : (z : ℤ) (rest : List ℕ) → FitsSigned w8 z → Reads (plain_at tags.Byte (cast_unsigned w8 z ∷ rest)) (val.Byte z) rest
unfolding plain_at
byte_value z rest fit = then_is (number_at w8 (cast_unsigned w8 z ∷ rest)) _ (cast_unsigned w8 z, rest) _ (byte_is (cast_unsigned w8 z) rest) (ap Ok (signed_is w8 z rest val.Byte fit))

short_value : (z : ℤ) (rest : List ℕ) → FitsSigned w16 z → Reads (plain_at tags.Short (to_be_bytes w16 (cast_unsigned w16 z) ++ rest)) (val.Short z) rest
unfolding plain_at
short_value z rest fit = then_is (number_at w16 (to_be_bytes w16 (cast_unsigned w16 z) ++ rest)) _ (cast_unsigned w16 z, rest) _ (is_16 (cast_unsigned w16 z) rest (unsigned_fits w16 z fit)) (ap Ok (signed_is w16 z rest val.Short fit))

char_value : (n : ℕ) (rest : List ℕ) → IsUnit n → Reads (plain_at tags.Char (to_be_bytes w16 n ++ rest)) (val.Char n) rest
unfolding plain_at
char_value n rest fit = then_is (number_at w16 (to_be_bytes w16 n ++ rest)) _ (n, rest) _ (is_16 n rest fit) refl

long_value : (z : ℤ) (rest : List ℕ) → FitsSigned w64 z → Reads (plain_at tags.Long (to_be_bytes w64 (cast_unsigned w64 z) ++ rest)) (val.Long z) rest
unfolding plain_at
long_value z rest fit = then_is (number_at w64 (to_be_bytes w64 (cast_unsigned w64 z) ++ rest)) _ (cast_unsigned w64 z, rest) _ (is_64 (cast_unsigned w64 z) rest (unsigned_fits w64 z fit)) (ap Ok (signed_is w64 z rest val.Long fit))

object_value : (earlier : List Known) (wanted : ValueForm) (n : ℕ) (rest : List ℕ) → IsNumber n → Refers (object_role wanted) earlier n → Reads (object_at earlier wanted (number n ++ rest)) (val.Object n) rest
unfolding object_at
object_value earlier wanted n rest fit refers = then_is (reference_at (object_role wanted) earlier (number n ++ rest)) _ (n, rest) _ (reference_is (object_role wanted) earlier n rest fit refers) refl

text_value : (earlier : List Known) (n : ℕ) (rest : List ℕ) → IsNumber n → Refers role.Text earlier n → Reads (text_at earlier (number n ++ rest)) (val.Text n) rest
unfolding text_at
text_value earlier n rest fit refers = then_is (reference_at role.Text earlier (number n ++ rest)) _ (n, rest) _ (reference_is role.Text earlier n rest fit refers) refl

fixed_value : (r : Ranges) (n : ℕ) (rest : List ℕ) → IsNumber n → n < length r.fixed → Reads (fixed_at r (number n ++ rest)) (val.Fixed n) rest
unfolding fixed_at
fixed_value r n rest fit below = then_is (number_at w32 (number n ++ rest)) _ (n, rest) _ (number_is n rest fit) (passes (in_range (nat_lt n (length r.fixed))) (val.Fixed n, rest) (ranged (nat_lt n (length r.fixed)) (lt-ltb n (length r.fixed) below)))

arm_is : (v : Version) (n : ℕ) (rest : List ℕ) → IsNumber n → n < arm_limit → Reads (arm_at v (arm_number v n ++ rest)) (val.Arm n) rest
unfolding arm_at
arm_is version.One n rest fit small =
    ap (λ (m : ℕ). arm_at version.One (m ∷ rest)) (sym (is_bit n small))
    ∙ then_is (number_at w8 (n ∷ rest)) _ (n, rest) _ (byte_is n rest) (passes (in_range (nat_lt n arm_limit)) (val.Arm n, rest) (ranged (nat_lt n arm_limit) (lt-ltb n arm_limit small)))
arm_is version.Two n rest fit small = then_is (number_at w32 (number n ++ rest)) _ (n, rest) _ (number_is n rest fit) (passes (in_range (nat_lt n arm_limit)) (val.Arm n, rest) (ranged (nat_lt n arm_limit) (lt-ltb n arm_limit small)))

-- a boolean stands where no arm is wanted, and an arm where one is
bool_listed : (v : Version) (wanted : ValueForm) → allows_value wanted tags.Bool ≡ true → value_tag v wanted 1 ≡ Some tags.Bool
bool_listed version.One wanted_form.Arm e = absurd cc
bool_listed version.One _ e = refl
bool_listed version.Two wanted e = refl

arm_listed : (v : Version) (wanted : ValueForm) → allows_value wanted tags.Arm ≡ true → value_tag v wanted (arm_tag v) ≡ Some tags.Arm
arm_listed version.One wanted_form.Arm e = refl
arm_listed version.One _ e = absurd cc
arm_listed version.Two wanted e = refl

tagged_is : (r : Ranges) (earlier : List Known) (wanted : ValueForm) (tag : ValueTag) (b : ℕ) (v : Value) (text rest : List ℕ) → value_tag r.version wanted b ≡ Some tag → allows_value wanted tag ≡ true → Reads (value_of r earlier wanted tag text) v rest → Reads (value_at r earlier wanted (b ∷ text)) v rest
unfolding value_at
tagged_is r earlier wanted tag b v text rest is allowed h =
    tag_is (value_tag r.version wanted) tag b text is _ _
    (then_is (passed (in_range (allows_value wanted tag)) text) (value_of r earlier wanted tag) text _ (passes (in_range (allows_value wanted tag)) text (ranged (allows_value wanted tag) allowed)) h)

pub value_is : (r : Ranges) (earlier : List Known) (wanted : ValueForm) (v : Value) (rest : List ℕ) → ValueFits v → ValueMayStand r earlier wanted v → Reads (value_at r earlier wanted (value_bytes r.version v ++ rest)) v rest
unfolding value_bytes value_of plain_at
value_is r earlier wanted val.None rest fit may = tagged_is r earlier wanted tags.None 0 val.None rest rest (listed_tag r.version wanted 0 refl refl) may.form refl
value_is r earlier wanted (val.Bool b) rest fit may = tagged_is r earlier wanted tags.Bool 1 (val.Bool b) (cond b 1 0 ∷ rest) rest (bool_listed r.version wanted may.form) may.form (bool_is b rest)
value_is r earlier wanted (val.Byte z) rest fit may = tagged_is r earlier wanted tags.Byte 2 (val.Byte z) (cast_unsigned w8 z ∷ rest) rest (listed_tag r.version wanted 2 refl refl) may.form (byte_value z rest fit)
value_is r earlier wanted (val.Short z) rest fit may = tagged_is r earlier wanted tags.Short 3 (val.Short z) (to_be_bytes w16 (cast_unsigned w16 z) ++ rest) rest (listed_tag r.version wanted 3 refl refl) may.form (short_value z rest fit)
value_is r earlier wanted (val.Char n) rest fit may = tagged_is r earlier wanted tags.Char 4 (val.Char n) (to_be_bytes w16 n ++ rest) rest (listed_tag r.version wanted 4 refl refl) may.form (char_value n rest fit)
value_is r earlier wanted (val.Int z) rest fit may = tagged_is r earlier wanted tags.Int 5 (val.Int z) (number (cast_unsigned w32 z) ++ rest) rest (listed_tag r.version wanted 5 refl refl) may.form (int_is wanted z rest fit may.there)
value_is r earlier wanted (val.Long z) rest fit may = tagged_is r earlier wanted tags.Long 6 (val.Long z) (to_be_bytes w64 (cast_unsigned w64 z) ++ rest) rest (listed_tag r.version wanted 6 refl refl) may.form (long_value z rest fit)
value_is r earlier wanted val.Null rest fit may = tagged_is r earlier wanted tags.Null 7 val.Null rest rest (listed_tag r.version wanted 7 refl refl) may.form refl
value_is r earlier wanted (val.Object n) rest fit may = tagged_is r earlier wanted tags.Object 8 (val.Object n) (number n ++ rest) rest (listed_tag r.version wanted 8 refl refl) may.form (object_value earlier wanted n rest fit may.there)
value_is r earlier wanted (val.Text n) rest fit may = tagged_is r earlier wanted tags.Text 9 (val.Text n) (number n ++ rest) rest (listed_tag r.version wanted 9 refl refl) may.form (text_value earlier n rest fit may.there)
value_is r earlier wanted (val.Fixed n) rest fit may = tagged_is r earlier wanted tags.Fixed 10 (val.Fixed n) (number n ++ rest) rest (listed_tag r.version wanted 10 refl refl) may.form (fixed_value r n rest fit may.there)
value_is r earlier wanted (val.Arm n) rest fit may = tagged_is r earlier wanted tags.Arm (arm_tag r.version) (val.Arm n) (arm_number r.version n ++ rest) rest (arm_listed r.version wanted may.form) may.form (arm_is r.version n rest fit may.there)

-- ---- units

pub units_are : (units rest : List ℕ) → All IsUnit units → length units < 2 ^ 32 → Reads (units_at (units_bytes units ++ rest)) units rest
unfolding units_at units_bytes
units_are units rest fit few =
    let rows = flat_map (to_be_bytes w16) units in
    let parts : units_bytes units ++ rest ≡ units_tag ∷ number (length units) ++ (rows ++ rest) = append_assoc (units_tag ∷ number (length units)) rows rest in
    ap units_at parts
    ∙ then_is (number_at w8 (units_tag ∷ number (length units) ++ (rows ++ rest))) _ (units_tag, number (length units) ++ (rows ++ rest)) _ (byte_is units_tag (number (length units) ++ (rows ++ rest)))
    (then_is (number_at w32 (number (length units) ++ (rows ++ rest))) _ (length units, rows ++ rest) _ (number_is (length units) (rows ++ rest) few)
    (rows_are (number_at w16) (to_be_bytes w16) IsUnit is_16 units rest (recursion_from_All IsUnit units fit)))

-- ---- uses

use_is : (r : Ranges) (earlier : List Known) (u : Use) (rest : List ℕ) → UseFits u × UseMayStand r earlier u → Reads (use_at r earlier (use_bytes u ++ rest)) u rest
unfolding use_at use_bytes use_of place_at
use_is r earlier (used.Place slot moment) rest both =
    let behind = number moment ++ rest in
    let parts : slot_bytes slot ++ number moment ++ rest ≡ slot_bytes slot ++ behind = append_assoc (slot_bytes slot) (number moment) rest in
    tag_is use_tag ways.Place 1 (slot_bytes slot ++ number moment ++ rest) refl _ _
    (ap (place_at r earlier) parts
    ∙ then_is (slot_at r earlier form.Place (slot_bytes slot ++ behind)) _ (slot, behind) _ (slot_is r earlier form.Place slot behind both.0.0 both.1.0)
    (then_is (at_most_at (length earlier) behind) _ (moment, rest) _ (at_most_is (length earlier) moment rest both.0.1 both.1.1) refl))
use_is r earlier (used.Value event) rest both =
    tag_is use_tag ways.Value 2 (number event ++ rest) refl _ _
    (then_is (below_at (length earlier) (number event ++ rest)) _ (event, rest) _ (below_is (length earlier) event rest both.0 both.1) refl)
use_is r earlier (used.Choice event) rest both =
    tag_is use_tag ways.Choice 3 (number event ++ rest) refl _ _
    (then_is (reference_at role.Test earlier (number event ++ rest)) _ (event, rest) _ (reference_is role.Test earlier event rest both.0 both.1) refl)

pub uses_are : (r : Ranges) (earlier : List Known) (uses : List Use) (rest : List ℕ) → All UseFits uses → All (UseMayStand r earlier) uses → length uses < 2 ^ 32 → Reads (uses_at r earlier (uses_bytes uses ++ rest)) uses rest
unfolding uses_at uses_bytes
uses_are r earlier uses rest fit may few =
    let rows = flat_map use_bytes uses in
    let parts : uses_bytes uses ++ rest ≡ number (length uses) ++ (rows ++ rest) = append_assoc (number (length uses)) rows rest in
    ap (uses_at r earlier) parts
    ∙ then_is (number_at w32 (number (length uses) ++ (rows ++ rest))) _ (length uses, rows ++ rest) _ (number_is (length uses) (rows ++ rest) few)
    (rows_are (use_at r earlier) use_bytes (λ u. UseFits u × UseMayStand r earlier u) (use_is r earlier) uses rest
    (both UseFits (UseMayStand r earlier) uses (recursion_from_All UseFits uses fit) (recursion_from_All (UseMayStand r earlier) uses may)))
