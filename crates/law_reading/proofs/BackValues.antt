-- Values, units and uses are read back.
use Rattle.std.proofs.Common.{◌≡◌, ℕ, ◌<◌, ◌^◌, Bool, true, false, cond, eqb, List, ◌∷◌, ◌++◌, length, Some, Ok, refl, sym, ap, subst, append_assoc, ℤ, FitsSigned, All, arith}
use Rattle.std.specs.Prelude.{nat_lt}
use Rattle.std.specs.List.{flat_map}
use mir.Val.{bits}
use mir.ValLaws as laws
use Rattle.std.specs.Int.{Width, w8, w16, w32, w64, to_be_bytes, cast_signed, cast_unsigned}
use Rattle.std.proofs.lemmas.Int.{to_z-of_z}
use Rattle.std.proofs.lemmas.List.Elements.{recursion_from_All}
use Rattle.wy_value.specs.declared.value.Value.{Value}
use Rattle.wy_value.specs.declared.value.Value.TheVariants as val
use Rattle.wy_event.specs.declared.record.Version.{Version}
use Rattle.wy_event.specs.declared.record.Version.TheVariants as version
use Rattle.wy_event.specs.declared.record.Use.{Use}
use Rattle.wy_event.specs.declared.record.Use.TheVariants as used
use Rattle.wy_fitting.specs.Fits.{IsNumber, IsUnit, ValueFits, UseFits}
use Rattle.wy_spelling.specs.Spelling.{arm_number, arm_tag, number, slot_bytes, value_bytes, units_bytes, use_bytes, uses_bytes}
use Rattle.wy_payload.specs.declared.ranges.Ranges.{Ranges}
use Rattle.wy_payload.specs.declared.known.Known.{Known}
use Rattle.wy_payload.specs.declared.known.Role.TheVariants as role
use Rattle.wy_payload.specs.declared.slot.SlotForm.TheVariants as form
use Rattle.wy_payload.specs.declared.value.ValueTag.{ValueTag}
use Rattle.wy_payload.specs.declared.value.ValueTag.TheVariants as tags
use Rattle.wy_payload.specs.declared.value.ValueForm.{ValueForm}
use Rattle.wy_payload.specs.declared.value.ValueForm.TheVariants as wanted_form
use Rattle.wy_payload.specs.declared.event.UseTag.TheVariants as ways
use Rattle.wy_payload.specs.Rules.{in_range}
use Rattle.wy_payload.specs.Reading.{passed, number_at, reference_at, below_at, at_most_at}
use Rattle.wy_payload.specs.Places.{slot_at}
use Rattle.wy_payload.specs.Values.{arm_at, arm_limit, value_tag, allows_value, int_rule, object_role, bool_at, int_at, plain_at, object_at, text_at, fixed_at, value_of, value_at, units_tag, units_at}
use Rattle.wy_payload.specs.Events.{use_tag, place_at, use_of, use_at, uses_at}
use Rattle.wy_payload.proofs.Tags.{listed_tag}
use Rattle.law_reading.proofs.Told.{told_as}
use Rattle.law_reading.proofs.Back.{Gives, then_back, passed_back, surely, byte_back, back_16, back_64, number_back, tag_back, rows_back}
use Rattle.law_reading.proofs.BackParts.{reference_back, below_back, at_most_back, slot_back}

-- ---- values

byte_gives : (n : ℕ) (rest : List ℕ) → Gives n rest (number_at w8 (n ∷ rest))
byte_gives n rest = surely (number_at w8 (n ∷ rest)) (n, rest) (byte_back n rest)

gives_16 : (n : ℕ) (rest : List ℕ) → n < 2 ^ 16 → Gives n rest (number_at w16 (to_be_bytes w16 n ++ rest))
gives_16 n rest small = surely (number_at w16 (to_be_bytes w16 n ++ rest)) (n, rest) (back_16 n rest small)

gives_64 : (n : ℕ) (rest : List ℕ) → n < 2 ^ 64 → Gives n rest (number_at w64 (to_be_bytes w64 n ++ rest))
gives_64 n rest small = surely (number_at w64 (to_be_bytes w64 n ++ rest)) (n, rest) (back_64 n rest small)

unsigned_fits : (w : Width) (z : ℤ) → FitsSigned w z → cast_unsigned w z < 2 ^ bits w
unsigned_fits w z fit = (laws.of_z_fits w z fit).fits

-- a number with a sign comes back from the one without
signed_back : (w : Width) (z : ℤ) (rest : List ℕ) (made : ℤ → Value) → FitsSigned w z → Gives (made z) rest (Ok (made (cast_signed w (cast_unsigned w z)), rest))
signed_back w z rest made fit = ap (λ k. (made k, rest)) (to_z-of_z w z fit)

truth_back : (b : Bool) → eqb (cond b 1 0) 1 ≡ b
truth_back true = refl
truth_back false = refl

bool_back : (b : Bool) (rest : List ℕ) → Gives (val.Bool b) rest (bool_at (cond b 1 0 ∷ rest))
unfolding bool_at
bool_back b rest =
    let n : ℕ = cond b 1 0 in
    then_back (number_at w8 (n ∷ rest)) _ (n, rest) _ (byte_gives n rest)
    (subst (λ (c : Bool). Gives (val.Bool b) rest (passed (in_range (nat_lt n 2)) (val.Bool c, rest))) (sym (truth_back b)) (passed_back (in_range (nat_lt n 2)) (val.Bool b, rest)))

int_back : (wanted : ValueForm) (z : ℤ) (rest : List ℕ) → FitsSigned w32 z → Gives (val.Int z) rest (int_at wanted (number (cast_unsigned w32 z) ++ rest))
unfolding int_at
int_back wanted z rest fit =
    let n = cast_unsigned w32 z in
    then_back (number_at w32 (number n ++ rest)) _ (n, rest) _ (number_back n rest (unsigned_fits w32 z fit))
    (subst (λ (k : ℤ). Gives (val.Int z) rest (passed (int_rule wanted k) (val.Int k, rest))) (sym (to_z-of_z w32 z fit)) (passed_back (int_rule wanted z) (val.Int z, rest)))

-- behind their tags
byte_value : (z : ℤ) (rest : List ℕ) → FitsSigned w8 z → Gives (val.Byte z) rest (plain_at tags.Byte (cast_unsigned w8 z ∷ rest))
unfolding plain_at
byte_value z rest fit = then_back (number_at w8 (cast_unsigned w8 z ∷ rest)) _ (cast_unsigned w8 z, rest) _ (byte_gives (cast_unsigned w8 z) rest) (signed_back w8 z rest val.Byte fit)

short_value : (z : ℤ) (rest : List ℕ) → FitsSigned w16 z → Gives (val.Short z) rest (plain_at tags.Short (to_be_bytes w16 (cast_unsigned w16 z) ++ rest))
unfolding plain_at
short_value z rest fit = then_back (number_at w16 (to_be_bytes w16 (cast_unsigned w16 z) ++ rest)) _ (cast_unsigned w16 z, rest) _ (gives_16 (cast_unsigned w16 z) rest (unsigned_fits w16 z fit)) (signed_back w16 z rest val.Short fit)

char_value : (n : ℕ) (rest : List ℕ) → IsUnit n → Gives (val.Char n) rest (plain_at tags.Char (to_be_bytes w16 n ++ rest))
unfolding plain_at
char_value n rest fit = then_back (number_at w16 (to_be_bytes w16 n ++ rest)) _ (n, rest) _ (gives_16 n rest fit) refl

long_value : (z : ℤ) (rest : List ℕ) → FitsSigned w64 z → Gives (val.Long z) rest (plain_at tags.Long (to_be_bytes w64 (cast_unsigned w64 z) ++ rest))
unfolding plain_at
long_value z rest fit = then_back (number_at w64 (to_be_bytes w64 (cast_unsigned w64 z) ++ rest)) _ (cast_unsigned w64 z, rest) _ (gives_64 (cast_unsigned w64 z) rest (unsigned_fits w64 z fit)) (signed_back w64 z rest val.Long fit)

object_value : (earlier : List Known) (wanted : ValueForm) (n : ℕ) (rest : List ℕ) → IsNumber n → Gives (val.Object n) rest (object_at earlier wanted (number n ++ rest))
unfolding object_at
object_value earlier wanted n rest fit = then_back (reference_at (object_role wanted) earlier (number n ++ rest)) _ (n, rest) _ (reference_back (object_role wanted) earlier n rest fit) refl

text_value : (earlier : List Known) (n : ℕ) (rest : List ℕ) → IsNumber n → Gives (val.Text n) rest (text_at earlier (number n ++ rest))
unfolding text_at
text_value earlier n rest fit = then_back (reference_at role.Text earlier (number n ++ rest)) _ (n, rest) _ (reference_back role.Text earlier n rest fit) refl

fixed_value : (r : Ranges) (n : ℕ) (rest : List ℕ) → IsNumber n → Gives (val.Fixed n) rest (fixed_at r (number n ++ rest))
unfolding fixed_at
fixed_value r n rest fit = then_back (number_at w32 (number n ++ rest)) _ (n, rest) _ (number_back n rest fit) (passed_back (in_range (nat_lt n (length r.fixed))) (val.Fixed n, rest))

tagged_back : (r : Ranges) (earlier : List Known) (wanted : ValueForm) (tag : ValueTag) (b : ℕ) (v : Value) (text rest : List ℕ) → value_tag r.version wanted b ≡ Some tag → Gives v rest (value_of r earlier wanted tag text) → Gives v rest (value_at r earlier wanted (b ∷ text))
unfolding value_at
tagged_back r earlier wanted tag b v text rest is h =
    tag_back (value_tag r.version wanted) tag b text is _ _
    (then_back (passed (in_range (allows_value wanted tag)) text) (value_of r earlier wanted tag) text _ (passed_back (in_range (allows_value wanted tag)) text) h)

arm_back : (v : Version) (n : ℕ) (rest : List ℕ) → IsNumber n → Gives (told_as v wanted_form.Arm (val.Arm n)) rest (arm_at v (arm_number v n ++ rest))
unfolding arm_at
arm_back version.One n rest fit =
    let bit : ℕ = cond (eqb n 1) 1 0 in
    then_back (number_at w8 (bit ∷ rest)) _ (bit, rest) _ (byte_gives bit rest) (passed_back (in_range (nat_lt bit arm_limit)) (val.Arm bit, rest))
arm_back version.Two n rest fit = then_back (number_at w32 (number n ++ rest)) _ (n, rest) _ (number_back n rest fit) (passed_back (in_range (nat_lt n arm_limit)) (val.Arm n, rest))

-- a value that no version spells as another
abbrev IsOwn : Value → Type 0
IsOwn (val.Bool b) = ⊥
IsOwn (val.Arm n) = ⊥
IsOwn _ = Unit {0}

own_told : (v : Version) (wanted : ValueForm) (x : Value) → IsOwn x → told_as v wanted x ≡ x
own_told version.One wanted_form.Arm (val.Bool b) own = absurd own
own_told version.One wanted_form.Arm (val.Arm n) own = absurd own
own_told version.One wanted_form.Arm _ own = refl
own_told version.One _ (val.Arm n) own = absurd own
own_told version.One _ _ own = refl
own_told version.Two wanted_form.Arm x own = refl
own_told version.Two _ x own = refl

listed_back : (r : Ranges) (earlier : List Known) (wanted : ValueForm) (tag : ValueTag) (b : ℕ) (x : Value) (text rest : List ℕ) → IsOwn x → value_tag r.version wanted b ≡ Some tag → Gives x rest (value_of r earlier wanted tag text)
    → Gives (told_as r.version wanted x) rest (value_at r earlier wanted (b ∷ text))
listed_back r earlier wanted tag b x text rest own is h =
    subst (λ (y : Value). Gives y rest (value_at r earlier wanted (b ∷ text))) (sym (own_told r.version wanted x own)) (tagged_back r earlier wanted tag b x text rest is h)

module _ (r : Ranges) (earlier : List Known) (rest : List ℕ) where
  -- in the version of the ranges
  tag_there : (v : Version) → r.version ≡ v → (wanted : ValueForm) (b : ℕ) (tag : ValueTag) → value_tag v wanted b ≡ Some tag → value_tag r.version wanted b ≡ Some tag
  tag_there v at wanted b tag is = subst (λ (w : Version). value_tag w wanted b ≡ Some tag) (sym at) is

  arm_there : (v : Version) → r.version ≡ v → (wanted : ValueForm) (n : ℕ) → IsNumber n → Gives (told_as v wanted_form.Arm (val.Arm n)) rest (value_of r earlier wanted tags.Arm (arm_number v n ++ rest))
  unfolding value_of
  arm_there v at wanted n fit = subst (λ (w : Version). Gives (told_as v wanted_form.Arm (val.Arm n)) rest (arm_at w (arm_number v n ++ rest))) (sym at) (arm_back v n rest fit)

  bit_back : (v : Version) → r.version ≡ v → (wanted : ValueForm) (b : Bool) → Gives (told_as v wanted (val.Bool b)) rest (value_at r earlier wanted (1 ∷ cond b 1 0 ∷ rest))
  unfolding value_of
  bit_back version.One at wanted_form.Arm b = tagged_back r earlier wanted_form.Arm tags.Arm 1 (val.Arm (cond b 1 0)) (cond b 1 0 ∷ rest) rest (tag_there version.One at wanted_form.Arm 1 tags.Arm refl) (as_bit b)
    where
      as_bit : (b : Bool) → Gives (val.Arm (cond b 1 0)) rest (value_of r earlier wanted_form.Arm tags.Arm (cond b 1 0 ∷ rest))
      as_bit true = arm_there version.One at wanted_form.Arm 1 (omega arith)
      as_bit false = arm_there version.One at wanted_form.Arm 0 (omega arith)
  bit_back version.One at wanted b = tagged_back r earlier wanted tags.Bool 1 (val.Bool b) (cond b 1 0 ∷ rest) rest (tag_there version.One at wanted 1 tags.Bool refl) (bool_back b rest)
  bit_back version.Two at wanted_form.Arm b = tagged_back r earlier wanted_form.Arm tags.Bool 1 (val.Bool b) (cond b 1 0 ∷ rest) rest (tag_there version.Two at wanted_form.Arm 1 tags.Bool refl) (bool_back b rest)
  bit_back version.Two at wanted b = tagged_back r earlier wanted tags.Bool 1 (val.Bool b) (cond b 1 0 ∷ rest) rest (tag_there version.Two at wanted 1 tags.Bool refl) (bool_back b rest)

  arm_value : (v : Version) → r.version ≡ v → (wanted : ValueForm) (n : ℕ) → IsNumber n → Gives (told_as v wanted (val.Arm n)) rest (value_at r earlier wanted (arm_tag v ∷ arm_number v n ++ rest))
  unfolding value_of
  arm_value version.One at wanted_form.Arm n fit =
      tagged_back r earlier wanted_form.Arm tags.Arm 1 (val.Arm (cond (eqb n 1) 1 0)) (arm_number version.One n ++ rest) rest (tag_there version.One at wanted_form.Arm 1 tags.Arm refl) (arm_there version.One at wanted_form.Arm n fit)
  arm_value version.One at wanted n fit = tagged_back r earlier wanted tags.Bool 1 (val.Bool (eqb n 1)) (arm_number version.One n ++ rest) rest (tag_there version.One at wanted 1 tags.Bool refl) (bool_back (eqb n 1) rest)
  arm_value version.Two at wanted_form.Arm n fit = tagged_back r earlier wanted_form.Arm tags.Arm 12 (val.Arm n) (arm_number version.Two n ++ rest) rest (tag_there version.Two at wanted_form.Arm 12 tags.Arm refl) (arm_there version.Two at wanted_form.Arm n fit)
  arm_value version.Two at wanted n fit = tagged_back r earlier wanted tags.Arm 12 (val.Arm n) (arm_number version.Two n ++ rest) rest (tag_there version.Two at wanted 12 tags.Arm refl) (arm_there version.Two at wanted n fit)

pub value_back : (r : Ranges) (earlier : List Known) (wanted : ValueForm) (v : Value) (rest : List ℕ) → ValueFits v → Gives (told_as r.version wanted v) rest (value_at r earlier wanted (value_bytes r.version v ++ rest))
unfolding value_bytes value_of plain_at
value_back r earlier wanted val.None rest fit = listed_back r earlier wanted tags.None 0 val.None rest rest tt (listed_tag r.version wanted 0 refl refl) refl
value_back r earlier wanted (val.Bool b) rest fit = bit_back r earlier rest r.version refl wanted b
value_back r earlier wanted (val.Byte z) rest fit = listed_back r earlier wanted tags.Byte 2 (val.Byte z) (cast_unsigned w8 z ∷ rest) rest tt (listed_tag r.version wanted 2 refl refl) (byte_value z rest fit)
value_back r earlier wanted (val.Short z) rest fit = listed_back r earlier wanted tags.Short 3 (val.Short z) (to_be_bytes w16 (cast_unsigned w16 z) ++ rest) rest tt (listed_tag r.version wanted 3 refl refl) (short_value z rest fit)
value_back r earlier wanted (val.Char n) rest fit = listed_back r earlier wanted tags.Char 4 (val.Char n) (to_be_bytes w16 n ++ rest) rest tt (listed_tag r.version wanted 4 refl refl) (char_value n rest fit)
value_back r earlier wanted (val.Int z) rest fit = listed_back r earlier wanted tags.Int 5 (val.Int z) (number (cast_unsigned w32 z) ++ rest) rest tt (listed_tag r.version wanted 5 refl refl) (int_back wanted z rest fit)
value_back r earlier wanted (val.Long z) rest fit = listed_back r earlier wanted tags.Long 6 (val.Long z) (to_be_bytes w64 (cast_unsigned w64 z) ++ rest) rest tt (listed_tag r.version wanted 6 refl refl) (long_value z rest fit)
value_back r earlier wanted val.Null rest fit = listed_back r earlier wanted tags.Null 7 val.Null rest rest tt (listed_tag r.version wanted 7 refl refl) refl
value_back r earlier wanted (val.Object n) rest fit = listed_back r earlier wanted tags.Object 8 (val.Object n) (number n ++ rest) rest tt (listed_tag r.version wanted 8 refl refl) (object_value earlier wanted n rest fit)
value_back r earlier wanted (val.Text n) rest fit = listed_back r earlier wanted tags.Text 9 (val.Text n) (number n ++ rest) rest tt (listed_tag r.version wanted 9 refl refl) (text_value earlier n rest fit)
value_back r earlier wanted (val.Fixed n) rest fit = listed_back r earlier wanted tags.Fixed 10 (val.Fixed n) (number n ++ rest) rest tt (listed_tag r.version wanted 10 refl refl) (fixed_value r n rest fit)
value_back r earlier wanted (val.Arm n) rest fit = arm_value r earlier rest r.version refl wanted n fit

-- ---- units

pub units_back : (units rest : List ℕ) → All IsUnit units → length units < 2 ^ 32 → Gives units rest (units_at (units_bytes units ++ rest))
unfolding units_at units_bytes
units_back units rest fit few =
    let rows = flat_map (to_be_bytes w16) units in
    let parts : units_bytes units ++ rest ≡ units_tag ∷ number (length units) ++ (rows ++ rest) = append_assoc (units_tag ∷ number (length units)) rows rest in
    subst (λ (l : List ℕ). Gives units rest (units_at l)) (sym parts)
    (then_back (number_at w8 (units_tag ∷ number (length units) ++ (rows ++ rest))) _ (units_tag, number (length units) ++ (rows ++ rest)) _ (byte_gives units_tag (number (length units) ++ (rows ++ rest)))
    (then_back (number_at w32 (number (length units) ++ (rows ++ rest))) _ (length units, rows ++ rest) _ (number_back (length units) (rows ++ rest) few)
    (rows_back (number_at w16) (to_be_bytes w16) IsUnit gives_16 units rest (recursion_from_All IsUnit units fit))))

-- ---- uses

place_back : (r : Ranges) (earlier : List Known) (u : Use) (rest : List ℕ) → UseFits u → Gives u rest (use_at r earlier (use_bytes u ++ rest))
unfolding use_at use_bytes use_of place_at
place_back r earlier (used.Place slot moment) rest fit =
    let behind = number moment ++ rest in
    let parts : slot_bytes slot ++ number moment ++ rest ≡ slot_bytes slot ++ behind = append_assoc (slot_bytes slot) (number moment) rest in
    tag_back use_tag ways.Place 1 (slot_bytes slot ++ number moment ++ rest) refl _ _
    (subst (λ (l : List ℕ). Gives (used.Place slot moment) rest (place_at r earlier l)) (sym parts)
    (then_back (slot_at r earlier form.Place (slot_bytes slot ++ behind)) _ (slot, behind) _ (slot_back r earlier form.Place slot behind fit.0)
    (then_back (at_most_at (length earlier) behind) _ (moment, rest) _ (at_most_back (length earlier) moment rest fit.1) refl)))
place_back r earlier (used.Value event) rest fit =
    tag_back use_tag ways.Value 2 (number event ++ rest) refl _ _
    (then_back (below_at (length earlier) (number event ++ rest)) _ (event, rest) _ (below_back (length earlier) event rest fit) refl)
place_back r earlier (used.Choice event) rest fit =
    tag_back use_tag ways.Choice 3 (number event ++ rest) refl _ _
    (then_back (reference_at role.Test earlier (number event ++ rest)) _ (event, rest) _ (reference_back role.Test earlier event rest fit) refl)

pub uses_back : (r : Ranges) (earlier : List Known) (uses : List Use) (rest : List ℕ) → All UseFits uses → length uses < 2 ^ 32 → Gives uses rest (uses_at r earlier (uses_bytes uses ++ rest))
unfolding uses_at uses_bytes
uses_back r earlier uses rest fit few =
    let rows = flat_map use_bytes uses in
    let parts : uses_bytes uses ++ rest ≡ number (length uses) ++ (rows ++ rest) = append_assoc (number (length uses)) rows rest in
    subst (λ (l : List ℕ). Gives uses rest (uses_at r earlier l)) (sym parts)
    (then_back (number_at w32 (number (length uses) ++ (rows ++ rest))) _ (length uses, rows ++ rest) _ (number_back (length uses) (rows ++ rest) few)
    (rows_back (use_at r earlier) use_bytes UseFits (place_back r earlier) uses rest (recursion_from_All UseFits uses fit)))
