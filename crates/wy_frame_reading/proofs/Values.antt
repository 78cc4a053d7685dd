-- Values and units are read as they are spelled.
use Rattle.std.proofs.Common.{◌≡◌, ℕ, zero, suc, ◌<◌, ◌^◌, Bool, true, false, cond, eqb, List, [], ◌∷◌, ◌++◌, length, ℤ, FitsSigned, Some, Ok, refl, sym, ◌∙◌, subst, arith}
use Rattle.std.specs.Prelude.{IfOk, ◌==◌, nat_lt, slice_get}
use mir.Val.{bits}
use Rattle.std.specs.Int.{w8, w16, w32, w64, cast_unsigned, to_be_bytes}
use Rattle.std.specs.List.{AllByRecursion}
use Rattle.std.proofs.lemmas.Bool.{eq-eqb, lt-ltb, ltb-true}
use Rattle.wy_value.specs.declared.value.Value.{Value}
use Rattle.wy_value.specs.declared.value.Value.TheVariants as val
use Rattle.wy_event.specs.declared.record.Version.{Version}
use Rattle.wy_event.specs.declared.record.Version.TheVariants as version
use Rattle.wy_fitting.specs.Fits.{IsUnit, ValueFits}
use Rattle.wy_spelling.specs.Spelling.{arm_number, arm_tag, number, units_bytes, value_bytes}
use Rattle.wy_view.specs.References.{ValueBelow}
use Rattle.wy_payload.specs.declared.value.ValueTag.{ValueTag}
use Rattle.wy_payload.specs.declared.value.ValueTag.TheVariants as tags
use Rattle.wy_payload.specs.declared.value.ValueForm.{ValueForm}
use Rattle.wy_payload.specs.declared.value.ValueForm.TheVariants as form
use Rattle.wy_payload.specs.Rules.{in_range}
use Rattle.wy_payload.specs.Reading.{passed, number_at, below_at}
use Rattle.wy_payload.specs.Values.{bool_at, plain_at, units_at, units_tag, value_tag, value_tags}
use Rattle.wy_frame_reading.specs.Fields.{arm_at, fixed_at, int_at, object_at, text_at, value_at, value_of}
use Rattle.wy_payload.proofs.Readers.{then_has}
use Rattle.wy_frame_reading.proofs.Readers.{AreBytes, Reads, Spelled, bound, by_parts, counted, one}
use Rattle.wy_frame_reading.proofs.Numbers.{IsBelow, below, byte, byte_back, signed, word_16, word_32, word_64}
use Rattle.wy_frame_reading.proofs.Tags.{Behind, behind_as, lettered, tag_is, tagged}
use Rattle.wy_payload.proofs.Tags.{listed_tag, tag_has_byte, value_number}

-- version 1 spells an arm as a boolean, and so only where one is wanted, and there no boolean
abbrev pub IsSpelled : Version → ValueForm → Value → Type 0
IsSpelled version.One form.Arm (val.Bool b) = ⊥
IsSpelled version.One form.Arm (val.Arm n) = n < 2
IsSpelled version.One form.Arm _ = Unit {0}
IsSpelled version.One _ (val.Arm n) = ⊥
IsSpelled version.One _ _ = Unit {0}
IsSpelled version.Two _ _ = Unit {0}

-- its numbers fit, its event is below n, and it is spelled as itself
abbrev pub GoodValue : Version → ValueForm → ℕ → Value → Type 0
GoodValue v wanted n x = ValueFits x × ValueBelow n x × IsSpelled v wanted x

-- the bytes of a value behind its tag
abbrev value_rest : Version → Value → List ℕ
value_rest v val.None = []
value_rest v (val.Bool b) = cond b 1 0 ∷ []
value_rest v (val.Byte z) = cast_unsigned w8 z ∷ []
value_rest v (val.Short z) = to_be_bytes w16 (cast_unsigned w16 z)
value_rest v (val.Char u) = to_be_bytes w16 u
value_rest v (val.Int z) = number (cast_unsigned w32 z)
value_rest v (val.Long z) = to_be_bytes w64 (cast_unsigned w64 z)
value_rest v val.Null = []
value_rest v (val.Object n) = number n
value_rest v (val.Text n) = number n
value_rest v (val.Fixed n) = number n
value_rest v (val.Arm n) = arm_number v n

abbrev tag_of : Value → ValueTag
tag_of val.None = tags.None
tag_of (val.Bool b) = tags.Bool
tag_of (val.Byte z) = tags.Byte
tag_of (val.Short z) = tags.Short
tag_of (val.Char u) = tags.Char
tag_of (val.Int z) = tags.Int
tag_of (val.Long z) = tags.Long
tag_of val.Null = tags.Null
tag_of (val.Object n) = tags.Object
tag_of (val.Text n) = tags.Text
tag_of (val.Fixed n) = tags.Fixed
tag_of (val.Arm n) = tags.Arm

value_is : (v : Version) (x : Value) → value_number v (tag_of x) ∷ value_rest v x ≡ value_bytes v x
unfolding value_bytes
value_is v val.None = refl
value_is v (val.Bool b) = refl
value_is v (val.Byte z) = refl
value_is v (val.Short z) = refl
value_is v (val.Char u) = refl
value_is v (val.Int z) = refl
value_is v (val.Long z) = refl
value_is v val.Null = refl
value_is v (val.Object n) = refl
value_is v (val.Text n) = refl
value_is v (val.Fixed n) = refl
value_is v (val.Arm n) = refl

-- ---- each form

truth_back : (b : Bool) (rest : List ℕ) → bool_at (cond b 1 0 ∷ rest) ≡ Ok (val.Bool b, rest)
unfolding bool_at
truth_back true rest = bound (number_at w8 (1 ∷ rest)) (λ b. passed (in_range (nat_lt b.0 2)) (val.Bool (b.0 == 1), b.1)) (1, rest) (Ok (val.Bool true, rest)) (byte_back 1 rest) refl
truth_back false rest = bound (number_at w8 (0 ∷ rest)) (λ b. passed (in_range (nat_lt b.0 2)) (val.Bool (b.0 == 1), b.1)) (0, rest) (Ok (val.Bool false, rest)) (byte_back 0 rest) refl

abbrev IsTruth : List ℕ → Value × List ℕ → Type 0
IsTruth bytes r = (b : Bool) × (r.0 ≡ val.Bool b) × Unit {0} × Spelled bytes (cond b 1 0 ∷ []) r.1

truth_of : (bytes : List ℕ) (m : ℕ) (rest : List ℕ) → m < 2 → Spelled bytes (m ∷ []) rest → IsTruth bytes (val.Bool (m == 1), rest)
truth_of bytes zero rest small s = (false, refl, tt, s)
truth_of bytes (suc zero) rest small s = (true, refl, tt, s)
truth_of bytes (suc (suc m)) rest small s = absurd (omega (arith, small))

truth_by : (b : Bool) (bytes : List ℕ) (m : ℕ) (rest : List ℕ) → nat_lt m 2 ≡ b → Spelled bytes (m ∷ []) rest → IfOk (passed (in_range b) (val.Bool (m == 1), rest)) (IsTruth bytes)
truth_by true bytes m rest is s = truth_of bytes m rest (ltb-true m 2 is) s
truth_by false bytes m rest is s = tt

truth : Reads Bool Value (λ b. Unit {0}) (λ b. cond b 1 0 ∷ []) val.Bool bool_at
unfolding bool_at
truth = record {
  back = λ b rest good. truth_back b rest;
  front = λ bytes are. then_has (number_at w8 bytes) (λ b. passed (in_range (nat_lt b.0 2)) (val.Bool (b.0 == 1), b.1)) (λ r. (m : ℕ) × (r.0 ≡ m) × (m < 2 ^ bits w8) × Spelled bytes (m ∷ []) r.1) (IsTruth bytes) (byte.front bytes are)
      (λ (k, rest) (m, is, small, s). truth_by (nat_lt k 2) bytes k rest refl (subst (λ (j : ℕ). Spelled bytes (j ∷ []) rest) (sym is) s));
}

int : Reads ℤ Value (FitsSigned w32) (λ z. number (cast_unsigned w32 z)) val.Int int_at
unfolding int_at
int = signed w32 number Value val.Int word_32

small_int : Reads ℤ Value (FitsSigned w8) (λ z. cast_unsigned w8 z ∷ []) val.Byte (plain_at tags.Byte)
unfolding plain_at
small_int = signed w8 (λ n. n ∷ []) Value val.Byte byte

short_int : Reads ℤ Value (FitsSigned w16) (λ z. to_be_bytes w16 (cast_unsigned w16 z)) val.Short (plain_at tags.Short)
unfolding plain_at
short_int = signed w16 (to_be_bytes w16) Value val.Short word_16

long_int : Reads ℤ Value (FitsSigned w64) (λ z. to_be_bytes w64 (cast_unsigned w64 z)) val.Long (plain_at tags.Long)
unfolding plain_at
long_int = signed w64 (to_be_bytes w64) Value val.Long word_64

char : Reads ℕ Value (λ u. u < 2 ^ bits w16) (to_be_bytes w16) val.Char (plain_at tags.Char)
unfolding plain_at
char = one ℕ ℕ Value (λ u. u < 2 ^ bits w16) (to_be_bytes w16) (λ u. u) (number_at w16) val.Char word_16

object : (n : ℕ) → Reads ℕ Value (IsBelow n) number val.Object (object_at n)
unfolding object_at
object n = one ℕ ℕ Value (IsBelow n) number (λ m. m) (below_at n) val.Object (below n)

text : (n : ℕ) → Reads ℕ Value (IsBelow n) number val.Text (text_at n)
unfolding text_at
text n = one ℕ ℕ Value (IsBelow n) number (λ m. m) (below_at n) val.Text (below n)

fixed : Reads ℕ Value (λ m. m < 2 ^ bits w32) number val.Fixed fixed_at
unfolding fixed_at
fixed = one ℕ ℕ Value (λ m. m < 2 ^ bits w32) number (λ m. m) (number_at w32) val.Fixed word_32

-- ---- arms

abbrev IsArm : List ℕ → Value × List ℕ → Type 0
IsArm bytes r = (m : ℕ) × (r.0 ≡ val.Arm m) × (m < 2) × Spelled bytes (cond (eqb m 1) 1 0 ∷ []) r.1

arm_of : (bytes : List ℕ) (m : ℕ) (rest : List ℕ) → m < 2 → Spelled bytes (m ∷ []) rest → IsArm bytes (val.Arm m, rest)
arm_of bytes zero rest small s = (0, refl, small, s)
arm_of bytes (suc zero) rest small s = (1, refl, small, s)
arm_of bytes (suc (suc m)) rest small s = absurd (omega (arith, small))

arm_by : (b : Bool) (bytes : List ℕ) (m : ℕ) (rest : List ℕ) → nat_lt m 2 ≡ b → Spelled bytes (m ∷ []) rest → IfOk (passed (in_range b) (val.Arm m, rest)) (IsArm bytes)
arm_by true bytes m rest is s = arm_of bytes m rest (ltb-true m 2 is) s
arm_by false bytes m rest is s = tt

arm_back : (m : ℕ) (rest : List ℕ) → m < 2 → arm_at version.One (arm_number version.One m ++ rest) ≡ Ok (val.Arm m, rest)
unfolding arm_at
arm_back zero rest small = bound (number_at w8 (0 ∷ rest)) (λ m. passed (in_range (nat_lt m.0 2)) (val.Arm m.0, m.1)) (0, rest) (Ok (val.Arm 0, rest)) (byte_back 0 rest) refl
arm_back (suc zero) rest small = bound (number_at w8 (1 ∷ rest)) (λ m. passed (in_range (nat_lt m.0 2)) (val.Arm m.0, m.1)) (1, rest) (Ok (val.Arm 1, rest)) (byte_back 1 rest) refl
arm_back (suc (suc m)) rest small = absurd (omega (arith, small))

-- what an arm is in a version
abbrev IsArmOf : Version → ℕ → Type 0
IsArmOf version.One m = m < 2
IsArmOf version.Two m = m < 2 ^ bits w32

arm : (v : Version) → Reads ℕ Value (IsArmOf v) (arm_number v) val.Arm (arm_at v)
unfolding arm_at
arm version.One = record {
  back = arm_back;
  front = λ bytes are. then_has (number_at w8 bytes) (λ m. passed (in_range (nat_lt m.0 2)) (val.Arm m.0, m.1)) (λ r. (m : ℕ) × (r.0 ≡ m) × (m < 2 ^ bits w8) × Spelled bytes (m ∷ []) r.1) (IsArm bytes) (byte.front bytes are)
      (λ (k, rest) (m, is, small, s). arm_by (nat_lt k 2) bytes k rest refl (subst (λ (j : ℕ). Spelled bytes (j ∷ []) rest) (sym is) s));
}
arm version.Two = one ℕ ℕ Value (λ m. m < 2 ^ bits w32) number (λ m. m) (number_at w32) val.Arm word_32

-- ---- which tags there are

listed_placed : (v : Version) (b : ℕ) (t : ValueTag) → slice_get value_tags b ≡ Some t → value_number v t ≡ b
listed_placed v b t is = omega (arith, tag_is (value_number v) value_tags 0 11 refl b t is)

placed : (v : Version) (wanted : ValueForm) (b : ℕ) (t : ValueTag) → value_tag v wanted b ≡ Some t → value_number v t ≡ b
placed v wanted b t is = tag_has_byte v wanted b t (listed_placed v b) is

arm_unlisted : (b : ℕ) → slice_get value_tags b ≡ Some tags.Arm → ⊥
arm_unlisted b is = let there : slice_get value_tags 12 ≡ Some tags.Arm = subst (λ (k : ℕ). slice_get value_tags k ≡ Some tags.Arm) (sym (listed_placed version.Two b tags.Arm is)) is in cc

no_truth : (b : ℕ) (t : Bool) → eqb b 1 ≡ t → cond t (Some tags.Arm) (slice_get value_tags b) ≡ Some tags.Bool → ⊥
no_truth b true at is = cc
no_truth b false at is = let none : false ≡ true = sym at ∙ eq-eqb b 1 (sym (listed_placed version.One b tags.Bool is)) in cc

-- a boolean whose tag is read, and an arm, are spelled as themselves
truth_spelled : (v : Version) (wanted : ValueForm) (b : ℕ) → value_tag v wanted b ≡ Some tags.Bool → (x : Bool) → IsSpelled v wanted (val.Bool x)
truth_spelled version.One form.Arm b is x = absurd (no_truth b (eqb b 1) refl is)
truth_spelled version.One _ b is x = tt
truth_spelled version.Two _ b is x = tt

arm_spelled : (v : Version) (wanted : ValueForm) (b : ℕ) → value_tag v wanted b ≡ Some tags.Arm → (m : ℕ) → IsArmOf v m → ValueFits (val.Arm m) × IsSpelled v wanted (val.Arm m)
arm_spelled version.One form.Arm b is m fit = (omega (arith, fit), fit)
arm_spelled version.One _ b is m fit = absurd (arm_unlisted b is)
arm_spelled version.Two _ b is m fit = (fit, tt)

-- any other is spelled so in each version
abbrev IsOther : Value → Type 0
IsOther (val.Bool b) = ⊥
IsOther (val.Arm n) = ⊥
IsOther _ = Unit {0}

other_spelled : (v : Version) (wanted : ValueForm) (x : Value) → IsOther x → IsSpelled v wanted x
other_spelled version.One form.Arm (val.Bool b) other = absurd other
other_spelled version.One form.Arm (val.Arm n) other = absurd other
other_spelled version.One form.Arm _ other = tt
other_spelled version.One _ (val.Arm n) other = absurd other
other_spelled version.One _ _ other = tt
other_spelled version.Two _ x other = tt

known_truth : (v : Version) (wanted : ValueForm) (b : Bool) → IsSpelled v wanted (val.Bool b) → value_tag v wanted 1 ≡ Some tags.Bool
known_truth version.One form.Arm b good = absurd good
known_truth version.One _ b good = refl
known_truth version.Two _ b good = refl

known_arm : (v : Version) (wanted : ValueForm) (n : ℕ) → IsSpelled v wanted (val.Arm n) → value_tag v wanted (arm_tag v) ≡ Some tags.Arm
known_arm version.One form.Arm n good = refl
known_arm version.One _ n good = absurd good
known_arm version.Two _ n good = refl

known : (v : Version) (wanted : ValueForm) (n : ℕ) (x : Value) → GoodValue v wanted n x → value_tag v wanted (value_number v (tag_of x)) ≡ Some (tag_of x)
known v wanted n val.None good = listed_tag v wanted 0 refl refl
known v wanted n (val.Bool b) good = known_truth v wanted b good.2
known v wanted n (val.Byte z) good = listed_tag v wanted 2 refl refl
known v wanted n (val.Short z) good = listed_tag v wanted 3 refl refl
known v wanted n (val.Char u) good = listed_tag v wanted 4 refl refl
known v wanted n (val.Int z) good = listed_tag v wanted 5 refl refl
known v wanted n (val.Long z) good = listed_tag v wanted 6 refl refl
known v wanted n val.Null good = listed_tag v wanted 7 refl refl
known v wanted n (val.Object m) good = listed_tag v wanted 8 refl refl
known v wanted n (val.Text m) good = listed_tag v wanted 9 refl refl
known v wanted n (val.Fixed m) good = listed_tag v wanted 10 refl refl
known v wanted n (val.Arm m) good = known_arm v wanted m good.2

-- ---- all forms

arm_good : (v : Version) (wanted : ValueForm) (m : ℕ) → ValueFits (val.Arm m) → IsSpelled v wanted (val.Arm m) → IsArmOf v m
arm_good version.One form.Arm m fit good = good
arm_good version.One _ m fit good = absurd good
arm_good version.Two _ m fit good = fit

module _ (v : Version) (wanted : ValueForm) (n : ℕ) where
  forth : (x : Value) (rest : List ℕ) → GoodValue v wanted n x → value_of v n (tag_of x) (value_rest v x ++ rest) ≡ Ok (x, rest)
  unfolding value_of plain_at
  forth val.None rest good = refl
  forth (val.Bool b) rest good = truth.back b rest tt
  forth (val.Byte z) rest (fit, lower, spelled) = small_int.back z rest fit
  forth (val.Short z) rest (fit, lower, spelled) = short_int.back z rest fit
  forth (val.Char u) rest (fit, lower, spelled) = char.back u rest fit
  forth (val.Int z) rest (fit, lower, spelled) = int.back z rest fit
  forth (val.Long z) rest (fit, lower, spelled) = long_int.back z rest fit
  forth val.Null rest good = refl
  forth (val.Object m) rest (fit, lower, spelled) = (object n).back m rest (fit, lt-ltb m n lower)
  forth (val.Text m) rest (fit, lower, spelled) = (text n).back m rest (fit, lt-ltb m n lower)
  forth (val.Fixed m) rest (fit, lower, spelled) = fixed.back m rest fit
  forth (val.Arm m) rest (fit, lower, spelled) = (arm v).back m rest (arm_good v wanted m fit spelled)

  abbrev ValueBehind : ValueTag → List ℕ → Value × List ℕ → Type 0
  ValueBehind = Behind ValueTag Value (value_tag v wanted) (value_number v) tag_of (value_rest v) (GoodValue v wanted n) (value_of v n)

  formed : (A : Type 0) (Ga : A → Type 0) (sa : A → List ℕ) (ma : A → Value) (t : ValueTag) → Reads A Value Ga sa ma (value_of v n t) → ((a : A) → Ga a → (tag_of (ma a) ≡ t) × GoodValue v wanted n (ma a) × (value_rest v (ma a) ≡ sa a)) → (bytes : List ℕ) → AreBytes bytes → IfOk (value_of v n t bytes) (ValueBehind t bytes)
  formed = behind_as ValueTag Value (value_tag v wanted) (value_number v) tag_of (value_rest v) (GoodValue v wanted n) (value_of v n)

  spelled_so : (x : Value) → IsOther x → IsSpelled v wanted x
  spelled_so x other = other_spelled v wanted x other

  back : (t : ValueTag) → (b : ℕ) × (value_tag v wanted b ≡ Some t) → (bytes : List ℕ) → AreBytes bytes → IfOk (value_of v n t bytes) (ValueBehind t bytes)
  unfolding value_of plain_at
  back tags.None can bytes are = (refl, (tt, tt, spelled_so val.None tt), record { parts = refl; rest_bytes = are })
  back tags.Bool can bytes are = formed Bool _ _ _ tags.Bool truth (λ b good. (refl, (tt, tt, truth_spelled v wanted can.0 can.1 b), refl)) bytes are
  back tags.Byte can bytes are = formed ℤ _ _ _ tags.Byte small_int (λ z fit. (refl, (fit, tt, spelled_so (val.Byte z) tt), refl)) bytes are
  back tags.Short can bytes are = formed ℤ _ _ _ tags.Short short_int (λ z fit. (refl, (fit, tt, spelled_so (val.Short z) tt), refl)) bytes are
  back tags.Char can bytes are = formed ℕ _ _ _ tags.Char char (λ u fit. (refl, (fit, tt, spelled_so (val.Char u) tt), refl)) bytes are
  back tags.Int can bytes are = formed ℤ _ _ _ tags.Int int (λ z fit. (refl, (fit, tt, spelled_so (val.Int z) tt), refl)) bytes are
  back tags.Long can bytes are = formed ℤ _ _ _ tags.Long long_int (λ z fit. (refl, (fit, tt, spelled_so (val.Long z) tt), refl)) bytes are
  back tags.Null can bytes are = (refl, (tt, tt, spelled_so val.Null tt), record { parts = refl; rest_bytes = are })
  back tags.Object can bytes are = formed ℕ _ _ _ tags.Object (object n) (λ m (fit, lower). (refl, (fit, ltb-true m n lower, spelled_so (val.Object m) tt), refl)) bytes are
  back tags.Text can bytes are = formed ℕ _ _ _ tags.Text (text n) (λ m (fit, lower). (refl, (fit, ltb-true m n lower, spelled_so (val.Text m) tt), refl)) bytes are
  back tags.Fixed can bytes are = formed ℕ _ _ _ tags.Fixed fixed (λ m fit. (refl, (fit, tt, spelled_so (val.Fixed m) tt), refl)) bytes are
  back tags.Arm can bytes are = formed ℕ _ _ _ tags.Arm (arm v) (λ m fit. let both = arm_spelled v wanted can.0 can.1 m fit in (refl, (both.0, tt, both.1), refl)) bytes are

  pub value : Reads Value Value (GoodValue v wanted n) (value_bytes v) (λ x. x) (value_at v wanted n)
  unfolding value_at
  value =
      by_parts Value Value Value (GoodValue v wanted n) (λ x. value_number v (tag_of x) ∷ value_rest v x) (λ x. x) (GoodValue v wanted n) (value_bytes v) (λ x. x) _ (λ x. x) (λ x. x)
      (tagged ValueTag Value (value_tag v wanted) (value_number v) tag_of (value_rest v) (GoodValue v wanted n) (value_of v n) (known v wanted n) (placed v wanted) forth back)
      (λ x good. (good, refl, value_is v x)) (λ x good. (good, refl, value_is v x))

-- ---- units

-- each fits, and there are few
abbrev pub GoodUnits : List ℕ → Type 0
GoodUnits us = AllByRecursion IsUnit us × (length us < 2 ^ bits w32)

pub units : Reads (List ℕ) (List ℕ) GoodUnits units_bytes (λ us. us) units_at
unfolding units_at units_bytes
units = lettered (List ℕ) (List ℕ) GoodUnits _ (λ us. us) _ units_tag (counted ℕ IsUnit (to_be_bytes w16) (number_at w16) number (λ k. k < 2 ^ bits w32) (number_at w32) word_16 word_32)
