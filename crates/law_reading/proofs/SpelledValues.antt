-- A value that is read is spelled so, and so are units.
use Rattle.std.proofs.Common.{◌≡◌, ℕ, zero, suc, ◌<◌, ◌^◌, Bool, true, false, cond, eqb, List, [], ◌∷◌, ◌++◌, length, Some, Ok, refl, sym, subst, arith}
use Rattle.std.specs.Prelude.{None as Absent}
use Rattle.std.specs.Prelude.{IfOk, nat_lt, ◌==◌, slice_get, slice_index}
use Rattle.std.specs.List.{flat_map}
use mir.Val.{bits}
use Rattle.std.specs.Int.{Width, w8, w16, w32, w64, to_be_bytes, cast_signed, cast_unsigned}
use Rattle.std.proofs.lemmas.Bool.{eqb-true, ltb-true}
use Rattle.std.proofs.lemmas.Int.{of_z-to_z}
use Rattle.std.proofs.lemmas.Result.{IfOk-at_ok}
use Rattle.wy_event.specs.declared.record.Version.{Version}
use Rattle.wy_event.specs.declared.record.Version.TheVariants as version
use Rattle.wy_value.specs.declared.value.Value.{Value}
use Rattle.wy_value.specs.declared.value.Value.TheVariants as val
use Rattle.wy_spelling.specs.Spelling.{arm_tag, number, value_bytes, units_bytes}
use Rattle.wy_payload.specs.declared.ranges.Ranges.{Ranges}
use Rattle.wy_payload.specs.declared.known.Known.{Known}
use Rattle.wy_payload.specs.declared.known.Role.{Role}
use Rattle.wy_payload.specs.declared.known.Role.TheVariants as role
use Rattle.wy_payload.specs.declared.value.ValueTag.{ValueTag}
use Rattle.wy_payload.specs.declared.value.ValueTag.TheVariants as tags
use Rattle.wy_payload.specs.declared.value.ValueForm.{ValueForm}
use Rattle.wy_payload.specs.Rules.{in_range}
use Rattle.wy_payload.specs.Reading.{passed, number_at, reference_at, rows_from}
use Rattle.wy_payload.specs.Values.{arm_at, arm_limit, value_tag, value_tags, allows_value, int_rule, object_role, bool_at, int_at, plain_at, object_at, text_at, fixed_at, value_of, value_at, units_tag, units_at}
use Rattle.law_reading.specs.Spelled.{AreBytes}
use Rattle.law_reading.proofs.SpelledNumbers.{Spelled, one_after}
use Rattle.law_reading.proofs.Tails.{rows_spelled}
use Rattle.law_reading.proofs.Slots.{reference_spelled}
use Rattle.wy_payload.proofs.Readers.{then_has}
use Rattle.law_reading.proofs.SpelledSteps.{Spells, if_read, passed_has, byte_has, number_has, fits_16, fits_32, fits_64, tag_is, then_tag}
use Rattle.wy_payload.proofs.Tags.{tag_has_byte, value_number}

pub in_range_is : (b : Bool) → in_range b ≡ Absent → b ≡ true
in_range_is true e = refl
in_range_is false e = absurd cc

pub reference_has : (r : Role) (earlier : List Known) (bytes : List ℕ) → AreBytes bytes → Spells bytes number (reference_at r earlier bytes)
reference_has r earlier bytes are = if_read (reference_at r earlier bytes) (λ x. Spelled bytes (number x.0) x.1) (λ x e. reference_spelled r earlier bytes x are e)

-- ---- behind a tag

-- a number whatever it is, or nothing
abbrev IsPlain : ValueTag → Type 0
IsPlain tags.Bool = ⊥
IsPlain tags.Int = ⊥
IsPlain tags.Object = ⊥
IsPlain tags.Text = ⊥
IsPlain tags.Fixed = ⊥
IsPlain tags.Arm = ⊥
IsPlain _ = Unit {0}

pub one_tag : (bytes rest : List ℕ) (tag : ℕ) (text left : List ℕ) → Spelled bytes (tag ∷ []) rest → Spelled rest text left → Spelled bytes (tag ∷ text) left
one_tag bytes rest tag text left s t = one_after bytes (tag ∷ []) rest text left s t

pub is_bit : (n : ℕ) → n < 2 → n ≡ cond (eqb n 1) 1 0
is_bit zero small = refl
is_bit (suc zero) small = refl
is_bit (suc (suc n)) small = absurd (omega (arith, small))

bool_has : (v : Version) (bytes rest : List ℕ) → Spelled bytes (1 ∷ []) rest → Spells bytes (value_bytes v) (bool_at rest)
unfolding bool_at value_bytes
bool_has v bytes rest s =
    then_has (number_at w8 rest) _ _ _ (byte_has rest s.rest_bytes) (λ b t.
    passed_has (in_range (nat_lt b.0 2)) (val.Bool (b.0 == 1), b.1) (λ (x : Value × List ℕ). Spelled bytes (value_bytes v x.0) x.1) (λ ok.
    subst (λ (n : ℕ). Spelled bytes (1 ∷ n ∷ []) b.1) (is_bit b.0 (ltb-true b.0 2 (in_range_is (nat_lt b.0 2) ok))) (one_tag bytes rest 1 (b.0 ∷ []) b.1 s t)))

-- a number with a sign is spelled by the number without one that was read
signed : (w : Width) (bytes rest : List ℕ) (tag : ℕ) (n : ℕ × List ℕ) → Spelled bytes (tag ∷ []) rest → Spelled rest (to_be_bytes w n.0) n.1 × (n.0 < 2 ^ bits w) → Spelled bytes (tag ∷ to_be_bytes w (cast_unsigned w (cast_signed w n.0))) n.1
signed w bytes rest tag n s t = subst (λ (k : ℕ). Spelled bytes (tag ∷ to_be_bytes w k) n.1) (sym (of_z-to_z w n.0 t.1)) (one_tag bytes rest tag (to_be_bytes w n.0) n.1 s t.0)

int_has : (v : Version) (wanted : ValueForm) (bytes rest : List ℕ) → Spelled bytes (5 ∷ []) rest → Spells bytes (value_bytes v) (int_at wanted rest)
unfolding int_at value_bytes
int_has v wanted bytes rest s =
    then_has (number_at w32 rest) _ _ _ (fits_32 rest s.rest_bytes) (λ n t.
    passed_has (int_rule wanted (cast_signed w32 n.0)) (val.Int (cast_signed w32 n.0), n.1) (λ (x : Value × List ℕ). Spelled bytes (value_bytes v x.0) x.1) (λ _. signed w32 bytes rest 5 n s t))

signed_byte : (bytes rest : List ℕ) (n : ℕ × List ℕ) → Spelled bytes (2 ∷ []) rest → Spelled rest (n.0 ∷ []) n.1 → Spelled bytes (2 ∷ cast_unsigned w8 (cast_signed w8 n.0) ∷ []) n.1
signed_byte bytes rest n s t =
    let small : n.0 < 2 ^ bits w8 = subst (λ (l : List ℕ). slice_index l 0 < 256) t.parts (s.rest_bytes 0) in
    subst (λ (k : ℕ). Spelled bytes (2 ∷ k ∷ []) n.1) (sym (of_z-to_z w8 n.0 small)) (one_tag bytes rest 2 (n.0 ∷ []) n.1 s t)

plain_has : (v : Version) (tag : ValueTag) (bytes rest : List ℕ) → Spelled bytes (value_number v tag ∷ []) rest → IsPlain tag → Spells bytes (value_bytes v) (plain_at tag rest)
unfolding plain_at value_bytes
plain_has v tags.None bytes rest s plain = s
plain_has v tags.Byte bytes rest s plain = then_has (number_at w8 rest) _ _ _ (byte_has rest s.rest_bytes) (λ n t. signed_byte bytes rest n s t)
plain_has v tags.Short bytes rest s plain = then_has (number_at w16 rest) _ _ _ (fits_16 rest s.rest_bytes) (λ n t. signed w16 bytes rest 3 n s t)
plain_has v tags.Char bytes rest s plain = then_has (number_at w16 rest) _ _ _ (fits_16 rest s.rest_bytes) (λ n t. one_tag bytes rest 4 (to_be_bytes w16 n.0) n.1 s t.0)
plain_has v tags.Long bytes rest s plain = then_has (number_at w64 rest) _ _ _ (fits_64 rest s.rest_bytes) (λ n t. signed w64 bytes rest 6 n s t)
plain_has v tags.Null bytes rest s plain = s
plain_has v _ bytes rest s plain = absurd plain

object_has : (v : Version) (earlier : List Known) (wanted : ValueForm) (bytes rest : List ℕ) → Spelled bytes (8 ∷ []) rest → Spells bytes (value_bytes v) (object_at earlier wanted rest)
unfolding object_at value_bytes
object_has v earlier wanted bytes rest s = then_has (reference_at (object_role wanted) earlier rest) _ _ _ (reference_has (object_role wanted) earlier rest s.rest_bytes) (λ n t. one_tag bytes rest 8 (number n.0) n.1 s t)

text_has : (v : Version) (earlier : List Known) (bytes rest : List ℕ) → Spelled bytes (9 ∷ []) rest → Spells bytes (value_bytes v) (text_at earlier rest)
unfolding text_at value_bytes
text_has v earlier bytes rest s = then_has (reference_at role.Text earlier rest) _ _ _ (reference_has role.Text earlier rest s.rest_bytes) (λ n t. one_tag bytes rest 9 (number n.0) n.1 s t)

fixed_has : (v : Version) (r : Ranges) (bytes rest : List ℕ) → Spelled bytes (10 ∷ []) rest → Spells bytes (value_bytes v) (fixed_at r rest)
unfolding fixed_at value_bytes
fixed_has v r bytes rest s =
    then_has (number_at w32 rest) _ _ _ (number_has rest s.rest_bytes) (λ n t.
    passed_has (in_range (nat_lt n.0 (length r.fixed))) (val.Fixed n.0, n.1) (λ (x : Value × List ℕ). Spelled bytes (value_bytes v x.0) x.1) (λ _. one_tag bytes rest 10 (number n.0) n.1 s t))

arm_has : (v : Version) (bytes rest : List ℕ) → Spelled bytes (arm_tag v ∷ []) rest → Spells bytes (value_bytes v) (arm_at v rest)
unfolding arm_at value_bytes
arm_has version.One bytes rest s =
    then_has (number_at w8 rest) _ _ _ (byte_has rest s.rest_bytes) (λ b t.
    passed_has (in_range (nat_lt b.0 arm_limit)) (val.Arm b.0, b.1) (λ (x : Value × List ℕ). Spelled bytes (value_bytes version.One x.0) x.1) (λ ok.
    subst (λ (n : ℕ). Spelled bytes (1 ∷ n ∷ []) b.1) (is_bit b.0 (ltb-true b.0 arm_limit (in_range_is (nat_lt b.0 arm_limit) ok))) (one_tag bytes rest 1 (b.0 ∷ []) b.1 s t)))
arm_has version.Two bytes rest s =
    then_has (number_at w32 rest) _ _ _ (number_has rest s.rest_bytes) (λ n t.
    passed_has (in_range (nat_lt n.0 arm_limit)) (val.Arm n.0, n.1) (λ (x : Value × List ℕ). Spelled bytes (value_bytes version.Two x.0) x.1) (λ _. one_tag bytes rest 12 (number n.0) n.1 s t))

behind_has : (r : Ranges) (earlier : List Known) (wanted : ValueForm) (tag : ValueTag) (bytes rest : List ℕ) → Spelled bytes (value_number r.version tag ∷ []) rest → Spells bytes (value_bytes r.version) (value_of r earlier wanted tag rest)
unfolding value_of
behind_has r earlier wanted tags.Bool bytes rest s = bool_has r.version bytes rest s
behind_has r earlier wanted tags.Int bytes rest s = int_has r.version wanted bytes rest s
behind_has r earlier wanted tags.Object bytes rest s = object_has r.version earlier wanted bytes rest s
behind_has r earlier wanted tags.Text bytes rest s = text_has r.version earlier bytes rest s
behind_has r earlier wanted tags.Fixed bytes rest s = fixed_has r.version r bytes rest s
behind_has r earlier wanted tags.Arm bytes rest s = arm_has r.version bytes rest s
behind_has r earlier wanted tag bytes rest s = plain_has r.version tag bytes rest s tt

listed_tag_is : (v : Version) (b : ℕ) (tag : ValueTag) → slice_get value_tags b ≡ Some tag → value_number v tag ≡ b
listed_tag_is v b tag is = omega (arith, tag_is (value_number v) value_tags 0 11 refl b tag is)

value_tag_is : (v : Version) (wanted : ValueForm) (b : ℕ) (tag : ValueTag) → value_tag v wanted b ≡ Some tag → value_number v tag ≡ b
value_tag_is v wanted b tag is = tag_has_byte v wanted b tag (listed_tag_is v b) is

pub value_has : (r : Ranges) (earlier : List Known) (wanted : ValueForm) (bytes : List ℕ) → AreBytes bytes → Spells bytes (value_bytes r.version) (value_at r earlier wanted bytes)
unfolding value_at
value_has r earlier wanted bytes are =
    let v = r.version in
    then_tag (value_tag v wanted) (value_number v) (value_tag_is v wanted) bytes are _ _ (λ tag s.
    then_has (passed (in_range (allows_value wanted tag.0)) tag.1) _ _ _ (passed_has (in_range (allows_value wanted tag.0)) tag.1 (λ rest. Spelled bytes (value_number v tag.0 ∷ []) rest) (λ _. s)) (λ rest t.
    behind_has r earlier wanted tag.0 bytes rest t))

-- ---- units

unit_spelled : (bytes : List ℕ) (x : ℕ × List ℕ) → AreBytes bytes → number_at w16 bytes ≡ Ok x → Spelled bytes (to_be_bytes w16 x.0) x.1
unit_spelled bytes x are e = (IfOk-at_ok (λ (y : ℕ × List ℕ). Spelled bytes (to_be_bytes w16 y.0) y.1 × (y.0 < 2 ^ bits w16)) e (fits_16 bytes are)).0

pub units_have : (bytes : List ℕ) → AreBytes bytes → Spells bytes units_bytes (units_at bytes)
unfolding units_at units_bytes
units_have bytes are =
    then_has (number_at w8 bytes) _ _ _ (byte_has bytes are) (λ b s.
    then_has (passed (in_range (b.0 == units_tag)) b.1) _ _ _ (passed_has (in_range (b.0 == units_tag)) b.1 (λ rest. Spelled bytes (units_tag ∷ []) rest) (λ ok. subst (λ (n : ℕ). Spelled bytes (n ∷ []) b.1) (eqb-true b.0 units_tag (in_range_is (b.0 == units_tag) ok)) s)) (λ rest t.
    then_has (number_at w32 rest) _ _ _ (number_has rest t.rest_bytes) (λ count u.
    rows_of bytes rest t count u)))
  where
    rows_of : (bytes rest : List ℕ) → Spelled bytes (units_tag ∷ []) rest → (count : ℕ × List ℕ) → Spelled rest (number count.0) count.1 → IfOk (rows_from (number_at w16) count.0 count.1) (λ x. Spelled bytes (units_bytes x.0) x.1)
    rows_of bytes rest t count u = if_read (rows_from (number_at w16) count.0 count.1) (λ x. Spelled bytes (units_bytes x.0) x.1) (λ x e.
        let rows = rows_spelled (number_at w16) (to_be_bytes w16) unit_spelled count.0 count.1 x u.rest_bytes e in
        let all = one_after rest (number count.0) count.1 (flat_map (to_be_bytes w16) x.0) x.1 u rows.0 in
        let same = subst (λ (n : ℕ). Spelled rest (number n ++ flat_map (to_be_bytes w16) x.0) x.1) (sym rows.1) all in
        one_tag bytes rest units_tag (number (length x.0) ++ flat_map (to_be_bytes w16) x.0) x.1 t same)
