-- Uses that are read are spelled so.
use Rattle.std.proofs.Common.{◌≡◌, ℕ, zero, suc, List, [], ◌∷◌, ◌++◌, length, Some, Ok, refl, sym, subst, arith}
use Rattle.std.specs.List.{flat_map}
use Rattle.std.specs.Int.{w32}
use Rattle.std.proofs.lemmas.Result.{IfOk-at_ok}
use Rattle.wy_event.specs.declared.record.Use.{Use}
use Rattle.wy_spelling.specs.Spelling.{number, slot_bytes, use_bytes, uses_bytes}
use Rattle.wy_payload.specs.declared.ranges.Ranges.{Ranges}
use Rattle.wy_payload.specs.declared.known.Known.{Known}
use Rattle.wy_payload.specs.declared.known.Role.TheVariants as role
use Rattle.wy_payload.specs.declared.slot.SlotForm.{SlotForm}
use Rattle.wy_payload.specs.declared.slot.SlotForm.TheVariants as form
use Rattle.wy_payload.specs.declared.event.UseTag.{UseTag}
use Rattle.wy_payload.specs.declared.event.UseTag.TheVariants as tags
use Rattle.wy_payload.specs.Reading.{number_at, below_at, at_most_at, reference_at, rows_from}
use Rattle.wy_payload.specs.Places.{slot_at}
use Rattle.wy_payload.specs.Events.{use_tag, place_at, use_of, use_at, uses_at}
use Rattle.law_reading.specs.Spelled.{AreBytes}
use Rattle.law_reading.proofs.SpelledNumbers.{Spelled, at_most_spelled, one_after}
use Rattle.law_reading.proofs.Tails.{rows_spelled}
use Rattle.law_reading.proofs.Slots.{below_spelled, slot_spelled}
use Rattle.wy_payload.proofs.Readers.{then_has}
use Rattle.law_reading.proofs.SpelledSteps.{Spells, if_read, number_has, tag_is, then_tag}
use Rattle.law_reading.proofs.SpelledValues.{one_tag, reference_has}

abbrev use_number : UseTag → ℕ
use_number tags.Place = 1
use_number tags.Value = 2
use_number tags.Choice = 3

below_has : (limit : ℕ) (bytes : List ℕ) → AreBytes bytes → Spells bytes number (below_at limit bytes)
below_has limit bytes are = if_read (below_at limit bytes) (λ x. Spelled bytes (number x.0) x.1) (λ x e. below_spelled limit bytes x are e)

at_most_has : (limit : ℕ) (bytes : List ℕ) → AreBytes bytes → Spells bytes number (at_most_at limit bytes)
at_most_has limit bytes are = if_read (at_most_at limit bytes) (λ x. Spelled bytes (number x.0) x.1) (λ x e. at_most_spelled limit bytes x are e)

pub slot_has : (r : Ranges) (earlier : List Known) (wanted : SlotForm) (bytes : List ℕ) → AreBytes bytes → Spells bytes slot_bytes (slot_at r earlier wanted bytes)
slot_has r earlier wanted bytes are = if_read (slot_at r earlier wanted bytes) (λ x. Spelled bytes (slot_bytes x.0) x.1) (λ x e. slot_spelled r earlier wanted bytes x are e)

place_has : (r : Ranges) (earlier : List Known) (bytes rest : List ℕ) → Spelled bytes (1 ∷ []) rest → Spells bytes use_bytes (place_at r earlier rest)
unfolding place_at use_bytes
place_has r earlier bytes rest s =
    then_has (slot_at r earlier form.Place rest) _ _ _ (slot_has r earlier form.Place rest s.rest_bytes) (λ slot t.
    then_has (at_most_at (length earlier) slot.1) _ _ _ (at_most_has (length earlier) slot.1 t.rest_bytes) (λ moment u.
    one_tag bytes rest 1 (slot_bytes slot.0 ++ number moment.0) moment.1 s (one_after rest (slot_bytes slot.0) slot.1 (number moment.0) moment.1 t u)))

behind_has : (r : Ranges) (earlier : List Known) (tag : UseTag) (bytes rest : List ℕ) → Spelled bytes (use_number tag ∷ []) rest → Spells bytes use_bytes (use_of r earlier tag rest)
unfolding use_of use_bytes
behind_has r earlier tags.Place bytes rest s = place_has r earlier bytes rest s
behind_has r earlier tags.Value bytes rest s = then_has (below_at (length earlier) rest) _ _ _ (below_has (length earlier) rest s.rest_bytes) (λ event t. one_tag bytes rest 2 (number event.0) event.1 s t)
behind_has r earlier tags.Choice bytes rest s = then_has (reference_at role.Test earlier rest) _ _ _ (reference_has role.Test earlier rest s.rest_bytes) (λ event t. one_tag bytes rest 3 (number event.0) event.1 s t)

use_tag_is : (b : ℕ) (tag : UseTag) → use_tag b ≡ Some tag → use_number tag ≡ b
use_tag_is zero tag is = absurd cc
use_tag_is (suc n) tag is = omega (arith, tag_is use_number (tags.Place ∷ tags.Value ∷ tags.Choice ∷ []) 1 3 refl n tag is)

use_has : (r : Ranges) (earlier : List Known) (bytes : List ℕ) → AreBytes bytes → Spells bytes use_bytes (use_at r earlier bytes)
unfolding use_at
use_has r earlier bytes are = then_tag use_tag use_number use_tag_is bytes are _ _ (λ tag s. behind_has r earlier tag.0 bytes tag.1 s)

use_spelled : (r : Ranges) (earlier : List Known) (bytes : List ℕ) (x : Use × List ℕ) → AreBytes bytes → use_at r earlier bytes ≡ Ok x → Spelled bytes (use_bytes x.0) x.1
use_spelled r earlier bytes x are e = IfOk-at_ok (λ (y : Use × List ℕ). Spelled bytes (use_bytes y.0) y.1) e (use_has r earlier bytes are)

pub uses_have : (r : Ranges) (earlier : List Known) (bytes : List ℕ) → AreBytes bytes → Spells bytes uses_bytes (uses_at r earlier bytes)
unfolding uses_at uses_bytes
uses_have r earlier bytes are =
    then_has (number_at w32 bytes) _ _ _ (number_has bytes are) (λ count s.
    if_read (rows_from (use_at r earlier) count.0 count.1) (λ x. Spelled bytes (uses_bytes x.0) x.1) (λ x e.
    let rows = rows_spelled (use_at r earlier) use_bytes (use_spelled r earlier) count.0 count.1 x s.rest_bytes e in
    let all = one_after bytes (number count.0) count.1 (flat_map use_bytes x.0) x.1 s rows.0 in
    subst (λ (n : ℕ). Spelled bytes (number n ++ flat_map use_bytes x.0) x.1) (sym rows.1) all))
