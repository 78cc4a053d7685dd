-- Uses are read as they are spelled.
use Rattle.std.proofs.Common.{◌≡◌, ℕ, zero, suc, ◌<◌, ◌^◌, List, [], ◌∷◌, ◌++◌, length, Some, Ok, refl, arith}
use Rattle.std.specs.Prelude.{IfOk}
use mir.Val.{bits}
use Rattle.std.specs.Int.{w32}
use Rattle.std.specs.List.{AllByRecursion}
use Rattle.std.proofs.lemmas.Bool.{le-leb, leb-true, lt-ltb, ltb-true}
use Rattle.wy_event.specs.declared.record.Slot.{Slot}
use Rattle.wy_event.specs.declared.record.Use.{Use}
use Rattle.wy_event.specs.declared.record.Use.TheVariants as used
use Rattle.wy_fitting.specs.Fits.{UseFits}
use Rattle.wy_spelling.specs.Spelling.{number, slot_bytes, use_bytes, uses_bytes}
use Rattle.wy_view.specs.References.{UseBelow}
use Rattle.wy_payload.specs.declared.event.UseTag.{UseTag}
use Rattle.wy_payload.specs.declared.event.UseTag.TheVariants as tags
use Rattle.wy_payload.specs.Reading.{number_at, below_at, at_most_at}
use Rattle.wy_payload.specs.Events.{use_tag}
use Rattle.wy_frame_reading.specs.Fields.{choice_at, place_at, slot_at, use_at, use_of, used_value_at, uses_at}
use Rattle.wy_frame_reading.proofs.Readers.{AreBytes, Reads, by_parts, counted, one, two}
use Rattle.wy_frame_reading.proofs.Numbers.{IsBelow, IsUpTo, at_most, below, word_32}
use Rattle.wy_frame_reading.proofs.Slots.{GoodSlot, slot}
use Rattle.wy_frame_reading.proofs.Tags.{Behind, behind_as, tag_is, tagged}

-- its numbers fit, its events are below n, and its moment is at most n
abbrev pub GoodUse : ℕ → Use → Type 0
GoodUse n u = UseFits u × UseBelow n u

-- the bytes of a use behind its tag
abbrev use_rest : Use → List ℕ
use_rest (used.Place slot moment) = slot_bytes slot ++ number moment
use_rest (used.Value event) = number event
use_rest (used.Choice event) = number event

abbrev tag_of_use : Use → UseTag
tag_of_use (used.Place slot moment) = tags.Place
tag_of_use (used.Value event) = tags.Value
tag_of_use (used.Choice event) = tags.Choice

abbrev use_number : UseTag → ℕ
use_number tags.Place = 1
use_number tags.Value = 2
use_number tags.Choice = 3

use_is : (u : Use) → use_number (tag_of_use u) ∷ use_rest u ≡ use_bytes u
unfolding use_bytes
use_is (used.Place slot moment) = refl
use_is (used.Value event) = refl
use_is (used.Choice event) = refl

-- ---- each form

place : (n : ℕ) → Reads (Slot × ℕ) Use (λ p. GoodSlot n p.0 × IsUpTo n p.1) (λ p. slot_bytes p.0 ++ number p.1) (λ p. used.Place p.0 p.1) (place_at n)
unfolding place_at
place n = two Slot ℕ Slot Use (GoodSlot n) slot_bytes (λ x. x) (slot_at n) (λ a. IsUpTo n) (λ a. number) used.Place _ (slot n) (λ x. one ℕ ℕ Use (IsUpTo n) number (λ m. m) (at_most_at n) (used.Place x) (at_most n))

used_value : (n : ℕ) → Reads ℕ Use (IsBelow n) number used.Value (used_value_at n)
unfolding used_value_at
used_value n = one ℕ ℕ Use (IsBelow n) number (λ m. m) (below_at n) used.Value (below n)

choice : (n : ℕ) → Reads ℕ Use (IsBelow n) number used.Choice (choice_at n)
unfolding choice_at
choice n = one ℕ ℕ Use (IsBelow n) number (λ m. m) (below_at n) used.Choice (below n)

-- ---- all forms

forth : (n : ℕ) (u : Use) (rest : List ℕ) → GoodUse n u → use_of n (tag_of_use u) (use_rest u ++ rest) ≡ Ok (u, rest)
unfolding use_of
forth n (used.Place x moment) rest ((fit, small), (lower, up_to)) = (place n).back (x, moment) rest ((fit, lower), (small, le-leb moment n up_to))
forth n (used.Value event) rest (fit, lower) = (used_value n).back event rest (fit, lt-ltb event n lower)
forth n (used.Choice event) rest (fit, lower) = (choice n).back event rest (fit, lt-ltb event n lower)

module _ (n : ℕ) where
  abbrev UseBehind : UseTag → List ℕ → Use × List ℕ → Type 0
  UseBehind = Behind UseTag Use use_tag use_number tag_of_use use_rest (GoodUse n) (use_of n)

  formed : (A : Type 0) (Ga : A → Type 0) (sa : A → List ℕ) (ma : A → Use) (t : UseTag) → Reads A Use Ga sa ma (use_of n t) → ((a : A) → Ga a → (tag_of_use (ma a) ≡ t) × GoodUse n (ma a) × (use_rest (ma a) ≡ sa a)) → (bytes : List ℕ) → AreBytes bytes → IfOk (use_of n t bytes) (UseBehind t bytes)
  formed = behind_as UseTag Use use_tag use_number tag_of_use use_rest (GoodUse n) (use_of n)

  back : (t : UseTag) (bytes : List ℕ) → AreBytes bytes → IfOk (use_of n t bytes) (UseBehind t bytes)
  unfolding use_of
  back tags.Place bytes are = formed (Slot × ℕ) _ _ _ tags.Place (place n) (λ (x, moment) ((fit, lower), (small, up_to)). (refl, ((fit, small), (lower, leb-true moment n up_to)), refl)) bytes are
  back tags.Value bytes are = formed ℕ _ _ _ tags.Value (used_value n) (λ m (fit, lower). (refl, (fit, ltb-true m n lower), refl)) bytes are
  back tags.Choice bytes are = formed ℕ _ _ _ tags.Choice (choice n) (λ m (fit, lower). (refl, (fit, ltb-true m n lower), refl)) bytes are

known : (t : UseTag) → use_tag (use_number t) ≡ Some t
known tags.Place = refl
known tags.Value = refl
known tags.Choice = refl

placed : (b : ℕ) (t : UseTag) → use_tag b ≡ Some t → use_number t ≡ b
placed zero t is = absurd cc
placed (suc n) t is = omega (arith, tag_is use_number (tags.Place ∷ tags.Value ∷ tags.Choice ∷ []) 1 3 refl n t is)

one_use : (n : ℕ) → Reads Use Use (GoodUse n) use_bytes (λ u. u) (use_at n)
unfolding use_at
one_use n =
    by_parts Use Use Use (GoodUse n) (λ u. use_number (tag_of_use u) ∷ use_rest u) (λ u. u) (GoodUse n) use_bytes (λ u. u) _ (λ u. u) (λ u. u)
    (tagged UseTag Use use_tag use_number tag_of_use use_rest (GoodUse n) (use_of n) (λ u good. known (tag_of_use u)) placed (forth n) (λ t can. back n t))
    (λ u good. (good, refl, use_is u)) (λ u good. (good, refl, use_is u))

-- each is good, and there are few
abbrev pub GoodUses : ℕ → List Use → Type 0
GoodUses n us = AllByRecursion (GoodUse n) us × (length us < 2 ^ bits w32)

pub uses : (n : ℕ) → Reads (List Use) (List Use) (GoodUses n) uses_bytes (λ us. us) (uses_at n)
unfolding uses_at uses_bytes
uses n = counted Use (GoodUse n) use_bytes (use_at n) number (λ k. k < 2 ^ bits w32) (number_at w32) (one_use n) word_32
