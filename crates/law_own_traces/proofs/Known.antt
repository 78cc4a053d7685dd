-- What is known of the records before one, as a reader knows it.
use Rattle.std.proofs.Common.{◌≡◌, ◌<◌, ◌≤◌, arith, ℕ, zero, suc, true, List, [], ◌∷◌, length, Option, Some, refl, ap, ◌∙◌, subst}
use Rattle.std.specs.Prelude.{None as Absent}
use Rattle.std.specs.Prelude.{map, take, nat_lt, nat_le, slice_get, IfSome}
use Rattle.std.proofs.lemmas.Bool.Decides.{nat_tests}
use Rattle.std.proofs.lemmas.Option.{slice_get-map}
use Rattle.std.specs.Option.{option_map}
use Rattle.std.proofs.lemmas.List.{length-map, length-take-le}
use Rattle.wy_event.specs.declared.record.Kind.{Kind}
use Rattle.wy_event.specs.declared.record.Kind.TheVariants as kind
use Rattle.wy_event.specs.Record.{Recorded}
use Rattle.wy_steps.specs.Steps.{code_of}
use Rattle.wy_payload.specs.declared.fault.DamageRule.TheVariants as rule
use Rattle.wy_payload.specs.declared.known.Known.{Known}
use Rattle.wy_payload.specs.declared.known.Known.TheVariants as known
use Rattle.wy_payload.specs.declared.known.Role.{Role}
use Rattle.wy_payload.specs.declared.known.Role.TheVariants as role
use Rattle.wy_payload.specs.Ranges.{known_as}
use Rattle.wy_payload.specs.Rules.{unless, fits, refers_to, reference_rule, brackets_unit}
use Rattle.law_shaped.specs.Shaped.{Shaped, Below, OptionBelow, EntityOf, IsFrame, IsControl, IsNew, IsText, IsTest, IsThrow, IsLeaving}
use Rattle.law_reading.specs.Readable.{or_none, known_in, Refers}
use Rattle.law_in_range.specs.InRange.{arrays_from, IsObject, IsArray}

-- ---- the first records of a list

pub taken_there : {X : Type 0} (xs : List X) (n k : ℕ) (x : X) → slice_get (take n xs) k ≡ Some x → slice_get xs k ≡ Some x
taken_there xs zero k x e = absurd (cc e)
taken_there [] (suc n) k x e = absurd (cc e)
taken_there (y ∷ xs) (suc n) zero x e = e
taken_there (y ∷ xs) (suc n) (suc k) x e = taken_there xs n k x e

pub there_taken : {X : Type 0} (xs : List X) (n k : ℕ) (x : X) → k < n → slice_get xs k ≡ Some x → slice_get (take n xs) k ≡ Some x
there_taken xs zero k x lt e = absurd (omega (arith, lt))
there_taken [] (suc n) k x lt e = absurd (cc e)
there_taken (y ∷ xs) (suc n) zero x lt e = e
there_taken (y ∷ xs) (suc n) (suc k) x lt e = there_taken xs n k x (omega (arith, lt)) e

-- what a role asks of a kind
abbrev OfRole : Role → Kind → Type 0
OfRole role.Frame k = IsFrame k
OfRole role.Control k = IsControl k
OfRole role.Made k = IsNew k
OfRole role.Text k = IsText k
OfRole role.Test k = IsTest k
OfRole role.Leaving k = IsLeaving k
OfRole role.Throw k = IsThrow k
OfRole _ k = ⊥

fits_role : (r : Role) (k : Kind) (entity : ℕ) (units : List ℕ) → OfRole r k → fits r (known_as k entity units) ≡ true
fits_role role.Frame kind.Init entity units h = refl
fits_role role.Frame kind.Call entity units h = refl
fits_role role.Control kind.Init entity units h = refl
fits_role role.Control kind.Call entity units h = refl
fits_role role.Control kind.Test entity units h = refl
fits_role role.Control kind.Catch entity units h = refl
fits_role role.Made kind.New entity units h = refl
fits_role role.Text kind.Text entity units h = refl
fits_role role.Test kind.Test entity units h = refl
fits_role role.Leaving kind.Jump entity units h = refl
fits_role role.Leaving kind.Return entity units h = refl
fits_role role.Leaving kind.Throw entity units h = refl
fits_role role.Throw kind.Throw entity units h = refl
fits_role _ _ entity units h = absurd h

-- ---- references

module _ (before : List Recorded) where
  abbrev pub earlier : List Known
  earlier = map known_in before

  pub known_there : (k : ℕ) (e : Recorded) → slice_get before k ≡ Some e → slice_get earlier k ≡ Some (known_in e)
  known_there k e h = slice_get-map known_in before k ∙ ap (option_map known_in) h

  pub refers : (r : Role) (k : ℕ) (e : Recorded) → slice_get before k ≡ Some e → fits r (known_in e) ≡ true → Refers r earlier k
  unfolding reference_rule
  refers r k e there h = ap (refers_to r) (known_there k e there) ∙ ap (λ b. unless b rule.Kind) h

  pub refers_by_kind : (r : Role) (k : ℕ) (e : Recorded) → slice_get before k ≡ Some e → OfRole r e.kind → Refers r earlier k
  refers_by_kind r k e there h = refers r k e there (fits_role r e.kind (or_none e.entity) e.units h)

  -- the code of a New
  new_known : (e : Recorded) (code : ℕ) → e.kind ≡ kind.New → e.entity ≡ Some code → known_in e ≡ known.New code
  new_known e code k w = ap (λ z. known_as z (or_none e.entity) e.units) k ∙ ap (λ o. known.New (or_none o)) w

  pub refers_object : (k : ℕ) (e : Recorded) (code : ℕ) → slice_get before k ≡ Some e → e.kind ≡ kind.New → e.entity ≡ Some code → code < arrays_from → Refers role.Object earlier k
  refers_object k e code there n w lt = refers role.Object k e there (ap (fits role.Object) (new_known e code n w) ∙ small)
    where
      small : nat_lt code brackets_unit ≡ true
      small = grind (arith, nat_tests)

  pub refers_array : (k : ℕ) (e : Recorded) (code : ℕ) → slice_get before k ≡ Some e → e.kind ≡ kind.New → e.entity ≡ Some code → arrays_from ≤ code → Refers role.Array earlier k
  refers_array k e code there n w le = refers role.Array k e there (ap (fits role.Array) (new_known e code n w) ∙ large)
    where
      large : nat_le brackets_unit code ≡ true
      large = grind (arith, nat_tests)

-- ---- among the records of a run

module _ (rs : List Recorded) (shaped : (n : ℕ) (e : Recorded) → slice_get rs n ≡ Some e → Shaped rs n e) (n : ℕ) where
  abbrev pub front : List Recorded
  front = take n rs

  pub below_refers : (r : Role) (K : Kind → Type 0) → ((k : Kind) → K k → OfRole r k) → (k : ℕ) → Below rs K n k → Refers r (earlier front) k
  below_refers r K up k h = refers_by_kind front r k h.event (there_taken rs n k h.event h.before h.there) (up h.event.kind h.kind)

  pub option_refers : (r : Role) (K : Kind → Type 0) → ((k : Kind) → K k → OfRole r k) → (o : Option ℕ) → OptionBelow rs K n o → IfSome o (Refers r (earlier front))
  option_refers r K up Absent h = tt
  option_refers r K up (Some k) h = below_refers r K up k h

  code_there : (k : Kind) (entity : Option ℕ) → k ≡ kind.New → EntityOf k entity → (code : ℕ) × (entity ≡ Some code)
  code_there k entity e h = by_entity entity (subst (λ z. EntityOf z entity) e h)
    where
      by_entity : (o : Option ℕ) → EntityOf kind.New o → (code : ℕ) × (o ≡ Some code)
      by_entity (Some code) h = (code, refl)
      by_entity Absent h = absurd h

  code_is : (entity : Option ℕ) (code : ℕ) → entity ≡ Some code → code_of entity ≡ code
  unfolding code_of
  code_is entity code e = ap code_of e

  pub object_refers : (k : ℕ) → IsObject (slice_get front) k → Refers role.Object (earlier front) k
  object_refers k h =
      let s = shaped k h.event (taken_there rs n k h.event h.there) in
      let c = code_there h.event.kind h.event.entity h.is_new s.entity_of_kind in
      refers_object front k h.event c.0 h.there h.is_new c.1 (subst (λ z. z < arrays_from) (code_is h.event.entity c.0 c.1) h.no_array)

  pub array_refers : (k : ℕ) → IsArray (slice_get front) k → Refers role.Array (earlier front) k
  array_refers k h =
      let s = shaped k h.event (taken_there rs n k h.event h.there) in
      let c = code_there h.event.kind h.event.entity h.is_new s.entity_of_kind in
      refers_array front k h.event c.0 h.there h.is_new c.1 (subst (λ z. arrays_from ≤ z) (code_is h.event.entity c.0 c.1) h.array)

  pub known_length : n ≤ length rs → length (earlier front) ≡ n
  known_length le = length-map front known_in ∙ length-take-le n rs le
