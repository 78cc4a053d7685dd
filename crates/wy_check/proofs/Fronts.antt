-- What records say below a number is what those below it say.
use Rattle.std.proofs.Common.{◌≡◌, ◌+◌, ◌<◌, ◌≤◌, ℕ, zero, suc, List, [], ◌∷◌, ◌++◌, length, take, Option, Some, None, refl, sym, ap, ap₂, ◌∙◌, arith}
use Rattle.std.specs.Prelude.{slice_get, if◌then◌else◌}
use Rattle.std.proofs.lemmas.List.{length-take-le}
use Rattle.std.proofs.lemmas.Option.{none-some, same_Some}
use Rattle.wy_event.specs.declared.record.Slot.{Slot}
use Rattle.wy_event.specs.declared.record.Use.{Use}
use Rattle.wy_event.specs.declared.record.Use.TheVariants.{Place, Value, Choice}
use Rattle.wy_event.specs.Record.{Recorded}
use Rattle.wy_event.specs.Sources.{Control, Data, Owners, creates, creation, event_sources, is_so, last_write, or_else, use_source, use_sources, with_role, writes, written}
use Rattle.wy_view.specs.References.{RefersBelow, UseBelow, UsesBelow}

pub front_get : {X : Type 0} (xs : List X) (n k : ℕ) → k < n → slice_get (take n xs) k ≡ slice_get xs k
front_get xs zero k lt = absurd (omega (arith, lt))
front_get [] (suc n) k lt = refl
front_get (x ∷ xs) (suc n) zero lt = refl
front_get (x ∷ xs) (suc n) (suc k) lt = front_get xs n k (omega (arith, lt))

pub front_more : {X : Type 0} (xs : List X) (n : ℕ) (x : X) → slice_get xs n ≡ Some x → take (suc n) xs ≡ take n xs ++ x ∷ []
front_more [] n x at = absurd (none-some x at)
front_more (y ∷ xs) zero x at = ap (λ z. z ∷ []) (same_Some y x at)
front_more (y ∷ xs) (suc n) x at = ap (λ l. y ∷ l) (front_more xs n x at)

pub front_length : {X : Type 0} (xs : List X) (n : ℕ) → n ≤ length xs → length (take n xs) ≡ n
front_length xs n le = length-take-le n xs le

module _ (owner : Owners) (rs : List Recorded) (n : ℕ) where
  written_front : (x : Slot) (m : ℕ) → m ≤ n → written (take n rs) x m ≡ written rs x m
  unfolding written
  written_front x zero le = refl
  written_front x (suc m) le = ap₂ (λ o w. if is_so (writes x) o then Some m else w) (front_get rs n m (omega (arith, le))) (written_front x m (omega (arith, le)))

  creation_front : (x : Slot) (m : ℕ) → m ≤ n → creation owner (take n rs) x m ≡ creation owner rs x m
  unfolding creation
  creation_front x zero le = refl
  creation_front x (suc m) le = ap₂ (λ w o. or_else w (if is_so (creates owner m x) o then Some m else None)) (creation_front x m (omega (arith, le))) (front_get rs n m (omega (arith, le)))

  last_write_front : (x : Slot) (m : ℕ) → m ≤ n → last_write owner (take n rs) x m ≡ last_write owner rs x m
  unfolding last_write
  last_write_front x m le = ap₂ or_else (written_front x m le) (creation_front x m le)

  use_front : (u : Use) → UseBelow n u → use_source owner (take n rs) u ≡ use_source owner rs u
  unfolding use_source
  use_front (Place x m) below = ap (with_role Data) (last_write_front x m below.1)
  use_front (Value e) below = refl
  use_front (Choice e) below = refl

  uses_front : (us : List Use) → UsesBelow n us → use_sources owner (take n rs) us ≡ use_sources owner rs us
  unfolding use_sources
  uses_front [] below = refl
  uses_front (u ∷ us) below = ap₂ (λ a b. a ++ b) (use_front u below.0) (uses_front us below.1)

  pub sources_front : (r : Recorded) → RefersBelow n r → event_sources owner (take n rs) r ≡ event_sources owner rs r
  unfolding event_sources
  sources_front r below = ap (λ l. l ++ with_role Control r.control) (uses_front r.uses below.uses)
