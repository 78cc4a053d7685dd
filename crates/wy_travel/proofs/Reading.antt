-- What the records that a view tells say of a slot, by an index of the view.
use Rattle.std.proofs.Common.{◌≡◌, ◌∙◌, ◌<◌, ℕ, zero, suc, Bool, true, false, List, length, Option, Some, refl, sym, ap, subst, inl, inr, ◌⊎◌, ⊎_elim}
use Rattle.std.proofs.Math.Path.{fun_ext}
use Rattle.std.proofs.lemmas.Option.{slice_get_within}
use Rattle.std.specs.Prelude.{None as Absent}
use Rattle.std.specs.Prelude.{IfSome, if◌then◌else◌, option_map, slice_get, unwrap_or}
use Rattle.wy_kernel.specs.Program.{Program, field}
use Rattle.wy_value.specs.declared.value.Value.{Value}
use Rattle.wy_value.specs.declared.value.Value.TheVariants.{None as Nothing}
use Rattle.wy_event.specs.declared.record.Slot.{Slot}
use Rattle.wy_event.specs.Record.{Recorded}
use Rattle.wy_event.specs.Sources.{Owners, creates, creation, is_so, last_write, or_else, writes, written}
use Rattle.wy_steps.specs.Steps.{owner_in}
use Rattle.wy_view.specs.View.{Keeps, Told}
use Rattle.wy_index.specs.declared.index.Index.{Index}
use Rattle.wy_index.specs.Index.{IsIndexOf, IsIndexOfView}
use Rattle.wy_travel.specs.Held.{given_at, given_by, held}

-- ---- what is told

pub told_record : (told : Option (List Recorded)) (rs : List Recorded) (n : ℕ) (e : Recorded) → told ≡ Some rs → IfSome told (λ all. slice_get all n ≡ Some e) → slice_get rs n ≡ Some e
told_record told rs n e is at = subst (λ o. IfSome o (λ all. slice_get all n ≡ Some e)) is at

-- an index of a view is of the records that the view tells
pub index_of : (index : Index) (told : Told) (rs : List Recorded) → told.records ≡ Some rs → IsIndexOfView index told → IsIndexOf index rs
index_of index told rs is v =
    let same : rs ≡ v.records = subst (λ o. IfSome o (λ t. t ≡ v.records)) is v.as_told in
    subst (IsIndexOf index) (sym same) v.is_index

-- and stays one after a call of the view
pub index_kept : (index : Index) (old new : Told) → Keeps old new → IsIndexOfView index old → IsIndexOfView index new
index_kept index old new keeps is = record {
  records = is.records;
  is_index = is.is_index;
  all = is.all ∙ sym keeps.count;
  as_told = subst (λ (o : Option (List Recorded)). IfSome o (λ rs. rs ≡ is.records)) (sym keeps.records) is.as_told;
}

-- ---- the last write is one of the records

either : (a b : Option ℕ) (n : ℕ) → or_else a b ≡ Some n → (a ≡ Some n) ⊎ (b ≡ Some n)
unfolding or_else
either (Some k) b n is = inl is
either Absent b n is = inr is

chosen_within : (f : Recorded → Bool) (rs : List Recorded) (m n : ℕ) → (if is_so f (slice_get rs m) then Some m else Absent) ≡ Some n → n < length rs
unfolding is_so
chosen_within f rs m n is = go (slice_get rs m) refl is
  where
    it : (r : Recorded) (b : Bool) → slice_get rs m ≡ Some r → (if b then Some m else Absent) ≡ Some n → n < length rs
    it r true at h = let same : m ≡ n = ap (λ o. unwrap_or o 0) h in subst (λ k. k < length rs) same (slice_get_within rs m r at)
    it r false at h = absurd (cc)

    go : (o : Option Recorded) → slice_get rs m ≡ o → (if is_so f o then Some m else Absent) ≡ Some n → n < length rs
    go Absent at h = absurd (cc)
    go (Some r) at h = it r (f r) at h

written_within : (rs : List Recorded) (x : Slot) (m n : ℕ) → written rs x m ≡ Some n → n < length rs
unfolding written
written_within rs x zero n is = absurd (cc)
written_within rs x (suc m) n is = go (written_within rs x m n) (is_so (writes x) (slice_get rs m)) refl is
  where
    go : (written rs x m ≡ Some n → n < length rs) → (b : Bool) → is_so (writes x) (slice_get rs m) ≡ b → (if b then Some m else written rs x m) ≡ Some n → n < length rs
    go before true so h = chosen_within (writes x) rs m n (ap (λ b. if b then Some m else Absent) so ∙ h)
    go before false so h = before h

creation_within : (owner : Owners) (rs : List Recorded) (x : Slot) (m n : ℕ) → creation owner rs x m ≡ Some n → n < length rs
unfolding creation
creation_within owner rs x zero n is = absurd (cc)
creation_within owner rs x (suc m) n is = ⊎_elim
    (λ (before : creation owner rs x m ≡ Some n). creation_within owner rs x m n before)
    (λ (now : (if is_so (creates owner m x) (slice_get rs m) then Some m else Absent) ≡ Some n). chosen_within (creates owner m x) rs m n now)
    (either (creation owner rs x m) (if is_so (creates owner m x) (slice_get rs m) then Some m else Absent) n is)

pub last_write_within : (owner : Owners) (rs : List Recorded) (x : Slot) (m n : ℕ) → Some n ≡ last_write owner rs x m → n < length rs
unfolding last_write
last_write_within owner rs x m n is = ⊎_elim
    (λ (wrote : written rs x m ≡ Some n). written_within rs x m n wrote)
    (λ (made : creation owner rs x m ≡ Some n). creation_within owner rs x m n made)
    (either (written rs x m) (creation owner rs x m) n (sym is))

-- ---- what it gave

-- what the event of a look-up gave, where the owners of the index are those of the program
pub found_given : (p : Program) (owner : Owners) (rs : List Recorded) (x : Slot) (m : ℕ) (found : Option ℕ) → ((f : ℕ) → owner f ≡ (field p f).class)
    → found ≡ last_write owner rs x m → option_map (λ n. given_at p rs x (Some n)) found ≡ option_map (λ n. given_at p rs x (Some n)) (last_write (owner_in p) rs x m)
unfolding owner_in
found_given p owner rs x m found same is = ap (option_map (λ n. given_at p rs x (Some n))) (is ∙ ap (λ o. last_write o rs x m) (fun_ext same))

-- what is held is what was given last, and nothing where nothing was
pub held_given : (p : Program) (rs : List Recorded) (x : Slot) (m : ℕ) (found : Option Value)
    → found ≡ option_map (λ n. given_at p rs x (Some n)) (last_write (owner_in p) rs x m) → unwrap_or found Nothing ≡ held p rs x m
unfolding held given_at
held_given p rs x m found is = ap (λ o. unwrap_or o Nothing) is ∙ go (last_write (owner_in p) rs x m)
  where
    go : (w : Option ℕ) → unwrap_or (option_map (λ n. given_at p rs x (Some n)) w) Nothing ≡ given_at p rs x w
    go Absent = refl
    go (Some n) = refl

-- by the record of the event
pub given_there : (p : Program) (rs : List Recorded) (x : Slot) (n : ℕ) (e : Recorded) → slice_get rs n ≡ Some e → given_by p x (Some e) ≡ given_at p rs x (Some n)
unfolding given_at
given_there p rs x n e at = ap (given_by p x) (sym at)
