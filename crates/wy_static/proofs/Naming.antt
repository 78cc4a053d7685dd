-- The classes and interfaces above each class are numbers of classes.
use Rattle.std.proofs.Common.{◌≡◌, ℕ, ◌<◌, Bool, List, length, All, Contains, Option, Some, None, slice_get, refl, sym, subst, ⊎_elim, ◌⊎◌, eq-eqb, ne_eqb}
use Rattle.std.specs.Prelude.{map, option_map, if◌then◌else◌}
use Rattle.std.specs.Option.{option_to_list}
use Rattle.std.proofs.lemmas.Bool.{cases_eq}
use Rattle.std.proofs.lemmas.List.{length-map}
use Rattle.std.proofs.lemmas.Option.{slice_get-map, slice_get_within, get_or_from_slice_get}
use Rattle.wy_kernel.specs.Program.{Class}
use Rattle.wy_kernel.specs.Subtyping.{direct_supertypes, named_above}
use Rattle.wy_kernel.specs.Table.{NamesAmong}
use Rattle.wy_kernel.specs.View.{NONE, present}
use Rattle.wy_static.proofs.Contained.{none, alone}

-- a number that is there is the one that is kept
pub of_present : (n d many : ℕ) → (n ≡ NONE) ⊎ (n < many) → Contains (option_to_list (present n)) d → d < many
unfolding present
of_present n d many small h = ⊎_elim
    (λ (e : n ≡ NONE). absurd (none d (subst (λ (b : Bool). Contains (option_to_list (if b then None else Some n)) d) (eq-eqb n NONE e) h)))
    (λ (ne : n ≡ NONE → ⊥).
    let is : d ≡ n = alone n d (subst (λ (b : Bool). Contains (option_to_list (if b then None else Some n)) d) (ne_eqb n NONE ne) h) in
    ⊎_elim (λ e. absurd (ne e)) (λ (lt : n < many). subst (λ k. k < many) (sym is) lt) small)
    (cases_eq n NONE)

abbrev pub NamesBelow : ℕ → Class → Type 0
NamesBelow many k = (d : ℕ) → Contains (named_above (Some k)) d → d < many

pub all_among : {K : Type 0} (f : K → Class) (classes : List K) → All (λ k. NamesBelow (length classes) (f k)) classes → NamesAmong (map f classes)
unfolding direct_supertypes
all_among {K} f classes all c d h =
    subst (λ n. d < n) (sym (length-map classes f)) (by (slice_get classes c) refl (subst (λ o. Contains (named_above o) d) (slice_get-map f classes c) h))
  where
    by : (o : Option K) → slice_get classes c ≡ o → Contains (named_above (option_map f o)) d → d < length classes
    by None e g = absurd (none d g)
    by (Some k) e g = subst (λ x. NamesBelow (length classes) (f x)) (get_or_from_slice_get classes c k k e) (all c k (slice_get_within classes c k e)) d g
