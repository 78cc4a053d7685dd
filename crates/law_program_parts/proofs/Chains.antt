-- A class, its superclass, and so on to Object. Interfaces extend interfaces alone, so each class that a class is below is on its chain.
use Rattle.std.proofs.Common.{◌≡◌, zero, suc, refl, sym, ap, subst, arith, ℕ, ◌<◌, ◌≤◌, ◌⊎◌, inl, inr, List, length, true, false, Option, Some}
use Rattle.std.specs.Prelude.{None as Absent}
use Rattle.std.specs.Prelude.{slice_get, option_to_list, MatchOption}
use Rattle.std.specs.List.{Contains}
use Rattle.std.proofs.lemmas.List.Elements.{Contains-append_left, Contains-append_cases}
use Rattle.std.proofs.lemmas.Option.{slice_get_cases}
use Rattle.wy_kernel.specs.Program.{Class}
use Rattle.wy_kernel.specs.Subtyping.{direct_supertypes, named_above, Supertype, itself, further, IsAcyclic, Below, class_type}
use Rattle.wy_kernel.specs.Table.{NamesAmong}
use Rattle.wy_overloads.specs.Lineage.{HasTop}
use Rattle.wy_overloads.specs.Choice.{IsClass}
use Rattle.wy_overloads.proofs.Straight.{straight, class_arrays_below}
use Rattle.wy_overloads.proofs.Related.{class_below_class}

abbrev pub IsAt : List Class → ℕ → Class → Type 0
IsAt classes c row = slice_get classes c ≡ Some row

-- a class that is no interface, and an interface
abbrev pub OfClass : List Class → ℕ → Type 0
OfClass classes c = (row : Class) × IsAt classes c row × (row.is_interface ≡ false)

abbrev pub OfInterface : List Class → ℕ → Type 0
OfInterface classes c = (row : Class) × IsAt classes c row × (row.is_interface ≡ true)

-- Object alone extends nothing, no class is above itself, classes extend classes, and interfaces are what is implemented
pub record AreSorted (classes : List Class) : Type 0 where
  pub top : HasTop classes
  pub acyclic : IsAcyclic classes
  pub among : NamesAmong classes
  pub extends : (c d : ℕ) (row above : Class) → IsAt classes c row → row.above ≡ Some d → IsAt classes d above → above.is_interface ≡ false
  pub implements : (c d : ℕ) (row above : Class) → IsAt classes c row → Contains row.interfaces d → IsAt classes d above → above.is_interface ≡ true
  pub interfaces : (c : ℕ) (row : Class) → IsAt classes c row → row.is_interface ≡ true → row.above ≡ Absent
  pub object : (c : ℕ) (row : Class) → IsAt classes c row → row.is_interface ≡ false → row.above ≡ Absent → c ≡ 0

-- class d is class c, or its superclass, or that one's, and so on
pub data Ascends (classes : List Class) : ℕ → ℕ → Type 0 where
  stays : {c : ℕ} → Ascends classes c c
  rises : {c d e : ℕ} {row : Class} → IsAt classes c row → row.above ≡ Some d → Ascends classes d e → Ascends classes c e

pub same_row : {X : Type 0} (xs : List X) (c : ℕ) (a b : X) → slice_get xs c ≡ Some a → slice_get xs c ≡ Some b → a ≡ b
same_row xs c a b e f = cc

pub row_at : {X : Type 0} (xs : List X) (c : ℕ) → c < length xs → (x : X) × (slice_get xs c ≡ Some x)
row_at xs c lt = elim (slice_get_cases xs c).1 [ inl s ↦ (s.0, s.2) | inr past ↦ absurd (let le : length xs ≤ c = past.0 in omega arith) ]

-- what a class extends, and what it implements
pub named_directly : (classes : List Class) (c d : ℕ) (row : Class) → IsAt classes c row → Contains (direct_supertypes classes c) d → (row.above ≡ Some d) ⊎ Contains row.interfaces d
unfolding direct_supertypes
named_directly classes c d row at h =
    elim (Contains-append_cases (option_to_list row.above) row.interfaces d (let P : List ℕ → Type 0 = λ ds. Contains ds d in subst P (ap named_above at) h)) [
      | inl x ↦ inl (only row.above x)
      | inr y ↦ inr y
    ]
  where
    only : (o : Option ℕ) → Contains (option_to_list o) d → o ≡ Some d
    only Absent (k, lt, is) = absurd (omega arith)
    only (Some x) (zero, lt, is) = ap Some is
    only (Some x) (suc k, lt, is) = absurd (omega arith)

pub superclass_named : (classes : List Class) (c d : ℕ) (row : Class) → IsAt classes c row → row.above ≡ Some d → Contains (direct_supertypes classes c) d
unfolding direct_supertypes
superclass_named classes c d row at e =
    let P : List ℕ → Type 0 = λ ds. Contains ds d in
    subst P (sym (ap named_above at)) (Contains-append_left (option_to_list row.above) row.interfaces d (subst P (ap option_to_list (sym e)) (0, omega arith, refl)))

pub above_ascending : (classes : List Class) {c d : ℕ} → Ascends classes c d → Supertype classes c d
above_ascending classes stays = itself
above_ascending classes (rises {c} {d} {e} {row} at is way) = further (superclass_named classes c d row at is) (above_ascending classes way)

-- one step of the way, or none
pub one_step_up : (classes : List Class) {c e : ℕ} → Ascends classes c e → (c ≡ e) ⊎ ((d : ℕ) × (row : Class) × IsAt classes c row × (row.above ≡ Some d) × Ascends classes d e)
one_step_up classes stays = inl refl
one_step_up classes (rises {c} {d} {e} {row} at is way) = inr (d, row, at, is, way)

module _ (classes : List Class) (sorted : AreSorted classes) where
  row_above : (c d : ℕ) → Contains (direct_supertypes classes c) d → (row : Class) × IsAt classes d row
  row_above c d h = row_at classes d (sorted.among c d h)

  above_interfaces : {c d : ℕ} → Supertype classes c d → OfInterface classes c → OfInterface classes d
  above_interfaces itself i = i
  above_interfaces (further {c} {d} {e} h s) (row, at, is) =
      above_interfaces s
      (let up = row_above c d h in
      elim (named_directly classes c d row at h) [
        | inl extended ↦ absurd (let none : row.above ≡ Absent = sorted.interfaces c row at is in cc)
        | inr implemented ↦ (up.0, up.1, sorted.implements c d row up.0 at implemented up.1)
      ])

  not_both : (c : ℕ) → OfClass classes c → OfInterface classes c → ⊥
  not_both c (a, at, is) (b, there, are) = let same : a ≡ b = same_row classes c a b at there in cc

  -- a class above a class is on its chain
  pub on_chain : {c d : ℕ} → Supertype classes c d → OfClass classes c → OfClass classes d → Ascends classes c d
  on_chain itself class above = stays
  on_chain (further {c} {d} {e} h s) (row, at, is) above =
      let up = row_above c d h in
      elim (named_directly classes c d row at h) [
        | inl extended ↦ rises at extended (on_chain s (up.0, up.1, sorted.extends c d row up.0 at extended up.1) above)
        | inr implemented ↦ absurd (not_both e above (above_interfaces s (up.0, up.1, sorted.implements c d row up.0 at implemented up.1)))
      ]

  pub class_ascending : {c d : ℕ} → Ascends classes c d → OfClass classes c → OfClass classes d
  class_ascending stays class = class
  class_ascending (rises {c} {d} {e} {row} at is way) class =
      let up = row_above c d (superclass_named classes c d row at is) in
      class_ascending way (up.0, up.1, sorted.extends c d row up.0 at is up.1)

  pub below_ascending : {c d : ℕ} → Ascends classes c d → Below classes (class_type c) (class_type d)
  below_ascending {c} {d} way = class_arrays_below classes c d 0 (above_ascending classes way)

  -- what a class is below, where it is a class, is Object or on its chain
  pub object_or_on_chain : (c d : ℕ) → Below classes (class_type c) (class_type d) → OfClass classes c → OfClass classes d → (d ≡ 0) ⊎ Ascends classes c d
  object_or_on_chain c d below class above =
      elim (class_below_class classes c d 0 (straight classes sorted.top below)) [ inl e ↦ inl e | inr s ↦ inr (on_chain s class above) ]

-- the rule's words for a class that is no interface
pub of_class : (classes : List Class) (c : ℕ) → IsClass classes c → OfClass classes c
of_class classes c h = by (slice_get classes c) refl h
  where
    by : (o : Option Class) → slice_get classes c ≡ o → MatchOption o ⊥ (λ k. k.is_interface ≡ false) → OfClass classes c
    by Absent e h = absurd h
    by (Some row) e h = (row, e, h)

pub is_class : (classes : List Class) (c : ℕ) → OfClass classes c → IsClass classes c
is_class classes c (row, at, is) = let P : Option Class → Type 0 = λ o. MatchOption o ⊥ (λ (k : Class). k.is_interface ≡ false) in subst P (sym at) is
