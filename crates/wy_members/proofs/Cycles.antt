-- Whether a class is above itself, by what it names; and which classes are judged.
use Rattle.std.proofs.Common.{◌≡◌, ℕ, ◌+◌, ◌<◌, ◌≤◌, Bool, List, [], ◌∷◌, ◌++◌, ⊎_elim, length, Some, sym, ◌∙◌, ap, subst, arith, inl, inr, IsTrue, ◌↔◌, get_or}
use Rattle.std.specs.Prelude.{slice_get}
use Rattle.std.specs.List.{Contains}
use Rattle.std.specs.Option.{option_to_list}
use Rattle.std.proofs.lemmas.List.Elements.{Contains-append_left, Contains-append_right, Contains-append_cases, Contains-push, Contains-push_cases}
use Rattle.std.proofs.lemmas.Bool.{cases_eq, cases_lt}
use Rattle.std.proofs.lemmas.Option.{slice_get-get_or}
use Rattle.wy_kernel.specs.Program.{Class}
use Rattle.wy_kernel.specs.Subtyping.{direct_supertypes, named_above, Supertype}
use Rattle.wy_members.specs.Broken.{IsAboveItself}
use Rattle.wy_members.specs.Within.{AreCyclic, IsJudgedIn}
use Rattle.wy_overloads.proofs.Related.{none_above}

-- one of these is below class c
abbrev pub SomeBelow : List Class → List ℕ → ℕ → Type 0
SomeBelow classes named c = (d : ℕ) × Contains named d × Supertype classes d c

pub above_by_class : (classes : List Class) (c : ℕ) (row : Class) → slice_get classes c ≡ Some row → SomeBelow classes (option_to_list row.above) c → IsAboveItself classes c
unfolding direct_supertypes
above_by_class classes c row there (d, h, s) =
    (d, (let P : List ℕ → Type 0 = λ ds. Contains ds d in subst P (sym (ap named_above there)) (Contains-append_left (option_to_list row.above) row.interfaces d h)), s)

pub above_by_interface : (classes : List Class) (c : ℕ) (row : Class) → slice_get classes c ≡ Some row → SomeBelow classes row.interfaces c → IsAboveItself classes c
unfolding direct_supertypes
above_by_interface classes c row there (d, h, s) =
    (d, (let P : List ℕ → Type 0 = λ ds. Contains ds d in subst P (sym (ap named_above there)) (Contains-append_right (option_to_list row.above) row.interfaces d h)), s)

pub above_by_either : (classes : List Class) (c : ℕ) (row : Class) (r : Bool) → slice_get classes c ≡ Some row → (SomeBelow classes (option_to_list row.above) c → ⊥) → IsTrue r ↔ SomeBelow classes row.interfaces c →
    IsTrue r ↔ IsAboveItself classes c
unfolding direct_supertypes
above_by_either classes c row r there none exact = (
  λ t. above_by_interface classes c row there (exact.0 t),
  λ (d, h, s). (let P : List ℕ → Type 0 = λ ds. Contains ds d in
      elim (Contains-append_cases (option_to_list row.above) row.interfaces d (subst P (ap named_above there) h)) [ inl x ↦ absurd (none (d, x, s)) | inr y ↦ exact.1 (d, y, s) ]),
)

pub not_above_beyond : (classes : List Class) (c : ℕ) → length classes ≤ c → IsAboveItself classes c → ⊥
not_above_beyond classes c le (d, h, s) = none_above classes c d le h

-- what holds of each element of a list holds of each that it contains
pub of_contained : (P : ℕ → Type 0) (xs : List ℕ) (n : ℕ) → length xs ≤ n → ((k : ℕ) → k < n → P (get_or xs k 0)) → (d : ℕ) → Contains xs d → P d
of_contained P xs n le all d (k, lt, e) =
    let found : Some (get_or xs k 0) ≡ Some d = sym (slice_get-get_or xs k 0 lt) ∙ slice_get-get_or xs k d lt ∙ ap Some e in
    let same : get_or xs k 0 ≡ d = cc in
    subst P same (all k (omega arith))

-- ---- the list of the classes that are above themselves, as far as they were gone through

-- the list has those below n
abbrev pub CyclicBelow : List Class → ℕ → List ℕ → Type 0
CyclicBelow classes n cyclic = (d : ℕ) → Contains cyclic d ↔ ((d < n) × IsAboveItself classes d)

pub none_cyclic : (classes : List Class) (cyclic : List ℕ) → cyclic ≡ [] → CyclicBelow classes 0 cyclic
none_cyclic classes cyclic e d =
    (λ (k, lt, is). (let none : length cyclic ≡ 0 = ap length e in absurd (omega arith)), λ (lt, a). absurd (omega arith))

pub one_cyclic : (classes : List Class) (n : ℕ) (cyclic more : List ℕ) → CyclicBelow classes n cyclic → IsAboveItself classes n → more ≡ cyclic ++ n ∷ [] → CyclicBelow classes (n + 1) more
one_cyclic classes n cyclic more before here e d =
    let P : List ℕ → Type 0 = λ xs. Contains xs d in
    let up : Contains (cyclic ++ n ∷ []) d → (d < n + 1) × IsAboveItself classes d =
    λ h. ⊎_elim
    (λ old. (let b = (before d).0 old in (let lt = b.0 in omega arith, b.1)))
    (λ same. (omega arith, let Q : ℕ → Type 0 = λ x. IsAboveItself classes x in subst Q same here))
    (Contains-push_cases cyclic n d h) in
    let down : (d < n + 1) × IsAboveItself classes d → Contains (cyclic ++ n ∷ []) d =
    λ (lt, a). ⊎_elim
    (λ same. (let Q : ℕ → Type 0 = λ x. Contains (cyclic ++ n ∷ []) x in subst Q (sym same) (Contains-push cyclic n)))
    (λ ne. Contains-append_left cyclic (n ∷ []) d ((before d).1 (omega arith, a)))
    (cases_eq d n) in
    (λ h. up (subst P e h), λ p. subst P (sym e) (down p))

pub one_passed : (classes : List Class) (n : ℕ) (cyclic : List ℕ) → CyclicBelow classes n cyclic → (IsAboveItself classes n → ⊥) → CyclicBelow classes (n + 1) cyclic
one_passed classes n cyclic before none d = (
  λ h. (let b = (before d).0 h in (let lt = b.0 in omega arith, b.1)),
  λ (lt, a). (before d).1 (omega (arith, λ (same : d ≡ n). (let Q : ℕ → Type 0 = λ x. IsAboveItself classes x in none (subst Q same a))), a),
)

pub all_cyclic : (classes : List Class) (n : ℕ) (cyclic : List ℕ) → length classes ≤ n → CyclicBelow classes n cyclic → AreCyclic classes cyclic
all_cyclic classes n cyclic all below d = (
  λ h. ((below d).0 h).1,
  λ a. (below d).1 (⊎_elim (λ lt. lt) (λ le. absurd (not_above_beyond classes d (omega arith) a)) (cases_lt d n), a),
)
