-- The classes that may receive calls, while they are gone through, and what they run.
use Rattle.std.proofs.Common.{◌≡◌, ℕ, eqb, Bool, true, false, cond, Option, Some, Vec, ◌+◌, ◌<◌, ◌≤◌, List, [], ◌∷◌, ◌++◌, length, map, refl, sym, ◌∙◌, subst, inl, inr, ⊎_elim, ◌⊎◌, ◌↔◌, arith}
use Rattle.std.proofs.lemmas.Bool.{cases_lt}
use Rattle.std.specs.Prelude.{nat_eq}
use Rattle.std.specs.BTreeMap.{BTreeMap, get}
use Rattle.std.specs.declared.alloc.Global.{Global}
use Rattle.std.specs.declared.cmp.Ordering.{Ordering}
use Rattle.std.specs.declared.cmp.Ordering.TheVariants.{Less, Equal, Greater}
use Rattle.std.specs.Ordering.{is_eq}
use Rattle.std.specs.List.{Contains, dedup, flat_map}
use Rattle.std.specs.List.Sorted.{IsPermutation}
use Rattle.std.proofs.lemmas.List.Kept.{Contains-dedup_nat, Contains-from_dedup}
use Rattle.std.proofs.lemmas.List.Sorted.{Contains-permutation, IsPermutation-sym}
use Rattle.std.proofs.lemmas.List.Elements.{Contains-append_left, Contains-append_right, Contains-append_cases}
use Rattle.wy_kernel.specs.Program.{Program, dispatch, object_class}
use Rattle.wy_kernel.specs.Subtyping.{Supertype}
use Rattle.wy_kernel.specs.Table.{HasSupertypes}
use Rattle.wy_static.specs.Links.{IsAtOrBelow, MayReceive}
use Rattle.wy_static.specs.Order.{pair_cmp}
use Rattle.wy_static.specs.Rows.{one_if}
use Rattle.wy_static.proofs.Orders.{same_pair}
use Rattle.wy_static.specs.Receivers.{AreTargetsOf}
use Rattle.wy_static.proofs.Contained.{none, alone, first_in, same_in, in_map, of_map, kept_each}

-- those of the first n classes that may receive calls, and those of them under each supertype
pub record SoFar (p : Program) (n : ℕ) (found : List ℕ) (under : ℕ → List ℕ) : Type 0 where
  pub all : (c : ℕ) → Contains found c ↔ ((c < n) × MayReceive p c)
  pub below : (c d : ℕ) → Contains (under d) c ↔ ((c < n) × MayReceive p c × Supertype p.classes c d)

pub begun : (p : Program) (under : ℕ → List ℕ) → ((d : ℕ) → under d ≡ []) → SoFar p 0 [] under
begun p under empty = record {
  all = λ c. (λ h. absurd (none c h), λ h. absurd (omega (arith, h.0)));
  below = λ c d. (λ h. absurd (none c (subst (λ xs. Contains xs c) (empty d) h)), λ h. absurd (omega (arith, h.0)));
}

-- a number below the next is below this one, or is it
next_cases : (c n : ℕ) → c < n + 1 → (c ≡ n) ⊎ (c < n)
next_cases c n h = ⊎_elim (λ (lt : c < n). inr lt) (λ (le : n ≤ c). inl (omega arith)) (cases_lt c n)

pub one_more : (p : Program) (n : ℕ) (found new : List ℕ) (under now : ℕ → List ℕ) (row : List ℕ) → SoFar p n found under → MayReceive p n → HasSupertypes p.classes n row → new ≡ found ++ n ∷ [] → ((q : ℕ) → now q ≡ under q ++ flat_map (λ d. one_if (nat_eq d q) n) row) → SoFar p (n + 1) new now
one_more p n found new under now row so may has grown put = record {
  all = λ c. (
    λ h. ⊎_elim
        (λ a. let is = (so.all c).0 a in (omega (arith, is.0), is.1))
        (λ b. let is = alone n c b in (omega (arith, is), subst (λ x. MayReceive p x) (sym is) may))
        (Contains-append_cases found (n ∷ []) c (subst (λ xs. Contains xs c) grown h)),
    λ h. subst (λ xs. Contains xs c) (sym grown) (⊎_elim
        (λ e. Contains-append_right found (n ∷ []) c (same_in (n ∷ []) n c (sym e) (first_in n [])))
        (λ lt. Contains-append_left found (n ∷ []) c ((so.all c).1 (lt, h.1)))
        (next_cases c n h.0)),
  );
  below = λ c d.
      let each = kept_each n d c row in (
        λ h. ⊎_elim
            (λ a. let is = (so.below c d).0 a in (omega (arith, is.0), is.1, is.2))
            (λ b. let is = each.0 b in (omega (arith, is.0), subst (λ x. MayReceive p x) (sym is.0) may, subst (λ x. Supertype p.classes x d) (sym is.0) ((has.exact d).0 is.1)))
            (Contains-append_cases (under d) (flat_map (λ e. one_if (nat_eq e d) n) row) c (subst (λ xs. Contains xs c) (put d) h)),
        λ h. subst (λ xs. Contains xs c) (sym (put d)) (⊎_elim
            (λ e. Contains-append_right (under d) (flat_map (λ e. one_if (nat_eq e d) n) row) c (each.1 (e, (has.exact d).1 (subst (λ x. Supertype p.classes x d) e h.2))))
            (λ lt. Contains-append_left (under d) (flat_map (λ e. one_if (nat_eq e d) n) row) c ((so.below c d).1 (lt, h.1, h.2)))
            (next_cases c n h.0)),
      );
}

pub left_out : (p : Program) (n : ℕ) (found : List ℕ) (under : ℕ → List ℕ) → SoFar p n found under → (MayReceive p n → ⊥) → SoFar p (n + 1) found under
left_out p n found under so not = record {
  all = λ c. (
    λ h. let is = (so.all c).0 h in (omega (arith, is.0), is.1),
    λ h. ⊎_elim (λ e. absurd (not (subst (λ x. MayReceive p x) e h.1))) (λ lt. (so.all c).1 (lt, h.1)) (next_cases c n h.0),
  );
  below = λ c d. (
    λ h. let is = (so.below c d).0 h in (omega (arith, is.0), is.1, is.2),
    λ h. ⊎_elim (λ e. absurd (not (subst (λ x. MayReceive p x) e h.1))) (λ lt. (so.below c d).1 (lt, h.1, h.2)) (next_cases c n h.0),
  );
}

pub all_found : (p : Program) (n : ℕ) (found : List ℕ) (under : ℕ → List ℕ) → SoFar p n found under → length p.classes ≤ n → (c : ℕ) → Contains found c ↔ MayReceive p c
all_found p n found under so past c = (
  λ h. ((so.all c).0 h).1,
  λ h. (so.all c).1 (omega (arith, h.there), h),
)

pub all_under : (p : Program) (n : ℕ) (found : List ℕ) (under : ℕ → List ℕ) → SoFar p n found under → length p.classes ≤ n → (c d : ℕ) → Contains (under d) c ↔ (MayReceive p c × Supertype p.classes c d)
all_under p n found under so past c d = (
  λ h. let is = (so.below c d).0 h in (is.1, is.2),
  λ h. (so.below c d).1 (omega (arith, h.0.there), h.0, h.1),
)

-- ---- the methods that receivers run

pub targets_from : (p : Program) (m d : ℕ) (receivers methods : List ℕ) → ((c : ℕ) → Contains receivers c ↔ (MayReceive p c × IsAtOrBelow p c d)) → ((n : ℕ) → Contains methods n ↔ Contains (map (dispatch p m) receivers) n) → AreTargetsOf p m d methods
targets_from p m d receivers methods below run n = (
  λ h. let r = of_map (dispatch p m) receivers n ((run n).0 h) in
      let is = (below r.0).0 r.1 in
      record { receiver = r.0; may = is.0; below = is.1; runs = r.2 },
  λ t. (run n).1 (same_in (map (dispatch p m) receivers) (dispatch p m t.receiver) n (sym t.runs) (in_map (dispatch p m) receivers t.receiver ((below t.receiver).1 (t.may, t.below)))),
)

-- a list that was put in order and freed of repeats
pub settled : (made sorted new whole : List ℕ) → made ≡ whole → IsPermutation made sorted → new ≡ dedup eqb sorted → (n : ℕ) → Contains new n ↔ Contains whole n
settled made sorted new whole all moved is n = (
  λ h. subst (λ xs. Contains xs n) all (Contains-permutation sorted made n (IsPermutation-sym made sorted moved) (Contains-from_dedup eqb sorted n (subst (λ xs. Contains xs n) is h))),
  λ h. subst (λ xs. Contains xs n) (sym is) (Contains-dedup_nat sorted n (Contains-permutation made sorted n moved (subst (λ xs. Contains xs n) (sym all) h))),
)

-- ---- the classes at or below a class

pub below_object : (p : Program) (d : ℕ) (found : List ℕ) → d ≡ object_class → ((c : ℕ) → Contains found c ↔ MayReceive p c) → (c : ℕ) → Contains found c ↔ (MayReceive p c × IsAtOrBelow p c d)
below_object p d found top all c = (λ h. ((all c).0 h, inl top), λ h. (all c).1 h.0)

pub below_another : (p : Program) (d : ℕ) (found : List ℕ) → (d ≡ object_class → ⊥) → ((c : ℕ) → Contains found c ↔ (MayReceive p c × Supertype p.classes c d)) → (c : ℕ) → Contains found c ↔ (MayReceive p c × IsAtOrBelow p c d)
below_another p d found other all c = (
  λ h. let is = (all c).0 h in (is.0, inr is.1),
  λ h. (all c).1 (h.0, ⊎_elim (λ e. absurd (other e)) (λ s. s) h.1),
)

-- ---- one call more

abbrev pub Found : Program → BTreeMap (ℕ × ℕ) (Vec ℕ Global) → Type 0
Found p found = (m d : ℕ) (ns : Vec ℕ Global) → get pair_cmp found (m, d) ≡ Some ns → AreTargetsOf p m d ns.items

equal_by : (o : Ordering) → is_eq o ≡ true → o ≡ Equal
equal_by Less e = cc
equal_by Equal e = refl
equal_by Greater e = cc

by_test : (p : Program) (m d m' d' : ℕ) (methods ns : Vec ℕ Global) (other : Option (Vec ℕ Global)) (b : Bool) → is_eq (pair_cmp (m, d) (m', d')) ≡ b → cond b (Some methods) other ≡ Some ns → AreTargetsOf p m d methods.items → (other ≡ Some ns → AreTargetsOf p m' d' ns.items) → AreTargetsOf p m' d' ns.items
by_test p m d m' d' methods ns other true same is targets old =
    let both = same_pair (m, d) (m', d') (equal_by (pair_cmp (m, d) (m', d')) same) in
    let values : methods ≡ ns = cc in
    subst (λ (x : (ℕ × ℕ) × Vec ℕ Global). AreTargetsOf p x.0.0 x.0.1 x.1.items) (λ i. (both i, values i)) targets
by_test p m d m' d' methods ns other false same is targets old = old is

pub found_more : (p : Program) (m d : ℕ) (old new : BTreeMap (ℕ × ℕ) (Vec ℕ Global)) (methods : Vec ℕ Global) → Found p old → ((q : ℕ × ℕ) → get pair_cmp new q ≡ cond (is_eq (pair_cmp (m, d) q)) (Some methods) (get pair_cmp old q)) → AreTargetsOf p m d methods.items → Found p new
found_more p m d old new methods so put targets m' d' ns h = by_test p m d m' d' methods ns (get pair_cmp old (m', d')) (is_eq (pair_cmp (m, d) (m', d'))) refl (sym (put (m', d')) ∙ h) targets (λ e. so m' d' ns e)
