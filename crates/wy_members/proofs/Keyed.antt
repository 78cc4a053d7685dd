-- Which keys stand before a place of a list.
use Rattle.std.proofs.Common.{◌≡◌, ℕ, ◌+◌, ◌<◌, Bool, true, false, cond, not, ◌&&◌, List, refl, sym, ◌∙◌, ap, arith, IsTrue, ◌↔◌, Option, Some, None, below_more, rules}
use Rattle.std.specs.Prelude.{slice_get}
use Rattle.std.specs.Bool.{Decides}
use Rattle.std.specs.Option.{option_eq}
use Rattle.std.specs.Cmp.Lexicographic.{pointwise}
use lib.Dec.{eqb}
use Rattle.std.proofs.lemmas.Bool.Decides.{Decides-eqb}
use Rattle.std.proofs.lemmas.Option.{same_Some}
use Rattle.std.proofs.lemmas.Slice.Eq.{bytes_eq-Decides, slice_eq-Decides}
use Rattle.wy_kernel.specs.declared.types.Ty.{Ty}
use Rattle.wy_kernel.specs.contracts.types.TyPartialEq.TheImpl as types
use Rattle.wy_members.specs.declared.broken.key.Key as memory
use Rattle.wy_members.specs.contracts.broken.key.KeyPartialEq.TheImpl.{eq-value}
use Rattle.wy_members.specs.Keys.{Key, key_of}
use Rattle.wy_members.specs.Least.{RepeatsEarlier}

class_equal : (a b : Option ℕ) → IsTrue (option_eq eqb a b) ↔ (a ≡ b)
class_equal None None = (λ t. refl, λ e. refl)
class_equal None (Some b) = (λ t. absurd (cc), λ e. absurd (cc))
class_equal (Some a) None = (λ t. absurd (cc), λ e. absurd (cc))
class_equal (Some a) (Some b) = (λ t. ap Some ((Decides-eqb a b).0 t), λ e. (Decides-eqb a b).1 (same_Some _ _ e))

types_decided : (a b : Ty) → Decides (types.eq-value.it a b) (a ≡ b)
types_decided a b = search rules

first_of : (a b : Bool) → (a && b) ≡ true → a ≡ true
first_of true b e = refl
first_of false b e = absurd (cc)

second_of : (a b : Bool) → (a && b) ≡ true → b ≡ true
second_of true b e = e
second_of false b e = absurd (cc)

both : (a b : Bool) → a ≡ true → b ≡ true → (a && b) ≡ true
both true b e f = f
both false b e f = absurd (cc)

with_parts : Option ℕ → List ℕ → List Ty → Key
with_parts class name params = record { class = class; name = name; params = params }

same_keys : {a b : Option ℕ} {m n : List ℕ} {p q : List Ty} → a ≡ b → m ≡ n → p ≡ q → with_parts a m p ≡ with_parts b n q
same_keys e f g = cc

key_equal : (a b : memory.Key) → IsTrue (eq-value.it a b) ↔ (key_of a ≡ key_of b)
unfolding with_parts
key_equal a b =
    let classes = class_equal a.class b.class in
    let names = bytes_eq-Decides a.name.now b.name.now in
    let params = slice_eq-Decides types_decided a.params.now b.params.now (pointwise types.eq-value.it a.params.now b.params.now) refl in (
      λ t. same_keys (classes.0 (first_of _ _ t)) (names.0 (first_of _ _ (second_of _ _ t))) (params.0 (second_of _ _ (second_of _ _ t))),
      λ e. both _ _ (classes.1 (ap (λ (k : Key). k.class) e)) (both _ _ (names.1 (ap (λ (k : Key). k.name) e)) (params.1 (ap (λ (k : Key). k.params) e))),
    )

-- an element before place n shares this key
abbrev pub HasEarlier : {X : Type 0} → (X → Key) → List X → ℕ → Key → Type 0
HasEarlier {X} shared xs n key = (i : ℕ) × (a : X) × (i < n) × (slice_get xs i ≡ Some a) × (shared a ≡ key)

pub none_before : {X : Type 0} (shared : X → Key) (xs : List X) (b : Bool) (key : Key) → b ≡ false → IsTrue b ↔ HasEarlier shared xs 0 key
none_before shared xs b key e = (λ t. absurd (differ (sym e ∙ t)), λ h. (let lt : h.0 < 0 = h.2 in absurd (omega arith)))
  where
    differ : false ≡ true → ⊥
    differ h = cc

module _ {X : Type 0} (shared : X → Key) (xs : List X) (n : ℕ) (x : X) (k : memory.Key) (at : slice_get xs n ≡ Some x) (is : key_of k ≡ shared x) where
  pub one_key_more : (q : memory.Key) (old new : Bool) → new ≡ cond (eq-value.it k q) true old → IsTrue old ↔ HasEarlier shared xs n (key_of q) → IsTrue new ↔ HasEarlier shared xs (n + 1) (key_of q)
  one_key_more q old new e before = by_key (eq-value.it k q) refl
    where
      by_key : (b : Bool) → eq-value.it k q ≡ b → IsTrue new ↔ HasEarlier shared xs (n + 1) (key_of q)
      by_key true same = (
        λ t. (n, x, omega arith, at, sym is ∙ (key_equal k q).0 same),
        λ h. e ∙ ap (λ b. cond b true old) same,
      )
      by_key false other = (
        λ t. let h = before.0 (sym (e ∙ ap (λ b. cond b true old) other) ∙ t) in (h.0, h.1, (let lt : h.0 < n = h.2 in omega arith), h.3, h.4),
        λ h. e ∙ ap (λ b. cond b true old) other ∙ before.1 (lower h),
      )
        where
          differ : false ≡ true → ⊥
          differ h = cc

          lower : HasEarlier shared xs (n + 1) (key_of q) → HasEarlier shared xs n (key_of q)
          lower (i, a, less, there, shares) =
              let Q : ℕ → Type 0 = λ j. (z : X) → slice_get xs j ≡ Some z → shared z ≡ key_of q → HasEarlier shared xs n (key_of q) in
              below_more Q n (λ j lt z there shares. (j, z, lt, there, shares))
              (λ z there shares. absurd (differ (sym other ∙ (key_equal k q).1 (is ∙ ap shared (same_Some _ _ (sym at ∙ there)) ∙ shares))))
              i less a there shares

  pub is_again : (same : X → X → Type 0) → ((a b : X) → same a b ↔ (shared a ≡ shared b)) → (old added : Bool) → added ≡ not old → IsTrue old ↔ HasEarlier shared xs n (key_of k) →
      IsTrue (not added) ↔ RepeatsEarlier same xs n x
  is_again same exact old added e before = (
    λ t. let h = before.0 (twice old added e t) in (h.0, h.1, h.2, h.3, (exact h.1 x).1 (h.4 ∙ is)),
    λ (i, a, less, there, s). once old added e (before.1 (i, a, less, there, (exact a x).0 s ∙ sym is)),
  )
    where
      twice : (old added : Bool) → added ≡ not old → IsTrue (not added) → IsTrue old
      twice true added e t = refl
      twice false true e t = t
      twice false false e t = e

      once : (old added : Bool) → added ≡ not old → IsTrue old → IsTrue (not added)
      once true false e t = refl
      once true true e t = sym e
      once false added e t = cc
