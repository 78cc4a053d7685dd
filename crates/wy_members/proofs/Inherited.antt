-- Words for examples of overriding: what holds of each method of a name, and primitive types, which no reference is below.
use Rattle.std.proofs.Common.{◌≡◌, ℕ, zero, suc, ◌+◌, Bool, true, false, List, [], ◌∷◌, Some, ◌∙◌, ap, subst, arith}
use Rattle.std.specs.Prelude.{cond, slice_get}
use Rattle.std.specs.Str.{bytes_eq}
use Rattle.std.specs.List.{AllByRecursion}
use Rattle.std.proofs.lemmas.Slice.Eq.{bytes_eq-Decides}
use Rattle.wy_kernel.specs.declared.operator.Primitive.{Primitive}
use Rattle.wy_kernel.specs.declared.types.Ty.{Ty}
use Rattle.wy_kernel.specs.Program.{Class, Method}
use Rattle.wy_kernel.specs.Subtyping.{IsReference, Below, primitive_type}
use Rattle.wy_overloads.proofs.Straight.{Straight, equal, upward, widening, null, object, array, straight}
use Rattle.wy_overloads.specs.Lineage.{HasTop}

abbrev pub Numbered : Type 0
Numbered = ℕ × Method

-- the methods of a name, each with its place from n on
abbrev pub named_from : ℕ → List ℕ → List Method → List Numbered
named_from n name [] = []
named_from n name (m ∷ rest) = cond (bytes_eq m.name name) ((n, m) ∷ named_from (suc n) name rest) (named_from (suc n) name rest)

abbrev pub Each : (ℕ → Method → Type 0) → List Numbered → Type 0
Each P ms = AllByRecursion (λ (p : Numbered). P p.0 p.1) ms

here : (P : ℕ → Method → Type 0) (n : ℕ) (name : List ℕ) (m : Method) (rest : List Numbered) (b : Bool) → (m.name ≡ name → b ≡ true) → m.name ≡ name → Each P (cond b ((n, m) ∷ rest) rest) → P n m
here P n name m rest true d e all = all.0
here P n name m rest false d e all = let f : false ≡ true = d e in absurd (cc)

later : (P : ℕ → Method → Type 0) (n : ℕ) (m : Method) (rest : List Numbered) (b : Bool) → Each P (cond b ((n, m) ∷ rest) rest) → Each P rest
later P n m rest true all = all.1
later P n m rest false all = all

at_a_place : (P : ℕ → Method → Type 0) (n : ℕ) (name : List ℕ) (ms : List Method) (j : ℕ) (other : Method) → Each P (named_from n name ms) → slice_get ms j ≡ Some other → other.name ≡ name → P (n + j) other
at_a_place P n name [] j other all is named = absurd (cc)
at_a_place P n name (m ∷ rest) zero other all is named =
    let same : m ≡ other = cc in
    let place : n ≡ n + 0 = omega arith in
    let Q : Method → Type 0 = λ x. P n x in
    let R : ℕ → Type 0 = λ k. P k other in
    subst R place (subst Q same (here P n name m (named_from (suc n) name rest) (bytes_eq m.name name) ((bytes_eq-Decides m.name name).1) (ap (λ (x : Method). x.name) same ∙ named) all))
at_a_place P n name (m ∷ rest) (suc j) other all is named =
    let place : suc n + j ≡ n + suc j = omega arith in
    let R : ℕ → Type 0 = λ k. P k other in
    subst R place (at_a_place P (suc n) name rest j other (later P n m (named_from (suc n) name rest) (bytes_eq m.name name) all) is named)

-- what holds of each method of a name in the list holds of each that is found there
pub of_each_named : (P : ℕ → Method → Type 0) (name : List ℕ) (ms : List Method) (j : ℕ) (other : Method) → Each P (named_from 0 name ms) → slice_get ms j ≡ Some other → other.name ≡ name → P j other
of_each_named P name ms j other all is named =
    let place : 0 + j ≡ j = omega arith in
    let R : ℕ → Type 0 = λ k. P k other in
    subst R place (at_a_place P 0 name ms j other all is named)

reference_above : (classes : List Class) {a b : Ty} → Straight classes a b → IsReference a → IsReference b
reference_above classes equal r = r
reference_above classes (upward s) r = tt
reference_above classes (widening w) r = absurd r
reference_above classes (null n) r = absurd r
reference_above classes object r = tt
reference_above classes (array lt) r = tt

pub no_reference_below : (classes : List Class) (a : Ty) (p : Primitive) → HasTop classes → IsReference a → Below classes a (primitive_type p) → ⊥
no_reference_below classes a p top r below = reference_above classes (straight classes top below) r
