-- The classes of the library, six after six, and the constructors of its exceptions, one class after another.
use Rattle.std.proofs.Common.{◌≡◌, ℕ, suc, ◌≤◌, ◌+◌, ◌-◌, List, [], ◌∷◌, ◌++◌, append_assoc, drop, take, refl, sym, ◌∙◌, ap, arith}
use Rattle.std.specs.Prelude.{map}
use Rattle.std.proofs.lemmas.List.{map-append}
use Rattle.wy_kernel.specs.declared.types.Method.{Method}
use Rattle.wy_kernel.specs.declared.types.Class.{Class}
use Rattle.wy_kernel.specs.View.{class_of, method_of}
use Rattle.wy_kernel.specs.Program as parts
use Rattle.wy_kernel.specs.Builtin.{classes, first_constructor, constructor, constructors, all_constructors, text}
use Rattle.wy_kernel.proofs.Indexed.{beside}

-- the methods of one class more
pub with_two : (front : List parts.Method) (xs ys zs : List Method) (a b : Method) (c : ℕ) → 3 ≤ c → ys ≡ xs ++ a ∷ [] → zs ≡ ys ++ b ∷ [] → map method_of xs ≡ front ++ all_constructors (c - 3) →
    method_of a ≡ constructor (first_constructor c) c [] → method_of b ≡ constructor (first_constructor c + 1) c (text ∷ []) → map method_of zs ≡ front ++ all_constructors (c + 1 - 3)
with_two front xs ys zs a b c le e f h i j =
    let next : c + 1 - 3 ≡ suc (c - 3) = omega arith in
    let this : 3 + (c - 3) ≡ c = omega arith in
    ap (map method_of) (f ∙ ap (λ w. w ++ b ∷ []) e ∙ append_assoc xs (a ∷ []) (b ∷ []))
    ∙ map-append method_of xs (a ∷ b ∷ [])
    ∙ ap (λ w. w ++ (method_of a ∷ method_of b ∷ [])) h
    ∙ ap (λ w. (front ++ all_constructors (c - 3)) ++ w) (beside i (beside j refl))
    ∙ append_assoc front (all_constructors (c - 3)) (constructors c)
    ∙ ap (λ n. front ++ (all_constructors (c - 3) ++ constructors n)) (sym this)
    ∙ ap (λ n. front ++ all_constructors n) (sym next)

-- ---- classes

pub class_behind : (xs ys : List Class) (k : Class) (c : parts.Class) → ys ≡ xs ++ k ∷ [] → class_of k ≡ c → map class_of ys ≡ map class_of xs ++ c ∷ []
class_behind xs ys k c e h = ap (map class_of) e ∙ map-append class_of xs (k ∷ []) ∙ ap (λ z. map class_of xs ++ z ∷ []) h

-- six more, one after another
pub six_behind : {A : Type 0} (m0 m1 m2 m3 m4 m5 m6 : List A) (a b c d e f : A) →
    m1 ≡ m0 ++ a ∷ [] → m2 ≡ m1 ++ b ∷ [] → m3 ≡ m2 ++ c ∷ [] → m4 ≡ m3 ++ d ∷ [] → m5 ≡ m4 ++ e ∷ [] → m6 ≡ m5 ++ f ∷ [] → m6 ≡ m0 ++ a ∷ b ∷ c ∷ d ∷ e ∷ f ∷ []
six_behind m0 m1 m2 m3 m4 m5 m6 a b c d e f p q r s t u = rw (u, t, s, r, q, p) (simp append_assoc)

pub by_six : (m0 m1 m2 m3 : List parts.Class) → m0 ≡ [] → m1 ≡ m0 ++ take 6 classes → m2 ≡ m1 ++ take 6 (drop 6 classes) → m3 ≡ m2 ++ drop 12 classes → m3 ≡ classes
unfolding classes
by_six m0 m1 m2 m3 p q r s = rw (s, r, q, p) refl
