-- Lists of types, compared place by place.
use Rattle.std.proofs.Common.{◌≡◌, ℕ, zero, suc, ◌<◌, Bool, true, false, ◌&&◌, List, [], ◌∷◌, length, refl, ap, subst, arith, get_or, IsTrue, ◌↔◌, rules}
use lib.Pointwise.{pointwise}
use Rattle.wy_kernel.specs.declared.types.Ty.{Ty}
use Rattle.wy_kernel.specs.declared.types.Ty.TheVariants.{Void}
use Rattle.wy_kernel.specs.contracts.types.TyPartialEq.TheImpl.{eq-value}
use Rattle.wy_kernel.specs.Program.{Class}
use Rattle.wy_kernel.specs.Subtyping.{Below, same}
use Rattle.wy_overloads.specs.Choice.{EachBelow, none, more}

type_equal : (a b : Ty) → IsTrue (eq-value.it a b) ↔ (a ≡ b)
type_equal a b = search rules

and_left : (a b : Bool) → (a && b) ≡ true → a ≡ true
and_left true b e = refl
and_left false b e = absurd (cc)

and_right : (a b : Bool) → (a && b) ≡ true → b ≡ true
and_right true b e = e
and_right false b e = absurd (cc)

and_both : (a b : Bool) → a ≡ true → b ≡ true → (a && b) ≡ true
and_both true b e f = f
and_both false b e f = absurd (cc)

pub types_equal : (a b : List Ty) → IsTrue (pointwise eq-value.it a b) ↔ (a ≡ b)
types_equal [] [] = (λ _. refl, λ _. refl)
types_equal [] (y ∷ ys) = (λ t. cc, λ e. cc)
types_equal (x ∷ xs) [] = (λ t. cc, λ e. cc)
types_equal (x ∷ xs) (y ∷ ys) = (
  λ t. (let e : x ≡ y = (type_equal x y).0 (and_left (eq-value.it x y) _ t) in let f : xs ≡ ys = (types_equal xs ys).0 (and_right (eq-value.it x y) _ t) in cc),
  λ e. and_both (eq-value.it x y) _ ((type_equal x y).1 (cc)) ((types_equal xs ys).1 (cc)),
)

-- ---- lists of which each type is below the one at its place

pub as_long : (classes : List Class) {a b : List Ty} → EachBelow classes a b → length a ≡ length b
as_long classes none = refl
as_long classes (more {a} {b} {rest} {others} h s) = ap suc (as_long classes s)

pub below_at : (classes : List Class) {a b : List Ty} → EachBelow classes a b → (k : ℕ) → k < length a → Below classes (get_or a k Void) (get_or b k Void)
below_at classes none k lt = absurd (omega arith)
below_at classes (more h s) zero lt = h
below_at classes (more {a} {b} {rest} {others} h s) (suc k) lt = below_at classes s k (omega arith)

pub each_below : (classes : List Class) (a b : List Ty) → length a ≡ length b → ((k : ℕ) → k < length a → Below classes (get_or a k Void) (get_or b k Void)) → EachBelow classes a b
each_below classes [] [] e h = none
each_below classes [] (y ∷ ys) e h = absurd (cc)
each_below classes (x ∷ xs) [] e h = absurd (cc)
each_below classes (x ∷ xs) (y ∷ ys) e h = more (h 0 (omega arith)) (each_below classes xs ys (cc) (λ k lt. h (suc k) (omega arith)))

pub each_below_self : (classes : List Class) (a b : List Ty) → a ≡ b → EachBelow classes a b
each_below_self classes a b e = let P : List Ty → Type 0 = λ x. EachBelow classes a x in subst P e (itself a)
  where
    itself : (a : List Ty) → EachBelow classes a a
    itself [] = none
    itself (x ∷ xs) = more same (itself xs)
