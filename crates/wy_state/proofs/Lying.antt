-- What lies below a class, and below a type.
use Rattle.std.proofs.Common.{◌≡◌, ◌≢◌, ◌<◌, ℕ, suc, zero, length, Bool, true, false, refl, arith, inl, inr}
use Rattle.std.specs.Prelude.{◌||◌, ◌==◌}
use Rattle.std.proofs.lemmas.Bool.Decides.{eqb_tells}
use Rattle.wy_kernel.specs.declared.types.Base.{Base}
use Rattle.wy_kernel.specs.declared.types.Ty.TheVariants.{Of}
use Rattle.wy_kernel.specs.Program.{Class, Program, base_below, brackets_below, class, class_below, is_above, is_below, is_object, is_one_of, is_subclass}

or_false : (a o x y : Bool) → o ≡ false → a || o || x || y ≡ a || (x || y)
or_false true false x y is = over x y
  where
    over : (x y : Bool) → true || false || x || y ≡ true || (x || y)
    over true true = refl
    over true false = refl
    over false true = refl
    over false false = refl
or_false false false x y is = over x y
  where
    over : (x y : Bool) → false || false || x || y ≡ false || (x || y)
    over true true = refl
    over true false = refl
    over false true = refl
    over false false = refl
or_false a true x y is = cc

or_true : (a o x y : Bool) → o ≡ true → a || o || x || y ≡ true
or_true true true true true is = refl
or_true true true true false is = refl
or_true true true false true is = refl
or_true true true false false is = refl
or_true false true true true is = refl
or_true false true true false is = refl
or_true false true false true is = refl
or_true false true false false is = refl
or_true a false x y is = cc

-- by what stands right above a class
unfoldable pub rises : (ℕ → Bool) → Class → Bool
rises f c = is_above f c.above || is_one_of f c.interfaces

pub round : (p : Program) (k c d : ℕ) → d ≢ 0 → class_below p (suc k) c d ≡ c == d || rises (λ e. class_below p k e d) (class p c)
unfolding class_below rises
round p k c d other = elim (eqb_tells d 0) as (λ _. class_below p (suc k) c d ≡ c == d || rises (λ e. class_below p k e d) (class p c)) [
  | inl same ↦ absurd (other same.1)
  | inr differ ↦ or_false (c == d) (d == 0) (is_above (λ e. class_below p k e d) (class p c).above) (is_one_of (λ e. class_below p k e d) (class p c).interfaces) differ.0
]

pub object_is_above : (p : Program) (c d : ℕ) → d ≡ 0 → is_subclass p c d ≡ true
unfolding is_subclass class_below
object_is_above p c d is = or_true (c == d) (d == 0) (is_above (λ e. class_below p (length p.classes) e d) (class p c).above) (is_one_of (λ e. class_below p (length p.classes) e d) (class p c).interfaces) (rw is refl)

-- ---- arrays

pub more_brackets : (p : Program) (a b : Base) (m n : ℕ) → n < m → is_below p (Of a m) (Of b n) ≡ is_object b
unfolding is_below brackets_below
more_brackets p a b zero n more = absurd (omega (arith, more))
more_brackets p a b (suc m) zero more = refl
more_brackets p a b (suc m) (suc n) more = more_brackets p a b m n (omega (arith, more))

pub fewer_brackets : (p : Program) (a b : Base) (m n : ℕ) → m < n → is_below p (Of a m) (Of b n) ≡ false
unfolding is_below brackets_below
fewer_brackets p a b m zero fewer = absurd (omega (arith, fewer))
fewer_brackets p a b zero (suc n) fewer = refl
fewer_brackets p a b (suc m) (suc n) fewer = fewer_brackets p a b m n (omega (arith, fewer))

pub as_many_brackets : (p : Program) (a b : Base) (m : ℕ) → is_below p (Of a m) (Of b m) ≡ base_below p a b
unfolding is_below brackets_below
as_many_brackets p a b zero = refl
as_many_brackets p a b (suc m) = as_many_brackets p a b m
