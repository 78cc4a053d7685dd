-- The search for a common superclass, step by step.
use Rattle.std.proofs.Common.{◌≡◌, ℕ, zero, suc, ◌-◌, ◌<◌, ◌≤◌, true, false, sym, ap, ◌∙◌, refl, cond, Option, Some, None, arith}
use Rattle.std.specs.Prelude.{option_and_then}
use Rattle.wy_kernel.specs.declared.types.Ty.{Ty}
use Rattle.wy_kernel.specs.Subtyping.{class_type, object_type}
use Rattle.wy_kernel.specs.Table.{Table}
use Rattle.wy_elab_expr.specs.Operators.{Judgement, class_of, nearest_above}

step : (n : ℕ) (j : Judgement) (t : Table) (c : ℕ) (other : Ty) → 0 < n →
    nearest_above j t n (Some c) other ≡ cond (j.below other (class_type c)) (class_type c) (nearest_above j t (n - 1) (option_and_then (λ k. k.above) (class_of t c)) other)
unfolding nearest_above
step zero j t c other h = absurd (omega (arith, h))
step (suc n) j t c other h =
    let e : n ≡ suc n - 1 = omega arith in
    ap (λ m. cond (j.below other (class_type c)) (class_type c) (nearest_above j t m (option_and_then (λ k. k.above) (class_of t c)) other)) e

none_above : (n : ℕ) (j : Judgement) (t : Table) (other : Ty) → nearest_above j t n None other ≡ object_type
unfolding nearest_above
none_above zero j t other = refl
none_above (suc n) j t other = refl

pub near_here : (n : ℕ) (j : Judgement) (t : Table) (c : ℕ) (other r : Ty) → 0 < n → true ≡ j.below other (class_type c) →
    r ≡ nearest_above j t n (Some c) other → class_type c ≡ r
near_here n j t c other r h b e = sym (e ∙ step n j t c other h ∙ ap (λ z. cond z (class_type c) (nearest_above j t (n - 1) (option_and_then (λ k. k.above) (class_of t c)) other)) (sym b))

behind : (n : ℕ) (j : Judgement) (t : Table) (c : ℕ) (other r : Ty) → 0 < n → false ≡ j.below other (class_type c) →
    r ≡ nearest_above j t n (Some c) other → r ≡ nearest_above j t (n - 1) (option_and_then (λ k. k.above) (class_of t c)) other
behind n j t c other r h b e = e ∙ step n j t c other h ∙ ap (λ z. cond z (class_type c) (nearest_above j t (n - 1) (option_and_then (λ k. k.above) (class_of t c)) other)) (sym b)

pub near_further : (n : ℕ) (j : Judgement) (t : Table) (c a : ℕ) (other r : Ty) → 0 < n → false ≡ j.below other (class_type c) →
    Some a ≡ option_and_then (λ k. k.above) (class_of t c) → r ≡ nearest_above j t n (Some c) other → r ≡ nearest_above j t (n - 1) (Some a) other
near_further n j t c a other r h b s e = behind n j t c other r h b e ∙ ap (λ o. nearest_above j t (n - 1) o other) (sym s)

pub near_none : (n : ℕ) (j : Judgement) (t : Table) (c : ℕ) (other r : Ty) → 0 < n → false ≡ j.below other (class_type c) →
    None ≡ option_and_then (λ k. k.above) (class_of t c) → r ≡ nearest_above j t n (Some c) other → object_type ≡ r
near_none n j t c other r h b s e = sym (behind n j t c other r h b e ∙ ap (λ o. nearest_above j t (n - 1) o other) (sym s) ∙ none_above (n - 1) j t other)

pub near_end : (n : ℕ) (j : Judgement) (t : Table) (c : Option ℕ) (other r : Ty) → n ≤ 0 → r ≡ nearest_above j t n c other → object_type ≡ r
unfolding nearest_above
near_end zero j t c other r h e = sym e
near_end (suc n) j t c other r h e = absurd (omega (arith, h))
