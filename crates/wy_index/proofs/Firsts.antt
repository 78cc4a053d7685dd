-- The first event that is kept under a number.
use Rattle.std.proofs.Common.{◌≡◌, ℕ, Bool, true, false, cond, Option, Some, None, refl, sym, ap, ◌∙◌, ⊎_elim, ◌⊎◌, inl, inr, eq-eqb, ne_eqb}
use Rattle.std.specs.Prelude.{nat_eq, if◌then◌else◌, is_some}
use Rattle.std.specs.Ordering.{nat_cmp, is_eq}
use Rattle.std.proofs.lemmas.Bool.{cases_eq, false≢true}
use Rattle.wy_kernel.specs.View.{NONE, present}
use Rattle.wy_event.specs.Sources.{is_entity, or_else}
use Rattle.wy_index.proofs.Numbers.{absent_number, present_number}
use Rattle.wy_index.proofs.Orders.{same_numbers}

pub else_nothing : (o : Option ℕ) → or_else o None ≡ o
unfolding or_else
else_nothing (Some n) = refl
else_nothing None = refl

else_more : (o : Option ℕ) (b : Bool) (n : ℕ) → is_some o ≡ true → or_else o (if b then Some n else None) ≡ o
unfolding or_else
else_more (Some k) b n some = refl
else_more None b n some = absurd (false≢true some)

nothing_else : (o p : Option ℕ) → is_some o ≡ false → or_else o p ≡ p
unfolding or_else
nothing_else (Some k) p none = absurd (false≢true (sym none))
nothing_else None p none = refl

entity_of : (key q : ℕ) → (key ≡ NONE → ⊥) → is_entity (present key) q ≡ nat_eq key q
unfolding is_entity
entity_of key q some = ap (λ o. is_entity o q) (present_number key some)

-- one that is kept where none was
pub first_put : (old new : ℕ → Option ℕ) (key n q : ℕ) → (key ≡ NONE → ⊥) → is_some (old key) ≡ false → new q ≡ cond (is_eq (nat_cmp key q)) (Some n) (old q)
    → new q ≡ or_else (old q) (if is_entity (present key) q then Some n else None)
first_put old new key n q some none is =
    is ∙ ap (λ b. cond b (Some n) (old q)) (same_numbers key q)
    ∙ ⊎_elim
    (λ (e : key ≡ q). ap (λ b. cond b (Some n) (old q)) (eq-eqb key q e)
    ∙ sym (nothing_else (old q) (Some n) (ap (λ k. is_some (old k)) (sym e) ∙ none))
    ∙ ap (λ b. or_else (old q) (if b then Some n else None)) (sym (entity_of key q some ∙ eq-eqb key q e)))
    (λ (apart : key ≡ q → ⊥). ap (λ b. cond b (Some n) (old q)) (ne_eqb key q apart)
    ∙ sym (else_nothing (old q))
    ∙ ap (λ b. or_else (old q) (if b then Some n else None)) (sym (entity_of key q some ∙ ne_eqb key q apart)))
    (cases_eq key q)

-- one was kept already, or there is no number
pub first_kept : (old : ℕ → Option ℕ) (key n q : ℕ) → (key ≡ NONE) ⊎ ((key ≡ NONE → ⊥) × (is_some (old key) ≡ true))
    → old q ≡ or_else (old q) (if is_entity (present key) q then Some n else None)
unfolding is_entity
first_kept old key n q (inl none) = sym (ap (λ o. or_else (old q) (if is_entity o q then Some n else None)) (absent_number key none) ∙ else_nothing (old q))
first_kept old key n q (inr some) = ⊎_elim
    (λ (e : key ≡ q). sym (else_more (old q) (is_entity (present key) q) n (ap (λ k. is_some (old k)) (sym e) ∙ some.1)))
    (λ (apart : key ≡ q → ⊥). sym (ap (λ b. or_else (old q) (if b then Some n else None)) (entity_of key q some.0 ∙ ne_eqb key q apart) ∙ else_nothing (old q)))
    (cases_eq key q)
