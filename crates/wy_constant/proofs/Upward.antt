-- The search for a field along the superclasses, step by step.
use Rattle.std.proofs.Common.{◌≡◌, ℕ, zero, suc, ◌-◌, ◌<◌, ◌≤◌, sym, ap, ◌∙◌, List, Option, Some, None, arith}
use Rattle.std.specs.Prelude.{slice_get}
use Rattle.wy_kernel.specs.Table.{Table}
use Rattle.wy_constant.specs.Fields.{declared_field, superclass, or_above, field_within}

step : (n : ℕ) (t : Table) (c : ℕ) (name : List ℕ) → 0 < n →
    field_within n t c name ≡ or_above (declared_field t.fields c name) (superclass (slice_get t.classes c)) (λ above. field_within (n - 1) t above name)
unfolding field_within
step zero t c name h = absurd (omega (arith, h))
step (suc n) t c name h =
    let e : n ≡ suc n - 1 = omega arith in
    ap (λ m. or_above (declared_field t.fields c name) (superclass (slice_get t.classes c)) (λ above. field_within m t above name)) e

pub up_here : (n : ℕ) (t : Table) (c : ℕ) (name : List ℕ) (f : ℕ) (r : Option ℕ) → 0 < n → declared_field t.fields c name ≡ Some f →
    r ≡ field_within n t c name → Some f ≡ r
up_here n t c name f r h d e =
    sym (e ∙ step n t c name h ∙ ap (λ o. or_above o (superclass (slice_get t.classes c)) (λ above. field_within (n - 1) t above name)) d)

pub up_further : (n : ℕ) (t : Table) (c : ℕ) (name : List ℕ) (a : ℕ) (r : Option ℕ) → 0 < n → declared_field t.fields c name ≡ None →
    superclass (slice_get t.classes c) ≡ Some a → r ≡ field_within n t c name → r ≡ field_within (n - 1) t a name
up_further n t c name a r h d s e =
    e ∙ step n t c name h ∙ ap (λ o. or_above o (superclass (slice_get t.classes c)) (λ above. field_within (n - 1) t above name)) d
    ∙ ap (λ o. or_above None o (λ above. field_within (n - 1) t above name)) s

pub up_none : (n : ℕ) (t : Table) (c : ℕ) (name : List ℕ) (r : Option ℕ) → 0 < n → declared_field t.fields c name ≡ None →
    superclass (slice_get t.classes c) ≡ None → r ≡ field_within n t c name → None ≡ r
up_none n t c name r h d s e =
    sym (e ∙ step n t c name h ∙ ap (λ o. or_above o (superclass (slice_get t.classes c)) (λ above. field_within (n - 1) t above name)) d
    ∙ ap (λ o. or_above None o (λ above. field_within (n - 1) t above name)) s)

pub up_end : (n : ℕ) (t : Table) (c : ℕ) (name : List ℕ) (r : Option ℕ) → n ≤ 0 → r ≡ field_within n t c name → None ≡ r
unfolding field_within
up_end zero t c name r h e = sym e
up_end (suc n) t c name r h e = absurd (omega (arith, h))
