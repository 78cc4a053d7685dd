-- The search for a field along the superclasses, class by class.
use Rattle.std.proofs.Common.{◌≡◌, ℕ, zero, suc, ◌+◌, ◌-◌, ◌<◌, ◌≤◌, Bool, sym, ap, ◌∙◌, List, Some, None, arith}
use Rattle.std.specs.Prelude.{Option}
use Rattle.wy_kernel.specs.Program.{Program, class}
use Rattle.wy_watch.specs.Names.{declared_field, field_within, or_above}

module _ (p : Program) (is_static : Bool) (name : List ℕ) (end i c : ℕ) where
  abbrev on : Option ℕ → Option ℕ → Option ℕ
  on found above = or_above found above (λ d. field_within (end - (i + 1)) p is_static d name)

  step : i < end → field_within (end - i) p is_static c name ≡ on (declared_field p is_static c name) (class p c).above
  unfolding field_within
  step less =
      let e : end - i ≡ suc (end - (i + 1)) = omega arith in
      ap (λ k. field_within k p is_static c name) e

  pub up_here : (f : ℕ) (r : Option ℕ) → i < end → declared_field p is_static c name ≡ Some f → r ≡ field_within (end - i) p is_static c name → Some f ≡ r
  up_here f r less found e = sym (e ∙ step less ∙ ap (λ o. on o (class p c).above) found)

  pub up_further : (d : ℕ) (r : Option ℕ) → i < end → declared_field p is_static c name ≡ None → (class p c).above ≡ Some d
      → r ≡ field_within (end - i) p is_static c name → r ≡ field_within (end - (i + 1)) p is_static d name
  up_further d r less none up e = e ∙ step less ∙ ap (λ o. on o (class p c).above) none ∙ ap (on None) up

  pub up_none : (r : Option ℕ) → i < end → declared_field p is_static c name ≡ None → (class p c).above ≡ None
      → r ≡ field_within (end - i) p is_static c name → None ≡ r
  up_none r less none up e = sym (e ∙ step less ∙ ap (λ o. on o (class p c).above) none ∙ ap (on None) up)

  pub up_end : (r : Option ℕ) → end ≤ i → r ≡ field_within (end - i) p is_static c name → None ≡ r
  unfolding field_within
  up_end r done e =
      let none : end - i ≡ zero = omega arith in
      sym (e ∙ ap (λ k. field_within k p is_static c name) none)
