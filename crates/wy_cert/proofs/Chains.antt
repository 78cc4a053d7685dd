-- What an event comes from, through its sources: one after another, and back again.
use Rattle.std.proofs.Common.{◌≡◌, ◌⊎◌, inl, inr, ◌<◌, ◌≤◌, ℕ, zero, suc, Bool, true, List, [], ◌∷◌, length, map, get_or, Option, Some, refl, sym, ap, ◌∙◌, subst, ⊎_elim, arith}
use Rattle.std.specs.Prelude.{Contains}
use Rattle.wy_event.specs.Record.{Recorded}
use Rattle.wy_event.specs.Sources.{Owners, Role, Source, sources, source_events}
use Rattle.wy_why.specs.Walk.{closure_of}
use Rattle.wy_why.proofs.Closures.{Among, closure_cases, closure_itself, closure_source}
use Rattle.wy_cert.specs.Goodness.{ComesFrom}

-- ---- sources as numbers

pub with_some_role : (ss : List Source) (w : ℕ) → Among w (source_events true ss) → (role : Role) × Contains ss (record { role = role; event = w })
unfolding source_events
with_some_role [] w at = absurd at
with_some_role (s ∷ ss) w (inl e) = (s.role, (0, omega arith, ap (λ n. record { role = s.role; event = n }) (sym e)))
with_some_role (s ∷ ss) w (inr at) = let rest = with_some_role ss w at in (rest.0, (suc rest.1.0, omega (arith, rest.1.1), rest.1.2))

pub without_role : (ss : List Source) (s : Source) → Contains ss s → Among s.event (source_events true ss)
unfolding source_events
without_role [] s has = absurd (omega (arith, has.1))
without_role (t ∷ ss) s (zero, lt, is) = inl (ap (λ (u : Source). u.event) (sym is))
without_role (t ∷ ss) s (suc k, lt, is) = inr (without_role ss s (k, omega (arith, lt), is))

-- ---- through events

module _ (owner : Owners) (all : Bool) (rs : List Recorded) where
  abbrev from : ℕ → List ℕ
  from n = source_events all (sources owner rs n)

  -- what an event comes from through another
  within_through : (d e n w : ℕ) → e < d → closure_of owner all rs e n ≡ true → Among w (from n) → w < n → closure_of owner all rs e w ≡ true
  within_through zero e n w lt is at below = absurd (omega (arith, lt))
  within_through (suc d) e n w lt is at below = ⊎_elim
      (λ (here : n ≡ e). closure_source owner all rs e w w (subst (λ k. Among w (from k)) here at) (omega (arith, below, here)) (closure_itself owner all rs w))
      (λ (found : (v : ℕ) × Among v (from e) × (v < e) × (closure_of owner all rs v n ≡ true)).
      closure_source owner all rs e found.0 w found.1 found.2 (within_through d found.0 n w (omega (arith, lt, found.2)) found.3 at below))
      (closure_cases owner all rs e n is)

  pub closure_through : (e n w : ℕ) → closure_of owner all rs e n ≡ true → Among w (source_events all (sources owner rs n)) → w < n → closure_of owner all rs e w ≡ true
  closure_through e n w is at below = within_through (suc e) e n w (omega arith) is at below

  -- nothing that it comes from is above it
  above_within : (d e j : ℕ) → e < d → closure_of owner all rs e j ≡ true → j ≤ e
  above_within zero e j lt is = absurd (omega (arith, lt))
  above_within (suc d) e j lt is = ⊎_elim
      (λ (here : j ≡ e). omega (arith, here))
      (λ (found : (v : ℕ) × Among v (from e) × (v < e) × (closure_of owner all rs v j ≡ true)).
      let below = above_within d found.0 j (omega (arith, lt, found.2)) found.3 in omega (arith, below, found.2))
      (closure_cases owner all rs e j is)

  pub not_above : (e j : ℕ) → closure_of owner all rs e j ≡ true → j ≤ e
  not_above e j is = above_within (suc e) e j (omega arith) is

  -- all but the event itself come next behind a greater one
  behind_within : (d e j : ℕ) → e < d → closure_of owner all rs e j ≡ true
      → (j ≡ e) ⊎ ((n : ℕ) × (closure_of owner all rs e n ≡ true) × (j < n) × Among j (from n))
  behind_within zero e j lt is = absurd (omega (arith, lt))
  behind_within (suc d) e j lt is = ⊎_elim
      (λ (here : j ≡ e). inl here)
      (λ (found : (v : ℕ) × Among v (from e) × (v < e) × (closure_of owner all rs v j ≡ true)). inr (⊎_elim
      (λ (there : j ≡ found.0). (e, closure_itself owner all rs e, omega (arith, found.2, there), subst (λ k. Among k (from e)) (sym there) found.1))
      (λ (next : (n : ℕ) × (closure_of owner all rs found.0 n ≡ true) × (j < n) × Among j (from n)). (next.0, closure_source owner all rs e found.0 next.0 found.1 found.2 next.1, next.2, next.3))
      (behind_within d found.0 j (omega (arith, lt, found.2)) found.3)))
      (closure_cases owner all rs e j is)

  pub behind : (e j : ℕ) → closure_of owner all rs e j ≡ true
      → (j ≡ e) ⊎ ((n : ℕ) × (closure_of owner all rs e n ≡ true) × (j < n) × Among j (source_events all (sources owner rs n)))
  behind e j is = behind_within (suc e) e j (omega arith) is

pub comes_among : (owner : Owners) (rs : List Recorded) (n w : ℕ) → ComesFrom owner rs n w → Among w (source_events true (sources owner rs n))
comes_among owner rs n w (role, has) = without_role (sources owner rs n) (record { role = role; event = w }) has
