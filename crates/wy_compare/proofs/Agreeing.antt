-- Two lists of records that agree below a place: what an event below it comes from is the same in both.
use Rattle.std.proofs.Common.{◌≡◌, ◌∙◌, ◌<◌, ◌≤◌, ℕ, zero, suc, Bool, true, false, List, [], ◌∷◌, ◌++◌, Option, Some, refl, sym, ap, ap₂, nat_lt, ltb-true, arith}
use Rattle.std.specs.Prelude.{None as Absent}
use Rattle.std.specs.Prelude.{filter, if◌then◌else◌, slice_get}
use Rattle.wy_event.specs.declared.record.Slot.{Slot}
use Rattle.wy_event.specs.declared.record.Use.{Use}
use Rattle.wy_event.specs.declared.record.Use.TheVariants.{Place, Value, Choice}
use Rattle.wy_event.specs.Numbers.{Numbers, only, union, union_of}
use Rattle.wy_event.specs.Record.{Recorded}
use Rattle.wy_event.specs.Sources.{Owners, Control, Data, closure, closure_within, creates, creation, data_closure, event_sources, is_so, last_write, or_else, source_events, sources, sources_of, use_source, use_sources, with_role, writes, written}
use Rattle.wy_view.specs.References.{RefersBelow, UseBelow, UsesBelow}

-- of numbers below k alone
union_below : (k : ℕ) (f g : ℕ → Numbers) (ws : List ℕ) → ((w : ℕ) → w < k → f w ≡ g w) → union_of f (filter (λ w. nat_lt w k) ws) ≡ union_of g (filter (λ w. nat_lt w k) ws)
unfolding union_of
union_below k f g [] same = refl
union_below k f g (w ∷ ws) same = go (nat_lt w k) refl (union_below k f g ws same)
  where
    below : List ℕ
    below = filter (λ v. nat_lt v k) ws

    go : (b : Bool) → nat_lt w k ≡ b → union_of f below ≡ union_of g below → union_of f (if b then w ∷ below else below) ≡ union_of g (if b then w ∷ below else below)
    go true is rest = ap₂ union (same w (ltb-true w k is)) rest
    go false is rest = rest

module _ (owner : Owners) (good bad : List Recorded) (n : ℕ) (agree : (k : ℕ) → k < n → slice_get good k ≡ slice_get bad k) (refers : (k : ℕ) (e : Recorded) → slice_get good k ≡ Some e → RefersBelow k e) where
  written_same : (x : Slot) (m : ℕ) → m ≤ n → written good x m ≡ written bad x m
  unfolding written
  written_same x zero le = refl
  written_same x (suc m) le = ap₂ (λ o w. if is_so (writes x) o then Some m else w) (agree m (omega (arith, le))) (written_same x m (omega (arith, le)))

  creation_same : (x : Slot) (m : ℕ) → m ≤ n → creation owner good x m ≡ creation owner bad x m
  unfolding creation
  creation_same x zero le = refl
  creation_same x (suc m) le = ap₂ (λ o c. or_else c (if is_so (creates owner m x) o then Some m else Absent)) (agree m (omega (arith, le))) (creation_same x m (omega (arith, le)))

  last_same : (x : Slot) (m : ℕ) → m ≤ n → last_write owner good x m ≡ last_write owner bad x m
  unfolding last_write
  last_same x m le = ap₂ or_else (written_same x m le) (creation_same x m le)

  use_same : (k : ℕ) (u : Use) → k < n → UseBelow k u → use_source owner good u ≡ use_source owner bad u
  unfolding use_source
  use_same k (Place x m) lt below = ap (with_role Data) (last_same x m (omega (arith, lt, below.1)))
  use_same k (Value w) lt below = refl
  use_same k (Choice w) lt below = refl

  uses_same : (k : ℕ) (us : List Use) → k < n → UsesBelow k us → use_sources owner good us ≡ use_sources owner bad us
  unfolding use_sources
  uses_same k [] lt below = refl
  uses_same k (u ∷ us) lt below = ap₂ (λ a b. a ++ b) (use_same k u lt below.0) (uses_same k us lt below.1)

  event_same : (k : ℕ) (e : Recorded) → k < n → RefersBelow k e → event_sources owner good e ≡ event_sources owner bad e
  unfolding event_sources
  event_same k e lt below = ap (λ l. l ++ with_role Control e.control) (uses_same k e.uses lt below.uses)

  of_record : (k : ℕ) → k < n → (o : Option Recorded) → slice_get good k ≡ o → sources_of owner good o ≡ sources_of owner bad o
  unfolding sources_of
  of_record k lt Absent is = refl
  of_record k lt (Some e) is = event_same k e lt (refers k e is)

  sources_same : (k : ℕ) → k < n → sources owner good k ≡ sources owner bad k
  unfolding sources
  sources_same k lt = of_record k lt (slice_get good k) refl ∙ ap (sources_of owner bad) (agree k lt)

  within_same : (all : Bool) (d k : ℕ) → k < n → closure_within owner all good d k ≡ closure_within owner all bad d k
  unfolding closure_within
  within_same all zero k lt = refl
  within_same all (suc d) k lt =
      ap (union (only k)) (union_below k (closure_within owner all good d) (closure_within owner all bad d) (source_events all (sources owner good k)) (λ w less. within_same all d w (omega (arith, lt, less)))
      ∙ ap (λ s. union_of (closure_within owner all bad d) (filter (λ w. nat_lt w k) (source_events all s))) (sources_same k lt))

  pub closure_same : (k : ℕ) → k < n → closure owner good k ≡ closure owner bad k
  unfolding closure
  closure_same k lt = within_same true (suc k) k lt

  pub data_same : (k : ℕ) → k < n → data_closure owner good k ≡ data_closure owner bad k
  unfolding data_closure
  data_same k lt = within_same false (suc k) k lt
