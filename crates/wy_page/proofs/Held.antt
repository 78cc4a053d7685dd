-- Each block that is held is one, whatever is asked for.
use Rattle.std.proofs.Common.{◌≡◌, ℕ, ◌<◌, ◌⊎◌, true, List, length, Some, sym, subst, arith, inl, inr, ⊎_elim}
use Rattle.std.specs.Prelude.{◌/◌, ◌%◌, Contains, nat_eq, Vec}
use Rattle.std.specs.declared.alloc.Global.{Global}
use Rattle.std.specs.Map.{lookup}
use Rattle.std.proofs.lemmas.Bool.{eqb-true}
use Rattle.std.proofs.lemmas.Map.Views.{Contains-from_lookup}
use Rattle.lru.specs.LruCache.{LruCache, promoted, put_entries}
use Rattle.lru.proofs.CallerLemmas.{Contains-promoted, Contains-put_entries}
use Rattle.wy_event.specs.declared.record.Event.{Event}
use Rattle.wy_page.specs.Blocks.{AreBlocks, IsBlock, block_length}

abbrev Held : Type 0
Held = List (ℕ × Vec Event Global)

pub promoted_blocks : (count b : ℕ) (held : Held) → AreBlocks count held → AreBlocks count (promoted (nat_eq b) held)
promoted_blocks count b held are h among = are h (Contains-promoted (nat_eq b) held h among)

-- what is put is one of what was held, or the block
pub put_has : (P : ℕ × Vec Event Global → Type 0) (c : LruCache ℕ (Vec Event Global)) (b : ℕ) (events : Vec Event Global) → P (b, events) → ((h : ℕ × Vec Event Global) → Contains c.entries h → P h) → (h : ℕ × Vec Event Global) → Contains (put_entries nat_eq c b events) h → P h
put_has P c b events here others h among = ⊎_elim (λ was. others h was) (λ put. is_put put.0 put.1) (Contains-put_entries nat_eq c b events h among) where
  at_key : h.1 ≡ events → b ≡ h.0 → P h
  at_key same key = subst P (λ i. (key i, sym same i)) here

  is_put : h.1 ≡ events → (h.0 ≡ b) ⊎ ((w : Vec Event Global) × Contains c.entries (h.0, w) × (nat_eq b h.0 ≡ true)) → P h
  is_put same (inl key) = at_key same (sym key)
  is_put same (inr found) = at_key same (eqb-true b h.0 found.2)

pub put_blocks : (count : ℕ) (c : LruCache ℕ (Vec Event Global)) (b : ℕ) (events : Vec Event Global) → IsBlock count b events.items → AreBlocks count c.entries → AreBlocks count (put_entries nat_eq c b events)
put_blocks count c b events is are = put_has (λ h. IsBlock count h.0 h.1.items) c b events is are

-- a block that is found has the event
pub found_within : (count n : ℕ) (held : Held) (events : Vec Event Global) → AreBlocks count held → n < count → lookup (nat_eq (n / block_length)) held ≡ Some events → n % block_length < length events.items
found_within count n held events are within found =
    let is = are (n / block_length, events) (Contains-from_lookup (eqb-true) (n / block_length) events held found) in
    omega (arith, is.size, within)
