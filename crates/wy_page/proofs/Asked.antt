-- What a look at a block leaves of the order of blocks.
use Rattle.std.proofs.Common.{◌≡◌, ℕ, ◌-◌, Bool, true, false, cond, Result, Ok, Err, OnOk, OnErr, List, ◌∷◌, take, Option, Some, None, refl, sym, ap, ◌∙◌, inr}
use Rattle.std.specs.Prelude.{IfOk, IsSome, is_ok, is_some, nat_eq, Vec}
use Rattle.std.specs.declared.alloc.Global.{Global}
use Rattle.std.specs.Map.{keys_of, lookup}
use Rattle.lru.specs.LruCache.{LruCache, lru_cache, promoted, put_entries}
use Rattle.std.specs.Cmp.{nat_eq_equiv}
use Rattle.lru.proofs.CallerLemmas.{lookup-put_entries}
use Rattle.wy_view.specs.declared.view.ViewError.{ViewError}
use Rattle.wy_event.specs.declared.record.Event.{Event}
use Rattle.wy_view.specs.Counts.{count_after}
use Rattle.wy_page.specs.declared.pages.Pages.{Pages}
use Rattle.wy_page.specs.Blocks.{Asked, Order, asked_order, held_blocks, without}
use Rattle.wy_page.specs.Paged.{order_of}
use Rattle.wy_page.proofs.Order.{first_of_held, first_of_read, held_is, promoted_there, stays_unheld}

abbrev order : List ℕ → ℕ → ℕ → Order
order held loads gets = record { held = held; loads = loads; gets = gets }

-- by whether it is held
order_by : (b : ℕ) (old : Pages) (gets : ℕ) → (t : Bool) → is_some (lookup (nat_eq b) old.held.entries) ≡ t
    → asked_order b (order_of old gets) ≡ cond t (order (b ∷ without b (keys_of old.held.entries)) old.loads gets) (order (b ∷ take (held_blocks - 1) (keys_of old.held.entries)) (count_after old.loads 1) (count_after gets 1))
order_by b old gets t is = ap (λ c. cond c (order (b ∷ without b (keys_of old.held.entries)) old.loads gets) (order (b ∷ take (held_blocks - 1) (keys_of old.held.entries)) (count_after old.loads 1) (count_after gets 1))) (held_is b old.held.entries ∙ is)

pub asked_held : (b : ℕ) (old new : Pages) (gets : ℕ) → is_some (lookup (nat_eq b) old.held.entries) ≡ true → new.held ≡ lru_cache (promoted (nat_eq b) old.held.entries) held_blocks → new.loads ≡ old.loads → Asked b true (order_of old gets) (order_of new gets)
asked_held b old new gets there now loads =
    let held : keys_of new.held.entries ≡ b ∷ without b (keys_of old.held.entries) = ap (λ (c : LruCache ℕ (Vec Event Global)). keys_of c.entries) now ∙ first_of_held b old.held.entries there in
    (λ i. order (held i) (loads i) gets) ∙ sym (order_by b old gets true there)

-- behind `first`, in which nothing moved, the block was read and put
pub asked_read : (b : ℕ) (old first new : Pages) (before after : ℕ) (events : Vec Event Global) → is_some (lookup (nat_eq b) old.held.entries) ≡ false → old.held.cap ≡ held_blocks → first.held ≡ lru_cache (promoted (nat_eq b) old.held.entries) held_blocks → first.loads ≡ old.loads → new.held ≡ lru_cache (put_entries nat_eq first.held b events) held_blocks → new.loads ≡ count_after first.loads 1 → after ≡ count_after before 1 → Asked b true (order_of old before) (order_of new after)
asked_read b old first new before after events lacks cap now loads put counted got =
    let same : lru_cache (promoted (nat_eq b) old.held.entries) held_blocks ≡ old.held = λ i. lru_cache (stays_unheld b old.held.entries lacks i) (sym cap i) in
    let here : first.held ≡ old.held = now ∙ same in
    let held : keys_of new.held.entries ≡ b ∷ take (held_blocks - 1) (keys_of old.held.entries) =
    ap (λ (c : LruCache ℕ (Vec Event Global)). keys_of c.entries) put ∙ ap (λ (c : LruCache ℕ (Vec Event Global)). keys_of (put_entries nat_eq c b events)) here ∙ first_of_read b old.held events lacks ∙ ap (λ n. b ∷ take (n - 1) (keys_of old.held.entries)) cap in
    (λ i. order (held i) ((counted ∙ ap (λ n. count_after n 1) loads) i) (got i)) ∙ sym (order_by b old before false lacks)

pub asked_refused : (b : ℕ) (old first new : Pages) (before after : ℕ) → is_some (lookup (nat_eq b) old.held.entries) ≡ false → old.held.cap ≡ held_blocks → first.held ≡ lru_cache (promoted (nat_eq b) old.held.entries) held_blocks → first.loads ≡ old.loads → new.held ≡ first.held → new.loads ≡ first.loads → after ≡ count_after before 1 → Asked b false (order_of old before) (order_of new after)
asked_refused b old first new before after lacks cap now loads stays same got = record {
  held = ap (λ (c : LruCache ℕ (Vec Event Global)). keys_of c.entries) (stays ∙ now) ∙ ap keys_of (stays_unheld b old.held.entries lacks);
  loads = same ∙ loads;
  gets = inr got;
}

-- behind `first`, in which nothing moved, the block was read; and it was put, or there was no memory
pub asked_put : (b : ℕ) (old first new : Pages) (before after : ℕ) (events : Vec Event Global) (r : Result Unit ViewError) → is_some (lookup (nat_eq b) old.held.entries) ≡ false → old.held.cap ≡ held_blocks → first.held ≡ lru_cache (promoted (nat_eq b) old.held.entries) held_blocks → first.loads ≡ old.loads → OnOk r (new.held ≡ lru_cache (put_entries nat_eq first.held b events) held_blocks) → OnOk r (new.loads ≡ count_after first.loads 1) → OnErr r (new ≡ first) → after ≡ count_after before 1 → Asked b (is_ok r) (order_of old before) (order_of new after)
asked_put b old first new before after events (Ok u) lacks room now loads put counted stays got = asked_read b old first new before after events lacks room now loads put counted got
asked_put b old first new before after events (Err e) lacks room now loads put counted stays got = asked_refused b old first new before after lacks room now loads (ap (λ (p : Pages). p.held) stays) (ap (λ (p : Pages). p.loads) stays) got

-- ---- what was asked for is held

some_is : (o : Option (Vec Event Global)) → is_some o ≡ true → IsSome o
some_is (Some x) is = refl
some_is None is = absurd cc

pub lookup_stays : (b cap : ℕ) (old new : Pages) → new.held ≡ lru_cache (promoted (nat_eq b) old.held.entries) cap → lookup (nat_eq b) new.held.entries ≡ lookup (nat_eq b) old.held.entries
lookup_stays b cap old new now = ap (λ (c : LruCache ℕ (Vec Event Global)). lookup (nat_eq b) c.entries) now ∙ promoted_there b old.held.entries

pub held_there : (b cap : ℕ) (old new : Pages) → is_some (lookup (nat_eq b) old.held.entries) ≡ true → new.held ≡ lru_cache (promoted (nat_eq b) old.held.entries) cap → IsSome (lookup (nat_eq b) new.held.entries)
held_there b cap old new there now = some_is (lookup (nat_eq b) new.held.entries) (ap is_some (lookup_stays b cap old new now) ∙ there)

pub put_there : (b cap : ℕ) (first new : Pages) (events : Vec Event Global) (r : Result Unit ViewError) → OnOk r (new.held ≡ lru_cache (put_entries nat_eq first.held b events) cap) → IfOk r (λ _. IsSome (lookup (nat_eq b) new.held.entries))
put_there b cap first new events (Ok u) put = some_is (lookup (nat_eq b) new.held.entries) (ap (λ (c : LruCache ℕ (Vec Event Global)). is_some (lookup (nat_eq b) c.entries)) put ∙ ap is_some (lookup-put_entries nat_eq first.held b events nat_eq_equiv))
put_there b cap first new events (Err e) put = tt

pub order_kept : (old new : Pages) (gets : ℕ) → new.held ≡ old.held → new.loads ≡ old.loads → order_of new gets ≡ order_of old gets
order_kept old new gets held loads = λ i. order (keys_of (held i).entries) (loads i) gets
