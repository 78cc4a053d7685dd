-- The order of the blocks that are held, by the entries of the cache.
use Rattle.std.proofs.Common.{◌≡◌, ℕ, ◌-◌, Bool, true, false, cond, List, [], ◌∷◌, take, Some, None, refl, sym, ap, ◌∙◌}
use Rattle.std.specs.Prelude.{◌||◌, is_some, nat_eq}
use Rattle.std.specs.Map.{keys_of, lookup, lookup_entry, remove_entry}
use Rattle.std.proofs.lemmas.Bool.{eq-eqb, eqb-true}
use Rattle.std.proofs.lemmas.List.{take-map}
use Rattle.lru.specs.LruCache.{LruCache, promoted, put_entries}
use Rattle.wy_page.specs.Blocks.{is_held, without}

module _ {X : Type 0} (b : ℕ) where
  -- a block is held where the cache has it
  pub held_is : (es : List (ℕ × X)) → is_held b (keys_of es) ≡ is_some (lookup (nat_eq b) es)
  held_is [] = refl
  held_is (e ∷ es) = by_key (nat_eq b e.0) (held_is es) where
    by_key : (t : Bool) → is_held b (keys_of es) ≡ is_some (lookup (nat_eq b) es) → (t || is_held b (keys_of es)) ≡ is_some (cond t (Some e.1) (lookup (nat_eq b) es))
    by_key true behind = refl
    by_key false behind = behind

  removed : (es : List (ℕ × X)) → keys_of (remove_entry (nat_eq b) es) ≡ without b (keys_of es)
  removed [] = refl
  removed (e ∷ es) = by_key (nat_eq b e.0) (removed es) where
    by_key : (t : Bool) → keys_of (remove_entry (nat_eq b) es) ≡ without b (keys_of es) → keys_of (cond t es (e ∷ remove_entry (nat_eq b) es)) ≡ cond t (keys_of es) (e.0 ∷ without b (keys_of es))
    by_key true behind = refl
    by_key false behind = ap (λ ks. e.0 ∷ ks) behind

  -- the entry that has it
  data Entry (es : List (ℕ × X)) : Type 0 where
    Lacks : lookup (nat_eq b) es ≡ None → lookup_entry (nat_eq b) es ≡ None → Entry es
    Has : (x : X) → lookup (nat_eq b) es ≡ Some x → lookup_entry (nat_eq b) es ≡ Some (b, x) → Entry es

  entry : (es : List (ℕ × X)) → Entry es
  entry [] = Lacks refl refl
  entry (e ∷ es) = by_key (nat_eq b e.0) refl (entry es) where
    behind : Entry es → nat_eq b e.0 ≡ false → Entry (e ∷ es)
    behind (Lacks a c) is = Lacks (ap (λ t. cond t (Some e.1) (lookup (nat_eq b) es)) is ∙ a) (ap (λ t. cond t (Some e) (lookup_entry (nat_eq b) es)) is ∙ c)
    behind (Has x a c) is = Has x (ap (λ t. cond t (Some e.1) (lookup (nat_eq b) es)) is ∙ a) (ap (λ t. cond t (Some e) (lookup_entry (nat_eq b) es)) is ∙ c)

    by_key : (t : Bool) → nat_eq b e.0 ≡ t → Entry es → Entry (e ∷ es)
    by_key true is others = Has e.1 (ap (λ t. cond t (Some e.1) (lookup (nat_eq b) es)) is) (ap (λ t. cond t (Some e) (lookup_entry (nat_eq b) es)) is ∙ ap (λ k. Some (k, e.1)) (sym (eqb-true b e.0 is)))
    by_key false is others = behind others is

  -- what is asked comes first where it is held, and nothing moves where it isn't
  pub first_of_held : (es : List (ℕ × X)) → is_some (lookup (nat_eq b) es) ≡ true → keys_of (promoted (nat_eq b) es) ≡ b ∷ without b (keys_of es)
  first_of_held es there = by (entry es) where
    by : Entry es → keys_of (promoted (nat_eq b) es) ≡ b ∷ without b (keys_of es)
    by (Lacks a c) = let none : false ≡ true = ap is_some (sym a) ∙ there in absurd cc
    by (Has x a c) = rw c (ap (λ ks. b ∷ ks) (removed es))

  pub stays_unheld : (es : List (ℕ × X)) → is_some (lookup (nat_eq b) es) ≡ false → promoted (nat_eq b) es ≡ es
  stays_unheld es lacks = by (entry es) where
    by : Entry es → promoted (nat_eq b) es ≡ es
    by (Lacks a c) = rw c refl
    by (Has x a c) = let some : true ≡ false = ap is_some (sym a) ∙ lacks in absurd cc

  -- what wasn't held comes first, and the last of a full cache goes
  pub first_of_read : (c : LruCache ℕ X) (x : X) → is_some (lookup (nat_eq b) c.entries) ≡ false → keys_of (put_entries nat_eq c b x) ≡ b ∷ take (c.cap - 1) (keys_of c.entries)
  first_of_read c x lacks = by (entry c.entries) where
    by : Entry c.entries → keys_of (put_entries nat_eq c b x) ≡ b ∷ take (c.cap - 1) (keys_of c.entries)
    by (Lacks a n) = rw n (ap (λ ks. b ∷ ks) (sym (take-map (λ (e : ℕ × X). e.0) (c.cap - 1) c.entries)))
    by (Has y a n) = let some : true ≡ false = ap is_some (sym a) ∙ lacks in absurd cc

  -- it stays held where it comes first
  pub promoted_there : (es : List (ℕ × X)) → lookup (nat_eq b) (promoted (nat_eq b) es) ≡ lookup (nat_eq b) es
  promoted_there es = by (entry es) where
    by : Entry es → lookup (nat_eq b) (promoted (nat_eq b) es) ≡ lookup (nat_eq b) es
    by (Lacks a n) = rw n refl
    by (Has x a n) = rw (n, a, eq-eqb b b refl) refl
