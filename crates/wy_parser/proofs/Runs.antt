-- What the functions of the parser need to know of reading.
use Rattle.std.proofs.Common.{ℕ, zero, suc, true, false, ◌≡◌, ◌<◌, ◌≤◌, ◌+◌, ◌-◌, List, [], ◌∷◌, ◌++◌, Option, Some, None, length, nat_le, refl, sym, ◌∙◌, ap, arith}
use Rattle.std.proofs.lemmas.Bool.{le-leb, lt-leb}
use Rattle.std.specs.Prelude.{reverse, min}
use Rattle.std.proofs.lemmas.List.{reverse-append}
use Rattle.wy_tree.specs.Seen.{Tok}
use Rattle.wy_tree.specs.Ast.{Ast, Asts, Leaf, Node, none, more, one, joined, views, deepest}
use Rattle.wy_tree.specs.Grammar.{form_of}
use Rattle.wy_tree.specs.declared.tree.Tree.{Tree}
use Rattle.wy_tree.specs.declared.grammar.Class.{Class}
use Rattle.wy_tree.specs.declared.grammar.Sort.{Sort}
use Rattle.wy_tree.specs.declared.grammar.Row.{Row}
use Rattle.wy_tree.specs.declared.grammar.Item.{Item}
use Rattle.wy_tree.specs.declared.grammar.Item.TheVariants.{One, Part, Parts}
use Rattle.wy_parser.specs.Prediction.{predict}
use Rattle.wy_parser.specs.Looks.{reach, Looker, later, looked_parts, looked_step, looked_ranked, looked}
use Rattle.wy_parser.specs.Reading.{ReadAll, Reader, read_then, guard, taken, before, parts, closed_by, base, grow, growing, ranked, reader}

pub reader_shallow : (r : ℕ) (x : Sort) (s : List Tok) → reader 0 r x s ≡ None
unfolding reader
reader_shallow r x s = refl

pub reader_rankless : (d : ℕ) (x : Sort) (s : List Tok) → reader d 0 x s ≡ None
unfolding reader ranked
reader_rankless zero x s = refl
reader_rankless (suc d) x s = refl

pub reader_step : (d r : ℕ) (x : Sort) (s : List Tok) → 0 < d → 0 < r
    → reader d r x s ≡ read_then (base (reader (d - 1 + 1) (r - 1)) (reader (d - 1) 24) (d - 1) x s) (growing (grow (reader (d - 1) 24) (d - 1) x) (suc (suc (d - 1))))
unfolding reader ranked
reader_step zero r x s lt lr = absurd (omega arith)
reader_step (suc d) zero x s lt lr = absurd (omega arith)
reader_step (suc d) (suc r) x s lt lr =
    let e : d ≡ suc d - 1 = omega arith in
    let f : r ≡ suc r - 1 = omega arith in
    let g : suc d ≡ d + 1 = omega arith in
    ap (λ z. read_then (base (reader z r) (reader d 24) d x s) (growing (grow (reader d 24) d x) (suc (suc d)))) g
    ∙ ap (λ z. read_then (base (reader (d + 1) z) (reader d 24) d x s) (growing (grow (reader d 24) d x) (suc (suc d)))) f
    ∙ ap (λ z. read_then (base (reader (z + 1) (suc r - 1)) (reader z 24) z x s) (growing (grow (reader z 24) z x) (suc (suc z)))) e

pub fits_guard : {A : Type 0} (n d : ℕ) (r : Option A) → n ≤ d → guard (nat_le n d) r ≡ r
fits_guard n d r le = ap (λ b. guard b r) (le-leb n d le)

pub deep_guard : {A : Type 0} (n d : ℕ) (r : Option A) → d < n → guard (nat_le n d) r ≡ None
deep_guard n d r lt = ap (λ b. guard b r) (lt-leb n d lt)

-- these trees before those that are read
abbrev pub before_all : Asts → ReadAll → ReadAll
before_all none r = r
before_all (more t ts) r = before t (before_all ts r)

before_joined : (ts : Asts) (t : Ast) (r : ReadAll) → before_all (joined ts (one t)) r ≡ before_all ts (before t r)
before_joined none t r = refl
before_joined (more u ts) t r = ap (before u) (before_joined ts t r)

before_none : (ts : Asts) → before_all ts None ≡ None
before_none none = refl
before_none (more u ts) = ap (before u) (before_none ts)

before_some : (ts : Asts) (s : List Tok) → before_all ts (Some (none, s)) ≡ Some (ts, s)
before_some none s = refl
before_some (more u ts) s = ap (before u) (before_some ts s)

-- what was read so far, and what is still to be read
pub record IsReading (whole : ReadAll) (found : Asts) (first next : Reader) (k : ℕ) (items : List Item) (s : List Tok) : Type 0 where
  pub same : whole ≡ before_all found (parts first next k items s)

pub reading : (first next : Reader) (k : ℕ) (items : List Item) (s : List Tok) (found : Asts) → found ≡ none → IsReading (parts first next k items s) found first next k items s
reading first next k items s found e = record { same = sym (ap (λ z. before_all z (parts first next k items s)) e) }

positive : (P : ℕ → Type 0) (k : ℕ) → 0 < k → ((j : ℕ) → P (suc j)) → P k
positive P zero lt f = absurd (omega arith)
positive P (suc k) lt f = f k

pub reads_end : (whole : ReadAll) (found : Asts) (first next : Reader) (k : ℕ) (items : List Item) (s : List Tok) → IsReading whole found first next k items s → 0 < k → items ≡ [] → whole ≡ Some (found, s)
unfolding parts
reads_end whole found first next k items s w lt e =
    let go : parts first next k [] s ≡ Some (none, s) = positive (λ k. parts first next k [] s ≡ Some (none, s)) k lt (λ j. refl) in
    w.same ∙ ap (λ z. before_all found (parts first next k z s)) e ∙ ap (before_all found) go ∙ before_some found s

pub reads_out : (whole : ReadAll) (found : Asts) (first next : Reader) (k : ℕ) (items : List Item) (s : List Tok) → IsReading whole found first next k items s → k ≡ 0 → whole ≡ None
unfolding parts
reads_out whole found first next k items s w e = w.same ∙ ap (λ z. before_all found (parts first next z items s)) e ∙ before_none found

pub step_token : (first next : Reader) (k : ℕ) (c : Class) (items : List Item) (s : List Tok) → 0 < k → parts first next k (One c ∷ items) s ≡ read_then (taken c s) (λ o r. before (Leaf o) (parts next next (k - 1) items r))
unfolding parts
step_token first next zero c items s lt = absurd (omega arith)
step_token first next (suc k) c items s lt = let e : k ≡ suc k - 1 = omega arith in ap (λ z. read_then (taken c s) (λ o r. before (Leaf o) (parts next next z items r))) e

pub step_part : (first next : Reader) (k : ℕ) (x : Sort) (items : List Item) (s : List Tok) → 0 < k → parts first next k (Part x ∷ items) s ≡ read_then (first x s) (λ t r. before t (parts next next (k - 1) items r))
unfolding parts
step_part first next zero x items s lt = absurd (omega arith)
step_part first next (suc k) x items s lt = let e : k ≡ suc k - 1 = omega arith in ap (λ z. read_then (first x s) (λ t r. before t (parts next next z items r))) e

step_row : (first next : Reader) (k : ℕ) (row : Row) (items : List Item) (s : List Tok) → 0 < k → parts first next k (Parts row ∷ items) s ≡ parts first next (k - 1) (predict row s ++ items) s
unfolding parts
step_row first next zero row items s lt = absurd (omega arith)
step_row first next (suc k) row items s lt = let e : k ≡ suc k - 1 = omega arith in ap (λ z. parts first next z (predict row s ++ items) s) e

pub reads_token : (whole : ReadAll) (found : Asts) (first next : Reader) (k : ℕ) (items : List Item) (s : List Tok) (c : Class) (items' : List Item) (x : Tok × List Tok) (found' : Asts) (t : Ast)
    → IsReading whole found first next k items s → 0 < k → items ≡ One c ∷ items' → taken c s ≡ Some x → t ≡ Leaf x.0 → found' ≡ joined found (one t)
    → IsReading whole found' next next (k - 1) items' x.1
reads_token whole found first next k items s c items' x found' t w lt e f g h = record {
  same = w.same ∙ ap (λ z. before_all found (parts first next k z s)) e
      ∙ ap (before_all found) (step_token first next k c items' s lt ∙ ap (λ z. read_then z (λ o r. before (Leaf o) (parts next next (k - 1) items' r))) f)
      ∙ ap (λ z. before_all found (before z (parts next next (k - 1) items' x.1))) (sym g)
      ∙ sym (before_joined found t (parts next next (k - 1) items' x.1))
      ∙ sym (ap (λ z. before_all z (parts next next (k - 1) items' x.1)) h);
}

pub reads_no_token : (whole : ReadAll) (found : Asts) (first next : Reader) (k : ℕ) (items : List Item) (s : List Tok) (c : Class) (items' : List Item)
    → IsReading whole found first next k items s → 0 < k → items ≡ One c ∷ items' → taken c s ≡ None → whole ≡ None
reads_no_token whole found first next k items s c items' w lt e f =
    w.same ∙ ap (λ z. before_all found (parts first next k z s)) e
    ∙ ap (before_all found) (step_token first next k c items' s lt ∙ ap (λ z. read_then z (λ o r. before (Leaf o) (parts next next (k - 1) items' r))) f) ∙ before_none found

pub reads_part : (whole : ReadAll) (found : Asts) (first next : Reader) (k : ℕ) (items : List Item) (s : List Tok) (x : Sort) (items' : List Item) (t : Ast) (r : List Tok) (found' : Asts)
    → IsReading whole found first next k items s → 0 < k → items ≡ Part x ∷ items' → first x s ≡ Some (t, r) → found' ≡ joined found (one t)
    → IsReading whole found' next next (k - 1) items' r
reads_part whole found first next k items s x items' t r found' w lt e f h = record {
  same = w.same ∙ ap (λ z. before_all found (parts first next k z s)) e
      ∙ ap (before_all found) (step_part first next k x items' s lt ∙ ap (λ z. read_then z (λ t r. before t (parts next next (k - 1) items' r))) f)
      ∙ sym (before_joined found t (parts next next (k - 1) items' r))
      ∙ sym (ap (λ z. before_all z (parts next next (k - 1) items' r)) h);
}

pub reads_no_part : (whole : ReadAll) (found : Asts) (first next : Reader) (k : ℕ) (items : List Item) (s : List Tok) (x : Sort) (items' : List Item)
    → IsReading whole found first next k items s → 0 < k → items ≡ Part x ∷ items' → first x s ≡ None → whole ≡ None
reads_no_part whole found first next k items s x items' w lt e f =
    w.same ∙ ap (λ z. before_all found (parts first next k z s)) e
    ∙ ap (before_all found) (step_part first next k x items' s lt ∙ ap (λ z. read_then z (λ t r. before t (parts next next (k - 1) items' r))) f) ∙ before_none found

pub reads_row : (whole : ReadAll) (found : Asts) (first next : Reader) (k : ℕ) (items : List Item) (s : List Tok) (row : Row) (items' items'' : List Item)
    → IsReading whole found first next k items s → 0 < k → items ≡ Parts row ∷ items' → items'' ≡ predict row s ++ items'
    → IsReading whole found first next (k - 1) items'' s
reads_row whole found first next k items s row items' items'' w lt e f = record {
  same = w.same ∙ ap (λ z. before_all found (parts first next k z s)) e ∙ ap (before_all found) (step_row first next k row items' s lt)
      ∙ sym (ap (λ z. before_all found (parts first next (k - 1) z s)) f);
}

-- what was looked at so far, and what is still to be looked at
pub record IsLooking (sight : ℕ) (first next : Reader) (sees see : Looker) (k : ℕ) (items : List Item) (s : List Tok) (n : ℕ) : Type 0 where
  pub same : sight ≡ looked_parts first next sees see k items s n

pub looking : (first next : Reader) (sees see : Looker) (k : ℕ) (items : List Item) (s : List Tok) (n : ℕ) → IsLooking (looked_parts first next sees see k items s n) first next sees see k items s n
looking first next sees see k items s n = record { same = refl }

pub looks_end : (sight : ℕ) (first next : Reader) (sees see : Looker) (k : ℕ) (items : List Item) (s : List Tok) (n : ℕ) → IsLooking sight first next sees see k items s n → 0 < k → items ≡ [] → n ≡ sight
unfolding looked_parts
looks_end sight first next sees see k items s n w lt e =
    let go : looked_parts first next sees see k [] s n ≡ n = positive (λ k. looked_parts first next sees see k [] s n ≡ n) k lt (λ j. refl) in
    sym (w.same ∙ ap (λ z. looked_parts first next sees see k z s n) e ∙ go)

pub looks_out : (sight : ℕ) (first next : Reader) (sees see : Looker) (k : ℕ) (items : List Item) (s : List Tok) (n : ℕ) → IsLooking sight first next sees see k items s n → k ≡ 0 → 0 ≡ sight
unfolding looked_parts
looks_out sight first next sees see k items s n w e = sym (w.same ∙ ap (λ z. looked_parts first next sees see z items s n) e)

look_token : (first next : Reader) (sees see : Looker) (k : ℕ) (c : Class) (items : List Item) (s : List Tok) (n : ℕ) → 0 < k
    → looked_parts first next sees see k (One c ∷ items) s n ≡ later (taken c s) (min n (length s)) (λ o r. looked_parts next next see see (k - 1) items r)
unfolding looked_parts
look_token first next sees see zero c items s n lt = absurd (omega arith)
look_token first next sees see (suc k) c items s n lt = let e : k ≡ suc k - 1 = omega arith in ap (λ z. later (taken c s) (min n (length s)) (λ o r. looked_parts next next see see z items r)) e

look_part : (first next : Reader) (sees see : Looker) (k : ℕ) (x : Sort) (items : List Item) (s : List Tok) (n : ℕ) → 0 < k
    → looked_parts first next sees see k (Part x ∷ items) s n ≡ later (first x s) (sees x s n) (λ t r. looked_parts next next see see (k - 1) items r)
unfolding looked_parts
look_part first next sees see zero x items s n lt = absurd (omega arith)
look_part first next sees see (suc k) x items s n lt = let e : k ≡ suc k - 1 = omega arith in ap (λ z. later (first x s) (sees x s n) (λ t r. looked_parts next next see see z items r)) e

look_row : (first next : Reader) (sees see : Looker) (k : ℕ) (row : Row) (items : List Item) (s : List Tok) (n : ℕ) → 0 < k
    → looked_parts first next sees see k (Parts row ∷ items) s n ≡ looked_parts first next sees see (k - 1) (predict row s ++ items) s (min n (reach row s))
unfolding looked_parts
look_row first next sees see zero row items s n lt = absurd (omega arith)
look_row first next sees see (suc k) row items s n lt = let e : k ≡ suc k - 1 = omega arith in ap (λ z. looked_parts first next sees see z (predict row s ++ items) s (min n (reach row s))) e

pub looks_token : (sight : ℕ) (first next : Reader) (sees see : Looker) (k : ℕ) (items : List Item) (s : List Tok) (n : ℕ) (c : Class) (items' : List Item) (x : Tok × List Tok) (m : ℕ)
    → IsLooking sight first next sees see k items s n → 0 < k → items ≡ One c ∷ items' → taken c s ≡ Some x → m ≡ min n (length s) → IsLooking sight next next see see (k - 1) items' x.1 m
looks_token sight first next sees see k items s n c items' x m w lt e f g = record {
  same = w.same ∙ ap (λ z. looked_parts first next sees see k z s n) e ∙ look_token first next sees see k c items' s n lt
      ∙ ap (λ z. later z (min n (length s)) (λ o r. looked_parts next next see see (k - 1) items' r)) f
      ∙ ap (looked_parts next next see see (k - 1) items' x.1) (sym g);
}

pub looks_no_token : (sight : ℕ) (first next : Reader) (sees see : Looker) (k : ℕ) (items : List Item) (s : List Tok) (n : ℕ) (c : Class) (items' : List Item) (m : ℕ)
    → IsLooking sight first next sees see k items s n → 0 < k → items ≡ One c ∷ items' → taken c s ≡ None → m ≡ min n (length s) → m ≡ sight
looks_no_token sight first next sees see k items s n c items' m w lt e f g =
    g ∙ sym (w.same ∙ ap (λ z. looked_parts first next sees see k z s n) e ∙ look_token first next sees see k c items' s n lt
    ∙ ap (λ z. later z (min n (length s)) (λ o r. looked_parts next next see see (k - 1) items' r)) f)

pub looks_part : (sight : ℕ) (first next : Reader) (sees see : Looker) (k : ℕ) (items : List Item) (s : List Tok) (n : ℕ) (x : Sort) (items' : List Item) (t : Ast) (r : List Tok) (m : ℕ)
    → IsLooking sight first next sees see k items s n → 0 < k → items ≡ Part x ∷ items' → first x s ≡ Some (t, r) → m ≡ sees x s n → IsLooking sight next next see see (k - 1) items' r m
looks_part sight first next sees see k items s n x items' t r m w lt e f g = record {
  same = w.same ∙ ap (λ z. looked_parts first next sees see k z s n) e ∙ look_part first next sees see k x items' s n lt
      ∙ ap (λ z. later z (sees x s n) (λ t r. looked_parts next next see see (k - 1) items' r)) f
      ∙ ap (looked_parts next next see see (k - 1) items' r) (sym g);
}

pub looks_no_part : (sight : ℕ) (first next : Reader) (sees see : Looker) (k : ℕ) (items : List Item) (s : List Tok) (n : ℕ) (x : Sort) (items' : List Item)
    → IsLooking sight first next sees see k items s n → 0 < k → items ≡ Part x ∷ items' → first x s ≡ None → sees x s n ≡ sight
looks_no_part sight first next sees see k items s n x items' w lt e f =
    sym (w.same ∙ ap (λ z. looked_parts first next sees see k z s n) e ∙ look_part first next sees see k x items' s n lt
    ∙ ap (λ z. later z (sees x s n) (λ t r. looked_parts next next see see (k - 1) items' r)) f)

pub looks_row : (sight : ℕ) (first next : Reader) (sees see : Looker) (k : ℕ) (items : List Item) (s : List Tok) (n : ℕ) (row : Row) (items' items'' : List Item) (m : ℕ)
    → IsLooking sight first next sees see k items s n → 0 < k → items ≡ Parts row ∷ items' → items'' ≡ predict row s ++ items' → m ≡ min n (reach row s) → IsLooking sight first next sees see (k - 1) items'' s m
looks_row sight first next sees see k items s n row items' items'' m w lt e f g = record {
  same = w.same ∙ ap (λ z. looked_parts first next sees see k z s n) e ∙ look_row first next sees see k row items' s n lt
      ∙ ap (looked_parts first next sees see (k - 1) (predict row s ++ items') s) (sym g)
      ∙ sym (ap (λ z. looked_parts first next sees see (k - 1) z s m) f);
}

pub looked_shallow : (r : ℕ) (x : Sort) (s : List Tok) (n : ℕ) → looked 0 r x s n ≡ n
unfolding looked
looked_shallow r x s n = refl

pub looked_rankless : (d : ℕ) (x : Sort) (s : List Tok) (n : ℕ) → looked d 0 x s n ≡ n
unfolding looked looked_ranked
looked_rankless zero x s n = refl
looked_rankless (suc d) x s n = refl

pub looked_stepped : (d r : ℕ) (x : Sort) (s : List Tok) (n : ℕ) → 0 < d → 0 < r
    → looked d r x s n ≡ looked_step (reader (d - 1 + 1) (r - 1)) (reader (d - 1) 24) (looked (d - 1 + 1) (r - 1)) (looked (d - 1) 24) (d - 1) x s n
unfolding looked looked_ranked reader
looked_stepped zero r x s n lt lr = absurd (omega arith)
looked_stepped (suc d) zero x s n lt lr = absurd (omega arith)
looked_stepped (suc d) (suc r) x s n lt lr =
    let e : d ≡ suc d - 1 = omega arith in
    let f : r ≡ suc r - 1 = omega arith in
    let g : suc d ≡ d + 1 = omega arith in
    ap (λ z. looked_step (reader z r) (reader d 24) (looked z r) (looked d 24) d x s n) g
    ∙ ap (λ z. looked_step (reader (d + 1) z) (reader d 24) (looked (d + 1) z) (looked d 24) d x s n) f
    ∙ ap (λ z. looked_step (reader (z + 1) (suc r - 1)) (reader z 24) (looked (z + 1) (suc r - 1)) (looked z 24) z x s n) e

several : (ts : List Tree) → (length ts ≡ 1 → ⊥) → (d : ℕ) (x : Sort) (s : List Tok) → closed_by d x (views ts) s ≡ guard (nat_le (deepest (views ts)) d) (Some (Node (form_of x) (views ts), s))
several [] f d x s = refl
several (t ∷ []) f d x s = absurd (f refl)
several (t ∷ (u ∷ ts)) f d x s = refl

pub closes_deep : (d : ℕ) (x : Sort) (ts : List Tree) (s : List Tok) → (length ts ≡ 1 → ⊥) → d < deepest (views ts) → closed_by d x (views ts) s ≡ None
closes_deep d x ts s f lt = several ts f d x s ∙ deep_guard (deepest (views ts)) d (Some (Node (form_of x) (views ts), s)) lt

pub closes_node : (d : ℕ) (x : Sort) (ts : List Tree) (s : List Tok) (t : Ast) → (length ts ≡ 1 → ⊥) → deepest (views ts) ≤ d → t ≡ Node (form_of x) (views ts) → closed_by d x (views ts) s ≡ Some (t, s)
closes_node d x ts s t f le e = several ts f d x s ∙ fits_guard (deepest (views ts)) d (Some (Node (form_of x) (views ts), s)) le ∙ ap (λ z. Some (z, s)) (sym e)

pub popped : (old new : List Item) (item it : Item) → old ≡ new ++ (item ∷ []) → item ≡ it → reverse old ≡ it ∷ reverse new
popped old new item it e f = ap reverse e ∙ reverse-append new (item ∷ []) ∙ ap (λ z. z ∷ reverse new) f

pub emptied : (items : List Item) → length items ≡ 0 → reverse items ≡ []
emptied [] e = refl
emptied (item ∷ items) e = absurd (omega (arith, e))

pub no_less : (n : ℕ) → (0 < n → false ≡ true) → n ≡ 0
no_less zero f = refl
no_less (suc n) f = let e : false ≡ true = f (omega arith) in absurd (cc)
