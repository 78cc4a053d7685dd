-- A tree whose choices the text tells is read.
use Rattle.std.proofs.Common.{ℕ, zero, suc, true, ◌≡◌, ◌<◌, ◌≤◌, ◌+◌, ◌*◌, List, [], ◌∷◌, ◌++◌, length, Some, None, nat_le, refl, sym, ◌∙◌, ap, subst, append_assoc, append-nil, length-append, arith}
use Rattle.std.proofs.lemmas.Bool.{le-leb}
use Rattle.wy_tree.specs.Seen.{Tok}
use Rattle.wy_tree.specs.Kinds.{kind_of}
use Rattle.wy_tree.specs.Ast.{Ast, Asts, Leaf, Node, none, more, one, node, tokens, tokens_all, deep, deepest}
use Rattle.wy_tree.specs.Conditions.{fine, joins}
use Rattle.wy_tree.specs.Grammar.{allows, form_of, rule, Alternative}
use Rattle.wy_tree.specs.declared.tree.Form.{Form}
use Rattle.wy_tree.specs.declared.grammar.Class.{Class}
use Rattle.wy_tree.specs.declared.grammar.Sort.{Sort}
use Rattle.wy_tree.specs.declared.grammar.Row.{Row}
use Rattle.wy_tree.specs.declared.grammar.Item.{Item}
use Rattle.wy_tree.specs.declared.grammar.Item.TheVariants.{One, Part, Parts}
use Rattle.wy_parser.specs.Prediction.{predict, continued}
use Rattle.wy_parser.specs.Reading.{Read, ReadAll, Reader, read_then, guard, taken, before, steps, parts, closed_by, closed, Grown, Stay, Onto, onto, grown_by, growing, around, grow_by, grow, base, step, ranked, reader}
use Rattle.wy_parser.proofs.Ways.{continued_is}
use Rattle.wy_parser.proofs.Limits.{height, lead, weight, takers, height_small, rule_lead, rule_light, way_lead, way_light, suffix_light, lead_append, weight_append, takers_append}

mutual
  -- a tree before these tokens, where each choice in it is the one that the tokens tell
  pub data Told : Sort → Ast → List Tok → Type 0 where
    made : {x : Sort} {t : Ast} {ts : Asts} {s : List Tok} → ToldParts (rule x) ts s → fine x ts ≡ true → t ≡ node (form_of x) ts → Told x t s
    grown : {x : Sort} {t l : Ast} {ts : Asts} {s : List Tok} {items : List Item} → Told x l (tokens_all ts ++ s) → continued x (tokens_all ts ++ s) ≡ Some items → ToldParts items ts s
        → joins l ts ≡ true → t ≡ Node (form_of x) (more l ts) → Told x t s

  pub data ToldParts : List Item → Asts → List Tok → Type 0 where
    done : {s : List Tok} → ToldParts [] none s
    token : {c : Class} {o : Tok} {items : List Item} {ts : Asts} {s : List Tok} → allows c (kind_of o) ≡ true → ToldParts items ts s → ToldParts (One c ∷ items) (more (Leaf o) ts) s
    part : {x : Sort} {t : Ast} {items : List Item} {ts : Asts} {s : List Tok} → Told x t (tokens_all ts ++ s) → continued x (tokens_all ts ++ s) ≡ None → 1 ≤ length (tokens t)
        → ToldParts items ts s → ToldParts (Part x ∷ items) (more t ts) s
    chosen : {row : Row} {way items : List Item} {ts : Asts} {s : List Tok} → Alternative row way → predict row (tokens_all ts ++ s) ≡ way → ToldParts (way ++ items) ts s
        → ToldParts (Parts row ∷ items) ts s

-- what a reader of trees of depth at most d, of sorts below a height, has to do
abbrev pub Follows : Reader → ℕ → ℕ → Type 0
Follows self d h = (x : Sort) (t : Ast) (s : List Tok) → Told x t s → continued x s ≡ None → deep t ≤ d → height x < h → self x (tokens t ++ s) ≡ Some (t, s)

deep_pos : (t : Ast) → 1 ≤ deep t
deep_pos (Leaf o) = omega arith
deep_pos (Node f ts) = omega arith

taken_is : (c : Class) (o : Tok) (s : List Tok) → allows c (kind_of o) ≡ true → taken c (o ∷ s) ≡ Some (o, s)
unfolding taken
taken_is c o s e = ap (λ b. guard b (Some (o, s))) e

-- the first part may be as deep as the tree, and the others less deep
abbrev Fits : ℕ → Asts → Type 0
Fits d none = Unit {0}
Fits d (more t ts) = (deep t ≤ suc d) × (deepest ts ≤ d)

-- each item that takes a token has one
takers_light : (items : List Item) (ts : Asts) (s : List Tok) → ToldParts items ts s → takers items ≤ length (tokens_all ts)
takers_light _ _ s done = omega arith
takers_light _ _ s (token {c} {o} {items} {ts} e w) = omega (arith, takers_light items ts s w)
takers_light _ _ s (part {x} {t} {items} {ts} v q pos w) = omega (arith, takers_light items ts s w, pos, length-append (tokens t) (tokens_all ts))
takers_light _ _ s (chosen {row} {way} {items} {ts} a e w) = omega (arith, takers_light (way ++ items) ts s w, takers_append way items)

-- the parts behind the first
parts_later : (next : Reader) (d : ℕ) → Follows next d 24 → (items : List Item) (ts : Asts) (s : List Tok) → ToldParts items ts s → deepest ts ≤ d
    → (k : ℕ) → weight items + 1 + 4 * length (tokens_all ts) ≤ k + 4 * takers items → parts next next k items (tokens_all ts ++ s) ≡ Some (ts, s)
unfolding parts
parts_later next d g _ _ s done short zero le = absurd (omega (arith, le))
parts_later next d g _ _ s done short (suc k) le = refl
parts_later next d g _ _ s (token {c} {o} {items} {ts} e w) short zero le = absurd (omega (arith, le, takers_light items ts s w))
parts_later next d g _ _ s (token {c} {o} {items} {ts} e w) short (suc k) le =
    ap (λ z. read_then z (λ o r. before (Leaf o) (parts next next k items r))) (taken_is c o (tokens_all ts ++ s) e)
    ∙ ap (before (Leaf o)) (parts_later next d g items ts s w (omega (arith, short)) k (omega (arith, le)))
parts_later next d g _ _ s (part {x} {t} {items} {ts} v q pos w) short zero le = absurd (omega (arith, le, pos, length-append (tokens t) (tokens_all ts), takers_light items ts s w))
parts_later next d g _ _ s (part {x} {t} {items} {ts} v q pos w) short (suc k) le =
    let go : Ast → List Tok → ReadAll = λ t r. before t (parts next next k items r) in
    ap (λ z. read_then (next x z) go) (append_assoc (tokens t) (tokens_all ts) s)
    ∙ ap (λ z. read_then z go) (g x t (tokens_all ts ++ s) v q (omega (arith, short)) (height_small x))
    ∙ ap (before t) (parts_later next d g items ts s w (omega (arith, short)) k (omega (arith, le, pos, length-append (tokens t) (tokens_all ts))))
parts_later next d g _ _ s (chosen {row} {way} {items} {ts} a e w) short zero le = absurd (omega (arith, le, takers_light (way ++ items) ts s w, way_light a, weight_append way items, takers_append way items))
parts_later next d g _ _ s (chosen {row} {way} {items} {ts} a e w) short (suc k) le =
    ap (λ z. parts next next k (z ++ items) (tokens_all ts ++ s)) e
    ∙ parts_later next d g (way ++ items) ts s w short k (omega (arith, le, way_light a, weight_append way items, takers_append way items))

-- the parts, the first of which may be as deep as the tree
parts_first : (first next : Reader) (d h : ℕ) → Follows first (suc d) h → Follows next d 24 → (items : List Item) (ts : Asts) (s : List Tok) → ToldParts items ts s → lead items ≤ h → Fits d ts
    → (k : ℕ) → weight items + 1 + 4 * length (tokens_all ts) ≤ k + 4 * takers items → parts first next k items (tokens_all ts ++ s) ≡ Some (ts, s)
unfolding parts
parts_first first next d h f g _ _ s done high fit zero le = absurd (omega (arith, le))
parts_first first next d h f g _ _ s done high fit (suc k) le = refl
parts_first first next d h f g _ _ s (token {c} {o} {items} {ts} e w) high fit zero le = absurd (omega (arith, le, takers_light items ts s w))
parts_first first next d h f g _ _ s (token {c} {o} {items} {ts} e w) high fit (suc k) le =
    ap (λ z. read_then z (λ o r. before (Leaf o) (parts next next k items r))) (taken_is c o (tokens_all ts ++ s) e)
    ∙ ap (before (Leaf o)) (parts_later next d g items ts s w fit.1 k (omega (arith, le)))
parts_first first next d h f g _ _ s (part {x} {t} {items} {ts} v q pos w) high fit zero le = absurd (omega (arith, le, pos, length-append (tokens t) (tokens_all ts), takers_light items ts s w))
parts_first first next d h f g _ _ s (part {x} {t} {items} {ts} v q pos w) high fit (suc k) le =
    let go : Ast → List Tok → ReadAll = λ t r. before t (parts next next k items r) in
    ap (λ z. read_then (first x z) go) (append_assoc (tokens t) (tokens_all ts) s)
    ∙ ap (λ z. read_then z go) (f x t (tokens_all ts ++ s) v q fit.0 (omega (arith, high)))
    ∙ ap (before t) (parts_later next d g items ts s w fit.1 k (omega (arith, le, pos, length-append (tokens t) (tokens_all ts))))
parts_first first next d h f g _ _ s (chosen {row} {way} {items} {ts} a e w) high fit zero le = absurd (omega (arith, le, takers_light (way ++ items) ts s w, way_light a, weight_append way items, takers_append way items))
parts_first first next d h f g _ _ s (chosen {row} {way} {items} {ts} a e w) high fit (suc k) le =
    ap (λ z. parts first next k (z ++ items) (tokens_all ts ++ s)) e
    ∙ parts_first first next d h f g (way ++ items) ts s w (omega (arith, high, way_lead a, lead_append way items)) fit k (omega (arith, le, way_light a, weight_append way items, takers_append way items))

node_tokens : (f : Form) (ts : Asts) (s : List Tok) → tokens (node f ts) ++ s ≡ tokens_all ts ++ s
node_tokens f none s = refl
node_tokens f (more t none) s = sym (ap (λ z. z ++ s) (append-nil (tokens t)))
node_tokens f (more t (more u ts)) s = refl

node_fits : (d : ℕ) (f : Form) (ts : Asts) → deep (node f ts) ≤ suc d → Fits d ts
node_fits d f none le = tt
node_fits d f (more t none) le = (le, omega arith)
node_fits d f (more t (more u ts)) le = (omega (arith, le), omega (arith, le))

closed_is : (d : ℕ) (x : Sort) (ts : Asts) (s : List Tok) → fine x ts ≡ true → deep (node (form_of x) ts) ≤ suc d → closed d x ts s ≡ Some (node (form_of x) ts, s)
unfolding closed
closed_is d x none s e le = ap (λ b. guard b (closed_by d x none s)) e ∙ ap (λ b. guard b (Some (Node (form_of x) none, s))) (le-leb 0 d (omega arith))
closed_is d x (more t none) s e le = ap (λ b. guard b (closed_by d x (one t) s)) e
closed_is d x (more t (more u ts)) s e le =
    let all = more t (more u ts) in
    ap (λ b. guard b (closed_by d x all s)) e ∙ ap (λ b. guard b (Some (Node (form_of x) all, s))) (le-leb (deepest all) d (omega (arith, le)))

-- growing comes to this tree and what follows it
record ComesTo (grow : Ast → List Tok → Grown) (d : ℕ) (all : Read) (t : Ast) (s : List Tok) : Type 0 where
  fuel : ℕ
  enough : suc (suc d) ≤ fuel + deep t
  comes : all ≡ growing grow fuel t s

grows : (grow : Ast → List Tok → Grown) (k : ℕ) (l : Ast) (s : List Tok) (g : Grown) → grow l s ≡ g → growing grow (suc k) l s ≡ grown_by g (growing grow k) (Some (l, s))
unfolding growing
grows grow k l s g e = ap (λ z. grown_by z (growing grow k) (Some (l, s))) e

comes_on : (grow : Ast → List Tok → Grown) (d : ℕ) (all : Read) (l : Ast) (s : List Tok) (t : Ast) (r : List Tok) → ComesTo grow d all l s → deep l ≤ d → deep l < deep t → grow l s ≡ Onto t r → ComesTo grow d all t r
comes_on grow d all l s t r c short lt e =
    let by : (k : ℕ) → suc (suc d) ≤ k + deep l → all ≡ growing grow k l s → ComesTo grow d all t r =
    elim [ zero ↦ λ le f. absurd (omega (arith, le, short)) | suc k ↦ λ le f. record { fuel = k; enough = omega (arith, le, lt); comes = f ∙ grows grow k l s (Onto t r) e } ] in
    by c.fuel c.enough c.comes

comes_to_end : (grow : Ast → List Tok → Grown) (d : ℕ) (all : Read) (t : Ast) (s : List Tok) → ComesTo grow d all t s → deep t ≤ suc d → grow t s ≡ Stay → all ≡ Some (t, s)
comes_to_end grow d all t s c short e =
    let by : (k : ℕ) → suc (suc d) ≤ k + deep t → all ≡ growing grow k t s → all ≡ Some (t, s) =
    elim [ zero ↦ λ le f. absurd (omega (arith, le, short)) | suc k ↦ λ le f. f ∙ grows grow k t s Stay e ] in
    by c.fuel c.enough c.comes

module _ (first next : Reader) (d h : ℕ) (f : Follows first (suc d) h) (g : Follows next d 24) where
  base_is : (x : Sort) (ts : Asts) (s : List Tok) → ToldParts (rule x) ts s → fine x ts ≡ true → deep (node (form_of x) ts) ≤ suc d → height x ≤ h → base first next d x (tokens (node (form_of x) ts) ++ s) ≡ Some (node (form_of x) ts, s)
  unfolding base
  base_is x ts s w e le high =
      let all = tokens_all ts ++ s in
      let enough : weight (rule x) + 1 + 4 * length (tokens_all ts) ≤ steps all + 4 * takers (rule x) = omega (arith, rule_light x, length-append (tokens_all ts) s) in
      ap (base first next d x) (node_tokens (form_of x) ts s)
      ∙ ap (λ z. read_then z (closed d x)) (parts_first first next d h f g (rule x) ts s w (omega (arith, rule_lead x, high)) (node_fits d (form_of x) ts le) (steps all) enough)
      ∙ closed_is d x ts s e le

  grow_is : (x : Sort) (l : Ast) (ts : Asts) (s : List Tok) (items : List Item) → continued x (tokens_all ts ++ s) ≡ Some items → ToldParts items ts s → joins l ts ≡ true → deepest (more l ts) ≤ d
      → grow next d x l (tokens_all ts ++ s) ≡ Onto (Node (form_of x) (more l ts)) s
  unfolding grow around
  grow_is x l ts s items q w e le =
      let all = tokens_all ts ++ s in
      let enough : weight items + 1 + 4 * length (tokens_all ts) ≤ steps all + 4 * takers items = omega (arith, suffix_light (continued_is x all items q), length-append (tokens_all ts) s) in
      ap (λ z. grow_by next d x l z all) q
      ∙ ap (λ z. onto (read_then z (around d x l))) (parts_later next d g items ts s w (omega (arith, le)) (steps all) enough)
      ∙ ap (λ b. onto (guard b (guard (nat_le (deepest (more l ts)) d) (Some (Node (form_of x) (more l ts), s))))) e
      ∙ ap (λ b. onto (guard b (Some (Node (form_of x) (more l ts), s)))) (le-leb (deepest (more l ts)) d le)

  told_comes : (x : Sort) (t : Ast) (s : List Tok) → Told x t s → deep t ≤ suc d → height x ≤ h
      → ComesTo (grow next d x) d (read_then (base first next d x (tokens t ++ s)) (growing (grow next d x) (suc (suc d)))) t s
  told_comes x t s (made {ts} w e q) le high =
      let n = node (form_of x) ts in
      subst (λ z. ComesTo (grow next d x) d (read_then (base first next d x (tokens z ++ s)) (growing (grow next d x) (suc (suc d)))) z s) (sym q)
      (record { fuel = suc (suc d); enough = omega arith; comes = ap (λ z. read_then z (growing (grow next d x) (suc (suc d)))) (base_is x ts s w e (subst (λ z. deep z ≤ suc d) q le) high) })
  told_comes x t s (grown {l} {ts} {items} v c w e q) le high =
      let n = Node (form_of x) (more l ts) in
      let le' : deep n ≤ suc d = subst (λ z. deep z ≤ suc d) q le in
      let all = tokens_all ts ++ s in
      let i = told_comes x l all v (omega (arith, le')) high in
      let j : ComesTo (grow next d x) d (read_then (base first next d x (tokens l ++ all)) (growing (grow next d x) (suc (suc d)))) n s =
      comes_on (grow next d x) d (read_then (base first next d x (tokens l ++ all)) (growing (grow next d x) (suc (suc d)))) l all n s i (omega (arith, le')) (omega arith) (grow_is x l ts s items c w e (omega (arith, le'))) in
      subst (λ z. ComesTo (grow next d x) d (read_then (base first next d x (tokens z ++ s)) (growing (grow next d x) (suc (suc d)))) z s) (sym q)
      (subst (λ z. ComesTo (grow next d x) d (read_then (base first next d x z) (growing (grow next d x) (suc (suc d)))) n s) (sym (append_assoc (tokens l) (tokens_all ts) s)) j)

  stays : (x : Sort) (t : Ast) (s : List Tok) → continued x s ≡ None → grow next d x t s ≡ Stay
  unfolding grow
  stays x t s e = ap (λ z. grow_by next d x t z s) e

  step_follows : Follows (step first next d) (suc d) (suc h)
  step_follows x t s w q le high =
      comes_to_end (grow next d x) d (read_then (base first next d x (tokens t ++ s)) (growing (grow next d x) (suc (suc d)))) t s (told_comes x t s w le (omega (arith, high))) le (stays x t s q)

ranked_follows : (next : Reader) (d : ℕ) → Follows next d 24 → (rank : ℕ) → Follows (ranked next d rank) (suc d) rank
unfolding ranked
ranked_follows next d g zero x t s w q le high = absurd (omega (arith, high))
ranked_follows next d g (suc rank) x t s w q le high = step_follows (ranked next d rank) next d rank (ranked_follows next d g rank) g x t s w q le high

pub reader_follows : (d : ℕ) → Follows (reader d 24) d 24
unfolding reader
reader_follows zero x t s w q le high = absurd (omega (arith, le, deep_pos t))
reader_follows (suc d) x t s w q le high = ranked_follows (reader d 24) d (reader_follows d) 24 x t s w q le high
