-- What reading looks at never grows, and reading depends on no token behind the last one that it looks at.
use Rattle.std.proofs.Common.{Bool, true, false, not, ◌&&◌, if◌then◌else◌, ◌≡◌, ◌<◌, ◌≤◌, ◌+◌, ◌-◌, ℕ, zero, suc, List, [], ◌∷◌, ◌++◌, Option, Some, None, Result, Ok, Err, length, nat_le, append-nil, refl, sym, ◌∙◌, ap, subst, arith}
use Rattle.std.specs.Prelude.{min, is_some, reverse}
use Rattle.std.proofs.lemmas.List.{length-map}
use Rattle.wy_tree.specs.Seen.{Tok}
use Rattle.wy_tree.specs.Kinds.{kind_of}
use Rattle.wy_tree.specs.Ast.{Ast, Asts, Leaf, Node, none, more, deepest}
use Rattle.wy_tree.specs.Conditions.{is_sign, is_signed, fine, joins, brackets}
use Rattle.wy_tree.specs.Grammar.{a, name, tighter, allows, form_of, rule, Suffix}
use Rattle.wy_tree.specs.Grammar as grammar
use Rattle.wy_tree.specs.declared.kind.Kind.{Kind}
use Rattle.wy_tree.specs.declared.kind.Kind.TheVariants as kinds
use Rattle.wy_tree.specs.declared.grammar.Class.{Class}
use Rattle.wy_tree.specs.declared.grammar.Class.TheVariants.{Exactly}
use Rattle.wy_tree.specs.declared.grammar.Sort.{Sort}
use Rattle.wy_tree.specs.declared.grammar.Sort.TheVariants as sorts
use Rattle.wy_tree.specs.declared.grammar.Row.TheVariants as rows
use Rattle.wy_tree.specs.declared.grammar.Item.{Item}
use Rattle.wy_tree.specs.declared.grammar.Item.TheVariants.{One, Part, Parts}
use Rattle.wy_parser.specs.Symbols.{symbols_seen}
use Rattle.wy_parser.specs.declared.symbol.Symbol.{Symbol}
use Rattle.wy_parser.specs.Prediction.{first_kind, predict, continued, continued_by}
use Rattle.wy_parser.specs.Rules.{items_of}
use Rattle.wy_parser.specs.Parsed.{GivesGrown, Looks}
use Rattle.wy_parser.specs.declared.stop.Stop.{Stop}
use Rattle.wy_parser.specs.declared.stop.Stop.TheVariants as stops
use Rattle.wy_parser.specs.declared.stop.Growth.{Growth}
use Rattle.wy_parser.specs.Reading.{Read, ReadAll, Reader, read_then, guard, taken, before, parts, steps, closed_by, closed, Grown, Stay, Wrong, Onto, onto, grown_by, growing, around, grow_by, grow, base, step, ranked, reader}
use Rattle.wy_parser.specs.Looks.{reach, refuses_sign, refuses_element, Looker, later, looked_parts, grown_later, looked_growing, looked_grow_by, looked_grow, looked_base, looked_step, looked_ranked, looked}
use Rattle.wy_parser.proofs.Runs.{step_token, step_part}
use Rattle.wy_parser.proofs.Ways.{continued_is}
use Rattle.wy_parser.proofs.Sound.{Sound, reader_sound}
use Rattle.wy_parser.proofs.Expressions.{signed_unary}
use Rattle.wy_parser.proofs.Sights.{same_way, less_not, le_same, le_then, less_then}

pub length_seen : (s : List Symbol) → length (symbols_seen s) ≡ length s
length_seen s = simp length-map refl

pub min_left : (n m : ℕ) → min n m ≤ n
min_left n m = omega arith

pub min_right : (n m : ℕ) → min n m ≤ m
min_right n m = omega arith

no_less : (n : ℕ) → n < 0 → ⊥
no_less n h = omega (arith, h)

all_more : (n : ℕ) → 0 ≤ n
all_more n = omega arith

-- what was looked at before stays looked at
abbrev pub Falls : Looker → Type 0
Falls see = (x : Sort) (s : List Tok) (n : ℕ) → see x s n ≤ n

later_falls : {A : Type 0} (r : Option (A × List Tok)) (n : ℕ) (go : A → List Tok → ℕ → ℕ) → ((t : A) (s : List Tok) (m : ℕ) → go t s m ≤ m) → later r n go ≤ n
later_falls None n go f = le_same n
later_falls (Some x) n go f = f x.0 x.1 n

parts_fall : (first next : Reader) (sees see : Looker) → Falls sees → Falls see → (k : ℕ) (items : List Item) (s : List Tok) (n : ℕ) → looked_parts first next sees see k items s n ≤ n
unfolding looked_parts
parts_fall first next sees see f g zero items s n = all_more n
parts_fall first next sees see f g (suc k) [] s n = le_same n
parts_fall first next sees see f g (suc k) (One c ∷ items) s n =
    le_then _ _ _ (later_falls (taken c s) (min n (length s)) (λ o r m. looked_parts next next see see k items r m) (λ o r m. parts_fall next next see see g g k items r m)) (min_left n (length s))
parts_fall first next sees see f g (suc k) (Part x ∷ items) s n =
    le_then _ _ _ (later_falls (first x s) (sees x s n) (λ t r m. looked_parts next next see see k items r m) (λ t r m. parts_fall next next see see g g k items r m)) (f x s n)
parts_fall first next sees see f g (suc k) (Parts row ∷ items) s n =
    le_then _ _ _ (parts_fall first next sees see f g k (predict row s ++ items) s (min n (reach row s))) (min_left n (reach row s))

grown_falls : (g : Grown) (n : ℕ) (go : Ast → List Tok → ℕ → ℕ) → ((t : Ast) (s : List Tok) (m : ℕ) → go t s m ≤ m) → grown_later g n go ≤ n
grown_falls Stay n go f = le_same n
grown_falls Wrong n go f = le_same n
grown_falls (Onto t s) n go f = f t s n

growing_falls : (grow : Ast → List Tok → Grown) (look : Ast → List Tok → ℕ → ℕ) → ((l : Ast) (s : List Tok) (n : ℕ) → look l s n ≤ n) → (k : ℕ) (l : Ast) (s : List Tok) (n : ℕ) → looked_growing grow look k l s n ≤ n
unfolding looked_growing
growing_falls grow look f zero l s n = all_more n
growing_falls grow look f (suc k) l s n =
    le_then _ _ _ (grown_falls (grow l s) (look l s n) (looked_growing grow look k) (λ t r m. growing_falls grow look f k t r m)) (f l s n)

grow_by_falls : (next : Reader) (see : Looker) → Falls see → (b : Bool) (items : Option (List Item)) (s : List Tok) (n : ℕ) → looked_grow_by next see b items s n ≤ n
grow_by_falls next see f b None s n = le_same n
grow_by_falls next see f true (Some items) s n = le_same n
grow_by_falls next see f false (Some items) s n = parts_fall next next see see f f (steps s) items s n

grow_falls : (next : Reader) (see : Looker) → Falls see → (x : Sort) (l : Ast) (s : List Tok) (n : ℕ) → looked_grow next see x l s n ≤ n
unfolding looked_grow
grow_falls next see f x l s n =
    le_then _ _ _ (grow_by_falls next see f (refuses_element l (first_kind s)) (continued x s) s (min n (length s))) (min_left n (length s))

base_falls : (first next : Reader) (sees see : Looker) → Falls sees → Falls see → (x : Sort) (s : List Tok) (n : ℕ) → looked_base first next sees see x s n ≤ n
unfolding looked_base
base_falls first next sees see f g x s n = by (refuses_sign x (first_kind s)) (parts_fall first next sees see f g (steps s) (rule x) s n)
  where
    by : (b : Bool) → looked_parts first next sees see (steps s) (rule x) s n ≤ n → (if b then min n (length s) else looked_parts first next sees see (steps s) (rule x) s n) ≤ n
    by true e = min_left n (length s)
    by false e = e

step_falls : (first next : Reader) (sees see : Looker) (d : ℕ) → Falls sees → Falls see → Falls (looked_step first next sees see d)
step_falls first next sees see d f g x s n =
    le_then _ _ _
    (later_falls (base first next d x s) (looked_base first next sees see x s n) (looked_growing (grow next d x) (looked_grow next see x) (suc (suc d)))
    (λ t r m. growing_falls (grow next d x) (looked_grow next see x) (grow_falls next see g x) (suc (suc d)) t r m))
    (base_falls first next sees see f g x s n)

ranked_falls : (next : Reader) (see : Looker) (d : ℕ) → Falls see → (rank : ℕ) → Falls (looked_ranked next see d rank)
unfolding looked_ranked
ranked_falls next see d f zero x s n = le_same n
ranked_falls next see d f (suc rank) x s n = step_falls (ranked next d rank) next (looked_ranked next see d rank) see d (ranked_falls next see d f rank) f x s n

pub looked_falls : (d rank : ℕ) → Falls (looked d rank)
unfolding looked
looked_falls zero rank x s n = le_same n
looked_falls (suc d) rank x s n = ranked_falls (reader d 24) (looked d 24) d (looked_falls d 24) rank x s n

-- What is read of a front before u, and before v: nothing before v, or the same, and the same of the front is left.
pub data Alike {A : Type 0} (u v : List Tok) (r r' : Option (A × List Tok)) : Type 0 where
  lost : r' ≡ None → Alike u v r r'
  alike : (t : A) (q : List Tok) → r ≡ Some (t, q ++ u) → r' ≡ Some (t, q ++ v) → Alike u v r r'

abbrev pub AlikeBy : Reader → Looker → Type 0
AlikeBy read look = (x : Sort) (p u v : List Tok) (n : ℕ) → length u < look x (p ++ u) n → Alike u v (read x (p ++ u)) (read x (p ++ v))

alike_from : {A : Type 0} {u v : List Tok} {r r' s s' : Option (A × List Tok)} → r ≡ s → r' ≡ s' → Alike u v s s' → Alike u v r r'
alike_from e e' (lost f) = lost (e' ∙ f)
alike_from e e' (alike t q f f') = alike t q (e ∙ f) (e' ∙ f')

guard_alike : {A : Type 0} {u v : List Tok} {r r' : Option (A × List Tok)} (b : Bool) → Alike u v r r' → Alike u v (guard b r) (guard b r')
guard_alike true a = a
guard_alike false a = lost refl

-- one after another
read_alike : {A B : Type 0} (u v : List Tok) (r r' : Option (A × List Tok)) (go go' : A → List Tok → Option (B × List Tok)) → Alike u v r r' → ((t : A) (q : List Tok) → Alike u v (go t (q ++ u)) (go' t (q ++ v)))
    → Alike u v (read_then r go) (read_then r' go')
read_alike u v r r' go go' (lost e) g = lost (ap (λ z. read_then z go') e)
read_alike u v r r' go go' (alike t q e e') g = alike_from (ap (λ z. read_then z go) e) (ap (λ z. read_then z go') e') (g t q)

then_alike : {A B : Type 0} (u v : List Tok) (r r' : Option (A × List Tok)) (go go' : A → List Tok → Option (B × List Tok)) (n : ℕ) (look : A → List Tok → ℕ → ℕ)
    → ((t : A) (s : List Tok) (m : ℕ) → look t s m ≤ m) → length u < later r n look
    → (length u < n → Alike u v r r') → ((t : A) (q : List Tok) → length u < look t (q ++ u) n → Alike u v (go t (q ++ u)) (go' t (q ++ v)))
    → Alike u v (read_then r go) (read_then r' go')
then_alike {A} {B} u v r r' go go' n look falls h f g = by (f (less_then _ _ _ h (later_falls r n look falls)))
  where
    by : Alike u v r r' → Alike u v (read_then r go) (read_then r' go')
    by (lost e) = lost (ap (λ z. read_then z go') e)
    by (alike t q e e') =
        alike_from (ap (λ z. read_then z go) e) (ap (λ z. read_then z go') e') (g t q (subst (λ z. length u < later z n look) e h))

before_alike : (t : Ast) (u v : List Tok) (r r' : ReadAll) → Alike u v r r' → Alike u v (before t r) (before t r')
before_alike t u v r r' (lost e) = lost (ap (before t) e)
before_alike t u v r r' (alike ts q e e') = alike (more t ts) q (ap (before t) e) (ap (before t) e')

taken_alike : (c : Class) (p u v : List Tok) (n : ℕ) → length u < min n (length (p ++ u)) → Alike u v (taken c (p ++ u)) (taken c (p ++ v))
unfolding taken
taken_alike c [] u v n h = absurd (less_not (length u) _ h (min_right n (length u)))
taken_alike c (o ∷ p) u v n h = guard_alike (allows c (kind_of o)) (alike o p refl refl)

parts_alike : (first next : Reader) (sees see : Looker) → AlikeBy first sees → AlikeBy next see → Falls sees → Falls see → (k k' : ℕ) (items : List Item) (p u v : List Tok) (n : ℕ)
    → length u < looked_parts first next sees see k items (p ++ u) n → Alike u v (parts first next k items (p ++ u)) (parts first next k' items (p ++ v))
unfolding parts looked_parts
parts_alike first next sees see a b f g zero k' items p u v n h = absurd (no_less (length u) h)
parts_alike first next sees see a b f g (suc k) zero items p u v n h = lost refl
parts_alike first next sees see a b f g (suc k) (suc k') [] p u v n h = alike none p refl refl
parts_alike first next sees see a b f g (suc k) (suc k') (One c ∷ items) p u v n h =
    then_alike u v (taken c (p ++ u)) (taken c (p ++ v)) (λ o r. before (Leaf o) (parts next next k items r)) (λ o r. before (Leaf o) (parts next next k' items r))
    (min n (length (p ++ u))) (λ o r m. looked_parts next next see see k items r m) (λ o r m. parts_fall next next see see g g k items r m) h (taken_alike c p u v n)
    (λ o q i. before_alike (Leaf o) u v _ _ (parts_alike next next see see b b g g k k' items q u v (min n (length (p ++ u))) i))
parts_alike first next sees see a b f g (suc k) (suc k') (Part x ∷ items) p u v n h =
    then_alike u v (first x (p ++ u)) (first x (p ++ v)) (λ t r. before t (parts next next k items r)) (λ t r. before t (parts next next k' items r))
    (sees x (p ++ u) n) (λ t r m. looked_parts next next see see k items r m) (λ t r m. parts_fall next next see see g g k items r m) h (a x p u v n)
    (λ t q i. before_alike t u v _ _ (parts_alike next next see see b b g g k k' items q u v (sees x (p ++ u) n) i))
parts_alike first next sees see a b f g (suc k) (suc k') (Parts row ∷ items) p u v n h =
    let m = min n (reach row (p ++ u)) in
    let e = less_then (length u) _ m h (parts_fall first next sees see f g k (predict row (p ++ u) ++ items) (p ++ u) m) in
    let same_one = same_way row p u v (less_then (length u) m _ e (min_right n (reach row (p ++ u)))) in
    subst (λ z. Alike u v (parts first next k (predict row (p ++ u) ++ items) (p ++ u)) (parts first next k' (z ++ items) (p ++ v))) same_one
    (parts_alike first next sees see a b f g k k' (predict row (p ++ u) ++ items) p u v m h)

closed_by_alike : (d : ℕ) (x : Sort) (ts : Asts) (q u v : List Tok) → Alike u v (closed_by d x ts (q ++ u)) (closed_by d x ts (q ++ v))
closed_by_alike d x none q u v = guard_alike (nat_le (deepest none) d) (alike (Node (form_of x) none) q refl refl)
closed_by_alike d x (more t none) q u v = alike t q refl refl
closed_by_alike d x (more t (more t' ts)) q u v = guard_alike (nat_le (deepest (more t (more t' ts))) d) (alike (Node (form_of x) (more t (more t' ts))) q refl refl)

closed_alike : (d : ℕ) (x : Sort) (ts : Asts) (q u v : List Tok) → Alike u v (closed d x ts (q ++ u)) (closed d x ts (q ++ v))
unfolding closed
closed_alike d x ts q u v = guard_alike (fine x ts) (closed_by_alike d x ts q u v)

around_alike : (d : ℕ) (x : Sort) (l : Ast) (ts : Asts) (q u v : List Tok) → Alike u v (around d x l ts (q ++ u)) (around d x l ts (q ++ v))
unfolding around
around_alike d x l ts q u v = guard_alike (joins l ts) (guard_alike (nat_le (deepest (more l ts)) d) (alike (Node (form_of x) (more l ts)) q refl refl))

-- the same of what grows
data AlikeGrown (u v : List Tok) (g g' : Grown) : Type 0 where
  no_growth : g' ≡ Wrong → AlikeGrown u v g g'
  stays : g ≡ Stay → g' ≡ Stay → AlikeGrown u v g g'
  grows : (t : Ast) (q : List Tok) → g ≡ Onto t (q ++ u) → g' ≡ Onto t (q ++ v) → AlikeGrown u v g g'

onto_alike : (u v : List Tok) (r r' : Read) → Alike u v r r' → AlikeGrown u v (onto r) (onto r')
onto_alike u v r r' (lost e) = no_growth (ap onto e)
onto_alike u v r r' (alike t q e e') = grows t q (ap onto e) (ap onto e')

-- nothing stands behind a tree that refuses the first token
refused_by : (l : Ast) (d : ℕ) (x : Sort) (c : Class) (s : List Tok) (go : List Tok → ReadAll) → refuses_element l (first_kind s) ≡ true
    → read_then (read_then (taken c s) (λ o r. before (Leaf o) (go r))) (around d x l) ≡ None
unfolding taken around
refused_by l d x c [] go e = refl
refused_by l d x c (o ∷ s) go e = by (allows c (kind_of o)) (go s) refl
  where
    by : (b : Bool) (r : ReadAll) → go s ≡ r → read_then (read_then (guard b (Some (o, s))) (λ o' r'. before (Leaf o') (go r'))) (around d x l) ≡ None
    by false r f = refl
    by true None f = ap (λ z. read_then (before (Leaf o) z) (around d x l)) f
    by true (Some y) f =
        ap (λ z. read_then (before (Leaf o) z) (around d x l)) f
        ∙ ap (λ z. guard (not z) (guard (nat_le (deepest (more l (more (Leaf o) y.0))) d) (Some (Node (form_of x) (more l (more (Leaf o) y.0)), y.1)))) e

steps_left : (s : List Tok) → 0 < steps s - 1
steps_left s = omega arith

steps_positive : (s : List Tok) → 0 < steps s
steps_positive s = omega arith

suffix_refused : (next : Reader) (d : ℕ) (x : Sort) (l : Ast) (items : List Item) (k : ℕ) (s : List Tok) → 0 < k → Suffix x items → refuses_element l (first_kind s) ≡ true
    → read_then (parts next next k items s) (around d x l) ≡ None
suffix_refused next d _ l _ k s lt (grammar.operator {x} {k = j} f) e =
    ap (λ z. read_then z (around d x l)) (step_token next next k (Exactly j) (Part (tighter x) ∷ []) s lt)
    ∙ refused_by l d x (Exactly j) s (λ r. parts next next (k - 1) (Part (tighter x) ∷ []) r) e
suffix_refused next d _ l _ k s lt grammar.instance_of e =
    ap (λ z. read_then z (around d sorts.Relation l)) (step_token next next k (Exactly kinds.Instanceof) (Part sorts.RefType ∷ []) s lt)
    ∙ refused_by l d sorts.Relation (Exactly kinds.Instanceof) s (λ r. parts next next (k - 1) (Part sorts.RefType ∷ []) r) e
suffix_refused next d _ l _ k s lt grammar.member e =
    ap (λ z. read_then z (around d sorts.Primary l)) (step_token next next k (Exactly kinds.Dot) (name ∷ Parts (rows.Maybe sorts.Args) ∷ []) s lt)
    ∙ refused_by l d sorts.Primary (Exactly kinds.Dot) s (λ r. parts next next (k - 1) (name ∷ Parts (rows.Maybe sorts.Args) ∷ []) r) e
suffix_refused next d _ l _ k s lt grammar.element e =
    ap (λ z. read_then z (around d sorts.Primary l)) (step_token next next k (Exactly kinds.OpenBracket) (Part sorts.Expr ∷ a kinds.CloseBracket ∷ []) s lt)
    ∙ refused_by l d sorts.Primary (Exactly kinds.OpenBracket) s (λ r. parts next next (k - 1) (Part sorts.Expr ∷ a kinds.CloseBracket ∷ []) r) e

pub element_refused : (next : Reader) (d : ℕ) (x : Sort) (l : Ast) (items : List Item) (s : List Tok) → continued x s ≡ Some items → refuses_element l (first_kind s) ≡ true → grow next d x l s ≡ Wrong
unfolding grow
element_refused next d x l items s c e =
    ap (λ z. grow_by next d x l z s) c ∙ ap onto (suffix_refused next d x l items (steps s) s (steps_positive s) (continued_is x s items c) e)

same_continued : (x : Sort) (o : Tok) (s s' : List Tok) → continued x (o ∷ s) ≡ continued x (o ∷ s')
same_continued sorts.Relation o s s' = refl
same_continued sorts.Primary o s s' = refl
same_continued x o s s' = refl

grow_by_alike : (next : Reader) (see : Looker) → AlikeBy next see → Falls see → (d : ℕ) (x : Sort) (l : Ast) (o : Tok) (p u v : List Tok) (n : ℕ) (b : Bool) (items : Option (List Item))
    → refuses_element l (kind_of o) ≡ b → continued x (o ∷ (p ++ u)) ≡ items → length u < looked_grow_by next see b items (o ∷ (p ++ u)) n
    → AlikeGrown u v (grow_by next d x l items (o ∷ (p ++ u))) (grow_by next d x l items (o ∷ (p ++ v)))
grow_by_alike next see f g d x l o p u v n b None e c h = stays refl refl
grow_by_alike next see f g d x l o p u v n true (Some items) e c h =
    let s = o ∷ (p ++ v) in
    no_growth (ap onto (suffix_refused next d x l items (steps s) s (steps_positive s) (continued_is x (o ∷ (p ++ u)) items c) e))
grow_by_alike next see f g d x l o p u v n false (Some items) e c h =
    let s = o ∷ (p ++ u) in
    let s' = o ∷ (p ++ v) in
    onto_alike u v (read_then (parts next next (steps s) items s) (around d x l)) (read_then (parts next next (steps s') items s') (around d x l))
    (read_alike u v (parts next next (steps s) items s) (parts next next (steps s') items s') (around d x l) (around d x l)
    (parts_alike next next see see f f g g (steps s) (steps s') items (o ∷ p) u v n h) (λ ts q. around_alike d x l ts q u v))

grow_alike : (next : Reader) (see : Looker) → AlikeBy next see → Falls see → (d : ℕ) (x : Sort) (l : Ast) (p u v : List Tok) (n : ℕ)
    → length u < looked_grow next see x l (p ++ u) n → AlikeGrown u v (grow next d x l (p ++ u)) (grow next d x l (p ++ v))
unfolding looked_grow grow
grow_alike next see f g d x l [] u v n h =
    absurd (less_not (length u) _ (less_then _ _ _ h (grow_by_falls next see g (refuses_element l (first_kind u)) (continued x u) u (min n (length u)))) (min_right n (length u)))
grow_alike next see f g d x l (o ∷ p) u v n h =
    subst (λ z. AlikeGrown u v (grow_by next d x l (continued x (o ∷ (p ++ u))) (o ∷ (p ++ u))) (grow_by next d x l z (o ∷ (p ++ v)))) (same_continued x o (p ++ u) (p ++ v))
    (grow_by_alike next see f g d x l o p u v (min n (length (o ∷ (p ++ u)))) (refuses_element l (kind_of o)) (continued x (o ∷ (p ++ u))) refl refl h)

growing_alike : (u v : List Tok) (grow : Ast → List Tok → Grown) (look : Ast → List Tok → ℕ → ℕ) → ((l : Ast) (s : List Tok) (n : ℕ) → look l s n ≤ n)
    → ((l : Ast) (p : List Tok) (n : ℕ) → length u < look l (p ++ u) n → AlikeGrown u v (grow l (p ++ u)) (grow l (p ++ v)))
    → (k : ℕ) (l : Ast) (p : List Tok) (n : ℕ) → length u < looked_growing grow look k l (p ++ u) n → Alike u v (growing grow k l (p ++ u)) (growing grow k l (p ++ v))
unfolding looked_growing growing
growing_alike u v grow look f g zero l p n h = absurd (no_less (length u) h)
growing_alike u v grow look f g (suc k) l p n h =
    by (g l p n (less_then _ _ _ h (grown_falls (grow l (p ++ u)) (look l (p ++ u) n) (looked_growing grow look k) (λ t r m. growing_falls grow look f k t r m))))
    (λ t q i. growing_alike u v grow look f g k t q (look l (p ++ u) n) i)
  where
    by : AlikeGrown u v (grow l (p ++ u)) (grow l (p ++ v)) → ((t : Ast) (q : List Tok) → length u < looked_growing grow look k t (q ++ u) (look l (p ++ u) n) → Alike u v (growing grow k t (q ++ u)) (growing grow k t (q ++ v)))
        → Alike u v (grown_by (grow l (p ++ u)) (growing grow k) (Some (l, p ++ u))) (grown_by (grow l (p ++ v)) (growing grow k) (Some (l, p ++ v)))
    by (no_growth e) go = lost (ap (λ z. grown_by z (growing grow k) (Some (l, p ++ v))) e)
    by (stays e e') go = alike l p (ap (λ z. grown_by z (growing grow k) (Some (l, p ++ u))) e) (ap (λ z. grown_by z (growing grow k) (Some (l, p ++ v))) e')
    by (grows t q e e') go =
        alike_from (ap (λ z. grown_by z (growing grow k) (Some (l, p ++ u))) e) (ap (λ z. grown_by z (growing grow k) (Some (l, p ++ v))) e')
        (go t q (subst (λ z. length u < grown_later z (look l (p ++ u) n) (looked_growing grow look k)) e h))

-- no operand begins with a sign
parts_ended : (first next : Reader) (k : ℕ) (s : List Tok) → 0 < k → parts first next k [] s ≡ Some (none, s)
unfolding parts
parts_ended first next zero s lt = absurd (omega (arith, lt))
parts_ended first next (suc k) s lt = refl

operand_read : (next : Reader) (d k : ℕ) (r : Read) → 0 < k → ((y : Ast × List Tok) → r ≡ Some y → is_signed y.0 ≡ true)
    → read_then (read_then r (λ t s. before t (parts next next k [] s))) (closed d sorts.Operand) ≡ None
unfolding closed
operand_read next d k None lt f = refl
operand_read next d k (Some y) lt f =
    ap (λ z. read_then (before y.0 z) (closed d sorts.Operand)) (parts_ended next next k y.1 lt)
    ∙ ap (λ z. guard (not z && nat_le (brackets (more y.0 none)) 255) (Some (y.0, y.1))) (f y refl)

pub sign_refused : (first next : Reader) (d e : ℕ) → Sound first e → (x : Sort) (s : List Tok) → refuses_sign x (first_kind s) ≡ true → base first next d x s ≡ None
unfolding base
sign_refused first next d e sound sorts.Operand s f =
    ap (λ z. read_then z (closed d sorts.Operand)) (step_part first next (steps s) sorts.Unary [] s (steps_positive s))
    ∙ operand_read next d (steps s - 1) (first sorts.Unary s) (steps_left s)
    (λ y g. let i = sound sorts.Unary s y g in signed_unary y.0 i.is y.1 (subst (λ z. is_sign (first_kind z) ≡ true) i.spelled f))
sign_refused first next d e sound x s f = absurd (cc)

base_alike : (first next : Reader) (sees see : Looker) → AlikeBy first sees → AlikeBy next see → Falls sees → Falls see → (d e : ℕ) → Sound first e → (x : Sort) (p u v : List Tok) (n : ℕ)
    → length u < looked_base first next sees see x (p ++ u) n → Alike u v (base first next d x (p ++ u)) (base first next d x (p ++ v))
unfolding looked_base base
base_alike first next sees see a b f g d e sound x p u v n h = by (refuses_sign x (first_kind (p ++ u))) refl h
  where
    still : (q : List Tok) → refuses_sign x (first_kind (q ++ u)) ≡ true → length u < min n (length (q ++ u)) → refuses_sign x (first_kind (q ++ v)) ≡ true
    still [] i j = absurd (less_not (length u) _ j (min_right n (length u)))
    still (o ∷ q) i j = i

    by : (c : Bool) → refuses_sign x (first_kind (p ++ u)) ≡ c → length u < (if c then min n (length (p ++ u)) else looked_parts first next sees see (steps (p ++ u)) (rule x) (p ++ u) n)
        → Alike u v (base first next d x (p ++ u)) (base first next d x (p ++ v))
    by true i j = lost (sign_refused first next d e sound x (p ++ v) (still p i j))
    by false i j =
        read_alike u v (parts first next (steps (p ++ u)) (rule x) (p ++ u)) (parts first next (steps (p ++ v)) (rule x) (p ++ v)) (closed d x) (closed d x)
        (parts_alike first next sees see a b f g (steps (p ++ u)) (steps (p ++ v)) (rule x) p u v n j) (λ ts q. closed_alike d x ts q u v)

step_alike : (first next : Reader) (sees see : Looker) → AlikeBy first sees → AlikeBy next see → Falls sees → Falls see → (d e : ℕ) → Sound first e → AlikeBy (step first next d) (looked_step first next sees see d)
step_alike first next sees see a b f g d e sound x p u v n h =
    then_alike u v (base first next d x (p ++ u)) (base first next d x (p ++ v)) (growing (grow next d x) (suc (suc d))) (growing (grow next d x) (suc (suc d)))
    (looked_base first next sees see x (p ++ u) n) (looked_growing (grow next d x) (looked_grow next see x) (suc (suc d)))
    (λ t s m. growing_falls (grow next d x) (looked_grow next see x) (grow_falls next see g x) (suc (suc d)) t s m) h
    (base_alike first next sees see a b f g d e sound x p u v n)
    (λ t q i. growing_alike u v (grow next d x) (looked_grow next see x) (grow_falls next see g x) (λ l r m. grow_alike next see b g d x l r u v m) (suc (suc d)) t q (looked_base first next sees see x (p ++ u) n) i)

ranked_alike : (d : ℕ) → AlikeBy (reader d 24) (looked d 24) → (rank : ℕ) → AlikeBy (ranked (reader d 24) d rank) (looked_ranked (reader d 24) (looked d 24) d rank)
unfolding reader ranked looked_ranked
ranked_alike d a zero x p u v n h = lost refl
ranked_alike d a (suc rank) x p u v n h =
    step_alike (ranked (reader d 24) d rank) (reader d 24) (looked_ranked (reader d 24) (looked d 24) d rank) (looked d 24)
    (ranked_alike d a rank) a (ranked_falls (reader d 24) (looked d 24) d (looked_falls d 24) rank) (looked_falls d 24) d (suc d)
    (λ y s r e. reader_sound (suc d) rank y s r e) x p u v n h

pub refuses_alike : (d rank : ℕ) → AlikeBy (reader d rank) (looked d rank)
unfolding reader looked
refuses_alike zero rank x p u v n h = lost refl
refuses_alike (suc d) rank x p u v n h = ranked_alike d (refuses_alike d 24) rank x p u v n h

-- what the parser finds out where it looks no further
pub sign_stops : (d rank : ℕ) (x : Sort) (s : List Tok) (k : Kind) (b : Bool) → k ≡ first_kind s → b ≡ refuses_sign x k → b ≡ true → base (reader (d + 1) rank) (reader d 24) d x s ≡ None
sign_stops d rank x s k b e f g = sign_refused (reader (d + 1) rank) (reader d 24) d (d + 1) (reader_sound (d + 1) rank) x s (ap (refuses_sign x) (sym e) ∙ sym f ∙ g)

pub element_stops : (d : ℕ) (x : Sort) (l : Ast) (s : List Tok) (k : Kind) (b c : Bool) → k ≡ first_kind s → b ≡ is_some (continued_by x k) → b ≡ true → c ≡ refuses_element l k → c ≡ true
    → grow (reader d 24) d x l s ≡ Wrong
element_stops d x l s k b c e f g h i = by (continued x s) refl (ap (λ z. is_some (continued_by x z)) (sym e) ∙ sym f ∙ g)
  where
    by : (r : Option (List Item)) → continued x s ≡ r → is_some r ≡ true → grow (reader d 24) d x l s ≡ Wrong
    by None j m = absurd (cc)
    by (Some items) j m = element_refused (reader d 24) d x l items s j (ap (refuses_element l) (sym e) ∙ sym h ∙ i)

-- what a tree is continued with, put before nothing
put_alone : (items them old : List Item) → items ≡ them ++ reverse old → old ≡ [] → items ≡ them
put_alone items them old e f = e ∙ ap (λ z. them ++ reverse z) f ∙ append-nil them

is_continued : (x : Sort) (s : List Tok) (k : Kind) (b : Bool) (items old : List Item) → k ≡ first_kind s → b ≡ is_some (continued_by x k) → b ≡ true → items ≡ items_of (continued_by x k) ++ reverse old → old ≡ [] → continued x s ≡ Some items
is_continued x s k b items old e f g h i = by (continued x s) refl (ap (λ z. is_some (continued_by x z)) (sym e) ∙ sym f ∙ g) (put_alone items (items_of (continued_by x k)) old h i ∙ ap (λ z. items_of (continued_by x z)) e)
  where
    by : (o : Option (List Item)) → continued x s ≡ o → is_some o ≡ true → items ≡ items_of (continued x s) → continued x s ≡ Some items
    by None j m n = absurd (cc)
    by (Some them) j m n = j ∙ ap Some (sym (n ∙ ap items_of j))

pub grow_goes : (result : Result Growth Stop) (d : ℕ) (x : Sort) (l : Ast) (s : List Tok) (k : Kind) (b : Bool) (items old : List Item) (ts : Asts) (r : List Tok)
    → k ≡ first_kind s → b ≡ is_some (continued_by x k) → b ≡ true → items ≡ items_of (continued_by x k) ++ reverse old → old ≡ []
    → parts (reader d 24) (reader d 24) (steps s) items s ≡ Some (ts, r) → GivesGrown result l (onto (around d x l ts r)) → GivesGrown result l (grow (reader d 24) d x l s)
unfolding grow
grow_goes result d x l s k b items old ts r e f g h i j gives =
    subst (GivesGrown result l)
    (sym (ap (λ z. grow_by (reader d 24) d x l z s) (is_continued x s k b items old e f g h i) ∙ ap (λ z. onto (read_then z (around d x l))) j)) gives

looks_of : {X : Type 0} (result : Result X Stop) (m n : ℕ) → m ≡ n → Looks result m n
looks_of (Ok x) m n e = e
looks_of (Err stops.NoTree) m n e = e
looks_of (Err stops.Memory) m n e = tt

pub grow_looks : (result : Result Growth Stop) (d : ℕ) (x : Sort) (l : Ast) (s : List Tok) (k : Kind) (b c : Bool) (items old : List Item) (n m seen : ℕ)
    → k ≡ first_kind s → b ≡ is_some (continued_by x k) → b ≡ true → items ≡ items_of (continued_by x k) ++ reverse old → old ≡ [] → c ≡ refuses_element l k → c ≡ false
    → m ≡ min n (length s) → seen ≡ looked_parts (reader d 24) (reader d 24) (looked d 24) (looked d 24) (steps s) items s m → Looks result seen (looked_grow (reader d 24) (looked d 24) x l s n)
unfolding looked_grow
grow_looks result d x l s k b c items old n m seen e f g h i j p q is =
    looks_of result seen (looked_grow (reader d 24) (looked d 24) x l s n)
    (is ∙ ap (looked_parts (reader d 24) (reader d 24) (looked d 24) (looked d 24) (steps s) items s) q
    ∙ sym (ap (λ z. looked_grow_by (reader d 24) (looked d 24) (refuses_element l (first_kind s)) z s (min n (length s))) (is_continued x s k b items old e f g h i)
    ∙ ap (λ z. looked_grow_by (reader d 24) (looked d 24) z (Some items) s (min n (length s))) (ap (refuses_element l) (sym e) ∙ sym j ∙ p)))
