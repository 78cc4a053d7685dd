-- What is read is in the grammar, and is what stood there.
use Rattle.std.proofs.Common.{ℕ, zero, suc, Bool, true, false, ◌≡◌, ◌≤◌, max, List, [], ◌∷◌, ◌++◌, Option, Some, None, nat_le, refl, sym, ◌∙◌, ap, subst, append_assoc, append-nil, arith}
use Rattle.std.proofs.lemmas.Bool.{leb-true}
use Rattle.wy_tree.specs.Seen.{Tok}
use Rattle.wy_tree.specs.Kinds.{kind_of}
use Rattle.wy_tree.specs.Ast.{Ast, Asts, Leaf, Node, none, more, one, tokens, tokens_all, deep, deepest}
use Rattle.wy_tree.specs.Conditions.{fine, joins}
use Rattle.wy_tree.specs.Grammar.{allows, form_of, rule, Is, made, grown, Match, done, token, part, chosen}
use Rattle.wy_tree.specs.declared.grammar.Class.{Class}
use Rattle.wy_tree.specs.declared.grammar.Sort.{Sort}
use Rattle.wy_tree.specs.declared.grammar.Item.{Item}
use Rattle.wy_tree.specs.declared.grammar.Item.TheVariants.{One, Part, Parts}
use Rattle.wy_parser.specs.Prediction.{predict, continued}
use Rattle.wy_parser.specs.Reading.{Read, ReadAll, Reader, read_then, guard, taken, before, steps, parts, closed_by, closed, Grown, Stay, Wrong, Onto, onto, grown_by, growing, around, grow_by, grow, base, step, ranked, reader}
use Rattle.wy_parser.proofs.Ways.{predict_is, continued_is}

pub record Reads (d : ℕ) (x : Sort) (s : List Tok) (y : Ast × List Tok) : Type 0 where
  pub is : Is x y.0
  pub spelled : s ≡ tokens y.0 ++ y.1
  pub shallow : deep y.0 ≤ d

pub record ReadsParts (d : ℕ) (items : List Item) (s : List Tok) (y : Asts × List Tok) : Type 0 where
  pub are : Match items y.0
  pub spelled : s ≡ tokens_all y.0 ++ y.1

abbrev pub Sound : Reader → ℕ → Type 0
Sound self d = (x : Sort) (s : List Tok) (y : Ast × List Tok) → self x s ≡ Some y → Reads d x s y

some_is : {A : Type 0} {a b : A} → Some a ≡ Some b → a ≡ b
some_is e = cc

then_ok : {A B : Type 0} (r : Option (A × List Tok)) (go : A → List Tok → Option B) (y : B) → read_then r go ≡ Some y → (x : A × List Tok) × (r ≡ Some x) × (go x.0 x.1 ≡ Some y)
then_ok None go y e = absurd (cc)
then_ok (Some x) go y e = (x, refl, e)

guard_ok : {A : Type 0} (b : Bool) (r : Option A) (y : A) → guard b r ≡ Some y → (b ≡ true) × (r ≡ Some y)
guard_ok true r y e = (refl, e)
guard_ok false r y e = absurd (cc)

taken_ok : (c : Class) (s : List Tok) (x : Tok × List Tok) → taken c s ≡ Some x → (s ≡ x.0 ∷ x.1) × (allows c (kind_of x.0) ≡ true)
unfolding taken
taken_ok c [] x e = absurd (cc)
taken_ok c (o ∷ s) x e =
    let g = guard_ok (allows c (kind_of o)) (Some (o, s)) x e in
    subst (λ (z : Tok × List Tok). (o ∷ s ≡ z.0 ∷ z.1) × (allows c (kind_of z.0) ≡ true)) (some_is g.1) (refl, g.0)

before_ok : (t : Ast) (r : ReadAll) (y : Asts × List Tok) → before t r ≡ Some y → (x : Asts × List Tok) × (r ≡ Some x) × ((more t x.0, x.1) ≡ y)
before_ok t None y e = absurd (cc)
before_ok t (Some x) y e = (x, refl, some_is e)

onto_ok : (r : Read) (t : Ast) (s : List Tok) → onto r ≡ Onto t s → r ≡ Some (t, s)
onto_ok None t s e = absurd (cc)
onto_ok (Some x) t s e = let a : x.0 ≡ t = cc in let b : x.1 ≡ s = cc in subst (λ z. Some x ≡ Some (z, s)) a (subst (λ z. Some x ≡ Some (x.0, z)) b refl)

-- what grows keeps what each step keeps
growing_ok : (grow : Ast → List Tok → Grown) (P : Ast → List Tok → Type 0) → ((l : Ast) (s : List Tok) (t : Ast) (r : List Tok) → P l s → grow l s ≡ Onto t r → P t r)
    → (k : ℕ) (l : Ast) (s : List Tok) (y : Ast × List Tok) → P l s → growing grow k l s ≡ Some y → P y.0 y.1
unfolding growing
growing_ok grow P keeps zero l s y p e = absurd (cc)
growing_ok grow P keeps (suc k) l s y p e =
    let by : (g : Grown) → grow l s ≡ g → grown_by g (growing grow k) (Some (l, s)) ≡ Some y → P y.0 y.1 =
    elim [
      | Stay ↦ λ q f. subst (λ (z : Ast × List Tok). P z.0 z.1) (some_is f) p
      | Wrong ↦ λ q f. absurd (cc)
      | Onto t r ↦ λ q f. growing_ok grow P keeps k t r y (keeps l s t r p q) f
    ] in
    by (grow l s) refl e

-- parts read one after another
parts_sound : (first next : Reader) (d e : ℕ) → Sound first d → Sound next e → (k : ℕ) (items : List Item) (s : List Tok) (y : Asts × List Tok) → parts first next k items s ≡ Some y → ReadsParts d items s y
unfolding parts
parts_sound first next d e f g zero items s y q = absurd (cc)
parts_sound first next d e f g (suc k) [] s y q = subst (ReadsParts d [] s) (some_is q) (record { are = done; spelled = refl })
parts_sound first next d e f g (suc k) (One c ∷ items) s y q =
    let go : Tok → List Tok → ReadAll = λ o r. before (Leaf o) (parts next next k items r) in
    let a = then_ok (taken c s) go y q in
    let v = taken_ok c s a.0 a.1 in
    let b = before_ok (Leaf a.0.0) (parts next next k items a.0.1) y a.2 in
    let i = parts_sound next next e e g g k items a.0.1 b.0 b.1 in
    subst (ReadsParts d (One c ∷ items) s) b.2 (record { are = token v.1 i.are; spelled = v.0 ∙ ap (λ z. a.0.0 ∷ z) i.spelled })
parts_sound first next d e f g (suc k) (Part x ∷ items) s y q =
    let go : Ast → List Tok → ReadAll = λ t r. before t (parts next next k items r) in
    let a = then_ok (first x s) go y q in
    let v = f x s a.0 a.1 in
    let b = before_ok a.0.0 (parts next next k items a.0.1) y a.2 in
    let i = parts_sound next next e e g g k items a.0.1 b.0 b.1 in
    subst (ReadsParts d (Part x ∷ items) s) b.2 (record {
      are = part v.is i.are;
      spelled = v.spelled ∙ ap (λ z. tokens a.0.0 ++ z) i.spelled ∙ sym (append_assoc (tokens a.0.0) (tokens_all b.0.0) b.0.1);
    })
parts_sound first next d e f g (suc k) (Parts row ∷ items) s y q =
    let i = parts_sound first next d e f g k (predict row s ++ items) s y q in
    record { are = chosen (predict_is row s) i.are; spelled = i.spelled }

parts_later : (next : Reader) (e : ℕ) → Sound next e → (k : ℕ) (items : List Item) (s : List Tok) (y : Asts × List Tok) → parts next next k items s ≡ Some y → deepest y.0 ≤ max e 1
unfolding parts
parts_later next e g zero items s y q = absurd (cc)
parts_later next e g (suc k) [] s y q = subst (λ (z : Asts × List Tok). deepest z.0 ≤ max e 1) (some_is q) (omega arith)
parts_later next e g (suc k) (One c ∷ items) s y q =
    let go : Tok → List Tok → ReadAll = λ o r. before (Leaf o) (parts next next k items r) in
    let a = then_ok (taken c s) go y q in
    let b = before_ok (Leaf a.0.0) (parts next next k items a.0.1) y a.2 in
    let i = parts_later next e g k items a.0.1 b.0 b.1 in
    subst (λ (z : Asts × List Tok). deepest z.0 ≤ max e 1) b.2 (omega (arith, i))
parts_later next e g (suc k) (Part x ∷ items) s y q =
    let go : Ast → List Tok → ReadAll = λ t r. before t (parts next next k items r) in
    let a = then_ok (next x s) go y q in
    let v = g x s a.0 a.1 in
    let b = before_ok a.0.0 (parts next next k items a.0.1) y a.2 in
    let i = parts_later next e g k items a.0.1 b.0 b.1 in
    subst (λ (z : Asts × List Tok). deepest z.0 ≤ max e 1) b.2 (omega (arith, i, v.shallow))
parts_later next e g (suc k) (Parts row ∷ items) s y q = parts_later next e g k (predict row s ++ items) s y q

-- the depth of the parts: of the first, and of the others
parts_shallow : (first next : Reader) (d e : ℕ) → Sound first d → Sound next e → 1 ≤ d → (k : ℕ) (items : List Item) (s : List Tok) (y : Asts × List Tok) → parts first next k items s ≡ Some y → deepest y.0 ≤ max d (max e 1)
unfolding parts
parts_shallow first next d e f g pos zero items s y q = absurd (cc)
parts_shallow first next d e f g pos (suc k) [] s y q = subst (λ (z : Asts × List Tok). deepest z.0 ≤ max d (max e 1)) (some_is q) (omega arith)
parts_shallow first next d e f g pos (suc k) (One c ∷ items) s y q =
    let go : Tok → List Tok → ReadAll = λ o r. before (Leaf o) (parts next next k items r) in
    let a = then_ok (taken c s) go y q in
    let b = before_ok (Leaf a.0.0) (parts next next k items a.0.1) y a.2 in
    let i = parts_later next e g k items a.0.1 b.0 b.1 in
    subst (λ (z : Asts × List Tok). deepest z.0 ≤ max d (max e 1)) b.2 (omega (arith, i))
parts_shallow first next d e f g pos (suc k) (Part x ∷ items) s y q =
    let go : Ast → List Tok → ReadAll = λ t r. before t (parts next next k items r) in
    let a = then_ok (first x s) go y q in
    let v = f x s a.0 a.1 in
    let b = before_ok a.0.0 (parts next next k items a.0.1) y a.2 in
    let i = parts_later next e g k items a.0.1 b.0 b.1 in
    subst (λ (z : Asts × List Tok). deepest z.0 ≤ max d (max e 1)) b.2 (omega (arith, i, v.shallow))
parts_shallow first next d e f g pos (suc k) (Parts row ∷ items) s y q = parts_shallow first next d e f g pos k (predict row s ++ items) s y q

-- the tree of a sort, from its parts
closed_sound : (d : ℕ) (x : Sort) (all : List Tok) (ts : Asts) (s : List Tok) (y : Ast × List Tok) → Match (rule x) ts → all ≡ tokens_all ts ++ s → deepest ts ≤ suc d → closed d x ts s ≡ Some y → Reads (suc d) x all y
unfolding closed
closed_sound d x all none s y m q short e =
    let a = guard_ok (fine x none) (closed_by d x none s) y e in
    let b = guard_ok (nat_le 0 d) (Some (Node (form_of x) none, s)) y a.1 in
    subst (Reads (suc d) x all) (some_is b.1) (record { is = made m a.0 refl; spelled = q; shallow = omega arith })
closed_sound d x all (more t none) s y m q short e =
    let a = guard_ok (fine x (one t)) (closed_by d x (one t) s) y e in
    subst (Reads (suc d) x all) (some_is a.1) (record { is = made m a.0 refl; spelled = q ∙ ap (λ z. z ++ s) (append-nil (tokens t)); shallow = omega (arith, short) })
closed_sound d x all (more t (more u ts)) s y m q short e =
    let a = guard_ok (fine x (more t (more u ts))) (closed_by d x (more t (more u ts)) s) y e in
    let b = guard_ok (nat_le (deepest (more t (more u ts))) d) (Some (Node (form_of x) (more t (more u ts)), s)) y a.1 in
    subst (Reads (suc d) x all) (some_is b.1) (record { is = made m a.0 refl; spelled = q; shallow = omega (arith, leb-true (deepest (more t (more u ts))) d b.0) })

module _ (first next : Reader) (d : ℕ) (f : Sound first (suc d)) (g : Sound next d) where
  base_sound : (x : Sort) (s : List Tok) (y : Ast × List Tok) → base first next d x s ≡ Some y → Reads (suc d) x s y
  unfolding base
  base_sound x s y e =
      let a = then_ok (parts first next (steps s) (rule x) s) (closed d x) y e in
      let i = parts_sound first next (suc d) d f g (steps s) (rule x) s a.0 a.1 in
      let j = parts_shallow first next (suc d) d f g (omega arith) (steps s) (rule x) s a.0 a.1 in
      closed_sound d x s a.0.0 a.0.1 y i.are i.spelled (omega (arith, j)) a.2

  grow_by_sound : (x : Sort) (all : List Tok) (l : Ast) (s : List Tok) (o : Option (List Item)) (t : Ast) (r : List Tok) → continued x s ≡ o → Reads (suc d) x all (l, s) → grow_by next d x l o s ≡ Onto t r → Reads (suc d) x all (t, r)
  unfolding around
  grow_by_sound x all l s None t r q w e = absurd (cc)
  grow_by_sound x all l s (Some items) t r q w e =
      let a = then_ok (parts next next (steps s) items s) (around d x l) (t, r) (onto_ok (read_then (parts next next (steps s) items s) (around d x l)) t r e) in
      let i = parts_sound next next d d g g (steps s) items s a.0 a.1 in
      let b = guard_ok (joins l a.0.0) (guard (nat_le (deepest (more l a.0.0)) d) (Some (Node (form_of x) (more l a.0.0), a.0.1))) (t, r) a.2 in
      let c = guard_ok (nat_le (deepest (more l a.0.0)) d) (Some (Node (form_of x) (more l a.0.0), a.0.1)) (t, r) b.1 in
      subst (Reads (suc d) x all) (some_is c.1) (record {
        is = grown w.is (continued_is x s items q) i.are b.0 refl;
        spelled = w.spelled ∙ ap (λ z. tokens l ++ z) i.spelled ∙ sym (append_assoc (tokens l) (tokens_all a.0.0) a.0.1);
        shallow = omega (arith, leb-true (deepest (more l a.0.0)) d c.0);
      })

  grow_sound : (x : Sort) (all : List Tok) (l : Ast) (s : List Tok) (t : Ast) (r : List Tok) → Reads (suc d) x all (l, s) → grow next d x l s ≡ Onto t r → Reads (suc d) x all (t, r)
  unfolding grow
  grow_sound x all l s t r w e = grow_by_sound x all l s (continued x s) t r refl w e

  step_sound : Sound (step first next d) (suc d)
  step_sound x s y e =
      let a = then_ok (base first next d x s) (growing (grow next d x) (suc (suc d))) y e in
      growing_ok (grow next d x) (λ t r. Reads (suc d) x s (t, r)) (grow_sound x s) (suc (suc d)) a.0.0 a.0.1 y (base_sound x s a.0 a.1) a.2

ranked_sound : (next : Reader) (d : ℕ) → Sound next d → (rank : ℕ) → Sound (ranked next d rank) (suc d)
unfolding ranked
ranked_sound next d g zero x s y e = absurd (cc)
ranked_sound next d g (suc rank) x s y e = step_sound (ranked next d rank) next d (ranked_sound next d g rank) g x s y e

pub reader_sound : (d rank : ℕ) → Sound (reader d rank) d
unfolding reader
reader_sound zero rank x s y e = absurd (cc)
reader_sound (suc d) rank x s y e = ranked_sound (reader d 24) d (reader_sound d 24) rank x s y e
