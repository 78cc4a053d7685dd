-- The kinds of a text's tokens stand at their places in its well-formed tree, and no sign that decides is a word of a statement.
use Rattle.std.proofs.Common.{◌≡◌, ◌∙◌, refl, sym, ap, subst, inl, inr, arith, zero-add, ℕ, zero, suc, ◌+◌, ◌<◌, ◌≤◌, true, false, List, [], ◌∷◌, ◌++◌, length, length-append, Ok}
use Rattle.wy_tree.specs.Seen.{Tok}
use Rattle.wy_tree.specs.Kinds.{kind_of}
use Rattle.wy_tree.specs.Ast.{Ast, Asts, Leaf, Node, none, more, node, tokens, tokens_all}
use Rattle.wy_tree.specs.Grammar.{form_of, rule, Suffix, Is, Match, WellFormed}
use Rattle.wy_tree.specs.Grammar as grammar
use Rattle.wy_tree.specs.declared.kind.Kind.{Kind}
use Rattle.wy_tree.specs.declared.kind.Kind.TheVariants as kinds
use Rattle.wy_tree.specs.declared.tree.Form.{Form}
use Rattle.wy_tree.specs.declared.grammar.Sort.{Sort}
use Rattle.wy_tree.specs.declared.grammar.Sort.TheVariants as sorts
use Rattle.wy_tree.specs.declared.grammar.Item.{Item}
use Rattle.wy_kernel.specs.Program.{Program}
use Rattle.wy_syntax.specs.Names.{width}
use Rattle.wy_syntax.specs.Declarations.{unit}
use Rattle.wy_elab_stmt.specs.Elaborates.{Elaborates}
use Rattle.wy_elab_stmt.proofs.OneProgram.{as_wide}
use Rattle.law_structure.specs.Sites.{TestsStandApart}
use Rattle.law_structure.proofs.Elaborated.{made_from}
use Rattle.law_structure.proofs.ApartClasses.{library_site, program_apart}
use Rattle.law_structure.proofs.Deciding.{tests_stand_apart}
use Rattle.law_structure.proofs.Seen.{is_deciding, DecidesAt, Asked, Seen, AllSeen}
use Rattle.law_structure.proofs.SeenStatements.{is_asking, AsksAt}
use Rattle.law_structure.proofs.SeenClasses.{unit_words}

-- ---- the sign of each `?:`

abbrev mutual
  AskedIn : Ast → Type 0
  AskedIn (Leaf o) = Unit {0}
  AskedIn (Node f parts) = Asked f parts × AllAsked parts

  AllAsked : Asts → Type 0
  AllAsked none = Unit {0}
  AllAsked (more t rest) = AskedIn t × AllAsked rest

node_asked : (f : Form) (ts : Asts) → Asked f ts → AllAsked ts → AskedIn (node f ts)
node_asked f none a h = (a, h)
node_asked f (more t none) a h = h.0
node_asked f (more t (more u rest)) a h = (a, h)

made_asked : (x : Sort) (ts : Asts) → Match (rule x) ts → Asked (form_of x) ts
made_asked sorts.Cond ts (grammar.part v (grammar.chosen grammar.no_choice grammar.done)) = tt
made_asked sorts.Cond ts (grammar.part v (grammar.chosen grammar.choice (grammar.token m (grammar.part u (grammar.token n (grammar.part w grammar.done)))))) = m
made_asked _ ts w = tt

grown_asked : (x : Sort) (items : List Item) → Suffix x items → (l : Ast) (ts : Asts) → Asked (form_of x) (more l ts)
grown_asked sorts.Cond items (grammar.operator e) l ts = absurd cc
grown_asked _ items y l ts = tt

mutual
  tree_asked : (x : Sort) (t : Ast) → Is x t → AskedIn t
  tree_asked x t (grammar.made {ts} w e q) = subst AskedIn (sym q) (node_asked (form_of x) ts (made_asked x ts w) (items_asked (rule x) ts w))
  tree_asked x t (grammar.grown {l} {ts} {items} v y w e q) = subst AskedIn (sym q) (grown_asked x items y l ts, (tree_asked x l v, items_asked items ts w))

  items_asked : (items : List Item) (ts : Asts) → Match items ts → AllAsked ts
  items_asked _ _ grammar.done = tt
  items_asked _ _ (grammar.token {items} {ts} m w) = (tt, items_asked items ts w)
  items_asked _ _ (grammar.part {x} {t} {items} {ts} v w) = (tree_asked x t v, items_asked items ts w)
  items_asked _ _ (grammar.chosen {way} {items} {ts} y w) = items_asked (way ++ items) ts w

-- ---- the kinds of tokens by their numbers

abbrev kind_at : List Tok → ℕ → Kind
kind_at [] n = kinds.Nothing
kind_at (o ∷ rest) zero = kind_of o
kind_at (o ∷ rest) (suc n) = kind_at rest n

kind_left : (xs ys : List Tok) (i : ℕ) → i < length xs → kind_at (xs ++ ys) i ≡ kind_at xs i
kind_left [] ys i h = absurd (omega arith)
kind_left (x ∷ xs) ys zero h = refl
kind_left (x ∷ xs) ys (suc i) h = kind_left xs ys i (omega arith)

kind_right : (xs ys : List Tok) (i : ℕ) → kind_at (xs ++ ys) (length xs + i) ≡ kind_at ys i
kind_right [] ys i = ap (kind_at ys) (zero-add i)
kind_right (x ∷ xs) ys i = let e : suc (length xs) + i ≡ suc (length xs + i) = omega arith in ap (kind_at (x ∷ (xs ++ ys))) e ∙ kind_right xs ys i

kind_behind : (xs : List Tok) (n : ℕ) → length xs ≤ n → kind_at xs n ≡ kinds.Nothing
kind_behind [] n h = refl
kind_behind (x ∷ xs) zero h = absurd (omega arith)
kind_behind (x ∷ xs) (suc n) h = kind_behind xs n (omega arith)

-- from a number on these tokens stand
abbrev StandFrom : (ℕ → Kind) → ℕ → List Tok → Type 0
StandFrom K n os = (i : ℕ) → i < length os → K (n + i) ≡ kind_at os i

front_stands : (K : ℕ → Kind) (n : ℕ) (xs ys : List Tok) → StandFrom K n (xs ++ ys) → StandFrom K n xs
front_stands K n xs ys h i less = h i (omega (arith, length-append xs ys)) ∙ kind_left xs ys i less

rest_stands : (K : ℕ → Kind) (n w : ℕ) (xs ys : List Tok) → w ≡ length xs → StandFrom K n (xs ++ ys) → StandFrom K (n + w) ys
rest_stands K n w xs ys e h i less =
    let moved : (n + w) + i ≡ n + (length xs + i) = omega arith in
    ap K moved ∙ h (length xs + i) (omega (arith, length-append xs ys)) ∙ kind_right xs ys i

mutual
  tree_seen : (K : ℕ → Kind) (n : ℕ) (t : Ast) → AskedIn t → StandFrom K n (tokens t) → Seen K n t
  tree_seen K n (Leaf o) a h = let e : n ≡ n + 0 = omega arith in ap K e ∙ h 0 (omega arith)
  tree_seen K n (Node f parts) a h = (a.0, parts_seen K n parts a.1 h)

  parts_seen : (K : ℕ → Kind) (n : ℕ) (ts : Asts) → AllAsked ts → StandFrom K n (tokens_all ts) → AllSeen K n ts
  parts_seen K n none a h = tt
  parts_seen K n (more t rest) a h =
      (tree_seen K n t a.0 (front_stands K n (tokens t) (tokens_all rest) h), parts_seen K (n + width t) rest a.1 (rest_stands K n (width t) (tokens t) (tokens_all rest) (as_wide t) h))

whole_seen : (t : Ast) → WellFormed t → Seen (kind_at (tokens t)) 0 t
whole_seen t w = tree_seen (kind_at (tokens t)) 0 t (tree_asked sorts.Unit t w.0) (λ i less. ap (kind_at (tokens t)) (zero-add i))

-- ---- signs and words

no_sign_asks : (k : Kind) → is_deciding k ≡ true → is_asking k ≡ true → ⊥
no_sign_asks kinds.AndAlso e f = cc
no_sign_asks kinds.OrElse e f = cc
no_sign_asks kinds.Question e f = cc
no_sign_asks _ e f = cc

never_both : (os : List Tok) → length os ≤ 1048576 → (n : ℕ) → DecidesAt (kind_at os) n → AsksAt (kind_at os) n → ⊥
never_both os few n d (inl a) = no_sign_asks (kind_at os n) d a
never_both os few n d (inr e) =
    let site : library_site ≡ 2147483653 = refl in
    let far : kind_at os n ≡ kinds.Nothing = kind_behind os n (omega arith) in
    let clash : false ≡ true = ap is_deciding (sym far) ∙ d in cc

pub no_test_decides : (tree : Ast) → WellFormed tree → length (tokens tree) ≤ 1048576 → (count : ℕ) (p : Program) → Elaborates (unit 0 tree) count (Ok p) → TestsStandApart p
no_test_decides tree well few count p h =
    let K = kind_at (tokens tree) in
    tests_stand_apart (DecidesAt K) (AsksAt K) (never_both (tokens tree) few) p
    (program_apart (DecidesAt K) (AsksAt K) (unit 0 tree) p (made_from (unit 0 tree) count p h) (unit_words K 0 tree (whole_seen tree well)) (inr refl))
