-- Each tree of the grammar is told by its tokens, so it is found by reading them.
use Rattle.std.proofs.Common.{Bool, true, false, ◌≡◌, ◌≤◌, List, [], ◌∷◌, ◌++◌, length, Some, None, Result, Ok, Err, IfOk, IfErr, refl, sym, ◌∙◌, ap, subst, arith}
use Rattle.wy_tree.specs.Seen.{Tok}
use Rattle.wy_tree.specs.Ast.{Ast, Asts, Leaf, none, more, node, tokens, tokens_all, view}
use Rattle.wy_tree.specs.Grammar as grammar
use Rattle.wy_tree.specs.Grammar.{a, form_of, rule, Is, Match, WellFormed}
use Rattle.wy_tree.specs.declared.kind.Kind.{Kind}
use Rattle.wy_tree.specs.declared.kind.Kind.TheVariants as kinds
use Rattle.wy_tree.specs.declared.grammar.Sort.{Sort}
use Rattle.wy_tree.specs.declared.grammar.Sort.TheVariants as sorts
use Rattle.wy_tree.specs.declared.grammar.Row.{Row}
use Rattle.wy_tree.specs.declared.grammar.Row.TheVariants as rows
use Rattle.wy_tree.specs.declared.grammar.Item.{Item}
use Rattle.wy_tree.specs.declared.grammar.Item.TheVariants.{Parts}
use Rattle.wy_tree.specs.declared.tree.Tree.{Tree}
use Rattle.wy_parser.specs.Prediction.{first_kind}
use Rattle.wy_parser.specs.Parsed.{whole, Tells, Refuses}
use Rattle.wy_tree.specs.Trees.{IsTreeOf, IsOnlyTreeOf, OneTree}
use Rattle.wy_parser.specs.Causes.{IsCause}
use Rattle.wy_parser.specs.declared.parse.ParseError.{ParseError}
use Rattle.wy_parser.specs.declared.parse.ParseError.TheVariants as errors
use Rattle.wy_parser.proofs.Firsts.{begins, first_in, first_append, starts, front_first}
use Rattle.wy_parser.proofs.Follows.{meets, row_meets, Lawful, lawful_append, first_more}
use Rattle.wy_parser.proofs.Lawful.{rule_meets, rule_lawful, way_lawful, suffix_lawful, no_more, ends_meets}
use Rattle.wy_parser.proofs.Expressions.{tells_an_object, tells_sized, tells_listed}
use Rattle.wy_parser.proofs.Decisions.{decides}
use Rattle.wy_parser.proofs.Clear.{barred, clear, clear_rule, clear_suffix, clear_plain}
use Rattle.wy_parser.proofs.Suffixes.{goes_on, suffix_meets, suffix_barred}
use Rattle.wy_parser.proofs.Creations.{sized, listed, sized_bars, listed_bars}
use Rattle.wy_parser.proofs.Following.{Told, ToldParts, made, grown, done, token, part, chosen}
use Rattle.wy_parser.proofs.Whole.{whole_told}

nonempty : (x : Sort) (t : Ast) → Is x t → begins x kinds.Nothing ≡ false → 1 ≤ length (tokens t)
nonempty x t v e = by (tokens t) (starts x t v [])
  where
    by : (l : List Tok) → begins x (first_kind (l ++ [])) ≡ true → 1 ≤ length l
    by [] f = absurd (cc)
    by (o ∷ l) f = omega arith

first_of_way : (row : Row) (way items : List Item) (ts : Asts) → Match (way ++ items) ts → (F : Kind → Bool) (s : List Tok) → F (first_kind s) ≡ true → ((k : Kind) → first_in items F k ≡ true → row_meets row k ≡ true)
    → first_in way (row_meets row) (first_kind (tokens_all ts ++ s)) ≡ true
first_of_way row way items ts w F s f m =
    let k = first_kind (tokens_all ts ++ s) in
    first_more way (first_in items F) (row_meets row) k (m k) (sym (first_append way items F k) ∙ front_first (way ++ items) ts w F s f)

mutual
  -- a tree before what may follow it
  told : (x : Sort) (t : Ast) → Is x t → (s : List Tok) → meets x (first_kind s) ≡ true → barred x t (first_kind s) ≡ false → Told x t s
  told x t (grammar.grown {l} {ts} {items} v y w e q) s m b =
      grown (told x l v (tokens_all ts ++ s) (suffix_meets x items y ts w s) (suffix_barred x items y l ts w s e)) (goes_on x items y ts w s)
      (told_parts items ts w s (meets x) (suffix_lawful y) m (clear_suffix x items y ts w s)) e q
  told sorts.New t (grammar.made {ts} w e q) s m b = made (told_new ts w s (subst (λ z. barred sorts.New z (first_kind s) ≡ false) q b)) e q
  told x t (grammar.made {ts} w e q) s m b =
      made (told_parts (rule x) ts w s (rule_meets x) (rule_lawful x) m (clear_rule x ts w s m e (subst (λ z. barred x z (first_kind s) ≡ false) q b))) e q

  told_parts : (items : List Item) (ts : Asts) (w : Match items ts) (s : List Tok) (F : Kind → Bool) → Lawful items F → F (first_kind s) ≡ true → clear w s → ToldParts items ts s
  told_parts _ _ grammar.done s F l f c = done
  told_parts _ _ (grammar.token {items} {ts} e w) s F l f c = token e (told_parts items ts w s F l f c)
  told_parts _ _ (grammar.part {x} {t} {items} {ts} v w) s F l f c =
      let u = tokens_all ts ++ s in
      let e = l.0 (first_kind u) (front_first items ts w F s f) in
      part (told x t v u (ends_meets x (first_kind u) e) c.0) (no_more x u e) (nonempty x t v l.1) (told_parts items ts w s F l.2 f c.1)
  told_parts _ _ (grammar.chosen {r} {way} {items} {ts} y w) s F l f c =
      chosen y (decides y items ts w s F f l.0 l.1 l.2 c.0 (first_of_way r way items ts w F s f l.0))
      (told_parts (way ++ items) ts w s F (lawful_append way items F (row_meets r) l.0 (way_lawful y items l.1) l.2) f c.1)

  -- an object's creation stands before anything, an array's not before a bracket
  told_new : (ts : Asts) → Match (a kinds.New ∷ Parts rows.NewForm ∷ []) ts → (s : List Tok) → barred sorts.New (node (form_of sorts.New) ts) (first_kind s) ≡ false
      → ToldParts (a kinds.New ∷ Parts rows.NewForm ∷ []) ts s
  told_new _ (grammar.token {o} e (grammar.chosen grammar.an_object (grammar.token {o = o'} e' (grammar.part {t} v grammar.done)))) s b =
      token e (chosen grammar.an_object (tells_an_object [] (more (Leaf o') (more t none)) (grammar.token e' (grammar.part v grammar.done)) s)
      (token e' (part (told sorts.Args t v s refl refl) (no_more sorts.Args s refl) (nonempty sorts.Args t v refl) done)))
  told_new _ (grammar.token {o} {ts} e (grammar.chosen grammar.sized w)) s b =
      token e (chosen grammar.sized (tells_sized _ ts w s) (told_parts sized ts w s (row_meets rows.NewForm) (way_lawful grammar.sized [] refl) (sized_bars ts w o (first_kind s) b) (clear_plain sized ts w refl s)))
  told_new _ (grammar.token {o} {ts} e (grammar.chosen grammar.listed w)) s b =
      token e (chosen grammar.listed (tells_listed _ ts w s) (told_parts listed ts w s (row_meets rows.NewForm) (way_lawful grammar.listed [] refl) (listed_bars ts w o (first_kind s) b) (clear_plain listed ts w refl s)))

pub complete : (t : Ast) → WellFormed t → whole (tokens t) ≡ Some t
complete t w = whole_told t (told sorts.Unit t w.0 [] refl refl) w.1

some_is : {A : Type 0} {x y : A} → Some x ≡ Some y → x ≡ y
some_is e = cc

pub one_tree : OneTree
one_tree t u v w e = some_is (sym (complete t v) ∙ ap whole e ∙ complete u w)

pub read_back : (s : List Tok) (t : Ast) → IsTreeOf s t → whole s ≡ Some t
read_back s t w = subst (λ z. whole z ≡ Some t) w.1 (complete t w.0)

-- what parsing returned, in the words of its contract
pub tells_only : (r : Result Tree ParseError) (s u : List Tok) → Tells r (whole s) → s ≡ u → IfOk r (λ t. IsOnlyTreeOf u (view t))
tells_only (Ok t) s u e f = λ v w. some_is (sym (read_back u v w) ∙ sym (ap whole f) ∙ e)
tells_only (Err d) s u e f = tt

refuses_only : (d : ParseError) (s : List Tok) → Refuses d (whole s) → IsCause s d
refuses_only (errors.Syntax at) s e = λ t w. let f = read_back s t w in let g : Some t ≡ None = sym f ∙ e in cc
refuses_only errors.NoMemory s e = tt

pub tells_refused : (r : Result Tree ParseError) (s u : List Tok) → Tells r (whole s) → s ≡ u → IfErr r (λ d. IsCause u d)
tells_refused (Ok t) s u e f = tt
tells_refused (Err d) s u e f = refuses_only d u (subst (λ z. Refuses d (whole z)) f e)
