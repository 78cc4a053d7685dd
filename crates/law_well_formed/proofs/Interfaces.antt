-- The methods of an interface that a well-formed tree is have no bodies: what holds of each header holds of them.
use Rattle.std.proofs.Common.{◌≡◌, ◌∙◌, refl, sym, ap, subst, ℕ, ◌+◌, Bool, true, false, if◌then◌else◌, List, [], ◌∷◌, ◌++◌}
use Rattle.std.specs.Prelude.{Option, None}
use Rattle.std.specs.List.{AllByRecursion}
use Rattle.std.proofs.lemmas.List.{append_assoc}
use Rattle.wy_tree.specs.Seen.{Tok}
use Rattle.wy_tree.specs.Kinds.{kind_of, same}
use Rattle.wy_tree.specs.Ast.{Ast, Asts, Leaf, Node, none, more}
use Rattle.wy_tree.specs.Grammar.{a, name, Is, Match}
use Rattle.wy_tree.specs.Grammar as grammar
use Rattle.wy_tree.specs.declared.kind.Kind.TheVariants as kinds
use Rattle.wy_tree.specs.declared.tree.Form.TheVariants as form
use Rattle.wy_tree.specs.declared.grammar.Sort.TheVariants as sorts
use Rattle.wy_tree.specs.declared.grammar.Row.TheVariants as rows
use Rattle.wy_tree.specs.declared.grammar.Item.{Item}
use Rattle.wy_tree.specs.declared.grammar.Item.TheVariants.{Part, Parts}
use Rattle.wy_syntax.specs.Syntax.{WrittenType, Declarator, Placed, Header, Member}
use Rattle.wy_syntax.specs.Syntax as syntax
use Rattle.wy_syntax.specs.Names.{width}
use Rattle.wy_syntax.specs.Statements.{declarators}
use Rattle.wy_syntax.specs.Declarations as written
use Rattle.wy_syntax.specs.Declarations.{placed, is_modifier, modifiers_of, behind_modifiers, is_params, result_of, type_at, member_behind, method_in, methods_in}
use Rattle.law_well_formed.proofs.Expressions.{HasPart}
use Rattle.law_well_formed.proofs.Marks.{along, IsNoEnd, name_alone, mod_plain, result_plain, params_are, throws_node, part_at}

-- what holds of each method without a body, and of a semicolon
pub record OfHeaders (Q : Member → Type 0) : Type 0 where
  pub nothing : Q syntax.Member.Nothing
  pub header : (h : Header) (result : Option WrittenType) → Q (syntax.Method h result None)

along_members : (Q : Member → Type 0) (xs ys : List Member) → xs ≡ ys → AllByRecursion Q ys → AllByRecursion Q xs
along_members Q xs ys e h = let R : List Member → Type 0 = λ ms. AllByRecursion Q ms in subst R (sym e) h

-- one more part of a method, and then others
one_part : (Q : Member → Type 0) (before : written.Parts) (n : ℕ) (t : Ast) (m : ℕ) (ts : Asts) → IsNoEnd t → HasPart ts → AllByRecursion Q (methods_in (before ++ part_at n t ∷ []) (placed m ts)) → AllByRecursion Q (methods_in before (part_at n t ∷ placed m ts))
unfolding placed methods_in
one_part Q before n t m none e h i = absurd h
one_part Q before n t m (more u rest) e h i =
    along_members Q _ _ (ap (λ b. if b then method_in before ∷ methods_in [] (placed m (more u rest)) else methods_in (before ++ part_at n t ∷ []) (placed m (more u rest))) e) i

last_part : (Q : Member → Type 0) (before : written.Parts) (n : ℕ) (o : Tok) (m : ℕ) (ts : Asts) → same (kind_of o) kinds.Semicolon ≡ true → HasPart ts → Q (method_in before) → AllByRecursion Q (methods_in [] (placed m ts)) → AllByRecursion Q (methods_in before (part_at n (Leaf o) ∷ placed m ts))
unfolding placed methods_in
last_part Q before n o m none e h i j = absurd h
last_part Q before n o m (more u rest) e h i j =
    along_members Q _ _ (ap (λ b. if b then method_in before ∷ methods_in [] (placed m (more u rest)) else methods_in (before ++ part_at n (Leaf o) ∷ []) (placed m (more u rest))) e) (i, j)

-- modifiers alone
abbrev AllModifiers : written.Parts → Type 0
AllModifiers [] = Unit {0}
AllModifiers (p ∷ rest) = (is_modifier p.entity ≡ true) × AllModifiers rest

one_modifier : (before : written.Parts) (p : written.Part) → AllModifiers before → is_modifier p.entity ≡ true → AllModifiers (before ++ p ∷ [])
one_modifier [] p h e = (e, tt)
one_modifier (q ∷ before) p h e = (h.0, one_modifier before p h.1 e)

behind_them : (before : written.Parts) (p : written.Part) (rest : written.Parts) → AllModifiers before → is_modifier p.entity ≡ false → behind_modifiers (before ++ p ∷ rest) ≡ p ∷ rest
unfolding behind_modifiers
behind_them [] p rest h e = ap (λ b. if b then behind_modifiers rest else p ∷ rest) e
behind_them (q ∷ before) p rest h e = ap (λ b. if b then behind_modifiers (before ++ p ∷ rest) else q ∷ (before ++ p ∷ rest)) h.0 ∙ behind_them before p rest h.1 e

method_is : (before : written.Parts) (p : written.Part) (rest : written.Parts) → method_in (before ++ p ∷ rest) ≡ member_behind (modifiers_of (before ++ p ∷ rest)) (behind_modifiers (before ++ p ∷ rest))
method_is [] p rest = refl
method_is (q ∷ before) p rest = refl

method_behind : (Q : Member → Type 0) (before : written.Parts) (p : written.Part) (rest : written.Parts) → AllModifiers before → is_modifier p.entity ≡ false → ((ms : List Placed) → Q (member_behind ms (p ∷ rest))) → Q (method_in (before ++ p ∷ rest))
method_behind Q before p rest h e i =
    subst Q (sym (method_is before p rest ∙ ap (member_behind (modifiers_of (before ++ p ∷ rest))) (behind_them before p rest h e))) (i (modifiers_of (before ++ p ∷ rest)))

no_body : (Q : Member → Type 0) → OfHeaders Q → (b : Bool) (h : Header) (ms : List Placed) (result : Option WrittenType) (ty : WrittenType) (all : List Declarator) → b ≡ true → Q (if b then syntax.Method h result None else syntax.Fields ms ty all)
no_body Q g true h ms result ty all e = g.header h result
no_body Q g false h ms result ty all e = absurd cc

header_without : (Q : Member → Type 0) → OfHeaders Q → (before : written.Parts) (p : written.Part) (n : ℕ) (o : Tok) (q : written.Part) → is_params q.entity ≡ true → AllModifiers before → is_modifier p.entity ≡ false → Q (method_in (before ++ p ∷ part_at n (Leaf o) ∷ q ∷ []))
header_without Q g before p n o q params h e = method_behind Q before p (part_at n (Leaf o) ∷ q ∷ []) h e (λ ms. no_body Q g (is_params q.entity) _ ms (result_of p) (type_at p) (declarators n (Leaf o)) params)

header_with : (Q : Member → Type 0) → OfHeaders Q → (before : written.Parts) (p : written.Part) (n : ℕ) (o : Tok) (q : written.Part) (m : ℕ) (ts : Asts) → is_params q.entity ≡ true → AllModifiers before → is_modifier p.entity ≡ false →
    Q (method_in (before ++ p ∷ part_at n (Leaf o) ∷ q ∷ part_at m (Node form.Throws ts) ∷ []))
header_with Q g before p n o q m ts params h e = method_behind Q before p (part_at n (Leaf o) ∷ q ∷ part_at m (Node form.Throws ts) ∷ []) h e (λ ms. no_body Q g (is_params q.entity) _ ms (result_of p) (type_at p) (declarators n (Leaf o)) params)

grouped_three : (before : written.Parts) (p q r : written.Part) → ((before ++ p ∷ []) ++ q ∷ []) ++ r ∷ [] ≡ before ++ p ∷ q ∷ r ∷ []
grouped_three before p q r = append_assoc (before ++ p ∷ []) (q ∷ []) (r ∷ []) ∙ append_assoc before (p ∷ []) (q ∷ r ∷ [])

grouped_four : (before : written.Parts) (p q r s : written.Part) → (((before ++ p ∷ []) ++ q ∷ []) ++ r ∷ []) ++ s ∷ [] ≡ before ++ p ∷ q ∷ r ∷ s ∷ []
grouped_four before p q r s = ap (λ xs. xs ++ s ∷ []) (grouped_three before p q r) ∙ append_assoc before (p ∷ q ∷ r ∷ []) (s ∷ [])

along_before : (Q : Member → Type 0) (xs ys : written.Parts) → xs ≡ ys → Q (method_in ys) → Q (method_in xs)
along_before Q xs ys e h = let R : written.Parts → Type 0 = λ zs. Q (method_in zs) in subst R (sym e) h

-- methods and the brace behind them
abbrev pub to_close : List Item
to_close = Parts rows.Methods ∷ a kinds.CloseBrace ∷ []

abbrev one_method : List Item
one_method = Parts (rows.Any sorts.Mod) ∷ Part sorts.Result ∷ name ∷ Part sorts.Params ∷ Parts (rows.Maybe sorts.Throws) ∷ a kinds.Semicolon ∷ to_close

method_part : (ts : Asts) → Match one_method ts → HasPart ts
method_part ts (grammar.chosen grammar.some_of (grammar.part v w)) = tt
method_part ts (grammar.chosen grammar.none_of (grammar.part v w)) = tt

close_part : (ts : Asts) → Match to_close ts → HasPart ts
close_part ts (grammar.chosen grammar.no_methods (grammar.token m w)) = tt
close_part ts (grammar.chosen grammar.no_method (grammar.token m w)) = tt
close_part ts (grammar.chosen grammar.method w) = method_part ts w

mutual
  unfolding placed methods_in

  pub of_methods : (Q : Member → Type 0) → OfHeaders Q → (ts : Asts) → Match to_close ts → (n : ℕ) → AllByRecursion Q (methods_in [] (placed n ts))
  of_methods Q g ts (grammar.chosen grammar.no_methods (grammar.token m grammar.done)) n = tt
  of_methods Q g ts (grammar.chosen grammar.no_method (grammar.token {o} {ts = rest} m w)) n = last_part Q [] n o (n + 1) rest m (close_part rest w) g.nothing (of_methods Q g rest w (n + 1))
  of_methods Q g ts (grammar.chosen grammar.method w) n = of_method Q g ts w n [] tt

  of_method : (Q : Member → Type 0) → OfHeaders Q → (ts : Asts) → Match one_method ts → (n : ℕ) (before : written.Parts) → AllModifiers before → AllByRecursion Q (methods_in before (placed n ts))
  of_method Q g ts (grammar.chosen grammar.some_of (grammar.part {t} {ts = rest} v w)) n before h =
      let plain = mod_plain t v in
      one_part Q before n t (n + width t) rest plain.0 (method_part rest w) (of_method Q g rest w (n + width t) (before ++ part_at n t ∷ []) (one_modifier before (part_at n t) h plain.1))
  of_method Q g ts (grammar.chosen grammar.none_of (grammar.part {t = r} v (grammar.token {o} m (grammar.part {t = ps} u (grammar.chosen grammar.absent (grammar.token {o = s} {ts = rest} e w)))))) n before h =
      let plain = result_plain r v in
      let second = n + width r in
      let third = n + width r + 1 in
      let last = n + width r + 1 + width ps in
      one_part Q before n r second (more (Leaf o) (more ps (more (Leaf s) rest))) plain.0 tt
      (one_part Q (before ++ part_at n r ∷ []) second (Leaf o) third (more ps (more (Leaf s) rest)) (name_alone (kind_of o) m).0 tt
      (one_part Q ((before ++ part_at n r ∷ []) ++ part_at second (Leaf o) ∷ []) third ps last (more (Leaf s) rest) (params_are ps u).1 tt
      (last_part Q (((before ++ part_at n r ∷ []) ++ part_at second (Leaf o) ∷ []) ++ part_at third ps ∷ []) last s (last + 1) rest e (close_part rest w)
      (along_before Q _ _ (grouped_three before (part_at n r) (part_at second (Leaf o)) (part_at third ps)) (header_without Q g before (part_at n r) second o (part_at third ps) (params_are ps u).0 h plain.1))
      (of_methods Q g rest w (last + 1)))))
  of_method Q g ts (grammar.chosen grammar.none_of (grammar.part {t = r} v (grammar.token {o} m (grammar.part {t = ps} u (grammar.chosen grammar.present (grammar.part {t = th} x (grammar.token {o = s} {ts = rest} e w))))))) n before h =
      let plain = result_plain r v in
      let throws = throws_node th x in
      let second = n + width r in
      let third = n + width r + 1 in
      let fourth = n + width r + 1 + width ps in
      let last = n + width r + 1 + width ps + width th in
      let R : Ast → Type 0 = λ z. Q (method_in (before ++ part_at n r ∷ part_at second (Leaf o) ∷ part_at third ps ∷ part_at fourth z ∷ [])) in
      one_part Q before n r second (more (Leaf o) (more ps (more th (more (Leaf s) rest)))) plain.0 tt
      (one_part Q (before ++ part_at n r ∷ []) second (Leaf o) third (more ps (more th (more (Leaf s) rest))) (name_alone (kind_of o) m).0 tt
      (one_part Q ((before ++ part_at n r ∷ []) ++ part_at second (Leaf o) ∷ []) third ps fourth (more th (more (Leaf s) rest)) (params_are ps u).1 tt
      (one_part Q (((before ++ part_at n r ∷ []) ++ part_at second (Leaf o) ∷ []) ++ part_at third ps ∷ []) fourth th last (more (Leaf s) rest) (along IsNoEnd th (Node form.Throws throws.0) throws.1 refl) tt
      (last_part Q ((((before ++ part_at n r ∷ []) ++ part_at second (Leaf o) ∷ []) ++ part_at third ps ∷ []) ++ part_at fourth th ∷ []) last s (last + 1) rest e (close_part rest w)
      (along_before Q _ _ (grouped_four before (part_at n r) (part_at second (Leaf o)) (part_at third ps) (part_at fourth th))
      (along R th (Node form.Throws throws.0) throws.1 (header_with Q g before (part_at n r) second o (part_at third ps) fourth throws.0 (params_are ps u).0 h plain.1)))
      (of_methods Q g rest w (last + 1))))))
