-- What goes on with a tree is told by its tokens, and may follow the tree.
use Rattle.std.proofs.Common.{true, false, not, ◌&&◌, ◌≡◌, List, [], ◌∷◌, ◌++◌, Option, Some, None, if◌then◌else◌, refl, sym, ◌∙◌, ap, subst}
use Rattle.wy_tree.specs.Seen.{Tok}
use Rattle.wy_tree.specs.Kinds.{kind_of, same}
use Rattle.wy_tree.specs.Ast.{Ast, Asts, tokens_all}
use Rattle.wy_tree.specs.Conditions.{is_array_creation, joins}
use Rattle.wy_tree.specs.Grammar.{a, name, tighter, operates, Suffix, operator, instance_of, member, element, Match, token}
use Rattle.wy_tree.specs.declared.kind.Kind.{Kind}
use Rattle.wy_tree.specs.declared.kind.Kind.TheVariants as kinds
use Rattle.wy_tree.specs.declared.grammar.Sort.{Sort}
use Rattle.wy_tree.specs.declared.grammar.Sort.TheVariants as sorts
use Rattle.wy_tree.specs.declared.grammar.Row.TheVariants as rows
use Rattle.wy_tree.specs.declared.grammar.Item.{Item}
use Rattle.wy_tree.specs.declared.grammar.Item.TheVariants.{Part, Parts}
use Rattle.wy_tree.proofs.Tags.{same_is}
use Rattle.wy_parser.specs.Prediction.{first_kind, continued, continued_level, continued_relation, continued_primary}
use Rattle.wy_parser.proofs.Truth.{is_false}
use Rattle.wy_parser.proofs.Firsts.{every, implied}
use Rattle.wy_parser.proofs.Follows.{meets}
use Rattle.wy_parser.proofs.Clear.{barred}

goes_on_operator : (x : Sort) (k : Kind) → operates x k ≡ true → continued_level x k ≡ Some (a k ∷ Part (tighter x) ∷ [])
unfolding continued_level
goes_on_operator x k e = ap (λ b. if b then Some (a k ∷ Part (tighter x) ∷ []) else None) e

relation_is_no_instanceof : (k : Kind) → operates sorts.Relation k ≡ true → not (same k kinds.Instanceof) ≡ true
unfolding every
relation_is_no_instanceof k e = implied (operates sorts.Relation) (λ k. not (same k kinds.Instanceof)) refl k e

goes_on_relation : (k : Kind) → operates sorts.Relation k ≡ true → continued_relation k ≡ Some (a k ∷ Part sorts.Shift ∷ [])
unfolding continued_relation
goes_on_relation k e =
    ap (λ b. if b then Some (a kinds.Instanceof ∷ Part sorts.RefType ∷ []) else continued_level sorts.Relation k) (is_false (same k kinds.Instanceof) (relation_is_no_instanceof k e))
    ∙ goes_on_operator sorts.Relation k e

goes_on_instanceof : (k : Kind) → same k kinds.Instanceof ≡ true → continued_relation k ≡ Some (a kinds.Instanceof ∷ Part sorts.RefType ∷ [])
unfolding continued_relation
goes_on_instanceof k e = ap (λ b. if b then Some (a kinds.Instanceof ∷ Part sorts.RefType ∷ []) else continued_level sorts.Relation k) e

goes_on_member : (k : Kind) → same k kinds.Dot ≡ true → continued_primary k ≡ Some (a kinds.Dot ∷ name ∷ Parts (rows.Maybe sorts.Args) ∷ [])
unfolding continued_primary
goes_on_member k e = ap (λ b. if b then Some (a kinds.Dot ∷ name ∷ Parts (rows.Maybe sorts.Args) ∷ []) else (if same k kinds.OpenBracket then Some (a kinds.OpenBracket ∷ Part sorts.Expr ∷ a kinds.CloseBracket ∷ []) else None)) e

bracket_is_no_dot : (k : Kind) → same k kinds.OpenBracket ≡ true → not (same k kinds.Dot) ≡ true
unfolding every
bracket_is_no_dot k e = implied (λ k. same k kinds.OpenBracket) (λ k. not (same k kinds.Dot)) refl k e

goes_on_element : (k : Kind) → same k kinds.OpenBracket ≡ true → continued_primary k ≡ Some (a kinds.OpenBracket ∷ Part sorts.Expr ∷ a kinds.CloseBracket ∷ [])
unfolding continued_primary
goes_on_element k e =
    let index : Option (List Item) = Some (a kinds.OpenBracket ∷ Part sorts.Expr ∷ a kinds.CloseBracket ∷ []) in
    ap (λ b. if b then Some (a kinds.Dot ∷ name ∷ Parts (rows.Maybe sorts.Args) ∷ []) else (if same k kinds.OpenBracket then index else None)) (is_false (same k kinds.Dot) (bracket_is_no_dot k e))
    ∙ ap (λ b. if b then index else None) e

goes_on_level : (x : Sort) (k j : Kind) → operates x k ≡ true → same j k ≡ true → continued_level x j ≡ Some (a k ∷ Part (tighter x) ∷ [])
goes_on_level x k j e f = subst (λ z. continued_level x z ≡ Some (a k ∷ Part (tighter x) ∷ [])) (sym (same_is j k f)) (goes_on_operator x k e)

pub goes_on : (x : Sort) (items : List Item) → Suffix x items → (ts : Asts) → Match items ts → (s : List Tok) → continued x (tokens_all ts ++ s) ≡ Some items
goes_on _ _ (operator {x = sorts.Relation} {k} e) _ (token {o} f w) s =
    subst (λ z. continued_relation z ≡ Some (a k ∷ Part sorts.Shift ∷ [])) (sym (same_is (kind_of o) k f)) (goes_on_relation k e)
goes_on _ _ (operator {x = sorts.Primary} {k} e) ts w s = absurd (cc)
goes_on _ _ (operator {x} {k} e) _ (token {o} f w) s = goes_on_level x k (kind_of o) e f
goes_on _ _ instance_of _ (token {o} f w) s = goes_on_instanceof (kind_of o) f
goes_on _ _ member _ (token {o} f w) s = goes_on_member (kind_of o) f
goes_on _ _ element _ (token {o} f w) s = goes_on_element (kind_of o) f

meets_operator : (x : Sort) (k : Kind) → operates x k ≡ true → meets x k ≡ true
unfolding every
meets_operator sorts.OrElse k e = implied (operates sorts.OrElse) (meets sorts.OrElse) refl k e
meets_operator sorts.AndAlso k e = implied (operates sorts.AndAlso) (meets sorts.AndAlso) refl k e
meets_operator sorts.Or k e = implied (operates sorts.Or) (meets sorts.Or) refl k e
meets_operator sorts.Xor k e = implied (operates sorts.Xor) (meets sorts.Xor) refl k e
meets_operator sorts.And k e = implied (operates sorts.And) (meets sorts.And) refl k e
meets_operator sorts.Equality k e = implied (operates sorts.Equality) (meets sorts.Equality) refl k e
meets_operator sorts.Relation k e = implied (operates sorts.Relation) (meets sorts.Relation) refl k e
meets_operator sorts.Shift k e = implied (operates sorts.Shift) (meets sorts.Shift) refl k e
meets_operator sorts.Sum k e = implied (operates sorts.Sum) (meets sorts.Sum) refl k e
meets_operator sorts.Product k e = implied (operates sorts.Product) (meets sorts.Product) refl k e
meets_operator x k e = absurd (cc)

meets_instanceof : (k : Kind) → same k kinds.Instanceof ≡ true → meets sorts.Relation k ≡ true
unfolding every
meets_instanceof k e = implied (λ k. same k kinds.Instanceof) (meets sorts.Relation) refl k e

meets_dot : (k : Kind) → same k kinds.Dot ≡ true → meets sorts.Primary k ≡ true
unfolding every
meets_dot k e = implied (λ k. same k kinds.Dot) (meets sorts.Primary) refl k e

meets_bracket : (k : Kind) → same k kinds.OpenBracket ≡ true → meets sorts.Primary k ≡ true
unfolding every
meets_bracket k e = implied (λ k. same k kinds.OpenBracket) (meets sorts.Primary) refl k e

pub suffix_meets : (x : Sort) (items : List Item) → Suffix x items → (ts : Asts) → Match items ts → (s : List Tok) → meets x (first_kind (tokens_all ts ++ s)) ≡ true
suffix_meets _ _ (operator {x} {k} e) _ (token {o} f w) s = subst (λ z. meets x z ≡ true) (sym (same_is (kind_of o) k f)) (meets_operator x k e)
suffix_meets _ _ instance_of _ (token {o} f w) s = meets_instanceof (kind_of o) f
suffix_meets _ _ member _ (token {o} f w) s = meets_dot (kind_of o) f
suffix_meets _ _ element _ (token {o} f w) s = meets_bracket (kind_of o) f

pub suffix_barred : (x : Sort) (items : List Item) → Suffix x items → (l : Ast) (ts : Asts) → Match items ts → (s : List Tok) → joins l ts ≡ true → barred x l (first_kind (tokens_all ts ++ s)) ≡ false
suffix_barred _ _ (operator {x = sorts.Stmt} e) l ts w s f = absurd (cc)
suffix_barred _ _ (operator {x = sorts.Primary} e) l ts w s f = absurd (cc)
suffix_barred _ _ (operator {x = sorts.New} e) l ts w s f = absurd (cc)
suffix_barred _ _ (operator {x} e) l ts w s f = refl
suffix_barred _ _ instance_of l ts w s f = refl
suffix_barred _ _ member l _ (token {o} e w) s f = is_false (is_array_creation l && same (kind_of o) kinds.OpenBracket) f
suffix_barred _ _ element l _ (token {o} e w) s f = is_false (is_array_creation l && same (kind_of o) kinds.OpenBracket) f
