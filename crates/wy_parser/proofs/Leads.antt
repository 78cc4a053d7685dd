-- What stands behind the first word of an expression or of a statement.
use Rattle.std.proofs.Common.{Bool, true, false, ◌||◌, not, ◌≡◌, List, [], ◌∷◌, ◌++◌, refl, sym, ◌∙◌, ap, subst, append_assoc}
use Rattle.wy_tree.specs.Seen.{Tok}
use Rattle.wy_tree.specs.Kinds.{kind_of, same}
use Rattle.wy_tree.specs.Conditions.{is_name}
use Rattle.wy_tree.specs.Ast.{Ast, Asts, Leaf, more, node, tokens, tokens_all}
use Rattle.wy_tree.specs.Grammar as grammar
use Rattle.wy_tree.specs.Grammar.{a, operates, is_own, allows, form_of, rule, Suffix, Is, made, grown, Match, done, token, part, chosen}
use Rattle.wy_tree.specs.declared.kind.Kind.{Kind}
use Rattle.wy_tree.specs.declared.kind.Kind.TheVariants as kinds
use Rattle.wy_tree.specs.declared.grammar.Class.TheVariants.{Prefixing, Setting}
use Rattle.wy_tree.specs.declared.grammar.Sort.{Sort}
use Rattle.wy_tree.specs.declared.grammar.Sort.TheVariants as sorts
use Rattle.wy_tree.specs.declared.grammar.Row.TheVariants as rows
use Rattle.wy_tree.specs.declared.grammar.Item.{Item}
use Rattle.wy_tree.specs.declared.grammar.Item.TheVariants.{Part, Parts}
use Rattle.wy_tree.proofs.Tags.{same_is}
use Rattle.wy_parser.specs.Prediction.{first_kind, rest, second}
use Rattle.wy_parser.proofs.Firsts.{within, begins, every, implies, implied, first_in, node_front, starts, front_first}

-- what may stand behind a word in an expression, besides what opens arguments or an index
abbrev pub joints : List Kind
joints =
    kinds.Dot ∷ kinds.Step ∷ kinds.Times ∷ kinds.Plus ∷ kinds.Minus ∷ kinds.Shift ∷ kinds.Relation ∷ kinds.Instanceof ∷ kinds.Equality ∷ kinds.And ∷ kinds.Xor ∷ kinds.Or ∷ kinds.AndAlso ∷ kinds.OrElse
    ∷ kinds.Question ∷ kinds.Assign ∷ kinds.OpAssign ∷ []

-- the sorts of expressions that may begin with a word
abbrev pub is_worded : Sort → Bool
is_worded sorts.Expr = true
is_worded sorts.Effect = true
is_worded sorts.Cond = true
is_worded sorts.OrElse = true
is_worded sorts.AndAlso = true
is_worded sorts.Or = true
is_worded sorts.Xor = true
is_worded sorts.And = true
is_worded sorts.Equality = true
is_worded sorts.Relation = true
is_worded sorts.Shift = true
is_worded sorts.Sum = true
is_worded sorts.Product = true
is_worded sorts.Unary = true
is_worded sorts.Postfix = true
is_worded sorts.Primary = true
is_worded _ = false

abbrev pub is_word : Kind → Bool
is_word k = is_name k || is_own k

no_both : (b c : Bool) → b ≡ true → not b ≡ true → ⊥
no_both true c e f = absurd (cc)
no_both false c e f = absurd (cc)

pub name_is_word : (k : Kind) → is_name k ≡ true → is_word k ≡ true
unfolding every
name_is_word k e = implied is_name is_word refl k e

not_word : (p : Kind → Bool) → every (λ k. implies (p k) (not (is_word k))) ≡ true → (k : Kind) → p k ≡ true → is_word k ≡ true → ⊥
not_word p t k e f = no_both (is_word k) true f (implied p (λ k. not (is_word k)) t k e)

operator_joins : (x : Sort) (k : Kind) → operates x k ≡ true → within joints k ≡ true
unfolding every
operator_joins sorts.OrElse k e = implied (operates sorts.OrElse) (within joints) refl k e
operator_joins sorts.AndAlso k e = implied (operates sorts.AndAlso) (within joints) refl k e
operator_joins sorts.Or k e = implied (operates sorts.Or) (within joints) refl k e
operator_joins sorts.Xor k e = implied (operates sorts.Xor) (within joints) refl k e
operator_joins sorts.And k e = implied (operates sorts.And) (within joints) refl k e
operator_joins sorts.Equality k e = implied (operates sorts.Equality) (within joints) refl k e
operator_joins sorts.Relation k e = implied (operates sorts.Relation) (within joints) refl k e
operator_joins sorts.Shift k e = implied (operates sorts.Shift) (within joints) refl k e
operator_joins sorts.Sum k e = implied (operates sorts.Sum) (within joints) refl k e
operator_joins sorts.Product k e = implied (operates sorts.Product) (within joints) refl k e
operator_joins x k e = absurd (cc)

setting_joins : (k : Kind) → allows Setting k ≡ true → within joints k ≡ true
unfolding every
setting_joins k e = implied (allows Setting) (within joints) refl k e

question_joins : (k : Kind) → same k kinds.Question ≡ true → within joints k ≡ true
unfolding every
question_joins k e = implied (λ k. same k kinds.Question) (within joints) refl k e

instanceof_joins : (k : Kind) → same k kinds.Instanceof ≡ true → within joints k ≡ true
unfolding every
instanceof_joins k e = implied (λ k. same k kinds.Instanceof) (within joints) refl k e

step_joins : (k : Kind) → same k kinds.Step ≡ true → within joints k ≡ true
unfolding every
step_joins k e = implied (λ k. same k kinds.Step) (within joints) refl k e

dot_joins : (k : Kind) → same k kinds.Dot ≡ true → within joints k ≡ true
unfolding every
dot_joins k e = implied (λ k. same k kinds.Dot) (within joints) refl k e

pub arguments_open : (k : Kind) → begins sorts.Args k ≡ true → same k kinds.OpenParen ≡ true
unfolding every
arguments_open k e = implied (begins sorts.Args) (λ k. same k kinds.OpenParen) refl k e

minus_is_no_word : (k : Kind) → same k kinds.Minus ≡ true → is_word k ≡ true → ⊥
unfolding every
minus_is_no_word k e f = not_word (λ k. same k kinds.Minus) refl k e f

prefixing_is_no_word : (k : Kind) → allows Prefixing k ≡ true → is_word k ≡ true → ⊥
unfolding every
prefixing_is_no_word k e f = not_word (allows Prefixing) refl k e f

cast_is_no_word : (k : Kind) → begins sorts.Cast k ≡ true → is_word k ≡ true → ⊥
unfolding every
cast_is_no_word k e f = not_word (begins sorts.Cast) refl k e f

literal_is_no_word : (k : Kind) → same k kinds.Literal ≡ true → is_word k ≡ true → ⊥
unfolding every
literal_is_no_word k e f = not_word (λ k. same k kinds.Literal) refl k e f

paren_is_no_word : (k : Kind) → same k kinds.OpenParen ≡ true → is_word k ≡ true → ⊥
unfolding every
paren_is_no_word k e f = not_word (λ k. same k kinds.OpenParen) refl k e f

new_is_no_word : (k : Kind) → begins sorts.New k ≡ true → is_word k ≡ true → ⊥
unfolding every
new_is_no_word k e f = not_word (begins sorts.New) refl k e f

a_block_is_no_word : (k : Kind) → first_in (Part sorts.Block ∷ []) (λ _. true) k ≡ true → is_word k ≡ true → ⊥
unfolding every
a_block_is_no_word k e f = not_word (first_in (Part sorts.Block ∷ []) (λ _. true)) refl k e f

empty_is_no_word : (k : Kind) → first_in (a kinds.Semicolon ∷ []) (λ _. true) k ≡ true → is_word k ≡ true → ⊥
unfolding every
empty_is_no_word k e f = not_word (first_in (a kinds.Semicolon ∷ []) (λ _. true)) refl k e f

an_if_is_no_word : (k : Kind) → first_in (a kinds.If ∷ a kinds.OpenParen ∷ Part sorts.Expr ∷ a kinds.CloseParen ∷ Part sorts.Stmt ∷ Parts rows.Otherwise ∷ []) (λ _. true) k ≡ true → is_word k ≡ true → ⊥
unfolding every
an_if_is_no_word k e f = not_word (first_in (a kinds.If ∷ a kinds.OpenParen ∷ Part sorts.Expr ∷ a kinds.CloseParen ∷ Part sorts.Stmt ∷ Parts rows.Otherwise ∷ []) (λ _. true)) refl k e f

a_while_is_no_word : (k : Kind) → first_in (a kinds.While ∷ a kinds.OpenParen ∷ Part sorts.Expr ∷ a kinds.CloseParen ∷ Part sorts.Stmt ∷ []) (λ _. true) k ≡ true → is_word k ≡ true → ⊥
unfolding every
a_while_is_no_word k e f = not_word (first_in (a kinds.While ∷ a kinds.OpenParen ∷ Part sorts.Expr ∷ a kinds.CloseParen ∷ Part sorts.Stmt ∷ []) (λ _. true)) refl k e f

a_do_is_no_word : (k : Kind) → first_in (a kinds.Do ∷ Part sorts.Stmt ∷ a kinds.While ∷ a kinds.OpenParen ∷ Part sorts.Expr ∷ a kinds.CloseParen ∷ a kinds.Semicolon ∷ []) (λ _. true) k ≡ true → is_word k ≡ true → ⊥
unfolding every
a_do_is_no_word k e f = not_word (first_in (a kinds.Do ∷ Part sorts.Stmt ∷ a kinds.While ∷ a kinds.OpenParen ∷ Part sorts.Expr ∷ a kinds.CloseParen ∷ a kinds.Semicolon ∷ []) (λ _. true)) refl k e f

a_for_is_no_word : (k : Kind) → first_in (a kinds.For ∷ a kinds.OpenParen ∷ Parts (rows.Maybe sorts.ForInit) ∷ a kinds.Semicolon ∷ Parts (rows.Maybe sorts.Expr) ∷ a kinds.Semicolon ∷ Parts (rows.Series sorts.Effect) ∷ a kinds.CloseParen ∷ Part sorts.Stmt ∷ []) (λ _. true) k ≡ true → is_word k ≡ true → ⊥
unfolding every
a_for_is_no_word k e f = not_word (first_in (a kinds.For ∷ a kinds.OpenParen ∷ Parts (rows.Maybe sorts.ForInit) ∷ a kinds.Semicolon ∷ Parts (rows.Maybe sorts.Expr) ∷ a kinds.Semicolon ∷ Parts (rows.Series sorts.Effect) ∷ a kinds.CloseParen ∷ Part sorts.Stmt ∷ []) (λ _. true)) refl k e f

a_break_is_no_word : (k : Kind) → first_in (a kinds.Break ∷ Parts rows.Label ∷ a kinds.Semicolon ∷ []) (λ _. true) k ≡ true → is_word k ≡ true → ⊥
unfolding every
a_break_is_no_word k e f = not_word (first_in (a kinds.Break ∷ Parts rows.Label ∷ a kinds.Semicolon ∷ []) (λ _. true)) refl k e f

a_continue_is_no_word : (k : Kind) → first_in (a kinds.Continue ∷ Parts rows.Label ∷ a kinds.Semicolon ∷ []) (λ _. true) k ≡ true → is_word k ≡ true → ⊥
unfolding every
a_continue_is_no_word k e f = not_word (first_in (a kinds.Continue ∷ Parts rows.Label ∷ a kinds.Semicolon ∷ []) (λ _. true)) refl k e f

a_return_is_no_word : (k : Kind) → first_in (a kinds.Return ∷ Parts (rows.Maybe sorts.Expr) ∷ a kinds.Semicolon ∷ []) (λ _. true) k ≡ true → is_word k ≡ true → ⊥
unfolding every
a_return_is_no_word k e f = not_word (first_in (a kinds.Return ∷ Parts (rows.Maybe sorts.Expr) ∷ a kinds.Semicolon ∷ []) (λ _. true)) refl k e f

a_throw_is_no_word : (k : Kind) → first_in (a kinds.Throw ∷ Part sorts.Expr ∷ a kinds.Semicolon ∷ []) (λ _. true) k ≡ true → is_word k ≡ true → ⊥
unfolding every
a_throw_is_no_word k e f = not_word (first_in (a kinds.Throw ∷ Part sorts.Expr ∷ a kinds.Semicolon ∷ []) (λ _. true)) refl k e f

a_try_is_no_word : (k : Kind) → first_in (a kinds.Try ∷ Part sorts.Block ∷ Parts rows.Handlers ∷ []) (λ _. true) k ≡ true → is_word k ≡ true → ⊥
unfolding every
a_try_is_no_word k e f = not_word (first_in (a kinds.Try ∷ Part sorts.Block ∷ Parts rows.Handlers ∷ []) (λ _. true)) refl k e f

no_suffix : {items : List Item} → Suffix sorts.Stmt items → ⊥
no_suffix (grammar.operator e) = absurd (cc)

module _ (A : Kind → Bool) (P : List Tok → Type 0) (words : (k : Kind) → A k ≡ true → is_word k ≡ true) (joined : (r : List Tok) → within joints (first_kind r) ≡ true → P r)
    (indexed : (r : List Tok) → same (first_kind r) kinds.OpenBracket ≡ true → begins sorts.Expr (second r) ≡ true → P r)
    (called : (k : Kind) → A k ≡ true → is_name k ≡ true → (r : List Tok) → same (first_kind r) kinds.OpenParen ≡ true → P r) where
  behind_nothing : (ts : Asts) → Match [] ts → (s : List Tok) → P s → P (tokens_all ts ++ s)
  behind_nothing _ done s p = p

  behind_cond : (ts : Asts) → Match (Parts rows.Assigned ∷ []) ts → (s : List Tok) → P s → P (tokens_all ts ++ s)
  behind_cond _ (chosen grammar.not_assigned done) s p = p
  behind_cond _ (chosen grammar.assigned (token {o} {ts} e w)) s p = joined (o ∷ (tokens_all ts ++ s)) (setting_joins (kind_of o) e)

  behind_or_else : (ts : Asts) → Match (Parts rows.Choice ∷ []) ts → (s : List Tok) → P s → P (tokens_all ts ++ s)
  behind_or_else _ (chosen grammar.no_choice done) s p = p
  behind_or_else _ (chosen grammar.choice (token {o} {ts} e w)) s p = joined (o ∷ (tokens_all ts ++ s)) (question_joins (kind_of o) e)

  behind_primary : (ts : Asts) → Match (Parts rows.Steps ∷ []) ts → (s : List Tok) → P s → P (tokens_all ts ++ s)
  behind_primary _ (chosen grammar.no_steps done) s p = p
  behind_primary _ (chosen grammar.steps (token {o} {ts} e w)) s p = joined (o ∷ (tokens_all ts ++ s)) (step_joins (kind_of o) e)

  -- arguments, behind a name
  behind_name : (k : Kind) → A k ≡ true → is_name k ≡ true → (ts : Asts) → Match (Parts (rows.Maybe sorts.Args) ∷ []) ts → (s : List Tok) → P s → P (tokens_all ts ++ s)
  behind_name k b n _ (chosen grammar.absent done) s p = p
  behind_name k b n _ (chosen grammar.present (part {t} {ts} v w)) s p =
      let r = tokens_all (more t ts) ++ s in
      called k b n r (arguments_open (first_kind r) (ap (λ z. begins sorts.Args (first_kind z)) (append_assoc (tokens t) (tokens_all ts) s) ∙ starts sorts.Args t v (tokens_all ts ++ s)))

  behind_left : (x : Sort) (items : List Item) → Suffix x items → (ts : Asts) → Match items ts → (s : List Tok) → P (tokens_all ts ++ s)
  behind_left _ _ (grammar.operator {x} {k} f) _ (token {o} {ts} e w) s =
      joined (o ∷ (tokens_all ts ++ s)) (subst (λ z. within joints z ≡ true) (sym (same_is (kind_of o) k e)) (operator_joins x k f))
  behind_left _ _ grammar.instance_of _ (token {o} {ts} e w) s = joined (o ∷ (tokens_all ts ++ s)) (instanceof_joins (kind_of o) e)
  behind_left _ _ grammar.member _ (token {o} {ts} e w) s = joined (o ∷ (tokens_all ts ++ s)) (dot_joins (kind_of o) e)
  behind_left _ _ grammar.element _ (token {o} e (part {t} {ts} v w)) s =
      indexed (o ∷ (tokens_all (more t ts) ++ s)) e (ap (λ z. begins sorts.Expr (first_kind z)) (append_assoc (tokens t) (tokens_all ts) s) ∙ starts sorts.Expr t v (tokens_all ts ++ s))

  in_part : (t : Ast) (ts : Asts) (s : List Tok) → (A (first_kind (tokens t ++ (tokens_all ts ++ s))) ≡ true → P (rest (tokens t ++ (tokens_all ts ++ s)))) → A (first_kind (tokens_all (more t ts) ++ s)) ≡ true → P (rest (tokens_all (more t ts) ++ s))
  in_part t ts s go b = subst (λ z. A (first_kind z) ≡ true → P (rest z)) (sym (append_assoc (tokens t) (tokens_all ts) s)) go b

  no_part : (x : Sort) (t : Ast) (ts : Asts) (s : List Tok) (Q : Type 0) → ((k : Kind) → begins x k ≡ true → is_word k ≡ true → ⊥) → Is x t → A (first_kind (tokens_all (more t ts) ++ s)) ≡ true → Q
  no_part x t ts s Q f v b =
      let r = tokens_all (more t ts) ++ s in
      absurd (f (first_kind r) (ap (λ z. begins x (first_kind z)) (append_assoc (tokens t) (tokens_all ts) s) ∙ starts x t v (tokens_all ts ++ s)) (words (first_kind r) b))

  retold : (x : Sort) (t : Ast) (ts : Asts) (s : List Tok) → t ≡ node (form_of x) ts → (A (first_kind (tokens_all ts ++ s)) ≡ true → P (rest (tokens_all ts ++ s))) → A (first_kind (tokens t ++ s)) ≡ true → P (rest (tokens t ++ s))
  retold x t ts s q go b =
      let same_tokens : tokens t ++ s ≡ tokens_all ts ++ s = ap (λ z. tokens z ++ s) q ∙ node_front (form_of x) ts s in
      subst (λ z. A (first_kind z) ≡ true → P (rest z)) (sym same_tokens) go b

  mutual
    pub leads : (x : Sort) (t : Ast) → Is x t → is_worded x ≡ true → (s : List Tok) → A (first_kind (tokens t ++ s)) ≡ true → P s → P (rest (tokens t ++ s))
    leads x t (grown {l} {ts} {items} v y w e q) i s b p =
        let same_tokens : tokens t ++ s ≡ tokens l ++ (tokens_all ts ++ s) = ap (λ z. tokens z ++ s) q ∙ append_assoc (tokens l) (tokens_all ts) s in
        subst (λ z. P (rest z)) (sym same_tokens) (leads x l v i (tokens_all ts ++ s) (subst (λ z. A (first_kind z) ≡ true) same_tokens b) (behind_left x items y ts w s))
    leads sorts.Expr t (made {ts} w e q) i s b p = retold sorts.Expr t ts s q (λ c. leads_expr ts w s c p) b
    leads sorts.Effect t (made {ts} w e q) i s b p = retold sorts.Effect t ts s q (λ c. leads_part sorts.Expr ts w refl s c p) b
    leads sorts.Cond t (made {ts} w e q) i s b p = retold sorts.Cond t ts s q (λ c. leads_cond ts w s c p) b
    leads sorts.OrElse t (made {ts} w e q) i s b p = retold sorts.OrElse t ts s q (λ c. leads_part sorts.AndAlso ts w refl s c p) b
    leads sorts.AndAlso t (made {ts} w e q) i s b p = retold sorts.AndAlso t ts s q (λ c. leads_part sorts.Or ts w refl s c p) b
    leads sorts.Or t (made {ts} w e q) i s b p = retold sorts.Or t ts s q (λ c. leads_part sorts.Xor ts w refl s c p) b
    leads sorts.Xor t (made {ts} w e q) i s b p = retold sorts.Xor t ts s q (λ c. leads_part sorts.And ts w refl s c p) b
    leads sorts.And t (made {ts} w e q) i s b p = retold sorts.And t ts s q (λ c. leads_part sorts.Equality ts w refl s c p) b
    leads sorts.Equality t (made {ts} w e q) i s b p = retold sorts.Equality t ts s q (λ c. leads_part sorts.Relation ts w refl s c p) b
    leads sorts.Relation t (made {ts} w e q) i s b p = retold sorts.Relation t ts s q (λ c. leads_part sorts.Shift ts w refl s c p) b
    leads sorts.Shift t (made {ts} w e q) i s b p = retold sorts.Shift t ts s q (λ c. leads_part sorts.Sum ts w refl s c p) b
    leads sorts.Sum t (made {ts} w e q) i s b p = retold sorts.Sum t ts s q (λ c. leads_part sorts.Product ts w refl s c p) b
    leads sorts.Product t (made {ts} w e q) i s b p = retold sorts.Product t ts s q (λ c. leads_part sorts.Unary ts w refl s c p) b
    leads sorts.Unary t (made {ts} w e q) i s b p = retold sorts.Unary t ts s q (λ c. leads_unary ts w s c p) b
    leads sorts.Postfix t (made {ts} w e q) i s b p = retold sorts.Postfix t ts s q (λ c. leads_postfix ts w s c p) b
    leads sorts.Primary t (made {ts} w e q) i s b p = retold sorts.Primary t ts s q (λ c. leads_primary ts w s c p) b
    leads x t (made w e q) i s b p = absurd (cc)

    leads_part : (x : Sort) (ts : Asts) → Match (Part x ∷ []) ts → is_worded x ≡ true → (s : List Tok) → A (first_kind (tokens_all ts ++ s)) ≡ true → P s → P (rest (tokens_all ts ++ s))
    leads_part _ _ (part {x} {t} {ts} v w) i s b p = in_part t ts s (λ c. leads x t v i (tokens_all ts ++ s) c (behind_nothing ts w s p)) b

    leads_expr : (ts : Asts) → Match (Part sorts.Cond ∷ Parts rows.Assigned ∷ []) ts → (s : List Tok) → A (first_kind (tokens_all ts ++ s)) ≡ true → P s → P (rest (tokens_all ts ++ s))
    leads_expr _ (part {t} {ts} v w) s b p = in_part t ts s (λ c. leads sorts.Cond t v refl (tokens_all ts ++ s) c (behind_cond ts w s p)) b

    leads_cond : (ts : Asts) → Match (Part sorts.OrElse ∷ Parts rows.Choice ∷ []) ts → (s : List Tok) → A (first_kind (tokens_all ts ++ s)) ≡ true → P s → P (rest (tokens_all ts ++ s))
    leads_cond _ (part {t} {ts} v w) s b p = in_part t ts s (λ c. leads sorts.OrElse t v refl (tokens_all ts ++ s) c (behind_or_else ts w s p)) b

    leads_unary : (ts : Asts) → Match (Parts rows.UnaryForm ∷ []) ts → (s : List Tok) → A (first_kind (tokens_all ts ++ s)) ≡ true → P s → P (rest (tokens_all ts ++ s))
    leads_unary _ (chosen grammar.negated (token {o} e w)) s b p = absurd (minus_is_no_word (kind_of o) e (words (kind_of o) b))
    leads_unary _ (chosen grammar.prefixed (token {o} e w)) s b p = absurd (prefixing_is_no_word (kind_of o) e (words (kind_of o) b))
    leads_unary _ (chosen grammar.a_cast (part {t} {ts} v w)) s b p = no_part sorts.Cast t ts s (P (rest (tokens_all (more t ts) ++ s))) cast_is_no_word v b
    leads_unary _ (chosen grammar.a_postfix (part {t} {ts} v w)) s b p = in_part t ts s (λ c. leads sorts.Postfix t v refl (tokens_all ts ++ s) c (behind_nothing ts w s p)) b

    leads_postfix : (ts : Asts) → Match (Part sorts.Primary ∷ Parts rows.Steps ∷ []) ts → (s : List Tok) → A (first_kind (tokens_all ts ++ s)) ≡ true → P s → P (rest (tokens_all ts ++ s))
    leads_postfix _ (part {t} {ts} v w) s b p = in_part t ts s (λ c. leads sorts.Primary t v refl (tokens_all ts ++ s) c (behind_primary ts w s p)) b

    leads_primary : (ts : Asts) → Match (Parts rows.PrimaryForm ∷ []) ts → (s : List Tok) → A (first_kind (tokens_all ts ++ s)) ≡ true → P s → P (rest (tokens_all ts ++ s))
    leads_primary _ (chosen grammar.literal (token {o} e w)) s b p = absurd (literal_is_no_word (kind_of o) e (words (kind_of o) b))
    leads_primary _ (chosen grammar.this (token {ts} e w)) s b p = behind_nothing ts w s p
    leads_primary _ (chosen grammar.named (token {o} {ts} e w)) s b p = behind_name (kind_of o) b e ts w s p
    leads_primary _ (chosen grammar.grouped (token {o} e w)) s b p = absurd (paren_is_no_word (kind_of o) e (words (kind_of o) b))
    leads_primary _ (chosen grammar.created (part {t} {ts} v w)) s b p = no_part sorts.New t ts s (P (rest (tokens_all (more t ts) ++ s))) new_is_no_word v b
    leads_primary _ (chosen grammar.inherited (token e (token {o} {ts} f w))) s b p = joined (o ∷ (tokens_all ts ++ s)) (dot_joins (kind_of o) f)

  no_way : (way : List Item) (ts : Asts) (s : List Tok) (Q : Type 0) → ((k : Kind) → first_in way (λ _. true) k ≡ true → is_word k ≡ true → ⊥) → Match way ts → A (first_kind (tokens_all ts ++ s)) ≡ true → Q
  no_way way ts s Q f w b = let k = first_kind (tokens_all ts ++ s) in absurd (f k (front_first way ts w (λ _. true) s refl) (words k b))

  statement_parts : ((r : List Tok) → same (first_kind r) kinds.Semicolon ≡ true → P r) → ((r : List Tok) → same (first_kind r) kinds.Colon ≡ true → P r) → (ts : Asts) → Match (rule sorts.Stmt) ts → (s : List Tok)
      → A (first_kind (tokens_all ts ++ s)) ≡ true → P (rest (tokens_all ts ++ s))
  statement_parts ended labelled ts (chosen grammar.a_block w) s b = no_way (Part sorts.Block ∷ []) ts s (P (rest (tokens_all ts ++ s))) a_block_is_no_word w b
  statement_parts ended labelled ts (chosen grammar.empty w) s b = no_way (a kinds.Semicolon ∷ []) ts s (P (rest (tokens_all ts ++ s))) empty_is_no_word w b
  statement_parts ended labelled _ (chosen grammar.an_effect (part {t} v (token {o} {ts} e w))) s b =
      in_part t (more (Leaf o) ts) s (λ c. leads sorts.Effect t v refl (o ∷ (tokens_all ts ++ s)) c (ended (o ∷ (tokens_all ts ++ s)) e)) b
  statement_parts ended labelled ts (chosen grammar.an_if w) s b = no_way (a kinds.If ∷ a kinds.OpenParen ∷ Part sorts.Expr ∷ a kinds.CloseParen ∷ Part sorts.Stmt ∷ Parts rows.Otherwise ∷ []) ts s (P (rest (tokens_all ts ++ s))) an_if_is_no_word w b
  statement_parts ended labelled ts (chosen grammar.a_while w) s b = no_way (a kinds.While ∷ a kinds.OpenParen ∷ Part sorts.Expr ∷ a kinds.CloseParen ∷ Part sorts.Stmt ∷ []) ts s (P (rest (tokens_all ts ++ s))) a_while_is_no_word w b
  statement_parts ended labelled ts (chosen grammar.a_do w) s b = no_way (a kinds.Do ∷ Part sorts.Stmt ∷ a kinds.While ∷ a kinds.OpenParen ∷ Part sorts.Expr ∷ a kinds.CloseParen ∷ a kinds.Semicolon ∷ []) ts s (P (rest (tokens_all ts ++ s))) a_do_is_no_word w b
  statement_parts ended labelled ts (chosen grammar.a_for w) s b = no_way (a kinds.For ∷ a kinds.OpenParen ∷ Parts (rows.Maybe sorts.ForInit) ∷ a kinds.Semicolon ∷ Parts (rows.Maybe sorts.Expr) ∷ a kinds.Semicolon ∷ Parts (rows.Series sorts.Effect) ∷ a kinds.CloseParen ∷ Part sorts.Stmt ∷ []) ts s (P (rest (tokens_all ts ++ s))) a_for_is_no_word w b
  statement_parts ended labelled _ (chosen grammar.labelled (token e (token {o} {ts} f w))) s b = labelled (o ∷ (tokens_all ts ++ s)) f
  statement_parts ended labelled ts (chosen grammar.a_break w) s b = no_way (a kinds.Break ∷ Parts rows.Label ∷ a kinds.Semicolon ∷ []) ts s (P (rest (tokens_all ts ++ s))) a_break_is_no_word w b
  statement_parts ended labelled ts (chosen grammar.a_continue w) s b = no_way (a kinds.Continue ∷ Parts rows.Label ∷ a kinds.Semicolon ∷ []) ts s (P (rest (tokens_all ts ++ s))) a_continue_is_no_word w b
  statement_parts ended labelled ts (chosen grammar.a_return w) s b = no_way (a kinds.Return ∷ Parts (rows.Maybe sorts.Expr) ∷ a kinds.Semicolon ∷ []) ts s (P (rest (tokens_all ts ++ s))) a_return_is_no_word w b
  statement_parts ended labelled ts (chosen grammar.a_throw w) s b = no_way (a kinds.Throw ∷ Part sorts.Expr ∷ a kinds.Semicolon ∷ []) ts s (P (rest (tokens_all ts ++ s))) a_throw_is_no_word w b
  statement_parts ended labelled ts (chosen grammar.a_try w) s b = no_way (a kinds.Try ∷ Part sorts.Block ∷ Parts rows.Handlers ∷ []) ts s (P (rest (tokens_all ts ++ s))) a_try_is_no_word w b

  -- also of a statement, with what ends an effect or a label
  pub statement_leads : ((r : List Tok) → same (first_kind r) kinds.Semicolon ≡ true → P r) → ((r : List Tok) → same (first_kind r) kinds.Colon ≡ true → P r) → (t : Ast) → Is sorts.Stmt t → (s : List Tok)
      → A (first_kind (tokens t ++ s)) ≡ true → P (rest (tokens t ++ s))
  statement_leads ended labelled t (made {ts} w e q) s b =
      let same_tokens : tokens t ++ s ≡ tokens_all ts ++ s = ap (λ z. tokens z ++ s) q ∙ node_front (form_of sorts.Stmt) ts s in
      subst (λ z. P (rest z)) (sym same_tokens) (statement_parts ended labelled ts w s (subst (λ z. A (first_kind z) ≡ true) same_tokens b))
  statement_leads ended labelled t (grown v y w e q) s b = absurd (no_suffix y)
