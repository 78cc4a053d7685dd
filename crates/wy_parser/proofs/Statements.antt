-- The ways of statements, which more than one token tells.
use Rattle.std.proofs.Common.{Bool, true, false, not, ◌&&◌, ◌||◌, ◌≡◌, List, [], ◌∷◌, ◌++◌, refl, sym, ◌∙◌, ap, subst, append_assoc}
use Rattle.wy_tree.specs.Seen.{Tok}
use Rattle.wy_tree.specs.Kinds.{kind_of, same}
use Rattle.wy_tree.specs.Conditions.{is_name}
use Rattle.wy_tree.specs.Ast.{Ast, Asts, Leaf, more, tokens, tokens_all}
use Rattle.wy_tree.specs.Grammar as grammar
use Rattle.wy_tree.specs.Grammar.{a, name, is_own, Is, made, grown, Match, done, token, part, chosen}
use Rattle.wy_tree.specs.declared.kind.Kind.{Kind}
use Rattle.wy_tree.specs.declared.kind.Kind.TheVariants as kinds
use Rattle.wy_tree.specs.declared.grammar.Class.TheVariants.{Own}
use Rattle.wy_tree.specs.declared.grammar.Sort.TheVariants as sorts
use Rattle.wy_tree.specs.declared.grammar.Row.TheVariants as rows
use Rattle.wy_tree.specs.declared.grammar.Item.{Item}
use Rattle.wy_tree.specs.declared.grammar.Item.TheVariants.{One, Part, Parts}
use Rattle.wy_parser.specs.Prediction.{first_kind, rest, second, comes, declares, predict_member, predict_statement}
use Rattle.wy_parser.proofs.Truth.{or_left, or_right, both, neither, not_both, is_not, is_false}
use Rattle.wy_parser.proofs.Firsts.{within, begins, first_in, every, implied, starts, front_first}
use Rattle.wy_parser.proofs.Follows.{are_locals, Lawful}
use Rattle.wy_parser.proofs.Fronts.{here, absent_here, yes, no, no_word_labelled, no_word_an_effect}
use Rattle.wy_parser.proofs.Leads.{arguments_open, name_is_word, is_word, joints, leads, statement_leads}
use Rattle.wy_parser.proofs.Members.{part_front, retell, decls_name}

own_is_word : (k : Kind) → is_own k ≡ true → is_word k ≡ true
unfolding every
own_is_word k e = implied is_own is_word refl k e

own_is_no_name : (k : Kind) → is_own k ≡ true → not (is_name k) ≡ true
unfolding every
own_is_no_name k e = implied is_own (λ k. not (is_name k)) refl k e

joint_is_no_parenthesis : (k : Kind) → within joints k ≡ true → not (same k kinds.OpenParen) ≡ true
unfolding every
joint_is_no_parenthesis k e = implied (within joints) (λ k. not (same k kinds.OpenParen)) refl k e

semicolon_is_no_parenthesis : (k : Kind) → same k kinds.Semicolon ≡ true → not (same k kinds.OpenParen) ≡ true
unfolding every
semicolon_is_no_parenthesis k e = implied (λ k. same k kinds.Semicolon) (λ k. not (same k kinds.OpenParen)) refl k e

colon_is_no_parenthesis : (k : Kind) → same k kinds.Colon ≡ true → not (same k kinds.OpenParen) ≡ true
unfolding every
colon_is_no_parenthesis k e = implied (λ k. same k kinds.Colon) (λ k. not (same k kinds.OpenParen)) refl k e

bracket_is_no_parenthesis : (k : Kind) → same k kinds.OpenBracket ≡ true → not (same k kinds.OpenParen) ≡ true
unfolding every
bracket_is_no_parenthesis k e = implied (λ k. same k kinds.OpenBracket) (λ k. not (same k kinds.OpenParen)) refl k e

joint_is_no_colon : (k : Kind) → within joints k ≡ true → not (same k kinds.Colon) ≡ true
unfolding every
joint_is_no_colon k e = implied (within joints) (λ k. not (same k kinds.Colon)) refl k e

semicolon_is_no_colon : (k : Kind) → same k kinds.Semicolon ≡ true → not (same k kinds.Colon) ≡ true
unfolding every
semicolon_is_no_colon k e = implied (λ k. same k kinds.Semicolon) (λ k. not (same k kinds.Colon)) refl k e

bracket_is_no_colon : (k : Kind) → same k kinds.OpenBracket ≡ true → not (same k kinds.Colon) ≡ true
unfolding every
bracket_is_no_colon k e = implied (λ k. same k kinds.OpenBracket) (λ k. not (same k kinds.Colon)) refl k e

parenthesis_is_no_colon : (k : Kind) → same k kinds.OpenParen ≡ true → not (same k kinds.Colon) ≡ true
unfolding every
parenthesis_is_no_colon k e = implied (λ k. same k kinds.OpenParen) (λ k. not (same k kinds.Colon)) refl k e

-- own calls
pub tells_own_call : (items : List Item) (ts : Asts) → Match (One Own ∷ Part sorts.Args ∷ items) ts → (s : List Tok) → predict_member rows.OwnCall (tokens_all ts ++ s) ≡ One Own ∷ Part sorts.Args ∷ a kinds.Semicolon ∷ []
unfolding predict_member
tells_own_call items _ (token {o} e (part {t} {ts} v w)) s =
    let u = o ∷ (tokens_all (more t ts) ++ s) in
    here (is_own (first_kind u) && same (second u) kinds.OpenParen) _ (both (is_own (first_kind u)) (same (second u) kinds.OpenParen) e (arguments_open (second u) (part_front sorts.Args t ts v s)))

no_call : List Tok → Type 0
no_call r = same (first_kind r) kinds.OpenParen ≡ false

no_call_if : (p : Kind → Bool) → ((k : Kind) → p k ≡ true → not (same k kinds.OpenParen) ≡ true) → (r : List Tok) → p (first_kind r) ≡ true → no_call r
unfolding no_call
no_call_if p f r e = is_false (same (first_kind r) kinds.OpenParen) (f (first_kind r) e)

own_name : (k : Kind) → is_own k ≡ true → is_name k ≡ true → (r : List Tok) → same (first_kind r) kinds.OpenParen ≡ true → no_call r
own_name k e f r g = absurd (let h = is_false (is_name k) (own_is_no_name k e) in cc)

-- a statement that begins with this or super is no own call
statement_no_call : (t : Ast) → Is sorts.Stmt t → (s : List Tok) → is_own (first_kind (tokens t ++ s)) ≡ true → no_call (rest (tokens t ++ s))
statement_no_call t v s b =
    statement_leads is_own no_call own_is_word (no_call_if (within joints) joint_is_no_parenthesis) (λ r e f. no_call_if (λ k. same k kinds.OpenBracket) bracket_is_no_parenthesis r e) own_name
    (no_call_if (λ k. same k kinds.Semicolon) semicolon_is_no_parenthesis) (no_call_if (λ k. same k kinds.Colon) colon_is_no_parenthesis) t v s b

declaration_is_no_own : (k : Kind) → first_in (Parts rows.MaybeFinal ∷ Part sorts.Type ∷ Part sorts.Decls ∷ a kinds.Semicolon ∷ []) (λ _. true) k ≡ true → not (is_own k) ≡ true
unfolding every
declaration_is_no_own k e = implied (λ k. first_in (Parts rows.MaybeFinal ∷ Part sorts.Type ∷ Part sorts.Decls ∷ a kinds.Semicolon ∷ []) (λ _. true) k) (λ k. not (is_own k)) refl k e

end_is_no_own : (k : Kind) → not (comes sorts.Local k) ≡ true → not (is_own k) ≡ true
unfolding every
end_is_no_own k e = implied (λ k. not (comes sorts.Local k)) (λ k. not (is_own k)) refl k e

local_no_call : (t : Ast) → Is sorts.Local t → (s : List Tok) → is_own (first_kind (tokens t ++ s)) ≡ true → no_call (rest (tokens t ++ s))
local_no_call t (made (chosen {ts} grammar.a_declaration w) f q) s b =
    let u = tokens_all ts ++ s in
    let same_tokens : tokens t ++ s ≡ u = retell sorts.Local t ts s q in
    let c : is_own (first_kind u) ≡ true = sym (ap (λ z. is_own (first_kind z)) same_tokens) ∙ b in
    absurd (let d = is_false (is_own (first_kind u)) (declaration_is_no_own (first_kind u) (front_first (Parts rows.MaybeFinal ∷ Part sorts.Type ∷ Part sorts.Decls ∷ a kinds.Semicolon ∷ []) ts w (λ _. true) s refl)) in cc)
local_no_call t (made (chosen grammar.a_statement (part {t = t'} v done)) f q) s b =
    subst (λ z. is_own (first_kind (tokens z ++ s)) ≡ true → no_call (rest (tokens z ++ s))) (sym q) (statement_no_call t' v s) b
local_no_call t (grown v (grammar.operator f) w e q) s b = absurd (cc)

locals_no_call : (items : List Item) (ts : Asts) → Match (Parts (rows.Any sorts.Local) ∷ items) ts → (F : Kind → Bool) (s : List Tok) → F (first_kind s) ≡ true
    → ((k : Kind) → first_in items F k ≡ true → not (comes sorts.Local k) ≡ true) → is_own (first_kind (tokens_all ts ++ s)) ≡ true → same (second (tokens_all ts ++ s)) kinds.OpenParen ≡ false
unfolding no_call
locals_no_call items ts (chosen grammar.none_of w) F s f ends b =
    let k = first_kind (tokens_all ts ++ s) in
    absurd (let d = is_false (is_own k) (end_is_no_own k (ends k (front_first items ts w F s f))) in cc)
locals_no_call items _ (chosen grammar.some_of (part {t} {ts} v w)) F s f ends b =
    subst (λ z. is_own (first_kind z) ≡ true → same (second z) kinds.OpenParen ≡ false) (sym (append_assoc (tokens t) (tokens_all ts) s)) (local_no_call t v (tokens_all ts ++ s)) b

are_locals_ok : (items : List Item) → are_locals items ≡ true → (more : List Item) × (items ≡ Parts (rows.Any sorts.Local) ∷ more)
are_locals_ok (Parts (rows.Any sorts.Local) ∷ items) e = (items, refl)
are_locals_ok _ e = absurd (cc)

pub tells_no_own_call : (items : List Item) (ts : Asts) → Match items ts → (F : Kind → Bool) (s : List Tok) → F (first_kind s) ≡ true → are_locals items ≡ true → Lawful items F → predict_member rows.OwnCall (tokens_all ts ++ s) ≡ []
unfolding predict_member
tells_no_own_call items ts w F s f l m =
    let u = tokens_all ts ++ s in
    let g = are_locals_ok items l in
    let w' = subst (λ z. Match z ts) g.1 w in
    let m' = subst (λ z. Lawful z F) g.1 m in
    absent_here (is_own (first_kind u) && same (second u) kinds.OpenParen) _
    (not_both (is_own (first_kind u)) (same (second u) kinds.OpenParen) (locals_no_call g.0 ts w' F s f m'.0))

-- labels
pub tells_labelled : (items : List Item) (ts : Asts) → Match (name ∷ a kinds.Colon ∷ items) ts → (s : List Tok) → predict_statement rows.StmtForm (tokens_all ts ++ s) ≡ name ∷ a kinds.Colon ∷ Part sorts.Stmt ∷ []
tells_labelled items _ (token {o} e (token {o = o'} {ts} f w)) s =
    let u = o ∷ (o' ∷ (tokens_all ts ++ s)) in
    no_word_labelled u e ∙ yes (is_name (first_kind u) && same (second u) kinds.Colon) _ _ (both (is_name (first_kind u)) (same (second u) kinds.Colon) e f)

no_label : List Tok → Type 0
no_label r = same (first_kind r) kinds.Colon ≡ false

no_label_if : (p : Kind → Bool) → ((k : Kind) → p k ≡ true → not (same k kinds.Colon) ≡ true) → (r : List Tok) → p (first_kind r) ≡ true → no_label r
unfolding no_label
no_label_if p f r e = is_false (same (first_kind r) kinds.Colon) (f (first_kind r) e)

pub tells_an_effect : (items : List Item) (ts : Asts) → Match (Part sorts.Effect ∷ a kinds.Semicolon ∷ items) ts → (s : List Tok) → predict_statement rows.StmtForm (tokens_all ts ++ s) ≡ Part sorts.Effect ∷ a kinds.Semicolon ∷ []
unfolding no_label
tells_an_effect items _ (part {t} v (token {o} {ts} e w)) s =
    let r = o ∷ (tokens_all ts ++ s) in
    let u = tokens t ++ r in
    let behind : is_name (first_kind u) ≡ true → same (second u) kinds.Colon ≡ false =
    λ b. leads is_name no_label name_is_word (no_label_if (within joints) joint_is_no_colon) (λ r e f. no_label_if (λ k. same k kinds.OpenBracket) bracket_is_no_colon r e)
    (λ k e f. no_label_if (λ k. same k kinds.OpenParen) parenthesis_is_no_colon) sorts.Effect t v refl r b (no_label_if (λ k. same k kinds.Semicolon) semicolon_is_no_colon r e) in
    subst (λ z. predict_statement rows.StmtForm z ≡ Part sorts.Effect ∷ a kinds.Semicolon ∷ []) (sym (append_assoc (tokens t) (o ∷ tokens_all ts) s))
    (no_word_an_effect u (starts sorts.Effect t v r) ∙ no (is_name (first_kind u) && same (second u) kinds.Colon) _ _ (not_both (is_name (first_kind u)) (same (second u) kinds.Colon) behind))

final_or_type : (k : Kind) → (is_name k || same k kinds.Prim) ≡ true → ((same k kinds.Final || same k kinds.Prim) || is_name k) ≡ true
unfolding every
final_or_type k e = implied (λ k. is_name k || same k kinds.Prim) (λ k. (same k kinds.Final || same k kinds.Prim) || is_name k) refl k e

joint_declares_nothing : (k : Kind) → within joints k ≡ true → not (is_name k || same k kinds.OpenBracket) ≡ true
unfolding every
joint_declares_nothing k e = implied (within joints) (λ k. not (is_name k || same k kinds.OpenBracket)) refl k e

semicolon_declares_nothing : (k : Kind) → same k kinds.Semicolon ≡ true → not (is_name k || same k kinds.OpenBracket) ≡ true
unfolding every
semicolon_declares_nothing k e = implied (λ k. same k kinds.Semicolon) (λ k. not (is_name k || same k kinds.OpenBracket)) refl k e

colon_declares_nothing : (k : Kind) → same k kinds.Colon ≡ true → not (is_name k || same k kinds.OpenBracket) ≡ true
unfolding every
colon_declares_nothing k e = implied (λ k. same k kinds.Colon) (λ k. not (is_name k || same k kinds.OpenBracket)) refl k e

comma_declares_nothing : (k : Kind) → same k kinds.Comma ≡ true → not (is_name k || same k kinds.OpenBracket) ≡ true
unfolding every
comma_declares_nothing k e = implied (λ k. same k kinds.Comma) (λ k. not (is_name k || same k kinds.OpenBracket)) refl k e

parenthesis_declares_nothing : (k : Kind) → same k kinds.OpenParen ≡ true → not (is_name k || same k kinds.OpenBracket) ≡ true
unfolding every
parenthesis_declares_nothing k e = implied (λ k. same k kinds.OpenParen) (λ k. not (is_name k || same k kinds.OpenBracket)) refl k e

bracket_is_no_name : (k : Kind) → same k kinds.OpenBracket ≡ true → not (is_name k) ≡ true
unfolding every
bracket_is_no_name k e = implied (λ k. same k kinds.OpenBracket) (λ k. not (is_name k)) refl k e

pub expr_is_no_close : (k : Kind) → begins sorts.Expr k ≡ true → not (same k kinds.CloseBracket) ≡ true
unfolding every
expr_is_no_close k e = implied (begins sorts.Expr) (λ k. not (same k kinds.CloseBracket)) refl k e

statement_declares_nothing : (k : Kind) → begins sorts.Stmt k ≡ true → not (same k kinds.Final || same k kinds.Prim) ≡ true
unfolding every
statement_declares_nothing k e = implied (begins sorts.Stmt) (λ k. not (same k kinds.Final || same k kinds.Prim)) refl k e

effect_declares_nothing : (k : Kind) → begins sorts.Effect k ≡ true → not (same k kinds.Final || same k kinds.Prim) ≡ true
unfolding every
effect_declares_nothing k e = implied (begins sorts.Effect) (λ k. not (same k kinds.Final || same k kinds.Prim)) refl k e

comma_or_semicolon : (k : Kind) → (same k kinds.Comma || (true && same k kinds.Semicolon)) ≡ true → not (is_name k || same k kinds.OpenBracket) ≡ true
unfolding every
comma_or_semicolon k e = implied (λ k. (same k kinds.Comma || (true && same k kinds.Semicolon))) (λ k. not (is_name k || same k kinds.OpenBracket)) refl k e

-- a name or a pair of brackets
abbrev names_or_brackets : List Tok → Bool
names_or_brackets r = is_name (first_kind r) || (same (first_kind r) kinds.OpenBracket && same (second r) kinds.CloseBracket)

type_declares : (ts : Asts) → Match (Parts rows.Brackets ∷ []) ts → (r : List Tok) → is_name (first_kind r) ≡ true → names_or_brackets (tokens_all ts ++ r) ≡ true
type_declares _ (chosen grammar.no_brackets done) r n = or_left (is_name (first_kind r)) (same (first_kind r) kinds.OpenBracket && same (second r) kinds.CloseBracket) n
type_declares _ (chosen grammar.brackets (token {o} e (token {o = o'} f w))) r n =
    or_right (is_name (kind_of o)) (same (kind_of o) kinds.OpenBracket && same (kind_of o') kinds.CloseBracket) (both (same (kind_of o) kinds.OpenBracket) (same (kind_of o') kinds.CloseBracket) e f)

declares_by : (b n c : Bool) → (b || n) ≡ true → (n ≡ true → c ≡ true) → (b || (n && c)) ≡ true
declares_by true n c e f = refl
declares_by false n c e f = both n c e (f e)

type_then_name : (t : Ast) → Is sorts.Type t → (r : List Tok) → is_name (first_kind r) ≡ true → declares (tokens t ++ r) ≡ true
unfolding declares
type_then_name t (made (token {o} {ts} e w) f q) r n =
    let u = o ∷ (tokens_all ts ++ r) in
    ap declares (retell sorts.Type t (more (Leaf o) ts) r q)
    ∙ declares_by (same (first_kind u) kinds.Final || same (first_kind u) kinds.Prim) (is_name (first_kind u)) (names_or_brackets (rest u)) (final_or_type (first_kind u) e)
    (λ b. type_declares ts w r n)
type_then_name t (grown v (grammar.operator f) w e q) r n = absurd (cc)

-- a declaration
pub declaration_declares : (items : List Item) (ts : Asts) → Match (Parts rows.MaybeFinal ∷ Part sorts.Type ∷ Part sorts.Decls ∷ items) ts → (s : List Tok) → declares (tokens_all ts ++ s) ≡ true
unfolding declares
declaration_declares items _ (chosen grammar.is_final (token {o} {ts} e w)) s =
    let u = o ∷ (tokens_all ts ++ s) in
    or_left (same (first_kind u) kinds.Final || same (first_kind u) kinds.Prim) (is_name (first_kind u) && names_or_brackets (rest u)) (or_left (same (first_kind u) kinds.Final) (same (first_kind u) kinds.Prim) e)
declaration_declares items _ (chosen grammar.not_final (part {t} v (part {t = t'} {ts} v' w))) s =
    let r = tokens_all (more t' ts) ++ s in
    ap declares (append_assoc (tokens t) (tokens_all (more t' ts)) s) ∙ type_then_name t v r (decls_name (first_kind r) (part_front sorts.Decls t' ts v' s))

pub tells_a_declaration : (items : List Item) (ts : Asts) → Match (Parts rows.MaybeFinal ∷ Part sorts.Type ∷ Part sorts.Decls ∷ items) ts → (s : List Tok)
    → predict_statement rows.LocalForm (tokens_all ts ++ s) ≡ Parts rows.MaybeFinal ∷ Part sorts.Type ∷ Part sorts.Decls ∷ a kinds.Semicolon ∷ []
unfolding predict_statement
tells_a_declaration items ts w s = yes (declares (tokens_all ts ++ s)) _ _ (declaration_declares items ts w s)

pub tells_for_declaration : (items : List Item) (ts : Asts) → Match (Parts rows.MaybeFinal ∷ Part sorts.Type ∷ Part sorts.Decls ∷ items) ts → (s : List Tok)
    → predict_statement rows.ForInitForm (tokens_all ts ++ s) ≡ Parts rows.MaybeFinal ∷ Part sorts.Type ∷ Part sorts.Decls ∷ []
unfolding predict_statement
tells_for_declaration items ts w s = yes (declares (tokens_all ts ++ s)) _ _ (declaration_declares items ts w s)

no_declarator : List Tok → Type 0
no_declarator r = names_or_brackets r ≡ false

neither_of : (n b c : Bool) → not (n || b) ≡ true → (n || (b && c)) ≡ false
neither_of true b c e = absurd (cc)
neither_of false true c e = absurd (cc)
neither_of false false c e = refl

no_declarator_if : (p : Kind → Bool) → ((k : Kind) → p k ≡ true → not (is_name k || same k kinds.OpenBracket) ≡ true) → (r : List Tok) → p (first_kind r) ≡ true → no_declarator r
unfolding no_declarator
no_declarator_if p f r e = neither_of (is_name (first_kind r)) (same (first_kind r) kinds.OpenBracket) (same (second r) kinds.CloseBracket) (f (first_kind r) e)

no_declarator_index : (r : List Tok) → same (first_kind r) kinds.OpenBracket ≡ true → begins sorts.Expr (second r) ≡ true → no_declarator r
unfolding no_declarator
no_declarator_index r e f =
    neither (is_name (first_kind r)) (same (first_kind r) kinds.OpenBracket && same (second r) kinds.CloseBracket) (is_false (is_name (first_kind r)) (bracket_is_no_name (first_kind r) e))
    (is_false (same (first_kind r) kinds.OpenBracket && same (second r) kinds.CloseBracket)
    (not_both (same (first_kind r) kinds.OpenBracket) (same (second r) kinds.CloseBracket) (λ b. is_false (same (second r) kinds.CloseBracket) (expr_is_no_close (second r) f))))

declares_not : (b n c : Bool) → b ≡ false → (n ≡ true → c ≡ false) → (b || (n && c)) ≡ false
declares_not true n c e f = absurd (cc)
declares_not false true c e f = f refl
declares_not false false c e f = refl

statement_declares : (t : Ast) → Is sorts.Stmt t → (s : List Tok) → declares (tokens t ++ s) ≡ false
unfolding declares no_declarator
statement_declares t v s =
    let u = tokens t ++ s in
    declares_not (same (first_kind u) kinds.Final || same (first_kind u) kinds.Prim) (is_name (first_kind u)) (names_or_brackets (rest u))
    (is_false (same (first_kind u) kinds.Final || same (first_kind u) kinds.Prim) (statement_declares_nothing (first_kind u) (starts sorts.Stmt t v s)))
    (λ b. statement_leads is_name no_declarator name_is_word (no_declarator_if (within joints) joint_declares_nothing) no_declarator_index
    (λ k e f. no_declarator_if (λ k. same k kinds.OpenParen) parenthesis_declares_nothing) (no_declarator_if (λ k. same k kinds.Semicolon) semicolon_declares_nothing)
    (no_declarator_if (λ k. same k kinds.Colon) colon_declares_nothing) t v s b)

pub tells_a_statement : (items : List Item) (ts : Asts) → Match (Part sorts.Stmt ∷ items) ts → (s : List Tok) → predict_statement rows.LocalForm (tokens_all ts ++ s) ≡ Part sorts.Stmt ∷ []
unfolding predict_statement
tells_a_statement items _ (part {t} {ts} v w) s =
    let u = tokens_all (more t ts) ++ s in
    no (declares u) _ _ (is_not (declares u) (ap declares (append_assoc (tokens t) (tokens_all ts) s) ∙ statement_declares t v (tokens_all ts ++ s)))

effect_declares : (t : Ast) → Is sorts.Effect t → (s : List Tok) → no_declarator s → declares (tokens t ++ s) ≡ false
unfolding declares no_declarator
effect_declares t v s p =
    let u = tokens t ++ s in
    declares_not (same (first_kind u) kinds.Final || same (first_kind u) kinds.Prim) (is_name (first_kind u)) (names_or_brackets (rest u))
    (is_false (same (first_kind u) kinds.Final || same (first_kind u) kinds.Prim) (effect_declares_nothing (first_kind u) (starts sorts.Effect t v s)))
    (λ b. leads is_name no_declarator name_is_word (no_declarator_if (within joints) joint_declares_nothing) no_declarator_index
    (λ k e f. no_declarator_if (λ k. same k kinds.OpenParen) parenthesis_declares_nothing) sorts.Effect t v refl s b p)

pub tells_for_effects : (items : List Item) (ts : Asts) → Match (Part sorts.Effect ∷ Parts (rows.Further sorts.Effect) ∷ items) ts → (F : Kind → Bool) (s : List Tok) → F (first_kind s) ≡ true
    → ((k : Kind) → first_in items F k ≡ true → same k kinds.Semicolon ≡ true) → predict_statement rows.ForInitForm (tokens_all ts ++ s) ≡ Part sorts.Effect ∷ Parts (rows.Further sorts.Effect) ∷ []
unfolding predict_statement
tells_for_effects items _ (part {t} {ts} v w) F s f ends =
    let r = tokens_all ts ++ s in
    let k = first_kind r in
    let g : (same k kinds.Comma || (true && first_in items F k)) ≡ true = front_first (Parts (rows.Further sorts.Effect) ∷ items) ts w F s f in
    let p : no_declarator r = no_declarator_if (λ k. same k kinds.Comma || (true && same k kinds.Semicolon)) comma_or_semicolon r (or_more (same k kinds.Comma) (first_in items F k) (same k kinds.Semicolon) (ends k) g) in
    let u = tokens_all (more t ts) ++ s in
    no (declares u) _ _ (is_not (declares u) (ap declares (append_assoc (tokens t) (tokens_all ts) s) ∙ effect_declares t v r p))
  where
    or_more : (b c d : Bool) → (c ≡ true → d ≡ true) → (b || c) ≡ true → (b || d) ≡ true
    or_more true c d f e = refl
    or_more false c d f e = f e
