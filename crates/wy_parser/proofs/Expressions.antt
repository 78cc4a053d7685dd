-- The ways of expressions, which more than one token tells: casts, creations, dimensions.
use Rattle.std.proofs.Common.{Bool, true, false, not, ◌&&◌, ◌||◌, ◌≡◌, List, [], ◌∷◌, ◌++◌, refl, sym, ◌∙◌, ap, subst, append_assoc}
use Rattle.wy_tree.specs.Seen.{Tok}
use Rattle.wy_tree.specs.Kinds.{kind_of, same}
use Rattle.wy_tree.specs.Conditions.{is_name, is_reference, is_signed, is_sign, condition, fine}
use Rattle.wy_tree.specs.Ast.{Ast, Asts, Leaf, none, more, tokens, tokens_all}
use Rattle.wy_tree.specs.Grammar as grammar
use Rattle.wy_tree.specs.Grammar.{a, name, is_prefixing, Suffix, Is, made, grown, Match, done, token, part, chosen}
use Rattle.wy_tree.specs.declared.kind.Kind.{Kind}
use Rattle.wy_tree.specs.declared.kind.Kind.TheVariants as kinds
use Rattle.wy_tree.specs.declared.grammar.Class.TheVariants.{Element, Prefixing}
use Rattle.wy_tree.specs.declared.grammar.Sort.{Sort}
use Rattle.wy_tree.specs.declared.grammar.Sort.TheVariants as sorts
use Rattle.wy_tree.specs.declared.grammar.Row.TheVariants as rows
use Rattle.wy_tree.specs.declared.grammar.Item.{Item}
use Rattle.wy_tree.specs.declared.grammar.Item.TheVariants.{One, Part, Parts}
use Rattle.wy_parser.specs.Prediction.{first_kind, rest, second, third, is_element, casts, casts_to_name, begins_operand, predict_operator, predict_unary, predict_new, predict_dimension}
use Rattle.wy_parser.proofs.Truth.{and_left, or_left, or_right, both, neither, not_both, is_not, is_false}
use Rattle.wy_parser.proofs.Firsts.{within, begins, first_in, every, implied, starts, front_first}
use Rattle.wy_parser.proofs.Follows.{after_unary}
use Rattle.wy_parser.proofs.Fronts.{yes, no}
use Rattle.wy_parser.proofs.Leads.{arguments_open, name_is_word, joints, leads}
use Rattle.wy_parser.proofs.Statements.{expr_is_no_close}
use Rattle.wy_parser.proofs.Members.{part_front, retell}

minus_is_sign : (k : Kind) → same k kinds.Minus ≡ true → is_sign k ≡ true
unfolding every
minus_is_sign k e = implied (λ k. same k kinds.Minus) is_sign refl k e

prefixing_or_sign : (k : Kind) → is_prefixing k ≡ true → (is_sign k || begins_operand k) ≡ true
unfolding every
prefixing_or_sign k e = implied is_prefixing (λ k. is_sign k || begins_operand k) refl k e

cast_operand : (k : Kind) → begins sorts.Cast k ≡ true → begins_operand k ≡ true
unfolding every
cast_operand k e = implied (begins sorts.Cast) begins_operand refl k e

postfix_operand : (k : Kind) → begins sorts.Postfix k ≡ true → begins_operand k ≡ true
unfolding every
postfix_operand k e = implied (begins sorts.Postfix) begins_operand refl k e

-- A reference type is a name, or has brackets.
pub data Reference : List Tok → List Tok → Type 0 where
  named : {o : Tok} {r : List Tok} → is_name (kind_of o) ≡ true → Reference (o ∷ r) r
  bracketed : {o o' o'' : Tok} {u r : List Tok} → (is_name (kind_of o) || same (kind_of o) kinds.Prim) ≡ true → same (kind_of o') kinds.OpenBracket ≡ true → same (kind_of o'') kinds.CloseBracket ≡ true
      → Reference (o ∷ (o' ∷ (o'' ∷ u))) r

pub fine_condition : (x : Sort) (ts : Asts) → fine x ts ≡ true → condition x ts ≡ true
fine_condition x ts e = and_left (condition x ts) _ e

reference_type : (t : Ast) → Is sorts.Type t → is_reference t ≡ true → (r : List Tok) → Reference (tokens t ++ r) r
reference_type t (made (token {o} e (chosen grammar.no_brackets done)) f q) i r =
    subst (λ z. Reference (tokens z ++ r) r) (sym q) (named (sym (ap is_reference q) ∙ i))
reference_type t (made (token {o} e (chosen grammar.brackets (token {o = o'} e' (token {o = o''} e'' w)))) f q) i r =
    subst (λ z. Reference (tokens z ++ r) r) (sym q) (bracketed e e' e'')
reference_type t (grown v (grammar.operator f) w e q) i r = absurd (cc)

pub reference : (t : Ast) → Is sorts.RefType t → (r : List Tok) → Reference (tokens t ++ r) r
reference t (made (part {t = t'} v done) f q) r =
    subst (λ z. Reference (tokens z ++ r) r) (sym q) (reference_type t' v (fine_condition sorts.RefType (more t' none) f) r)
reference t (grown v (grammar.operator f) w e q) r = absurd (cc)

-- what the operand of a cast to a reference type begins with
pub unsigned_unary : (t : Ast) → Is sorts.Unary t → not (is_signed t) ≡ true → (s : List Tok) → begins_operand (first_kind (tokens t ++ s)) ≡ true
unsigned_unary t (made (chosen grammar.negated (token {o} e (chosen grammar.big (token g done)))) f q) i s =
    absurd (let h : not (is_sign (kind_of o)) ≡ true = sym (ap (λ z. not (is_signed z)) q) ∙ i in let j = minus_is_sign (kind_of o) e in let l = is_false (is_sign (kind_of o)) h in cc)
unsigned_unary t (made (chosen grammar.negated (token {o} e (chosen grammar.small (part v done)))) f q) i s =
    absurd (let h : not (is_sign (kind_of o)) ≡ true = sym (ap (λ z. not (is_signed z)) q) ∙ i in let j = minus_is_sign (kind_of o) e in let l = is_false (is_sign (kind_of o)) h in cc)
unsigned_unary t (made (chosen grammar.prefixed (token {o} e (part v done))) f q) i s =
    let h : not (is_sign (kind_of o)) ≡ true = sym (ap (λ z. not (is_signed z)) q) ∙ i in
    ap (λ z. begins_operand (first_kind (tokens z ++ s))) q ∙ second_of (is_sign (kind_of o)) (begins_operand (kind_of o)) (is_false (is_sign (kind_of o)) h) (prefixing_or_sign (kind_of o) e)
  where
    second_of : (b c : Bool) → b ≡ false → (b || c) ≡ true → c ≡ true
    second_of true c e f = absurd (cc)
    second_of false c e f = f
unsigned_unary t (made (chosen grammar.a_cast (part {t = t'} v done)) f q) i s =
    ap (λ z. begins_operand (first_kind (tokens z ++ s))) q ∙ cast_operand (first_kind (tokens t' ++ s)) (starts sorts.Cast t' v s)
unsigned_unary t (made (chosen grammar.a_postfix (part {t = t'} v done)) f q) i s =
    ap (λ z. begins_operand (first_kind (tokens z ++ s))) q ∙ postfix_operand (first_kind (tokens t' ++ s)) (starts sorts.Postfix t' v s)
unsigned_unary t (grown v (grammar.operator f) w e q) i s = absurd (cc)

sign_is_no_operand : (k : Kind) → begins_operand k ≡ true → not (is_sign k) ≡ true
unfolding every
sign_is_no_operand k e = implied begins_operand (λ k. not (is_sign k)) refl k e

-- what begins with a sign is signed
pub signed_unary : (t : Ast) → Is sorts.Unary t → (s : List Tok) → is_sign (first_kind (tokens t ++ s)) ≡ true → is_signed t ≡ true
signed_unary t v s e = by (is_signed t) refl
  where
    by : (b : Bool) → is_signed t ≡ b → b ≡ true
    by true f = refl
    by false f =
        let k = first_kind (tokens t ++ s) in
        let g = is_false (is_sign k) (sign_is_no_operand k (unsigned_unary t v (is_not (is_signed t) f) s)) in absurd (cc)

operand_begins : (t : Ast) → Is sorts.Operand t → (s : List Tok) → begins_operand (first_kind (tokens t ++ s)) ≡ true
operand_begins t (made (part {t = t'} v done) f q) s =
    ap (λ z. begins_operand (first_kind (tokens z ++ s))) q ∙ unsigned_unary t' v (fine_condition sorts.Operand (more t' none) f) s
operand_begins t (grown v (grammar.operator f) w e q) s = absurd (cc)

-- what is a cast in an opened parenthesis
casts_in : List Tok → Bool
casts_in u = same (first_kind u) kinds.Prim || (is_name (first_kind u) && casts_to_name (rest u))

named_casts : (o p : Tok) (r : List Tok) → is_name (kind_of o) ≡ true → same (kind_of p) kinds.CloseParen ≡ true → begins_operand (first_kind r) ≡ true → casts_in (o ∷ (p ∷ r)) ≡ true
unfolding casts_in casts_to_name
named_casts o p r n e f =
    or_right (same (kind_of o) kinds.Prim) (is_name (kind_of o) && casts_to_name (p ∷ r))
    (both (is_name (kind_of o)) (casts_to_name (p ∷ r)) n
    (or_right (same (kind_of p) kinds.OpenBracket && same (first_kind r) kinds.CloseBracket) (same (kind_of p) kinds.CloseParen && begins_operand (first_kind r)) (both (same (kind_of p) kinds.CloseParen) (begins_operand (first_kind r)) e f)))

bracketed_casts : (o o' o'' : Tok) (r : List Tok) → (is_name (kind_of o) || same (kind_of o) kinds.Prim) ≡ true → same (kind_of o') kinds.OpenBracket ≡ true → same (kind_of o'') kinds.CloseBracket ≡ true
    → casts_in (o ∷ (o' ∷ (o'' ∷ r))) ≡ true
unfolding casts_in casts_to_name
bracketed_casts o o' o'' r n e f =
    element (is_name (kind_of o)) (same (kind_of o) kinds.Prim) (casts_to_name (o' ∷ (o'' ∷ r))) n
    (or_left (same (kind_of o') kinds.OpenBracket && same (kind_of o'') kinds.CloseBracket) (same (kind_of o') kinds.CloseParen && begins_operand (kind_of o'')) (both (same (kind_of o') kinds.OpenBracket) (same (kind_of o'') kinds.CloseBracket) e f))
  where
    element : (b c d : Bool) → (b || c) ≡ true → d ≡ true → (c || (b && d)) ≡ true
    element b true d e f = refl
    element true false d e f = f
    element false false d e f = absurd (cc)

reference_casts : (u r : List Tok) → Reference u r → same (first_kind r) kinds.CloseParen ≡ true → begins_operand (second r) ≡ true → casts_in u ≡ true
reference_casts _ [] (named {o} n) e f = absurd (cc)
reference_casts _ (p ∷ r) (named {o} n) e f = named_casts o p r n e f
reference_casts _ r (bracketed {o} {o'} {o''} {u} n g h) e f = bracketed_casts o o' o'' u n g h

primitive_casts : (o : Tok) (r : List Tok) → same (kind_of o) kinds.Prim ≡ true → casts_in (o ∷ r) ≡ true
unfolding casts_in
primitive_casts o r e = or_left (same (kind_of o) kinds.Prim) (is_name (kind_of o) && casts_to_name r) e

opened : (o : Tok) (u : List Tok) (b : Bool) → same (kind_of o) kinds.OpenParen ≡ true → casts_in u ≡ b → casts (o ∷ u) ≡ b
unfolding casts casts_in
opened o u b e f = ap (λ z. z && (same (first_kind u) kinds.Prim || (is_name (first_kind u) && casts_to_name (rest u)))) e ∙ f

cast_casts : (t : Ast) → Is sorts.Cast t → (s : List Tok) → casts (tokens t ++ s) ≡ true
cast_casts t (made (token {o} e (chosen grammar.to_primitive (token {o = o'} {ts} e' w))) f q) s =
    ap casts (retell sorts.Cast t (more (Leaf o) (more (Leaf o') ts)) s q) ∙ opened o (o' ∷ (tokens_all ts ++ s)) true e (primitive_casts o' (tokens_all ts ++ s) e')
cast_casts t (made (token {o} e (chosen grammar.to_reference (part {t = t'} v (token {o = o'} e' (part {t = t''} v' done))))) f q) s =
    let r = o' ∷ (tokens_all (more t'' none) ++ s) in
    ap casts (retell sorts.Cast t (more (Leaf o) (more t' (more (Leaf o') (more t'' none)))) s q) ∙ ap (λ z. casts (o ∷ z)) (append_assoc (tokens t') (o' ∷ tokens_all (more t'' none)) s)
    ∙ opened o (tokens t' ++ r) true e
    (reference_casts (tokens t' ++ r) r (reference t' v r) e' (ap (λ z. begins_operand (first_kind z)) (append_assoc (tokens t'') [] s) ∙ operand_begins t'' v' s))
cast_casts t (grown v (grammar.operator f) w e q) s = absurd (cc)

expr_is_no_type : (k : Kind) → begins sorts.Expr k ≡ true → not (same k kinds.Prim) ≡ true
unfolding every
expr_is_no_type k e = implied (begins sorts.Expr) (λ k. not (same k kinds.Prim)) refl k e

close_is_no_bracket : (k : Kind) → same k kinds.CloseParen ≡ true → not (same k kinds.OpenBracket) ≡ true
unfolding every
close_is_no_bracket k e = implied (λ k. same k kinds.CloseParen) (λ k. not (same k kinds.OpenBracket)) refl k e

joint_casts_nothing : (k : Kind) → within joints k ≡ true → not (same k kinds.OpenBracket || same k kinds.CloseParen) ≡ true
unfolding every
joint_casts_nothing k e = implied (within joints) (λ k. not (same k kinds.OpenBracket || same k kinds.CloseParen)) refl k e

parenthesis_casts_nothing : (k : Kind) → same k kinds.OpenParen ≡ true → not (same k kinds.OpenBracket || same k kinds.CloseParen) ≡ true
unfolding every
parenthesis_casts_nothing k e = implied (λ k. same k kinds.OpenParen) (λ k. not (same k kinds.OpenBracket || same k kinds.CloseParen)) refl k e

bracket_is_no_end : (k : Kind) → same k kinds.OpenBracket ≡ true → not (same k kinds.CloseParen) ≡ true
unfolding every
bracket_is_no_end k e = implied (λ k. same k kinds.OpenBracket) (λ k. not (same k kinds.CloseParen)) refl k e

literal_opens_nothing : (k : Kind) → same k kinds.Literal ≡ true → not (same k kinds.OpenParen) ≡ true
unfolding every
literal_opens_nothing k e = implied (λ k. same k kinds.Literal) (λ k. not (same k kinds.OpenParen)) refl k e

this_opens_nothing : (k : Kind) → same k kinds.This ≡ true → not (same k kinds.OpenParen) ≡ true
unfolding every
this_opens_nothing k e = implied (λ k. same k kinds.This) (λ k. not (same k kinds.OpenParen)) refl k e

name_opens_nothing : (k : Kind) → is_name k ≡ true → not (same k kinds.OpenParen) ≡ true
unfolding every
name_opens_nothing k e = implied is_name (λ k. not (same k kinds.OpenParen)) refl k e

new_opens_nothing : (k : Kind) → begins sorts.New k ≡ true → not (same k kinds.OpenParen) ≡ true
unfolding every
new_opens_nothing k e = implied (begins sorts.New) (λ k. not (same k kinds.OpenParen)) refl k e

super_opens_nothing : (k : Kind) → same k kinds.Super ≡ true → not (same k kinds.OpenParen) ≡ true
unfolding every
super_opens_nothing k e = implied (λ k. same k kinds.Super) (λ k. not (same k kinds.OpenParen)) refl k e

dot_is_no_operand : (k : Kind) → same k kinds.Dot ≡ true → not (begins_operand k) ≡ true
unfolding every
dot_is_no_operand k e = implied (λ k. same k kinds.Dot) (λ k. not (begins_operand k)) refl k e

bracket_is_no_operand : (k : Kind) → same k kinds.OpenBracket ≡ true → not (begins_operand k) ≡ true
unfolding every
bracket_is_no_operand k e = implied (λ k. same k kinds.OpenBracket) (λ k. not (begins_operand k)) refl k e

step_or_end : (k : Kind) → ((same k kinds.Step || false) || (true && within after_unary k)) ≡ true → not (begins_operand k) ≡ true
unfolding every
step_or_end k e = implied (λ k. (same k kinds.Step || false) || (true && within after_unary k)) (λ k. not (begins_operand k)) refl k e

no_cast : List Tok → Type 0
no_cast r = casts_to_name r ≡ false

no_cast_if : (p : Kind → Bool) → ((k : Kind) → p k ≡ true → not (same k kinds.OpenBracket || same k kinds.CloseParen) ≡ true) → (r : List Tok) → p (first_kind r) ≡ true → no_cast r
unfolding no_cast casts_to_name
no_cast_if p f r e = by (same (first_kind r) kinds.OpenBracket) (same (second r) kinds.CloseBracket) (same (first_kind r) kinds.CloseParen) (begins_operand (second r)) (f (first_kind r) e)
  where
    by : (b c d g : Bool) → not (b || d) ≡ true → ((b && c) || (d && g)) ≡ false
    by true c d g e = absurd (cc)
    by false c true g e = absurd (cc)
    by false c false g e = refl

no_cast_index : (r : List Tok) → same (first_kind r) kinds.OpenBracket ≡ true → begins sorts.Expr (second r) ≡ true → no_cast r
unfolding no_cast casts_to_name
no_cast_index r e f =
    by (same (first_kind r) kinds.OpenBracket) (same (second r) kinds.CloseBracket) (same (first_kind r) kinds.CloseParen) (begins_operand (second r)) (expr_is_no_close (second r) f) (bracket_is_no_end (first_kind r) e)
  where
    by : (b c d g : Bool) → not c ≡ true → not d ≡ true → ((b && c) || (d && g)) ≡ false
    by b true d g e f = absurd (cc)
    by b false true g e f = absurd (cc)
    by true false false g e f = refl
    by false false false g e f = refl

no_cast_end : (o : Tok) (s : List Tok) → same (kind_of o) kinds.CloseParen ≡ true → begins_operand (first_kind s) ≡ false → no_cast (o ∷ s)
unfolding no_cast casts_to_name
no_cast_end o s e f =
    by (same (kind_of o) kinds.OpenBracket) (same (first_kind s) kinds.CloseBracket) (same (kind_of o) kinds.CloseParen) (begins_operand (first_kind s)) (close_is_no_bracket (kind_of o) e) f
  where
    by : (b c d g : Bool) → not b ≡ true → g ≡ false → ((b && c) || (d && g)) ≡ false
    by true c d g e f = absurd (cc)
    by false c d true e f = absurd (cc)
    by false c true false e f = refl
    by false c false false e f = refl

no_casts_in : (u : List Tok) → not (same (first_kind u) kinds.Prim) ≡ true → (is_name (first_kind u) ≡ true → casts_to_name (rest u) ≡ false) → casts_in u ≡ false
unfolding casts_in
no_casts_in u e f = neither (same (first_kind u) kinds.Prim) (is_name (first_kind u) && casts_to_name (rest u)) (is_false (same (first_kind u) kinds.Prim) e) (is_false (is_name (first_kind u) && casts_to_name (rest u)) (not_both (is_name (first_kind u)) (casts_to_name (rest u)) f))

-- an expression in parentheses, before a token that begins no operand
group_casts : (t : Ast) → Is sorts.Expr t → (o : Tok) (s : List Tok) → same (kind_of o) kinds.CloseParen ≡ true → begins_operand (first_kind s) ≡ false → casts_in (tokens t ++ (o ∷ s)) ≡ false
unfolding no_cast
group_casts t v o s e f =
    let u = tokens t ++ (o ∷ s) in
    no_casts_in u (expr_is_no_type (first_kind u) (starts sorts.Expr t v (o ∷ s)))
    (λ b. leads is_name no_cast name_is_word (no_cast_if (within joints) joint_casts_nothing) no_cast_index (λ k e f. no_cast_if (λ k. same k kinds.OpenParen) parenthesis_casts_nothing)
    sorts.Expr t v refl (o ∷ s) b (no_cast_end o s e f))

unopened : (u : List Tok) → not (same (first_kind u) kinds.OpenParen) ≡ true → casts u ≡ false
unfolding casts
unopened u e = is_false (same (first_kind u) kinds.OpenParen && (same (second u) kinds.Prim || (is_name (second u) && casts_to_name (rest (rest u))))) (by (same (first_kind u) kinds.OpenParen) (same (second u) kinds.Prim || (is_name (second u) && casts_to_name (rest (rest u)))) e)
  where
    by : (b c : Bool) → not b ≡ true → not (b && c) ≡ true
    by true c e = absurd (cc)
    by false c e = refl

primary_parts : (ts : Asts) → Match (Parts rows.PrimaryForm ∷ []) ts → (s : List Tok) → begins_operand (first_kind s) ≡ false → casts (tokens_all ts ++ s) ≡ false
primary_parts _ (chosen grammar.literal (token {o} {ts} e w)) s f = unopened (o ∷ (tokens_all ts ++ s)) (literal_opens_nothing (kind_of o) e)
primary_parts _ (chosen grammar.this (token {o} {ts} e w)) s f = unopened (o ∷ (tokens_all ts ++ s)) (this_opens_nothing (kind_of o) e)
primary_parts _ (chosen grammar.named (token {o} {ts} e w)) s f = unopened (o ∷ (tokens_all ts ++ s)) (name_opens_nothing (kind_of o) e)
primary_parts _ (chosen grammar.grouped (token {o} e (part {t} v (token {o = o'} e' done)))) s f =
    opened o ((tokens t ++ (o' ∷ [])) ++ s) false e (ap casts_in (append_assoc (tokens t) (o' ∷ []) s) ∙ group_casts t v o' s e' f)
primary_parts _ (chosen grammar.created (part {t} {ts} v w)) s f =
    let u = tokens_all (more t ts) ++ s in unopened u (new_opens_nothing (first_kind u) (part_front sorts.New t ts v s))
primary_parts _ (chosen grammar.inherited (token {o} {ts} e w)) s f = unopened (o ∷ (tokens_all ts ++ s)) (super_opens_nothing (kind_of o) e)

-- what goes on with a primary expression is no operand
suffix_operand : (items : List Item) → Suffix sorts.Primary items → (ts : Asts) → Match items ts → (s : List Tok) → begins_operand (first_kind (tokens_all ts ++ s)) ≡ false
suffix_operand _ (grammar.operator f) ts w s = absurd (cc)
suffix_operand _ grammar.member _ (token {o} e w) s = is_false (begins_operand (kind_of o)) (dot_is_no_operand (kind_of o) e)
suffix_operand _ grammar.element _ (token {o} e w) s = is_false (begins_operand (kind_of o)) (bracket_is_no_operand (kind_of o) e)

primary_casts : (t : Ast) → Is sorts.Primary t → (s : List Tok) → begins_operand (first_kind s) ≡ false → casts (tokens t ++ s) ≡ false
primary_casts t (made {ts} w e q) s f = ap casts (retell sorts.Primary t ts s q) ∙ primary_parts ts w s f
primary_casts t (grown {l} {ts} {items} v y w e q) s f =
    ap (λ z. casts (tokens z ++ s)) q ∙ ap casts (append_assoc (tokens l) (tokens_all ts) s) ∙ primary_casts l v (tokens_all ts ++ s) (suffix_operand items y ts w s)

postfix_casts : (t : Ast) → Is sorts.Postfix t → (s : List Tok) → within after_unary (first_kind s) ≡ true → casts (tokens t ++ s) ≡ false
postfix_casts t (made (part {t = t'} {ts} v w) f q) s e =
    let k = first_kind (tokens_all ts ++ s) in
    ap casts (retell sorts.Postfix t (more t' ts) s q ∙ append_assoc (tokens t') (tokens_all ts) s)
    ∙ primary_casts t' v (tokens_all ts ++ s) (is_false (begins_operand k) (step_or_end k (front_first (Parts rows.Steps ∷ []) ts w (within after_unary) s e)))
postfix_casts t (grown v (grammar.operator f) w e q) s g = absurd (cc)

pub tells_negated : (u : List Tok) → same (first_kind u) kinds.Minus ≡ true → predict_operator rows.UnaryForm u ≡ a kinds.Minus ∷ Parts rows.Negated ∷ []
unfolding predict_operator predict_unary
tells_negated u f = yes (same (first_kind u) kinds.Minus) _ _ f

prefixing_is_no_minus : (k : Kind) → is_prefixing k ≡ true → not (same k kinds.Minus) ≡ true
unfolding every
prefixing_is_no_minus k e = implied is_prefixing (λ k. not (same k kinds.Minus)) refl k e

cast_is_no_minus : (k : Kind) → begins sorts.Cast k ≡ true → not (same k kinds.Minus) ≡ true
unfolding every
cast_is_no_minus k e = implied (begins sorts.Cast) (λ k. not (same k kinds.Minus)) refl k e

cast_is_no_prefix : (k : Kind) → begins sorts.Cast k ≡ true → not (is_prefixing k) ≡ true
unfolding every
cast_is_no_prefix k e = implied (begins sorts.Cast) (λ k. not (is_prefixing k)) refl k e

postfix_is_no_minus : (k : Kind) → begins sorts.Postfix k ≡ true → not (same k kinds.Minus) ≡ true
unfolding every
postfix_is_no_minus k e = implied (begins sorts.Postfix) (λ k. not (same k kinds.Minus)) refl k e

postfix_is_no_prefix : (k : Kind) → begins sorts.Postfix k ≡ true → not (is_prefixing k) ≡ true
unfolding every
postfix_is_no_prefix k e = implied (begins sorts.Postfix) (λ k. not (is_prefixing k)) refl k e

name_is_no_type : (k : Kind) → is_name k ≡ true → not (same k kinds.Prim) ≡ true
unfolding every
name_is_no_type k e = implied is_name (λ k. not (same k kinds.Prim)) refl k e

bracket_is_no_parenthesis : (k : Kind) → same k kinds.OpenBracket ≡ true → not (same k kinds.OpenParen) ≡ true
unfolding every
bracket_is_no_parenthesis k e = implied (λ k. same k kinds.OpenBracket) (λ k. not (same k kinds.OpenParen)) refl k e

bracket_is_no_close : (k : Kind) → same k kinds.OpenBracket ≡ true → not (same k kinds.CloseParen) ≡ true
unfolding every
bracket_is_no_close k e = implied (λ k. same k kinds.OpenBracket) (λ k. not (same k kinds.CloseParen)) refl k e

pub tells_prefixed : (u : List Tok) → is_prefixing (first_kind u) ≡ true → predict_operator rows.UnaryForm u ≡ One Prefixing ∷ Part sorts.Unary ∷ []
unfolding predict_operator predict_unary
tells_prefixed u f = no (same (first_kind u) kinds.Minus) _ _ (prefixing_is_no_minus (first_kind u) f) ∙ yes (is_prefixing (first_kind u)) _ _ f

pub tells_a_cast : (items : List Item) (ts : Asts) → Match (Part sorts.Cast ∷ items) ts → (s : List Tok) → predict_operator rows.UnaryForm (tokens_all ts ++ s) ≡ Part sorts.Cast ∷ []
unfolding predict_operator predict_unary
tells_a_cast items _ (part {t} {ts} v w) s =
    let u = tokens_all (more t ts) ++ s in
    let b = part_front sorts.Cast t ts v s in
    no (same (first_kind u) kinds.Minus) _ _ (cast_is_no_minus (first_kind u) b) ∙ no (is_prefixing (first_kind u)) _ _ (cast_is_no_prefix (first_kind u) b)
    ∙ yes (casts u) _ _ (ap casts (append_assoc (tokens t) (tokens_all ts) s) ∙ cast_casts t v (tokens_all ts ++ s))

pub tells_a_postfix : (items : List Item) (ts : Asts) → Match (Part sorts.Postfix ∷ items) ts → (F : Kind → Bool) (s : List Tok) → F (first_kind s) ≡ true
    → ((k : Kind) → first_in items F k ≡ true → within after_unary k ≡ true) → predict_operator rows.UnaryForm (tokens_all ts ++ s) ≡ Part sorts.Postfix ∷ []
unfolding predict_operator predict_unary
tells_a_postfix items _ (part {t} {ts} v w) F s f ends =
    let u = tokens_all (more t ts) ++ s in
    let b = part_front sorts.Postfix t ts v s in
    let c : casts u ≡ false = ap casts (append_assoc (tokens t) (tokens_all ts) s) ∙ postfix_casts t v (tokens_all ts ++ s) (ends (first_kind (tokens_all ts ++ s)) (front_first items ts w F s f)) in
    no (same (first_kind u) kinds.Minus) _ _ (postfix_is_no_minus (first_kind u) b) ∙ no (is_prefixing (first_kind u)) _ _ (postfix_is_no_prefix (first_kind u) b) ∙ no (casts u) _ _ (is_not (casts u) c)

pub tells_to_primitive : (items : List Item) (ts : Asts) → Match (a kinds.Prim ∷ a kinds.CloseParen ∷ items) ts → (s : List Tok) → predict_operator rows.CastForm (tokens_all ts ++ s) ≡ a kinds.Prim ∷ a kinds.CloseParen ∷ Part sorts.Unary ∷ []
unfolding predict_operator
tells_to_primitive items _ (token {o} e (token {o = o'} {ts} f w)) s =
    let u = o ∷ (o' ∷ (tokens_all ts ++ s)) in
    yes (same (first_kind u) kinds.Prim && same (second u) kinds.CloseParen) _ _ (both (same (first_kind u) kinds.Prim) (same (second u) kinds.CloseParen) e f)

reference_no_primitive : (u r : List Tok) → Reference u r → not (same (first_kind u) kinds.Prim && same (second u) kinds.CloseParen) ≡ true
reference_no_primitive _ r (named {o} n) = not_both (same (kind_of o) kinds.Prim) (same (first_kind r) kinds.CloseParen) (λ b. absurd (let d = is_false (same (kind_of o) kinds.Prim) (name_is_no_type (kind_of o) n) in cc))
reference_no_primitive _ r (bracketed {o} {o'} {o''} {u} n g h) = not_both (same (kind_of o) kinds.Prim) (same (kind_of o') kinds.CloseParen) (λ b. is_false (same (kind_of o') kinds.CloseParen) (bracket_is_no_close (kind_of o') g))

pub tells_to_reference : (items : List Item) (ts : Asts) → Match (Part sorts.RefType ∷ items) ts → (s : List Tok) → predict_operator rows.CastForm (tokens_all ts ++ s) ≡ Part sorts.RefType ∷ a kinds.CloseParen ∷ Part sorts.Operand ∷ []
unfolding predict_operator
tells_to_reference items _ (part {t} {ts} v w) s =
    let u = tokens_all (more t ts) ++ s in
    no (same (first_kind u) kinds.Prim && same (second u) kinds.CloseParen) _ _
    (subst (λ z. not (same (first_kind z) kinds.Prim && same (second z) kinds.CloseParen) ≡ true) (sym (append_assoc (tokens t) (tokens_all ts) s)) (reference_no_primitive (tokens t ++ (tokens_all ts ++ s)) (tokens_all ts ++ s) (reference t v (tokens_all ts ++ s))))

name_is_element : (k : Kind) → is_name k ≡ true → is_element k ≡ true
unfolding every
name_is_element k e = implied is_name is_element refl k e

pub tells_an_object : (items : List Item) (ts : Asts) → Match (name ∷ Part sorts.Args ∷ items) ts → (s : List Tok) → predict_new (tokens_all ts ++ s) ≡ name ∷ Part sorts.Args ∷ []
unfolding predict_new
tells_an_object items _ (token {o} e (part {t} {ts} v w)) s =
    let u = o ∷ (tokens_all (more t ts) ++ s) in yes (is_element (first_kind u) && same (second u) kinds.OpenParen) _ _ (both (is_element (first_kind u)) (same (second u) kinds.OpenParen) (name_is_element (first_kind u) e) (arguments_open (second u) (part_front sorts.Args t ts v s)))

pub tells_sized : (items : List Item) (ts : Asts) → Match (One Element ∷ a kinds.OpenBracket ∷ Part sorts.Expr ∷ items) ts → (s : List Tok) → predict_new (tokens_all ts ++ s) ≡ One Element ∷ a kinds.OpenBracket ∷ Part sorts.Expr ∷ a kinds.CloseBracket ∷ Parts rows.Dimensions ∷ []
unfolding predict_new
tells_sized items _ (token {o} e (token {o = o'} e' (part {t} {ts} v w))) s =
    let u = o ∷ (o' ∷ (tokens_all (more t ts) ++ s)) in
    no (is_element (first_kind u) && same (second u) kinds.OpenParen) _ _ (not_both (is_element (first_kind u)) (same (second u) kinds.OpenParen) (λ f. is_false (same (second u) kinds.OpenParen) (bracket_is_no_parenthesis (second u) e')))
    ∙ no (is_element (first_kind u) && (same (second u) kinds.OpenBracket && same (third u) kinds.CloseBracket)) _ _
    (not_both (is_element (first_kind u)) (same (second u) kinds.OpenBracket && same (third u) kinds.CloseBracket)
    (λ f. is_false (same (second u) kinds.OpenBracket && same (third u) kinds.CloseBracket)
    (not_both (same (second u) kinds.OpenBracket) (same (third u) kinds.CloseBracket) (λ g. is_false (same (third u) kinds.CloseBracket) (expr_is_no_close (third u) (part_front sorts.Expr t ts v s))))))

pub tells_listed : (items : List Item) (ts : Asts) → Match (One Element ∷ a kinds.OpenBracket ∷ a kinds.CloseBracket ∷ items) ts → (s : List Tok) → predict_new (tokens_all ts ++ s) ≡ One Element ∷ a kinds.OpenBracket ∷ a kinds.CloseBracket ∷ Parts rows.Brackets ∷ a kinds.OpenBrace ∷ Parts rows.Elements ∷ a kinds.CloseBrace ∷ []
unfolding predict_new
tells_listed items _ (token {o} e (token {o = o'} e' (token {o = o''} {ts} e'' w))) s =
    let u = o ∷ (o' ∷ (o'' ∷ (tokens_all ts ++ s))) in
    no (is_element (first_kind u) && same (second u) kinds.OpenParen) _ _ (not_both (is_element (first_kind u)) (same (second u) kinds.OpenParen) (λ f. is_false (same (second u) kinds.OpenParen) (bracket_is_no_parenthesis (second u) e')))
    ∙ yes (is_element (first_kind u) && (same (second u) kinds.OpenBracket && same (third u) kinds.CloseBracket)) _ _
    (both (is_element (first_kind u)) (same (second u) kinds.OpenBracket && same (third u) kinds.CloseBracket) e (both (same (second u) kinds.OpenBracket) (same (third u) kinds.CloseBracket) e' e''))

pub tells_dimension : (items : List Item) (ts : Asts) → Match (a kinds.OpenBracket ∷ Part sorts.Expr ∷ items) ts → (s : List Tok) → predict_dimension (tokens_all ts ++ s) ≡ a kinds.OpenBracket ∷ Part sorts.Expr ∷ a kinds.CloseBracket ∷ Parts rows.Dimensions ∷ []
unfolding predict_dimension
tells_dimension items _ (token {o} e (part {t} {ts} v w)) s =
    let u = o ∷ (tokens_all (more t ts) ++ s) in
    yes (same (first_kind u) kinds.OpenBracket) _ _ e ∙ no (same (second u) kinds.CloseBracket) _ _ (expr_is_no_close (second u) (part_front sorts.Expr t ts v s))

pub tells_unsized : (items : List Item) (ts : Asts) → Match (a kinds.OpenBracket ∷ a kinds.CloseBracket ∷ items) ts → (s : List Tok) → predict_dimension (tokens_all ts ++ s) ≡ a kinds.OpenBracket ∷ a kinds.CloseBracket ∷ Parts rows.Brackets ∷ []
unfolding predict_dimension
tells_unsized items _ (token {o} e (token {o = o'} {ts} f w)) s =
    let u = o ∷ (o' ∷ (tokens_all ts ++ s)) in
    yes (same (first_kind u) kinds.OpenBracket) _ _ e ∙ yes (same (second u) kinds.CloseBracket) _ _ f

pub tells_no_dimensions : (u : List Tok) → not (same (first_kind u) kinds.OpenBracket) ≡ true → predict_dimension u ≡ []
unfolding predict_dimension
tells_no_dimensions u e = no (same (first_kind u) kinds.OpenBracket) _ _ e
