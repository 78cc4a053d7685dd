-- The ways of declarations and members, which more than one token tells.
use Rattle.std.proofs.Common.{Bool, true, false, not, ◌&&◌, ◌||◌, if◌then◌else◌, ◌≡◌, List, [], ◌∷◌, ◌++◌, refl, sym, ◌∙◌, ap, subst, append_assoc}
use Rattle.wy_tree.specs.Seen.{Tok}
use Rattle.wy_tree.specs.Kinds.{kind_of, same}
use Rattle.wy_tree.specs.Conditions.{is_name}
use Rattle.wy_tree.specs.Ast.{Ast, Asts, Leaf, more, node, tokens, tokens_all}
use Rattle.wy_tree.specs.Grammar as grammar
use Rattle.wy_tree.specs.Grammar.{a, name, is_modifying, form_of, Is, made, grown, Match, done, token, part, chosen}
use Rattle.wy_tree.specs.declared.kind.Kind.{Kind}
use Rattle.wy_tree.specs.declared.kind.Kind.TheVariants as kinds
use Rattle.wy_tree.specs.declared.grammar.Sort.{Sort}
use Rattle.wy_tree.specs.declared.grammar.Sort.TheVariants as sorts
use Rattle.wy_tree.specs.declared.grammar.Row.TheVariants as rows
use Rattle.wy_tree.specs.declared.grammar.Item.{Item}
use Rattle.wy_tree.specs.declared.grammar.Item.TheVariants.{Part, Parts}
use Rattle.wy_parser.specs.Prediction.{first_kind, rest, second, past_modifiers, past_pairs, is_element, names_method, heads_method, heads_interface, predict_declared, predict_declaration, predict_member, predict_member_tail}
use Rattle.wy_parser.proofs.Truth.{or_left, or_right, both, neither, not_both, is_not, is_false, if_so, if_not}
use Rattle.wy_parser.proofs.Firsts.{begins, row_begins, first_in, every, implied, node_front, starts, front_first}
use Rattle.wy_parser.proofs.Follows.{row_meets}
use Rattle.wy_parser.proofs.Fronts.{yes, no, no_sign_static_initializer, no_sign_a_member}

pub part_front : (x : Sort) (t : Ast) (ts : Asts) → Is x t → (s : List Tok) → begins x (first_kind (tokens_all (more t ts) ++ s)) ≡ true
part_front x t ts v s = ap (λ z. begins x (first_kind z)) (append_assoc (tokens t) (tokens_all ts) s) ∙ starts x t v (tokens_all ts ++ s)

pub retell : (x : Sort) (t : Ast) (ts : Asts) (s : List Tok) → t ≡ node (form_of x) ts → tokens t ++ s ≡ tokens_all ts ++ s
retell x t ts s q = ap (λ z. tokens z ++ s) q ∙ node_front (form_of x) ts s

-- no modifier begins with this kind
abbrev pub stays : Kind → Bool
stays k = not (is_modifying k) && not (same k kinds.At)

stays_unmodified : (k : Kind) → stays k ≡ true → not (is_modifying k) ≡ true
unfolding every
stays_unmodified k e = implied stays (λ k. not (is_modifying k)) refl k e

stays_unmarked : (k : Kind) → stays k ≡ true → not (same k kinds.At) ≡ true
unfolding every
stays_unmarked k e = implied stays (λ k. not (same k kinds.At)) refl k e

mark_is_no_modifier : (k : Kind) → same k kinds.At ≡ true → not (is_modifying k) ≡ true
unfolding every
mark_is_no_modifier k e = implied (λ k. same k kinds.At) (λ k. not (is_modifying k)) refl k e

class_stays : (k : Kind) → same k kinds.Class ≡ true → stays k ≡ true
unfolding every
class_stays k e = implied (λ k. same k kinds.Class) stays refl k e

interface_stays : (k : Kind) → same k kinds.Interface ≡ true → stays k ≡ true
unfolding every
interface_stays k e = implied (λ k. same k kinds.Interface) stays refl k e

past_modifier : (o : Tok) (s : List Tok) → is_modifying (kind_of o) ≡ true → past_modifiers (o ∷ s) ≡ past_modifiers s
unfolding past_modifiers
past_modifier o [] e = if_so (is_modifying (kind_of o)) _ _ e
past_modifier o (o' ∷ s) e = if_so (is_modifying (kind_of o)) _ _ e

past_annotation : (o o' : Tok) (s : List Tok) → same (kind_of o) kinds.At ≡ true → same (kind_of o') kinds.Override ≡ true → past_modifiers (o ∷ (o' ∷ s)) ≡ past_modifiers s
unfolding past_modifiers
past_annotation o o' s e f =
    if_not (is_modifying (kind_of o)) _ _ (mark_is_no_modifier (kind_of o) e)
    ∙ if_so (same (kind_of o) kinds.At && same (kind_of o') kinds.Override) _ _ (both (same (kind_of o) kinds.At) (same (kind_of o') kinds.Override) e f)

pub past_here : (o : Tok) (s : List Tok) → stays (kind_of o) ≡ true → past_modifiers (o ∷ s) ≡ o ∷ s
unfolding past_modifiers
past_here o [] e = if_not (is_modifying (kind_of o)) _ _ (stays_unmodified (kind_of o) e)
past_here o (o' ∷ s) e =
    if_not (is_modifying (kind_of o)) _ _ (stays_unmodified (kind_of o) e)
    ∙ if_not (same (kind_of o) kinds.At && same (kind_of o') kinds.Override) _ _
    (not_both (same (kind_of o) kinds.At) (same (kind_of o') kinds.Override) (λ f. absurd (let g = is_false (same (kind_of o) kinds.At) (stays_unmarked (kind_of o) e) in cc)))

class_is_no_interface : (k : Kind) → same k kinds.Class ≡ true → not (same k kinds.Interface) ≡ true
unfolding every
class_is_no_interface k e = implied (λ k. same k kinds.Class) (λ k. not (same k kinds.Interface)) refl k e

mod_past : (t : Ast) → Is sorts.Mod t → (r : List Tok) → past_modifiers (tokens t ++ r) ≡ past_modifiers r
mod_past t (made (chosen grammar.modifier (token {o} e done)) f q) r = ap (λ z. past_modifiers (tokens z ++ r)) q ∙ past_modifier o r e
mod_past t (made (chosen grammar.annotation (token {o} e (token {o = o'} e' done))) f q) r = ap (λ z. past_modifiers (tokens z ++ r)) q ∙ past_annotation o o' r e e'
mod_past t (grown v (grammar.operator f) w e q) r = absurd (cc)

-- the parts behind the modifiers
record Behind (items : List Item) (ts : Asts) (s : List Tok) : Type 0 where
  parts : Asts
  are : Match items parts
  same_past : past_modifiers (tokens_all ts ++ s) ≡ past_modifiers (tokens_all parts ++ s)

behind_mods : (items : List Item) (ts : Asts) → Match (Parts (rows.Any sorts.Mod) ∷ items) ts → (s : List Tok) → Behind items ts s
behind_mods items ts (chosen grammar.none_of w) s = record { parts = ts; are = w; same_past = refl }
behind_mods items _ (chosen grammar.some_of (part {t} {ts} v w)) s =
    let i = behind_mods items ts w s in
    record {
      parts = i.parts;
      are = i.are;
      same_past = ap past_modifiers (append_assoc (tokens t) (tokens_all ts) s) ∙ mod_past t v (tokens_all ts ++ s) ∙ i.same_past;
    }

first_past : (k : Kind) (items : List Item) (ts : Asts) → Match (a k ∷ items) ts → (s : List Tok) → ((j : Kind) → same j k ≡ true → stays j ≡ true) → same (first_kind (past_modifiers (tokens_all ts ++ s))) k ≡ true
first_past k items _ (token {o} {ts} e w) s f = ap (λ z. same (first_kind z) k) (past_here o (tokens_all ts ++ s) (f (kind_of o) e)) ∙ e

head_past : (k : Kind) (items : List Item) (ts : Asts) → Match (Parts (rows.Any sorts.Mod) ∷ a k ∷ items) ts → (s : List Tok) → ((j : Kind) → same j k ≡ true → stays j ≡ true)
    → same (first_kind (past_modifiers (tokens_all ts ++ s))) k ≡ true
head_past k items ts w s f =
    let b = behind_mods (a k ∷ items) ts w s in
    ap (λ z. same (first_kind z) k) b.same_past ∙ first_past k items b.parts b.are s f

class_head : (t : Ast) → Is sorts.Class t → (s : List Tok) → heads_interface (tokens t ++ s) ≡ false
unfolding heads_interface
class_head t (made {ts} w e q) s =
    ap (λ z. same (first_kind (past_modifiers z)) kinds.Interface) (retell sorts.Class t ts s q)
    ∙ is_false (same (first_kind (past_modifiers (tokens_all ts ++ s))) kinds.Interface) (class_is_no_interface (first_kind (past_modifiers (tokens_all ts ++ s))) (head_past kinds.Class _ ts w s class_stays))
class_head t (grown v (grammar.operator f) w e q) s = absurd (cc)

interface_head : (t : Ast) → Is sorts.Interface t → (s : List Tok) → heads_interface (tokens t ++ s) ≡ true
unfolding heads_interface
interface_head t (made {ts} w e q) s =
    ap (λ z. same (first_kind (past_modifiers z)) kinds.Interface) (retell sorts.Interface t ts s q) ∙ head_past kinds.Interface _ ts w s interface_stays
interface_head t (grown v (grammar.operator f) w e q) s = absurd (cc)

class_is_no_semicolon : (k : Kind) → begins sorts.Class k ≡ true → not (same k kinds.Semicolon) ≡ true
unfolding every
class_is_no_semicolon k e = implied (begins sorts.Class) (λ k. not (same k kinds.Semicolon)) refl k e

interface_is_no_semicolon : (k : Kind) → begins sorts.Interface k ≡ true → not (same k kinds.Semicolon) ≡ true
unfolding every
interface_is_no_semicolon k e = implied (begins sorts.Interface) (λ k. not (same k kinds.Semicolon)) refl k e

pub tells_nothing : (u : List Tok) → same (first_kind u) kinds.Semicolon ≡ true → predict_declaration rows.Declared u ≡ a kinds.Semicolon ∷ []
unfolding predict_declaration predict_declared
tells_nothing u f = yes (same (first_kind u) kinds.Semicolon) _ _ f

pub tells_a_class : (items : List Item) (ts : Asts) → Match (Part sorts.Class ∷ items) ts → (s : List Tok) → predict_declaration rows.Declared (tokens_all ts ++ s) ≡ Part sorts.Class ∷ []
unfolding predict_declaration predict_declared
tells_a_class items _ (part {t} {ts} v w) s =
    let u = tokens_all (more t ts) ++ s in
    let f : heads_interface u ≡ false = ap heads_interface (append_assoc (tokens t) (tokens_all ts) s) ∙ class_head t v (tokens_all ts ++ s) in
    no (same (first_kind u) kinds.Semicolon) _ _ (class_is_no_semicolon (first_kind u) (part_front sorts.Class t ts v s)) ∙ no (heads_interface u) _ _ (is_not (heads_interface u) f)

pub tells_an_interface : (items : List Item) (ts : Asts) → Match (Part sorts.Interface ∷ items) ts → (s : List Tok) → predict_declaration rows.Declared (tokens_all ts ++ s) ≡ Part sorts.Interface ∷ []
unfolding predict_declaration predict_declared
tells_an_interface items _ (part {t} {ts} v w) s =
    let u = tokens_all (more t ts) ++ s in
    let f : heads_interface u ≡ true = ap heads_interface (append_assoc (tokens t) (tokens_all ts) s) ∙ interface_head t v (tokens_all ts ++ s) in
    no (same (first_kind u) kinds.Semicolon) _ _ (interface_is_no_semicolon (first_kind u) (part_front sorts.Interface t ts v s)) ∙ yes (heads_interface u) _ _ f

block_opens : (k : Kind) → begins sorts.Block k ≡ true → same k kinds.OpenBrace ≡ true
unfolding every
block_opens k e = implied (begins sorts.Block) (λ k. same k kinds.OpenBrace) refl k e

tail_is_not_static : (k : Kind) → (row_begins rows.MemberTail k || false) ≡ true → not (same k kinds.Static) ≡ true
unfolding every
tail_is_not_static k e = implied (λ k. row_begins rows.MemberTail k || false) (λ k. not (same k kinds.Static)) refl k e

annotation_is_not_static : (k : Kind) → same k kinds.At ≡ true → not (same k kinds.Static) ≡ true
unfolding every
annotation_is_not_static k e = implied (λ k. same k kinds.At) (λ k. not (same k kinds.Static)) refl k e

tail_is_no_block : (k : Kind) → (begins sorts.Mod k || (row_begins rows.MemberTail k || false)) ≡ true → not (same k kinds.OpenBrace) ≡ true
unfolding every
tail_is_no_block k e = implied (λ k. begins sorts.Mod k || (row_begins rows.MemberTail k || false)) (λ k. not (same k kinds.OpenBrace)) refl k e

pub tells_static_initializer : (items : List Item) (ts : Asts) → Match (a kinds.Static ∷ Part sorts.Block ∷ items) ts → (s : List Tok) → predict_member rows.MemberForm (tokens_all ts ++ s) ≡ a kinds.Static ∷ Part sorts.Block ∷ []
tells_static_initializer items _ (token {o} e (part {t} {ts} v w)) s =
    let u = o ∷ (tokens_all (more t ts) ++ s) in
    no_sign_static_initializer u e
    ∙ yes (same (first_kind u) kinds.Static && same (second u) kinds.OpenBrace) _ _ (both (same (first_kind u) kinds.Static) (same (second u) kinds.OpenBrace) e (block_opens (second u) (part_front sorts.Block t ts v s)))

-- behind the modifier static stands no block
static_alone : (items : List Item) (ts : Asts) → Match (Parts (rows.Any sorts.Mod) ∷ Parts rows.MemberTail ∷ items) ts → (s : List Tok) → same (first_kind (tokens_all ts ++ s)) kinds.Static ≡ true
    → same (second (tokens_all ts ++ s)) kinds.OpenBrace ≡ false
static_alone items ts (chosen grammar.none_of w) s e =
    let k = first_kind (tokens_all ts ++ s) in
    let f = tail_is_not_static k (front_first (Parts rows.MemberTail ∷ items) ts w (λ _. true) s refl) in
    absurd (let g = is_false (same k kinds.Static) f in cc)
static_alone items _ (chosen grammar.some_of (part {ts} (made (chosen grammar.modifier (token {o} e' done)) f q) w)) s e =
    let k = first_kind (tokens_all ts ++ s) in
    ap (λ z. same (second ((tokens z ++ tokens_all ts) ++ s)) kinds.OpenBrace) q
    ∙ is_false (same k kinds.OpenBrace) (tail_is_no_block k (front_first (Parts (rows.Any sorts.Mod) ∷ Parts rows.MemberTail ∷ items) ts w (λ _. true) s refl))
static_alone items _ (chosen grammar.some_of (part {ts} (made (chosen grammar.annotation (token {o} e' (token {o = o'} f' done))) f q) w)) s e =
    let g : same (kind_of o) kinds.Static ≡ true = sym (ap (λ z. same (first_kind ((tokens z ++ tokens_all ts) ++ s)) kinds.Static) q) ∙ e in
    absurd (let h = is_false (same (kind_of o) kinds.Static) (annotation_is_not_static (kind_of o) e') in cc)
static_alone items _ (chosen grammar.some_of (part (grown v (grammar.operator f) w' e' q) w)) s e = absurd (cc)

pub tells_a_member : (items : List Item) (ts : Asts) → Match (Parts (rows.Any sorts.Mod) ∷ Parts rows.MemberTail ∷ items) ts → (s : List Tok)
    → first_in (Parts (rows.Any sorts.Mod) ∷ Parts rows.MemberTail ∷ []) (row_meets rows.MemberForm) (first_kind (tokens_all ts ++ s)) ≡ true → predict_member rows.MemberForm (tokens_all ts ++ s) ≡ Parts (rows.Any sorts.Mod) ∷ Parts rows.MemberTail ∷ []
tells_a_member items ts w s f =
    let u = tokens_all ts ++ s in
    no_sign_a_member u f ∙ no (same (first_kind u) kinds.Static && same (second u) kinds.OpenBrace) _ _ (not_both (same (first_kind u) kinds.Static) (same (second u) kinds.OpenBrace) (static_alone items ts w s))

params_open : (k : Kind) → begins sorts.Params k ≡ true → same k kinds.OpenParen ≡ true
unfolding every
params_open k e = implied (begins sorts.Params) (λ k. same k kinds.OpenParen) refl k e

void_is_no_name : (k : Kind) → same k kinds.Void ≡ true → not (is_name k) ≡ true
unfolding every
void_is_no_name k e = implied (λ k. same k kinds.Void) (λ k. not (is_name k)) refl k e

name_is_no_bracket : (k : Kind) → is_name k ≡ true → not (same k kinds.OpenBracket) ≡ true
unfolding every
name_is_no_bracket k e = implied is_name (λ k. not (same k kinds.OpenBracket)) refl k e

type_element : (k : Kind) → begins sorts.Type k ≡ true → is_element k ≡ true
unfolding every
type_element k e = implied (begins sorts.Type) is_element refl k e

behind_element : (k : Kind) → ((same k kinds.OpenBracket || false) || (true && is_name k)) ≡ true → not (same k kinds.OpenParen) ≡ true
unfolding every
behind_element k e = implied (λ k. (same k kinds.OpenBracket || false) || (true && is_name k)) (λ k. not (same k kinds.OpenParen)) refl k e

type_is_no_void : (k : Kind) → begins sorts.Type k ≡ true → not (same k kinds.Void) ≡ true
unfolding every
type_is_no_void k e = implied (begins sorts.Type) (λ k. not (same k kinds.Void)) refl k e

pub decls_name : (k : Kind) → begins sorts.Decls k ≡ true → is_name k ≡ true
unfolding every
decls_name k e = implied (begins sorts.Decls) is_name refl k e

behind_name : (k : Kind) → first_in (Parts rows.Brackets ∷ Parts rows.Initial ∷ []) (first_in (Parts (rows.Further sorts.Decl) ∷ []) (λ k. same k kinds.Semicolon)) k ≡ true → not (same k kinds.OpenParen) ≡ true
unfolding every
behind_name k e = implied (λ k. first_in (Parts rows.Brackets ∷ Parts rows.Initial ∷ []) (first_in (Parts (rows.Further sorts.Decl) ∷ []) (λ k. same k kinds.Semicolon)) k) (λ k. not (same k kinds.OpenParen)) refl k e

pub tells_a_constructor : (items : List Item) (ts : Asts) → Match (name ∷ Part sorts.Params ∷ items) ts → (s : List Tok) → predict_member rows.MemberTail (tokens_all ts ++ s) ≡ name ∷ Part sorts.Params ∷ Parts (rows.Maybe sorts.Throws) ∷ a kinds.OpenBrace ∷ Parts rows.OwnCall ∷ Parts (rows.Any sorts.Local) ∷ a kinds.CloseBrace ∷ []
unfolding predict_member predict_member_tail
tells_a_constructor items _ (token {o} e (part {t} {ts} v w)) s =
    let u = o ∷ (tokens_all (more t ts) ++ s) in
    yes (is_name (first_kind u) && same (second u) kinds.OpenParen) _ _ (both (is_name (first_kind u)) (same (second u) kinds.OpenParen) e (params_open (second u) (part_front sorts.Params t ts v s)))

brackets_past : (ts : Asts) → Match (Parts rows.Brackets ∷ []) ts → (r : List Tok) → past_pairs (tokens_all ts ++ r) ≡ past_pairs r
unfolding past_pairs
brackets_past _ (chosen grammar.no_brackets done) r = refl
brackets_past _ (chosen grammar.brackets (token {o} e (token {o = o'} {ts} f w))) r =
    if_so (same (kind_of o) kinds.OpenBracket && same (kind_of o') kinds.CloseBracket) _ _ (both (same (kind_of o) kinds.OpenBracket) (same (kind_of o') kinds.CloseBracket) e f) ∙ brackets_past ts w r

-- past the brackets of a type comes what follows it
type_past : (t : Ast) → Is sorts.Type t → (r : List Tok) → past_pairs (rest (tokens t ++ r)) ≡ past_pairs r
type_past t (made (token {o} {ts} e w) f q) r = ap (λ z. past_pairs (rest z)) (retell sorts.Type t (more (Leaf o) ts) r q) ∙ brackets_past ts w r
type_past t (grown v (grammar.operator f) w e q) r = absurd (cc)

-- no parenthesis stands behind the first token of a type before a name
type_second : (t : Ast) → Is sorts.Type t → (r : List Tok) → is_name (first_kind r) ≡ true → same (second (tokens t ++ r)) kinds.OpenParen ≡ false
type_second t (made (token {o} {ts} e w) f q) r n =
    ap (λ z. same (second z) kinds.OpenParen) (retell sorts.Type t (more (Leaf o) ts) r q)
    ∙ is_false (same (first_kind (tokens_all ts ++ r)) kinds.OpenParen) (behind_element (first_kind (tokens_all ts ++ r)) (front_first (Parts rows.Brackets ∷ []) ts w is_name r n))
type_second t (grown v (grammar.operator f) w e q) r n = absurd (cc)

name_past : (r : List Tok) → is_name (first_kind r) ≡ true → past_pairs r ≡ r
unfolding past_pairs
name_past [] n = refl
name_past (o ∷ []) n = refl
name_past (o ∷ (o' ∷ r)) n =
    if_not (same (kind_of o) kinds.OpenBracket && same (kind_of o') kinds.CloseBracket) _ _
    (not_both (same (kind_of o) kinds.OpenBracket) (same (kind_of o') kinds.CloseBracket) (λ f. absurd (let g = is_false (same (kind_of o) kinds.OpenBracket) (name_is_no_bracket (kind_of o) n) in cc)))

-- what stands behind a type before a name
type_names : (t : Ast) → Is sorts.Type t → (r : List Tok) → is_name (first_kind r) ≡ true → (b : Bool) → same (second r) kinds.OpenParen ≡ b
    → (is_element (first_kind (tokens t ++ r)) && names_method (past_pairs (rest (tokens t ++ r)))) ≡ b
type_names t v r n b p =
    ap (λ z. z && names_method (past_pairs (rest (tokens t ++ r)))) (type_element (first_kind (tokens t ++ r)) (starts sorts.Type t v r))
    ∙ ap names_method (type_past t v r ∙ name_past r n)
    ∙ ap (λ z. z && same (second r) kinds.OpenParen) n
    ∙ p

-- a result, before the name and the parameters of a method
result_heads : (t : Ast) → Is sorts.Result t → (r : List Tok) → is_name (first_kind r) ≡ true → same (second r) kinds.OpenParen ≡ true → heads_method (tokens t ++ r) ≡ true
unfolding heads_method
result_heads t (made (chosen grammar.no_result (token {o} e done)) f q) r n p =
    ap (λ z. same (first_kind z) kinds.Void || (is_element (first_kind z) && names_method (past_pairs (rest z)))) (ap (λ z. tokens z ++ r) q)
    ∙ or_left (same (kind_of o) kinds.Void) (is_element (kind_of o) && names_method (past_pairs r)) e
result_heads t (made (chosen grammar.a_result (part {t = t'} v done)) f q) r n p =
    ap (λ z. same (first_kind z) kinds.Void || (is_element (first_kind z) && names_method (past_pairs (rest z)))) (ap (λ z. tokens z ++ r) q)
    ∙ or_right (same (first_kind (tokens t' ++ r)) kinds.Void) (is_element (first_kind (tokens t' ++ r)) && names_method (past_pairs (rest (tokens t' ++ r))))
    (type_names t' v r n true p)
result_heads t (grown v (grammar.operator f) w e q) r n p = absurd (cc)

result_second : (t : Ast) → Is sorts.Result t → (r : List Tok) → is_name (first_kind r) ≡ true → is_name (first_kind (tokens t ++ r)) ≡ true → same (second (tokens t ++ r)) kinds.OpenParen ≡ false
result_second t (made (chosen grammar.no_result (token {o} e done)) f q) r n b =
    let c : is_name (kind_of o) ≡ true = sym (ap (λ z. is_name (first_kind (tokens z ++ r))) q) ∙ b in
    absurd (let d = is_false (is_name (kind_of o)) (void_is_no_name (kind_of o) e) in cc)
result_second t (made (chosen grammar.a_result (part {t = t'} v done)) f q) r n b = ap (λ z. same (second (tokens z ++ r)) kinds.OpenParen) q ∙ type_second t' v r n
result_second t (grown v (grammar.operator f) w e q) r n b = absurd (cc)

pub tells_a_method : (items : List Item) (ts : Asts) → Match (Part sorts.Result ∷ name ∷ Part sorts.Params ∷ items) ts → (s : List Tok) → predict_member rows.MemberTail (tokens_all ts ++ s) ≡ Part sorts.Result ∷ name ∷ Part sorts.Params ∷ Parts (rows.Maybe sorts.Throws) ∷ Parts rows.MethodBody ∷ []
unfolding predict_member predict_member_tail
tells_a_method items _ (part {t} v (token {o} e (part {t = t'} {ts} v' w))) s =
    let r = o ∷ (tokens_all (more t' ts) ++ s) in
    let p : same (second r) kinds.OpenParen ≡ true = params_open (second r) (part_front sorts.Params t' ts v' s) in
    let u = tokens t ++ r in
    subst (λ z. (if is_name (first_kind z) && same (second z) kinds.OpenParen then name ∷ Part sorts.Params ∷ Parts (rows.Maybe sorts.Throws) ∷ a kinds.OpenBrace ∷ Parts rows.OwnCall ∷ Parts (rows.Any sorts.Local) ∷ a kinds.CloseBrace ∷ [] else (if heads_method z then Part sorts.Result ∷ name ∷ Part sorts.Params ∷ Parts (rows.Maybe sorts.Throws) ∷ Parts rows.MethodBody ∷ [] else Part sorts.Type ∷ Part sorts.Decls ∷ a kinds.Semicolon ∷ [])) ≡ Part sorts.Result ∷ name ∷ Part sorts.Params ∷ Parts (rows.Maybe sorts.Throws) ∷ Parts rows.MethodBody ∷ [])
    (sym (append_assoc (tokens t) (o ∷ tokens_all (more t' ts)) s))
    (no (is_name (first_kind u) && same (second u) kinds.OpenParen) _ _ (not_both (is_name (first_kind u)) (same (second u) kinds.OpenParen) (result_second t v r e)) ∙ yes (heads_method u) _ _ (result_heads t v r e p))

decl_second : (t : Ast) → Is sorts.Decl t → (F : Kind → Bool) (r : List Tok) → F (first_kind r) ≡ true → first_in (Parts rows.Brackets ∷ Parts rows.Initial ∷ []) F (second (tokens t ++ r)) ≡ true
decl_second t (made (token {o} {ts} e w) f q) F r n =
    ap (λ z. first_in (Parts rows.Brackets ∷ Parts rows.Initial ∷ []) F (second z)) (retell sorts.Decl t (more (Leaf o) ts) r q) ∙ front_first (Parts rows.Brackets ∷ Parts rows.Initial ∷ []) ts w F r n
decl_second t (grown v (grammar.operator f) w e q) F r n = absurd (cc)

decls_second : (t : Ast) → Is sorts.Decls t → (r : List Tok) → same (first_kind r) kinds.Semicolon ≡ true → same (second (tokens t ++ r)) kinds.OpenParen ≡ false
decls_second t (made (part {t = t'} {ts} v w) f q) r n =
    let F : Kind → Bool = first_in (Parts (rows.Further sorts.Decl) ∷ []) (λ k. same k kinds.Semicolon) in
    let u = tokens t' ++ (tokens_all ts ++ r) in
    ap (λ z. same (second z) kinds.OpenParen) (retell sorts.Decls t (more t' ts) r q ∙ append_assoc (tokens t') (tokens_all ts) r)
    ∙ is_false (same (second u) kinds.OpenParen)
    (behind_name (second u) (decl_second t' v F (tokens_all ts ++ r) (front_first (Parts (rows.Further sorts.Decl) ∷ []) ts w (λ k. same k kinds.Semicolon) r n)))
decls_second t (grown v (grammar.operator f) w e q) r n = absurd (cc)

pub tells_fields : (items : List Item) (ts : Asts) → Match (Part sorts.Type ∷ Part sorts.Decls ∷ a kinds.Semicolon ∷ items) ts → (s : List Tok) → predict_member rows.MemberTail (tokens_all ts ++ s) ≡ Part sorts.Type ∷ Part sorts.Decls ∷ a kinds.Semicolon ∷ []
unfolding predict_member predict_member_tail heads_method
tells_fields items _ (part {t} v (part {t = t'} v' (token {o} {ts} e w))) s =
    let r = tokens t' ++ (o ∷ (tokens_all ts ++ s)) in
    let n : is_name (first_kind r) ≡ true = decls_name (first_kind r) (starts sorts.Decls t' v' (o ∷ (tokens_all ts ++ s))) in
    let u = tokens t ++ r in
    let same_tokens : tokens_all (more t (more t' (more (Leaf o) ts))) ++ s ≡ u =
    append_assoc (tokens t) (tokens t' ++ (o ∷ tokens_all ts)) s ∙ ap (λ z. tokens t ++ z) (append_assoc (tokens t') (o ∷ tokens_all ts) s) in
    let p : (is_element (first_kind u) && names_method (past_pairs (rest u))) ≡ false = type_names t v r n false (decls_second t' v' (o ∷ (tokens_all ts ++ s)) e) in
    let q : same (first_kind u) kinds.Void ≡ false = is_false (same (first_kind u) kinds.Void) (type_is_no_void (first_kind u) (starts sorts.Type t v r)) in
    let m : (same (first_kind u) kinds.Void || (is_element (first_kind u) && names_method (past_pairs (rest u)))) ≡ false = neither (same (first_kind u) kinds.Void) ((is_element (first_kind u) && names_method (past_pairs (rest u)))) q p in
    subst (λ z. (if is_name (first_kind z) && same (second z) kinds.OpenParen then name ∷ Part sorts.Params ∷ Parts (rows.Maybe sorts.Throws) ∷ a kinds.OpenBrace ∷ Parts rows.OwnCall ∷ Parts (rows.Any sorts.Local) ∷ a kinds.CloseBrace ∷ [] else (if same (first_kind z) kinds.Void || (is_element (first_kind z) && names_method (past_pairs (rest z))) then Part sorts.Result ∷ name ∷ Part sorts.Params ∷ Parts (rows.Maybe sorts.Throws) ∷ Parts rows.MethodBody ∷ [] else Part sorts.Type ∷ Part sorts.Decls ∷ a kinds.Semicolon ∷ [])) ≡ Part sorts.Type ∷ Part sorts.Decls ∷ a kinds.Semicolon ∷ [])
    (sym same_tokens)
    (no (is_name (first_kind u) && same (second u) kinds.OpenParen) _ _ (not_both (is_name (first_kind u)) (same (second u) kinds.OpenParen) (λ b. type_second t v r n))
    ∙ no (same (first_kind u) kinds.Void || (is_element (first_kind u) && names_method (past_pairs (rest u)))) _ _ (is_not (same (first_kind u) kinds.Void || (is_element (first_kind u) && names_method (past_pairs (rest u)))) m))
