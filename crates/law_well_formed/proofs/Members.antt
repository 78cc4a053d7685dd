-- The members of a class that a well-formed tree is have nothing missing.
use Rattle.std.proofs.Common.{◌≡◌, refl, subst, ℕ, ◌+◌, Bool, true, false, ◌&&◌, if◌then◌else◌, List, [], ◌∷◌}
use Rattle.std.specs.Prelude.{Option, Some, None}
use Rattle.wy_tree.specs.Seen.{Tok}
use Rattle.wy_tree.specs.Kinds.{kind_of, same}
use Rattle.wy_tree.specs.Ast.{Ast, Asts, Leaf, Node, none, more, node}
use Rattle.wy_tree.specs.Conditions.{leaf_kind}
use Rattle.wy_tree.specs.Grammar.{a, is_own, Is, Match}
use Rattle.wy_tree.specs.Grammar as grammar
use Rattle.wy_tree.specs.declared.kind.Kind.TheVariants as kinds
use Rattle.wy_tree.specs.declared.tree.Form.TheVariants as form
use Rattle.wy_tree.specs.declared.grammar.Sort.TheVariants as sorts
use Rattle.wy_tree.specs.declared.grammar.Row.TheVariants as rows
use Rattle.wy_tree.specs.declared.grammar.Item.{Item}
use Rattle.wy_tree.specs.declared.grammar.Item.TheVariants.{Parts}
use Rattle.wy_syntax.specs.Syntax.{WrittenType, Statements, Placed, OwnCall, Header, Member}
use Rattle.wy_syntax.specs.Syntax as syntax
use Rattle.wy_syntax.specs.Names.{width}
use Rattle.wy_syntax.specs.Statements.{block, declarators, statement}
use Rattle.wy_syntax.specs.Declarations as written
use Rattle.wy_syntax.specs.Declarations.{placed, is_block, is_params, is_arguments, is_throws, modifiers_of, behind_modifiers, behind_throws, header, type_at, result_of, body_of, statements_in, begins_own_call, own_call_in, behind_own_call, end_in, constructor_of, member_behind, member_in, member_seen, members_in}
use Rattle.law_well_formed.proofs.Whole.{Names, WholeRow, WholeStatement, WholeStatements, WholeCall, WholeMember, WholeMembers}
use Rattle.law_well_formed.proofs.Leaves.{Worded, AllWorded, parts_worded}
use Rattle.law_well_formed.proofs.Expressions.{HasPart, arguments_told}
use Rattle.law_well_formed.proofs.Declarators.{declarators_told}
use Rattle.law_well_formed.proofs.Statements.{to_brace, brace_part, BlockTold, block_told, local_told}
use Rattle.law_well_formed.proofs.Marks.{along, name_alone, mod_plain, type_plain, result_plain, params_are, arguments_are, part_at, past_modifier, no_more_modifiers, past_throws, no_throws}

-- ---- one of two

pub first_member : (P : Names) (b : Bool) (x y : Member) → b ≡ true → WholeMember P x → WholeMember P (if b then x else y)
first_member P true x y e h = h
first_member P false x y e h = absurd cc

pub second_member : (P : Names) (b : Bool) (x y : Member) → b ≡ false → WholeMember P y → WholeMember P (if b then x else y)
second_member P true x y e h = absurd cc
second_member P false x y e h = h

call_if : (P : Names) (b : Bool) (call : OwnCall) → (b ≡ true → WholeRow P call.args) → WholeCall P (if b then Some call else None)
call_if P true call h = h refl
call_if P false call h = tt

-- ---- constructors

first_of : (P : Names) (t : Ast) (ts : Asts) (n : ℕ) → HasPart ts → WholeStatement P true (statement n t) → WholeStatements P (statements_in (placed (n + width t) ts)) → WholeStatements P (statements_in (placed n (more t ts)))
unfolding statements_in placed
first_of P t none n h i j = absurd h
first_of P t (more u rest) n h i j = (i, j)

statements_told : (P : Names) (ts : Asts) → Match to_brace ts → AllWorded P ts → (n : ℕ) → WholeStatements P (statements_in (placed n ts))
unfolding statements_in placed
statements_told P ts (grammar.chosen grammar.none_of (grammar.token m grammar.done)) h n = tt
statements_told P ts (grammar.chosen grammar.some_of (grammar.part {t} {ts = rest} v w)) h n =
    first_of P t rest n (brace_part rest w) ((local_told P t v h.0).0 n) (statements_told P rest w h.1 (n + width t))

-- a call at the head, and the statements behind it
abbrev Headed : Names → written.Parts → Type 0
Headed P ps = WholeCall P (own_call_in ps) × WholeStatements P (statements_in (behind_own_call ps))

no_begin : (b c : Bool) → b ≡ false → (b && c) ≡ false
no_begin true c e = absurd cc
no_begin false c e = refl

both_begin : (b c : Bool) → b ≡ true → c ≡ true → (b && c) ≡ true
both_begin true c e f = f
both_begin false c e f = absurd cc

call_none : (P : Names) (b : Bool) (call : OwnCall) → b ≡ false → WholeCall P (if b then Some call else None)
call_none P true call e = absurd cc
call_none P false call e = tt

all_parts : (P : Names) (b : Bool) (xs ys : written.Parts) → b ≡ false → WholeStatements P (statements_in ys) → WholeStatements P (statements_in (if b then xs else ys))
all_parts P true xs ys e h = absurd cc
all_parts P false xs ys e h = h

rest_parts : (P : Names) (b : Bool) (xs ys : written.Parts) → b ≡ true → WholeStatements P (statements_in xs) → WholeStatements P (statements_in (if b then xs else ys))
rest_parts P true xs ys e h = h
rest_parts P false xs ys e h = absurd cc

-- no statement begins as such a call
no_call : (P : Names) (t : Ast) (ts : Asts) (n : ℕ) → is_own (leaf_kind t) ≡ false → WholeStatements P (statements_in (placed n (more t ts))) → Headed P (placed n (more t ts))
unfolding placed
no_call P t none n e h = (tt, h)
no_call P t (more u none) n e h = (call_none P (is_own (leaf_kind t) && is_arguments u) _ (no_begin (is_own (leaf_kind t)) (is_arguments u) e), h)
no_call P t (more u (more s rest)) n e h = (
  call_none P (is_own (leaf_kind t) && is_arguments u) _ (no_begin (is_own (leaf_kind t)) (is_arguments u) e),
  all_parts P (is_own (leaf_kind t) && is_arguments u) _ _ (no_begin (is_own (leaf_kind t)) (is_arguments u) e) h,
)

headed_told : (P : Names) (ts : Asts) → Match (Parts rows.OwnCall ∷ to_brace) ts → AllWorded P ts → (n : ℕ) → Headed P (placed n ts)
unfolding placed statements_in
headed_told P ts (grammar.chosen grammar.no_own_call (grammar.chosen grammar.none_of (grammar.token m grammar.done))) h n = (tt, tt)
headed_told P ts (grammar.chosen grammar.no_own_call (grammar.chosen grammar.some_of (grammar.part {t} {ts = rest} v w))) h n =
    no_call P t rest n (local_told P t v h.0).1 (first_of P t rest n (brace_part rest w) ((local_told P t v h.0).0 n) (statements_told P rest w h.1 (n + width t)))
headed_told P ts (grammar.chosen grammar.own_call (grammar.token {o} m (grammar.part {t} v (grammar.token {o = s} {ts = rest} k w)))) h n = (
  call_if P (is_own (kind_of o) && is_arguments t) _ (λ e. arguments_told P t v h.1.0 (n + 1)),
  rest_parts P (is_own (kind_of o) && is_arguments t) (placed (n + 1 + width t + 1) rest) _ (both_begin (is_own (kind_of o)) (is_arguments t) m (arguments_are t v)) (statements_told P rest w h.1.1.1 (n + 1 + width t + 1)),
)

abbrev constructing : List Item
constructing = Parts (rows.Maybe sorts.Throws) ∷ a kinds.OpenBrace ∷ Parts rows.OwnCall ∷ to_brace

constructor_told : (P : Names) (ts : Asts) → Match constructing ts → AllWorded P ts → (h : Header) (n : ℕ) → WholeMember P (constructor_of h (behind_throws (placed n ts)))
unfolding placed
constructor_told P ts (grammar.chosen grammar.absent (grammar.token {o} {ts = rest} m w)) g h n = headed_told P rest w g.1 (n + 1)
constructor_told P ts (grammar.chosen grammar.present (grammar.part {t} v (grammar.token {o} {ts = rest} m w))) g h n =
    past_throws (λ ps. WholeMember P (constructor_of h ps)) n t (more (Leaf o) rest) v (headed_told P rest w g.1.1 (n + width t + 1))

constructing_part : (ts : Asts) → Match constructing ts → HasPart ts
constructing_part ts (grammar.chosen grammar.absent (grammar.token m w)) = tt
constructing_part ts (grammar.chosen grammar.present (grammar.part v w)) = tt

-- ---- methods

abbrev Bodied : Names → Header → Option WrittenType → written.Parts → Type 0
Bodied P h result ps = WholeMember P (syntax.Method h result (body_of ps))

block_body : (P : Names) (t : Ast) → BlockTold P t → (h : Header) (result : Option WrittenType) (n : ℕ) → Bodied P h result (part_at n t ∷ []) × (is_throws t ≡ false)
block_body P (Leaf o) g h result n = absurd (let e : false ≡ true = g.0 in cc)
block_body P (Node form.Block parts) g h result n = (g.1 n, refl)
block_body P (Node _ parts) g h result n = absurd (let e : false ≡ true = g.0 in cc)

body_told : (P : Names) (ts : Asts) → Match (Parts (rows.Maybe sorts.Throws) ∷ Parts rows.MethodBody ∷ []) ts → AllWorded P ts → (h : Header) (result : Option WrittenType) (n : ℕ) → Bodied P h result (behind_throws (placed n ts))
unfolding placed
body_told P ts (grammar.chosen grammar.absent (grammar.chosen grammar.with_body (grammar.part {t} v grammar.done))) g h result n =
    let b = block_body P t (block_told P t v g.0) h result n in
    no_throws (Bodied P h result) n t none b.1 b.0
body_told P ts (grammar.chosen grammar.absent (grammar.chosen grammar.without_body (grammar.token m grammar.done))) g h result n = tt
body_told P ts (grammar.chosen grammar.present (grammar.part {t = u} v (grammar.chosen grammar.with_body (grammar.part {t} w grammar.done)))) g h result n =
    past_throws (Bodied P h result) n u (more t none) v (block_body P t (block_told P t w g.1.0) h result (n + width u)).0
body_told P ts (grammar.chosen grammar.present (grammar.part {t = u} v (grammar.chosen grammar.without_body (grammar.token {o} m grammar.done)))) g h result n =
    past_throws (Bodied P h result) n u (more (Leaf o) none) v tt

-- ---- members

abbrev HasThree : Asts → Type 0
HasThree (more t (more u (more s rest))) = Unit {0}
HasThree _ = ⊥

three_more : (t : Ast) (ts : Asts) → HasThree ts → HasThree (more t ts)
three_more t none h = absurd h
three_more t (more u none) h = absurd h
three_more t (more u (more s rest)) h = tt

three_with : (t u : Ast) (ts : Asts) → HasPart ts → HasThree (more t (more u ts))
three_with t u none h = absurd h
three_with t u (more s rest) h = tt

abbrev membering : List Item
membering = Parts (rows.Any sorts.Mod) ∷ Parts rows.MemberTail ∷ []

member_three : (ts : Asts) → Match membering ts → HasThree ts
member_three ts (grammar.chosen grammar.some_of (grammar.part {t} {ts = rest} v w)) = three_more t rest (member_three rest w)
member_three ts (grammar.chosen grammar.none_of (grammar.chosen grammar.fields (grammar.part v (grammar.part u (grammar.token m grammar.done))))) = tt
member_three ts (grammar.chosen grammar.none_of (grammar.chosen grammar.a_method (grammar.part v (grammar.token m (grammar.part u w))))) = tt
member_three ts (grammar.chosen grammar.none_of (grammar.chosen grammar.a_constructor (grammar.token {o} m (grammar.part {t} {ts = rest} v w)))) = three_with (Leaf o) t rest (constructing_part rest w)

-- behind the modifiers
abbrev TailTold : Names → List Placed → written.Parts → Type 0
TailTold P ms ps = WholeMember P (member_behind ms ps)

constructor_tail : (P : Names) (ms : List Placed) (o : Tok) (t : Ast) (ts : Asts) (n : ℕ) → HasPart ts → is_params t ≡ true → ((h : Header) (k : ℕ) → WholeMember P (constructor_of h (behind_throws (placed k ts)))) → TailTold P ms (placed n (more (Leaf o) (more t ts)))
unfolding placed
constructor_tail P ms o t none n h e i = absurd h
constructor_tail P ms o t (more s rest) n h e i = first_member P (is_params t) (constructor_of _ (behind_throws (placed (n + 1 + width t) (more s rest)))) _ e (i _ (n + 1 + width t))

tail_told : (P : Names) (ms : List Placed) (ts : Asts) → Match membering ts → AllWorded P ts → (n : ℕ) → TailTold P ms (behind_modifiers (placed n ts))
unfolding placed
tail_told P ms ts (grammar.chosen grammar.some_of (grammar.part {t} {ts = rest} v w)) h n =
    past_modifier (TailTold P ms) n t rest (mod_plain t v).1 (tail_told P ms rest w h.1 (n + width t))
tail_told P ms ts (grammar.chosen grammar.none_of (grammar.chosen grammar.fields (grammar.part {t} v (grammar.part {t = all} u (grammar.token {o} m grammar.done))))) h n =
    let ds = declarators_told P all u h.1.0 in
    no_more_modifiers (TailTold P ms) n t (more all (more (Leaf o) none)) (type_plain t v).1
    (second_member P (is_params all) _ (syntax.Fields ms (type_at (part_at n t)) (declarators (n + width t) all)) ds.2 (ds.0 (n + width t)))
tail_told P ms ts (grammar.chosen grammar.none_of (grammar.chosen grammar.a_method (grammar.part {t} v (grammar.token {o} m (grammar.part {t = ps} {ts = rest} u w))))) h n =
    let hd = header ms (part_at (n + width t) (Leaf o)) (part_at (n + width t + 1) ps) (placed (n + width t + 1 + width ps) rest) in
    no_more_modifiers (TailTold P ms) n t (more (Leaf o) (more ps rest)) (result_plain t v).1
    (first_member P (is_params ps) (syntax.Method hd (result_of (part_at n t)) (body_of (behind_throws (placed (n + width t + 1 + width ps) rest)))) _ (params_are ps u).0 (body_told P rest w h.1.1.1 hd (result_of (part_at n t)) (n + width t + 1 + width ps)))
tail_told P ms ts (grammar.chosen grammar.none_of (grammar.chosen grammar.a_constructor (grammar.token {o} m (grammar.part {t} {ts = rest} v w)))) h n =
    no_more_modifiers (TailTold P ms) n (Leaf o) (more t rest) (name_alone (kind_of o) m).2
    (constructor_tail P ms o t rest n (constructing_part rest w) (params_are t v).0 (λ g k. constructor_told P rest w h.1.1 g k))

abbrev MemberTold : Names → Ast → Type 0
MemberTold P t = (n : ℕ) → WholeMember P (member_seen n t)

member_node : (P : Names) (ts : Asts) → HasThree ts → ((n : ℕ) (ms : List Placed) → TailTold P ms (behind_modifiers (placed n ts))) → MemberTold P (node form.Member ts)
unfolding placed
member_node P none h i = absurd h
member_node P (more t none) h i = absurd h
member_node P (more t (more u none)) h i = absurd h
member_node P (more t (more u (more s rest))) h i = λ n. i n _

leaf_member : (P : Names) (b : Bool) → WholeMember P (if b then syntax.Member.Nothing else syntax.Member.Unknown)
leaf_member P true = tt
leaf_member P false = tt

block_member : (P : Names) (t : Ast) → BlockTold P t → MemberTold P t
block_member P (Leaf o) g = absurd (let e : false ≡ true = g.0 in cc)
block_member P (Node form.Block parts) g = g.1
block_member P (Node _ parts) g = absurd (let e : false ≡ true = g.0 in cc)

member_told : (P : Names) (t : Ast) → Is sorts.Member t → Worded P t → MemberTold P t
unfolding placed
member_told P t (grammar.made {ts} (grammar.chosen grammar.no_member (grammar.token {o} m grammar.done)) e q) h = along (MemberTold P) t (Leaf o) q (λ n. leaf_member P (same (kind_of o) kinds.Semicolon))
member_told P t (grammar.made {ts} (grammar.chosen grammar.initializer (grammar.part {t = b} v grammar.done)) e q) h =
    along (MemberTold P) t b q (block_member P b (block_told P b v (subst (Worded P) q h)))
member_told P t (grammar.made {ts} (grammar.chosen grammar.static_initializer (grammar.token {o} m (grammar.part {t = b} v grammar.done))) e q) h =
    let x = block_told P b v (parts_worded P form.Member ts (subst (Worded P) q h)).1.0 in
    along (MemberTold P) t (Node form.Member (more (Leaf o) (more b none))) q (λ n. first_member P (is_block b) (syntax.Initializer true (block (n + 1) b)) _ x.0 (x.1 (n + 1)))
member_told P t (grammar.made {ts} (grammar.chosen grammar.a_member w) e q) h =
    let g = parts_worded P form.Member ts (subst (Worded P) q h) in
    along (MemberTold P) t (node form.Member ts) q (member_node P ts (member_three ts w) (λ n ms. tail_told P ms ts w g n))
member_told P t (grammar.grown v (grammar.operator e) w j q) h = absurd cc

-- members and the brace behind them
abbrev pub to_end : List Item
to_end = Parts (rows.Any sorts.Member) ∷ a kinds.CloseBrace ∷ []

end_part : (ts : Asts) → Match to_end ts → HasPart ts
end_part ts (grammar.chosen grammar.none_of (grammar.token m w)) = tt
end_part ts (grammar.chosen grammar.some_of (grammar.part v w)) = tt

next_member : (P : Names) (t : Ast) (ts : Asts) (n : ℕ) → HasPart ts → MemberTold P t → WholeMembers P (members_in (placed (n + width t) ts)) → WholeMembers P (members_in (placed n (more t ts)))
unfolding members_in placed
next_member P t none n h i j = absurd h
next_member P t (more u rest) n h i j = (i n, j)

pub members_told : (P : Names) (ts : Asts) → Match to_end ts → AllWorded P ts → (n : ℕ) → WholeMembers P (members_in (placed n ts))
unfolding members_in placed
members_told P ts (grammar.chosen grammar.none_of (grammar.token m grammar.done)) h n = tt
members_told P ts (grammar.chosen grammar.some_of (grammar.part {t} {ts = rest} v w)) h n = next_member P t rest n (end_part rest w) (member_told P t v h.0) (members_told P rest w h.1 (n + width t))
