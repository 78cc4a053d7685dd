-- The classes of a tree have their calls at the tokens that the tree has there.
use Rattle.std.proofs.Common.{ℕ, ◌+◌, Bool, true, false, if◌then◌else◌, List, [], ◌∷◌, ◌++◌}
use Rattle.std.specs.Prelude.{Option, Some, None}
use Rattle.wy_tree.specs.Ast.{Ast, Asts, Leaf, Node}
use Rattle.wy_tree.specs.Ast as tree
use Rattle.wy_tree.specs.declared.kind.Kind.TheVariants as kinds
use Rattle.wy_tree.specs.declared.tree.Form.TheVariants as form
use Rattle.wy_syntax.specs.Syntax.{WrittenType, Placed, Header, Member, Declaration}
use Rattle.wy_syntax.specs.Syntax as syntax
use Rattle.wy_syntax.specs.Names.{width, is_leaf}
use Rattle.wy_syntax.specs.Statements.{block, declarators}
use Rattle.wy_syntax.specs.Declarations.{Parts, placed, is_block, is_params, modifiers_of, behind_modifiers, is_modifier, is_throws, behind_throws, header, result_of, type_at, body_of, statements_in, begins_own_call, behind_own_call, constructor_of, member_behind, member_in, member_seen, members_in, method_in, methods_in, behind_brace, class_behind, interface_behind, declaration, declarations, unit}
use Rattle.wy_members.specs.Declarations.{classes_of}
use Rattle.law_own_traces.proofs.Calls.{Words, Seen, AllSeen}
use Rattle.law_own_traces.proofs.Said.{AllCalls, MemberCalls, MembersCalls, ClassesCalls}
use Rattle.law_own_traces.proofs.StatementCalls.{statement_calls, block_calls}

abbrev RowSeen : Words → Parts → Type 0
RowSeen W [] = Unit {0}
RowSeen W (p ∷ rest) = Seen W p.at p.entity × RowSeen W rest

placed_seen : (W : Words) (n : ℕ) (ts : Asts) → AllSeen W n ts → RowSeen W (placed n ts)
unfolding placed
placed_seen W n tree.none h = tt
placed_seen W n (tree.more t rest) h = (h.0, placed_seen W (n + width t) rest h.1)

either_row : (W : Words) (b : Bool) (ps qs : Parts) → RowSeen W ps → RowSeen W qs → RowSeen W (if b then ps else qs)
either_row W true ps qs h i = h
either_row W false ps qs h i = i

modifiers_seen : (W : Words) (ps : Parts) → RowSeen W ps → RowSeen W (behind_modifiers ps)
unfolding behind_modifiers
modifiers_seen W [] h = tt
modifiers_seen W (p ∷ rest) h = either_row W (is_modifier p.entity) (behind_modifiers rest) (p ∷ rest) (modifiers_seen W rest h.1) h

throws_seen : (W : Words) (ps : Parts) → RowSeen W ps → RowSeen W (behind_throws ps)
throws_seen W [] h = tt
throws_seen W (p ∷ rest) h = either_row W (is_throws p.entity) rest (p ∷ rest) h.1 h

brace_seen : (W : Words) (ps : Parts) → RowSeen W ps → RowSeen W (behind_brace ps)
unfolding behind_brace
brace_seen W [] h = tt
brace_seen W (p ∷ rest) h = either_row W (is_leaf kinds.OpenBrace p.entity) rest (behind_brace rest) h.1 (brace_seen W rest h.1)

append_seen : (W : Words) (ps qs : Parts) → RowSeen W ps → RowSeen W qs → RowSeen W (ps ++ qs)
append_seen W [] qs h i = i
append_seen W (p ∷ ps) qs h i = (h.0, append_seen W ps qs h.1 i)

-- ---- members

either_member : (W : Words) (b : Bool) (m n : Member) → MemberCalls W m → MemberCalls W n → MemberCalls W (if b then m else n)
either_member W true m n h i = h
either_member W false m n h i = i

statements_seen : (W : Words) (ps : Parts) → RowSeen W ps → AllCalls W (statements_in ps)
unfolding statements_in
statements_seen W [] h = tt
statements_seen W (p ∷ []) h = tt
statements_seen W (p ∷ q ∷ rest) h = (statement_calls W p.at p.entity h.0, statements_seen W (q ∷ rest) h.1)

behind_own_seen : (W : Words) (ps : Parts) → RowSeen W ps → RowSeen W (behind_own_call ps)
behind_own_seen W [] h = h
behind_own_seen W (p ∷ []) h = h
behind_own_seen W (p ∷ q ∷ []) h = h
behind_own_seen W (p ∷ q ∷ r ∷ rest) h = either_row W (begins_own_call (p ∷ q ∷ r ∷ rest)) rest (p ∷ q ∷ r ∷ rest) h.1.1.1 h

constructor_seen : (W : Words) (h : Header) (ps : Parts) → RowSeen W ps → MemberCalls W (constructor_of h ps)
constructor_seen W h [] i = tt
constructor_seen W h (brace ∷ rest) i = statements_seen W (behind_own_call rest) (behind_own_seen W rest i.1)

method_seen : (W : Words) (h : Header) (result : Option WrittenType) (ps : Parts) → RowSeen W ps → MemberCalls W (syntax.Method h result (body_of ps))
method_seen W h result [] i = tt
method_seen W h result (p ∷ []) i = elim (is_block p.entity) as (λ b. MemberCalls W (syntax.Method h result (if b then Some (block p.at p.entity) else None))) [
  | true ↦ block_calls W p.at p.entity i.0
  | false ↦ tt
]
method_seen W h result (p ∷ q ∷ rest) i = tt

behind_seen : (W : Words) (ms : List Placed) (ps : Parts) → RowSeen W ps → MemberCalls W (member_behind ms ps)
behind_seen W ms [] h = tt
behind_seen W ms (x ∷ []) h = tt
behind_seen W ms (x ∷ y ∷ []) h = tt
behind_seen W ms (x ∷ y ∷ z ∷ rest) h =
    either_member W (is_params y.entity) (constructor_of (header ms x y (z ∷ rest)) (behind_throws (z ∷ rest)))
    (if is_params z.entity then syntax.Method (header ms y z rest) (result_of x) (body_of (behind_throws rest)) else syntax.Fields ms (type_at x) (declarators y.at y.entity))
    (constructor_seen W (header ms x y (z ∷ rest)) (behind_throws (z ∷ rest)) (throws_seen W (z ∷ rest) h.1.1))
    (either_member W (is_params z.entity) (syntax.Method (header ms y z rest) (result_of x) (body_of (behind_throws rest))) (syntax.Fields ms (type_at x) (declarators y.at y.entity))
    (method_seen W (header ms y z rest) (result_of x) (behind_throws rest) (throws_seen W rest h.1.1.1)) tt)

in_seen : (W : Words) (ps : Parts) → RowSeen W ps → MemberCalls W (member_in ps)
in_seen W [] h = behind_seen W (modifiers_of []) (behind_modifiers []) (modifiers_seen W [] h)
in_seen W (x ∷ []) h = behind_seen W (modifiers_of (x ∷ [])) (behind_modifiers (x ∷ [])) (modifiers_seen W (x ∷ []) h)
in_seen W (word ∷ p ∷ []) h =
    either_member W (is_block p.entity) (syntax.Initializer true (block p.at p.entity)) (member_behind (modifiers_of (word ∷ p ∷ [])) (behind_modifiers (word ∷ p ∷ [])))
    (block_calls W p.at p.entity h.1.0) (behind_seen W (modifiers_of (word ∷ p ∷ [])) (behind_modifiers (word ∷ p ∷ [])) (modifiers_seen W (word ∷ p ∷ []) h))
in_seen W (x ∷ y ∷ z ∷ rest) h = behind_seen W (modifiers_of (x ∷ y ∷ z ∷ rest)) (behind_modifiers (x ∷ y ∷ z ∷ rest)) (modifiers_seen W (x ∷ y ∷ z ∷ rest) h)

member_calls : (W : Words) (n : ℕ) (x : Ast) → Seen W n x → MemberCalls W (member_seen n x)
member_calls W n (Leaf o) h = either_member W (is_leaf kinds.Semicolon (Leaf o)) syntax.Member.Nothing syntax.Member.Unknown tt tt
member_calls W n (Node form.Block parts) h = block_calls W n (Node form.Block parts) h
member_calls W n (Node form.Member parts) h = in_seen W (placed n parts) (placed_seen W n parts h.1)
member_calls W n (Node f parts) h = tt

members_calls : (W : Words) (ps : Parts) → RowSeen W ps → MembersCalls W (members_in ps)
unfolding members_in
members_calls W [] h = tt
members_calls W (p ∷ []) h = tt
members_calls W (p ∷ q ∷ rest) h = (member_calls W p.at p.entity h.0, members_calls W (q ∷ rest) h.1)

method_calls : (W : Words) (ps : Parts) → RowSeen W ps → MemberCalls W (method_in ps)
method_calls W [] h = tt
method_calls W (p ∷ rest) h = behind_seen W (modifiers_of (p ∷ rest)) (behind_modifiers (p ∷ rest)) (modifiers_seen W (p ∷ rest) h)

methods_calls : (W : Words) (before ps : Parts) → RowSeen W before → RowSeen W ps → MembersCalls W (methods_in before ps)
unfolding methods_in
methods_calls W before [] g h = tt
methods_calls W before (p ∷ []) g h = tt
methods_calls W before (p ∷ q ∷ rest) g h =
    elim (is_leaf kinds.Semicolon p.entity) as (λ b. MembersCalls W (if b then method_in before ∷ methods_in [] (q ∷ rest) else methods_in (before ++ p ∷ []) (q ∷ rest))) [
      | true ↦ (method_calls W before g, methods_calls W [] (q ∷ rest) tt h.1)
      | false ↦ methods_calls W (before ++ p ∷ []) (q ∷ rest) (append_seen W before (p ∷ []) g (h.0, tt)) h.1
    ]

-- ---- classes

abbrev pub UnitCalls : Words → List Declaration → Type 0
UnitCalls W ds = ClassesCalls W (classes_of ds)

class_calls : (W : Words) (ms : List Placed) (end : ℕ) (ps : Parts) → RowSeen W ps → UnitCalls W (class_behind ms end ps ∷ [])
class_calls W ms end [] h = tt
class_calls W ms end (x ∷ []) h = tt
class_calls W ms end (word ∷ x ∷ rest) h = (members_calls W (behind_brace rest) (brace_seen W rest h.1.1), tt)

interface_calls : (W : Words) (ms : List Placed) (end : ℕ) (ps : Parts) → RowSeen W ps → UnitCalls W (interface_behind ms end ps ∷ [])
interface_calls W ms end [] h = tt
interface_calls W ms end (x ∷ []) h = tt
interface_calls W ms end (word ∷ x ∷ rest) h = (methods_calls W [] (behind_brace rest) tt (brace_seen W rest h.1.1), tt)

declaration_calls : (W : Words) (n : ℕ) (x : Ast) → Seen W n x → UnitCalls W (declaration n x ∷ [])
declaration_calls W n (Leaf o) h = elim (is_leaf kinds.Semicolon (Leaf o)) as (λ b. UnitCalls W ((if b then syntax.Declaration.Nothing else syntax.Declaration.Unknown) ∷ [])) [ true ↦ tt | false ↦ tt ]
declaration_calls W n (Node form.Class parts) h = class_calls W _ _ (behind_modifiers (placed n parts)) (modifiers_seen W (placed n parts) (placed_seen W n parts h.1))
declaration_calls W n (Node form.Interface parts) h = interface_calls W _ _ (behind_modifiers (placed n parts)) (modifiers_seen W (placed n parts) (placed_seen W n parts h.1))
declaration_calls W n (Node f parts) h = tt

both_calls : (W : Words) (d : Declaration) (rest : List Declaration) → UnitCalls W (d ∷ []) → UnitCalls W rest → UnitCalls W (d ∷ rest)
both_calls W (syntax.Declaration.Declared k) rest h i = (h.0, i)
both_calls W syntax.Declaration.Nothing rest h i = i
both_calls W syntax.Declaration.Unknown rest h i = i

declarations_calls : (W : Words) (n : ℕ) (ts : Asts) → AllSeen W n ts → UnitCalls W (declarations n ts)
unfolding declarations
declarations_calls W n tree.none h = tt
declarations_calls W n (tree.more t rest) h = both_calls W (declaration n t) (declarations (n + width t) rest) (declaration_calls W n t h.0) (declarations_calls W (n + width t) rest h.1)

pub unit_calls : (W : Words) (n : ℕ) (t : Ast) → Seen W n t → UnitCalls W (unit n t)
unit_calls W n (Leaf o) h = declaration_calls W n (Leaf o) h
unit_calls W n (Node form.Unit parts) h = declarations_calls W n parts h.1
unit_calls W n (Node f parts) h = declaration_calls W n (Node f parts) h
