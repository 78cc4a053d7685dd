-- The classes of a tree have their words and signs at the tokens that the tree has there.
use Rattle.std.proofs.Common.{ℕ, ◌+◌, Bool, true, false, if◌then◌else◌, List, [], ◌∷◌, ◌++◌}
use Rattle.std.specs.Prelude.{Option, Some, None}
use Rattle.wy_tree.specs.Ast.{Ast, Asts, Leaf, Node}
use Rattle.wy_tree.specs.Ast as tree
use Rattle.wy_tree.specs.declared.kind.Kind.{Kind}
use Rattle.wy_tree.specs.declared.kind.Kind.TheVariants as kinds
use Rattle.wy_tree.specs.declared.tree.Form.TheVariants as form
use Rattle.wy_syntax.specs.Syntax.{WrittenType, Placed, OwnCall, Header, Member, Declaration}
use Rattle.wy_syntax.specs.Syntax as syntax
use Rattle.wy_syntax.specs.Names.{width, is_leaf}
use Rattle.wy_syntax.specs.Expressions.{arguments_of}
use Rattle.wy_syntax.specs.Statements.{block, declarators}
use Rattle.wy_syntax.specs.Declarations.{Parts, placed, is_block, is_params, modifiers_of, behind_modifiers, is_modifier, is_throws, behind_throws, header, result_of, type_at, body_of, statements_in, begins_own_call, own_call_in, behind_own_call, constructor_of, member_behind, member_in, member_seen, members_in, method_in, methods_in, behind_brace, class_behind, interface_behind, declaration, declarations, unit}
use Rattle.wy_members.specs.Declarations.{classes_of}
use Rattle.law_structure.proofs.Apart.{AllWords}
use Rattle.law_structure.proofs.ApartClasses.{OwnSigns, MemberWords, MembersWords, ClassesWords}
use Rattle.law_structure.proofs.Seen.{DecidesAt, Seen, AllSeen, arguments_of_signs}
use Rattle.law_structure.proofs.SeenStatements.{AsksAt, declarators_signs, statement_words, block_words}

abbrev RowSeen : (ℕ → Kind) → Parts → Type 0
RowSeen K [] = Unit {0}
RowSeen K (p ∷ rest) = Seen K p.at p.entity × RowSeen K rest

placed_seen : (K : ℕ → Kind) (n : ℕ) (ts : Asts) → AllSeen K n ts → RowSeen K (placed n ts)
unfolding placed
placed_seen K n tree.none h = tt
placed_seen K n (tree.more t rest) h = (h.0, placed_seen K (n + width t) rest h.1)

either_row : (K : ℕ → Kind) (b : Bool) (ps qs : Parts) → RowSeen K ps → RowSeen K qs → RowSeen K (if b then ps else qs)
either_row K true ps qs h i = h
either_row K false ps qs h i = i

modifiers_seen : (K : ℕ → Kind) (ps : Parts) → RowSeen K ps → RowSeen K (behind_modifiers ps)
unfolding behind_modifiers
modifiers_seen K [] h = tt
modifiers_seen K (p ∷ rest) h = either_row K (is_modifier p.entity) (behind_modifiers rest) (p ∷ rest) (modifiers_seen K rest h.1) h

throws_seen : (K : ℕ → Kind) (ps : Parts) → RowSeen K ps → RowSeen K (behind_throws ps)
throws_seen K [] h = tt
throws_seen K (p ∷ rest) h = either_row K (is_throws p.entity) rest (p ∷ rest) h.1 h

brace_seen : (K : ℕ → Kind) (ps : Parts) → RowSeen K ps → RowSeen K (behind_brace ps)
unfolding behind_brace
brace_seen K [] h = tt
brace_seen K (p ∷ rest) h = either_row K (is_leaf kinds.OpenBrace p.entity) rest (behind_brace rest) h.1 (brace_seen K rest h.1)

append_seen : (K : ℕ → Kind) (ps qs : Parts) → RowSeen K ps → RowSeen K qs → RowSeen K (ps ++ qs)
append_seen K [] qs h i = i
append_seen K (p ∷ ps) qs h i = (h.0, append_seen K ps qs h.1 i)

-- ---- members

abbrev MemberAt : (ℕ → Kind) → Member → Type 0
MemberAt K m = MemberWords (DecidesAt K) (AsksAt K) m

abbrev MembersAt : (ℕ → Kind) → List Member → Type 0
MembersAt K ms = MembersWords (DecidesAt K) (AsksAt K) ms

either_member : (K : ℕ → Kind) (b : Bool) (m n : Member) → MemberAt K m → MemberAt K n → MemberAt K (if b then m else n)
either_member K true m n h i = h
either_member K false m n h i = i

statements_seen : (K : ℕ → Kind) (ps : Parts) → RowSeen K ps → AllWords (DecidesAt K) (AsksAt K) (statements_in ps)
unfolding statements_in
statements_seen K [] h = tt
statements_seen K (p ∷ []) h = tt
statements_seen K (p ∷ q ∷ rest) h = (statement_words K p.at p.entity h.0, statements_seen K (q ∷ rest) h.1)

own_seen : (K : ℕ → Kind) (ps : Parts) → RowSeen K ps → OwnSigns (DecidesAt K) (own_call_in ps)
own_seen K [] h = tt
own_seen K (p ∷ []) h = tt
own_seen K (word ∷ args ∷ rest) h =
    elim (begins_own_call (word ∷ args ∷ rest)) as (λ b. OwnSigns (DecidesAt K) (if b then Some (record { is_super = is_leaf kinds.Super word.entity; args = arguments_of args.at args.entity; paren = args.at; token = word.at }) else None)) [
      | true ↦ arguments_of_signs K args.at args.entity h.1.0
      | false ↦ tt
    ]

behind_own_seen : (K : ℕ → Kind) (ps : Parts) → RowSeen K ps → RowSeen K (behind_own_call ps)
behind_own_seen K [] h = h
behind_own_seen K (p ∷ []) h = h
behind_own_seen K (p ∷ q ∷ []) h = h
behind_own_seen K (p ∷ q ∷ r ∷ rest) h = either_row K (begins_own_call (p ∷ q ∷ r ∷ rest)) rest (p ∷ q ∷ r ∷ rest) h.1.1.1 h

constructor_seen : (K : ℕ → Kind) (h : Header) (ps : Parts) → RowSeen K ps → MemberAt K (constructor_of h ps)
constructor_seen K h [] i = tt
constructor_seen K h (brace ∷ rest) i = (own_seen K rest i.1, statements_seen K (behind_own_call rest) (behind_own_seen K rest i.1))

method_seen : (K : ℕ → Kind) (h : Header) (result : Option WrittenType) (ps : Parts) → RowSeen K ps → MemberAt K (syntax.Method h result (body_of ps))
method_seen K h result [] i = tt
method_seen K h result (p ∷ []) i = elim (is_block p.entity) as (λ b. MemberAt K (syntax.Method h result (if b then Some (block p.at p.entity) else None))) [
  | true ↦ block_words K p.at p.entity i.0
  | false ↦ tt
]
method_seen K h result (p ∷ q ∷ rest) i = tt

behind_seen : (K : ℕ → Kind) (ms : List Placed) (ps : Parts) → RowSeen K ps → MemberAt K (member_behind ms ps)
behind_seen K ms [] h = tt
behind_seen K ms (x ∷ []) h = tt
behind_seen K ms (x ∷ y ∷ []) h = tt
behind_seen K ms (x ∷ y ∷ z ∷ rest) h =
    either_member K (is_params y.entity) (constructor_of (header ms x y (z ∷ rest)) (behind_throws (z ∷ rest)))
    (if is_params z.entity then syntax.Method (header ms y z rest) (result_of x) (body_of (behind_throws rest)) else syntax.Fields ms (type_at x) (declarators y.at y.entity))
    (constructor_seen K (header ms x y (z ∷ rest)) (behind_throws (z ∷ rest)) (throws_seen K (z ∷ rest) h.1.1))
    (either_member K (is_params z.entity) (syntax.Method (header ms y z rest) (result_of x) (body_of (behind_throws rest))) (syntax.Fields ms (type_at x) (declarators y.at y.entity))
    (method_seen K (header ms y z rest) (result_of x) (behind_throws rest) (throws_seen K rest h.1.1.1)) (declarators_signs K y.at y.entity h.1.0))

in_seen : (K : ℕ → Kind) (ps : Parts) → RowSeen K ps → MemberAt K (member_in ps)
in_seen K [] h = behind_seen K (modifiers_of []) (behind_modifiers []) (modifiers_seen K [] h)
in_seen K (x ∷ []) h = behind_seen K (modifiers_of (x ∷ [])) (behind_modifiers (x ∷ [])) (modifiers_seen K (x ∷ []) h)
in_seen K (word ∷ p ∷ []) h =
    either_member K (is_block p.entity) (syntax.Initializer true (block p.at p.entity)) (member_behind (modifiers_of (word ∷ p ∷ [])) (behind_modifiers (word ∷ p ∷ [])))
    (block_words K p.at p.entity h.1.0) (behind_seen K (modifiers_of (word ∷ p ∷ [])) (behind_modifiers (word ∷ p ∷ [])) (modifiers_seen K (word ∷ p ∷ []) h))
in_seen K (x ∷ y ∷ z ∷ rest) h = behind_seen K (modifiers_of (x ∷ y ∷ z ∷ rest)) (behind_modifiers (x ∷ y ∷ z ∷ rest)) (modifiers_seen K (x ∷ y ∷ z ∷ rest) h)

member_words : (K : ℕ → Kind) (n : ℕ) (x : Ast) → Seen K n x → MemberAt K (member_seen n x)
member_words K n (Leaf o) h = either_member K (is_leaf kinds.Semicolon (Leaf o)) syntax.Member.Nothing syntax.Member.Unknown tt tt
member_words K n (Node form.Block parts) h = block_words K n (Node form.Block parts) h
member_words K n (Node form.Member parts) h = in_seen K (placed n parts) (placed_seen K n parts h.1)
member_words K n (Node f parts) h = tt

members_words : (K : ℕ → Kind) (ps : Parts) → RowSeen K ps → MembersAt K (members_in ps)
unfolding members_in
members_words K [] h = tt
members_words K (p ∷ []) h = tt
members_words K (p ∷ q ∷ rest) h = (member_words K p.at p.entity h.0, members_words K (q ∷ rest) h.1)

method_words : (K : ℕ → Kind) (ps : Parts) → RowSeen K ps → MemberAt K (method_in ps)
method_words K [] h = tt
method_words K (p ∷ rest) h = behind_seen K (modifiers_of (p ∷ rest)) (behind_modifiers (p ∷ rest)) (modifiers_seen K (p ∷ rest) h)

methods_words : (K : ℕ → Kind) (before ps : Parts) → RowSeen K before → RowSeen K ps → MembersAt K (methods_in before ps)
unfolding methods_in
methods_words K before [] g h = tt
methods_words K before (p ∷ []) g h = tt
methods_words K before (p ∷ q ∷ rest) g h =
    elim (is_leaf kinds.Semicolon p.entity) as (λ b. MembersAt K (if b then method_in before ∷ methods_in [] (q ∷ rest) else methods_in (before ++ p ∷ []) (q ∷ rest))) [
      | true ↦ (method_words K before g, methods_words K [] (q ∷ rest) tt h.1)
      | false ↦ methods_words K (before ++ p ∷ []) (q ∷ rest) (append_seen K before (p ∷ []) g (h.0, tt)) h.1
    ]

-- ---- classes

abbrev ClassesAt : (ℕ → Kind) → List Declaration → Type 0
ClassesAt K ds = ClassesWords (DecidesAt K) (AsksAt K) (classes_of ds)

class_words : (K : ℕ → Kind) (ms : List Placed) (end : ℕ) (ps : Parts) → RowSeen K ps → ClassesAt K (class_behind ms end ps ∷ [])
class_words K ms end [] h = tt
class_words K ms end (x ∷ []) h = tt
class_words K ms end (word ∷ x ∷ rest) h = (members_words K (behind_brace rest) (brace_seen K rest h.1.1), tt)

interface_words : (K : ℕ → Kind) (ms : List Placed) (end : ℕ) (ps : Parts) → RowSeen K ps → ClassesAt K (interface_behind ms end ps ∷ [])
interface_words K ms end [] h = tt
interface_words K ms end (x ∷ []) h = tt
interface_words K ms end (word ∷ x ∷ rest) h = (methods_words K [] (behind_brace rest) tt (brace_seen K rest h.1.1), tt)

declaration_words : (K : ℕ → Kind) (n : ℕ) (x : Ast) → Seen K n x → ClassesAt K (declaration n x ∷ [])
declaration_words K n (Leaf o) h = elim (is_leaf kinds.Semicolon (Leaf o)) as (λ b. ClassesAt K ((if b then syntax.Declaration.Nothing else syntax.Declaration.Unknown) ∷ [])) [ true ↦ tt | false ↦ tt ]
declaration_words K n (Node form.Class parts) h = class_words K _ _ (behind_modifiers (placed n parts)) (modifiers_seen K (placed n parts) (placed_seen K n parts h.1))
declaration_words K n (Node form.Interface parts) h = interface_words K _ _ (behind_modifiers (placed n parts)) (modifiers_seen K (placed n parts) (placed_seen K n parts h.1))
declaration_words K n (Node f parts) h = tt

both_words : (K : ℕ → Kind) (d : Declaration) (rest : List Declaration) → ClassesAt K (d ∷ []) → ClassesAt K rest → ClassesAt K (d ∷ rest)
both_words K (syntax.Declaration.Declared k) rest h i = (h.0, i)
both_words K syntax.Declaration.Nothing rest h i = i
both_words K syntax.Declaration.Unknown rest h i = i

declarations_words : (K : ℕ → Kind) (n : ℕ) (ts : Asts) → AllSeen K n ts → ClassesAt K (declarations n ts)
unfolding declarations
declarations_words K n tree.none h = tt
declarations_words K n (tree.more t rest) h = both_words K (declaration n t) (declarations (n + width t) rest) (declaration_words K n t h.0) (declarations_words K (n + width t) rest h.1)

pub unit_words : (K : ℕ → Kind) (n : ℕ) (t : Ast) → Seen K n t → ClassesAt K (unit n t)
unit_words K n (Leaf o) h = declaration_words K n (Leaf o) h
unit_words K n (Node form.Unit parts) h = declarations_words K n parts h.1
unit_words K n (Node f parts) h = declaration_words K n (Node f parts) h
