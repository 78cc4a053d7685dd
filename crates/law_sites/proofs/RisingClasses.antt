-- The signs `&&`, `||` and `?` of a text stand at the tokens of its tree, one after another: no two at one token.
use Rattle.std.proofs.Common.{◌≡◌, refl, sym, subst, arith, ℕ, ◌+◌, ◌≤◌, Bool, true, false, if◌then◌else◌, List, [], ◌∷◌, ◌++◌}
use Rattle.std.specs.Prelude.{Option, Some, None}
use Rattle.std.proofs.lemmas.Bool.{and_parts}
use Rattle.std.proofs.lemmas.List.{append-nil}
use Rattle.wy_tree.specs.Ast.{Ast, Asts, Leaf, Node}
use Rattle.wy_tree.specs.Ast as tree
use Rattle.wy_tree.specs.Conditions.{leaf_kind}
use Rattle.wy_tree.specs.Grammar.{is_own}
use Rattle.wy_tree.specs.declared.kind.Kind.TheVariants as kinds
use Rattle.wy_tree.specs.declared.tree.Form.TheVariants as form
use Rattle.wy_syntax.specs.Syntax.{WrittenType, Placed, Header, Member, Declaration}
use Rattle.wy_syntax.specs.Syntax as syntax
use Rattle.wy_syntax.specs.Names.{width, widths, is_leaf}
use Rattle.wy_syntax.specs.Expressions.{arguments_of}
use Rattle.wy_syntax.specs.Statements.{block, declarators, statement}
use Rattle.wy_syntax.specs.Declarations.{Part, Parts, placed, is_block, is_params, modifiers_of, behind_modifiers, behind_throws, header, result_of, type_at, body_of, statements_in, is_arguments, begins_own_call, own_call_in, behind_own_call, constructor_of, member_behind, member_in, member_seen, members_in, method_in, methods_in, behind_brace, class_behind, interface_behind, declaration, declarations, unit}
use Rattle.wy_members.specs.Declarations.{classes_of}
use Rattle.law_structure.proofs.Trees.{Full, AllFull, parts_full}
use Rattle.law_structure.proofs.Productions.{UnitFull}
use Rattle.law_structure.proofs.ClassTrees.{Row, row_rises, row_wider, row_behind, row_with, placed_row, modifiers_row, throws_row, brace_row}
use Rattle.law_sites.proofs.FewExpressions.{row_signs}
use Rattle.law_sites.proofs.FewStatements.{signs_in, signs_in_all}
use Rattle.law_sites.proofs.FewClasses.{own_signs, member_signs, members_signs, classes_signs}
use Rattle.law_sites.proofs.Rising.{Rising, bounded, rise_none, rise_wider, rise_both}
use Rattle.law_sites.proofs.RisingExpressions.{arguments_of_rises}
use Rattle.law_sites.proofs.RisingStatements.{leaf_none, declarators_rise, statement_rises, block_rises}

-- ---- members

abbrev MemberSigns : ℕ → Member → ℕ → Type 0
MemberSigns low m high = Rising low (member_signs m) high

either_member : (low high : ℕ) (b : Bool) (m n : Member) → MemberSigns low m high → MemberSigns low n high → MemberSigns low (if b then m else n) high
either_member low high true m n h i = h
either_member low high false m n h i = i

statements_rise : (low : ℕ) (ps : Parts) (high : ℕ) → Row low ps high → Rising low (signs_in_all (statements_in ps)) high
unfolding statements_in
statements_rise low [] high r = rise_none r
statements_rise low (p ∷ []) high r = rise_none (row_rises low (p ∷ []) high r)
statements_rise low (p ∷ q ∷ rest) high r =
    let here : low ≤ p.at = r.0 in
    rise_both {middle = p.at + width p.entity} (rise_wider (omega arith) (omega arith) (statement_rises p.at p.entity r.1)) (statements_rise (p.at + width p.entity) (q ∷ rest) high r.2)

own_nothing : (n : ℕ) (t : Ast) → is_own (leaf_kind t) ≡ true → signs_in (statement n t) ≡ []
own_nothing n (Leaf o) e = leaf_none n o
own_nothing n (Node g parts) e = absurd cc

own_choice : (low high : ℕ) (b : Bool) (call : syntax.OwnCall) (xs : List ℕ) → (b ≡ true → Rising low (row_signs call.args ++ xs) high) → Rising low xs high → Rising low (own_signs (if b then Some call else None) ++ xs) high
own_choice low high true call xs h i = h refl
own_choice low high false call xs h i = i

-- `this` or `super` alone is no statement
lone_call : (low : ℕ) (p q : Part) (high : ℕ) → Row low (p ∷ q ∷ []) high → begins_own_call (p ∷ q ∷ []) ≡ true → Rising low (row_signs (arguments_of q.at q.entity) ++ signs_in_all (statements_in (p ∷ q ∷ []))) high
unfolding statements_in
lone_call low p q high r e =
    let first : low ≤ p.at = r.0 in
    let second : p.at + width p.entity ≤ q.at = r.2.0 in
    let last : q.at + width q.entity ≤ high = r.2.2 in
    let args : Rising q.at (row_signs (arguments_of q.at q.entity)) (q.at + width q.entity) = arguments_of_rises q.at q.entity r.2.1 in
    let P : List ℕ → Type 0 = λ xs. Rising low (row_signs (arguments_of q.at q.entity) ++ (xs ++ [])) high in
    subst P (sym (own_nothing p.at p.entity (and_parts (is_own (leaf_kind p.entity)) (is_arguments q.entity) e).0))
    (rise_both (rise_wider (omega arith) (omega arith) args) (rise_none last))

own_rises : (low : ℕ) (ps : Parts) (high : ℕ) → Row low ps high → Rising low (own_signs (own_call_in ps) ++ signs_in_all (statements_in (behind_own_call ps))) high
own_rises low [] high r = statements_rise low [] high r
own_rises low (p ∷ []) high r = statements_rise low (p ∷ []) high r
own_rises low (p ∷ q ∷ []) high r =
    own_choice low high (begins_own_call (p ∷ q ∷ [])) _ (signs_in_all (statements_in (p ∷ q ∷ []))) (lone_call low p q high r) (statements_rise low (p ∷ q ∷ []) high r)
own_rises low (p ∷ q ∷ x ∷ rest) high r =
    let first : low ≤ p.at = r.0 in
    let second : p.at + width p.entity ≤ q.at = r.2.0 in
    let third : q.at + width q.entity ≤ x.at = r.2.2.0 in
    elim (begins_own_call (p ∷ q ∷ x ∷ rest)) as (λ b. Rising low (own_signs (if b then Some (record { is_super = is_leaf kinds.Super p.entity; args = arguments_of q.at q.entity; paren = q.at; token = p.at }) else None) ++ signs_in_all (statements_in (if b then rest else p ∷ q ∷ x ∷ rest))) high) [
      | true ↦ rise_both {middle = q.at + width q.entity} (rise_wider (omega arith) (omega arith) (arguments_of_rises q.at q.entity r.2.1))
          (statements_rise (q.at + width q.entity) rest high (row_wider (q.at + width q.entity) (x.at + width x.entity) rest high (omega arith) r.2.2.2))
      | false ↦ statements_rise low (p ∷ q ∷ x ∷ rest) high r
    ]

constructor_rises : (h : Header) (low : ℕ) (ps : Parts) (high : ℕ) → Row low ps high → MemberSigns low (constructor_of h ps) high
constructor_rises h low [] high r = rise_none r
constructor_rises h low (brace ∷ rest) high r = own_rises low rest high (row_behind low brace rest high r)

method_rises : (h : Header) (result : Option WrittenType) (low : ℕ) (ps : Parts) (high : ℕ) → Row low ps high → MemberSigns low (syntax.Method h result (body_of ps)) high
method_rises h result low [] high r = rise_none r
method_rises h result low (p ∷ []) high r =
    let here : low ≤ p.at = r.0 in
    let there : p.at + width p.entity ≤ high = r.2 in
    elim (is_block p.entity) as (λ b. MemberSigns low (syntax.Method h result (if b then Some (block p.at p.entity) else None)) high) [
      | true ↦ rise_wider (omega arith) (omega arith) (block_rises p.at p.entity r.1)
      | false ↦ rise_none (omega arith)
    ]
method_rises h result low (p ∷ q ∷ rest) high r = rise_none (row_rises low (p ∷ q ∷ rest) high r)

behind_rises : (ms : List Placed) (low : ℕ) (ps : Parts) (high : ℕ) → Row low ps high → MemberSigns low (member_behind ms ps) high
behind_rises ms low [] high r = rise_none r
behind_rises ms low (x ∷ []) high r = rise_none (row_rises low (x ∷ []) high r)
behind_rises ms low (x ∷ y ∷ []) high r = rise_none (row_rises low (x ∷ y ∷ []) high r)
behind_rises ms low (x ∷ y ∷ z ∷ rest) high r =
    let first : low ≤ x.at = r.0 in
    let second : x.at + width x.entity ≤ y.at = r.2.0 in
    let there : y.at + width y.entity ≤ high = row_rises (y.at + width y.entity) (z ∷ rest) high r.2.2 in
    let behind_y : Row low (z ∷ rest) high = row_wider low (y.at + width y.entity) (z ∷ rest) high (omega arith) r.2.2 in
    either_member low high (is_params y.entity) (constructor_of (header ms x y (z ∷ rest)) (behind_throws (z ∷ rest)))
    (if is_params z.entity then syntax.Method (header ms y z rest) (result_of x) (body_of (behind_throws rest)) else syntax.Fields ms (type_at x) (declarators y.at y.entity))
    (constructor_rises (header ms x y (z ∷ rest)) low (behind_throws (z ∷ rest)) high (throws_row low (z ∷ rest) high behind_y))
    (either_member low high (is_params z.entity) (syntax.Method (header ms y z rest) (result_of x) (body_of (behind_throws rest))) (syntax.Fields ms (type_at x) (declarators y.at y.entity))
    (method_rises (header ms y z rest) (result_of x) low (behind_throws rest) high (throws_row low rest high (row_behind low z rest high behind_y)))
    (rise_wider (omega arith) (omega arith) (declarators_rise y.at y.entity r.2.1)))

in_rises : (low : ℕ) (ps : Parts) (high : ℕ) → Row low ps high → MemberSigns low (member_in ps) high
in_rises low [] high r = behind_rises (modifiers_of []) low (behind_modifiers []) high (modifiers_row low [] high r)
in_rises low (x ∷ []) high r = behind_rises (modifiers_of (x ∷ [])) low (behind_modifiers (x ∷ [])) high (modifiers_row low (x ∷ []) high r)
in_rises low (word ∷ p ∷ []) high r =
    let first : low ≤ word.at = r.0 in
    let second : word.at + width word.entity ≤ p.at = r.2.0 in
    let there : p.at + width p.entity ≤ high = r.2.2 in
    either_member low high (is_block p.entity) (syntax.Initializer true (block p.at p.entity)) (member_behind (modifiers_of (word ∷ p ∷ [])) (behind_modifiers (word ∷ p ∷ [])))
    (rise_wider (omega arith) (omega arith) (block_rises p.at p.entity r.2.1))
    (behind_rises (modifiers_of (word ∷ p ∷ [])) low (behind_modifiers (word ∷ p ∷ [])) high (modifiers_row low (word ∷ p ∷ []) high r))
in_rises low (x ∷ y ∷ z ∷ rest) high r = behind_rises (modifiers_of (x ∷ y ∷ z ∷ rest)) low (behind_modifiers (x ∷ y ∷ z ∷ rest)) high (modifiers_row low (x ∷ y ∷ z ∷ rest) high r)

member_rises : (n : ℕ) (t : Ast) → Full t → MemberSigns n (member_seen n t) (n + width t)
member_rises n (Leaf o) f = either_member n (n + 1) (is_leaf kinds.Semicolon (Leaf o)) syntax.Member.Nothing syntax.Member.Unknown (rise_none (omega arith)) (rise_none (omega arith))
member_rises n (Node form.Block parts) f = block_rises n (Node form.Block parts) f
member_rises n (Node form.Member parts) f = in_rises n (placed n parts) (n + widths parts) (placed_row n parts (parts_full parts f))
member_rises n (Node g parts) f = rise_none (omega arith)

members_rise : (low : ℕ) (ps : Parts) (high : ℕ) → Row low ps high → Rising low (members_signs (members_in ps)) high
unfolding members_in
members_rise low [] high r = rise_none r
members_rise low (p ∷ []) high r = rise_none (row_rises low (p ∷ []) high r)
members_rise low (p ∷ q ∷ rest) high r =
    let here : low ≤ p.at = r.0 in
    rise_both {middle = p.at + width p.entity} (rise_wider (omega arith) (omega arith) (member_rises p.at p.entity r.1)) (members_rise (p.at + width p.entity) (q ∷ rest) high r.2)

-- ---- the methods of an interface

method_in_rises : (low : ℕ) (ps : Parts) (high : ℕ) → Row low ps high → MemberSigns low (method_in ps) high
method_in_rises low [] high r = rise_none r
method_in_rises low (p ∷ rest) high r = behind_rises (modifiers_of (p ∷ rest)) low (behind_modifiers (p ∷ rest)) high (modifiers_row low (p ∷ rest) high r)

methods_rise : (low : ℕ) (before : Parts) (middle : ℕ) (ps : Parts) (high : ℕ) → Row low before middle → Row middle ps high → Rising low (members_signs (methods_in before ps)) high
unfolding methods_in
methods_rise low before middle [] high r s = let here : low ≤ middle = row_rises low before middle r in let there : middle ≤ high = s in rise_none (omega arith)
methods_rise low before middle (p ∷ []) high r s = let here : low ≤ middle = row_rises low before middle r in let there : middle ≤ high = row_rises middle (p ∷ []) high s in rise_none (omega arith)
methods_rise low before middle (p ∷ q ∷ rest) high r s =
    elim (is_leaf kinds.Semicolon p.entity) as (λ b. Rising low (members_signs (if b then method_in before ∷ methods_in [] (q ∷ rest) else methods_in (before ++ p ∷ []) (q ∷ rest))) high) [
      | true ↦ rise_both (method_in_rises low before middle r) (methods_rise middle [] middle (q ∷ rest) high (omega arith) (row_behind middle p (q ∷ rest) high s))
      | false ↦ methods_rise low (before ++ p ∷ []) (p.at + width p.entity) (q ∷ rest) high (row_with low before middle p r s.0 s.1) s.2
    ]

-- ---- classes

abbrev ClassesSigns : ℕ → List Declaration → ℕ → Type 0
ClassesSigns low ds high = Rising low (classes_signs (classes_of ds)) high

nothing_behind : (low high : ℕ) (xs : List ℕ) → Rising low xs high → Rising low (xs ++ []) high
nothing_behind low high xs h = let P : List ℕ → Type 0 = λ ys. Rising low ys high in subst P (sym (append-nil xs)) h

class_rises : (ms : List Placed) (end low : ℕ) (ps : Parts) (high : ℕ) → Row low ps high → ClassesSigns low (class_behind ms end ps ∷ []) high
class_rises ms end low [] high r = rise_none r
class_rises ms end low (x ∷ []) high r = rise_none (row_rises low (x ∷ []) high r)
class_rises ms end low (word ∷ x ∷ rest) high r =
    nothing_behind low high (members_signs (members_in (behind_brace rest)))
    (members_rise low (behind_brace rest) high (brace_row low rest high (row_behind low x rest high (row_behind low word (x ∷ rest) high r))))

interface_rises : (ms : List Placed) (end low : ℕ) (ps : Parts) (high : ℕ) → Row low ps high → ClassesSigns low (interface_behind ms end ps ∷ []) high
interface_rises ms end low [] high r = rise_none r
interface_rises ms end low (x ∷ []) high r = rise_none (row_rises low (x ∷ []) high r)
interface_rises ms end low (word ∷ x ∷ rest) high r =
    nothing_behind low high (members_signs (methods_in [] (behind_brace rest)))
    (methods_rise low [] low (behind_brace rest) high (omega arith) (brace_row low rest high (row_behind low x rest high (row_behind low word (x ∷ rest) high r))))

declaration_rises : (n : ℕ) (t : Ast) → Full t → ClassesSigns n (declaration n t ∷ []) (n + width t)
declaration_rises n (Leaf o) f = elim (is_leaf kinds.Semicolon (Leaf o)) as (λ b. ClassesSigns n ((if b then syntax.Declaration.Nothing else syntax.Declaration.Unknown) ∷ []) (n + 1)) [
  | true ↦ rise_none (omega arith)
  | false ↦ rise_none (omega arith)
]
declaration_rises n (Node form.Class parts) f = class_rises _ _ n (behind_modifiers (placed n parts)) (n + widths parts) (modifiers_row n (placed n parts) (n + widths parts) (placed_row n parts (parts_full parts f)))
declaration_rises n (Node form.Interface parts) f = interface_rises _ _ n (behind_modifiers (placed n parts)) (n + widths parts) (modifiers_row n (placed n parts) (n + widths parts) (placed_row n parts (parts_full parts f)))
declaration_rises n (Node g parts) f = rise_none (omega arith)

both_rise : (d : Declaration) (rest : List Declaration) (low middle high : ℕ) → ClassesSigns low (d ∷ []) middle → ClassesSigns middle rest high → ClassesSigns low (d ∷ rest) high
both_rise (syntax.Declaration.Declared k) rest low middle high h i =
    let P : List ℕ → Type 0 = λ xs. Rising low xs middle in
    let own : Rising low (members_signs k.members) middle = subst P (append-nil (members_signs k.members)) h in
    rise_both own i
both_rise syntax.Declaration.Nothing rest low middle high h i = rise_wider (bounded h) (omega arith) i
both_rise syntax.Declaration.Unknown rest low middle high h i = rise_wider (bounded h) (omega arith) i

declarations_rise : (n : ℕ) (ts : Asts) → AllFull ts → ClassesSigns n (declarations n ts) (n + widths ts)
unfolding declarations
declarations_rise n tree.none f = rise_none (omega arith)
declarations_rise n (tree.more t rest) f =
    both_rise (declaration n t) (declarations (n + width t) rest) n (n + width t) (n + (width t + widths rest)) (declaration_rises n t f.0)
    (rise_wider (omega arith) (omega arith) (declarations_rise (n + width t) rest f.1))

pub unit_rises : (n : ℕ) (t : Ast) → UnitFull t → ClassesSigns n (unit n t) (n + width t)
unit_rises n (Leaf o) f = declaration_rises n (Leaf o) tt
unit_rises n (Node form.Unit parts) f = declarations_rise n parts f
unit_rises n (Node g parts) f = declaration_rises n (Node g parts) f
