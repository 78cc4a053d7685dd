-- The declarations of a tree take no more tokens than it has.
use Rattle.std.proofs.Common.{arith, ℕ, ◌+◌, ◌≤◌, ◌<◌, Bool, true, false, if◌then◌else◌, List, [], ◌∷◌, ◌++◌, length}
use Rattle.std.specs.Prelude.{filter_map}
use Rattle.wy_tree.specs.Ast.{Ast, Asts, Leaf, Node}
use Rattle.wy_tree.specs.Ast as tree
use Rattle.wy_tree.specs.declared.kind.Kind.TheVariants as kinds
use Rattle.wy_tree.specs.declared.tree.Form.TheVariants as form
use Rattle.wy_syntax.specs.Syntax.{Placed, Header, Member, Declaration}
use Rattle.wy_syntax.specs.Syntax as syntax
use Rattle.wy_syntax.specs.Names.{width, widths, is_leaf}
use Rattle.wy_syntax.specs.Statements.{block, declarator_list, declarators}
use Rattle.wy_syntax.specs.Declarations.{Parts, placed, is_block, is_params, modifiers_of, behind_modifiers, behind_throws, header, result_of, type_at, body_of, constructor_of, member_behind, member_in, member_seen, members_in, method_in, methods_in, behind_brace, class_behind, interface_behind, declaration, declarations, unit}
use Rattle.wy_members.specs.Declarations.{class_in, classes_of}
use Rattle.law_structure.proofs.Trees.{Full, AllFull, parts_full, wide}
use Rattle.law_structure.proofs.Productions.{UnitFull}
use Rattle.law_structure.proofs.ClassTrees.{Row, row_rises, row_with, row_longer, placed_row, modifiers_row, brace_row}
use Rattle.law_program_parts.proofs.Weights.{member_weight, members_weight, classes_weight}

-- ---- declarators

declarator_list_few : (n : ℕ) (parts : Asts) → AllFull parts → length (declarator_list n parts) ≤ widths parts
unfolding declarator_list
declarator_list_few n tree.none f = omega arith
declarator_list_few n (tree.more d tree.none) f = let here : 1 ≤ width d = wide d f.0 in omega arith
declarator_list_few n (tree.more d (tree.more comma rest)) f =
    let here : 1 ≤ width d = wide d f.0 in
    let more = declarator_list_few (n + width d + width comma) rest f.1.1 in omega (arith, more)

declarators_few : (n : ℕ) (t : Ast) → Full t → length (declarators n t) ≤ width t
unfolding declarators
declarators_few n (Leaf o) f = omega arith
declarators_few n (Node form.Decls parts) f = declarator_list_few n parts (parts_full parts f)
declarators_few n (Node g parts) f = let here : 1 ≤ width (Node g parts) = wide (Node g parts) f in omega arith

-- ---- members

-- a member takes no more tokens than these
abbrev MemberFits : ℕ → ℕ → Member → Type 0
MemberFits low high m = low + member_weight m ≤ high

one_of : (low high : ℕ) (b : Bool) (m n : Member) → MemberFits low high m → MemberFits low high n → MemberFits low high (if b then m else n)
one_of low high true m n h i = h
one_of low high false m n h i = i

constructor_fits : (low high : ℕ) (h : Header) (ps : Parts) → low < high → MemberFits low high (constructor_of h ps)
constructor_fits low high h [] less = omega arith
constructor_fits low high h (brace ∷ rest) less = omega arith

behind_fits : (ms : List Placed) (low : ℕ) (ps : Parts) (high : ℕ) → low < high → Row low ps high → MemberFits low high (member_behind ms ps)
behind_fits ms low [] high less r = omega arith
behind_fits ms low (x ∷ []) high less r = omega arith
behind_fits ms low (x ∷ y ∷ []) high less r = omega arith
behind_fits ms low (x ∷ y ∷ z ∷ rest) high less r =
    let first : low ≤ x.at = r.0 in
    let some : 1 ≤ width x.entity = wide x.entity r.1 in
    let second : x.at + width x.entity ≤ y.at = r.2.0 in
    let there : y.at + width y.entity ≤ high = row_rises (y.at + width y.entity) (z ∷ rest) high r.2.2 in
    let few = declarators_few y.at y.entity r.2.1 in
    one_of low high (is_params y.entity) (constructor_of (header ms x y (z ∷ rest)) (behind_throws (z ∷ rest)))
    (if is_params z.entity then syntax.Method (header ms y z rest) (result_of x) (body_of (behind_throws rest)) else syntax.Fields ms (type_at x) (declarators y.at y.entity))
    (constructor_fits low high (header ms x y (z ∷ rest)) (behind_throws (z ∷ rest)) less)
    (one_of low high (is_params z.entity) (syntax.Method (header ms y z rest) (result_of x) (body_of (behind_throws rest))) (syntax.Fields ms (type_at x) (declarators y.at y.entity)) (omega arith) (omega (arith, few)))

in_fits : (low : ℕ) (ps : Parts) (high : ℕ) → low < high → Row low ps high → MemberFits low high (member_in ps)
in_fits low [] high less r = behind_fits (modifiers_of []) low (behind_modifiers []) high less (modifiers_row low [] high r)
in_fits low (x ∷ []) high less r = behind_fits (modifiers_of (x ∷ [])) low (behind_modifiers (x ∷ [])) high less (modifiers_row low (x ∷ []) high r)
in_fits low (word ∷ p ∷ []) high less r =
    one_of low high (is_block p.entity) (syntax.Initializer true (block p.at p.entity)) (member_behind (modifiers_of (word ∷ p ∷ [])) (behind_modifiers (word ∷ p ∷ []))) (omega arith)
    (behind_fits (modifiers_of (word ∷ p ∷ [])) low (behind_modifiers (word ∷ p ∷ [])) high less (modifiers_row low (word ∷ p ∷ []) high r))
in_fits low (x ∷ y ∷ z ∷ rest) high less r = behind_fits (modifiers_of (x ∷ y ∷ z ∷ rest)) low (behind_modifiers (x ∷ y ∷ z ∷ rest)) high less (modifiers_row low (x ∷ y ∷ z ∷ rest) high r)

member_fits : (n : ℕ) (x : Ast) → Full x → MemberFits n (n + width x) (member_seen n x)
member_fits n (Leaf o) f = one_of n (n + 1) (is_leaf kinds.Semicolon (Leaf o)) syntax.Member.Nothing syntax.Member.Unknown (omega arith) (omega arith)
member_fits n (Node form.Block parts) f = let here : 1 ≤ width (Node form.Block parts) = wide (Node form.Block parts) f in omega arith
member_fits n (Node form.Member parts) f = let here : 1 ≤ width (Node form.Member parts) = wide (Node form.Member parts) f in in_fits n (placed n parts) (n + widths parts) (omega arith) (placed_row n parts (parts_full parts f))
member_fits n (Node g parts) f = let here : 1 ≤ width (Node g parts) = wide (Node g parts) f in omega arith

members_fit : (low : ℕ) (ps : Parts) (high : ℕ) → Row low ps high → low + members_weight (members_in ps) ≤ high
unfolding members_in
members_fit low [] high r = let there : low ≤ high = r in omega arith
members_fit low (p ∷ []) high r = let there = row_rises low (p ∷ []) high r in omega (arith, there)
members_fit low (p ∷ q ∷ rest) high r =
    let here : low ≤ p.at = r.0 in
    let one : p.at + member_weight (member_seen p.at p.entity) ≤ p.at + width p.entity = member_fits p.at p.entity r.1 in
    let more = members_fit (p.at + width p.entity) (q ∷ rest) high r.2 in omega (arith, more)

-- ---- methods of interfaces

method_fits : (low : ℕ) (ps : Parts) (high : ℕ) → low < high → Row low ps high → MemberFits low high (method_in ps)
method_fits low [] high less r = omega arith
method_fits low (p ∷ rest) high less r = behind_fits (modifiers_of (p ∷ rest)) low (behind_modifiers (p ∷ rest)) high less (modifiers_row low (p ∷ rest) high r)

methods_fit : (low middle high : ℕ) (before ps : Parts) → Row low before middle → Row middle ps high → low + members_weight (methods_in before ps) ≤ high
unfolding methods_in
methods_fit low middle high before [] b r = let here = row_rises low before middle b in let there : middle ≤ high = r in omega (arith, here)
methods_fit low middle high before (p ∷ []) b r = let here = row_rises low before middle b in let there = row_rises middle (p ∷ []) high r in omega (arith, here, there)
methods_fit low middle high before (p ∷ q ∷ rest) b r =
    let here : middle ≤ p.at = r.0 in
    let some : 1 ≤ width p.entity = wide p.entity r.1 in
    let front : low ≤ middle = row_rises low before middle b in
    let last = p.at + width p.entity in
    elim (is_leaf kinds.Semicolon p.entity) as (λ b. low + members_weight (if b then method_in before ∷ methods_in [] (q ∷ rest) else methods_in (before ++ p ∷ []) (q ∷ rest)) ≤ high) [
      | true ↦
          let one : low + member_weight (method_in before) ≤ p.at + width p.entity = method_fits low before last (omega arith) (row_longer low before middle last (omega arith) b) in
          let more : (p.at + width p.entity) + members_weight (methods_in [] (q ∷ rest)) ≤ high = methods_fit last last high [] (q ∷ rest) (omega arith) r.2 in omega arith
      | false ↦ methods_fit low last high (before ++ p ∷ []) (q ∷ rest) (row_with low before middle p b here r.1) r.2
    ]

-- ---- classes

-- the class that a declaration is takes no more tokens than these
abbrev DeclarationFits : ℕ → ℕ → Declaration → Type 0
DeclarationFits low high d = low + classes_weight (filter_map class_in (d ∷ [])) ≤ high

class_fits : (ms : List Placed) (end low : ℕ) (ps : Parts) (high : ℕ) → Row low ps high → DeclarationFits low high (class_behind ms end ps)
class_fits ms end low [] high r = let there : low ≤ high = r in omega arith
class_fits ms end low (x ∷ []) high r = let there = row_rises low (x ∷ []) high r in omega (arith, there)
class_fits ms end low (word ∷ x ∷ rest) high r =
    let first : low ≤ word.at = r.0 in
    let some : 1 ≤ width word.entity = wide word.entity r.1 in
    let second : word.at + width word.entity ≤ x.at = r.2.0 in
    let other : 1 ≤ width x.entity = wide x.entity r.2.1 in
    let members = members_fit (x.at + width x.entity) (behind_brace rest) high (brace_row (x.at + width x.entity) rest high r.2.2) in omega (arith, members)

interface_fits : (ms : List Placed) (end low : ℕ) (ps : Parts) (high : ℕ) → Row low ps high → DeclarationFits low high (interface_behind ms end ps)
interface_fits ms end low [] high r = let there : low ≤ high = r in omega arith
interface_fits ms end low (x ∷ []) high r = let there = row_rises low (x ∷ []) high r in omega (arith, there)
interface_fits ms end low (word ∷ x ∷ rest) high r =
    let first : low ≤ word.at = r.0 in
    let some : 1 ≤ width word.entity = wide word.entity r.1 in
    let second : word.at + width word.entity ≤ x.at = r.2.0 in
    let other : 1 ≤ width x.entity = wide x.entity r.2.1 in
    let behind = x.at + width x.entity in
    let members = methods_fit behind behind high [] (behind_brace rest) (omega arith) (brace_row behind rest high r.2.2) in omega (arith, members)

declaration_fits : (n : ℕ) (x : Ast) → Full x → DeclarationFits n (n + width x) (declaration n x)
declaration_fits n (Leaf o) f = elim (is_leaf kinds.Semicolon (Leaf o)) as (λ b. DeclarationFits n (n + 1) (if b then syntax.Declaration.Nothing else syntax.Declaration.Unknown)) [
  | true ↦ omega arith
  | false ↦ omega arith
]
declaration_fits n (Node form.Class parts) f = class_fits _ _ n (behind_modifiers (placed n parts)) (n + widths parts) (modifiers_row n (placed n parts) (n + widths parts) (placed_row n parts (parts_full parts f)))
declaration_fits n (Node form.Interface parts) f = interface_fits _ _ n (behind_modifiers (placed n parts)) (n + widths parts) (modifiers_row n (placed n parts) (n + widths parts) (placed_row n parts (parts_full parts f)))
declaration_fits n (Node g parts) f = omega arith

-- ---- a whole text

one_more : (d : Declaration) (rest : List Declaration) → classes_weight (classes_of (d ∷ rest)) ≤ classes_weight (filter_map class_in (d ∷ [])) + classes_weight (classes_of rest)
one_more (syntax.Declaration.Declared k) rest = omega arith
one_more syntax.Declaration.Nothing rest = omega arith
one_more syntax.Declaration.Unknown rest = omega arith

declarations_fit : (n : ℕ) (parts : Asts) → AllFull parts → classes_weight (classes_of (declarations n parts)) ≤ widths parts
unfolding declarations
declarations_fit n tree.none f = omega arith
declarations_fit n (tree.more x rest) f =
    let one = declaration_fits n x f.0 in
    let more = declarations_fit (n + width x) rest f.1 in
    let both = one_more (declaration n x) (declarations (n + width x) rest) in omega (arith, one, more, both)

pub unit_fits : (n : ℕ) (x : Ast) → UnitFull x → classes_weight (classes_of (unit n x)) ≤ width x
unit_fits n (Leaf o) f = let one = declaration_fits n (Leaf o) tt in omega (arith, one)
unit_fits n (Node form.Unit parts) f = declarations_fit n parts f
unit_fits n (Node g parts) f = let one = declaration_fits n (Node g parts) f in omega (arith, one)
