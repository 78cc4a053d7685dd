-- The names of the classes of a tree, and of their methods and constructors, stand at tokens that rise in the order of the text.
use Rattle.std.proofs.Common.{sym, subst, arith, ℕ, ◌+◌, ◌≤◌, Bool, true, false, if◌then◌else◌, List, [], ◌∷◌, ◌++◌}
use Rattle.std.specs.Prelude.{flat_map, filter_map}
use Rattle.std.proofs.lemmas.List.{append-nil}
use Rattle.wy_tree.specs.Ast.{Ast, Asts, Leaf, Node}
use Rattle.wy_tree.specs.Ast as tree
use Rattle.wy_tree.specs.declared.kind.Kind.TheVariants as kinds
use Rattle.wy_tree.specs.declared.tree.Form.TheVariants as form
use Rattle.wy_syntax.specs.Syntax.{Placed, Header, Member, ClassSyntax, Declaration}
use Rattle.wy_syntax.specs.Syntax as syntax
use Rattle.wy_syntax.specs.Names.{width, widths, is_leaf}
use Rattle.wy_syntax.specs.Statements.{block, declarators}
use Rattle.wy_syntax.specs.Declarations.{Parts, placed, is_block, is_params, modifiers_of, behind_modifiers, behind_throws, header, result_of, type_at, body_of, constructor_of, member_behind, member_in, member_seen, members_in, method_in, methods_in, behind_brace, class_behind, interface_behind, declaration, declarations, unit}
use Rattle.wy_members.specs.Declarations.{class_in, classes_of}
use Rattle.law_structure.proofs.Trees.{Full, AllFull, parts_full, wide}
use Rattle.law_structure.proofs.Productions.{UnitFull}
use Rattle.law_structure.proofs.ClassTrees.{Row, row_rises, row_wider, row_with, placed_row, modifiers_row, brace_row}
use Rattle.law_program_parts.proofs.Rising.{Rising, from_less, to_more, both, alone}

-- the token of the name of a method or a constructor
abbrev pub member_names : Member → List ℕ
member_names (syntax.Method h result body) = h.name.token ∷ []
member_names (syntax.Constructor h own_call brace parts end) = h.name.token ∷ []
member_names _ = []

-- those of members, and that of a class in front of those of its members
abbrev pub names_among : List Member → List ℕ
names_among ms = flat_map member_names ms

abbrev pub class_names : ClassSyntax → List ℕ
class_names k = k.name.token ∷ names_among k.members

abbrev pub all_names : List ClassSyntax → List ℕ
all_names ks = flat_map class_names ks

-- ---- members

abbrev MemberRises : ℕ → ℕ → Member → Type 0
MemberRises low high m = Rising low (member_names m) high

one_of : (low high : ℕ) (b : Bool) (m n : Member) → MemberRises low high m → MemberRises low high n → MemberRises low high (if b then m else n)
one_of low high true m n h i = h
one_of low high false m n h i = i

constructor_rises : (low high : ℕ) (h : Header) (ps : Parts) → low ≤ high → Rising low (h.name.token ∷ []) high → MemberRises low high (constructor_of h ps)
constructor_rises low high h [] less r = less
constructor_rises low high h (brace ∷ rest) less r = r

behind_rises : (ms : List Placed) (low : ℕ) (ps : Parts) (high : ℕ) → Row low ps high → MemberRises low high (member_behind ms ps)
behind_rises ms low [] high r = row_rises low [] high r
behind_rises ms low (x ∷ []) high r = row_rises low (x ∷ []) high r
behind_rises ms low (x ∷ y ∷ []) high r = row_rises low (x ∷ y ∷ []) high r
behind_rises ms low (x ∷ y ∷ z ∷ rest) high r =
    let first : low ≤ x.at = r.0 in
    let some : 1 ≤ width x.entity = wide x.entity r.1 in
    let second : x.at + width x.entity ≤ y.at = r.2.0 in
    let some_more : 1 ≤ width y.entity = wide y.entity r.2.1 in
    let there : y.at + width y.entity ≤ high = row_rises (y.at + width y.entity) (z ∷ rest) high r.2.2 in
    one_of low high (is_params y.entity) (constructor_of (header ms x y (z ∷ rest)) (behind_throws (z ∷ rest)))
    (if is_params z.entity then syntax.Method (header ms y z rest) (result_of x) (body_of (behind_throws rest)) else syntax.Fields ms (type_at x) (declarators y.at y.entity))
    (constructor_rises low high (header ms x y (z ∷ rest)) (behind_throws (z ∷ rest)) (omega arith) (alone low x.at high (omega arith) (omega arith)))
    (one_of low high (is_params z.entity) (syntax.Method (header ms y z rest) (result_of x) (body_of (behind_throws rest))) (syntax.Fields ms (type_at x) (declarators y.at y.entity))
    (alone low y.at high (omega arith) (omega arith)) (row_rises low (x ∷ y ∷ z ∷ rest) high r))

in_rises : (low : ℕ) (ps : Parts) (high : ℕ) → Row low ps high → MemberRises low high (member_in ps)
in_rises low [] high r = behind_rises (modifiers_of []) low (behind_modifiers []) high (modifiers_row low [] high r)
in_rises low (x ∷ []) high r = behind_rises (modifiers_of (x ∷ [])) low (behind_modifiers (x ∷ [])) high (modifiers_row low (x ∷ []) high r)
in_rises low (word ∷ p ∷ []) high r =
    one_of low high (is_block p.entity) (syntax.Initializer true (block p.at p.entity)) (member_behind (modifiers_of (word ∷ p ∷ [])) (behind_modifiers (word ∷ p ∷ [])))
    (row_rises low (word ∷ p ∷ []) high r)
    (behind_rises (modifiers_of (word ∷ p ∷ [])) low (behind_modifiers (word ∷ p ∷ [])) high (modifiers_row low (word ∷ p ∷ []) high r))
in_rises low (x ∷ y ∷ z ∷ rest) high r = behind_rises (modifiers_of (x ∷ y ∷ z ∷ rest)) low (behind_modifiers (x ∷ y ∷ z ∷ rest)) high (modifiers_row low (x ∷ y ∷ z ∷ rest) high r)

member_rises : (n : ℕ) (x : Ast) → Full x → MemberRises n (n + width x) (member_seen n x)
member_rises n (Leaf o) f = one_of n (n + 1) (is_leaf kinds.Semicolon (Leaf o)) syntax.Member.Nothing syntax.Member.Unknown (omega arith) (omega arith)
member_rises n (Node form.Block parts) f = omega arith
member_rises n (Node form.Member parts) f = in_rises n (placed n parts) (n + widths parts) (placed_row n parts (parts_full parts f))
member_rises n (Node g parts) f = omega arith

members_rise : (low : ℕ) (ps : Parts) (high : ℕ) → Row low ps high → Rising low (names_among (members_in ps)) high
unfolding members_in
members_rise low [] high r = r
members_rise low (p ∷ []) high r = row_rises low (p ∷ []) high r
members_rise low (p ∷ q ∷ rest) high r =
    let here : low ≤ p.at = r.0 in
    both low (member_names (member_seen p.at p.entity)) (p.at + width p.entity) (names_among (members_in (q ∷ rest))) high
    (from_less low p.at (member_names (member_seen p.at p.entity)) (p.at + width p.entity) here (member_rises p.at p.entity r.1)) (members_rise (p.at + width p.entity) (q ∷ rest) high r.2)

-- ---- methods of interfaces

method_rises : (low : ℕ) (ps : Parts) (high : ℕ) → Row low ps high → MemberRises low high (method_in ps)
method_rises low [] high r = r
method_rises low (p ∷ rest) high r = behind_rises (modifiers_of (p ∷ rest)) low (behind_modifiers (p ∷ rest)) high (modifiers_row low (p ∷ rest) high r)

methods_rise : (low middle high : ℕ) (before ps : Parts) → Row low before middle → Row middle ps high → Rising low (names_among (methods_in before ps)) high
unfolding methods_in
methods_rise low middle high before [] b r = let here = row_rises low before middle b in let there : middle ≤ high = r in omega (arith, here)
methods_rise low middle high before (p ∷ []) b r = let here = row_rises low before middle b in let there = row_rises middle (p ∷ []) high r in omega (arith, here, there)
methods_rise low middle high before (p ∷ q ∷ rest) b r =
    let here : middle ≤ p.at = r.0 in
    let last = p.at + width p.entity in
    let up : middle ≤ p.at + width p.entity = omega arith in
    elim (is_leaf kinds.Semicolon p.entity) as (λ b. Rising low (names_among (if b then method_in before ∷ methods_in [] (q ∷ rest) else methods_in (before ++ p ∷ []) (q ∷ rest))) high) [
      | true ↦ both low (member_names (method_in before)) last (names_among (methods_in [] (q ∷ rest))) high
          (to_more low (member_names (method_in before)) middle last up (method_rises low before middle b)) (methods_rise last last high [] (q ∷ rest) (omega arith) r.2)
      | false ↦ methods_rise low last high (before ++ p ∷ []) (q ∷ rest) (row_with low before middle p b here r.1) r.2
    ]

-- ---- classes

-- those of the class that a declaration is
abbrev DeclarationRises : ℕ → ℕ → Declaration → Type 0
DeclarationRises low high d = Rising low (all_names (filter_map class_in (d ∷ []))) high

class_rises : (low n high : ℕ) (ms : List Member) → low ≤ n → Rising (n + 1) (names_among ms) high → Rising low ((n ∷ names_among ms) ++ []) high
class_rises low n high ms less h = let P : List ℕ → Type 0 = λ xs. Rising low xs high in subst P (sym (append-nil (n ∷ names_among ms))) (less, h)

class_behind_rises : (ms : List Placed) (end low : ℕ) (ps : Parts) (high : ℕ) → Row low ps high → DeclarationRises low high (class_behind ms end ps)
class_behind_rises ms end low [] high r = r
class_behind_rises ms end low (x ∷ []) high r = row_rises low (x ∷ []) high r
class_behind_rises ms end low (word ∷ x ∷ rest) high r =
    let first : low ≤ word.at = r.0 in
    let second : word.at + width word.entity ≤ x.at = r.2.0 in
    let some : 1 ≤ width x.entity = wide x.entity r.2.1 in
    class_rises low x.at high (members_in (behind_brace rest)) (omega arith)
    (members_rise (x.at + 1) (behind_brace rest) high (row_wider (x.at + 1) (x.at + width x.entity) (behind_brace rest) high (omega arith) (brace_row (x.at + width x.entity) rest high r.2.2)))

interface_behind_rises : (ms : List Placed) (end low : ℕ) (ps : Parts) (high : ℕ) → Row low ps high → DeclarationRises low high (interface_behind ms end ps)
interface_behind_rises ms end low [] high r = r
interface_behind_rises ms end low (x ∷ []) high r = row_rises low (x ∷ []) high r
interface_behind_rises ms end low (word ∷ x ∷ rest) high r =
    let first : low ≤ word.at = r.0 in
    let second : word.at + width word.entity ≤ x.at = r.2.0 in
    let some : 1 ≤ width x.entity = wide x.entity r.2.1 in
    class_rises low x.at high (methods_in [] (behind_brace rest)) (omega arith)
    (methods_rise (x.at + 1) (x.at + 1) high [] (behind_brace rest) (omega arith) (row_wider (x.at + 1) (x.at + width x.entity) (behind_brace rest) high (omega arith) (brace_row (x.at + width x.entity) rest high r.2.2)))

declaration_rises : (n : ℕ) (x : Ast) → Full x → DeclarationRises n (n + width x) (declaration n x)
declaration_rises n (Leaf o) f = elim (is_leaf kinds.Semicolon (Leaf o)) as (λ b. DeclarationRises n (n + 1) (if b then syntax.Declaration.Nothing else syntax.Declaration.Unknown)) [
  | true ↦ omega arith
  | false ↦ omega arith
]
declaration_rises n (Node form.Class parts) f = class_behind_rises _ _ n (behind_modifiers (placed n parts)) (n + widths parts) (modifiers_row n (placed n parts) (n + widths parts) (placed_row n parts (parts_full parts f)))
declaration_rises n (Node form.Interface parts) f = interface_behind_rises _ _ n (behind_modifiers (placed n parts)) (n + widths parts) (modifiers_row n (placed n parts) (n + widths parts) (placed_row n parts (parts_full parts f)))
declaration_rises n (Node g parts) f = omega arith

-- ---- a whole text

one_more : (d : Declaration) (rest : List Declaration) (low middle high : ℕ) → DeclarationRises low middle d → Rising middle (all_names (classes_of rest)) high → Rising low (all_names (classes_of (d ∷ rest))) high
one_more (syntax.Declaration.Declared k) rest low middle high h i =
    let P : List ℕ → Type 0 = λ xs. Rising low xs middle in
    both low (class_names k) middle (all_names (classes_of rest)) high (subst P (append-nil (class_names k)) h) i
one_more syntax.Declaration.Nothing rest low middle high h i = from_less low middle (all_names (classes_of rest)) high h i
one_more syntax.Declaration.Unknown rest low middle high h i = from_less low middle (all_names (classes_of rest)) high h i

declarations_rise : (n : ℕ) (parts : Asts) → AllFull parts → Rising n (all_names (classes_of (declarations n parts))) (n + widths parts)
unfolding declarations
declarations_rise n tree.none f = omega arith
declarations_rise n (tree.more x rest) f =
    one_more (declaration n x) (declarations (n + width x) rest) n (n + width x) (n + (width x + widths rest)) (declaration_rises n x f.0)
    (to_more (n + width x) (all_names (classes_of (declarations (n + width x) rest))) (n + width x + widths rest) (n + (width x + widths rest)) (omega arith) (declarations_rise (n + width x) rest f.1))

pub unit_rises : (n : ℕ) (x : Ast) → UnitFull x → Rising n (all_names (classes_of (unit n x))) (n + width x)
unit_rises n (Leaf o) f = declaration_rises n (Leaf o) tt
unit_rises n (Node form.Unit parts) f = declarations_rise n parts f
unit_rises n (Node g parts) f = declaration_rises n (Node g parts) f
