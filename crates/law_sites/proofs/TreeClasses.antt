-- The tokens that the classes of a tree carry lie before its end.
use Rattle.std.proofs.Common.{arith, ℕ, ◌+◌, ◌<◌, ◌≤◌, Bool, true, false, if◌then◌else◌, List, [], ◌∷◌, ◌++◌}
use Rattle.std.specs.Prelude.{Some, None, filter_map}
use Rattle.std.specs.List.{AllByRecursion}
use Rattle.wy_tree.specs.Ast.{Ast, Asts, Leaf, Node}
use Rattle.wy_tree.specs.Ast as tree
use Rattle.wy_tree.specs.declared.kind.Kind.TheVariants as kinds
use Rattle.wy_tree.specs.declared.tree.Form.TheVariants as form
use Rattle.wy_syntax.specs.Syntax.{Placed, Parameter, OwnCall, Header, Member, Declaration}
use Rattle.wy_syntax.specs.Syntax as syntax
use Rattle.wy_syntax.specs.Names.{width, widths, is_leaf}
use Rattle.wy_syntax.specs.Expressions.{arguments_of}
use Rattle.wy_syntax.specs.Statements.{block, declarators}
use Rattle.wy_syntax.specs.Declarations.{Part, Parts, placed, is_block, is_params, modifiers_of, behind_modifiers, parameter_of, parameter, parameters, parameters_of, behind_throws, header, result_of, type_at, body_of, statements_in, end_in, begins_own_call, own_call_in, behind_own_call, constructor_of, member_behind, member_in, member_seen, members_in, method_in, methods_in, behind_brace, class_behind, interface_behind, declaration, declarations, unit}
use Rattle.wy_members.specs.Declarations.{class_in, classes_of}
use Rattle.law_structure.proofs.Trees.{Full, AllFull, parts_full, wide}
use Rattle.law_structure.proofs.Productions.{UnitFull}
use Rattle.law_structure.proofs.ClassTrees.{Row, row_rises, row_behind, row_with, row_longer, placed_row, modifiers_row, throws_row, brace_row}
use Rattle.wy_typing.specs.Sites.{IsToken}
use Rattle.law_sites.proofs.Tokens.{HeaderTokens, OwnTokens, BodyTokens, AllTokens, MemberTokens, ClassesTokens}
use Rattle.law_sites.proofs.TreeExpressions.{arguments_tokens}
use Rattle.law_sites.proofs.TreeStatements.{declarators_tokens, statement_tokens, block_tokens}

-- ---- parts in a row

placed_before : (K n : ℕ) (parts : Asts) → AllFull parts → n + widths parts ≤ K → Row n (placed n parts) K
placed_before K n parts f a = row_longer n (placed n parts) (n + widths parts) K a (placed_row n parts f)

part_token : (K low : ℕ) (p : Part) (rest : Parts) → Row low (p ∷ rest) K → IsToken K p.at
part_token K low p rest r =
    let some : 1 ≤ width p.entity = wide p.entity r.1 in
    let there : p.at + width p.entity ≤ K = row_rises (p.at + width p.entity) rest K r.2 in omega arith

end_token : (K low : ℕ) (ps : Parts) → low < K → Row low ps K → IsToken K (end_in ps)
unfolding end_in
end_token K low [] some r = omega arith
end_token K low (p ∷ []) some r = part_token K low p [] r
end_token K low (p ∷ q ∷ rest) some r = end_token K low (q ∷ rest) some (row_behind low p (q ∷ rest) K r)

-- ---- parameters

parameter_of_near : (b : Bool) (n : ℕ) (parts : Asts) → (parameter_of b n parts).name.token ≤ n + widths parts
parameter_of_near b n tree.none = omega arith
parameter_of_near b n (tree.more ty tree.none) = omega arith
parameter_of_near b n (tree.more ty (tree.more x behind)) = omega arith

-- no further than its end
parameter_near : (n : ℕ) (t : Ast) → (parameter n t).name.token ≤ n + width t
parameter_near n (Leaf o) = omega arith
parameter_near n (Node f tree.none) = omega arith
parameter_near n (Node f (tree.more x rest)) =
    elim (is_leaf kinds.Final x) as (λ b. (if b then parameter_of true (n + width x) rest else parameter_of false n (tree.more x rest)).name.token ≤ n + (width x + widths rest)) [
      | true ↦ let near = parameter_of_near true (n + width x) rest in omega (arith, near)
      | false ↦ parameter_of_near false n (tree.more x rest)
    ]

abbrev ParameterTokens : ℕ → List Parameter → Type 0
ParameterTokens K all = AllByRecursion (λ (p : Parameter). IsToken K p.name.token) all

parameters_tokens : (K n : ℕ) (parts : Asts) → AllFull parts → n + widths parts ≤ K → ParameterTokens K (parameters n parts)
unfolding parameters
parameters_tokens K n tree.none f a = tt
parameters_tokens K n (tree.more p tree.none) f a = tt
parameters_tokens K n (tree.more p (tree.more comma rest)) f a =
    let near : (parameter n p).name.token ≤ n + width p = parameter_near n p in
    let some : 1 ≤ width comma = wide comma f.1.0 in
    (omega arith, parameters_tokens K (n + width p + width comma) rest f.1.1 (omega arith))

parameters_of_tokens : (K n : ℕ) (t : Ast) → Full t → n + width t ≤ K → ParameterTokens K (parameters_of n t)
parameters_of_tokens K n (Leaf o) f a = tt
parameters_of_tokens K n (Node form.Params tree.none) f a = tt
parameters_of_tokens K n (Node form.Params (tree.more paren rest)) f a = parameters_tokens K (n + width paren) rest f.1 (omega arith)
parameters_of_tokens K n (Node g parts) f a = tt

header_tokens : (K : ℕ) (ms : List Placed) (low : ℕ) (x params : Part) (rest : Parts) → Row low (x ∷ params ∷ rest) K → HeaderTokens (IsToken K) (header ms x params rest)
header_tokens K ms low x params rest r = (part_token K low x (params ∷ rest) r, parameters_of_tokens K params.at params.entity r.2.1 (row_rises (params.at + width params.entity) rest K r.2.2))

-- ---- members

abbrev TokensIn : ℕ → Member → Type 0
TokensIn K m = MemberTokens (IsToken K) m

either_member : (K : ℕ) (b : Bool) (m n : Member) → TokensIn K m → TokensIn K n → TokensIn K (if b then m else n)
either_member K true m n h i = h
either_member K false m n h i = i

statements_tokens : (K low : ℕ) (ps : Parts) → Row low ps K → AllTokens (IsToken K) (statements_in ps)
unfolding statements_in
statements_tokens K low [] r = tt
statements_tokens K low (p ∷ []) r = tt
statements_tokens K low (p ∷ q ∷ rest) r =
    (statement_tokens K p.at p.entity r.1 (row_rises (p.at + width p.entity) (q ∷ rest) K r.2), statements_tokens K (p.at + width p.entity) (q ∷ rest) r.2)

where_own : (K : ℕ) (b : Bool) (call : OwnCall) → OwnTokens (IsToken K) (Some call) → OwnTokens (IsToken K) (if b then Some call else None)
where_own K true call h = h
where_own K false call h = tt

own_tokens : (K low : ℕ) (ps : Parts) → Row low ps K → OwnTokens (IsToken K) (own_call_in ps)
own_tokens K low [] r = tt
own_tokens K low (p ∷ []) r = tt
own_tokens K low (p ∷ q ∷ rest) r =
    where_own K (begins_own_call (p ∷ q ∷ rest)) (record { is_super = is_leaf kinds.Super p.entity; args = arguments_of q.at q.entity; paren = q.at; token = p.at })
    (part_token K low p (q ∷ rest) r, part_token K (p.at + width p.entity) q rest r.2, arguments_tokens K q.at q.entity r.2.1 (row_rises (q.at + width q.entity) rest K r.2.2))

own_row : (low : ℕ) (ps : Parts) (high : ℕ) → Row low ps high → Row low (behind_own_call ps) high
own_row low [] high r = r
own_row low (p ∷ []) high r = r
own_row low (p ∷ q ∷ []) high r = r
own_row low (p ∷ q ∷ x ∷ rest) high r = elim (begins_own_call (p ∷ q ∷ x ∷ rest)) as (λ b. Row low (if b then rest else p ∷ q ∷ x ∷ rest) high) [
  | true ↦ row_behind low x rest high (row_behind low q (x ∷ rest) high (row_behind low p (q ∷ x ∷ rest) high r))
  | false ↦ r
]

constructor_tokens : (K : ℕ) (h : Header) (low : ℕ) (ps : Parts) → HeaderTokens (IsToken K) h → low < K → Row low ps K → TokensIn K (constructor_of h ps)
constructor_tokens K h low [] i some r = tt
constructor_tokens K h low (brace ∷ rest) i some r =
    let behind : Row low rest K = row_behind low brace rest K r in
    (i, own_tokens K low rest behind, part_token K low brace rest r, statements_tokens K low (behind_own_call rest) (own_row low rest K behind), end_token K low rest some behind)

body_tokens : (K low : ℕ) (ps : Parts) → Row low ps K → BodyTokens (IsToken K) (body_of ps)
body_tokens K low [] r = tt
body_tokens K low (p ∷ []) r = elim (is_block p.entity) as (λ b. BodyTokens (IsToken K) (if b then Some (block p.at p.entity) else None)) [
  | true ↦ block_tokens K p.at p.entity r.1 r.2
  | false ↦ tt
]
body_tokens K low (p ∷ q ∷ rest) r = tt

behind_tokens : (K : ℕ) (ms : List Placed) (low : ℕ) (ps : Parts) → Row low ps K → TokensIn K (member_behind ms ps)
behind_tokens K ms low [] r = tt
behind_tokens K ms low (x ∷ []) r = tt
behind_tokens K ms low (x ∷ y ∷ []) r = tt
behind_tokens K ms low (x ∷ y ∷ z ∷ rest) r =
    let here : low ≤ x.at = r.0 in
    let some : x.at < K = part_token K low x (y ∷ z ∷ rest) r in
    let behind_x : Row low (y ∷ z ∷ rest) K = row_behind low x (y ∷ z ∷ rest) K r in
    let behind_y : Row low (z ∷ rest) K = row_behind low y (z ∷ rest) K behind_x in
    either_member K (is_params y.entity) (constructor_of (header ms x y (z ∷ rest)) (behind_throws (z ∷ rest)))
    (if is_params z.entity then syntax.Method (header ms y z rest) (result_of x) (body_of (behind_throws rest)) else syntax.Fields ms (type_at x) (declarators y.at y.entity))
    (constructor_tokens K (header ms x y (z ∷ rest)) low (behind_throws (z ∷ rest)) (header_tokens K ms low x y (z ∷ rest) r) (omega arith) (throws_row low (z ∷ rest) K behind_y))
    (either_member K (is_params z.entity) (syntax.Method (header ms y z rest) (result_of x) (body_of (behind_throws rest))) (syntax.Fields ms (type_at x) (declarators y.at y.entity))
    (header_tokens K ms low y z rest behind_x, body_tokens K low (behind_throws rest) (throws_row low rest K (row_behind low z rest K behind_y)))
    (declarators_tokens K y.at y.entity r.2.1 (row_rises (y.at + width y.entity) (z ∷ rest) K r.2.2)))

in_tokens : (K low : ℕ) (ps : Parts) → Row low ps K → TokensIn K (member_in ps)
in_tokens K low [] r = behind_tokens K (modifiers_of []) low (behind_modifiers []) (modifiers_row low [] K r)
in_tokens K low (x ∷ []) r = behind_tokens K (modifiers_of (x ∷ [])) low (behind_modifiers (x ∷ [])) (modifiers_row low (x ∷ []) K r)
in_tokens K low (word ∷ p ∷ []) r =
    either_member K (is_block p.entity) (syntax.Initializer true (block p.at p.entity)) (member_behind (modifiers_of (word ∷ p ∷ [])) (behind_modifiers (word ∷ p ∷ [])))
    (block_tokens K p.at p.entity r.2.1 r.2.2) (behind_tokens K (modifiers_of (word ∷ p ∷ [])) low (behind_modifiers (word ∷ p ∷ [])) (modifiers_row low (word ∷ p ∷ []) K r))
in_tokens K low (x ∷ y ∷ z ∷ rest) r = behind_tokens K (modifiers_of (x ∷ y ∷ z ∷ rest)) low (behind_modifiers (x ∷ y ∷ z ∷ rest)) (modifiers_row low (x ∷ y ∷ z ∷ rest) K r)

member_tokens : (K n : ℕ) (t : Ast) → Full t → n + width t ≤ K → TokensIn K (member_seen n t)
member_tokens K n (Leaf o) f a = either_member K (is_leaf kinds.Semicolon (Leaf o)) syntax.Member.Nothing syntax.Member.Unknown tt tt
member_tokens K n (Node form.Block parts) f a = block_tokens K n (Node form.Block parts) f a
member_tokens K n (Node form.Member parts) f a = in_tokens K n (placed n parts) (placed_before K n parts (parts_full parts f) a)
member_tokens K n (Node g parts) f a = tt

abbrev MembersIn : ℕ → List Member → Type 0
MembersIn K ms = AllByRecursion (MemberTokens (IsToken K)) ms

members_tokens : (K low : ℕ) (ps : Parts) → Row low ps K → MembersIn K (members_in ps)
unfolding members_in
members_tokens K low [] r = tt
members_tokens K low (p ∷ []) r = tt
members_tokens K low (p ∷ q ∷ rest) r =
    (member_tokens K p.at p.entity r.1 (row_rises (p.at + width p.entity) (q ∷ rest) K r.2), members_tokens K (p.at + width p.entity) (q ∷ rest) r.2)

-- ---- the methods of an interface

method_tokens : (K low : ℕ) (ps : Parts) → Row low ps K → TokensIn K (method_in ps)
method_tokens K low [] r = tt
method_tokens K low (p ∷ rest) r = behind_tokens K (modifiers_of (p ∷ rest)) low (behind_modifiers (p ∷ rest)) (modifiers_row low (p ∷ rest) K r)

methods_tokens : (K low : ℕ) (before : Parts) (middle : ℕ) (ps : Parts) → Row low before middle → Row middle ps K → MembersIn K (methods_in before ps)
unfolding methods_in
methods_tokens K low before middle [] b r = tt
methods_tokens K low before middle (p ∷ []) b r = tt
methods_tokens K low before middle (p ∷ q ∷ rest) b r =
    let there : middle ≤ K = row_rises middle (p ∷ q ∷ rest) K r in
    elim (is_leaf kinds.Semicolon p.entity) as (λ b. MembersIn K (if b then method_in before ∷ methods_in [] (q ∷ rest) else methods_in (before ++ p ∷ []) (q ∷ rest))) [
      | true ↦ (method_tokens K low before (row_longer low before middle K there b), methods_tokens K middle [] middle (q ∷ rest) (omega arith) (row_behind middle p (q ∷ rest) K r))
      | false ↦ methods_tokens K low (before ++ p ∷ []) (p.at + width p.entity) (q ∷ rest) (row_with low before middle p b r.0 r.1) r.2
    ]

-- ---- classes

-- those of the class that a declaration is
abbrev DeclarationTokens : ℕ → Declaration → Type 0
DeclarationTokens K d = ClassesTokens (IsToken K) (filter_map class_in (d ∷ []))

class_tokens : (K : ℕ) (ms : List Placed) (end low : ℕ) (ps : Parts) → Row low ps K → DeclarationTokens K (class_behind ms end ps)
class_tokens K ms end low [] r = tt
class_tokens K ms end low (x ∷ []) r = tt
class_tokens K ms end low (word ∷ x ∷ rest) r =
    let behind : Row low (x ∷ rest) K = row_behind low word (x ∷ rest) K r in
    (record { name = part_token K low x rest behind; members = members_tokens K low (behind_brace rest) (brace_row low rest K (row_behind low x rest K behind)) }, tt)

interface_tokens : (K : ℕ) (ms : List Placed) (end low : ℕ) (ps : Parts) → Row low ps K → DeclarationTokens K (interface_behind ms end ps)
interface_tokens K ms end low [] r = tt
interface_tokens K ms end low (x ∷ []) r = tt
interface_tokens K ms end low (word ∷ x ∷ rest) r =
    let behind : Row low (x ∷ rest) K = row_behind low word (x ∷ rest) K r in
    (record { name = part_token K low x rest behind; members = methods_tokens K low [] low (behind_brace rest) (omega arith) (brace_row low rest K (row_behind low x rest K behind)) }, tt)

no_class : (K : ℕ) (b : Bool) → DeclarationTokens K (if b then syntax.Declaration.Nothing else syntax.Declaration.Unknown)
no_class K true = tt
no_class K false = tt

declaration_tokens : (K n : ℕ) (t : Ast) → Full t → n + width t ≤ K → DeclarationTokens K (declaration n t)
declaration_tokens K n (Leaf o) f a = no_class K (is_leaf kinds.Semicolon (Leaf o))
declaration_tokens K n (Node form.Class parts) f a = class_tokens K _ _ n (behind_modifiers (placed n parts)) (modifiers_row n (placed n parts) K (placed_before K n parts (parts_full parts f) a))
declaration_tokens K n (Node form.Interface parts) f a = interface_tokens K _ _ n (behind_modifiers (placed n parts)) (modifiers_row n (placed n parts) K (placed_before K n parts (parts_full parts f) a))
declaration_tokens K n (Node g parts) f a = tt

one_more : (K : ℕ) (d : Declaration) (rest : List Declaration) → DeclarationTokens K d → ClassesTokens (IsToken K) (classes_of rest) → ClassesTokens (IsToken K) (classes_of (d ∷ rest))
one_more K (syntax.Declaration.Declared k) rest h i = (h.0, i)
one_more K syntax.Declaration.Nothing rest h i = i
one_more K syntax.Declaration.Unknown rest h i = i

declarations_tokens : (K n : ℕ) (parts : Asts) → AllFull parts → n + widths parts ≤ K → ClassesTokens (IsToken K) (classes_of (declarations n parts))
unfolding declarations
declarations_tokens K n tree.none f a = tt
declarations_tokens K n (tree.more t rest) f a = one_more K (declaration n t) (declarations (n + width t) rest) (declaration_tokens K n t f.0 (omega arith)) (declarations_tokens K (n + width t) rest f.1 (omega arith))

pub unit_tokens : (K n : ℕ) (t : Ast) → UnitFull t → n + width t ≤ K → ClassesTokens (IsToken K) (classes_of (unit n t))
unit_tokens K n (Leaf o) f a = declaration_tokens K n (Leaf o) tt a
unit_tokens K n (Node form.Unit parts) f a = declarations_tokens K n parts f a
unit_tokens K n (Node g parts) f a = declaration_tokens K n (Node g parts) f a
