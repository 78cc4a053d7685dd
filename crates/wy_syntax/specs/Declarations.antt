-- The declarations that a tree is, where its first token has a number: one rule a production (JLS 7, 8, 9).
use Rattle.std.specs.Prelude.{ℕ, ◌≤◌, ◌+◌, Bool, true, false, ◌&&◌, if◌then◌else◌, List, [], ◌∷◌, ◌++◌, Option, Some, None, codes}
use Rattle.std.specs.Str.{bytes_eq}
use Rattle.wy_tree.specs.Seen.{Tok, Key}
use Rattle.wy_tree.specs.Ast.{Ast, Asts, Leaf, Node}
use Rattle.wy_tree.specs.Ast as tree
use Rattle.wy_tree.specs.Conditions.{leaf_kind, pairs}
use Rattle.wy_tree.specs.Grammar.{is_modifying, is_own}
use Rattle.wy_tree.specs.declared.kind.Kind.TheVariants as kinds
use Rattle.wy_tree.specs.declared.tree.Form.TheVariants as form
use Rattle.wy_syntax.specs.declared.declaration.Modifier.{Modifier}
use Rattle.wy_syntax.specs.declared.declaration.Modifier.TheVariants as modifiers
use Rattle.wy_syntax.specs.Syntax.{Named, WrittenType, Braced, Statements, done, first, Placed, Parameter, OwnCall, Header, Member, ClassSyntax, Declaration}
use Rattle.wy_syntax.specs.Syntax as syntax
use Rattle.wy_syntax.specs.Names.{width, is_leaf, named, written}
use Rattle.wy_syntax.specs.Expressions.{arguments_of}
use Rattle.wy_syntax.specs.Statements.{block, declarators, statement}
use Rattle.wy_tree.specs.Tokens.{token_limit}

-- a part and the number of its first token
pub record Part : Type 0 where
  pub at : ℕ
  pub entity : Ast

abbrev pub Parts : Type 0
Parts = List Part

unfoldable pub placed : ℕ → Asts → Parts
placed n tree.none = []
placed n (tree.more t rest) = record { at = n; entity = t } ∷ placed (n + width t) rest

-- a part ends within the numbers that tokens may have
abbrev pub IsInReach : Part → Type 0
IsInReach p = p.at + width p.entity ≤ token_limit

abbrev pub name_at : Part → Named
name_at p = named p.at p.entity

abbrev pub type_at : Part → WrittenType
type_at p = written p.at p.entity

abbrev pub is_block : Ast → Bool
is_block (Node form.Block parts) = true
is_block _ = false

abbrev pub is_params : Ast → Bool
is_params (Node form.Params parts) = true
is_params _ = false

-- the names behind the first part: one a comma
unfoldable pub names_behind : Parts → List Named
names_behind (mark ∷ p ∷ rest) = if is_leaf kinds.OpenBrace mark.entity then [] else name_at p ∷ names_behind rest
names_behind _ = []

-- ---- modifiers (JLS 8.1.1, 8.3.1, 8.4.3)

unfoldable pub modifier_named : List ℕ → Modifier
modifier_named w =
    if bytes_eq w (codes "public") then modifiers.Public else
    (if bytes_eq w (codes "private") then modifiers.Private else
    (if bytes_eq w (codes "protected") then modifiers.Protected else
    (if bytes_eq w (codes "static") then modifiers.Static else
    (if bytes_eq w (codes "final") then modifiers.Final else modifiers.Abstract))))

abbrev pub key_of : Tok → List ℕ
key_of (Key w) = w
key_of _ = []

abbrev pub modifier_of : Ast → Modifier
modifier_of (Leaf o) = modifier_named (key_of o)
modifier_of (Node f parts) = modifiers.Override

abbrev pub is_modifier : Ast → Bool
is_modifier (Leaf o) = is_modifying (leaf_kind (Leaf o))
is_modifier (Node form.Mod parts) = true
is_modifier (Node f parts) = false

-- those in front
unfoldable pub modifiers_of : Parts → List Placed
modifiers_of [] = []
modifiers_of (p ∷ rest) = if is_modifier p.entity then record { modifier = modifier_of p.entity; token = p.at } ∷ modifiers_of rest else []

unfoldable pub behind_modifiers : Parts → Parts
behind_modifiers [] = []
behind_modifiers (p ∷ rest) = if is_modifier p.entity then behind_modifiers rest else p ∷ rest

-- ---- parameters, and what is thrown

-- a type, a name and pairs, after `final` or without it
abbrev pub parameter_of : Bool → ℕ → Asts → Parameter
parameter_of is_final n (tree.more ty (tree.more x behind)) = record { is_final = is_final; ty = written n ty; name = named (n + width ty) x; brackets = pairs behind }
parameter_of is_final n parts = record { is_final = is_final; ty = written n (tree.Node form.Param parts); name = named n (tree.Node form.Param parts); brackets = 0 }

abbrev pub parameter_in : ℕ → Asts → Parameter
parameter_in n (tree.more x rest) = if is_leaf kinds.Final x then parameter_of true (n + width x) rest else parameter_of false n (tree.more x rest)
parameter_in n tree.none = parameter_of false n tree.none

abbrev pub parameter : ℕ → Ast → Parameter
parameter n (Node f parts) = parameter_in n parts
parameter n (Leaf o) = parameter_of false n tree.none

-- with one part behind each, or `)` alone
unfoldable pub parameters : ℕ → Asts → List Parameter
parameters n (tree.more p (tree.more comma rest)) = parameter n p ∷ parameters (n + width p + width comma) rest
parameters n _ = []

abbrev pub parameters_of : ℕ → Ast → List Parameter
parameters_of n (Node form.Params (tree.more paren rest)) = parameters (n + width paren) rest
parameters_of n _ = []

abbrev pub throws_of : ℕ → Ast → List Named
throws_of n (Node form.Throws parts) = names_behind (placed n parts)
throws_of n _ = []

-- the names of a `throws` in front, and what stands behind it
abbrev pub throws_in : Parts → List Named
throws_in [] = []
throws_in (p ∷ rest) = throws_of p.at p.entity

abbrev pub is_throws : Ast → Bool
is_throws (Node form.Throws parts) = true
is_throws _ = false

abbrev pub behind_throws : Parts → Parts
behind_throws [] = []
behind_throws (p ∷ rest) = if is_throws p.entity then rest else p ∷ rest

abbrev pub header : List Placed → Part → Part → Parts → Header
header ms x params rest = record { modifiers = ms; name = name_at x; params = parameters_of params.at params.entity; throws = throws_in rest }

-- ---- members

abbrev pub result_of : Part → Option WrittenType
result_of p = if is_leaf kinds.Void p.entity then None else Some (type_at p)

abbrev pub body_of : Parts → Option Braced
body_of (p ∷ []) = if is_block p.entity then Some (block p.at p.entity) else None
body_of _ = None

-- up to `}`
unfoldable pub statements_in : Parts → Statements
statements_in (p ∷ q ∷ rest) = first (statement p.at p.entity) (statements_in (q ∷ rest))
statements_in _ = done

unfoldable pub end_in : Parts → ℕ
end_in [] = 0
end_in (p ∷ []) = p.at
end_in (p ∷ q ∷ rest) = end_in (q ∷ rest)

abbrev pub is_arguments : Ast → Bool
is_arguments (Node form.Args parts) = true
is_arguments _ = false

-- `this` or `super`, arguments and `;` in front of the statements of a constructor
abbrev pub begins_own_call : Parts → Bool
begins_own_call (word ∷ args ∷ rest) = is_own (leaf_kind word.entity) && is_arguments args.entity
begins_own_call _ = false

abbrev pub own_call_in : Parts → Option OwnCall
own_call_in (word ∷ args ∷ rest) =
    if begins_own_call (word ∷ args ∷ rest) then Some (record { is_super = is_leaf kinds.Super word.entity; args = arguments_of args.at args.entity; paren = args.at; token = word.at }) else None
own_call_in _ = None

abbrev pub behind_own_call : Parts → Parts
behind_own_call (word ∷ args ∷ semicolon ∷ rest) = if begins_own_call (word ∷ args ∷ semicolon ∷ rest) then rest else word ∷ args ∷ semicolon ∷ rest
behind_own_call parts = parts

abbrev pub constructor_of : Header → Parts → Member
constructor_of h (brace ∷ rest) = syntax.Constructor h (own_call_in rest) brace.at (statements_in (behind_own_call rest)) (end_in rest)
constructor_of h [] = syntax.Member.Unknown

-- a constructor, a method or fields, behind the modifiers
abbrev pub member_behind : List Placed → Parts → Member
member_behind ms (x ∷ y ∷ []) = syntax.Member.Unknown
member_behind ms (x ∷ y ∷ z ∷ rest) =
    if is_params y.entity then constructor_of (header ms x y (z ∷ rest)) (behind_throws (z ∷ rest)) else
    (if is_params z.entity then syntax.Method (header ms y z rest) (result_of x) (body_of (behind_throws rest)) else syntax.Fields ms (type_at x) (declarators y.at y.entity))
member_behind ms _ = syntax.Member.Unknown

abbrev pub member_in : Parts → Member
member_in (word ∷ p ∷ []) = if is_block p.entity then syntax.Initializer true (block p.at p.entity) else member_behind (modifiers_of (word ∷ p ∷ [])) (behind_modifiers (word ∷ p ∷ []))
member_in parts = member_behind (modifiers_of parts) (behind_modifiers parts)

abbrev pub member_seen : ℕ → Ast → Member
member_seen n (Node form.Block parts) = syntax.Initializer false (block n (Node form.Block parts))
member_seen n (Node form.Member parts) = member_in (placed n parts)
member_seen n t = if is_leaf kinds.Semicolon t then syntax.Member.Nothing else syntax.Member.Unknown

-- up to `}`
unfoldable pub members_in : Parts → List Member
members_in (p ∷ q ∷ rest) = member_seen p.at p.entity ∷ members_in (q ∷ rest)
members_in _ = []

-- the method of an interface by the parts before its `;`, or nothing
abbrev pub method_in : Parts → Member
method_in [] = syntax.Member.Nothing
method_in (p ∷ rest) = member_behind (modifiers_of (p ∷ rest)) (behind_modifiers (p ∷ rest))

-- the methods of an interface up to `}`: one a `;`, where these parts have been seen of the first
unfoldable pub methods_in : Parts → Parts → List Member
methods_in before (p ∷ q ∷ rest) = if is_leaf kinds.Semicolon p.entity then method_in before ∷ methods_in [] (q ∷ rest) else methods_in (before ++ p ∷ []) (q ∷ rest)
methods_in before _ = []

-- ---- classes and interfaces

unfoldable pub behind_brace : Parts → Parts
behind_brace [] = []
behind_brace (p ∷ rest) = if is_leaf kinds.OpenBrace p.entity then rest else behind_brace rest

abbrev pub superclass_in : Parts → Option Named
superclass_in (word ∷ p ∷ rest) = if is_leaf kinds.Extends word.entity then Some (name_at p) else None
superclass_in _ = None

-- behind `implements`, which may stand before the brace
unfoldable pub implemented_in : Parts → List Named
implemented_in [] = []
implemented_in (p ∷ rest) = if is_leaf kinds.OpenBrace p.entity then [] else (if is_leaf kinds.Implements p.entity then names_behind (p ∷ rest) else implemented_in rest)

-- the word and the name behind the modifiers, and what follows
abbrev pub class_behind : List Placed → ℕ → Parts → Declaration
class_behind ms end (word ∷ x ∷ rest) = syntax.Declaration.Declared (record {
  is_interface = false;
  modifiers = ms;
  name = name_at x;
  above = superclass_in rest;
  interfaces = implemented_in rest;
  members = members_in (behind_brace rest);
  end = end;
})
class_behind ms end _ = syntax.Declaration.Unknown

abbrev pub interface_behind : List Placed → ℕ → Parts → Declaration
interface_behind ms end (word ∷ x ∷ rest) = syntax.Declaration.Declared (record {
  is_interface = true;
  modifiers = ms;
  name = name_at x;
  above = None;
  interfaces = names_behind rest;
  members = methods_in [] (behind_brace rest);
  end = end;
})
interface_behind ms end _ = syntax.Declaration.Unknown

abbrev pub declaration : ℕ → Ast → Declaration
declaration n (Node form.Class parts) = class_behind (modifiers_of (placed n parts)) (end_in (placed n parts)) (behind_modifiers (placed n parts))
declaration n (Node form.Interface parts) = interface_behind (modifiers_of (placed n parts)) (end_in (placed n parts)) (behind_modifiers (placed n parts))
declaration n t = if is_leaf kinds.Semicolon t then syntax.Declaration.Nothing else syntax.Declaration.Unknown

unfoldable pub declarations : ℕ → Asts → List Declaration
declarations n tree.none = []
declarations n (tree.more t rest) = declaration n t ∷ declarations (n + width t) rest

-- a whole program
abbrev pub unit : ℕ → Ast → List Declaration
unit n (Node form.Unit parts) = declarations n parts
unit n t = declaration n t ∷ []
