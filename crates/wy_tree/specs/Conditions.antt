-- What a tree of the grammar meets besides its productions.
use Rattle.std.specs.Prelude.{ℕ, Bool, true, false, not, ◌&&◌, ◌||◌, if◌then◌else◌, nat_le, max, ◌+◌}
use Rattle.wy_tree.specs.Kinds.{kind_of, same}
use Rattle.wy_tree.specs.Ast.{Ast, Asts, Leaf, Node, none, more}
use Rattle.wy_tree.specs.declared.kind.Kind.{Kind}
use Rattle.wy_tree.specs.declared.kind.Kind.TheVariants as kinds
use Rattle.wy_tree.specs.declared.grammar.Sort.{Sort}
use Rattle.wy_tree.specs.declared.grammar.Sort.TheVariants as sorts
use Rattle.wy_tree.specs.declared.tree.Form.TheVariants as form

-- the kind of a leaf
abbrev pub leaf_kind : Ast → Kind
leaf_kind (Leaf o) = kind_of o
leaf_kind (Node f parts) = kinds.Nothing

abbrev pub first_kind : Asts → Kind
first_kind none = kinds.Nothing
first_kind (more t rest) = leaf_kind t

abbrev pub is_name : Kind → Bool
is_name k = same k kinds.Word || same k kinds.Override

-- arguments as the last part
abbrev pub is_args : Ast → Bool
is_args (Node form.Args parts) = true
is_args _ = false

abbrev pub ends_in_args : Asts → Bool
ends_in_args none = false
ends_in_args (more t none) = is_args t
ends_in_args (more t (more u rest)) = ends_in_args (more u rest)

abbrev pub tail : Asts → Asts
tail none = none
tail (more t rest) = rest

abbrev pub is_none : Asts → Bool
is_none none = true
is_none (more t rest) = false

-- a field access, of three parts, or an element access, of four
abbrev pub is_access : Asts → Bool
is_access parts = (same (first_kind (tail parts)) kinds.Dot && is_none (tail (tail (tail parts)))) || same (first_kind (tail parts)) kinds.OpenBracket

-- A variable that can be set: a name, a field access or an element access (JLS 15.26).
abbrev pub is_variable : Ast → Bool
is_variable (Leaf o) = is_name (kind_of o)
is_variable (Node form.Primary parts) = is_access parts
is_variable _ = false

-- An assignment, ++ or --, a call, or an object's creation (JLS 14.8).
abbrev pub is_effect : Ast → Bool
is_effect (Node form.Expr parts) = true
is_effect (Node form.Postfix parts) = true
is_effect (Node form.Unary parts) = same (first_kind parts) kinds.Step
is_effect (Node form.Primary parts) = ends_in_args parts
is_effect (Node form.New parts) = ends_in_args parts
is_effect _ = false

abbrev pub is_array_creation : Ast → Bool
is_array_creation (Node form.New parts) = not (ends_in_args parts)
is_array_creation _ = false

-- a name, or a type with brackets
abbrev pub is_reference : Ast → Bool
is_reference (Leaf o) = is_name (kind_of o)
is_reference (Node f parts) = true

abbrev pub is_sign : Kind → Bool
is_sign k = same k kinds.Plus || (same k kinds.Minus || same k kinds.Step)

-- A unary expression that begins with +, -, ++ or -- (JLS 15.16).
abbrev pub is_signed : Ast → Bool
is_signed (Node form.Unary parts) = is_sign (first_kind parts)
is_signed _ = false

-- an if with five parts or fewer
abbrev pub lacks_else : Asts → Bool
lacks_else parts = same (first_kind parts) kinds.If && is_none (tail (tail (tail (tail (tail parts)))))

-- An else after this statement would belong to an if in it (JLS 14.5).
abbrev mutual
  pub is_open : Ast → Bool
  is_open (Node form.Stmt parts) = lacks_else parts || ends_open parts
  is_open _ = false

  pub ends_open : Asts → Bool
  ends_open none = false
  ends_open (more t none) = is_open t
  ends_open (more t (more u rest)) = ends_open (more u rest)

abbrev pub begins_open : Asts → Bool
begins_open none = false
begins_open (more t rest) = is_open t

-- The else of an if is that of the nearest if without one: the statement before it, which is the fifth part, is not open.
abbrev pub binds_else : Asts → Bool
binds_else parts = lacks_else parts || not (same (first_kind parts) kinds.If && begins_open (tail (tail (tail (tail parts)))))

abbrev pub opens : Kind → ℕ
opens k = if same k kinds.OpenBracket then 1 else 0

-- the bracket pairs that stand directly among these parts
abbrev pub pairs : Asts → ℕ
pairs none = 0
pairs (more t rest) = opens (leaf_kind t) + pairs rest

abbrev pub type_pairs : Ast → ℕ
type_pairs (Node form.TypeNode parts) = pairs parts
type_pairs _ = 0

abbrev pub declarator_pairs : Ast → ℕ
declarator_pairs (Node form.Decl parts) = pairs parts
declarator_pairs _ = 0

abbrev pub most_declarators : Asts → ℕ
most_declarators none = 0
most_declarators (more t rest) = max (declarator_pairs t) (most_declarators rest)

abbrev pub declared_pairs : Ast → ℕ
declared_pairs (Node form.Decls parts) = most_declarators parts
declared_pairs t = declarator_pairs t

abbrev pub most_types : Asts → ℕ
most_types none = 0
most_types (more t rest) = max (type_pairs t) (most_types rest)

abbrev pub most_declared : Asts → ℕ
most_declared none = 0
most_declared (more t rest) = max (declared_pairs t) (most_declared rest)

-- The pairs of the type that these parts write: its own, and those behind what it declares.
abbrev pub brackets : Asts → ℕ
brackets parts = pairs parts + (most_types parts + most_declared parts)

-- the condition of a production on its parts
abbrev pub condition : Sort → Asts → Bool
condition sorts.RefType (more t rest) = is_reference t
condition sorts.Effect (more t rest) = is_effect t
condition sorts.Operand (more t rest) = not (is_signed t)
condition sorts.Expr (more l rest) = is_none rest || is_variable l
condition sorts.Stmt parts = binds_else parts
condition _ parts = true

abbrev pub fine : Sort → Asts → Bool
fine x parts = condition x parts && nat_le (brackets parts) 255

-- No element access stands directly on an array creation (JLS 15.10).
abbrev pub joins : Ast → Asts → Bool
joins l parts = not (is_array_creation l && same (first_kind parts) kinds.OpenBracket)
