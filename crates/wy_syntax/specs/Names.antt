-- Tokens by what they write: names, types, operators (JLS 3.9, 3.12, 4.2, 15.15 to 15.26).
use Rattle.std.specs.Prelude.{ℕ, ◌+◌, Bool, false, if◌then◌else◌, List, [], codes}
use Rattle.std.specs.Str.{bytes_eq}
use Rattle.wy_kernel.specs.declared.operator.Primitive.{Primitive}
use Rattle.wy_kernel.specs.declared.operator.Primitive.TheVariants as primitives
use Rattle.wy_kernel.specs.declared.operator.UnOp.{UnOp}
use Rattle.wy_kernel.specs.declared.operator.UnOp.TheVariants as unary
use Rattle.wy_kernel.specs.declared.operator.BinOp.{BinOp}
use Rattle.wy_kernel.specs.declared.operator.BinOp.TheVariants as binary
use Rattle.wy_tree.specs.Seen.{Tok, Word, Key, Sign}
use Rattle.wy_tree.specs.Ast.{Ast, Asts, Leaf, Node, none, more}
use Rattle.wy_tree.specs.Conditions.{pairs}
use Rattle.wy_tree.specs.Kinds.{kind_of, same}
use Rattle.wy_tree.specs.declared.kind.Kind.{Kind}
use Rattle.wy_tree.specs.declared.tree.Form.TheVariants as form
use Rattle.wy_syntax.specs.Syntax.{Named, Base, Basic, Class, WrittenType}

-- how many tokens a tree has, and parts
abbrev mutual
  pub width : Ast → ℕ
  width (Leaf o) = 1
  width (Node f parts) = widths parts

  pub widths : Asts → ℕ
  widths none = 0
  widths (more t rest) = width t + widths rest

-- a leaf of this kind
abbrev pub is_leaf : Kind → Ast → Bool
is_leaf k (Leaf o) = same (kind_of o) k
is_leaf k (Node f parts) = false

abbrev pub word_of : Tok → List ℕ
word_of (Word name) = name
word_of _ = []

-- the name that a leaf is
abbrev pub name_of : Ast → List ℕ
name_of (Leaf o) = word_of o
name_of (Node f parts) = []

abbrev pub named : ℕ → Ast → Named
named n t = record { name = name_of t; token = n }

abbrev pub sign_of : Tok → List ℕ
sign_of (Sign s) = s
sign_of _ = []

-- ---- types

unfoldable pub primitive_named : List ℕ → Primitive
primitive_named w =
    if bytes_eq w (codes "boolean") then primitives.Bool else
    (if bytes_eq w (codes "byte") then primitives.Byte else
    (if bytes_eq w (codes "short") then primitives.Short else
    (if bytes_eq w (codes "char") then primitives.Char else
    (if bytes_eq w (codes "long") then primitives.Long else primitives.Int))))

abbrev pub base_of : Tok → Base
base_of (Key w) = Basic (primitive_named w)
base_of o = Class (word_of o)

-- a type as it is written: its first token alone, or with pairs of brackets behind it
abbrev pub base_named : Ast → Base
base_named (Leaf o) = base_of o
base_named (Node f parts) = Class []

abbrev pub written : ℕ → Ast → WrittenType
written n (Node form.TypeNode (more base behind)) = record { base = base_named base; token = n; brackets = pairs behind }
written n t = record { base = base_named t; token = n; brackets = 0 }

-- ---- operators

unfoldable pub bitwise : List ℕ → BinOp
bitwise s =
    if bytes_eq s (codes "&") then binary.And else
    (if bytes_eq s (codes "|") then binary.Or else
    (if bytes_eq s (codes "^") then binary.Xor else
    (if bytes_eq s (codes "<<") then binary.Shl else
    (if bytes_eq s (codes ">>") then binary.Shr else binary.Ushr))))

unfoldable pub comparing : List ℕ → BinOp
comparing s =
    if bytes_eq s (codes "==") then binary.Eq else
    (if bytes_eq s (codes "!=") then binary.Ne else
    (if bytes_eq s (codes "<") then binary.Lt else
    (if bytes_eq s (codes ">") then binary.Gt else
    (if bytes_eq s (codes "<=") then binary.Le else
    (if bytes_eq s (codes ">=") then binary.Ge else bitwise s)))))

-- a binary operator by its sign
unfoldable pub operator : List ℕ → BinOp
operator s =
    if bytes_eq s (codes "+") then binary.Add else
    (if bytes_eq s (codes "-") then binary.Sub else
    (if bytes_eq s (codes "*") then binary.Mul else
    (if bytes_eq s (codes "/") then binary.Div else
    (if bytes_eq s (codes "%") then binary.Rem else comparing s))))

unfoldable pub shifting : List ℕ → BinOp
shifting s =
    if bytes_eq s (codes "<<=") then binary.Shl else
    (if bytes_eq s (codes ">>=") then binary.Shr else
    (if bytes_eq s (codes ">>>=") then binary.Ushr else
    (if bytes_eq s (codes "&=") then binary.And else
    (if bytes_eq s (codes "|=") then binary.Or else binary.Xor))))

-- the operator of a compound assignment
unfoldable pub updating : List ℕ → BinOp
updating s =
    if bytes_eq s (codes "+=") then binary.Add else
    (if bytes_eq s (codes "-=") then binary.Sub else
    (if bytes_eq s (codes "*=") then binary.Mul else
    (if bytes_eq s (codes "/=") then binary.Div else
    (if bytes_eq s (codes "%=") then binary.Rem else shifting s))))

unfoldable pub prefix : List ℕ → UnOp
prefix s =
    if bytes_eq s (codes "+") then unary.Plus else
    (if bytes_eq s (codes "-") then unary.Minus else
    (if bytes_eq s (codes "~") then unary.Flip else unary.Not))

-- `++`, and not `--`
unfoldable pub is_up : List ℕ → Bool
is_up s = bytes_eq s (codes "++")
