-- Trees whose names have a property, and what their leaves are.
use Rattle.std.proofs.Common.{◌≡◌, ◌∙◌, refl, sym, ap, subst, ℕ, Bool, true, false, ◌||◌, if◌then◌else◌, List}
use Rattle.wy_kernel.specs.declared.operator.BinOp.{BinOp}
use Rattle.wy_kernel.specs.declared.operator.BinOp.TheVariants as binary
use Rattle.std.specs.Prelude.{codes}
use Rattle.std.specs.Str.{bytes_eq}
use Rattle.wy_value.specs.Operator.{is_comparison}
use Rattle.wy_tree.specs.Seen.{Tok}
use Rattle.wy_tree.specs.Kinds.{kind_of, same}
use Rattle.wy_tree.specs.Ast.{Ast, Asts, Leaf, Node, none, more, node}
use Rattle.wy_tree.specs.Conditions.{is_name}
use Rattle.wy_tree.specs.declared.kind.Kind.{Kind}
use Rattle.wy_tree.specs.declared.kind.Kind.TheVariants as kinds
use Rattle.wy_tree.specs.declared.tree.Form.{Form}
use Rattle.wy_tree.specs.declared.tree.Form.TheVariants as form
use Rattle.wy_tree.proofs.Tags.{same_is}
use Rattle.wy_syntax.specs.Syntax.{Literal, Name, This, Wrong}
use Rattle.wy_syntax.specs.Names.{is_leaf, word_of, updating, shifting}
use Rattle.wy_syntax.specs.Expressions.{leaf, is_mark, is_braced}
use Rattle.law_well_formed.proofs.Whole.{Names, Whole}

-- each leaf's name has the property
abbrev mutual
  pub Worded : Names → Ast → Type 0
  Worded P (Leaf o) = P (word_of o)
  Worded P (Node f parts) = AllWorded P parts

  pub AllWorded : Names → Asts → Type 0
  AllWorded P none = Unit {0}
  AllWorded P (more t rest) = Worded P t × AllWorded P rest

pub parts_worded : (P : Names) (f : Form) (ts : Asts) → Worded P (node f ts) → AllWorded P ts
parts_worded P f none h = h
parts_worded P f (more t none) h = (h, tt)
parts_worded P f (more t (more u rest)) h = h

-- ---- kinds

-- a kind is no other
pub alone : (k j i : Kind) → same k j ≡ true → same j i ≡ false → same k i ≡ false
alone k j i e other = let Q : Kind → Type 0 = λ x. same x i ≡ false in subst Q (sym (same_is k j e)) other

-- the kinds of operands that are tokens
abbrev pub is_operand : Kind → Bool
is_operand kinds.Word = true
is_operand kinds.Override = true
is_operand kinds.This = true
is_operand kinds.Literal = true
is_operand _ = false

pub operand : (k j : Kind) → same k j ≡ true → is_operand j ≡ true → is_operand k ≡ true
operand k j e h = let Q : Kind → Type 0 = λ x. is_operand x ≡ true in subst Q (sym (same_is k j e)) h

pub name_operand : (k : Kind) → is_name k ≡ true → is_operand k ≡ true
name_operand kinds.Word e = refl
name_operand kinds.Override e = refl
name_operand _ e = absurd cc

pub differ : (k j : Kind) → is_operand k ≡ true → is_operand j ≡ false → same k j ≡ false
differ k j h i = by (same k j) (same_is k j)
  where
    by : (b : Bool) → (b ≡ true → k ≡ j) → b ≡ false
    by true f = absurd (let e : true ≡ false = sym h ∙ ap is_operand (f refl) ∙ i in cc)
    by false f = refl

-- the forms of expressions
abbrev pub is_expressive : Form → Bool
is_expressive form.Expr = true
is_expressive form.Cond = true
is_expressive form.Binary = true
is_expressive form.Unary = true
is_expressive form.Cast = true
is_expressive form.Postfix = true
is_expressive form.Primary = true
is_expressive form.New = true
is_expressive _ = false

-- an operand, or an expression of parts
abbrev pub Plain : Ast → Type 0
Plain (Leaf o) = is_operand (kind_of o) ≡ true
Plain (Node f parts) = is_expressive f ≡ true

pub plain_leaf : (j : Kind) → is_operand j ≡ false → (t : Ast) → Plain t → is_leaf j t ≡ false
plain_leaf j i (Leaf o) h = differ (kind_of o) j h i
plain_leaf j i (Node f parts) h = refl

neither : (b c : Bool) → b ≡ false → c ≡ false → (b || c) ≡ false
neither true c e f = e
neither false c e f = f

pub plain_mark : (t : Ast) → Plain t → is_mark t ≡ false
plain_mark t h = neither (is_leaf kinds.Comma t) (is_leaf kinds.CloseBrace t) (plain_leaf kinds.Comma refl t h) (plain_leaf kinds.CloseBrace refl t h)

pub plain_braced : (t : Ast) → Plain t → is_braced t ≡ false
plain_braced (Leaf o) h = refl
plain_braced (Node form.Init parts) h = absurd cc
plain_braced (Node _ parts) h = refl

-- ---- leaves and operators

pub leaf_whole : (P : Names) (o : Tok) (n : ℕ) → is_operand (kind_of o) ≡ true → Whole P (leaf o n)
leaf_whole P o n = by (kind_of o)
  where
    by : (k : Kind) → is_operand k ≡ true →
        Whole P (if same k kinds.Word || same k kinds.Override then Name (word_of o) n else (if same k kinds.This then This n else (if same k kinds.Literal || same k kinds.Big then Literal o n else Wrong)))
    by kinds.Word e = tt
    by kinds.Override e = tt
    by kinds.This e = tt
    by kinds.Literal e = tt
    by _ e = absurd cc

pub big_whole : (P : Names) (o : Tok) (n : ℕ) → same (kind_of o) kinds.Big ≡ true → Whole P (leaf o n)
big_whole P o n = by (kind_of o)
  where
    by : (k : Kind) → same k kinds.Big ≡ true →
        Whole P (if same k kinds.Word || same k kinds.Override then Name (word_of o) n else (if same k kinds.This then This n else (if same k kinds.Literal || same k kinds.Big then Literal o n else Wrong)))
    by kinds.Big e = tt
    by _ e = absurd cc

either_operator : (b : Bool) (x y : BinOp) → is_comparison x ≡ false → is_comparison y ≡ false → is_comparison (if b then x else y) ≡ false
either_operator true x y h i = h
either_operator false x y h i = i

-- no compound assignment compares
pub updating_plain : (s : List ℕ) → is_comparison (updating s) ≡ false
unfolding updating shifting
updating_plain s =
    either_operator (bytes_eq s (codes "+=")) binary.Add _ refl
    (either_operator (bytes_eq s (codes "-=")) binary.Sub _ refl
    (either_operator (bytes_eq s (codes "*=")) binary.Mul _ refl
    (either_operator (bytes_eq s (codes "/=")) binary.Div _ refl
    (either_operator (bytes_eq s (codes "%=")) binary.Rem _ refl
    (either_operator (bytes_eq s (codes "<<=")) binary.Shl _ refl
    (either_operator (bytes_eq s (codes ">>=")) binary.Shr _ refl
    (either_operator (bytes_eq s (codes ">>>=")) binary.Ushr _ refl
    (either_operator (bytes_eq s (codes "&=")) binary.And _ refl
    (either_operator (bytes_eq s (codes "|=")) binary.Or binary.Xor refl refl)))))))))
