-- The types that operators take and give, and the forms of operations (JLS 15.15, 15.17 to 15.25).
use Rattle.std.specs.Prelude.{◌≡◌, ◌↔◌, ℕ, zero, suc, Bool, true, false, not, ◌&&◌, ◌||◌, List, Option, Some, None, option_map, option_and_then, Result, Ok, Err, IsTrue, slice_get, length, if◌then◌else◌}
use Rattle.wy_kernel.specs.declared.operator.Primitive.{Primitive}
use Rattle.wy_kernel.specs.declared.operator.Primitive.TheVariants as prim
use Rattle.wy_kernel.specs.declared.operator.UnOp.{UnOp}
use Rattle.wy_kernel.specs.declared.operator.UnOp.TheVariants.{Not}
use Rattle.wy_kernel.specs.declared.operator.BinOp.{BinOp}
use Rattle.wy_kernel.specs.declared.operator.BinOp.TheVariants.{Add, And, Or, Xor}
use Rattle.wy_kernel.specs.declared.types.Base.{Base}
use Rattle.wy_kernel.specs.declared.types.Base.TheVariants.{Primitive as Basic, Class as Named}
use Rattle.wy_kernel.specs.declared.types.Ty.{Ty}
use Rattle.wy_kernel.specs.declared.types.Ty.TheVariants.{Void, Null, Of}
use Rattle.wy_kernel.specs.declared.form.CondForm.{CondForm}
use Rattle.wy_kernel.specs.declared.form.CondForm.TheVariants as cond
use Rattle.wy_kernel.specs.Form.{Expression, Un, Bin, Cat, Cond, Cast, InstanceOf, absent, the}
use Rattle.wy_kernel.specs.Program.{Class, class_of_type}
use Rattle.wy_kernel.specs.Subtyping.{Below, primitive_type, class_type, object_type}
use Rattle.wy_kernel.specs.Table.{Table, ConstantValue, Simple, Text}
use Rattle.wy_value.specs.declared.value.Value.{Value}
use Rattle.wy_value.specs.Operator.{is_shift, is_equality, is_comparison}
use Rattle.wy_constant.specs.declared.rule.Rule.{Rule}
use Rattle.wy_constant.specs.declared.rule.Rule.TheVariants.{BadOperand, BadCast}
use Rattle.wy_overloads.specs.Choice.{Chosen, Refused}
use Rattle.wy_constant.specs.Constant.{value_of, unary_constant, binary_constant, choice_constant, choice_type, combined, truth, converted_value, constant_fits, simple, simple_in}
use Rattle.wy_elab_expr.specs.Meaning.{Meaning, Known, Formed, type_of, text_type, Gets, give, refuse, ◌>>=◌, brought, formed}

-- ---- what a table settles: which type is below which, and the method that a call means

pub record Judgement : Type 0 where
  pub below : Ty → Ty → Bool
  pub choice : Ty → List ℕ → List Ty → Result ℕ Rule

-- it is settled by the rules of subtyping and of choice
pub record Settles (t : Table) (j : Judgement) : Type 0 where
  pub below : (a b : Ty) → IsTrue (j.below a b) ↔ Below t.classes a b
  pub chosen : (ty : Ty) (name : List ℕ) (arguments : List Ty) (m : ℕ) → (j.choice ty name arguments ≡ Ok m) ↔ Chosen t ty name arguments m
  pub refused : (ty : Ty) (name : List ℕ) (arguments : List Ty) (rule : Rule) → (j.choice ty name arguments ≡ Err rule) ↔ Refused t ty name arguments rule

-- ---- kinds of types

abbrev pub primitive_in : Ty → Option Primitive
primitive_in (Of (Basic p) zero) = Some p
primitive_in _ = None

abbrev pub is_void : Ty → Bool
is_void Void = true
is_void _ = false

-- a reference, or null
abbrev pub is_nullable : Ty → Bool
is_nullable Void = false
is_nullable Null = true
is_nullable (Of (Named c) brackets) = true
is_nullable (Of (Basic p) (suc brackets)) = true
is_nullable (Of (Basic p) zero) = false

abbrev pub is_boolean : Ty → Bool
is_boolean (Of (Basic prim.Bool) zero) = true
is_boolean _ = false

abbrev pub is_text_type : Ty → Bool
is_text_type (Of (Named (suc zero)) zero) = true
is_text_type _ = false

-- ---- promotion of types (JLS 5.6)

abbrev pub promoted_type : Primitive → Option Primitive
promoted_type prim.Bool = None
promoted_type prim.Long = Some prim.Long
promoted_type _ = Some prim.Int

abbrev pub wide : Option Primitive → Option Primitive → Option Primitive
wide (Some prim.Long) (Some q) = Some prim.Long
wide (Some p) (Some prim.Long) = Some prim.Long
wide (Some p) (Some q) = Some prim.Int
wide _ _ = None

abbrev pub number_type : Ty → Option Primitive
number_type ty = option_and_then promoted_type (primitive_in ty)

abbrev pub both_numbers : Ty → Ty → Option Primitive
both_numbers a b = wide (number_type a) (number_type b)

-- ---- casts that are allowed (JLS 5.5, without the rules on methods)

abbrev pub class_of : Table → ℕ → Option Class
class_of t c = slice_get t.classes c

abbrev pub is_interface : Option Class → Bool
is_interface (Some c) = c.is_interface
is_interface None = false

abbrev pub is_open : Option Class → Bool
is_open (Some c) = c.is_interface || not c.is_final
is_open None = false

-- one is an interface, and the other an interface or a class that isn't final
abbrev pub may_meet : Table → Base → Base → Bool
may_meet t (Named c) (Named d) = is_interface (class_of t c) && is_open (class_of t d) || is_interface (class_of t d) && is_open (class_of t c)
may_meet t _ _ = false

abbrev pub is_related : Judgement → Ty → Ty → Bool
is_related j a b = is_nullable a && is_nullable b && (j.below a b || j.below b a)

-- arrays of references are cast as their elements are
abbrev pub can_cast_bases : Judgement → Table → Base → ℕ → Base → ℕ → Bool
can_cast_bases j t a zero b zero = is_related j (Of a zero) (Of b zero) || may_meet t a b
can_cast_bases j t a (suc m) b (suc n) = is_related j (Of a (suc m)) (Of b (suc n)) || can_cast_bases j t a m b n
can_cast_bases j t a m b n = is_related j (Of a m) (Of b n)

abbrev pub can_cast_reference : Judgement → Table → Ty → Ty → Bool
can_cast_reference j t (Of a m) (Of b n) = can_cast_bases j t a m b n
can_cast_reference j t a b = is_related j a b

abbrev pub can_cast_primitive : Primitive → Primitive → Bool
can_cast_primitive prim.Bool prim.Bool = true
can_cast_primitive prim.Bool q = false
can_cast_primitive p prim.Bool = false
can_cast_primitive p q = true

abbrev pub can_cast_by : Judgement → Table → Ty → Option Primitive → Ty → Option Primitive → Bool
can_cast_by j t a (Some p) b (Some q) = can_cast_primitive p q
can_cast_by j t a None b None = can_cast_reference j t a b
can_cast_by j t a _ b _ = false

unfoldable pub can_cast : Judgement → Table → Ty → Ty → Bool
can_cast j t a b = can_cast_by j t a (primitive_in a) b (primitive_in b)

-- ---- assignment (JLS 5.2)

-- a constant whose value fits may be assigned to byte, short or char
abbrev pub fits_into : Ty → Meaning → Bool
fits_into (Of (Basic p) zero) (Known (Simple c) token) = constant_fits p (value_of c)
fits_into to m = false

unfoldable pub is_assignable : Judgement → Ty → Meaning → Bool
is_assignable j to m = not (is_void (type_of m)) && (j.below (type_of m) to || fits_into to m)

-- ---- unary operators

abbrev pub unary_type : UnOp → Ty → Option Primitive
unary_type Not ty = if is_boolean ty then Some prim.Bool else None
unary_type op ty = number_type ty

abbrev pub unary_known : UnOp → Meaning → Option ConstantValue
unary_known op (Known c token) = unary_constant op c
unary_known op (Formed form ty) = None

abbrev pub unary_formed : UnOp → Option Primitive → Meaning → ℕ → Gets Meaning
unary_formed op None m token = refuse BadOperand token
unary_formed op (Some p) m token = do
  e ← brought (primitive_type p) m
  give (Formed (Un op e) (primitive_type p))

abbrev pub known_or : Option ConstantValue → ℕ → Gets Meaning → Gets Meaning
known_or (Some c) token other = give (Known c token)
known_or None token other = other

unfoldable pub unary_of : UnOp → Meaning → ℕ → Gets Meaning
unary_of op m token = known_or (unary_known op m) token (unary_formed op (unary_type op (type_of m)) m token)

-- ---- binary operators

-- the types that the operands are brought to, and that of the result
pub record OperandTypes : Type 0 where
  pub left : Ty
  pub right : Ty
  pub outcome : Ty

abbrev pub boolean_type : Ty
boolean_type = primitive_type prim.Bool

abbrev pub of_one_type : Ty → Option Primitive → Option OperandTypes
of_one_type outcome (Some p) = Some (record { left = primitive_type p; right = primitive_type p; outcome = outcome })
of_one_type outcome None = None

abbrev pub of_number : Option Primitive → Option OperandTypes
of_number (Some p) = of_one_type (primitive_type p) (Some p)
of_number None = None

-- each operand by itself, and the result as the left one (JLS 15.19)
abbrev pub of_shift : Option Primitive → Option Primitive → Option OperandTypes
of_shift (Some p) (Some q) = Some (record { left = primitive_type p; right = primitive_type q; outcome = primitive_type p })
of_shift _ _ = None

abbrev pub booleans : Ty → Ty → Option Primitive
booleans a b = if is_boolean a && is_boolean b then Some prim.Bool else None

abbrev pub or_else : Option OperandTypes → Option OperandTypes → Option OperandTypes
or_else (Some o) other = Some o
or_else None other = other

-- references are compared where a cast between them is allowed (JLS 15.21.3)
abbrev pub of_references : Judgement → Table → Ty → Ty → Option OperandTypes
of_references j t a b =
    if is_nullable a && is_nullable b && can_cast j t a b then Some (record { left = a; right = b; outcome = boolean_type }) else None

abbrev pub is_bitwise : BinOp → Bool
is_bitwise And = true
is_bitwise Or = true
is_bitwise Xor = true
is_bitwise _ = false

unfoldable pub operand_types : Judgement → Table → BinOp → Ty → Ty → Option OperandTypes
operand_types j t op a b =
    if is_shift op then of_shift (number_type a) (number_type b)
    else (if is_equality op then or_else (of_one_type boolean_type (both_numbers a b)) (or_else (of_one_type boolean_type (booleans a b)) (of_references j t a b))
    else (if is_comparison op then of_one_type boolean_type (both_numbers a b)
    else (if is_bitwise op then or_else (of_number (both_numbers a b)) (of_one_type boolean_type (booleans a b))
    else of_number (both_numbers a b))))

-- `+` with a text on either side
abbrev pub joins : BinOp → Ty → Ty → Bool
joins Add a b = not (is_void a) && not (is_void b) && (is_text_type a || is_text_type b)
joins _ a b = false

abbrev pub binary_known : BinOp → Meaning → Meaning → Option ConstantValue
binary_known op (Known a s) (Known b u) = binary_constant op a b
binary_known op _ _ = None

-- the first token of a constant
abbrev pub token_of : Meaning → ℕ
token_of (Known c token) = token
token_of (Formed form ty) = 0

abbrev pub binary_formed : BinOp → Option OperandTypes → Meaning → Meaning → ℕ → Gets Meaning
binary_formed op None a b token = refuse BadOperand token
binary_formed op (Some types) a b token = do
  x ← brought types.left a
  y ← brought types.right b
  give (Formed (Bin op x y token) types.outcome)

-- operands that are joined keep their types
abbrev pub joined : Meaning → Meaning → ℕ → Gets Meaning
joined a b token = do
  x ← formed a
  y ← formed b
  give (Formed (Cat x y (type_of a) (type_of b) token) text_type)

unfoldable pub binary_of : Judgement → Table → BinOp → Meaning → Meaning → ℕ → Gets Meaning
binary_of j t op a b token = known_or (binary_known op a b) (token_of a)
    (if joins op (type_of a) (type_of b) then joined a b token else binary_formed op (operand_types j t op (type_of a) (type_of b)) a b token)

-- ---- `&&`, `||` and `?:`

abbrev pub truth_known : Meaning → Option Bool
truth_known (Known c token) = truth c
truth_known (Formed form ty) = None

abbrev pub lazy_form : CondForm → Expression → Expression → ℕ → Expression
lazy_form cond.And x y token = Cond cond.And x (the y) absent token
lazy_form form x y token = Cond form x absent (the y) token

abbrev pub lazy_formed : CondForm → Meaning → Meaning → ℕ → Gets Meaning
lazy_formed form a b token = do
  x ← brought boolean_type a
  y ← brought boolean_type b
  give (Formed (lazy_form form x y token) boolean_type)

unfoldable pub lazy_of : CondForm → (Bool → Bool → Bool) → Meaning → Meaning → ℕ → Gets Meaning
lazy_of form f a b token = known_or (combined f (truth_known a) (truth_known b)) (token_of a)
    (if is_boolean (type_of a) && is_boolean (type_of b) then lazy_formed form a b token else refuse BadOperand token)

abbrev pub value_known : Meaning → Option Value
value_known (Known c token) = simple_in c
value_known (Formed form ty) = None

-- the nearest class from c upward that the other type is below; no line of superclasses is longer than there are classes
unfoldable pub nearest_above : Judgement → Table → ℕ → Option ℕ → Ty → Ty
nearest_above j t zero c other = object_type
nearest_above j t (suc longest) None other = object_type
nearest_above j t (suc longest) (Some c) other =
    if j.below other (class_type c) then class_type c else nearest_above j t longest (option_and_then (λ k. k.above) (class_of t c)) other

abbrev pub is_class_type : Table → Ty → Bool
is_class_type t (Of (Named c) zero) = not (is_interface (class_of t c))
is_class_type t _ = false

-- of two references the upper one; else the nearest common superclass, which is Object where one is an interface or an array
abbrev pub common_type : Judgement → Table → Ty → Ty → Ty
common_type j t a b =
    if j.below a b then b else (if j.below b a then a
    else (if is_class_type t a && is_class_type t b then nearest_above j t (length t.classes) (Some (class_of_type a)) b else object_type))

abbrev pub choice_result : Judgement → Table → Meaning → Option Primitive → Meaning → Option Primitive → Option Ty
choice_result j t a (Some p) b (Some q) = option_map primitive_type (choice_type p (value_known a) q (value_known b))
choice_result j t a None b None = if is_nullable (type_of a) && is_nullable (type_of b) then Some (common_type j t (type_of a) (type_of b)) else None
choice_result j t a _ b _ = None

abbrev pub choice_formed : Option Ty → Meaning → Meaning → Meaning → ℕ → Gets Meaning
choice_formed None test a b token = refuse BadOperand token
choice_formed (Some ty) test a b token = do
  z ← brought boolean_type test
  x ← brought ty a
  y ← brought ty b
  give (Formed (Cond cond.Choice z (the x) (the y) token) ty)

abbrev pub constant_of : Meaning → Option ConstantValue
constant_of (Known c token) = Some c
constant_of (Formed form ty) = None

unfoldable pub choice_of : Judgement → Table → Meaning → Meaning → Meaning → ℕ → Gets Meaning
choice_of j t test a b token = known_or (choice_constant (truth_known test) (constant_of a) (constant_of b)) (token_of test)
    (if is_boolean (type_of test) then choice_formed (choice_result j t a (primitive_in (type_of a)) b (primitive_in (type_of b))) test a b token else refuse BadOperand token)

-- ---- casts and `instanceof` (JLS 15.16, 15.20.2)

abbrev pub cast_known : Ty → Meaning → Option ConstantValue
cast_known (Of (Basic p) zero) (Known c token) = option_and_then (λ v. option_map simple (converted_value p v)) (simple_in c)
cast_known ty (Known (Text units) token) = if is_text_type ty then Some (Text units) else None
cast_known ty m = None

-- a cast to a primitive type is a Conv, or nothing; one to a reference is a Cast
abbrev pub cast_form : Ty → Option Primitive → Meaning → ℕ → Gets Meaning
cast_form to (Some p) m token = do
  e ← brought to m
  give (Formed e to)
cast_form to None m token = do
  e ← formed m
  give (Formed (Cast to e token) to)

unfoldable pub cast_of : Judgement → Table → Ty → Meaning → ℕ → Gets Meaning
cast_of j t to m token =
    if is_void (type_of m) then refuse BadOperand token
    else known_or (cast_known to m) token (if can_cast j t (type_of m) to then cast_form to (primitive_in to) m token else refuse BadCast token)

abbrev pub tested : Ty → Meaning → Gets Meaning
tested ty m = do
  e ← formed m
  give (Formed (InstanceOf ty e) boolean_type)

unfoldable pub instance_of : Judgement → Table → Ty → Meaning → ℕ → Gets Meaning
instance_of j t ty m token =
    if is_void (type_of m) then refuse BadOperand token
    else (if is_nullable (type_of m) && is_nullable ty && can_cast j t (type_of m) ty then tested ty m else refuse BadCast token)
