-- Constant expressions and their values (JLS 15.28).
use Rattle.std.specs.Prelude.{ℕ, zero, suc, ℤ, pos, negsuc, Bool, true, false, not, ◌&&◌, ◌||◌, ◌==◌, List, ◌++◌, length, Option, Some, None, option_map, option_and_then, is_some, codes, bytes_eq, int_le, if◌then◌else◌}
use Rattle.std.specs.Int.{w32, w64, cast_signed}
use Rattle.wy_kernel.specs.declared.operator.Primitive.{Primitive}
use Rattle.wy_kernel.specs.declared.operator.Primitive.TheVariants as prim
use Rattle.wy_kernel.specs.declared.operator.UnOp.{UnOp}
use Rattle.wy_kernel.specs.declared.operator.BinOp.{BinOp}
use Rattle.wy_kernel.specs.declared.operator.BinOp.TheVariants.{Add, Eq, Ne}
use Rattle.wy_kernel.specs.declared.types.Base.TheVariants.{Primitive as BasicType, Class as Named}
use Rattle.wy_kernel.specs.declared.types.Ty.{Ty}
use Rattle.wy_kernel.specs.declared.types.Ty.TheVariants.{Of}
use Rattle.wy_kernel.specs.Form.{Constant}
use Rattle.wy_kernel.specs.Form as plain
use Rattle.wy_kernel.specs.Table.{Table, ConstantValue, Simple, Text}
use Rattle.wy_value.specs.declared.value.Value.{Value}
use Rattle.wy_value.specs.declared.value.Value.TheVariants as value
use Rattle.wy_value.specs.Operator.{is_shift, fits_unary, unary_of, fits_binary, binary_of}
use Rattle.wy_value.specs.Conversion.{can_convert, converted, number_of}
use Rattle.wy_value.specs.Numeral.{text_of}
use Rattle.wy_tree.specs.Seen.{Tok, Key, Int, Long, Char}
use Rattle.wy_tree.specs.Seen as token
use Rattle.wy_syntax.specs.Syntax.{Expression, WrittenType, Base, Basic, Class, Literal, Name, Group, Field, Unary, Binary, Both, Either, Cast, Choice}
use Rattle.wy_constant.specs.Scope.{Scope, Variable, denoted}
use Rattle.wy_constant.specs.Widening.{widens_to}
use Rattle.wy_constant.specs.Fields.{class_named, field_of, field_constant}

-- ---- constants as values, on which operators work

abbrev pub value_of : Constant → Value
value_of plain.Null = value.Null
value_of (plain.Truth b) = value.Bool b
value_of (plain.Byte z) = value.Byte z
value_of (plain.Short z) = value.Short z
value_of (plain.Char n) = value.Char n
value_of (plain.Int z) = value.Int z
value_of (plain.Long z) = value.Long z

-- a reference and no value are no constants
abbrev pub constant_in : Value → Constant
constant_in (value.Bool b) = plain.Truth b
constant_in (value.Byte z) = plain.Byte z
constant_in (value.Short z) = plain.Short z
constant_in (value.Char n) = plain.Char n
constant_in (value.Int z) = plain.Int z
constant_in (value.Long z) = plain.Long z
constant_in _ = plain.Null

abbrev pub simple : Value → ConstantValue
simple v = Simple (constant_in v)

-- the value of a constant that is no text, and the units of one that is
abbrev pub simple_in : ConstantValue → Option Value
simple_in (Simple c) = Some (value_of c)
simple_in (Text units) = None

abbrev pub text_in : ConstantValue → Option (List ℕ)
text_in (Simple c) = None
text_in (Text units) = Some units

-- how many units a text has
abbrev pub text_length : Option ConstantValue → ℕ
text_length (Some (Text units)) = length units
text_length (Some (Simple c)) = 0
text_length None = 0

-- a text, and the text of a primitive value (JLS 5.1.11)
abbrev pub units_of : ConstantValue → List ℕ
units_of (Text units) = units
units_of (Simple c) = text_of (value_of c)

-- ---- literals (JLS 15.8.1)

abbrev pub keyword : List ℕ → Option ConstantValue
keyword word = if bytes_eq word (codes "true") then Some (simple (value.Bool true))
    else (if bytes_eq word (codes "false") then Some (simple (value.Bool false)) else None)

-- the number of a literal is that of its 32 or 64 bits
abbrev pub literal : Tok → Option ConstantValue
literal (Int bits decimal) = Some (simple (value.Int (cast_signed w32 bits)))
literal (Long bits decimal) = Some (simple (value.Long (cast_signed w64 bits)))
literal (Char unit) = Some (simple (value.Char unit))
literal (token.Text units) = Some (Text units)
literal (Key word) = keyword word
literal _ = None

-- ---- promotion of numbers (JLS 5.6)

abbrev pub promoted : Value → Value
promoted (value.Byte z) = value.Int z
promoted (value.Short z) = value.Int z
promoted (value.Char n) = value.Int (pos n)
promoted v = v

-- v beside another operand: it becomes a long where that is one
abbrev pub beside : Value → Value → Value
beside (value.Long z) v = converted prim.Long v
beside _ v = promoted v

-- ---- operators

abbrev pub unary_value : UnOp → Value → Option Value
unary_value op v = if fits_unary op v then Some (unary_of op v) else None

-- none where an operand doesn't fit, or a divisor is zero
abbrev pub binary_value : BinOp → Value → Value → Option Value
binary_value op a b = if fits_binary op a b then binary_of op a b else None

-- each operand of a shift is promoted by itself (JLS 15.19)
abbrev pub operated : BinOp → Value → Value → Option Value
operated op a b = if is_shift op then binary_value op (promoted a) (promoted b) else binary_value op (beside b a) (beside a b)

abbrev pub same_text : Option (List ℕ) → Option (List ℕ) → Option Bool
same_text (Some a) (Some b) = Some (bytes_eq a b)
same_text _ _ = None

abbrev pub as_truth : Option Bool → Option ConstantValue
as_truth b = option_map (λ p. simple (value.Bool p)) b

-- `+` joins where an operand is a text, and texts are equal by their units (JLS 15.18.1, 15.21.3)
unfoldable pub on_texts : BinOp → ConstantValue → ConstantValue → Option ConstantValue
on_texts Add a b = Some (Text (units_of a ++ units_of b))
on_texts Eq a b = as_truth (same_text (text_in a) (text_in b))
on_texts Ne a b = as_truth (option_map not (same_text (text_in a) (text_in b)))
on_texts _ a b = None

abbrev pub binary_in : BinOp → Option Value → Option Value → ConstantValue → ConstantValue → Option ConstantValue
binary_in op (Some x) (Some y) a b = option_map simple (operated op x y)
binary_in op _ _ a b = on_texts op a b

unfoldable pub binary_constant : BinOp → ConstantValue → ConstantValue → Option ConstantValue
binary_constant op a b = binary_in op (simple_in a) (simple_in b) a b

unfoldable pub unary_constant : UnOp → ConstantValue → Option ConstantValue
unary_constant op c = option_and_then (λ v. option_map simple (unary_value op (promoted v))) (simple_in c)

abbrev pub truth : ConstantValue → Option Bool
truth (Simple (plain.Truth b)) = Some b
truth _ = None

-- `&&` and `||`
abbrev pub combined : (Bool → Bool → Bool) → Option Bool → Option Bool → Option ConstantValue
combined f (Some a) (Some b) = Some (simple (value.Bool (f a b)))
combined f _ _ = None

-- ---- casts (JLS 5.5)

abbrev pub converted_value : Primitive → Value → Option Value
converted_value to v = if can_convert to v then Some (converted to v) else None

abbrev pub cast_base : Base → ConstantValue → Option ConstantValue
cast_base (Basic p) c = option_and_then (λ v. option_map simple (converted_value p v)) (simple_in c)
cast_base (Class name) c = if bytes_eq name (codes "String") then option_map Text (text_in c) else None

-- a constant is cast to a primitive type or to String
unfoldable pub cast_constant : WrittenType → ConstantValue → Option ConstantValue
cast_constant type c = if type.brackets == 0 then cast_base type.base c else None

-- ---- `?:` (JLS 15.25)

abbrev pub is_between : ℤ → ℤ → ℤ → Bool
is_between least greatest z = int_le least z && int_le z greatest

-- byte, short or char has this number
abbrev pub has_number : Primitive → ℤ → Bool
has_number prim.Byte z = is_between (negsuc 127) (pos 127) z
has_number prim.Short z = is_between (negsuc 32767) (pos 32767) z
has_number prim.Char z = is_between (pos 0) (pos 65535) z
has_number _ z = false

abbrev pub primitive_of : Value → Option Primitive
primitive_of (value.Bool b) = Some prim.Bool
primitive_of (value.Byte z) = Some prim.Byte
primitive_of (value.Short z) = Some prim.Short
primitive_of (value.Char n) = Some prim.Char
primitive_of (value.Int z) = Some prim.Int
primitive_of (value.Long z) = Some prim.Long
primitive_of _ = None

-- an int that byte, short or char has
abbrev pub fits : Primitive → Option Value → Bool
fits p (Some (value.Int z)) = has_number p z
fits p _ = false

-- the type of two numbers, or of two booleans
abbrev pub joint : Primitive → Primitive → Option Primitive
joint prim.Bool prim.Bool = Some prim.Bool
joint prim.Bool _ = None
joint _ prim.Bool = None
joint prim.Byte prim.Byte = Some prim.Byte
joint prim.Byte prim.Short = Some prim.Short
joint prim.Short prim.Byte = Some prim.Short
joint prim.Short prim.Short = Some prim.Short
joint prim.Char prim.Char = Some prim.Char
joint prim.Long _ = Some prim.Long
joint _ prim.Long = Some prim.Long
joint _ _ = Some prim.Int

-- the type of `?:` by the types of its last two operands, and the values of those that are constants
unfoldable pub choice_type : Primitive → Option Value → Primitive → Option Value → Option Primitive
choice_type p a q b = if fits p b then Some p else (if fits q a then Some q else joint p q)

abbrev pub joint_type : Value → Option Primitive → Value → Option Primitive → Option Primitive
joint_type a (Some p) b (Some q) = choice_type p (Some a) q (Some b)
joint_type a _ b _ = None

-- the chosen operand, converted to the type of both
abbrev pub chosen_value : Bool → Value → Value → Option ConstantValue
chosen_value test a b =
    option_and_then (λ p. option_map simple (converted_value p (if test then a else b))) (joint_type a (primitive_of a) b (primitive_of b))

abbrev pub is_text : ConstantValue → Bool
is_text (Text units) = true
is_text (Simple c) = false

abbrev pub chosen_text : Bool → ConstantValue → ConstantValue → Option ConstantValue
chosen_text test a b = if is_text a && is_text b then Some (if test then a else b) else None

abbrev pub chosen_in : Bool → Option Value → Option Value → ConstantValue → ConstantValue → Option ConstantValue
chosen_in test (Some x) (Some y) a b = chosen_value test x y
chosen_in test _ _ a b = chosen_text test a b

unfoldable pub choice_constant : Option Bool → Option ConstantValue → Option ConstantValue → Option ConstantValue
choice_constant (Some test) (Some a) (Some b) = chosen_in test (simple_in a) (simple_in b) a b
choice_constant _ _ _ = None

-- ---- constant variables (JLS 4.12.4, 5.2)

abbrev pub fits_number : Primitive → Option ℤ → Bool
fits_number p (Some z) = has_number p z
fits_number p None = false

-- a byte, short, char or int that byte, short or char has
abbrev pub constant_fits : Primitive → Value → Bool
constant_fits p (value.Long z) = false
constant_fits p v = fits_number p (number_of v)

abbrev pub widens_from : Option Primitive → Primitive → Bool
widens_from (Some q) p = widens_to q p
widens_from None p = false

-- the value in a variable of a primitive type, where it may be assigned to one
abbrev pub assigned_value : Primitive → Value → Option Value
assigned_value p v = if widens_from (primitive_of v) p || constant_fits p v then converted_value p v else None

-- the value of a constant variable of a type whose initializer has this value; none where the type is another, or the value may not be assigned
unfoldable pub constant_variable : Ty → ConstantValue → Option ConstantValue
constant_variable (Of (BasicType p) zero) (Simple c) = option_map simple (assigned_value p (value_of c))
constant_variable (Of (Named (suc zero)) zero) (Text units) = Some (Text units)
constant_variable ty c = None

-- ---- names (JLS 6.5.6)

abbrev pub field_value : Table → Option ℕ → Option ConstantValue
field_value t (Some field) = field_constant t field
field_value t None = None

abbrev pub variable_value : Table → ℕ → List ℕ → Option Variable → Option ConstantValue
variable_value t class name (Some v) = v.constant
variable_value t class name None = field_value t (field_of t class name)

-- a name is that of a local, or else of a field
unfoldable pub name_constant : Table → Scope → List ℕ → Option ConstantValue
name_constant t s name = variable_value t s.class name (denoted s name)

-- no local and no field has the name, so that it can be that of a class
unfoldable pub can_name_class : Table → Scope → List ℕ → Bool
can_name_class t s name = not (is_some (denoted s name) || is_some (field_of t s.class name))

abbrev pub limit : Value → Value → List ℕ → Option ConstantValue
limit greatest least name = if bytes_eq name (codes "MAX_VALUE") then Some (simple greatest)
    else (if bytes_eq name (codes "MIN_VALUE") then Some (simple least) else None)

abbrev pub class_value : Table → Option ℕ → List ℕ → Option ConstantValue
class_value t (Some class) name = field_value t (field_of t class name)
class_value t None name = None

-- the constant that a class has by a name
unfoldable pub member_constant : Table → List ℕ → List ℕ → Option ConstantValue
member_constant t class name =
    if bytes_eq class (codes "Integer") then limit (value.Int (pos 2147483647)) (value.Int (negsuc 2147483647)) name
    else (if bytes_eq class (codes "Long") then limit (value.Long (pos 9223372036854775807)) (value.Long (negsuc 9223372036854775807)) name
    else class_value t (class_named t.classes class) name)

abbrev pub qualified : Table → Scope → Option (List ℕ) → List ℕ → Option ConstantValue
qualified t s (Some class) name = if can_name_class t s class then member_constant t class name else None
qualified t s None name = None

-- the name that an expression is
abbrev pub name_in : Expression → Option (List ℕ)
name_in (Name name token) = Some name
name_in _ = None

-- ---- expressions

abbrev pub both : (ConstantValue → ConstantValue → Option ConstantValue) → Option ConstantValue → Option ConstantValue → Option ConstantValue
both f (Some a) (Some b) = f a b
both f _ _ = None

-- the value of an expression, where it is a constant one
unfoldable pub constant : Table → Scope → Expression → Option ConstantValue
constant t s (Literal value token) = literal value
constant t s (Name name token) = name_constant t s name
constant t s (Group inner token) = constant t s inner
constant t s (Field object name token) = qualified t s (name_in object) name
constant t s (Unary op operand token) = option_and_then (unary_constant op) (constant t s operand)
constant t s (Binary op left right token) = both (binary_constant op) (constant t s left) (constant t s right)
constant t s (Both left right token) = combined (λ a b. a && b) (option_and_then truth (constant t s left)) (option_and_then truth (constant t s right))
constant t s (Either left right token) = combined (λ a b. a || b) (option_and_then truth (constant t s left)) (option_and_then truth (constant t s right))
constant t s (Cast ty operand token) = option_and_then (cast_constant ty) (constant t s operand)
constant t s (Choice test main other token) = choice_constant (option_and_then truth (constant t s test)) (constant t s main) (constant t s other)
constant t s _ = None
