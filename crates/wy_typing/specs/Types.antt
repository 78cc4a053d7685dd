-- Where a value of a type may stand, and what operators and operations of the library take and give (JLS 4.10, 5.2, 5.5, 5.6, 15.15 to 15.22).
use Rattle.std.specs.Prelude.{◌≡◌, ◌⊎◌, ℕ, zero, suc, true, false, List, [], ◌∷◌, Some, slice_get}
use Rattle.wy_kernel.specs.declared.operator.Primitive.{Primitive}
use Rattle.wy_kernel.specs.declared.operator.Primitive.TheVariants as prim
use Rattle.wy_kernel.specs.declared.operator.BinOp.{BinOp}
use Rattle.wy_kernel.specs.declared.types.Base.{Base}
use Rattle.wy_kernel.specs.declared.types.Base.TheVariants.{Primitive as Basic}
use Rattle.wy_kernel.specs.declared.types.Ty.{Ty}
use Rattle.wy_kernel.specs.declared.types.Ty.TheVariants.{Void, Null, Of}
use Rattle.wy_kernel.specs.declared.form.LibOp.{LibOp}
use Rattle.wy_kernel.specs.declared.form.LibOp.TheVariants as lib
use Rattle.wy_kernel.specs.Form.{Constant, Truth, Byte, Short, Char, Int, Long}
use Rattle.wy_kernel.specs.Form as form
use Rattle.wy_kernel.specs.Program.{Class, string_class}
use Rattle.wy_kernel.specs.Subtyping.{IsReference, Below, primitive_type, class_type, object_type}
use Rattle.wy_value.specs.Operator.{is_shift, is_equality, is_comparison, is_logical}

abbrev pub boolean_type : Ty
boolean_type = primitive_type prim.Bool

abbrev pub char_type : Ty
char_type = primitive_type prim.Char

abbrev pub int_type : Ty
int_type = primitive_type prim.Int

abbrev pub long_type : Ty
long_type = primitive_type prim.Long

abbrev pub text_type : Ty
text_type = class_type string_class

-- ---- kinds of types

-- not the result of a method that gives no value
abbrev pub IsValueType : Ty → Type 0
IsValueType Void = ⊥
IsValueType Null = Unit {0}
IsValueType (Of base brackets) = Unit {0}

-- a type that can be written, which variables have
abbrev pub IsVariableType : Ty → Type 0
IsVariableType Void = ⊥
IsVariableType Null = ⊥
IsVariableType (Of base brackets) = Unit {0}

-- the values of the type are references and null
abbrev pub IsNullable : Ty → Type 0
IsNullable a = (a ≡ Null) ⊎ IsReference a

abbrev pub IsNumber : Primitive → Type 0
IsNumber prim.Bool = ⊥
IsNumber _ = Unit {0}

-- a type that numbers are promoted to
abbrev pub IsPromoted : Primitive → Type 0
IsPromoted prim.Int = Unit {0}
IsPromoted prim.Long = Unit {0}
IsPromoted _ = ⊥

abbrev pub constant_type : Constant → Ty
constant_type form.Null = Null
constant_type (Truth b) = boolean_type
constant_type (Byte z) = primitive_type prim.Byte
constant_type (Short z) = primitive_type prim.Short
constant_type (Char n) = char_type
constant_type (Int z) = int_type
constant_type (Long z) = long_type

-- ---- where a value may stand

-- a value of the first type may stand where one of the second is wanted: a primitive one as it is, null and a reference as a reference at or
-- above it (JLS 5.2)
abbrev pub Fits : List Class → Ty → Ty → Type 0
Fits classes a b = (a ≡ b) ⊎ (IsReference b × Below classes a b)

-- the first is an interface, and the second an interface or a class that isn't final: one object may be of both
abbrev pub MayMeet : List Class → ℕ → ℕ → Type 0
MayMeet classes c d =
    (k : Class) × (l : Class) × (slice_get classes c ≡ Some k) × (slice_get classes d ≡ Some l)
    × (k.is_interface ≡ true) × ((l.is_interface ≡ true) ⊎ (l.is_final ≡ false))

-- references of the first type may be cast to the second (JLS 5.5)
pub data CastsTo (classes : List Class) : Ty → Ty → Type 0 where
  up : {a b : Ty} → IsNullable a → IsNullable b → Below classes a b → CastsTo classes a b
  down : {a b : Ty} → IsNullable a → IsNullable b → Below classes b a → CastsTo classes a b
  from_interface : {c d : ℕ} → MayMeet classes c d → CastsTo classes (class_type c) (class_type d)
  to_interface : {c d : ℕ} → MayMeet classes d c → CastsTo classes (class_type c) (class_type d)
  of_elements : {a b : Base} {m n : ℕ} → IsReference (Of a m) → IsReference (Of b n) → CastsTo classes (Of a m) (Of b n) → CastsTo classes (Of a (suc m)) (Of b (suc n))

-- ---- promotion (JLS 5.6)

-- a number of the first type becomes one of the second
pub data Promotes : Primitive → Primitive → Type 0 where
  of_byte : Promotes prim.Byte prim.Int
  of_short : Promotes prim.Short prim.Int
  of_char : Promotes prim.Char prim.Int
  of_int : Promotes prim.Int prim.Int
  of_long : Promotes prim.Long prim.Long

-- both become long where one of them is, and else int
pub data PromoteTogether : Primitive → Primitive → Primitive → Type 0 where
  ints : {p q : Primitive} → Promotes p prim.Int → Promotes q prim.Int → PromoteTogether p q prim.Int
  long_left : {q r : Primitive} → Promotes q r → PromoteTogether prim.Long q prim.Long
  long_right : {p r : Primitive} → Promotes p r → PromoteTogether p prim.Long prim.Long

-- ---- operators, on operands that are promoted

-- of these operands the operator makes a value of the last type (JLS 15.17 to 15.22)
pub data Operates (classes : List Class) : BinOp → Ty → Ty → Ty → Type 0 where
  on_numbers : {op : BinOp} {p : Primitive} → is_shift op ≡ false → is_comparison op ≡ false → IsPromoted p → Operates classes op (primitive_type p) (primitive_type p) (primitive_type p)
  shifting : {op : BinOp} {p q : Primitive} → is_shift op ≡ true → IsPromoted p → IsPromoted q → Operates classes op (primitive_type p) (primitive_type q) (primitive_type p)
  comparing : {op : BinOp} {p : Primitive} → is_comparison op ≡ true → IsPromoted p → Operates classes op (primitive_type p) (primitive_type p) boolean_type
  on_booleans : {op : BinOp} → is_logical op ≡ true → Operates classes op boolean_type boolean_type boolean_type
  on_references : {op : BinOp} {a b : Ty} → is_equality op ≡ true → IsNullable a → IsNullable b → CastsTo classes a b → Operates classes op a b boolean_type

-- a compound assignment to a variable of the first type, with a right side of the second, is done in the third (JLS 15.26.2)
pub data UpdatesIn : BinOp → Primitive → Primitive → Primitive → Type 0 where
  as_numbers : {op : BinOp} {p q wide : Primitive} → is_shift op ≡ false → is_comparison op ≡ false → PromoteTogether p q wide → UpdatesIn op p q wide
  as_shift : {op : BinOp} {p q wide distance : Primitive} → is_shift op ≡ true → Promotes p wide → Promotes q distance → UpdatesIn op p q wide
  as_booleans : {op : BinOp} → is_logical op ≡ true → is_equality op ≡ false → UpdatesIn op prim.Bool prim.Bool prim.Bool

-- `+` joins them: one is a text, and the other has a value (JLS 15.18.1)
abbrev pub Joins : Ty → Ty → Type 0
Joins a b = ((a ≡ text_type) × IsValueType b) ⊎ (IsValueType a × (b ≡ text_type))

-- a value of the type is printed: not null as such, no chars, and byte and short as int
abbrev pub IsPrinted : Ty → Type 0
IsPrinted Void = ⊥
IsPrinted Null = ⊥
IsPrinted (Of (Basic prim.Byte) zero) = ⊥
IsPrinted (Of (Basic prim.Short) zero) = ⊥
IsPrinted (Of (Basic prim.Char) (suc zero)) = ⊥
IsPrinted (Of base brackets) = Unit {0}

-- ---- the library (java.lang)

-- of arguments of these types the operation makes a value of the last type; the receiver is the first
pub data Offers : LibOp → List Ty → Ty → Type 0 where
  array_length : {base : Base} {brackets : ℕ} → Offers lib.ArrayLength (Of base (suc brackets) ∷ []) int_type
  length : Offers lib.Length (text_type ∷ []) int_type
  is_empty : Offers lib.IsEmpty (text_type ∷ []) boolean_type
  char_at : Offers lib.CharAt (text_type ∷ int_type ∷ []) char_type
  part_from : Offers lib.PartFrom (text_type ∷ int_type ∷ []) text_type
  part : Offers lib.Part (text_type ∷ int_type ∷ int_type ∷ []) text_type
  same : Offers lib.Same (text_type ∷ object_type ∷ []) boolean_type
  compare : Offers lib.Compare (text_type ∷ text_type ∷ []) int_type
  itself : Offers lib.Itself (text_type ∷ []) text_type
  char_text : Offers lib.ValueOf (char_type ∷ []) text_type
  int_value : Offers lib.ValueOf (int_type ∷ []) text_type
  long_text : Offers lib.ValueOf (long_type ∷ []) text_type
  boolean_text : Offers lib.ValueOf (boolean_type ∷ []) text_type
  parse_int : Offers lib.ParseInt (text_type ∷ []) int_type
  int_text : Offers lib.IntText (int_type ∷ []) text_type
  abs_int : Offers lib.Abs (int_type ∷ []) int_type
  abs_long : Offers lib.Abs (long_type ∷ []) long_type
  max_int : Offers lib.Max (int_type ∷ int_type ∷ []) int_type
  max_long : Offers lib.Max (long_type ∷ long_type ∷ []) long_type
  min_int : Offers lib.Min (int_type ∷ int_type ∷ []) int_type
  min_long : Offers lib.Min (long_type ∷ long_type ∷ []) long_type
  read_byte : Offers lib.ReadByte [] int_type
  class_text : Offers lib.ClassText (object_type ∷ []) text_type
  object_text : Offers lib.ObjectText (object_type ∷ []) text_type
