-- What an expression is found to be, and the forms that parents make of it (JLS 5.2, 5.6, 15.28).
use Rattle.std.specs.Prelude.{ℕ, zero, Bool, min, List, [], ◌∷◌, Option, Some, None, Result, Ok, Err, bytes_eq, if◌then◌else◌}
use Rattle.std.specs.List.{position_or_len}
use Rattle.wy_kernel.specs.declared.operator.Primitive.{Primitive}
use Rattle.wy_kernel.specs.declared.types.Base.TheVariants.{Primitive as Basic}
use Rattle.wy_kernel.specs.declared.types.Ty.{Ty}
use Rattle.wy_kernel.specs.declared.types.Ty.TheVariants.{Null, Of}
use Rattle.wy_kernel.specs.Form.{Constant, Expression, Const, Str, Conv}
use Rattle.wy_kernel.specs.Program.{string_class, same_primitive}
use Rattle.wy_kernel.specs.Subtyping.{primitive_type, class_type}
use Rattle.wy_kernel.specs.Table.{ConstantValue, Simple, Text}
use Rattle.wy_value.specs.Conversion.{converted}
use Rattle.wy_constant.specs.declared.rule.Rule.{Rule}
use Rattle.wy_constant.specs.Refusal.{Refusal, refused}
use Rattle.wy_constant.specs.Scope.{FixedText}
use Rattle.wy_constant.specs.Constant.{value_of, constant_in, primitive_of}

-- a constant with the first token of its expression, of which no form is made yet; or a form with its type
pub data Meaning : Type 0 where
  Known : (value : ConstantValue) (token : ℕ) → Meaning
  Formed : (form : Expression) (ty : Ty) → Meaning

abbrev pub text_type : Ty
text_type = class_type string_class

abbrev pub type_of_primitive : Option Primitive → Ty
type_of_primitive (Some p) = primitive_type p
type_of_primitive None = Null

abbrev pub constant_type : ConstantValue → Ty
constant_type (Simple c) = type_of_primitive (primitive_of (value_of c))
constant_type (Text units) = text_type

abbrev pub type_of : Meaning → Ty
type_of (Known value token) = constant_type value
type_of (Formed form ty) = ty

-- ---- texts

abbrev pub has_units : List ℕ → FixedText → Bool
has_units units t = bytes_eq t.units units

-- the texts, with one that a form holds whose first token is this one
abbrev pub listed : List FixedText → List ℕ → ℕ → List FixedText
listed [] units token = record { units = units; token = token } ∷ []
listed (t ∷ rest) units token = if has_units units t then record t { token = min t.token token } ∷ rest else t ∷ listed rest units token

abbrev pub text_number : List FixedText → List ℕ → ℕ
text_number texts units = position_or_len (has_units units) texts

-- ---- what is found with these texts, and the texts after it; or a refusal

abbrev pub Gets : Type 0 → Type 0
Gets A = List FixedText → Result (A × List FixedText) Refusal

abbrev pub give : {A : Type 0} → A → Gets A
give x = λ texts. Ok (x, texts)

abbrev pub refuse : {A : Type 0} → Rule → ℕ → Gets A
refuse rule token = λ texts. Err (refused rule token)

abbrev pub onward : {A B : Type 0} → (A → Gets B) → Result (A × List FixedText) Refusal → Result (B × List FixedText) Refusal
onward f (Ok p) = f p.0 p.1
onward f (Err e) = Err e

infixl 10 ◌>>=◌
abbrev pub ◌>>=◌ : {A B : Type 0} → Gets A → (A → Gets B) → Gets B
m >>= f = λ texts. onward f (m texts)

-- ---- forms of a type

-- a value of the second type as one of the first: a Conv stands only where a primitive type changes
unfoldable pub converted_form : Ty → Ty → Expression → Expression
converted_form (Of (Basic to) zero) (Of (Basic from) zero) e = if same_primitive to from then e else Conv to e
converted_form to from e = e

abbrev pub constant_for : Ty → Constant → Constant
constant_for (Of (Basic to) zero) c = constant_in (converted to (value_of c))
constant_for to c = c

-- one form of the target type; a text is its place among the texts
unfoldable pub brought : Ty → Meaning → Gets Expression
brought to (Known (Text units) token) = λ texts. (let all = listed texts units token in Ok (Str (text_number all units), all))
brought to (Known (Simple c) token) = give (Const (constant_for to c))
brought to (Formed form from) = give (converted_form to from form)

-- one form of its own type
abbrev pub formed : Meaning → Gets Expression
formed m = brought (type_of m) m
