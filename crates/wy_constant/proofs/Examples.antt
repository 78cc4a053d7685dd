-- The values of some constant expressions, computed.
use Rattle.std.proofs.Common.{◌≡◌, ℕ, pos, negsuc, true, false, List, [], ◌∷◌, refl, Some, None, Err}
use Rattle.std.specs.Prelude.{codes}
use Rattle.std.specs.Int.{int_wrap}
use Rattle.wy_constant.specs.declared.rule.Rule.TheVariants.{Duplicate}
use Rattle.wy_kernel.specs.declared.operator.Primitive.TheVariants as prim
use Rattle.wy_kernel.specs.declared.operator.BinOp.TheVariants.{Add, Div, Eq, Shr}
use Rattle.wy_kernel.specs.Form as plain
use Rattle.wy_kernel.specs.Table.{Table, Simple, Text}
use Rattle.wy_kernel.specs.Program.{string_class}
use Rattle.wy_kernel.specs.Subtyping.{primitive_type, class_type, object_type}
use Rattle.wy_value.specs.declared.value.Value.TheVariants as value
use Rattle.wy_tree.specs.Seen as token
use Rattle.wy_syntax.specs.Syntax.{Expression, Basic, Literal, Name, Group, Field, Binary, Both, Cast, Choice, Invoke, none}
use Rattle.wy_constant.specs.Scope.{Scope, body_of, with_variable, opened, closed, declared}
use Rattle.wy_constant.specs.Refusal.{refused}
use Rattle.wy_constant.specs.Widening.{widens_to}
use Rattle.wy_constant.specs.Fields.{field_within}
use Rattle.wy_constant.specs.Constant.{constant, binary_constant, on_texts, cast_constant, choice_type, choice_constant, name_constant, can_name_class, member_constant, constant_variable}

no_classes : Table
no_classes = record { classes = []; methods = []; fields = []; constants = [] }

-- a static body with a final int `k` that is 7
abbrev with_k : Scope
with_k = with_variable (body_of 18 false) (codes "k") (primitive_type prim.Int) true (Some (Simple (plain.Int (pos 7))))

abbrev int : ℕ → Expression
int n = Literal (token.Int n true) 0

abbrev text : List ℕ → Expression
text units = Literal (token.Text units) 0

-- 0xffffffff
minus_one : constant no_classes with_k (Literal (token.Int 4294967295 false) 0) ≡ Some (Simple (plain.Int (negsuc 0)))
unfolding constant
minus_one = refl

-- "a" + 'b' is "ab"
joined : constant no_classes with_k (Binary Eq (Binary Add (text (97 ∷ [])) (Literal (token.Char 98) 2) 1) (text (97 ∷ 98 ∷ [])) 3) ≡ Some (Simple (plain.Truth true))
unfolding constant binary_constant on_texts
joined = refl

-- 1 / 0
by_zero : constant no_classes with_k (Binary Div (int 1) (int 0) 1) ≡ None
unfolding constant binary_constant
by_zero = refl

-- 8 >> 33L is an int
shift : constant no_classes with_k (Binary Shr (int 8) (Literal (token.Long 33 true) 2) 1) ≡ Some (Simple (plain.Int (pos 4)))
unfolding constant binary_constant
shift = refl

-- false && 1 / 0 == 1
no_part_divides_by_zero : constant no_classes with_k (Both (Literal (token.Key (codes "false")) 0) (Binary Eq (Binary Div (int 1) (int 0) 3) (int 1) 4) 1) ≡ None
unfolding constant binary_constant
no_part_divides_by_zero = refl

-- (byte) "a", and (boolean) true
no_number : constant no_classes with_k (Cast (record { base = Basic prim.Byte; token = 1; brackets = 0 }) (text (97 ∷ [])) 0) ≡ None
unfolding constant cast_constant
no_number = refl

same_type : constant no_classes with_k (Cast (record { base = Basic prim.Bool; token = 1; brackets = 0 }) (Literal (token.Key (codes "true")) 3) 0) ≡ Some (Simple (plain.Truth true))
unfolding constant cast_constant
same_type = refl

-- false ? "a" : 1
text_and_number : constant no_classes with_k (Choice (Literal (token.Key (codes "false")) 0) (text (97 ∷ [])) (int 1) 1) ≡ None
unfolding constant choice_constant
text_and_number = refl

-- 'a' and 1 make a char, for 1 is one; 'a' and -1 make an int
char_and_one : choice_type prim.Char None prim.Int (Some (value.Int (pos 1))) ≡ Some prim.Char
unfolding choice_type
char_and_one = refl

char_and_negative : choice_type prim.Char None prim.Int (Some (value.Int (negsuc 0))) ≡ Some prim.Int
unfolding choice_type
char_and_negative = refl

byte_and_short : choice_type prim.Byte None prim.Short None ≡ Some prim.Short
unfolding choice_type
byte_and_short = refl

-- a final variable
variable : constant no_classes with_k (Group (Name (codes "k") 1) 0) ≡ Some (Simple (plain.Int (pos 7)))
unfolding constant name_constant
variable = refl

-- Integer.MIN_VALUE
limit : constant no_classes with_k (Field (Name (codes "Integer") 0) (codes "MIN_VALUE") 2) ≡ Some (Simple (plain.Int (negsuc 2147483647)))
unfolding constant can_name_class member_constant field_within no_classes
limit = refl

-- null, and a call
null : constant no_classes with_k (Literal (token.Key (codes "null")) 0) ≡ None
unfolding constant
null = refl

call : constant no_classes with_k (Invoke (codes "f") none 1) ≡ None
unfolding constant
call = refl

-- a name that is in scope can't be declared again
again : declared with_k (codes "k") (primitive_type prim.Long) false None 5 ≡ Err (refused Duplicate 5)
again = refl

-- a block closes with its variables, and their numbers aren't given again
block : closed (with_variable (opened with_k) (codes "x") (primitive_type prim.Int) false None) ≡ record with_k { next = 2 }
unfolding closed
block = refl

-- final byte b = 'a', final byte b = 200, final char c = 1L, and final long n = 'a'
char_in_byte : constant_variable (primitive_type prim.Byte) (Simple (plain.Char 97)) ≡ Some (Simple (plain.Byte (pos 97)))
unfolding constant_variable widens_to int_wrap
char_in_byte = refl

too_much_for_a_byte : constant_variable (primitive_type prim.Byte) (Simple (plain.Int (pos 200))) ≡ None
unfolding constant_variable widens_to
too_much_for_a_byte = refl

long_in_char : constant_variable (primitive_type prim.Char) (Simple (plain.Long (pos 1))) ≡ None
unfolding constant_variable widens_to
long_in_char = refl

char_in_long : constant_variable (primitive_type prim.Long) (Simple (plain.Char 97)) ≡ Some (Simple (plain.Long (pos 97)))
unfolding constant_variable widens_to int_wrap
char_in_long = refl

-- final String s = "a", final Object o = "a", final int[] none
text_variable : constant_variable (class_type string_class) (Text (97 ∷ [])) ≡ Some (Text (97 ∷ []))
unfolding constant_variable
text_variable = refl

object_variable : constant_variable object_type (Text (97 ∷ [])) ≡ None
unfolding constant_variable
object_variable = refl
