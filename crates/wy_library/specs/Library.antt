-- The bodies of the library's methods, as kernel forms; all their sites are that of the method, and their statements have the first numbers.
use Rattle.std.specs.Prelude.{ℕ, ◌+◌, ◌*◌, ◌-◌, ◌==◌, false, List, [], ◌∷◌, ◌++◌, map, flat_map, Option, Some, None, codes, unwrap_or, option_and_then, slice_get, if◌then◌else◌}
use Rattle.wy_kernel.specs.declared.types.Ty.{Ty}
use Rattle.wy_kernel.specs.declared.operator.BinOp.TheVariants as op
use Rattle.wy_kernel.specs.declared.form.CallForm.TheVariants as call
use Rattle.wy_kernel.specs.declared.form.LibOp.TheVariants as lib
use Rattle.wy_kernel.specs.Form.{Expression, Const, Null, Str, Read, Set, Bin, Call, Cat, Lib, Local, Field, the, Row, none, more, Statement, Stmt, Act, Block, Eval, If, Return, nothing, Statements, done, first}
use Rattle.wy_kernel.specs.Program.{Body, Class, string_class, object_class}
use Rattle.wy_kernel.specs.Program as part
use Rattle.wy_kernel.specs.Builtin.{method_site, throwable_class}
use Rattle.wy_kernel.specs.Builtin as builtin
use Rattle.wy_kernel.specs.Subtyping.{class_type}
use Rattle.wy_kernel.specs.View.{NONE}

abbrev pub library_local : ℕ → List ℕ → ℕ → part.Local
library_local m name class = record { name = name; site = method_site m; ty = class_type class }

-- a body by the number of its method and of its block, with `this` and the other locals
abbrev pub body_of : ℕ → ℕ → ℕ → List part.Local → Statements → Option Body
body_of m number class others parts = Some (record {
  block = Stmt number (method_site m) false NONE (Block parts);
  locals = library_local m (codes "this") class ∷ others;
  end = method_site m;
})

abbrev pub this_form : Expression
this_form = Read (Local 0)

abbrev pub other_form : Expression
other_form = Read (Local 1)

abbrev pub one : Expression → Row
one e = more e none

abbrev pub statement : ℕ → ℕ → Act → Statement
statement m number act = Stmt number (method_site m) false NONE act

abbrev pub only : Statement → Statements
only s = first s done

-- ---- Object and Throwable

abbrev pub object_to_string : Option Body
object_to_string = body_of 0 0 object_class [] (only (statement 0 1 (Return (the (Lib lib.ObjectText (one this_form) (method_site 0))))))

abbrev pub object_equals : Option Body
object_equals = body_of 1 2 object_class (library_local 1 (codes "o") object_class ∷ []) (only (statement 1 3 (Return (the (Bin op.Eq this_form other_form (method_site 1))))))

abbrev pub plain_throwable : Option Body
plain_throwable = body_of 2 4 throwable_class [] done

abbrev pub throwable_with_message : Option Body
throwable_with_message = body_of 3 5 throwable_class (library_local 3 (codes "m") string_class ∷ []) (only (statement 3 6 (Eval (Set (Field this_form 0 (method_site 3)) other_form (method_site 3)))))

abbrev pub get_message : Option Body
get_message = body_of 4 7 throwable_class [] (only (statement 4 8 (Return (the (Read (Field this_form 0 (method_site 4)))))))

abbrev pub class_text : Expression
class_text = Lib lib.ClassText (one this_form) (method_site 5)

abbrev pub text_type : Ty
text_type = class_type string_class

abbrev pub message_asked : Act
message_asked = Eval (Set (Local 1) (Call call.Chosen 4 (the this_form) (class_type throwable_class) none (method_site 5)) (method_site 5))

abbrev pub without_message : Act
without_message = If (Bin op.Eq other_form (Const Null) (method_site 5)) (statement 5 12 (Return (the class_text))) nothing

-- the class, `: ` and the message
abbrev pub with_message : Act
with_message = Return (the (Cat (Cat class_text (Str 0) text_type text_type (method_site 5)) other_form text_type text_type (method_site 5)))

-- the test guards a return, so it reaches to the end of the body
abbrev pub throwable_to_string : Option Body
throwable_to_string = body_of 5 9 throwable_class (library_local 5 (codes "text") string_class ∷ []) (
    first (statement 5 10 message_asked) (
    first (Stmt 11 (method_site 5) false 9 without_message) (
    only (statement 5 13 with_message))))

-- ---- the constructors of each class below Throwable

abbrev pub above_in_library : ℕ → ℕ
above_in_library c = unwrap_or (option_and_then (λ (k : Class). k.above) (slice_get builtin.classes c)) object_class

-- each calls the constructor of the superclass with the same parameters; d is the superclass, and the first two are Throwable's
abbrev pub first_constructor : ℕ → ℕ
first_constructor c = if c == throwable_class then 2 else 6 + 2 * (c - 3)

abbrev pub superclass_called : ℕ → ℕ → ℕ → Row → Act
superclass_called m k d args = Eval (Call call.Direct k (the this_form) (class_type d) args (method_site m))

abbrev pub plain_constructor : ℕ → ℕ → ℕ → Option Body
plain_constructor c m d = body_of m (14 + 4 * (c - 3)) c [] (only (statement m (15 + 4 * (c - 3)) (superclass_called m (first_constructor d) d none)))

abbrev pub constructor_with_message : ℕ → ℕ → ℕ → Option Body
constructor_with_message c m d = body_of m (16 + 4 * (c - 3)) c (library_local m (codes "m") string_class ∷ []) (
    only (statement m (17 + 4 * (c - 3)) (superclass_called m (first_constructor d + 1) d (one other_form))))

-- both constructors of a class c whose superclass is d
abbrev pub constructors_below : ℕ → ℕ → List (Option Body)
constructors_below c d = plain_constructor c (6 + 2 * (c - 3)) d ∷ constructor_with_message c (7 + 2 * (c - 3)) d ∷ []

-- those of classes one after another, by the number of the first and their superclasses
unfoldable pub constructors_from : ℕ → List ℕ → List (Option Body)
constructors_from c [] = []
constructors_from c (d ∷ rest) = constructors_below c d ++ constructors_from (c + 1) rest

abbrev pub constructors_of : ℕ → List (Option Body)
constructors_of c = constructors_below c (above_in_library c)

abbrev pub below_throwable : List ℕ
below_throwable = 3 ∷ 4 ∷ 5 ∷ 6 ∷ 7 ∷ 8 ∷ 9 ∷ 10 ∷ 11 ∷ 12 ∷ 13 ∷ 14 ∷ 15 ∷ 16 ∷ 17 ∷ []

-- by the numbers of the methods
unfoldable pub library_bodies : List (Option Body)
library_bodies =
    object_to_string ∷ object_equals ∷ plain_throwable ∷ throwable_with_message ∷ get_message ∷ throwable_to_string ∷
    flat_map constructors_of below_throwable

-- no class of the library has an initializer
unfoldable pub library_init_bodies : List (Option Body)
library_init_bodies = map (λ (k : Class). None) builtin.classes
