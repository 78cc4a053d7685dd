-- What statements make of the expressions in them (JLS 14.8, 14.9, 14.12 to 14.14, 14.17, 14.18).
use Rattle.std.specs.Prelude.{ℕ, Bool, true, false, List, [], ◌∷◌, Option, Some, None, bytes_eq, codes, slice_get, if◌then◌else◌}
use Rattle.wy_kernel.specs.declared.types.Ty.{Ty}
use Rattle.wy_kernel.specs.declared.types.Ty.TheVariants.{Void}
use Rattle.wy_kernel.specs.declared.form.CallForm.TheVariants as call
use Rattle.wy_kernel.specs.Form.{Act, Eval, Print, absent, the}
use Rattle.wy_kernel.specs.Form as kernel
use Rattle.wy_kernel.specs.Program.{Method}
use Rattle.wy_kernel.specs.Builtin.{throwable_class}
use Rattle.wy_kernel.specs.Subtyping.{class_type}
use Rattle.wy_kernel.specs.Table.{Table}
use Rattle.wy_syntax.specs.Syntax.{Expression, WrittenType, Row, Initial, Value, Listed, Named}
use Rattle.wy_syntax.specs.Syntax as source
use Rattle.wy_constant.specs.declared.rule.Rule.TheVariants.{NoMethod, BadOperand, BadReturn, Private}
use Rattle.wy_constant.specs.Scope.{Scope}
use Rattle.wy_constant.specs.Fields.{class_named}
use Rattle.wy_elab_expr.specs.Meaning.{Meaning, type_of, Gets, give, refuse, ◌>>=◌, brought, formed}
use Rattle.wy_elab_expr.specs.Operators.{Judgement, is_void, is_boolean, boolean_type, is_assignable}
use Rattle.wy_elab_expr.specs.Members.{this_form, is_outside, brought_all, method_for, some_void}
use Rattle.wy_elab_expr.specs.Elaboration.{Stream, Input, Output, stream_in, Printed, print_operand, elaborated, elaborated_all, class_for_new}

-- ---- conditions

-- the test of a statement with this site
unfoldable pub condition : Judgement → Table → Expression → ℕ → Scope → Gets kernel.Expression
condition j t e site s = do
  m ← elaborated j t s e
  (if is_boolean (type_of m) then brought boolean_type m else refuse BadOperand site)

-- ---- expressions that are statements (JLS 14.8)

abbrev pub evaluated : Judgement → Table → Scope → Expression → Gets Act
evaluated j t s e = do
  m ← elaborated j t s e
  form ← formed m
  give (Eval form)

abbrev pub ends_line : List ℕ → Bool
ends_line name = bytes_eq name (codes "println")

abbrev pub print_of : List ℕ → ℕ → Option Printed → Act
print_of name token None = Print absent Void (ends_line name) token
print_of name token (Some p) = Print (the p.form) p.ty (ends_line name) token

abbrev pub is_output : Option Stream → Bool
is_output (Some Output) = true
is_output (Some Input) = false
is_output None = false

-- a call of `print` or `println` of `System.out`, or of another of its methods
unfoldable pub is_output_call : Table → Scope → Expression → Bool
is_output_call t s (source.InvokeOn object name args token) = is_output (stream_in t s object)
is_output_call t s _ = false

unfoldable pub printing : Judgement → Table → Scope → Expression → Gets Act
printing j t s (source.InvokeOn object name args token) = do
  ms ← elaborated_all j t s args
  p ← print_operand name ms token
  give (print_of name token p)
printing j t s e = refuse BadOperand 0

-- it is a Print
unfoldable pub performed : Judgement → Table → Expression → Scope → Gets Act
performed j t e s = if is_output_call t s e then printing j t s e else evaluated j t s e

-- ---- `return` and `throw`

-- what a body may give back: nothing, a value of a type, or it has no `return`
pub data Outcome : Type 0 where
  NoValue : Outcome
  ValueOf : Ty → Outcome
  NoReturn : Outcome

abbrev pub returned_as : Judgement → Outcome → Meaning → ℕ → Gets kernel.Expression
returned_as j (ValueOf ty) m token =
    if is_void (type_of m) then refuse BadOperand token
    else (if is_assignable j ty m then brought ty m else refuse BadReturn token)
returned_as j NoValue m token = refuse BadReturn token
returned_as j NoReturn m token = refuse BadReturn token

unfoldable pub returned : Judgement → Table → Outcome → Expression → ℕ → Scope → Gets kernel.Expression
returned j t outcome e token s = do
  m ← elaborated j t s e
  returned_as j outcome m token

abbrev pub returns_nothing : Outcome → Bool
returns_nothing NoValue = true
returns_nothing (ValueOf ty) = false
returns_nothing NoReturn = false

-- an object that is thrown is a Throwable, or null
unfoldable pub thrown : Judgement → Table → Expression → ℕ → Scope → Gets kernel.Expression
thrown j t e token s = do
  m ← elaborated j t s e
  (if j.below (type_of m) (class_type throwable_class) then formed m else refuse BadOperand token)

-- the class of a clause of a `try`, by the site of its parameter
unfoldable pub caught_class : Judgement → Table → Named → ℕ → Scope → Gets ℕ
caught_class j t n site s = class_for_new (class_named t.classes n.name) n.token

abbrev pub is_throwable : Judgement → ℕ → Bool
is_throwable j class = j.below (class_type class) (class_type throwable_class)

-- ---- calls of constructors by constructors (JLS 8.8.7.1)

abbrev pub constructor_form : ℕ → ℕ → kernel.Row → ℕ → kernel.Expression
constructor_form class k args site = kernel.Call call.Direct k (the this_form) (class_type class) args site

abbrev pub constructed_by : Scope → ℕ → ℕ → Option Method → List Meaning → ℕ → Gets kernel.Expression
constructed_by s class k None ms token = refuse NoMethod token
constructed_by s class k (Some m) ms token =
    if is_outside s m.is_private m.class then refuse Private token
    else (do
      es ← brought_all m.params ms
      give (constructor_form class k es token))

-- a call of a constructor of a class on `this`
unfoldable pub constructor_called : Judgement → Table → ℕ → List Meaning → ℕ → Scope → Gets kernel.Expression
constructor_called j t class ms token s = do
  k ← method_for j (class_type class) (codes "new") ms token
  constructed_by s class k (slice_get t.methods k) ms token

-- the same with arguments that are written
unfoldable pub constructor_call : Judgement → Table → ℕ → Row → ℕ → Scope → Gets kernel.Expression
constructor_call j t class args token s = do
  ms ← elaborated_all j t s args
  constructor_called j t class ms token s

-- Object has no constructor to call: its call is no statement, and takes no argument
abbrev pub none_for_object : List Meaning → ℕ → Gets Unit
none_for_object [] token = give tt
none_for_object (m ∷ rest) token = refuse (if some_void (m ∷ rest) then BadOperand else NoMethod) token

unfoldable pub object_called : Judgement → Table → Row → ℕ → Scope → Gets Unit
object_called j t args token s = do
  ms ← elaborated_all j t s args
  none_for_object ms token
