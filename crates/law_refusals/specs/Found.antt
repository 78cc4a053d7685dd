-- What an expression is found to be, and the expressions that stand in one (JLS 6.5, 15).
use Rattle.std.specs.Prelude.{◌≡◌, ◌||◌, ℕ, List, [], ◌∷◌, ◌++◌, Option, Some, None, is_some, Ok, if◌then◌else◌}
use Rattle.std.specs.List.{Contains}
use Rattle.wy_kernel.specs.declared.types.Ty.{Ty}
use Rattle.wy_kernel.specs.declared.types.Base.TheVariants.{Primitive as Basic, Class as Named}
use Rattle.wy_kernel.specs.declared.types.Ty.TheVariants.{Of}
use Rattle.wy_kernel.specs.declared.operator.Primitive.{Primitive}
use Rattle.wy_kernel.specs.Table.{Table}
use Rattle.wy_syntax.specs.Syntax.{Expression, Row, none, more, Initial, Value, Listed, Elements, no_more, element, Literal, Name, This, Group, Invoke, Field, InvokeOn, SuperField, SuperInvoke, Element, NewObject, NewArray, NewList, Unary, Step, Binary, Both, Either, InstanceOf, Cast, Choice, Assign, Update, Wrong}
use Rattle.wy_syntax.specs.Syntax as source
use Rattle.wy_constant.specs.Scope.{Scope, FixedText}
use Rattle.wy_constant.specs.Fields.{class_named}
use Rattle.wy_elab_expr.specs.Meaning.{Meaning}
use Rattle.wy_elab_expr.specs.Operators.{Judgement}
use Rattle.wy_elab_expr.specs.Members.{Spot}
use Rattle.wy_elab_expr.specs.Elaboration.{elaborated, target, class_in, stream_in, element_of}

-- ---- what is found

-- the expression has a meaning, whatever texts stand before it
pub record IsFound (j : Judgement) (t : Table) (s : Scope) (e : Expression) (m : Meaning) : Type 0 where
  pub before : List FixedText
  pub after : List FixedText
  pub found : elaborated j t s e before ≡ Ok (m, after)

-- expressions in order have these meanings
pub data AreFound (j : Judgement) (t : Table) (s : Scope) : Row → List Meaning → Type 0 where
  none_found : AreFound j t s none []
  more_found : {e : Expression} {rest : Row} {m : Meaning} {ms : List Meaning} → IsFound j t s e m → AreFound j t s rest ms → AreFound j t s (more e rest) (m ∷ ms)

-- the expression denotes this variable, or none
pub record Denotes (j : Judgement) (t : Table) (s : Scope) (e : Expression) (p : Option Spot) : Type 0 where
  pub before : List FixedText
  pub after : List FixedText
  pub found : target j t s e before ≡ Ok (p, after)

-- a written type with so many pairs of brackets is this one
pub data IsType (t : Table) : source.Base → ℕ → Ty → Type 0 where
  of_primitive : {p : Primitive} {brackets : ℕ} → IsType t (source.Basic p) brackets (Of (Basic p) brackets)
  of_class : {name : List ℕ} {c brackets : ℕ} → class_named t.classes name ≡ Some c → IsType t (source.Class name) brackets (Of (Named c) brackets)

-- a written type names a class that is none
pub data IsNoType (t : Table) : source.Base → Type 0 where
  unknown : {name : List ℕ} → class_named t.classes name ≡ None → IsNoType t (source.Class name)

-- ---- what stands in an expression

abbrev pub listed : Row → List Expression
listed none = []
listed (more e rest) = e ∷ listed rest

-- the values in braces, also in braces within them
abbrev mutual
  pub values_in : Elements → List Expression
  values_in no_more = []
  values_in (element before first rest) = values_of first ++ values_in rest

  pub values_of : Initial → List Expression
  values_of (Value e) = e ∷ []
  values_of (Listed elements brace) = values_in elements

-- the expressions that stand directly in one, from left to right; a class's name before a dot is none, and neither is `System.in` or `System.out` before a call
abbrev pub operands : Table → Scope → Expression → List Expression
operands t s (Literal value token) = []
operands t s (Name name token) = []
operands t s (This token) = []
operands t s (Group inner token) = inner ∷ []
operands t s (Invoke name args token) = listed args
operands t s (Field object name token) = if is_some (class_in t s object) then [] else object ∷ []
operands t s (InvokeOn object name args token) = if is_some (stream_in t s object) || is_some (class_in t s object) then listed args else object ∷ listed args
operands t s (SuperField name token) = []
operands t s (SuperInvoke name args token) = listed args
operands t s (Element array index token) = array ∷ index ∷ []
operands t s (NewObject class args token) = listed args
operands t s (NewArray base base_token sizes brackets token) = listed sizes
operands t s (NewList base base_token brackets elements brace token) = values_in elements
operands t s (Unary op operand token) = operand ∷ []
operands t s (Step is_before is_up operand token) = operand ∷ []
operands t s (Binary op left right token) = left ∷ right ∷ []
operands t s (Both left right token) = left ∷ right ∷ []
operands t s (Either left right token) = left ∷ right ∷ []
operands t s (InstanceOf left ty token) = left ∷ []
operands t s (Cast ty operand token) = operand ∷ []
operands t s (Choice test main other token) = test ∷ main ∷ other ∷ []
operands t s (Assign left value token) = left ∷ value ∷ []
operands t s (Update op left value token) = left ∷ value ∷ []
operands t s Wrong = []

-- the first expression stands in the second, or is it
pub data Within (t : Table) (s : Scope) : Expression → Expression → Type 0 where
  itself : {e : Expression} → Within t s e e
  inside : {part operand whole : Expression} → Contains (operands t s whole) operand → Within t s part operand → Within t s part whole

-- ---- array initializers (JLS 10.6)

-- an element with the token before it is one of these
pub data IsAmong (before : ℕ) (first : Initial) : Elements → Type 0 where
  here : {rest : Elements} → IsAmong before first (element before first rest)
  later : {other : ℕ} {front : Initial} {rest : Elements} → IsAmong before first rest → IsAmong before first (element other front rest)

-- the first initializer, for a variable of its type and behind its token, is the second one or stands in its braces
pub data Fills (inner_type : Ty) (inner : Initial) (at : ℕ) : Ty → Initial → ℕ → Type 0 where
  itself : Fills inner_type inner at inner_type inner at
  deeper : {ty of_elements : Ty} {elements : Elements} {brace token before : ℕ} {first : Initial} → element_of ty ≡ Some of_elements → IsAmong before first elements →
      Fills inner_type inner at of_elements first before → Fills inner_type inner at ty (Listed elements brace) token
