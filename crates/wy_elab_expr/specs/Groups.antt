-- Which forms of expressions are left where others were looked for.
use Rattle.std.specs.Prelude.{Bool, true, false}
use Rattle.wy_syntax.specs.Syntax.{Expression}
use Rattle.wy_syntax.specs.Syntax as source

-- neither a value by itself, a name, a field nor an element
abbrev pub is_no_place : Expression → Bool
is_no_place (source.Literal value token) = false
is_no_place (source.Name name token) = false
is_no_place (source.This token) = false
is_no_place (source.Group inner token) = false
is_no_place (source.Field object name token) = false
is_no_place (source.SuperField name token) = false
is_no_place (source.Element array index token) = false
is_no_place _ = true

-- nor a call, an object or an array that is made
abbrev pub is_no_call : Expression → Bool
is_no_call (source.Unary op operand token) = true
is_no_call (source.Binary op left right token) = true
is_no_call (source.Both left right token) = true
is_no_call (source.Either left right token) = true
is_no_call (source.InstanceOf left ty token) = true
is_no_call (source.Cast ty operand token) = true
is_no_call (source.Step is_before is_up operand token) = true
is_no_call (source.Choice test main other token) = true
is_no_call (source.Assign left value token) = true
is_no_call (source.Update op left value token) = true
is_no_call source.Wrong = true
is_no_call _ = false

-- nor an operator on values alone
abbrev pub is_no_operator : Expression → Bool
is_no_operator (source.Step is_before is_up operand token) = true
is_no_operator (source.Choice test main other token) = true
is_no_operator (source.Assign left value token) = true
is_no_operator (source.Update op left value token) = true
is_no_operator source.Wrong = true
is_no_operator _ = false

-- no expression
abbrev pub is_wrong : Expression → Bool
is_wrong source.Wrong = true
is_wrong _ = false
