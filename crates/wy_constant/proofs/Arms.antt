-- The value of a constant expression, at each of its forms in memory.
use Rattle.std.proofs.Common.{◌≡◌, ap, ℕ, ◌&&◌, ◌||◌}
use Rattle.std.specs.Prelude.{string_bytes, option_and_then}
use Rattle.std.specs.declared.alloc.Global.{Global}
use Rattle.std.specs.declared.boxed.Box.{Box}
use Rattle.std.specs.declared.string.String.{String}
use Rattle.wy_kernel.specs.declared.operator.UnOp.{UnOp}
use Rattle.wy_kernel.specs.declared.operator.BinOp.{BinOp}
use Rattle.wy_kernel.specs.Table.{Table}
use Rattle.wy_tree.specs.declared.token.Token.{Token}
use Rattle.wy_tree.specs.Seen.{seen}
use Rattle.wy_syntax.specs.declared.name.WrittenType.{WrittenType}
use Rattle.wy_syntax.specs.declared.expression.Expression.{Expression}
use Rattle.wy_syntax.specs.declared.expression.Expression.TheVariants as form
use Rattle.wy_syntax.specs.View.{expression_of, type_seen}
use Rattle.wy_constant.specs.Scope.{Scope}
use Rattle.wy_constant.specs.Constant.{constant, literal, name_constant, qualified, name_in, unary_constant, both, binary_constant, combined, truth, cast_constant, choice_constant}
use Rattle.wy_constant.proofs.Views.{view_literal, view_name, view_group, view_field, view_unary, view_binary, view_both, view_either, view_cast, view_choice}

pub of_literal : (t : Table) (s : Scope) (value : Token) (token : ℕ) → constant t s (expression_of (form.Literal value token)) ≡ literal (seen value)
unfolding constant
of_literal t s value token = ap (constant t s) (view_literal value token)

pub of_name : (t : Table) (s : Scope) (name : String Global) (token : ℕ) → constant t s (expression_of (form.Name name token)) ≡ name_constant t s (string_bytes name)
unfolding constant
of_name t s name token = ap (constant t s) (view_name name token)

pub of_group : (t : Table) (s : Scope) (inner : Box Expression Global) (token : ℕ) → constant t s (expression_of (form.Group inner token)) ≡ constant t s (expression_of inner.value)
unfolding constant
of_group t s inner token = ap (constant t s) (view_group inner token)

pub of_field : (t : Table) (s : Scope) (object : Box Expression Global) (name : String Global) (token : ℕ) → constant t s (expression_of (form.Field object name token)) ≡ qualified t s (name_in (expression_of object.value)) (string_bytes name)
unfolding constant
of_field t s object name token = ap (constant t s) (view_field object name token)

pub of_unary : (t : Table) (s : Scope) (op : UnOp) (operand : Box Expression Global) (token : ℕ) → constant t s (expression_of (form.Unary op operand token)) ≡ option_and_then (unary_constant op) (constant t s (expression_of operand.value))
unfolding constant
of_unary t s op operand token = ap (constant t s) (view_unary op operand token)

pub of_binary : (t : Table) (s : Scope) (op : BinOp) (left right : Box Expression Global) (token : ℕ) → constant t s (expression_of (form.Binary op left right token)) ≡ both (binary_constant op) (constant t s (expression_of left.value)) (constant t s (expression_of right.value))
unfolding constant
of_binary t s op left right token = ap (constant t s) (view_binary op left right token)

pub of_both : (t : Table) (s : Scope) (left right : Box Expression Global) (token : ℕ) → constant t s (expression_of (form.Both left right token)) ≡ combined (λ a b. a && b) (option_and_then truth (constant t s (expression_of left.value))) (option_and_then truth (constant t s (expression_of right.value)))
unfolding constant
of_both t s left right token = ap (constant t s) (view_both left right token)

pub of_either : (t : Table) (s : Scope) (left right : Box Expression Global) (token : ℕ) → constant t s (expression_of (form.Either left right token)) ≡ combined (λ a b. a || b) (option_and_then truth (constant t s (expression_of left.value))) (option_and_then truth (constant t s (expression_of right.value)))
unfolding constant
of_either t s left right token = ap (constant t s) (view_either left right token)

pub of_cast : (t : Table) (s : Scope) (ty : WrittenType) (operand : Box Expression Global) (token : ℕ) → constant t s (expression_of (form.Cast ty operand token)) ≡ option_and_then (cast_constant (type_seen ty)) (constant t s (expression_of operand.value))
unfolding constant
of_cast t s ty operand token = ap (constant t s) (view_cast ty operand token)

pub of_choice : (t : Table) (s : Scope) (test main other : Box Expression Global) (token : ℕ) → constant t s (expression_of (form.Choice test main other token)) ≡ choice_constant (option_and_then truth (constant t s (expression_of test.value))) (constant t s (expression_of main.value)) (constant t s (expression_of other.value))
unfolding constant
of_choice t s test main other token = ap (constant t s) (view_choice test main other token)
