-- What an expression in memory says, at the forms that constant expressions are built of.
use Rattle.std.proofs.Common.{◌≡◌, ap, sym, ◌∙◌, ℕ}
use Rattle.std.specs.Prelude.{string_bytes}
use Rattle.std.specs.declared.alloc.Global.{Global}
use Rattle.std.specs.declared.boxed.Box.{Box}
use Rattle.std.specs.declared.string.String.{String}
use Rattle.wy_kernel.specs.declared.operator.UnOp.{UnOp}
use Rattle.wy_kernel.specs.declared.operator.BinOp.{BinOp}
use Rattle.wy_tree.specs.declared.token.Token.{Token}
use Rattle.wy_tree.specs.Seen.{seen}
use Rattle.wy_syntax.specs.declared.name.WrittenType.{WrittenType}
use Rattle.wy_syntax.specs.declared.expression.Expression.{Expression}
use Rattle.wy_syntax.specs.declared.expression.Expression.TheOpen as layer
use Rattle.wy_syntax.specs.declared.expression.Expression.TheVariants as form
use Rattle.wy_syntax.specs.declared.expression.Expression.TheFolds.{fold-roll-Expression}
use Rattle.wy_syntax.specs.Syntax as plain
use Rattle.wy_syntax.specs.View.{Before, expression_of, expression_step, initial_step, element_step, type_seen}

pub view_literal : (value : Token) (token : ℕ) → expression_of (form.Literal value token) ≡ plain.Literal (seen value) token
unfolding expression_of
view_literal value token = ap expression_of (sym (form.rolls-Literal value token)) ∙ fold-roll-Expression plain.Expression plain.Initial Before expression_step initial_step element_step (layer.Literal value token)

pub view_name : (name : String Global) (token : ℕ) → expression_of (form.Name name token) ≡ plain.Name (string_bytes name) token
unfolding expression_of
view_name name token = ap expression_of (sym (form.rolls-Name name token)) ∙ fold-roll-Expression plain.Expression plain.Initial Before expression_step initial_step element_step (layer.Name name token)

pub view_group : (inner : Box Expression Global) (token : ℕ) → expression_of (form.Group inner token) ≡ plain.Group (expression_of inner.value) token
unfolding expression_of
view_group inner token = ap expression_of (sym (form.rolls-Group inner token)) ∙ fold-roll-Expression plain.Expression plain.Initial Before expression_step initial_step element_step (layer.Group inner token)

pub view_field : (object : Box Expression Global) (name : String Global) (token : ℕ) → expression_of (form.Field object name token) ≡ plain.Field (expression_of object.value) (string_bytes name) token
unfolding expression_of
view_field object name token = ap expression_of (sym (form.rolls-Field object name token)) ∙ fold-roll-Expression plain.Expression plain.Initial Before expression_step initial_step element_step (layer.Field object name token)

pub view_unary : (op : UnOp) (operand : Box Expression Global) (token : ℕ) → expression_of (form.Unary op operand token) ≡ plain.Unary op (expression_of operand.value) token
unfolding expression_of
view_unary op operand token = ap expression_of (sym (form.rolls-Unary op operand token)) ∙ fold-roll-Expression plain.Expression plain.Initial Before expression_step initial_step element_step (layer.Unary op operand token)

pub view_binary : (op : BinOp) (left right : Box Expression Global) (token : ℕ) → expression_of (form.Binary op left right token) ≡ plain.Binary op (expression_of left.value) (expression_of right.value) token
unfolding expression_of
view_binary op left right token = ap expression_of (sym (form.rolls-Binary op left right token)) ∙ fold-roll-Expression plain.Expression plain.Initial Before expression_step initial_step element_step (layer.Binary op left right token)

pub view_both : (left right : Box Expression Global) (token : ℕ) → expression_of (form.Both left right token) ≡ plain.Both (expression_of left.value) (expression_of right.value) token
unfolding expression_of
view_both left right token = ap expression_of (sym (form.rolls-Both left right token)) ∙ fold-roll-Expression plain.Expression plain.Initial Before expression_step initial_step element_step (layer.Both left right token)

pub view_either : (left right : Box Expression Global) (token : ℕ) → expression_of (form.Either left right token) ≡ plain.Either (expression_of left.value) (expression_of right.value) token
unfolding expression_of
view_either left right token = ap expression_of (sym (form.rolls-Either left right token)) ∙ fold-roll-Expression plain.Expression plain.Initial Before expression_step initial_step element_step (layer.Either left right token)

pub view_cast : (ty : WrittenType) (operand : Box Expression Global) (token : ℕ) → expression_of (form.Cast ty operand token) ≡ plain.Cast (type_seen ty) (expression_of operand.value) token
unfolding expression_of
view_cast ty operand token = ap expression_of (sym (form.rolls-Cast ty operand token)) ∙ fold-roll-Expression plain.Expression plain.Initial Before expression_step initial_step element_step (layer.Cast ty operand token)

pub view_choice : (test main other : Box Expression Global) (token : ℕ) → expression_of (form.Choice test main other token) ≡ plain.Choice (expression_of test.value) (expression_of main.value) (expression_of other.value) token
unfolding expression_of
view_choice test main other token = ap expression_of (sym (form.rolls-Choice test main other token)) ∙ fold-roll-Expression plain.Expression plain.Initial Before expression_step initial_step element_step (layer.Choice test main other token)
