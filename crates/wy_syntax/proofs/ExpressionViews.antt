-- What an expression in memory says, at each of its forms.
use Rattle.std.proofs.Common.{◌≡◌, ap, sym, ◌∙◌, map, ℕ, Bool}
use Rattle.std.specs.Prelude.{string_bytes}
use Rattle.std.specs.declared.alloc.Global.{Global}
use Rattle.std.specs.declared.boxed.Box.{Box}
use Rattle.std.specs.declared.string.String.{String}
use Rattle.std.specs.declared.vec.Vec.{Vec}
use Rattle.wy_kernel.specs.declared.operator.UnOp.{UnOp}
use Rattle.wy_kernel.specs.declared.operator.BinOp.{BinOp}
use Rattle.wy_tree.specs.declared.token.Token.{Token}
use Rattle.wy_tree.specs.Seen.{seen}
use Rattle.wy_syntax.specs.declared.name.Named.{Named}
use Rattle.wy_syntax.specs.declared.name.WrittenBase.{WrittenBase}
use Rattle.wy_syntax.specs.declared.name.WrittenType.{WrittenType}
use Rattle.wy_syntax.specs.declared.expression.Expression.{Expression}
use Rattle.wy_syntax.specs.declared.expression.Element.{Element}
use Rattle.wy_syntax.specs.declared.expression.Expression.TheOpen as layer
use Rattle.wy_syntax.specs.declared.expression.Expression.TheVariants as form
use Rattle.wy_syntax.specs.declared.expression.Initial.TheVariants as initials
use Rattle.wy_syntax.specs.declared.expression.Expression.TheFolds.{fold-roll-Expression, fold-roll-Initial, fold_out-Element}
use Rattle.wy_syntax.specs.Syntax as plain
use Rattle.wy_syntax.specs.View.{Before, expression_step, initial_step, element_step, expression_of, initial_of, element_of, row_of, elements_of, named_of, base_seen, type_seen}

pub view_literal : (value : Token) (token : ℕ) → expression_of (form.Literal value token) ≡ plain.Literal (seen value) token
unfolding expression_of initial_of element_of
view_literal value token = ap expression_of (sym (form.rolls-Literal value token)) ∙ fold-roll-Expression plain.Expression plain.Initial Before expression_step initial_step element_step (layer.Literal value token)

pub view_name : (name : String Global) (token : ℕ) → expression_of (form.Name name token) ≡ plain.Name (string_bytes name) token
unfolding expression_of initial_of element_of
view_name name token = ap expression_of (sym (form.rolls-Name name token)) ∙ fold-roll-Expression plain.Expression plain.Initial Before expression_step initial_step element_step (layer.Name name token)

pub view_this : (token : ℕ) → expression_of (form.This token) ≡ plain.This token
unfolding expression_of initial_of element_of
view_this token = ap expression_of (sym (form.rolls-This token)) ∙ fold-roll-Expression plain.Expression plain.Initial Before expression_step initial_step element_step (layer.This token)

pub view_group : (inner : Box Expression Global) (token : ℕ) → expression_of (form.Group inner token) ≡ plain.Group (expression_of inner.value) token
unfolding expression_of initial_of element_of
view_group inner token = ap expression_of (sym (form.rolls-Group inner token)) ∙ fold-roll-Expression plain.Expression plain.Initial Before expression_step initial_step element_step (layer.Group inner token)

pub view_invoke : (name : String Global) (args : Vec Expression Global) (token : ℕ) → expression_of (form.Invoke name args token) ≡ plain.Invoke (string_bytes name) (row_of (map expression_of args.items)) token
unfolding expression_of initial_of element_of
view_invoke name args token = ap expression_of (sym (form.rolls-Invoke name args token)) ∙ fold-roll-Expression plain.Expression plain.Initial Before expression_step initial_step element_step (layer.Invoke name args token)

pub view_field : (object : Box Expression Global) (name : String Global) (token : ℕ) → expression_of (form.Field object name token) ≡ plain.Field (expression_of object.value) (string_bytes name) token
unfolding expression_of initial_of element_of
view_field object name token = ap expression_of (sym (form.rolls-Field object name token)) ∙ fold-roll-Expression plain.Expression plain.Initial Before expression_step initial_step element_step (layer.Field object name token)

pub view_invoke_on : (object : Box Expression Global) (name : String Global) (args : Vec Expression Global) (token : ℕ) → expression_of (form.InvokeOn object name args token) ≡ plain.InvokeOn (expression_of object.value) (string_bytes name) (row_of (map expression_of args.items)) token
unfolding expression_of initial_of element_of
view_invoke_on object name args token = ap expression_of (sym (form.rolls-InvokeOn object name args token)) ∙ fold-roll-Expression plain.Expression plain.Initial Before expression_step initial_step element_step (layer.InvokeOn object name args token)

pub view_super_field : (name : String Global) (token : ℕ) → expression_of (form.SuperField name token) ≡ plain.SuperField (string_bytes name) token
unfolding expression_of initial_of element_of
view_super_field name token = ap expression_of (sym (form.rolls-SuperField name token)) ∙ fold-roll-Expression plain.Expression plain.Initial Before expression_step initial_step element_step (layer.SuperField name token)

pub view_super_invoke : (name : String Global) (args : Vec Expression Global) (token : ℕ) → expression_of (form.SuperInvoke name args token) ≡ plain.SuperInvoke (string_bytes name) (row_of (map expression_of args.items)) token
unfolding expression_of initial_of element_of
view_super_invoke name args token = ap expression_of (sym (form.rolls-SuperInvoke name args token)) ∙ fold-roll-Expression plain.Expression plain.Initial Before expression_step initial_step element_step (layer.SuperInvoke name args token)

pub view_element : (array index : Box Expression Global) (token : ℕ) → expression_of (form.Element array index token) ≡ plain.Element (expression_of array.value) (expression_of index.value) token
unfolding expression_of initial_of element_of
view_element array index token = ap expression_of (sym (form.rolls-Element array index token)) ∙ fold-roll-Expression plain.Expression plain.Initial Before expression_step initial_step element_step (layer.Element array index token)

pub view_new_object : (class : Named) (args : Vec Expression Global) (token : ℕ) → expression_of (form.NewObject class args token) ≡ plain.NewObject (named_of class) (row_of (map expression_of args.items)) token
unfolding expression_of initial_of element_of
view_new_object class args token = ap expression_of (sym (form.rolls-NewObject class args token)) ∙ fold-roll-Expression plain.Expression plain.Initial Before expression_step initial_step element_step (layer.NewObject class args token)

pub view_new_array : (base : WrittenBase) (at : ℕ) (sizes : Vec Expression Global) (brackets token : ℕ) → expression_of (form.NewArray base at sizes brackets token) ≡ plain.NewArray (base_seen base) at (row_of (map expression_of sizes.items)) brackets token
unfolding expression_of initial_of element_of
view_new_array base at sizes brackets token = ap expression_of (sym (form.rolls-NewArray base at sizes brackets token)) ∙ fold-roll-Expression plain.Expression plain.Initial Before expression_step initial_step element_step (layer.NewArray base at sizes brackets token)

pub view_new_list : (base : WrittenBase) (at brackets : ℕ) (elements : Vec Element Global) (brace token : ℕ) → expression_of (form.NewList base at brackets elements brace token) ≡ plain.NewList (base_seen base) at brackets (elements_of (map element_of elements.items)) brace token
unfolding expression_of initial_of element_of
view_new_list base at brackets elements brace token = ap expression_of (sym (form.rolls-NewList base at brackets elements brace token)) ∙ fold-roll-Expression plain.Expression plain.Initial Before expression_step initial_step element_step (layer.NewList base at brackets elements brace token)

pub view_unary : (op : UnOp) (operand : Box Expression Global) (token : ℕ) → expression_of (form.Unary op operand token) ≡ plain.Unary op (expression_of operand.value) token
unfolding expression_of initial_of element_of
view_unary op operand token = ap expression_of (sym (form.rolls-Unary op operand token)) ∙ fold-roll-Expression plain.Expression plain.Initial Before expression_step initial_step element_step (layer.Unary op operand token)

pub view_step : (is_before is_up : Bool) (operand : Box Expression Global) (token : ℕ) → expression_of (form.Step is_before is_up operand token) ≡ plain.Step is_before is_up (expression_of operand.value) token
unfolding expression_of initial_of element_of
view_step is_before is_up operand token = ap expression_of (sym (form.rolls-Step is_before is_up operand token)) ∙ fold-roll-Expression plain.Expression plain.Initial Before expression_step initial_step element_step (layer.Step is_before is_up operand token)

pub view_binary : (op : BinOp) (left right : Box Expression Global) (token : ℕ) → expression_of (form.Binary op left right token) ≡ plain.Binary op (expression_of left.value) (expression_of right.value) token
unfolding expression_of initial_of element_of
view_binary op left right token = ap expression_of (sym (form.rolls-Binary op left right token)) ∙ fold-roll-Expression plain.Expression plain.Initial Before expression_step initial_step element_step (layer.Binary op left right token)

pub view_both : (left right : Box Expression Global) (token : ℕ) → expression_of (form.Both left right token) ≡ plain.Both (expression_of left.value) (expression_of right.value) token
unfolding expression_of initial_of element_of
view_both left right token = ap expression_of (sym (form.rolls-Both left right token)) ∙ fold-roll-Expression plain.Expression plain.Initial Before expression_step initial_step element_step (layer.Both left right token)

pub view_either : (left right : Box Expression Global) (token : ℕ) → expression_of (form.Either left right token) ≡ plain.Either (expression_of left.value) (expression_of right.value) token
unfolding expression_of initial_of element_of
view_either left right token = ap expression_of (sym (form.rolls-Either left right token)) ∙ fold-roll-Expression plain.Expression plain.Initial Before expression_step initial_step element_step (layer.Either left right token)

pub view_instance_of : (left : Box Expression Global) (ty : WrittenType) (token : ℕ) → expression_of (form.InstanceOf left ty token) ≡ plain.InstanceOf (expression_of left.value) (type_seen ty) token
unfolding expression_of initial_of element_of
view_instance_of left ty token = ap expression_of (sym (form.rolls-InstanceOf left ty token)) ∙ fold-roll-Expression plain.Expression plain.Initial Before expression_step initial_step element_step (layer.InstanceOf left ty token)

pub view_cast : (ty : WrittenType) (operand : Box Expression Global) (token : ℕ) → expression_of (form.Cast ty operand token) ≡ plain.Cast (type_seen ty) (expression_of operand.value) token
unfolding expression_of initial_of element_of
view_cast ty operand token = ap expression_of (sym (form.rolls-Cast ty operand token)) ∙ fold-roll-Expression plain.Expression plain.Initial Before expression_step initial_step element_step (layer.Cast ty operand token)

pub view_choice : (test main other : Box Expression Global) (token : ℕ) → expression_of (form.Choice test main other token) ≡ plain.Choice (expression_of test.value) (expression_of main.value) (expression_of other.value) token
unfolding expression_of initial_of element_of
view_choice test main other token = ap expression_of (sym (form.rolls-Choice test main other token)) ∙ fold-roll-Expression plain.Expression plain.Initial Before expression_step initial_step element_step (layer.Choice test main other token)

pub view_assign : (left value : Box Expression Global) (token : ℕ) → expression_of (form.Assign left value token) ≡ plain.Assign (expression_of left.value) (expression_of value.value) token
unfolding expression_of initial_of element_of
view_assign left value token = ap expression_of (sym (form.rolls-Assign left value token)) ∙ fold-roll-Expression plain.Expression plain.Initial Before expression_step initial_step element_step (layer.Assign left value token)

pub view_update : (op : BinOp) (left value : Box Expression Global) (token : ℕ) → expression_of (form.Update op left value token) ≡ plain.Update op (expression_of left.value) (expression_of value.value) token
unfolding expression_of initial_of element_of
view_update op left value token = ap expression_of (sym (form.rolls-Update op left value token)) ∙ fold-roll-Expression plain.Expression plain.Initial Before expression_step initial_step element_step (layer.Update op left value token)

pub view_wrong : expression_of form.Wrong ≡ plain.Wrong
unfolding expression_of initial_of element_of
view_wrong = ap expression_of (sym form.rolls-Wrong) ∙ fold-roll-Expression plain.Expression plain.Initial Before expression_step initial_step element_step layer.Wrong

pub view_value : (value : Expression) → initial_of (initials.Value value) ≡ plain.Value (expression_of value)
unfolding expression_of initial_of element_of
view_value value = ap initial_of (sym (initials.rolls-Value value)) ∙ fold-roll-Initial plain.Expression plain.Initial Before expression_step initial_step element_step (layer.Value value)

pub view_listed : (elements : Vec Element Global) (brace : ℕ) → initial_of (initials.Listed elements brace) ≡ plain.Listed (elements_of (map element_of elements.items)) brace
unfolding expression_of initial_of element_of
view_listed elements brace = ap initial_of (sym (initials.rolls-Listed elements brace)) ∙ fold-roll-Initial plain.Expression plain.Initial Before expression_step initial_step element_step (layer.Listed elements brace)

pub view_element_at : (e : Element) (rest : plain.Elements) → element_of e rest ≡ plain.element e.before (initial_of e.initial) rest
unfolding expression_of initial_of element_of
view_element_at e rest = ap (λ f. f rest) (fold_out-Element plain.Expression plain.Initial Before expression_step initial_step element_step e)
