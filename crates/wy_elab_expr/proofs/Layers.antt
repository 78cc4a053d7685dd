-- What an expression in memory isn't, by its layer.
use Rattle.std.proofs.Common.{◌≡◌, ap, sym, ◌∙◌, refl, ℕ, Bool, true, false, List, Some, None, Ok, Err}
use Rattle.std.specs.Prelude.{option_and_then, if◌then◌else◌}
use Rattle.std.specs.declared.alloc.Global.{Global}
use Rattle.std.specs.declared.boxed.Box.{Box}
use Rattle.std.specs.declared.string.String.{String}
use Rattle.std.specs.declared.vec.Vec.{Vec}
use Rattle.wy_kernel.specs.declared.operator.UnOp.{UnOp}
use Rattle.wy_kernel.specs.declared.operator.BinOp.{BinOp}
use Rattle.wy_tree.specs.declared.token.Token.{Token}
use Rattle.wy_syntax.specs.declared.name.Named.{Named}
use Rattle.wy_syntax.specs.declared.name.WrittenBase.{WrittenBase}
use Rattle.wy_syntax.specs.declared.name.WrittenType.{WrittenType}
use Rattle.wy_constant.specs.declared.rule.Rule.TheVariants.{BadOperand}
use Rattle.wy_constant.specs.Refusal.{refused}
use Rattle.wy_elab_expr.specs.Groups.{is_no_place, is_no_call, is_no_operator, is_wrong}
use Rattle.wy_kernel.specs.Table.{Table}
use Rattle.wy_syntax.specs.declared.expression.Expression.{Expression}
use Rattle.wy_syntax.specs.declared.expression.Initial.{Initial}
use Rattle.wy_syntax.specs.declared.expression.Element.{Element}
use Rattle.wy_syntax.specs.declared.expression.Expression.TheOpen.{Expression-F}
use Rattle.wy_syntax.specs.declared.expression.Expression.TheOpen as layer
use Rattle.wy_syntax.specs.declared.expression.Expression.TheVariants as form
use Rattle.wy_syntax.specs.declared.expression.Expression.TheViews.{roll-Expression, out-Expression, roll-out-Expression}
use Rattle.wy_syntax.specs.declared.expression.Expression.TheFolds.{fold-roll-Expression}
use Rattle.wy_syntax.specs.Syntax as plain
use Rattle.wy_elab_expr.specs.Operators.{Judgement}
use Rattle.wy_syntax.specs.View.{Before, expression_of, expression_step, initial_step, element_step}
use Rattle.wy_constant.specs.Scope.{Scope, FixedText}
use Rattle.wy_elab_expr.specs.Elaboration.{class_in, elaborated, elaborated_all, elements_of, initialized, is_place, names_class, stream_in, target}
use Rattle.wy_elab_expr.specs.Views.{written_name}

pub class_by_written_name : (t : Table) (s : Scope) (e : plain.Expression) → class_in t s e ≡ option_and_then (λ c. if names_class t s c.name then Some c else None) (written_name e)
class_by_written_name t s (plain.Name name token) = refl
class_by_written_name t s e = refl

no_name_in : (l : Expression-F Expression Initial Element) (e : Expression) → roll-Expression l ≡ e →
    ((name : String Global) (token : ℕ) → e ≡ form.Name name token → ⊥) → written_name (expression_of e) ≡ None
unfolding expression_of
no_name_in (layer.Name name token) e is h = absurd (h name token (sym is ∙ form.rolls-Name name token))
no_name_in l e is h = ap (λ z. written_name (expression_of z)) (sym is) ∙ ap written_name (fold-roll-Expression plain.Expression plain.Initial Before expression_step initial_step element_step l)

pub no_name : (e : Expression) → ((name : String Global) (token : ℕ) → e ≡ form.Name name token → ⊥) → None ≡ written_name (expression_of e)
no_name e h = sym (no_name_in (out-Expression e) e (roll-out-Expression e) h)

no_stream_in : (t : Table) (s : Scope) (l : Expression-F Expression Initial Element) (e : Expression) → roll-Expression l ≡ e →
    ((object : Box Expression Global) (name : String Global) (token : ℕ) → e ≡ form.Field object name token → ⊥) → stream_in t s (expression_of e) ≡ None
unfolding expression_of
no_stream_in t s (layer.Field object name token) e is h = absurd (h object name token (sym is ∙ form.rolls-Field object name token))
no_stream_in t s l e is h = ap (λ z. stream_in t s (expression_of z)) (sym is) ∙ ap (stream_in t s) (fold-roll-Expression plain.Expression plain.Initial Before expression_step initial_step element_step l)

pub no_stream : (t : Table) (s : Scope) (e : Expression) → ((object : Box Expression Global) (name : String Global) (token : ℕ) → e ≡ form.Field object name token → ⊥) → None ≡ stream_in t s (expression_of e)
no_stream t s e h = sym (no_stream_in t s (out-Expression e) e (roll-out-Expression e) h)

no_place_in : (l : Expression-F Expression Initial Element) (e : Expression) → roll-Expression l ≡ e →
    ((name : String Global) (token : ℕ) → e ≡ form.Name name token → ⊥) →
    ((inner : Box Expression Global) (token : ℕ) → e ≡ form.Group inner token → ⊥) →
    ((object : Box Expression Global) (name : String Global) (token : ℕ) → e ≡ form.Field object name token → ⊥) →
    ((name : String Global) (token : ℕ) → e ≡ form.SuperField name token → ⊥) →
    ((array index : Box Expression Global) (token : ℕ) → e ≡ form.Element array index token → ⊥) → is_place (expression_of e) ≡ false
unfolding expression_of
no_place_in (layer.Name name token) e is h _ _ _ _ = absurd (h name token (sym is ∙ form.rolls-Name name token))
no_place_in (layer.Group inner token) e is _ h _ _ _ = absurd (h inner token (sym is ∙ form.rolls-Group inner token))
no_place_in (layer.Field object name token) e is _ _ h _ _ = absurd (h object name token (sym is ∙ form.rolls-Field object name token))
no_place_in (layer.SuperField name token) e is _ _ _ h _ = absurd (h name token (sym is ∙ form.rolls-SuperField name token))
no_place_in (layer.Element array index token) e is _ _ _ _ h = absurd (h array index token (sym is ∙ form.rolls-Element array index token))
no_place_in l e is _ _ _ _ _ = ap (λ z. is_place (expression_of z)) (sym is) ∙ ap is_place (fold-roll-Expression plain.Expression plain.Initial Before expression_step initial_step element_step l)

pub no_place : (e : Expression) →
    ((name : String Global) (token : ℕ) → e ≡ form.Name name token → ⊥) →
    ((inner : Box Expression Global) (token : ℕ) → e ≡ form.Group inner token → ⊥) →
    ((object : Box Expression Global) (name : String Global) (token : ℕ) → e ≡ form.Field object name token → ⊥) →
    ((name : String Global) (token : ℕ) → e ≡ form.SuperField name token → ⊥) →
    ((array index : Box Expression Global) (token : ℕ) → e ≡ form.Element array index token → ⊥) → false ≡ is_place (expression_of e)
no_place e name group field super_field element = sym (no_place_in (out-Expression e) e (roll-out-Expression e) name group field super_field element)

no_target_in : (j : Judgement) (t : Table) (s : Scope) (texts : List FixedText) (l : Expression-F Expression Initial Element) (e : Expression) → roll-Expression l ≡ e →
    ((name : String Global) (token : ℕ) → e ≡ form.Name name token → ⊥) →
    ((inner : Box Expression Global) (token : ℕ) → e ≡ form.Group inner token → ⊥) →
    ((object : Box Expression Global) (name : String Global) (token : ℕ) → e ≡ form.Field object name token → ⊥) →
    ((name : String Global) (token : ℕ) → e ≡ form.SuperField name token → ⊥) →
    ((array index : Box Expression Global) (token : ℕ) → e ≡ form.Element array index token → ⊥) → target j t s (expression_of e) texts ≡ Ok (None, texts)
unfolding expression_of elaborated elaborated_all target elements_of initialized
no_target_in j t s texts (layer.Name name token) e is h _ _ _ _ = absurd (h name token (sym is ∙ form.rolls-Name name token))
no_target_in j t s texts (layer.Group inner token) e is _ h _ _ _ = absurd (h inner token (sym is ∙ form.rolls-Group inner token))
no_target_in j t s texts (layer.Field object name token) e is _ _ h _ _ = absurd (h object name token (sym is ∙ form.rolls-Field object name token))
no_target_in j t s texts (layer.SuperField name token) e is _ _ _ h _ = absurd (h name token (sym is ∙ form.rolls-SuperField name token))
no_target_in j t s texts (layer.Element array index token) e is _ _ _ _ h = absurd (h array index token (sym is ∙ form.rolls-Element array index token))
no_target_in j t s texts l e is _ _ _ _ _ = ap (λ z. target j t s (expression_of z) texts) (sym is) ∙ ap (λ z. target j t s z texts) (fold-roll-Expression plain.Expression plain.Initial Before expression_step initial_step element_step l)

pub no_target : (j : Judgement) (t : Table) (s : Scope) (texts : List FixedText) (e : Expression) →
    ((name : String Global) (token : ℕ) → e ≡ form.Name name token → ⊥) →
    ((inner : Box Expression Global) (token : ℕ) → e ≡ form.Group inner token → ⊥) →
    ((object : Box Expression Global) (name : String Global) (token : ℕ) → e ≡ form.Field object name token → ⊥) →
    ((name : String Global) (token : ℕ) → e ≡ form.SuperField name token → ⊥) →
    ((array index : Box Expression Global) (token : ℕ) → e ≡ form.Element array index token → ⊥) → target j t s (expression_of e) texts ≡ Ok (None, texts)
no_target j t s texts e name group field super_field element = (no_target_in j t s texts (out-Expression e) e (roll-out-Expression e) name group field super_field element)

-- ---- what is left where some forms were looked for

no_place_left_in : (l : Expression-F Expression Initial Element) (e : Expression) → roll-Expression l ≡ e →
    ((value : Token) (token : ℕ) → e ≡ form.Literal value token → ⊥) →
    ((name : String Global) (token : ℕ) → e ≡ form.Name name token → ⊥) →
    ((token : ℕ) → e ≡ form.This token → ⊥) →
    ((inner : Box Expression Global) (token : ℕ) → e ≡ form.Group inner token → ⊥) →
    ((object : Box Expression Global) (name : String Global) (token : ℕ) → e ≡ form.Field object name token → ⊥) →
    ((name : String Global) (token : ℕ) → e ≡ form.SuperField name token → ⊥) →
    ((array index : Box Expression Global) (token : ℕ) → e ≡ form.Element array index token → ⊥) →
    is_no_place (expression_of e) ≡ true
unfolding expression_of
no_place_left_in (layer.Literal value token) e is h _ _ _ _ _ _ = absurd (h value token (sym is ∙ form.rolls-Literal value token))
no_place_left_in (layer.Name name token) e is _ h _ _ _ _ _ = absurd (h name token (sym is ∙ form.rolls-Name name token))
no_place_left_in (layer.This token) e is _ _ h _ _ _ _ = absurd (h token (sym is ∙ form.rolls-This token))
no_place_left_in (layer.Group inner token) e is _ _ _ h _ _ _ = absurd (h inner token (sym is ∙ form.rolls-Group inner token))
no_place_left_in (layer.Field object name token) e is _ _ _ _ h _ _ = absurd (h object name token (sym is ∙ form.rolls-Field object name token))
no_place_left_in (layer.SuperField name token) e is _ _ _ _ _ h _ = absurd (h name token (sym is ∙ form.rolls-SuperField name token))
no_place_left_in (layer.Element array index token) e is _ _ _ _ _ _ h = absurd (h array index token (sym is ∙ form.rolls-Element array index token))
no_place_left_in l e is _ _ _ _ _ _ _ = ap (λ z. is_no_place (expression_of z)) (sym is) ∙ ap is_no_place (fold-roll-Expression plain.Expression plain.Initial Before expression_step initial_step element_step l)

pub no_place_left : (e : Expression) →
    ((value : Token) (token : ℕ) → e ≡ form.Literal value token → ⊥) →
    ((name : String Global) (token : ℕ) → e ≡ form.Name name token → ⊥) →
    ((token : ℕ) → e ≡ form.This token → ⊥) →
    ((inner : Box Expression Global) (token : ℕ) → e ≡ form.Group inner token → ⊥) →
    ((object : Box Expression Global) (name : String Global) (token : ℕ) → e ≡ form.Field object name token → ⊥) →
    ((name : String Global) (token : ℕ) → e ≡ form.SuperField name token → ⊥) →
    ((array index : Box Expression Global) (token : ℕ) → e ≡ form.Element array index token → ⊥) →
    is_no_place (expression_of e) ≡ true
no_place_left e h_literal h_name h_this h_group h_field h_superfield h_element = no_place_left_in (out-Expression e) e (roll-out-Expression e) h_literal h_name h_this h_group h_field h_superfield h_element

no_call_left_in : (l : Expression-F Expression Initial Element) (e : Expression) → roll-Expression l ≡ e →
    ((name : String Global) (args : Vec Expression Global) (token : ℕ) → e ≡ form.Invoke name args token → ⊥) →
    ((object : Box Expression Global) (name : String Global) (args : Vec Expression Global) (token : ℕ) → e ≡ form.InvokeOn object name args token → ⊥) →
    ((name : String Global) (args : Vec Expression Global) (token : ℕ) → e ≡ form.SuperInvoke name args token → ⊥) →
    ((class : Named) (args : Vec Expression Global) (token : ℕ) → e ≡ form.NewObject class args token → ⊥) →
    ((base : WrittenBase) (at : ℕ) (sizes : Vec Expression Global) (brackets token : ℕ) → e ≡ form.NewArray base at sizes brackets token → ⊥) →
    ((base : WrittenBase) (at brackets : ℕ) (elements : Vec Element Global) (brace token : ℕ) → e ≡ form.NewList base at brackets elements brace token → ⊥) →
    is_no_place (expression_of e) ≡ is_no_call (expression_of e)
unfolding expression_of
no_call_left_in (layer.Invoke name args token) e is h _ _ _ _ _ = absurd (h name args token (sym is ∙ form.rolls-Invoke name args token))
no_call_left_in (layer.InvokeOn object name args token) e is _ h _ _ _ _ = absurd (h object name args token (sym is ∙ form.rolls-InvokeOn object name args token))
no_call_left_in (layer.SuperInvoke name args token) e is _ _ h _ _ _ = absurd (h name args token (sym is ∙ form.rolls-SuperInvoke name args token))
no_call_left_in (layer.NewObject class args token) e is _ _ _ h _ _ = absurd (h class args token (sym is ∙ form.rolls-NewObject class args token))
no_call_left_in (layer.NewArray base at sizes brackets token) e is _ _ _ _ h _ = absurd (h base at sizes brackets token (sym is ∙ form.rolls-NewArray base at sizes brackets token))
no_call_left_in (layer.NewList base at brackets elements brace token) e is _ _ _ _ _ h = absurd (h base at brackets elements brace token (sym is ∙ form.rolls-NewList base at brackets elements brace token))
no_call_left_in l e is _ _ _ _ _ _ = ap (λ z. is_no_place (expression_of z)) (sym is) ∙ ap is_no_place (fold-roll-Expression plain.Expression plain.Initial Before expression_step initial_step element_step l) ∙ sym (ap is_no_call (fold-roll-Expression plain.Expression plain.Initial Before expression_step initial_step element_step l)) ∙ sym (ap (λ z. is_no_call (expression_of z)) (sym is))

pub no_call_left : (e : Expression) →
    ((name : String Global) (args : Vec Expression Global) (token : ℕ) → e ≡ form.Invoke name args token → ⊥) →
    ((object : Box Expression Global) (name : String Global) (args : Vec Expression Global) (token : ℕ) → e ≡ form.InvokeOn object name args token → ⊥) →
    ((name : String Global) (args : Vec Expression Global) (token : ℕ) → e ≡ form.SuperInvoke name args token → ⊥) →
    ((class : Named) (args : Vec Expression Global) (token : ℕ) → e ≡ form.NewObject class args token → ⊥) →
    ((base : WrittenBase) (at : ℕ) (sizes : Vec Expression Global) (brackets token : ℕ) → e ≡ form.NewArray base at sizes brackets token → ⊥) →
    ((base : WrittenBase) (at brackets : ℕ) (elements : Vec Element Global) (brace token : ℕ) → e ≡ form.NewList base at brackets elements brace token → ⊥) →
    is_no_place (expression_of e) ≡ is_no_call (expression_of e)
no_call_left e h_invoke h_invokeon h_superinvoke h_newobject h_newarray h_newlist = no_call_left_in (out-Expression e) e (roll-out-Expression e) h_invoke h_invokeon h_superinvoke h_newobject h_newarray h_newlist

no_operator_left_in : (l : Expression-F Expression Initial Element) (e : Expression) → roll-Expression l ≡ e →
    ((op : UnOp) (operand : Box Expression Global) (token : ℕ) → e ≡ form.Unary op operand token → ⊥) →
    ((op : BinOp) (left right : Box Expression Global) (token : ℕ) → e ≡ form.Binary op left right token → ⊥) →
    ((left right : Box Expression Global) (token : ℕ) → e ≡ form.Both left right token → ⊥) →
    ((left right : Box Expression Global) (token : ℕ) → e ≡ form.Either left right token → ⊥) →
    ((left : Box Expression Global) (ty : WrittenType) (token : ℕ) → e ≡ form.InstanceOf left ty token → ⊥) →
    ((ty : WrittenType) (operand : Box Expression Global) (token : ℕ) → e ≡ form.Cast ty operand token → ⊥) →
    is_no_call (expression_of e) ≡ is_no_operator (expression_of e)
unfolding expression_of
no_operator_left_in (layer.Unary op operand token) e is h _ _ _ _ _ = absurd (h op operand token (sym is ∙ form.rolls-Unary op operand token))
no_operator_left_in (layer.Binary op left right token) e is _ h _ _ _ _ = absurd (h op left right token (sym is ∙ form.rolls-Binary op left right token))
no_operator_left_in (layer.Both left right token) e is _ _ h _ _ _ = absurd (h left right token (sym is ∙ form.rolls-Both left right token))
no_operator_left_in (layer.Either left right token) e is _ _ _ h _ _ = absurd (h left right token (sym is ∙ form.rolls-Either left right token))
no_operator_left_in (layer.InstanceOf left ty token) e is _ _ _ _ h _ = absurd (h left ty token (sym is ∙ form.rolls-InstanceOf left ty token))
no_operator_left_in (layer.Cast ty operand token) e is _ _ _ _ _ h = absurd (h ty operand token (sym is ∙ form.rolls-Cast ty operand token))
no_operator_left_in l e is _ _ _ _ _ _ = ap (λ z. is_no_call (expression_of z)) (sym is) ∙ ap is_no_call (fold-roll-Expression plain.Expression plain.Initial Before expression_step initial_step element_step l) ∙ sym (ap is_no_operator (fold-roll-Expression plain.Expression plain.Initial Before expression_step initial_step element_step l)) ∙ sym (ap (λ z. is_no_operator (expression_of z)) (sym is))

pub no_operator_left : (e : Expression) →
    ((op : UnOp) (operand : Box Expression Global) (token : ℕ) → e ≡ form.Unary op operand token → ⊥) →
    ((op : BinOp) (left right : Box Expression Global) (token : ℕ) → e ≡ form.Binary op left right token → ⊥) →
    ((left right : Box Expression Global) (token : ℕ) → e ≡ form.Both left right token → ⊥) →
    ((left right : Box Expression Global) (token : ℕ) → e ≡ form.Either left right token → ⊥) →
    ((left : Box Expression Global) (ty : WrittenType) (token : ℕ) → e ≡ form.InstanceOf left ty token → ⊥) →
    ((ty : WrittenType) (operand : Box Expression Global) (token : ℕ) → e ≡ form.Cast ty operand token → ⊥) →
    is_no_call (expression_of e) ≡ is_no_operator (expression_of e)
no_operator_left e h_unary h_binary h_both h_either h_instanceof h_cast = no_operator_left_in (out-Expression e) e (roll-out-Expression e) h_unary h_binary h_both h_either h_instanceof h_cast

wrong_left_in : (l : Expression-F Expression Initial Element) (e : Expression) → roll-Expression l ≡ e →
    ((is_before is_up : Bool) (operand : Box Expression Global) (token : ℕ) → e ≡ form.Step is_before is_up operand token → ⊥) →
    ((test main other : Box Expression Global) (token : ℕ) → e ≡ form.Choice test main other token → ⊥) →
    ((left value : Box Expression Global) (token : ℕ) → e ≡ form.Assign left value token → ⊥) →
    ((op : BinOp) (left value : Box Expression Global) (token : ℕ) → e ≡ form.Update op left value token → ⊥) →
    is_no_operator (expression_of e) ≡ is_wrong (expression_of e)
unfolding expression_of
wrong_left_in (layer.Step is_before is_up operand token) e is h _ _ _ = absurd (h is_before is_up operand token (sym is ∙ form.rolls-Step is_before is_up operand token))
wrong_left_in (layer.Choice test main other token) e is _ h _ _ = absurd (h test main other token (sym is ∙ form.rolls-Choice test main other token))
wrong_left_in (layer.Assign left value token) e is _ _ h _ = absurd (h left value token (sym is ∙ form.rolls-Assign left value token))
wrong_left_in (layer.Update op left value token) e is _ _ _ h = absurd (h op left value token (sym is ∙ form.rolls-Update op left value token))
wrong_left_in l e is _ _ _ _ = ap (λ z. is_no_operator (expression_of z)) (sym is) ∙ ap is_no_operator (fold-roll-Expression plain.Expression plain.Initial Before expression_step initial_step element_step l) ∙ sym (ap is_wrong (fold-roll-Expression plain.Expression plain.Initial Before expression_step initial_step element_step l)) ∙ sym (ap (λ z. is_wrong (expression_of z)) (sym is))

pub wrong_left : (e : Expression) →
    ((is_before is_up : Bool) (operand : Box Expression Global) (token : ℕ) → e ≡ form.Step is_before is_up operand token → ⊥) →
    ((test main other : Box Expression Global) (token : ℕ) → e ≡ form.Choice test main other token → ⊥) →
    ((left value : Box Expression Global) (token : ℕ) → e ≡ form.Assign left value token → ⊥) →
    ((op : BinOp) (left value : Box Expression Global) (token : ℕ) → e ≡ form.Update op left value token → ⊥) →
    is_no_operator (expression_of e) ≡ is_wrong (expression_of e)
wrong_left e h_step h_choice h_assign h_update = wrong_left_in (out-Expression e) e (roll-out-Expression e) h_step h_choice h_assign h_update

only_wrong : (x : plain.Expression) → is_wrong x ≡ true → x ≡ plain.Wrong
only_wrong plain.Wrong h = refl
only_wrong x h = absurd (cc)

pub wrong_is_refused : (j : Judgement) (t : Table) (s : Scope) (texts : List FixedText) (e : Expression) → is_wrong (expression_of e) ≡ true → elaborated j t s (expression_of e) texts ≡ Err (refused BadOperand 0)
unfolding elaborated elaborated_all target elements_of initialized
wrong_is_refused j t s texts e h = ap (λ z. elaborated j t s z texts) (only_wrong (expression_of e) h)
