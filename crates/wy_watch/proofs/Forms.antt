-- The value of an expression in memory, at each of its forms.
use Rattle.std.proofs.Common.{◌≡◌, ap, sym, ◌∙◌, ℕ, true, false, None}
use Rattle.std.specs.Prelude.{string_bytes}
use Rattle.std.specs.declared.alloc.Global.{Global}
use Rattle.std.specs.declared.boxed.Box.{Box}
use Rattle.std.specs.declared.string.String.{String}
use Rattle.wy_kernel.specs.declared.operator.UnOp.{UnOp}
use Rattle.wy_kernel.specs.declared.operator.BinOp.{BinOp}
use Rattle.wy_tree.specs.declared.token.Token.{Token}
use Rattle.wy_tree.specs.Seen.{seen}
use Rattle.wy_syntax.specs.declared.expression.Expression.{Expression}
use Rattle.wy_syntax.specs.declared.expression.Initial.{Initial}
use Rattle.wy_syntax.specs.declared.expression.Element.{Element}
use Rattle.wy_syntax.specs.declared.expression.Expression.TheOpen.{Expression-F}
use Rattle.wy_syntax.specs.declared.expression.Expression.TheOpen as layer
use Rattle.wy_syntax.specs.declared.expression.Expression.TheVariants as form
use Rattle.wy_syntax.specs.declared.expression.Expression.TheViews.{roll-Expression, out-Expression, roll-out-Expression}
use Rattle.wy_syntax.specs.declared.expression.Expression.TheFolds.{fold-roll-Expression}
use Rattle.wy_syntax.specs.Syntax as plain
use Rattle.wy_syntax.specs.View.{Before, expression_of, expression_step, initial_step, element_step, inner_of}
use Rattle.wy_syntax.proofs.ExpressionViews.{view_literal, view_name, view_this, view_group, view_field, view_element, view_unary, view_binary, view_both, view_either, view_choice}
use Rattle.wy_watch.specs.Sight.{Sight}
use Rattle.wy_watch.specs.Value.{value, literal, named, this_value, value_of_field, element, index_in, unary, binary, both, either, choice, truth_of, is_this, class_in}
use Rattle.wy_watch.specs.Names.{class_meant}

pub of_literal : (s : Sight) (token : Token) (at : ℕ) → value s (expression_of (form.Literal token at)) ≡ literal (seen token)
unfolding value
of_literal s token at = ap (value s) (view_literal token at)

pub of_name : (s : Sight) (name : String Global) (at : ℕ) → value s (expression_of (form.Name name at)) ≡ named s (string_bytes name)
unfolding value
of_name s name at = ap (value s) (view_name name at)

pub of_this : (s : Sight) (at : ℕ) → value s (expression_of (form.This at)) ≡ this_value s
unfolding value
of_this s at = ap (value s) (view_this at)

pub of_group : (s : Sight) (inner : Box Expression Global) (at : ℕ) → value s (expression_of (form.Group inner at)) ≡ value s (inner_of inner)
unfolding value
of_group s inner at = ap (value s) (view_group inner at)

pub of_field : (s : Sight) (object : Box Expression Global) (name : String Global) (at : ℕ) → value s (expression_of (form.Field object name at)) ≡ value_of_field s (string_bytes name) (inner_of object)
unfolding value
of_field s object name at = ap (value s) (view_field object name at)

pub of_element : (s : Sight) (array index : Box Expression Global) (at : ℕ) → value s (expression_of (form.Element array index at)) ≡ element s (value s (inner_of array)) (index_in (value s (inner_of index)))
unfolding value
of_element s array index at = ap (value s) (view_element array index at)

pub of_unary : (s : Sight) (op : UnOp) (operand : Box Expression Global) (at : ℕ) → value s (expression_of (form.Unary op operand at)) ≡ unary op (value s (inner_of operand))
unfolding value
of_unary s op operand at = ap (value s) (view_unary op operand at)

pub of_binary : (s : Sight) (op : BinOp) (left right : Box Expression Global) (at : ℕ) → value s (expression_of (form.Binary op left right at)) ≡ binary op (value s (inner_of left)) (value s (inner_of right))
unfolding value
of_binary s op left right at = ap (value s) (view_binary op left right at)

pub of_both : (s : Sight) (left right : Box Expression Global) (at : ℕ) → value s (expression_of (form.Both left right at)) ≡ both (truth_of s (inner_of left)) (truth_of s (inner_of right))
unfolding value
of_both s left right at = ap (value s) (view_both left right at)

pub of_either : (s : Sight) (left right : Box Expression Global) (at : ℕ) → value s (expression_of (form.Either left right at)) ≡ either (truth_of s (inner_of left)) (truth_of s (inner_of right))
unfolding value
of_either s left right at = ap (value s) (view_either left right at)

pub of_choice : (s : Sight) (test main other : Box Expression Global) (at : ℕ) → value s (expression_of (form.Choice test main other at)) ≡ choice (truth_of s (inner_of test)) (value s (inner_of main)) (value s (inner_of other))
unfolding value
of_choice s test main other at = ap (value s) (view_choice test main other at)

-- ---- other forms

no_value_in : (s : Sight) (l : Expression-F Expression Initial Element) (e : Expression) → roll-Expression l ≡ e →
    ((token : Token) (at : ℕ) → e ≡ form.Literal token at → ⊥) →
    ((name : String Global) (at : ℕ) → e ≡ form.Name name at → ⊥) →
    ((at : ℕ) → e ≡ form.This at → ⊥) →
    ((inner : Box Expression Global) (at : ℕ) → e ≡ form.Group inner at → ⊥) →
    ((object : Box Expression Global) (name : String Global) (at : ℕ) → e ≡ form.Field object name at → ⊥) →
    ((array index : Box Expression Global) (at : ℕ) → e ≡ form.Element array index at → ⊥) →
    ((op : UnOp) (operand : Box Expression Global) (at : ℕ) → e ≡ form.Unary op operand at → ⊥) →
    ((op : BinOp) (left right : Box Expression Global) (at : ℕ) → e ≡ form.Binary op left right at → ⊥) →
    ((left right : Box Expression Global) (at : ℕ) → e ≡ form.Both left right at → ⊥) →
    ((left right : Box Expression Global) (at : ℕ) → e ≡ form.Either left right at → ⊥) →
    ((test main other : Box Expression Global) (at : ℕ) → e ≡ form.Choice test main other at → ⊥) →
    value s (expression_of e) ≡ None
unfolding value expression_of
no_value_in s (layer.Literal token at) e is h _ _ _ _ _ _ _ _ _ _ = absurd (h token at (sym is ∙ form.rolls-Literal token at))
no_value_in s (layer.Name name at) e is _ h _ _ _ _ _ _ _ _ _ = absurd (h name at (sym is ∙ form.rolls-Name name at))
no_value_in s (layer.This at) e is _ _ h _ _ _ _ _ _ _ _ = absurd (h at (sym is ∙ form.rolls-This at))
no_value_in s (layer.Group inner at) e is _ _ _ h _ _ _ _ _ _ _ = absurd (h inner at (sym is ∙ form.rolls-Group inner at))
no_value_in s (layer.Field object name at) e is _ _ _ _ h _ _ _ _ _ _ = absurd (h object name at (sym is ∙ form.rolls-Field object name at))
no_value_in s (layer.Element array index at) e is _ _ _ _ _ h _ _ _ _ _ = absurd (h array index at (sym is ∙ form.rolls-Element array index at))
no_value_in s (layer.Unary op operand at) e is _ _ _ _ _ _ h _ _ _ _ = absurd (h op operand at (sym is ∙ form.rolls-Unary op operand at))
no_value_in s (layer.Binary op left right at) e is _ _ _ _ _ _ _ h _ _ _ = absurd (h op left right at (sym is ∙ form.rolls-Binary op left right at))
no_value_in s (layer.Both left right at) e is _ _ _ _ _ _ _ _ h _ _ = absurd (h left right at (sym is ∙ form.rolls-Both left right at))
no_value_in s (layer.Either left right at) e is _ _ _ _ _ _ _ _ _ h _ = absurd (h left right at (sym is ∙ form.rolls-Either left right at))
no_value_in s (layer.Choice test main other at) e is _ _ _ _ _ _ _ _ _ _ h = absurd (h test main other at (sym is ∙ form.rolls-Choice test main other at))
no_value_in s l e is _ _ _ _ _ _ _ _ _ _ _ =
    ap (λ z. value s (expression_of z)) (sym is) ∙ ap (λ z. value s (z)) (fold-roll-Expression plain.Expression plain.Initial Before expression_step initial_step element_step l)

pub no_value : (s : Sight) (e : Expression) →
    ((token : Token) (at : ℕ) → e ≡ form.Literal token at → ⊥) →
    ((name : String Global) (at : ℕ) → e ≡ form.Name name at → ⊥) →
    ((at : ℕ) → e ≡ form.This at → ⊥) →
    ((inner : Box Expression Global) (at : ℕ) → e ≡ form.Group inner at → ⊥) →
    ((object : Box Expression Global) (name : String Global) (at : ℕ) → e ≡ form.Field object name at → ⊥) →
    ((array index : Box Expression Global) (at : ℕ) → e ≡ form.Element array index at → ⊥) →
    ((op : UnOp) (operand : Box Expression Global) (at : ℕ) → e ≡ form.Unary op operand at → ⊥) →
    ((op : BinOp) (left right : Box Expression Global) (at : ℕ) → e ≡ form.Binary op left right at → ⊥) →
    ((left right : Box Expression Global) (at : ℕ) → e ≡ form.Both left right at → ⊥) →
    ((left right : Box Expression Global) (at : ℕ) → e ≡ form.Either left right at → ⊥) →
    ((test main other : Box Expression Global) (at : ℕ) → e ≡ form.Choice test main other at → ⊥) →
    value s (expression_of e) ≡ None
no_value s e h_literal h_name h_this h_group h_field h_element h_unary h_binary h_both h_either h_choice = no_value_in s (out-Expression e) e (roll-out-Expression e) h_literal h_name h_this h_group h_field h_element h_unary h_binary h_both h_either h_choice

-- ---- classes and `this`

pub class_name : (s : Sight) (name : String Global) (at : ℕ) → class_in s (expression_of (form.Name name at)) ≡ class_meant s (string_bytes name)
class_name s name at = ap (class_in s) (view_name name at)

no_class_in : (s : Sight) (l : Expression-F Expression Initial Element) (e : Expression) → roll-Expression l ≡ e →
    ((name : String Global) (at : ℕ) → e ≡ form.Name name at → ⊥) →
    class_in s (expression_of e) ≡ None
unfolding expression_of
no_class_in s (layer.Name name at) e is h = absurd (h name at (sym is ∙ form.rolls-Name name at))
no_class_in s l e is _ =
    ap (λ z. class_in s (expression_of z)) (sym is) ∙ ap (λ z. class_in s (z)) (fold-roll-Expression plain.Expression plain.Initial Before expression_step initial_step element_step l)

pub no_class : (s : Sight) (e : Expression) →
    ((name : String Global) (at : ℕ) → e ≡ form.Name name at → ⊥) →
    class_in s (expression_of e) ≡ None
no_class s e h_name = no_class_in s (out-Expression e) e (roll-out-Expression e) h_name

pub this_itself : (at : ℕ) → is_this (expression_of (form.This at)) ≡ true
this_itself at = ap is_this (view_this at)

pub this_within : (inner : Box Expression Global) (at : ℕ) → is_this (expression_of (form.Group inner at)) ≡ is_this (inner_of inner)
this_within inner at = ap is_this (view_group inner at)

not_this_in : (l : Expression-F Expression Initial Element) (e : Expression) → roll-Expression l ≡ e →
    ((at : ℕ) → e ≡ form.This at → ⊥) →
    ((inner : Box Expression Global) (at : ℕ) → e ≡ form.Group inner at → ⊥) →
    is_this (expression_of e) ≡ false
unfolding expression_of
not_this_in (layer.This at) e is h _ = absurd (h at (sym is ∙ form.rolls-This at))
not_this_in (layer.Group inner at) e is _ h = absurd (h inner at (sym is ∙ form.rolls-Group inner at))
not_this_in l e is _ _ =
    ap (λ z. is_this (expression_of z)) (sym is) ∙ ap (λ z. is_this (z)) (fold-roll-Expression plain.Expression plain.Initial Before expression_step initial_step element_step l)

pub not_this : (e : Expression) →
    ((at : ℕ) → e ≡ form.This at → ⊥) →
    ((inner : Box Expression Global) (at : ℕ) → e ≡ form.Group inner at → ⊥) →
    is_this (expression_of e) ≡ false
not_this e h_this h_group = not_this_in (out-Expression e) e (roll-out-Expression e) h_this h_group
