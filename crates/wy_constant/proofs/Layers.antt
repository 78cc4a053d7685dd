-- What is no name, and what is no constant expression, by the layer of an expression in memory.
use Rattle.std.proofs.Common.{◌≡◌, ap, sym, ◌∙◌, ℕ, None}
use Rattle.std.specs.declared.alloc.Global.{Global}
use Rattle.std.specs.declared.boxed.Box.{Box}
use Rattle.std.specs.declared.string.String.{String}
use Rattle.wy_kernel.specs.declared.operator.UnOp.{UnOp}
use Rattle.wy_kernel.specs.declared.operator.BinOp.{BinOp}
use Rattle.wy_kernel.specs.Table.{Table}
use Rattle.wy_tree.specs.declared.token.Token.{Token}
use Rattle.wy_syntax.specs.declared.name.WrittenType.{WrittenType}
use Rattle.wy_syntax.specs.declared.expression.Expression.{Expression}
use Rattle.wy_syntax.specs.declared.expression.Initial.{Initial}
use Rattle.wy_syntax.specs.declared.expression.Element.{Element}
use Rattle.wy_syntax.specs.declared.expression.Expression.TheOpen.{Expression-F}
use Rattle.wy_syntax.specs.declared.expression.Expression.TheOpen as layer
use Rattle.wy_syntax.specs.declared.expression.Expression.TheVariants as form
use Rattle.wy_syntax.specs.declared.expression.Expression.TheViews.{roll-Expression, out-Expression, roll-out-Expression}
use Rattle.wy_syntax.specs.declared.expression.Expression.TheFolds.{fold-roll-Expression}
use Rattle.wy_syntax.specs.Syntax as plain
use Rattle.wy_syntax.specs.View.{Before, expression_of, expression_step, initial_step, element_step}
use Rattle.wy_constant.specs.Scope.{Scope}
use Rattle.wy_constant.specs.Constant.{constant, name_in}

no_name_in : (l : Expression-F Expression Initial Element) (e : Expression) → roll-Expression l ≡ e →
    ((name : String Global) (token : ℕ) → e ≡ form.Name name token → ⊥) → name_in (expression_of e) ≡ None
unfolding expression_of
no_name_in (layer.Name name token) e is h = absurd (h name token (sym is ∙ form.rolls-Name name token))
no_name_in l e is h = ap (λ z. name_in (expression_of z)) (sym is) ∙ ap name_in (fold-roll-Expression plain.Expression plain.Initial Before expression_step initial_step element_step l)

pub no_name : (e : Expression) → ((name : String Global) (token : ℕ) → e ≡ form.Name name token → ⊥) → None ≡ name_in (expression_of e)
no_name e h = sym (no_name_in (out-Expression e) e (roll-out-Expression e) h)

not_constant : (t : Table) (s : Scope) (l : Expression-F Expression Initial Element) (e : Expression) → roll-Expression l ≡ e →
    ((value : Token) (token : ℕ) → e ≡ form.Literal value token → ⊥) →
    ((name : String Global) (token : ℕ) → e ≡ form.Name name token → ⊥) →
    ((inner : Box Expression Global) (token : ℕ) → e ≡ form.Group inner token → ⊥) →
    ((object : Box Expression Global) (name : String Global) (token : ℕ) → e ≡ form.Field object name token → ⊥) →
    ((op : UnOp) (operand : Box Expression Global) (token : ℕ) → e ≡ form.Unary op operand token → ⊥) →
    ((op : BinOp) (left right : Box Expression Global) (token : ℕ) → e ≡ form.Binary op left right token → ⊥) →
    ((left right : Box Expression Global) (token : ℕ) → e ≡ form.Both left right token → ⊥) →
    ((left right : Box Expression Global) (token : ℕ) → e ≡ form.Either left right token → ⊥) →
    ((ty : WrittenType) (operand : Box Expression Global) (token : ℕ) → e ≡ form.Cast ty operand token → ⊥) →
    ((test main other : Box Expression Global) (token : ℕ) → e ≡ form.Choice test main other token → ⊥) →
    constant t s (expression_of e) ≡ None
unfolding constant expression_of
not_constant t s (layer.Literal value token) e is h _ _ _ _ _ _ _ _ _ = absurd (h value token (sym is ∙ form.rolls-Literal value token))
not_constant t s (layer.Name name token) e is _ h _ _ _ _ _ _ _ _ = absurd (h name token (sym is ∙ form.rolls-Name name token))
not_constant t s (layer.Group inner token) e is _ _ h _ _ _ _ _ _ _ = absurd (h inner token (sym is ∙ form.rolls-Group inner token))
not_constant t s (layer.Field object name token) e is _ _ _ h _ _ _ _ _ _ = absurd (h object name token (sym is ∙ form.rolls-Field object name token))
not_constant t s (layer.Unary op operand token) e is _ _ _ _ h _ _ _ _ _ = absurd (h op operand token (sym is ∙ form.rolls-Unary op operand token))
not_constant t s (layer.Binary op left right token) e is _ _ _ _ _ h _ _ _ _ = absurd (h op left right token (sym is ∙ form.rolls-Binary op left right token))
not_constant t s (layer.Both left right token) e is _ _ _ _ _ _ h _ _ _ = absurd (h left right token (sym is ∙ form.rolls-Both left right token))
not_constant t s (layer.Either left right token) e is _ _ _ _ _ _ _ h _ _ = absurd (h left right token (sym is ∙ form.rolls-Either left right token))
not_constant t s (layer.Cast ty operand token) e is _ _ _ _ _ _ _ _ h _ = absurd (h ty operand token (sym is ∙ form.rolls-Cast ty operand token))
not_constant t s (layer.Choice test main other token) e is _ _ _ _ _ _ _ _ _ h = absurd (h test main other token (sym is ∙ form.rolls-Choice test main other token))
not_constant t s l e is _ _ _ _ _ _ _ _ _ _ = ap (λ z. constant t s (expression_of z)) (sym is) ∙ ap (constant t s) (fold-roll-Expression plain.Expression plain.Initial Before expression_step initial_step element_step l)

pub no_constant : (t : Table) (s : Scope) (e : Expression) →
    ((value : Token) (token : ℕ) → e ≡ form.Literal value token → ⊥) →
    ((name : String Global) (token : ℕ) → e ≡ form.Name name token → ⊥) →
    ((inner : Box Expression Global) (token : ℕ) → e ≡ form.Group inner token → ⊥) →
    ((object : Box Expression Global) (name : String Global) (token : ℕ) → e ≡ form.Field object name token → ⊥) →
    ((op : UnOp) (operand : Box Expression Global) (token : ℕ) → e ≡ form.Unary op operand token → ⊥) →
    ((op : BinOp) (left right : Box Expression Global) (token : ℕ) → e ≡ form.Binary op left right token → ⊥) →
    ((left right : Box Expression Global) (token : ℕ) → e ≡ form.Both left right token → ⊥) →
    ((left right : Box Expression Global) (token : ℕ) → e ≡ form.Either left right token → ⊥) →
    ((ty : WrittenType) (operand : Box Expression Global) (token : ℕ) → e ≡ form.Cast ty operand token → ⊥) →
    ((test main other : Box Expression Global) (token : ℕ) → e ≡ form.Choice test main other token → ⊥) →
    None ≡ constant t s (expression_of e)
no_constant t s e h_literal h_name h_group h_field h_unary h_binary h_both h_either h_cast h_choice = sym (not_constant t s (out-Expression e) e (roll-out-Expression e) h_literal h_name h_group h_field h_unary h_binary h_both h_either h_cast h_choice)
