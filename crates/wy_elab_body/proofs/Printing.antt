-- What is no call on `System.out`, by its layer.
use Rattle.std.proofs.Common.{◌≡◌, ap, sym, ◌∙◌, ℕ, false}
use Rattle.std.specs.declared.alloc.Global.{Global}
use Rattle.std.specs.declared.boxed.Box.{Box}
use Rattle.std.specs.declared.string.String.{String}
use Rattle.std.specs.declared.vec.Vec.{Vec}
use Rattle.wy_kernel.specs.Table.{Table}
use Rattle.wy_syntax.specs.declared.expression.Expression.{Expression}
use Rattle.wy_syntax.specs.declared.expression.Initial.{Initial}
use Rattle.wy_syntax.specs.declared.expression.Element.{Element}
use Rattle.wy_syntax.specs.declared.expression.Expression.TheOpen.{Expression-F}
use Rattle.wy_syntax.specs.declared.expression.Expression.TheOpen as layer
use Rattle.wy_syntax.specs.declared.expression.Expression.TheVariants as form
use Rattle.wy_syntax.specs.declared.expression.Expression.TheViews.{roll-Expression, out-Expression, roll-out-Expression}
use Rattle.wy_syntax.specs.declared.expression.Expression.TheFolds.{fold-roll-Expression}
use Rattle.wy_syntax.specs.Syntax as plain
use Rattle.wy_syntax.specs.View.{Before, expression_of, expression_step, initial_step, element_step}
use Rattle.wy_constant.specs.Scope.{Scope}
use Rattle.wy_elab_body.specs.Parts.{is_output_call}

no_call_in : (t : Table) (s : Scope) (l : Expression-F Expression Initial Element) (e : Expression) → roll-Expression l ≡ e →
    ((object : Box Expression Global) (name : String Global) (args : Vec Expression Global) (token : ℕ) → e ≡ form.InvokeOn object name args token → ⊥) → is_output_call t s (expression_of e) ≡ false
unfolding expression_of is_output_call
no_call_in t s (layer.InvokeOn object name args token) e is h = absurd (h object name args token (sym is ∙ form.rolls-InvokeOn object name args token))
no_call_in t s l e is h =
    ap (λ z. is_output_call t s (expression_of z)) (sym is) ∙ ap (is_output_call t s) (fold-roll-Expression plain.Expression plain.Initial Before expression_step initial_step element_step l)

pub no_call : (t : Table) (s : Scope) (e : Expression) → ((object : Box Expression Global) (name : String Global) (args : Vec Expression Global) (token : ℕ) → e ≡ form.InvokeOn object name args token → ⊥) →
    false ≡ is_output_call t s (expression_of e)
no_call t s e h = sym (no_call_in t s (out-Expression e) e (roll-out-Expression e) h)
