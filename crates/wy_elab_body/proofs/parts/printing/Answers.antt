-- A call of `print` or `println`, with what is printed.
use Rattle.std.proofs.Common.{◌≡◌, ap, sym, subst, ◌∙◌, map}
use Rattle.wy_table.specs.ClassTable.{table_of}
use Rattle.wy_kernel.specs.View.{act}
use Rattle.wy_syntax.specs.Syntax as source
use Rattle.wy_syntax.specs.View.{expression_of, row_of}
use Rattle.wy_syntax.proofs.ExpressionViews.{view_invoke_on}
use Rattle.wy_elab_expr.specs.Views.{GetsTo}
use Rattle.wy_elab_body.specs.Parts.{printing}
use Rattle.wy_elab_body.proofs.parts.printing.Goals as goal

pub returns-in-InvokeOn : goal.returns-in-InvokeOn
returns-in-InvokeOn c = λ j h.
    let object : source.Expression = expression_of c.in-InvokeOn.object.value in
    let gets : source.Expression → Type 0 = λ e. GetsTo act c.printed_with.result c.printed_with.new.texts (printing j (table_of c.args.table.now) c.args.scope.now e c.args.texts.now) in
    let seen : expression_of c.args.e.now ≡ source.InvokeOn object c.as_str.result.now (row_of (map expression_of c.as_slice.result.now)) c.in-InvokeOn.token =
    ap expression_of c.in-InvokeOn.is
    ∙ view_invoke_on c.in-InvokeOn.object c.in-InvokeOn.name c.in-InvokeOn.args c.in-InvokeOn.token
    ∙ ap (λ name. source.InvokeOn object name (row_of (map expression_of c.in-InvokeOn.args.items)) c.in-InvokeOn.token) (sym c.as_str.ensures.value)
    ∙ ap (λ args. source.InvokeOn object c.as_str.result.now (row_of (map expression_of args)) c.in-InvokeOn.token) (sym c.as_slice.ensures.value) in
    subst gets (sym seen) (c.printed_with.ensures object j h)
