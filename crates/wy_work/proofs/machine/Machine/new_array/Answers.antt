use Rattle.std.proofs.Common.{◌∙◌, ap, sym}
use Rattle.std.proofs.lemmas.Bool.{eq-eqb, eqb-true, false≢true}
use Rattle.std.proofs.lemmas.List.{nil_from_length}
use Rattle.std.proofs.lemmas.Result.{err_from_is_err_and}
use Rattle.wy_kernel.specs.View.{expression}
use Rattle.wy_work.specs.Machines.{standing}
use Rattle.wy_kernel.proofs.ExpressionViews.{view_new_array}
use Rattle.wy_work.proofs.Filled.{array_made, array_refused, by_dimensions}
use Rattle.wy_work.proofs.Seen.{row_length}
use Rattle.wy_work.proofs.machine.Machine.new_array.Goals as goal

pub returns-in_err-array : goal.returns-in_err-array
returns-in_err-array g c = record {
  goes = λ p.
      let h = err_from_is_err_and c.from_residual.result c.from_residual.ensures.1 in
      rw (h.1, h.2) (array_refused p (standing g.R.Register.keeps g.R.Register.kept c.args.self.now) c.args.expr _ c.in-NewArray.dims.items c.in-NewArray.elements.items _ c.in-NewArray.site (ap expression c.in-NewArray.is ∙ view_new_array _ _ _ _ _) (nil_from_length c.in-NewArray.dims.items (sym c.in-NewArray.dims.ok.0 ∙ eqb-true _ 0 (sym c.is_empty.ensures ∙ c.if-is_empty.true))) _ _ _ c.in-Ok.ensures.1 (c.len.ensures ∙ c.in-NewArray.elements.ok.0) _ c.in_err-array.ensures.step c.in_err-array.ensures.around);
}

pub returns-then-is_empty : goal.returns-then-is_empty
returns-then-is_empty g c = record {
  goes = λ p. array_made p (standing g.R.Register.keeps g.R.Register.kept c.args.self.now) c.args.expr _ c.in-NewArray.dims.items c.in-NewArray.elements.items _ c.in-NewArray.site (ap expression c.in-NewArray.is ∙ view_new_array _ _ _ _ _) (nil_from_length c.in-NewArray.dims.items (sym c.in-NewArray.dims.ok.0 ∙ eqb-true _ 0 (sym c.is_empty.ensures ∙ c.if-is_empty.true))) _ _ _ c.in-Ok.ensures.1 (c.len.ensures ∙ c.in-NewArray.elements.ok.0) c.in_ok-array.array _ (standing g.R.Register.keeps g.R.Register.kept c.push_expr.new.self) c.in_ok-array.ensures.step c.in_ok-array.ensures.around c.in_ok-push_with.ensures c.in_ok-push_expr.ensures;
}

pub returns : goal.returns
returns g c = record {
  goes = λ p. by_dimensions p (standing g.R.Register.keeps g.R.Register.kept c.args.self.now) c.args.expr _ c.in-NewArray.dims.items c.in-NewArray.elements.items _ c.in-NewArray.site (ap expression c.in-NewArray.is ∙ view_new_array _ _ _ _ _) (λ none. false≢true (sym c.if-is_empty.false ∙ c.is_empty.ensures ∙ eq-eqb _ 0 (c.in-NewArray.dims.ok.0 ∙ none))) c.create_arrays.result (standing g.R.Register.keeps g.R.Register.kept c.create_arrays.new.self) _ (row_length c.in-NewArray.dims.items _ (c.len-2.ensures ∙ c.in-NewArray.dims.ok.0)) (c.create_arrays.ensures.goes p);
}
