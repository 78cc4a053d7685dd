use Rattle.std.proofs.Common.{◌∙◌, add-one, ap, get_or}
use Rattle.std.specs.Option.{unwrap_or}
use Rattle.std.proofs.Math.Nat.{le_refl}
use Rattle.std.proofs.lemmas.Result.{err_from_is_err_and}
use Rattle.wy_kernel.specs.View.{expression}
use Rattle.wy_work.specs.Machines.{standing}
use Rattle.wy_kernel.proofs.ExpressionViews.{view_new_array}
use Rattle.wy_work.proofs.Filled.{element_filled, element_refused}
use Rattle.wy_work.proofs.machine.Machine.fill_element.Goals as goal

pub returns-in_err-set_element : goal.returns-in_err-set_element
returns-in_err-set_element g c = record {
  goes = λ p.
      let h = err_from_is_err_and c.from_residual.result c.from_residual.ensures.1 in
      rw (h.1, h.2) (element_refused p (standing g.R.Register.keeps g.R.Register.kept c.args.self.now) c.args.expr _ _ c.in-NewArray.elements.items _ c.in-NewArray.site (ap expression c.in-NewArray.is ∙ view_new_array _ _ _ _ _) c.args.array c.args.index _ _ c.last_uses-uses.result.now c.uses_at.result.now c.top-value.ensures c.last_uses-uses.ensures.last c.uses_at.ensures (c.is_value_of.ensures c.if-not-is_value_of.false) _ (c.unwrap_or-site.ensures ∙ ap (λ x. unwrap_or x 0) c.copied.ensures ∙ c.get.ensures.lookup.4 (le_refl c.args.index) 0 ∙ ap (λ xs. get_or xs c.args.index 0) c.deref.ensures.value) _ c.in_err-set_element.ensures.step c.in_err-set_element.ensures.around);
}

pub returns : goal.returns
returns g c = record {
  goes = λ p. element_filled p (standing g.R.Register.keeps g.R.Register.kept c.args.self.now) c.args.expr _ _ c.in-NewArray.elements.items _ c.in-NewArray.site (ap expression c.in-NewArray.is ∙ view_new_array _ _ _ _ _) c.args.array c.args.index _ _ c.last_uses-uses.result.now c.uses_at.result.now c.top-value.ensures c.last_uses-uses.ensures.last c.uses_at.ensures (c.is_value_of.ensures c.if-not-is_value_of.false) _ (c.unwrap_or-site.ensures ∙ ap (λ x. unwrap_or x 0) c.copied.ensures ∙ c.get.ensures.lookup.4 (le_refl c.args.index) 0 ∙ ap (λ xs. get_or xs c.args.index 0) c.deref.ensures.value) _ _ _ (standing g.R.Register.keeps g.R.Register.kept c.push_expr.new.self) c.in_ok-set_element.ensures.step c.in_ok-set_element.ensures.around (add-one c.args.index) c.drop_last.ensures c.in_ok-push_expr.ensures;
}
