use Rattle.std.proofs.Common.{◌∙◌, ap}
use Rattle.wy_kernel.specs.View.{expression}
use Rattle.wy_work.specs.Machines.{standing}
use Rattle.wy_kernel.proofs.ExpressionViews.{view_new_array}
use Rattle.wy_work.specs.Tasks.{pushed}
use Rattle.wy_work.proofs.Filled.{element_begins, filled}
use Rattle.wy_work.proofs.machine.Machine.find_element.Goals as goal

pub returns-in-None : goal.returns-in-None
returns-in-None g c = record {
  goes = λ p. filled p (standing g.R.Register.keeps g.R.Register.kept c.args.self.now) c.args.expr _ _ c.in-NewArray.elements.items _ c.in-NewArray.site (ap expression c.in-NewArray.is ∙ view_new_array _ _ _ _ _) c.args.array c.args.index c.deref.result.now c.deref.ensures.value c.in-None.ensures.lookup.3;
}

pub returns-in_ok-push_expr-in-Some-2 : goal.returns-in_ok-push_expr-in-Some-2
returns-in_ok-push_expr-in-Some-2 g c = record {
  goes = λ p. element_begins p (standing g.R.Register.keeps g.R.Register.kept c.args.self.now) c.args.expr _ _ c.in-NewArray.elements.items _ c.in-NewArray.site (ap expression c.in-NewArray.is ∙ view_new_array _ _ _ _ _) c.args.array c.args.index c.deref.result.now c.in-Some.element (standing g.R.Register.keeps g.R.Register.kept c.push_expr-in-Some.new.self) c.deref.ensures.value c.in-Some.ensures.lookup.3.0 c.in-Some.ensures.lookup.1 (c.in_ok-push_expr-in-Some-2.ensures ∙ ap (pushed _) c.in_ok-push_expr-in-Some.ensures);
}
