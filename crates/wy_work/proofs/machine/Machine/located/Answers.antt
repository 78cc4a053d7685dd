use Rattle.std.proofs.Common.{◌∙◌, ap}
use Rattle.std.proofs.lemmas.Result.{err_from_is_err_and}
use Rattle.wy_work.specs.Machines.{standing}
use Rattle.wy_operands.specs.Values.{under_many}
use Rattle.wy_work.specs.Tasks.{pushed}
use Rattle.wy_work.proofs.Updates.{old_refused, right_next, right_one, update_seen, with_part, without_part}
use Rattle.wy_work.proofs.machine.Machine.located.Goals as goal

pub returns-in_err-old : goal.returns-in_err-old
returns-in_err-old g c = record {
  goes = λ p x own.
      let h = err_from_is_err_and c.from_residual-in_err-old.result c.from_residual-in_err-old.ensures.1 in
      rw (h.1, h.2) (old_refused p (standing g.R.Register.keeps g.R.Register.kept c.args.self.now) c.args.slot x (under_many c.args.many (standing g.R.Register.keeps g.R.Register.kept c.args.self.now).values) _ _ _ _ _ _ _ _ _ _ (update_seen c.args.expr.now c.in-Upd.place c.in-Upd.op c.in-Upd.value c.in-Upd.value_ty c.in-Upd.ty c.in-Upd.wide c.in-Upd.gives_old c.in-Upd.site c.in-Upd.is) _ c.in_err-old.ensures);
}

pub returns-in_ok-push_expr-in-Some : goal.returns-in_ok-push_expr-in-Some
returns-in_ok-push_expr-in-Some g c = record {
  goes = λ p x own.
      right_next p (standing g.R.Register.keeps g.R.Register.kept c.args.self.now) c.args.slot x _ own c.in-Upd.op c.in-Upd.ty c.in-Upd.wide c.in-Upd.gives_old c.in-Upd.site (under_many c.args.many (standing g.R.Register.keeps g.R.Register.kept c.args.self.now).values) _ _ c.in_ok-old.ensures c.args.expr _ _ _ _ c.in_ok-join.ensures c.in_ok-push_after.ensures _ (standing g.R.Register.keeps g.R.Register.kept c.push_expr-in-Some.new.self)
      (with_part c.args.expr.now c.in-Upd.place c.in-Upd.op c.in-Upd.value c.in-Upd.value_ty c.in-Upd.ty c.in-Upd.wide c.in-Upd.gives_old c.in-Upd.site c.in-Upd.is _ _ c.in-Some.is c.deref.ensures) (c.in_ok-push_expr-in-Some.ensures ∙ ap (pushed _) c.in_ok-push_expr.ensures);
}

pub returns-in_ok-push-in-None : goal.returns-in_ok-push-in-None
returns-in_ok-push-in-None g c = record {
  goes = λ p x own.
      right_one p (standing g.R.Register.keeps g.R.Register.kept c.args.self.now) c.args.slot x _ own c.in-Upd.op c.in-Upd.ty c.in-Upd.wide c.in-Upd.gives_old c.in-Upd.site (under_many c.args.many (standing g.R.Register.keeps g.R.Register.kept c.args.self.now).values) _ _ c.in_ok-old.ensures c.args.expr _ _ _ _ c.in_ok-join.ensures c.in_ok-push_after.ensures (standing g.R.Register.keeps g.R.Register.kept c.push_expr.new.self) _
      (without_part c.args.expr.now c.in-Upd.place c.in-Upd.op c.in-Upd.value c.in-Upd.value_ty c.in-Upd.ty c.in-Upd.wide c.in-Upd.gives_old c.in-Upd.site c.in-Upd.is c.in-None.is) c.in_ok-push_expr.ensures c.in_ok-push-in-None.ensures;
}
