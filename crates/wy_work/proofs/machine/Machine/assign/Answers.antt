use Rattle.std.proofs.Common.{◌∙◌, ap}
use Rattle.std.specs.Prelude.{if◌then◌else◌}
use Rattle.std.proofs.lemmas.Result.{err_from_is_err_and}
use Rattle.wy_kernel.specs.Form as plain
use Rattle.wy_kernel.specs.View.{expression, place, part_seen}
use Rattle.wy_state.specs.Seen.{valued}
use Rattle.wy_operands.specs.Values.{at}
use Rattle.wy_work.specs.Machines.{standing}
use Rattle.wy_work.proofs.Updates.{update_seen}
use Rattle.wy_work.proofs.Assigns.{number_refused, number_set, text_next}
use Rattle.wy_work.proofs.machine.Machine.assign.Goals as goal

pub returns-in_default-wide : goal.returns-in_default-wide
returns-in_default-wide g c = record { goes = text_next _ (standing g.R.Register.keeps g.R.Register.kept c.args.self.now) c.args.slot (place c.in-Upd.place) c.in-Upd.op (part_seen c.in-Upd.value) c.in-Upd.value_ty c.in-Upd.ty c.in-Upd.site c.in-Upd.gives_old c.concatenate.result (standing g.R.Register.keeps g.R.Register.kept c.concatenate.new.self) (standing g.R.Register.keeps g.R.Register.kept c.push_expr.new.self) c.args.expr (update_seen c.args.expr.now c.in-Upd.place c.in-Upd.op c.in-Upd.value c.in-Upd.value_ty c.in-Upd.ty c.in-Upd.wide c.in-Upd.gives_old c.in-Upd.site c.in-Upd.is ∙ ap (λ w. plain.Upd (place c.in-Upd.place) c.in-Upd.op (part_seen c.in-Upd.value) c.in-Upd.value_ty c.in-Upd.ty w c.in-Upd.gives_old c.in-Upd.site) c.in_default-wide.is) c.in_ok-push_expr.ensures c.concatenate.ensures.goes }

pub returns-in_err-value : goal.returns-in_err-value
returns-in_err-value g c = record {
  goes =
      let h = err_from_is_err_and c.from_residual-in_err-value.result c.from_residual-in_err-value.ensures.1 in
      rw (h.1, h.2) (number_refused _ (standing g.R.Register.keeps g.R.Register.kept c.args.self.now) c.args.slot (place c.in-Upd.place) c.in-Upd.op (part_seen c.in-Upd.value) c.in-Upd.value_ty c.in-Upd.ty c.in-Upd.site _ (standing g.R.Register.keeps g.R.Register.kept c.args.self.now).values c.in-Some.wide c.in-Upd.gives_old (expression c.args.expr.now) (update_seen c.args.expr.now c.in-Upd.place c.in-Upd.op c.in-Upd.value c.in-Upd.value_ty c.in-Upd.ty c.in-Upd.wide c.in-Upd.gives_old c.in-Upd.site c.in-Upd.is ∙ ap (λ w. plain.Upd (place c.in-Upd.place) c.in-Upd.op (part_seen c.in-Upd.value) c.in-Upd.value_ty c.in-Upd.ty w c.in-Upd.gives_old c.in-Upd.site) c.in-Some.is) _ _ _ _ c.value_at-old.ensures c.top-right.ensures c.last_uses-operands.ensures.last c.last_uses-uses.ensures.last _ c.in_err-value.ensures.step c.in_err-value.ensures.around);
}

pub returns-in_ok-keep_second_of_three : goal.returns-in_ok-keep_second_of_three
returns-in_ok-keep_second_of_three g c = record {
  goes = number_set _ (standing g.R.Register.keeps g.R.Register.kept c.args.self.now) c.args.slot (place c.in-Upd.place) c.in-Upd.op (part_seen c.in-Upd.value) c.in-Upd.value_ty c.in-Upd.ty c.in-Upd.site _ _ c.in-Some.wide c.in-Upd.gives_old (expression c.args.expr.now) (update_seen c.args.expr.now c.in-Upd.place c.in-Upd.op c.in-Upd.value c.in-Upd.value_ty c.in-Upd.ty c.in-Upd.wide c.in-Upd.gives_old c.in-Upd.site c.in-Upd.is ∙ ap (λ w. plain.Upd (place c.in-Upd.place) c.in-Upd.op (part_seen c.in-Upd.value) c.in-Upd.value_ty c.in-Upd.ty w c.in-Upd.gives_old c.in-Upd.site) c.in-Some.is) _ _ _ _ c.value_at-old.ensures c.top-right.ensures c.last_uses-operands.ensures.last c.last_uses-uses.ensures.last c.in_ok-value.value c.in_ok-value.event _ c.in_ok-value.ensures.step c.in_ok-value.ensures.around (ap (λ b. if b then at 1 (standing g.R.Register.keeps g.R.Register.kept c.args.self.now).values else valued c.in_ok-value.event c.in_ok-value.value) c.if-gives_old.true) c.in_ok-keep_second_of_three.ensures;
}

pub returns-in_ok-replace : goal.returns-in_ok-replace
returns-in_ok-replace g c = record {
  goes = number_set _ (standing g.R.Register.keeps g.R.Register.kept c.args.self.now) c.args.slot (place c.in-Upd.place) c.in-Upd.op (part_seen c.in-Upd.value) c.in-Upd.value_ty c.in-Upd.ty c.in-Upd.site _ _ c.in-Some.wide c.in-Upd.gives_old (expression c.args.expr.now) (update_seen c.args.expr.now c.in-Upd.place c.in-Upd.op c.in-Upd.value c.in-Upd.value_ty c.in-Upd.ty c.in-Upd.wide c.in-Upd.gives_old c.in-Upd.site c.in-Upd.is ∙ ap (λ w. plain.Upd (place c.in-Upd.place) c.in-Upd.op (part_seen c.in-Upd.value) c.in-Upd.value_ty c.in-Upd.ty w c.in-Upd.gives_old c.in-Upd.site) c.in-Some.is) _ _ _ _ c.value_at-old.ensures c.top-right.ensures c.last_uses-operands.ensures.last c.last_uses-uses.ensures.last c.in_ok-value.value c.in_ok-value.event _ c.in_ok-value.ensures.step c.in_ok-value.ensures.around (ap (λ b. if b then at 1 (standing g.R.Register.keeps g.R.Register.kept c.args.self.now).values else valued c.in_ok-value.event c.in_ok-value.value) c.if-gives_old.false) c.in_ok-replace.ensures;
}
