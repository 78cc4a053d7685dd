use Rattle.std.proofs.Common.{ap, arith, option_map, refl, sym, ◌-◌, ◌∙◌}
use Rattle.std.proofs.lemmas.Result.{err_from_is_err_and}
use Rattle.wy_steps.specs.State.{return}
use Rattle.wy_calls.proofs.Chain.{nobody, somebody}
use Rattle.wy_kernel.specs.Parts.{program_of}
use Rattle.wy_kernel.specs.Program as kernel
use Rattle.wy_kernel.specs.View.{body_of, present}
use Rattle.wy_work.specs.Tasks.{MachineState, pushed}
use Rattle.wy_work.specs.Machines.{standing}
use Rattle.wy_work.proofs.Classes.{above_alone, above_and_block, block_alone, class_entered, class_refused, class_too_deep, in_class, is_absent, none_at_all}
use Rattle.wy_work.proofs.machine.Machine.enter_class.Goals as goal
use Rattle.wy_work.proofs.machine.Machine.enter_class.Goals.{in-Some-body+in_ok-push_stmt, in_default}

pub returns-then-self-eq0 : goal.returns-then-self-eq0
returns-then-self-eq0 g c = record {
  goes = class_too_deep (program_of c.args.on.now.program.now) (standing g.R.Register.keeps g.R.Register.kept c.args.self.now) c.args.site c.args.class c.if-self-eq0.true;
}

pub returns-in_err-event : goal.returns-in_err-event
returns-in_err-event g c = record {
  goes =
      let h = err_from_is_err_and c.from_residual.result c.from_residual.ensures.1 in
      let p = program_of c.args.on.now.program.now in
      let m = standing g.R.Register.keeps g.R.Register.kept c.args.self.now in
      rw (h.1, h.2) (class_refused p c.args.site c.args.class (c.args.self.now.depth - 1) m (standing g.R.Register.keeps g.R.Register.kept c.begin_class.new.self) c.in_err-event.field-0.0 _ (λ u. return _) (omega (arith, c.if-self-eq0.false))
      (c.in_err-event.ensures.goes p (in_class p c.args.site c.args.class (c.args.self.now.depth - 1)) m.values));
}

pub returns-in_ok-push_step-2 : goal.returns-in_ok-push_step-2
returns-in_ok-push_step-2 g c = record {
  goes =
      let p = program_of c.args.on.now.program.now in
      let m = standing g.R.Register.keeps g.R.Register.kept c.args.self.now in
      let l = standing g.R.Register.keeps g.R.Register.kept c.begin_class.new.self in
      let n = standing g.R.Register.keeps g.R.Register.kept c.enter.new.self in
      let q = standing g.R.Register.keeps g.R.Register.kept c.push_step-then-declared.new.self in
      let declared = c.class-declared.result.now in
      let begins = c.in_ok-event.ensures.goes p (in_class p c.args.site c.args.class n.depth) m.values in
      let above_is = ap (λ (z : kernel.Class). z.above) (sym c.class-declared.ensures) ∙ somebody declared.above c.if-declared.true in
      let at_is = ap (λ (z : kernel.Class). z.site) (sym c.class-declared.ensures) in
      elim c.match-body-2.branch [
        | in-Some-body+in_ok-push_stmt w ↦
            (let pushes = c.in_ok-push_step-2.ensures ∙ ap (pushed _) (ap (standing g.R.Register.keeps g.R.Register.kept) w.self-is ∙ w.in_ok-push_stmt.ensures ∙ ap (pushed _) c.in_ok-push_step.ensures) in
            class_entered p c.args.site c.args.class c.in_ok-event.event m l n q c.in_ok-event.ensures.same (c.in_ok-enter.ensures.goes p) begins declared.site _ _ at_is above_is (sym c.init_body-body.ensures ∙ ap (option_map (λ b. body_of b.now)) w.in-Some-body.is) (sym (ap (λ (z : MachineState). z.state) pushes))
            (above_and_block p n q declared.site declared.above _ _ refl pushes))
        | in_default w ↦
            (let pushes = c.in_ok-push_step-2.ensures ∙ ap (pushed _) (ap (standing g.R.Register.keeps g.R.Register.kept) w.self-is ∙ c.in_ok-push_step.ensures) in
            class_entered p c.args.site c.args.class c.in_ok-event.event m l n q c.in_ok-event.ensures.same (c.in_ok-enter.ensures.goes p) begins declared.site _ _ at_is above_is (sym c.init_body-body.ensures ∙ ap (option_map (λ b. body_of b.now)) (is_absent _ w.in_default.not-Some)) (sym (ap (λ (z : MachineState). z.state) pushes))
            (above_alone p n q declared.site declared.above pushes))
      ];
}

pub returns-else-declared : goal.returns-else-declared
returns-else-declared g c = record {
  goes =
      let p = program_of c.args.on.now.program.now in
      let m = standing g.R.Register.keeps g.R.Register.kept c.args.self.now in
      let l = standing g.R.Register.keeps g.R.Register.kept c.begin_class.new.self in
      let n = standing g.R.Register.keeps g.R.Register.kept c.enter.new.self in
      let q = standing g.R.Register.keeps g.R.Register.kept c.match-body-2.self in
      let declared = c.class-declared.result.now in
      let begins = c.in_ok-event.ensures.goes p (in_class p c.args.site c.args.class n.depth) m.values in
      let above_is = ap (λ (z : kernel.Class). z.above) (sym c.class-declared.ensures) ∙ ap present c.if-declared.false ∙ nobody in
      let at_is = ap (λ (z : kernel.Class). z.site) (sym c.class-declared.ensures) in
      elim c.match-body-2.branch [
        | in-Some-body+in_ok-push_stmt w ↦
            (let pushes = ap (standing g.R.Register.keeps g.R.Register.kept) w.self-is ∙ w.in_ok-push_stmt.ensures ∙ ap (pushed _) c.in_ok-push_step.ensures in
            class_entered p c.args.site c.args.class c.in_ok-event.event m l n q c.in_ok-event.ensures.same (c.in_ok-enter.ensures.goes p) begins declared.site _ _ at_is above_is (sym c.init_body-body.ensures ∙ ap (option_map (λ b. body_of b.now)) w.in-Some-body.is) (sym (ap (λ (z : MachineState). z.state) pushes))
            (block_alone p n q declared.site _ _ refl pushes))
        | in_default w ↦
            (let pushes = ap (standing g.R.Register.keeps g.R.Register.kept) w.self-is ∙ c.in_ok-push_step.ensures in
            class_entered p c.args.site c.args.class c.in_ok-event.event m l n q c.in_ok-event.ensures.same (c.in_ok-enter.ensures.goes p) begins declared.site _ _ at_is above_is (sym c.init_body-body.ensures ∙ ap (option_map (λ b. body_of b.now)) (is_absent _ w.in_default.not-Some)) (sym (ap (λ (z : MachineState). z.state) pushes))
            (none_at_all p n q declared.site pushes))
      ];
}
