use Rattle.std.proofs.Common.{ap, refl, sym, ◌∙◌, ◌-◌, [], arith}
use Rattle.std.proofs.lemmas.Result.{err_from_is_err_and}
use Rattle.wy_kernel.specs.Parts.{program_of}
use Rattle.wy_kernel.specs.Program as kernel
use Rattle.wy_kernel.specs.View.{body_of}
use Rattle.wy_meaning.specs.Call.{call_uses, is_void}
use Rattle.wy_operands.specs.Values.{under_many}
use Rattle.wy_steps.specs.State.{return}
use Rattle.wy_work.specs.Machines.{standing}
use Rattle.wy_work.proofs.Runs.{turned_after}
use Rattle.wy_work.proofs.Calls.{settles}
use Rattle.wy_work.proofs.Bodies.{call_refused, called, fell_off, in_call, pushes_body, too_deep}
use Rattle.wy_work.proofs.machine.Machine.call.Goals as goal

pub returns-then-self-eq0 : goal.returns-then-self-eq0
returns-then-self-eq0 g c = record {
  goes = λ r args a b. too_deep (program_of c.args.on.now.program.now) (standing g.R.Register.keeps g.R.Register.kept c.args.self.now) c.args.site c.args.method c.args.count r args c.if-self-eq0.true;
}

pub returns-in_default : goal.returns-in_default
returns-in_default g c = record {
  goes = λ r args a b. fell_off (program_of c.args.on.now.program.now) (standing g.R.Register.keeps g.R.Register.kept c.args.self.now) c.args.site c.args.method c.args.count r args (c.args.self.now.depth - 1) (omega (arith, c.if-self-eq0.false)) (sym c.in_default.ensures);
}

pub returns-in_err-event : goal.returns-in_err-event
returns-in_err-event g c = record {
  goes = λ r args a b.
      let h = err_from_is_err_and c.from_residual.result c.from_residual.ensures.1 in
      let p = program_of c.args.on.now.program.now in
      let m = standing g.R.Register.keeps g.R.Register.kept c.args.self.now in
      let code = body_of c.in-Some.body.now in
      rw (h.1, h.2) (call_refused p m c.args.site c.args.method c.args.count r args code (c.args.self.now.depth - 1) (standing g.R.Register.keeps g.R.Register.kept c.begin_call.new.self) c.in_err-event.field-0.0 _ (λ u. return _) (omega (arith, c.if-self-eq0.false)) (sym c.in-Some.ensures)
      (c.in_err-event.ensures.goes p (call_uses (kernel.method p c.args.method).form r) (in_call p c.args.site c.args.method (c.args.self.now.depth - 1) code r args) (under_many c.args.count m.values) b));
}

pub returns : goal.returns
returns g c = record {
  goes = λ r args a b.
      let p = program_of c.args.on.now.program.now in
      let m = standing g.R.Register.keeps g.R.Register.kept c.args.self.now in
      let l = standing g.R.Register.keeps g.R.Register.kept c.begin_call.new.self in
      let n = standing g.R.Register.keeps g.R.Register.kept c.enter.new.self in
      let q = standing g.R.Register.keeps g.R.Register.kept c.push_stmt.new.self in
      let code = body_of c.in-Some.body.now in
      let event = c.in_ok-event.event in
      let is_none = c.is_void.ensures ∙ ap (λ (z : kernel.Method). is_void z.result) c.method.ensures in
      let pushes = pushes_body _ _ _ _ _ _ _ c.in_ok-push_stmt.ensures c.in_ok-push_step.ensures is_none in
      let entered = c.in_ok-enter.ensures.goes p in
      let begins = c.in_ok-event.ensures.goes p (call_uses (kernel.method p c.args.method).form r) (in_call p c.args.site c.args.method n.depth code r args) (under_many c.args.count m.values) b in
      settles p _ m.state q c.bind.result _ [] (sym (ap (λ z. z.values) pushes ∙ entered.values)) c.bind.ensures.same
      (turned_after p m.state q (standing g.R.Register.keeps g.R.Register.kept c.bind.new.self) _ _ c.bind.result (λ u. return [])
      (called p c.args.site c.args.method code r args c.args.count event m l n q (sym c.in-Some.ensures) a c.in_ok-event.ensures.same entered begins _ refl pushes)
      (c.bind.ensures.goes p (return [])));
}
