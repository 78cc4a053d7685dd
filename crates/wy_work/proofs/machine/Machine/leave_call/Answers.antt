use Rattle.std.proofs.Common.{ap₂, arith, ◌∙◌, ◌∷◌}
use Rattle.wy_operands.specs.Values.{given}
use Rattle.wy_work.specs.Machines.{standing}
use Rattle.wy_work.proofs.Leaving.{leaves_call, lone}
use Rattle.wy_work.proofs.machine.Machine.leave_call.Goals as goal

pub returns : goal.returns
returns g c = record {
  goes = λ p.
      leaves_call p (standing g.R.Register.keeps g.R.Register.kept c.args.self.now) (standing g.R.Register.keeps g.R.Register.kept c.leave_body.new.self) (c.in_ok-leave_body.ensures.goes p) c.args.count _
      (c.in_ok-push_with.ensures ∙ ap₂ (λ v vs. v ∷ vs) (ap₂ given c.top-value.ensures (lone c.last_uses.result.now _ (omega (arith, c.in-len1.len_at_least)) (omega (arith, c.in-len1.len_below)) ∙ c.last_uses.ensures.last)) c.drop_last.ensures);
}
