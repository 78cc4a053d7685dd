use Rattle.std.proofs.Common.{ap, subst, suc, sym, ◌∙◌, ◌∷◌, Err}
use Rattle.wy_kernel.specs.Parts.{program_of}
use Rattle.wy_meaning.specs.Run.{world}
use Rattle.wy_meaning.specs.World.{fail, is_null, null_pointer}
use Rattle.wy_operands.specs.Values.{at, last_many, under_many}
use Rattle.wy_work.specs.Machines.{standing}
use Rattle.wy_work.proofs.Choices.{direct_called, direct_fails, resumed_as}
use Rattle.wy_work.proofs.Runs.{failed_at, world_program}
use Rattle.wy_operation.proofs.Exceptions.{fails}
use Rattle.wy_operation.proofs.Runs.{answers_as}
use Rattle.wy_operation.specs.Around.{Ends}
use Rattle.wy_state.specs.Agrees.{itself, shape}
use Rattle.wy_state.specs.Seen.{given}
use Rattle.wy_steps.specs.Sets.{nothing}
use Rattle.wy_steps.specs.State.{Carried, return}
use Rattle.wy_work.proofs.machine.Machine.call_direct.Goals as goal

pub returns : goal.returns
returns g c = record {
  goes =
      let p = program_of c.args.on.now.program.now in
      let m = standing g.R.Register.keeps g.R.Register.kept c.args.self.now in
      let q = standing g.R.Register.keeps g.R.Register.kept c.call_on.new.self in
      resumed_as p m q c.call_on.result (under_many (suc c.args.count) m.values) _ _
      (direct_called (world p m.depth) c.args.method (at c.args.count m.values) (last_many c.args.count m.values) c.args.site (ap is_null (sym c.value_at.ensures) ∙ sym c.is_null.ensures ∙ c.if-is_null.false))
      c.call_on.ensures.goes;
}

pub returns-then-is_null : goal.returns-then-is_null
returns-then-is_null g c = record {
  goes =
      let p = program_of c.args.on.now.program.now in
      let m = standing g.R.Register.keeps g.R.Register.kept c.args.self.now in
      let r = at c.args.count m.values in
      let w = world p m.depth in
      failed_at p m _ m.values _ (λ v. return (v ∷ under_many (suc c.args.count) m.values)) (itself {X = Carried nothing}) c.fail.result (λ u. return m.values)
      (answers_as p (itself {X = Carried nothing}) (Err c.fail.result) m.state _ _ _
      (direct_fails w c.args.method r (last_many c.args.count m.values) c.args.site (ap is_null (sym c.value_at.ensures) ∙ sym c.is_null.ensures ∙ c.if-is_null.true))
      (fails w null_pointer c.args.site (Carried nothing) p c.fail.result m.state _ r (subst (λ us. Ends p c.fail.result m.state (fail w null_pointer c.args.site (given r.value us)) (shape g.R.Register.keeps g.R.Register.kept c.fail.new.state)) c.uses_at.ensures (c.fail.ensures.step p w r.value (world_program p m.depth)))))
      c.fail.ensures.around;
}
