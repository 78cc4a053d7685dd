use Rattle.std.proofs.Common.{refl}
use Rattle.wy_meaning.specs.Run.{world}
use Rattle.wy_kernel.specs.Parts.{program_of}
use Rattle.wy_work.specs.Machines.{standing}
use Rattle.wy_work.proofs.Runs.{world_program}
use Rattle.wy_work.proofs.Ends.{shown_first, value_forgotten, value_returned, value_thrown}
use Rattle.wy_work.proofs.machine.Machine.act_on.Goals as goal

pub returns-in-Eval : goal.returns-in-Eval
returns-in-Eval g c = record { goes = value_forgotten (program_of c.args.on.now.program.now) (standing g.R.Register.keeps g.R.Register.kept c.args.self.now) c.args.stmt.now _ _ c.in-Eval.is c.clear.ensures }

pub returns-in-If : goal.returns-in-If
returns-in-If g c = record { goes = c.act_if.ensures.goes (program_of c.args.on.now.program.now) (record { test = _; main = _; is = c.in-If.is; same = c.deref.ensures }) }

pub returns-in-Return : goal.returns-in-Return
returns-in-Return g c = record { goes = value_returned (program_of c.args.on.now.program.now) (standing g.R.Register.keeps g.R.Register.kept c.args.self.now) c.args.stmt.now _ c.return_value.result _ _ c.top-value.ensures c.last_uses.ensures.last _ c.in-Return.is (c.return_value.ensures.step (program_of c.args.on.now.program.now)) c.return_value.ensures.around }

pub returns-in-Throw : goal.returns-in-Throw
returns-in-Throw g c = record {
  goes =
      let p = program_of c.args.on.now.program.now in
      value_thrown p (standing g.R.Register.keeps g.R.Register.kept c.args.self.now) c.args.stmt.now _ c.throw_value.result _ _ c.top-value-in-Throw.ensures c.last_uses-in-Throw.ensures.last _ c.in-Throw.is (c.throw_value.ensures.step p (world p c.args.self.now.depth) (world_program p c.args.self.now.depth)) c.throw_value.ensures.around;
}

pub returns-in_ok-push_stmt-in-Print : goal.returns-in_ok-push_stmt-in-Print
returns-in_ok-push_stmt-in-Print g c = record { goes = shown_first (program_of c.args.on.now.program.now) (standing g.R.Register.keeps g.R.Register.kept c.args.self.now) c.args.stmt.now (standing g.R.Register.keeps g.R.Register.kept c.show.new.self) (standing g.R.Register.keeps g.R.Register.kept c.push_stmt.new.self) c.args.stmt c.show.result _ _ _ _ refl c.in-Print.is c.in_ok-push_stmt-in-Print.ensures c.show.ensures.goes }
