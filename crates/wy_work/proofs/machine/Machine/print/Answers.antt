use Rattle.std.proofs.lemmas.Result.{err_from_is_err_and}
use Rattle.wy_meaning.specs.Run.{world}
use Rattle.wy_kernel.specs.Parts.{program_of}
use Rattle.wy_work.specs.Machines.{standing}
use Rattle.wy_work.proofs.Runs.{world_program}
use Rattle.wy_work.proofs.Ends.{print_done, print_refused}
use Rattle.wy_work.proofs.machine.Machine.print.Goals as goal

pub returns-in_err-print_text : goal.returns-in_err-print_text
returns-in_err-print_text g c = record {
  goes =
      let p = program_of c.args.on.now.program.now in
      let w = world p c.args.self.now.depth in
      let h = err_from_is_err_and c.from_residual.result c.from_residual.ensures.1 in
      rw (h.1, h.2) (print_refused p (standing g.R.Register.keeps g.R.Register.kept c.args.self.now) c.args.stmt.now _ _ _ _ _ _ _ _ c.top-value.ensures c.last_uses.ensures.last c.in-Print.is (c.in_err-print_text.ensures.step w (world_program p c.args.self.now.depth)) c.in_err-print_text.ensures.around);
}

pub returns : goal.returns
returns g c = record {
  goes =
      let p = program_of c.args.on.now.program.now in
      let w = world p c.args.self.now.depth in
      print_done p (standing g.R.Register.keeps g.R.Register.kept c.args.self.now) c.args.stmt.now _ _ _ _ _ _ _ _ c.top-value.ensures c.last_uses.ensures.last c.in-Print.is (c.in_ok-print_text.ensures.step w (world_program p c.args.self.now.depth)) c.in_ok-print_text.ensures.around c.clear.ensures;
}
