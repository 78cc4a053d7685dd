use Rattle.std.proofs.Common.{sym}
use Rattle.std.proofs.lemmas.Result.{err_from_is_err_and}
use Rattle.wy_kernel.specs.Parts.{program_of}
use Rattle.wy_meaning.specs.Run.{world}
use Rattle.wy_work.specs.Machines.{standing}
use Rattle.wy_work.proofs.CallForms.{equals_found, equals_refused, receiver_shown}
use Rattle.wy_work.proofs.Runs.{world_program}
use Rattle.wy_work.proofs.Single.{carried_is}
use Rattle.wy_work.proofs.machine.Machine.call_on_text.Goals as goal

pub returns-in_err-same-in-1-eq1 : goal.returns-in_err-same-in-1-eq1
returns-in_err-same-in-1-eq1 g c = record {
  goes =
      let h = err_from_is_err_and c.from_residual.result c.from_residual.ensures.1 in
      let p = program_of c.args.on.now.program.now in
      let m = standing g.R.Register.keeps g.R.Register.kept c.args.self.now in
      rw (h.1, h.2) (equals_refused p m c.args.method c.args.count (record { value = c.value_at.result; uses = c.uses_at.result }) (record { value = c.top.result; uses = c.uses_at-in-1-eq1.result }) (sym (carried_is _ _ _ c.value_at.ensures c.uses_at.ensures)) (sym (carried_is _ _ _ c.top.ensures c.uses_at-in-1-eq1.ensures)) c.in-1-eq1.is-0 c.in-1-eq1.is-1 _ (c.in_err-same-in-1-eq1.ensures (world p m.depth) (world_program p m.depth)));
}

pub returns-in_ok-join-in-1-eq1 : goal.returns-in_ok-join-in-1-eq1
returns-in_ok-join-in-1-eq1 g c = record {
  goes =
      let p = program_of c.args.on.now.program.now in
      let m = standing g.R.Register.keeps g.R.Register.kept c.args.self.now in
      equals_found p m c.args.method c.args.count (record { value = c.value_at.result; uses = c.uses_at.result }) (record { value = c.top.result; uses = c.uses_at-in-1-eq1.result }) (sym (carried_is _ _ _ c.value_at.ensures c.uses_at.ensures)) (sym (carried_is _ _ _ c.top.ensures c.uses_at-in-1-eq1.ensures)) c.in-1-eq1.is-0 c.in-1-eq1.is-1 _ _ (c.in_ok-same-in-1-eq1.ensures (world p m.depth) (world_program p m.depth)) c.in_ok-join-in-1-eq1.ensures;
}

pub returns-in_ok-join-in_default : goal.returns-in_ok-join-in_default
returns-in_ok-join-in_default g c = record {
  goes = receiver_shown (program_of c.args.on.now.program.now) (standing g.R.Register.keeps g.R.Register.kept c.args.self.now) c.args.method c.args.count _ _ _ c.in_default.is-0.1 c.drop_last.ensures c.top-value.ensures c.in_ok-join-in_default.ensures;
}
