use Rattle.std.proofs.Common.{ap, refl}
use Rattle.std.specs.Prelude.{pos}
use Rattle.std.proofs.lemmas.Result.{err_from_is_err_and}
use Rattle.wy_kernel.specs.Parts.{program_of}
use Rattle.wy_kernel.specs.Program as kernel
use Rattle.wy_meaning.specs.Run.{world}
use Rattle.wy_value.specs.declared.value.Value.TheVariants as val
use Rattle.wy_operands.specs.Layout.{values_of}
use Rattle.wy_work.specs.Machines.{standing}
use Rattle.wy_work.proofs.CallForms.{main_goes, main_refused}
use Rattle.wy_work.proofs.Runs.{world_program}
use Rattle.wy_work.proofs.machine.Machine.call_main.Goals as goal

pub returns-in_err-array : goal.returns-in_err-array
returns-in_err-array g c = record {
  goes =
      let h = err_from_is_err_and c.from_residual.result c.from_residual.ensures.1 in
      let p = program_of c.args.on.now.program.now in
      let m = standing g.R.Register.keeps g.R.Register.kept c.args.self.now in
      rw (h.1, h.2) (main_refused p m _ (ap (λ (z : kernel.Method). z.site) c.method.ensures) _ refl _ _ (c.in_err-array.ensures.step p (world p m.depth) (val.Int (pos 0)) (world_program p m.depth)) c.in_err-array.ensures.around);
}

pub returns : goal.returns
returns g c = record {
  goes =
      let p = program_of c.args.on.now.program.now in
      let m = standing g.R.Register.keeps g.R.Register.kept c.args.self.now in
      main_goes p m _ (ap (λ (z : kernel.Method). z.site) c.method.ensures) _ refl _ (values_of c.push_with.new.self) c.in_ok-array.array c.call_static.result (standing g.R.Register.keeps g.R.Register.kept c.call_static.new.self)
      (c.in_ok-array.ensures.step p (world p m.depth) (val.Int (pos 0)) (world_program p m.depth)) c.in_ok-array.ensures.around c.in_ok-push_with.ensures c.call_static.ensures.goes;
}
