use Rattle.std.proofs.Common.{ap, subst, sym, ◌∙◌}
use Rattle.wy_kernel.specs.Parts.{program_of}
use Rattle.wy_kernel.specs.Program as kernel
use Rattle.wy_meaning.specs.Place.{initialize}
use Rattle.wy_meaning.specs.Run.{world}
use Rattle.wy_work.specs.Expressions.{leaving}
use Rattle.wy_work.specs.Tasks.{Resumed, then_all}
use Rattle.wy_work.specs.Machines.{standing}
use Rattle.wy_work.proofs.Runs.{world_program}
use Rattle.wy_work.proofs.machine.Machine.initialize_owner.Goals as goal

pub returns : goal.returns
returns g c = record {
  goes =
      let p = program_of c.args.on.now.program.now in
      let m = standing g.R.Register.keeps g.R.Register.kept c.args.self.now in
      let n = standing g.R.Register.keeps g.R.Register.kept c.initialize.new.self in
      subst (λ k. Resumed p (then_all p m (leaving m.values (initialize (world p m.depth) c.args.site k))) m.state c.initialize.result n)
      (ap (λ (z : kernel.Field). z.class) c.field.ensures ∙ ap (λ q. (kernel.field q c.args.field).class) (sym (world_program p m.depth))) c.initialize.ensures.goes;
}
