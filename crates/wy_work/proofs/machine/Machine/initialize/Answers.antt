use Rattle.std.proofs.Common.{arith}
use Rattle.wy_kernel.specs.Parts.{program_of}
use Rattle.wy_work.specs.Machines.{standing}
use Rattle.wy_work.proofs.Runs.{turned_after}
use Rattle.wy_work.proofs.Classes.{built_in, from_source, needs_no_more, needs_none, needs_to_enter}
use Rattle.wy_work.proofs.machine.Machine.initialize.Goals as goal
use Rattle.wy_work.proofs.machine.Machine.initialize.Goals.{then-class-lt-FIRST_SOURCE_CLASS-via-then-class-lt-FIRST_SOURCE_CLASS, then-class-lt-FIRST_SOURCE_CLASS-via-else-class-lt-FIRST_SOURCE_CLASS+then-is_begun}

pub returns-then-class-lt-FIRST_SOURCE_CLASS : goal.returns-then-class-lt-FIRST_SOURCE_CLASS
returns-then-class-lt-FIRST_SOURCE_CLASS g c = record {
  goes =
      let p = program_of c.args.on.now.program.now in
      let m = standing g.R.Register.keeps g.R.Register.kept c.args.self.now in
      elim c.then-class-lt-FIRST_SOURCE_CLASS.branch [
        | then-class-lt-FIRST_SOURCE_CLASS-via-then-class-lt-FIRST_SOURCE_CLASS w ↦ needs_none p m c.args.site c.args.class (built_in c.args.class w.if-class-lt-FIRST_SOURCE_CLASS.true)
        | then-class-lt-FIRST_SOURCE_CLASS-via-else-class-lt-FIRST_SOURCE_CLASS+then-is_begun w ↦ needs_no_more p m c.args.site c.args.class w.is_begun.result w.if-is_begun.true (from_source c.args.class (λ less. omega (arith, less, w.if-class-lt-FIRST_SOURCE_CLASS.false))) (w.is_begun.ensures.step p)
      ];
}

pub returns : goal.returns
returns g c = record {
  goes =
      let p = program_of c.args.on.now.program.now in
      let m = standing g.R.Register.keeps g.R.Register.kept c.args.self.now in
      turned_after p m.state m (standing g.R.Register.keeps g.R.Register.kept c.enter_class.new.self) _ _ c.enter_class.result _
      (needs_to_enter p m c.args.site c.args.class c.is_begun.result c.if-is_begun.false (from_source c.args.class (λ less. omega (arith, less, c.if-class-lt-FIRST_SOURCE_CLASS.false))) (c.is_begun.ensures.step p)) c.enter_class.ensures.goes;
}
