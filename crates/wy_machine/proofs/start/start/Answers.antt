use Rattle.std.proofs.Common.{◌∙◌, ap, refl, reverse}
use Rattle.wy_kernel.specs.Parts.{program_of}
use Rattle.wy_kernel.specs.Program as kernel
use Rattle.wy_work.specs.Machines.{standing}
use Rattle.wy_work.specs.Tasks.{MachineState}
use Rattle.wy_machine.proofs.Starts.{pushed_before}
use Rattle.wy_machine.proofs.start.start.Goals as goal

pub returns-clause-first : goal.returns-clause-first
returns-clause-first g c = ap (λ (m : MachineState). m.state.keeps) (c.in_ok-push_step-2.ensures {u = tt}) ∙ ap (λ (m : MachineState). m.state.keeps) (c.in_ok-push_step.ensures {u = tt}) ∙ c.in_ok-state.ensures.first

pub returns-clause-none : goal.returns-clause-none
returns-clause-none g c = ap (λ (m : MachineState). m.state.kept) (c.in_ok-push_step-2.ensures {u = tt}) ∙ ap (λ (m : MachineState). m.state.kept) (c.in_ok-push_step.ensures {u = tt}) ∙ c.in_ok-state.ensures.none

pub returns-clause-comes : goal.returns-clause-comes
returns-clause-comes g c =
    let p = program_of c.args.program.now in
    let k = g.R.Register.keeps in
    let kept = g.R.Register.kept in
    pushed_before p c.args.input.now c.args.steps (standing k kept (record { state = c.in_ok-state.field-0; depth = 1000; work = c.new.result; stack = c.new-2.result; saved = c.new-3.result }))
    (standing k kept c.push_step.new.self) (standing k kept c.push_step-2.new.self) _ _
    c.in_ok-state.ensures.agrees refl c.new-2.ensures (ap reverse c.new.ensures.items) (ap (λ (x : kernel.Method). x.class) c.method.ensures) (ap (λ (x : kernel.Class). x.site) c.class.ensures)
    (c.in_ok-push_step.ensures {u = tt}) (c.in_ok-push_step-2.ensures {u = tt})
