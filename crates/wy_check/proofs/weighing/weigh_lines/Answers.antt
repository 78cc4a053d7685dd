-- Each event is read once, from the first, and the line of one that is listed is weighed then.
use Rattle.std.proofs.Common.{◌≡◌, ◌+◌, ℕ, suc, sym, ◌∙◌, subst, arith}
use Rattle.wy_kernel.specs.Parts.{program_of}
use Rattle.wy_view.proofs.Views.{keeps_on, more_reads, one_read}
use Rattle.wy_check.specs.Weighing.{AreMarked, IsWeighed}
use Rattle.wy_check.specs.Writes.{owners}
use Rattle.wy_check.proofs.weighing.weigh_lines.Goals as goal

pub loop-n-preserved : goal.loop-n-preserved
loop-n-preserved g c =
    let told = g.V.EventView.tells in
    let inv = c.loop-n.invariant in
    let n = c.loop-n.n in
    let next : suc n ≡ n + 1 = omega arith in
    record {
      weighed = λ rs is seen asked. subst (λ k. IsWeighed (owners (program_of c.args.program.now)) rs c.args.lines.now c.args.end k c.step.new.weighing) next
          (c.in_ok-step.ensures.weighed rs c.args.end (inv.keeps.records ∙ is) (subst (AreMarked c.args.lines.now c.args.end) (sym c.deref.ensures.value) c.in_ok-listed.ensures) (inv.weighed rs is seen asked));
      few = c.in_ok-step.ensures.few inv.few;
      keeps = keeps_on (told c.args.view.now) (told c.loop-n.view) (told c.step.new.view) inv.keeps c.in_ok-step.ensures.keeps;
      reads = more_reads n 1 (told c.args.view.now).reads (told c.loop-n.view).reads (told c.step.new.view).reads inv.reads (one_read (told c.loop-n.view).reads (told c.step.new.view).reads c.in_ok-step.ensures.reads);
      faults = c.in_ok-step.ensures.answers ∙ inv.faults;
      forward = omega (arith, inv.forward, c.in_ok-step.ensures.forward);
    }

pub returns-clause-weighed : goal.returns-clause-weighed
returns-clause-weighed g c = λ rs is seen asked.
    let end : c.loop-n.n ≡ c.args.end = omega (arith, c.loop-n-test.false, c.loop-n.auto.n-end) in
    subst (λ k. IsWeighed (owners (program_of c.args.program.now)) rs c.args.lines.now c.args.end k c.loop-n.weighing) end (c.loop-n.invariant.weighed rs is seen asked)
