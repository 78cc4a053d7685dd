-- Each line's event is looked at once.
use Rattle.std.proofs.Common.{◌≡◌, ◌<◌, length, refl, sym, subst, ap, ◌∙◌, arith}
use Rattle.wy_view.specs.Counts.{RoseAtMost}
use Rattle.wy_view.proofs.Views.{keeps_itself, keeps_on, more_reads, no_reads, one_read}
use Rattle.wy_check.proofs.Askings.{lines_all, lines_push}
use Rattle.wy_check.proofs.asking.ask_lines.Goals as goal

pub loop-line-init : goal.loop-line-init
loop-line-init g c =
    let told = g.V.EventView.tells in
    record {
      asked = λ rs is. tt;
      seen = c.new-history.ensures;
      keeps = keeps_itself (told c.args.view.now);
      reads = no_reads (told c.args.view.now).reads;
      faults = refl;
      forward = omega arith;
    }

pub loop-line-preserved : goal.loop-line-preserved
loop-line-preserved g c =
    let told = g.V.EventView.tells in
    let inv = c.loop-line.invariant in
    record {
      asked = λ rs is. lines_push c.loop-line.history c.ask_event.new.history rs c.args.lines.now c.loop-line.line-index c.line-item.result (inv.asked rs is) c.in_ok-ask_event.ensures.more c.loop-line-test.true c.line-item.is (c.in_ok-ask_event.ensures.asked rs (inv.keeps.records ∙ is));
      seen = c.in_ok-ask_event.ensures.more.seen inv.seen;
      keeps = keeps_on (told c.args.view.now) (told c.loop-line.view) (told c.ask_event.new.view) inv.keeps c.in_ok-ask_event.ensures.keeps;
      reads = more_reads c.loop-line.line-index 1 (told c.args.view.now).reads (told c.loop-line.view).reads (told c.ask_event.new.view).reads inv.reads (one_read (told c.loop-line.view).reads (told c.ask_event.new.view).reads c.in_ok-ask_event.ensures.reads);
      faults = c.in_ok-ask_event.ensures.answers ∙ inv.faults;
      forward = omega (arith, inv.forward, c.in_ok-ask_event.ensures.forward);
    }

pub returns-clause-asked : goal.returns-clause-asked
returns-clause-asked g c = λ rs is. lines_all c.loop-line.history rs c.args.lines.now c.loop-line.line-index (c.loop-line.invariant.asked rs is) c.loop-line-test.false
