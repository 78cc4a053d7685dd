use Rattle.std.proofs.Common.{map}
use Rattle.wy_event.specs.Record.{recorded}
use Rattle.wy_kernel.specs.Parts.{program_of}
use Rattle.wy_expect.proofs.Telling.{turn}
use Rattle.wy_expect.proofs.missing.each_never.Goals as goal

pub loop-s-init : goal.loop-s-init
loop-s-init c = c.new-out.ensures.items

pub loop-s-preserved : goal.loop-s-preserved
loop-s-preserved c =
    let o = c.args.opened.now in
    turn (program_of o.program.now) o.program.now.lines.items (map recorded o.view.events.items) o.coverage.now c.args.never.now c.loop-s.s-index _ c.loop-s.out.items c.put_never.new.out.items c.loop-s-test.true c.loop-s.invariant
    c.in_ok-put_never.ensures
