-- the statements so far are told
use Rattle.std.proofs.Common.{take}
use Rattle.std.specs.Prelude.{map}
use Rattle.wy_event.specs.Record.{recorded}
use Rattle.wy_kernel.specs.Parts.{program_of}
use Rattle.wy_expect.specs.Texts.{NeverPrinted}
use Rattle.wy_expect.proofs.missing.each_never.Given as goal

abbrev pub invariant-loop-s : goal.invariant-loop-s
invariant-loop-s l =
    NeverPrinted (program_of l.opened.program.now) l.opened.program.now.lines.items (map recorded l.opened.view.events.items) l.opened.coverage.now (take l.s-index l.never) l.out.items
