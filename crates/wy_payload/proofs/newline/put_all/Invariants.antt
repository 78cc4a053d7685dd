use Rattle.std.proofs.Common.{◌≡◌, ◌++◌, take}
use Rattle.wy_kernel.specs.Substatements.{statements_seen}
use Rattle.wy_payload.specs.Bodies.{newlines_of}
use Rattle.wy_payload.proofs.newline.put_all.Given as goal

abbrev pub invariant-loop-s : goal.invariant-loop-s
invariant-loop-s l = l.out.items ≡ l.fn.out.items ++ newlines_of (statements_seen (take l.s-index l.all))
