use Rattle.std.proofs.Common.{◌≡◌, length, reverse}
use Rattle.wy_calls.specs.Calls.{held}
use Rattle.wy_calls.specs.Layout.{framed}
use Rattle.wy_calls.proofs.frame.find.Given as goal

abbrev pub invariant-loop-live : goal.invariant-loop-live
invariant-loop-live l = held (framed (reverse l.frames) l.locals) l.fn.frame l.fn.index ≡ held (framed (reverse l.fn.frames) l.fn.locals) l.fn.frame l.fn.index

abbrev pub decreases-loop-live : goal.decreases-loop-live
decreases-loop-live l = length l.frames
