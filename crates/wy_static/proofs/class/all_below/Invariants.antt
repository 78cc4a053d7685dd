use Rattle.std.proofs.Common.{◌<◌, All, take}
use Rattle.wy_static.proofs.class.all_below.Given as goal

abbrev pub invariant-loop-n : goal.invariant-loop-n
invariant-loop-n l = All (λ d. d < l.many) (take l.n-index l.numbers)
