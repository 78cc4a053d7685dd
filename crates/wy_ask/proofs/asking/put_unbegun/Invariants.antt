use Rattle.std.proofs.Common.{◌≡◌, ◌++◌, take}
use Rattle.wy_ask.specs.Listing.{never}
use Rattle.wy_ask.proofs.asking.put_unbegun.Given as goal

abbrev pub invariant-loop-s : goal.invariant-loop-s
invariant-loop-s l = l.listed.items ≡ l.fn.listed.items ++ never (take l.s-index l.unbegun)
