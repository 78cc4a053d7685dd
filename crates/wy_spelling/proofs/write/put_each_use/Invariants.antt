use Rattle.std.proofs.Common.{◌≡◌, ◌++◌, take}
use Rattle.std.specs.List.{flat_map}
use Rattle.wy_spelling.specs.Spelling.{use_bytes}
use Rattle.wy_spelling.proofs.write.put_each_use.Given as goal

abbrev pub invariant-loop-used : goal.invariant-loop-used
invariant-loop-used l = l.out.items ≡ l.fn.out.items ++ flat_map use_bytes (take l.used-index l.uses)
