use Rattle.std.proofs.Common.{◌≡◌, ◌++◌, take}
use Rattle.std.specs.List.{flat_map}
use Rattle.wy_spelling.specs.Spelling.{cover_bytes}
use Rattle.wy_spelling.proofs.write.put_each_cover.Given as goal

abbrev pub invariant-loop-cover : goal.invariant-loop-cover
invariant-loop-cover l = l.out.items ≡ l.fn.out.items ++ flat_map cover_bytes (take l.cover-index l.covers)
