use Rattle.std.proofs.Common.{◌≡◌, take}
use Rattle.std.specs.Prelude.{filter}
use Rattle.wy_paths.specs.Numbers.{is_picked}
use Rattle.wy_paths.proofs.search.Found.picked.Given as goal

abbrev pub invariant-loop-link : goal.invariant-loop-link
invariant-loop-link l = l.picked.items ≡ filter (is_picked l.self) (take l.link-index l.links)
