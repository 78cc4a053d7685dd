use Rattle.std.proofs.Common.{◌≡◌, ◌++◌}
use Rattle.std.specs.List.{flat_map, range_with_len}
use Rattle.wy_kernel.specs.Parts.{program_of}
use Rattle.wy_scope.specs.Regions.{method_regions}
use Rattle.wy_scope.proofs.region.put_methods.Given as goal

abbrev pub invariant-loop-n : goal.invariant-loop-n
invariant-loop-n l = l.out.items ≡ l.fn.out.items ++ flat_map (method_regions (program_of l.program)) (range_with_len 0 l.n)
