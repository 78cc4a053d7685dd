use Rattle.std.proofs.Common.{◌≡◌, ◌++◌, map, take}
use Rattle.std.specs.List.{flat_map}
use Rattle.wy_kernel.specs.Parts.{program_of}
use Rattle.wy_kernel.specs.Statements.{statements_of}
use Rattle.wy_scope.specs.Evidence.{evidence_in}
use Rattle.wy_telling.specs.Caught.{AreClauses}
use Rattle.wy_telling.specs.Scoped.{item_line_in}
use Rattle.wy_telling.proofs.scoped.put_each.Given as goal

abbrev pub invariant-loop-item : goal.invariant-loop-item
invariant-loop-item l = AreClauses (statements_of (program_of l.program)) l.clauses
    → l.out.items ≡ l.fn.out.items ++ flat_map (item_line_in (program_of l.program) l.program.lines.items) (map evidence_in (take l.item-index l.items))
