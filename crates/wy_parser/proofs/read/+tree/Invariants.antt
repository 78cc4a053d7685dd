use Rattle.std.proofs.Common.{◌≤◌, ◌+◌, ◌-◌, ◌*◌, suc, max, length, reverse}
use Rattle.wy_tree.specs.Ast.{view, views}
use Rattle.wy_parser.specs.Symbols.{symbols_seen}
use Rattle.wy_parser.specs.Reading.{reader, grow, growing, parts}
use Rattle.wy_parser.specs.Looks.{looked, looked_parts, looked_grow, looked_growing}
use Rattle.wy_parser.proofs.Runs.{IsReading, IsLooking}
use Rattle.wy_parser.proofs.Loops.{IsOnWay}
use Rattle.wy_parser.proofs.read.+tree.Given as goal

abbrev pub decreases-tree : goal.decreases-tree
decreases-tree l = 128 * l.depth + 4 * l.rank + 3

abbrev pub decreases-base : goal.decreases-base
decreases-base l = 128 * (l.below + 1) + 4 * l.rank + 5

abbrev pub decreases-parts : goal.decreases-parts
decreases-parts l = 128 * l.first_depth + 4 * l.first_rank + 4

abbrev pub decreases-grown : goal.decreases-grown
decreases-grown l = 128 * l.below + 110

abbrev pub decreases-grow : goal.decreases-grow
decreases-grow l = 128 * l.below + 105

abbrev pub invariant-parts-loop-left : goal.invariant-parts-loop-left
invariant-parts-loop-left l =
    (l.found.depth ≤ max l.first_depth (l.below + 1))
    × (128 * l.depth + 4 * l.rank ≤ 128 * l.first_depth + 4 * l.first_rank)
    × (l.depth ≤ 300)
    × (l.rank ≤ 24)
    × (l.depth ≤ max l.first_depth (l.below + 1))
    × (length l.rest ≤ length l.initial.rest)
    × IsReading (parts (reader l.first_depth l.first_rank) (reader l.below 24) l.initial.left (reverse l.initial.pending.items) (symbols_seen l.initial.rest))
    (views l.found.items.items) (reader l.depth l.rank) (reader l.below 24) l.left (reverse l.pending.items) (symbols_seen l.rest)
    × IsLooking (looked_parts (reader l.first_depth l.first_rank) (reader l.below 24) (looked l.first_depth l.first_rank) (looked l.below 24) l.initial.left (reverse l.initial.pending.items) (symbols_seen l.initial.rest) l.initial.seen)
    (reader l.depth l.rank) (reader l.below 24) (looked l.depth l.rank) (looked l.below 24) l.left (reverse l.pending.items) (symbols_seen l.rest) l.seen

abbrev pub decreases-parts-loop-left : goal.decreases-parts-loop-left
decreases-parts-loop-left l = l.left

abbrev pub invariant-grown-loop-tree : goal.invariant-grown-loop-tree
invariant-grown-loop-tree l =
    (length l.rest ≤ length l.initial.rest)
    × IsOnWay (grow (reader l.below 24) l.below l.sort) (looked_grow (reader l.below 24) (looked l.below 24) l.sort) l.below
    (growing (grow (reader l.below 24) l.below l.sort) (suc (suc l.below)) (view l.initial.left.tree) (symbols_seen l.initial.rest))
    (looked_growing (grow (reader l.below 24) l.below l.sort) (looked_grow (reader l.below 24) (looked l.below 24) l.sort) (suc (suc l.below)) (view l.initial.left.tree) (symbols_seen l.initial.rest) l.initial.seen)
    (view l.left.tree) (symbols_seen l.rest) l.seen l.left.depth

abbrev pub decreases-grown-loop-tree : goal.decreases-grown-loop-tree
decreases-grown-loop-tree l = l.below + 2 - l.left.depth
