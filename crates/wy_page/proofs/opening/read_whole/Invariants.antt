-- what was read so far of the bytes behind the head, and of a file that is told; nothing was refused
use Rattle.std.proofs.Common.{◌≡◌, ◌-◌, ◌≤◌, ℕ, List, length}
use Rattle.wy_kernel.specs.Limits.{trace_limit}
use Rattle.wy_frames.specs.Progress.{Progress}
use Rattle.wy_spelling.specs.Spelling.{opening}
use Rattle.wy_page.specs.Reads.{AreNext, Reads}
use Rattle.wy_page.specs.Noted.{Noted}
use Rattle.wy_page.proofs.opening.read_whole.Given as goal

abbrev pub invariant-pieces : goal.invariant-pieces
invariant-pieces g l = record {
  fed : List ℕ;
  standing : Progress;
  reads : Reads l.reading l.fn.version l.program l.head fed standing;
  noted : Noted l.found standing;
  next : AreNext (g.S.Shelf.held l.initial.shelf) l.name (length (opening l.fn.version l.head)) fed;
  short : l.reading.at ≤ trace_limit;
  held : g.S.Shelf.held l.shelf ≡ g.S.Shelf.held l.initial.shelf;
  faults : g.S.Shelf.faults l.shelf ≡ g.S.Shelf.faults l.initial.shelf;
  misses : g.S.Shelf.misses l.shelf ≡ g.S.Shelf.misses l.initial.shelf;
  fulls : g.S.Shelf.fulls l.shelf ≡ g.S.Shelf.fulls l.initial.shelf;
}

abbrev pub decreases-pieces : goal.decreases-pieces
decreases-pieces g l = trace_limit - l.reading.at
