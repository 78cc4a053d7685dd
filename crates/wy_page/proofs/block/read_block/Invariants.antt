-- so many frames were read, and each event refers below itself
use Rattle.std.proofs.Common.{◌≡◌, ◌+◌, length}
use Rattle.wy_page.specs.Frames.{ReferFrom}
use Rattle.wy_page.proofs.Frames.{ReadSoFar}
use Rattle.wy_page.proofs.block.read_block.Given as goal

abbrev pub invariant-loop-n : goal.invariant-loop-n
invariant-loop-n l = record {
  place : l.n ≡ l.first + length l.events.items;
  refer : ReferFrom l.first l.events.items;
  read : ReadSoFar l.version l.first l.bytes l.events.items l.rest;
}
