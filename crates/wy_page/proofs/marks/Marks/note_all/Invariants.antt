-- so many events are noted, and the others end behind them
use Rattle.std.proofs.Common.{◌≡◌, ◌+◌, ◌≤◌, ◌++◌, ℕ, List, length, take, drop}
use Rattle.wy_page.specs.Places.{AreMarked, RiseTo}
use Rattle.wy_page.proofs.marks.Marks.note_all.Given as goal

abbrev pub invariant-loop-end : goal.invariant-loop-end
invariant-loop-end l = record {
  from : l.base ≤ l.self.from;
  within : l.self.end ≤ l.base + length l.bytes;
  rise : RiseTo (l.base + length l.bytes) l.self.end (drop l.end-index l.ends);
  marked : (places all : List ℕ) → l.bytes ≡ drop l.base all → AreMarked l.fn.self places all → AreMarked l.self (places ++ take l.end-index l.ends) all;
}
