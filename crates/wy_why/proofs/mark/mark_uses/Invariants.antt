-- the uses so far are marked
use Rattle.std.proofs.Common.{◌≡◌, ◌+◌, ◌*◌, ◌≤◌, ◌||◌, ℕ, Bool, List, length, take}
use Rattle.wy_event.specs.Numbers.{only, union_of}
use Rattle.wy_event.specs.Record.{Recorded}
use Rattle.wy_event.specs.Sources.{use_sources}
use Rattle.wy_index.specs.Finds.{IsRecent}
use Rattle.wy_index.specs.Halving.{IsHalvings}
use Rattle.wy_index.specs.Index.{IsIndexOf, owners_of}
use Rattle.wy_why.specs.Marks.{marked, taken}
use Rattle.wy_why.specs.Uses.{places}
use Rattle.wy_why.proofs.mark.mark_uses.Given as goal

abbrev pub invariant-loop-used : goal.invariant-loop-used
invariant-loop-used g l = record {
  recent : IsRecent l.index.postings l.recent;
  marks : (rs : List Recorded) → IsIndexOf l.index rs → (all : Bool) (j : ℕ)
      → marked all l.marks j ≡ (marked all l.initial.marks j || union_of only (taken all l.flow (use_sources (owners_of l.index) rs (take l.used-index l.uses))) j);
  forward : l.initial.steps ≤ l.steps;
  steps : (k : ℕ) → IsHalvings (length l.index.postings) k → l.steps ≤ l.initial.steps + places (take l.used-index l.uses) * (k + 1);
}
