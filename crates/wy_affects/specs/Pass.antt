-- Going up the events once, from the one that is asked about: what is known when those below k were gone through.
use Rattle.std.specs.Prelude.{◌≡◌, ℕ, suc, ◌-◌, ◌<◌, Bool, true, false, List, Some, filter, length}
use Rattle.std.specs.List.{range_with_len}
use Rattle.wy_event.specs.Record.{Recorded}
use Rattle.wy_view.specs.Counts.{RoseAtMost}
use Rattle.wy_view.specs.View.{Told, Keeps}
use Rattle.wy_index.specs.declared.index.Index.{Index}
use Rattle.wy_index.specs.Index.{owners_of}
use Rattle.wy_why.specs.declared.mark.Mark.{Mark}
use Rattle.wy_why.specs.Marks.{marked}
use Rattle.wy_why.specs.Walk.{closure_of}
use Rattle.wy_affects.specs.declared.pass.Pass.{Pass}

-- the marked ones above e and below k
abbrev pub marked_above : Bool → List Mark → ℕ → ℕ → List ℕ
marked_above all marks e k = filter (marked all marks) (range_with_len (suc e) (k - suc e))

-- a pass from event e, by an index of the view, with those below k gone through: each that comes from e is marked
pub record IsUp (index : Index) (start now : Told) (e k : ℕ) (pass : Pass) : Type 0 where
  pub room : length pass.marks.items ≡ k
  pub all : pass.all.items ≡ marked_above true pass.marks.items e k
  pub flow : pass.flow.items ≡ marked_above false pass.marks.items e k
  pub marks : (rs : List Recorded) → start.records ≡ Some rs → (all : Bool) (j : ℕ) → j < k
      → marked all pass.marks.items j ≡ closure_of (owners_of index) all rs j e
  pub keeps : Keeps start now
  pub faults : now.faults ≡ start.faults
  pub reads : RoseAtMost (k - suc e) start.reads now.reads
