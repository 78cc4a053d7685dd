-- A trace that is opened: what its parts are of, and what a call leaves of it.
use Rattle.std.specs.Prelude.{◌≡◌, ◌<◌, ◌^◌, ℕ, length}
use Rattle.wy_kernel.specs.Parts.{program_of}
use Rattle.wy_view.specs.View.{Keeps, Told}
use Rattle.wy_index.specs.Index.{IsIndexOfView, owners_of}
use Rattle.wy_ask.specs.Asked.{owners}
use Rattle.wy_ask.specs.declared.opened.Opened.{Opened}

-- the index is of what the view tells, and knows the classes of the program's fields, which can be numbered
pub record IsOpenedOf {V : Type 0} (told : Told) (o : Opened V) : Type 0 where
  pub few_fields : length o.program.now.fields.items < 2 ^ 32
  pub index : IsIndexOfView o.index told
  pub owners : (f : ℕ) → owners_of o.index f ≡ owners (program_of o.program.now) f

-- a call leaves an opened trace of the same records: its view counts looks and refusals, and nothing else changes
pub record StaysOpened {V : Type 0} (tells : V → Told) (old new : Opened V) : Type 0 where
  pub program : new.program ≡ old.program
  pub coverage : new.coverage ≡ old.coverage
  pub index : new.index ≡ old.index
  pub keeps : Keeps (tells old.view) (tells new.view)
