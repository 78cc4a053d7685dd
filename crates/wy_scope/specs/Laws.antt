-- What holds of each list of items.
use Rattle.std.specs.Prelude.{◌≡◌, ℕ, Bool, true, ◌&&◌, List, is_some, slice_get}
use Rattle.std.specs.List.{Contains}
use Rattle.wy_kernel.specs.Program.{Program}
use Rattle.wy_event.specs.Record.{Recorded}
use Rattle.wy_index.specs.Found.{is_call}
use Rattle.wy_static.specs.declared.point.Link.{Link}
use Rattle.wy_paths.specs.Leads.{Leads}
use Rattle.wy_scope.specs.Evidence.{Evidence}
use Rattle.wy_scope.specs.Graph.{IsScopedLink}
use Rattle.wy_scope.specs.Items.{AreItems, IsMissed, links_of, region_of_statement}
use Rattle.wy_scope.specs.Passing.{is_there}
use Rattle.wy_scope.specs.Scope.{entry_of}

abbrev pub calls_one : Recorded → Bool
calls_one r = is_call r.kind && is_some r.entity

-- the event of a number is there, and is a Call
abbrev pub is_call_at : List Recorded → ℕ → Bool
is_call_at rs call = is_there calls_one (slice_get rs call)

-- every chain of links between regions, from the entry of the method that was called to the region of a
-- statement that was not passed, has an item's link in it
abbrev pub ItemsAreACut : Type 0
ItemsAreACut =
    (p : Program) (rs : List Recorded) (call n : ℕ) (items : List Evidence)
    → is_call_at rs call ≡ true → IsMissed p rs call n → AreItems p rs call n items
    → (chain : List Link)
    → Leads (IsScopedLink p) (entry_of rs call) chain (region_of_statement p n)
    → (l : Link) × Contains chain l × Contains (links_of items) l

-- a statement has one list of items in a call
abbrev pub ItemsAreOne : Type 0
ItemsAreOne =
    (p : Program) (rs : List Recorded) (call n : ℕ) (xs ys : List Evidence)
    → AreItems p rs call n xs → AreItems p rs call n ys → xs ≡ ys
