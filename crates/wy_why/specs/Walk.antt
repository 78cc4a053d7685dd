-- Going down the events once, from the one that is asked about: what is known when those from k on were gone through.
use Rattle.std.specs.Prelude.{◌≡◌, ◌⊎◌, ◌+◌, ◌-◌, ◌*◌, ◌<◌, ◌≤◌, ℕ, suc, Bool, true, false, ◌||◌, if◌then◌else◌, List, [], ◌∷◌, ◌++◌, Some, filter, length, reverse, slice_get}
use Rattle.std.specs.List.{range_with_len}
use Rattle.wy_event.specs.Record.{Recorded}
use Rattle.wy_event.specs.Numbers.{only, union_of}
use Rattle.wy_event.specs.Sources.{Owners, sources, closure_within}
use Rattle.wy_view.specs.References.{RefersBelow}
use Rattle.wy_view.specs.Counts.{RoseAtMost}
use Rattle.wy_view.specs.View.{Told, Keeps}
use Rattle.wy_index.specs.declared.index.Index.{Index}
use Rattle.wy_index.specs.Halving.{IsHalvings}
use Rattle.wy_index.specs.Index.{owners_of}
use Rattle.wy_why.specs.declared.walk.Walk.{Walk}
use Rattle.wy_why.specs.declared.mark.Mark.{Mark}
use Rattle.wy_why.specs.Marks.{marked, taken}
use Rattle.wy_why.specs.Uses.{places_in, places_of}

-- all that an event comes from, or what it comes from by data
abbrev pub closure_of : Owners → Bool → List Recorded → ℕ → ℕ → Bool
closure_of owner all rs n = closure_within owner all rs (suc n) n

-- event j is marked and was gone through, or comes from one that is marked and is still to come
abbrev pub IsReached : Owners → Bool → List Recorded → ℕ → List Mark → ℕ → Type 0
IsReached owner all rs k marks j = ((marked all marks j ≡ true) × (k ≤ j)) ⊎ ((w : ℕ) × (w < k) × (marked all marks w ≡ true) × (closure_of owner all rs w j ≡ true))

-- and these are all that event n comes from
pub record IsThrough (owner : Owners) (all : Bool) (rs : List Recorded) (n k : ℕ) (marks : List Mark) : Type 0 where
  pub onward : (j : ℕ) → closure_of owner all rs n j ≡ true → IsReached owner all rs k marks j
  pub back : (j : ℕ) → IsReached owner all rs k marks j → closure_of owner all rs n j ≡ true

-- the marked ones from k on, up to n
abbrev pub marked_from : Bool → List Mark → ℕ → ℕ → List ℕ
marked_from all marks k n = filter (marked all marks) (range_with_len k (suc n - k))

-- a walk from event n, by an index of the view, with those from k on gone through; it began with so many steps
pub record IsDown (index : Index) (start now : Told) (first last n k : ℕ) (walk : Walk) : Type 0 where
  pub room : length walk.marks.items ≡ suc n
  pub all : reverse walk.all.items ≡ marked_from true walk.marks.items k n
  pub flow : reverse walk.flow.items ≡ marked_from false walk.marks.items k n
  pub through : (rs : List Recorded) → start.records ≡ Some rs → (all : Bool) → IsThrough (owners_of index) all rs n k walk.marks.items
  pub keeps : Keeps start now
  pub faults : now.faults ≡ start.faults
  pub reads : RoseAtMost (length walk.all.items) start.reads now.reads
  pub forward : first ≤ last
  pub steps : (rs : List Recorded) → start.records ≡ Some rs → (l : ℕ) → IsHalvings (length index.postings) l
      → last ≤ first + (length walk.all.items + places_in rs walk.all.items * (l + 1))

-- event k was visited: it is in the answer, or in its data too, and its sources are marked; no event from k on is marked anew
pub record IsVisited (index : Index) (told : Told) (first last k : ℕ) (flow : Bool) (old new : Walk) : Type 0 where
  pub in_all : new.all.items ≡ old.all.items ++ k ∷ []
  pub in_flow : new.flow.items ≡ (if flow then old.flow.items ++ k ∷ [] else old.flow.items)
  pub room : length new.marks.items ≡ length old.marks.items
  pub stay : (all : Bool) (j : ℕ) → k ≤ j → marked all new.marks.items j ≡ marked all old.marks.items j
  pub marks : (rs : List Recorded) → told.records ≡ Some rs → (all : Bool) (j : ℕ)
      → marked all new.marks.items j ≡ (marked all old.marks.items j || union_of only (taken all flow (sources (owners_of index) rs k)) j)
  pub below : (rs : List Recorded) → told.records ≡ Some rs → (r : Recorded) → slice_get rs k ≡ Some r → RefersBelow k r
  pub steps : (rs : List Recorded) → told.records ≡ Some rs → (l : ℕ) → IsHalvings (length index.postings) l
      → last ≤ first + (1 + places_of (slice_get rs k) * (l + 1))
