-- Where the edges between numbered points lead.
use Rattle.std.specs.Prelude.{◌≡◌, ◌⊎◌, ℕ, suc, ◌+◌, ◌<◌, Bool, true, false, List, [], ◌∷◌, length, map, slice_index_or}
use Rattle.std.specs.List.{Contains}
use Rattle.wy_paths.specs.declared.graph.Edge.{Edge}
use Rattle.wy_paths.specs.declared.graph.Walk.{Walk}

abbrev pub edge : ℕ → ℕ → Edge
edge a b = record { from = a; to = b }

-- both ends of an edge are below a count of points
abbrev pub LiesIn : ℕ → Edge → Type 0
LiesIn count e = (e.from < count) × (e.to < count)

abbrev pub ends_of : List Edge → List ℕ
ends_of edges = map (λ e. e.to) edges

abbrev pub IsMarked : List Bool → ℕ → Type 0
IsMarked marks a = slice_index_or marks a false ≡ true

-- a way from the start through open points alone, both ends among them
pub data IsWay (edges : List Edge) (open' : List Bool) (start : ℕ) : ℕ → Type 0 where
  here : IsMarked open' start → IsWay edges open' start start
  along : (a b : ℕ) → IsWay edges open' start a → Contains edges (edge a b) → IsMarked open' b
      → IsWay edges open' start b

-- the marked points are those to which a way leads
pub record IsSpread (edges : List Edge) (open' : List Bool) (start : ℕ) (marks : List Bool)
    : Type 0 where
  pub sized : length marks ≡ length open'
  pub begun : IsMarked open' start → IsMarked marks start
  pub closed : (a b : ℕ) → IsMarked marks a → Contains edges (edge a b) → IsMarked open' b
      → IsMarked marks b
  pub ways : (a : ℕ) → IsMarked marks a → IsWay edges open' start a

-- ---- a search

-- how many points are not marked
abbrev pub unmarked : List Bool → ℕ
unmarked [] = 0
unmarked (true ∷ marks) = unmarked marks
unmarked (false ∷ marks) = suc (unmarked marks)

-- how many are to be gone through at most
abbrev pub left_of : Walk → ℕ
left_of w = unmarked w.marks.items + length w.waiting.items

-- some points were met: those that are open are marked, and each that is marked anew is one of
-- them and waits
pub record HasVisited (open' : List Bool) (points : List ℕ) (old new : Walk) : Type 0 where
  pub sized : length new.marks.items ≡ length old.marks.items
  pub left : left_of new ≡ left_of old
  pub stay : (a : ℕ) → IsMarked old.marks.items a → IsMarked new.marks.items a
  pub marks : (a : ℕ) → Contains points a → IsMarked open' a → IsMarked new.marks.items a
  pub news : (a : ℕ) → IsMarked new.marks.items a
      → IsMarked old.marks.items a
      ⊎ (Contains points a × IsMarked open' a × Contains new.waiting.items a)
  pub still : (a : ℕ) → Contains old.waiting.items a → Contains new.waiting.items a
  pub waits : (a : ℕ) → Contains new.waiting.items a
      → Contains old.waiting.items a ⊎ IsMarked new.marks.items a

-- in the middle of a search: the edges of the points that wait are still to be followed
pub record IsSpreading (edges : List Edge) (open' : List Bool) (start : ℕ) (w : Walk) : Type 0 where
  pub sized : length w.marks.items ≡ length open'
  pub begun : IsMarked open' start → IsMarked w.marks.items start
  pub closed : (a b : ℕ) → IsMarked w.marks.items a → Contains edges (edge a b) → IsMarked open' b
      → IsMarked w.marks.items b ⊎ Contains w.waiting.items a
  pub ways : (a : ℕ) → IsMarked w.marks.items a → IsWay edges open' start a
  pub waits : (a : ℕ) → Contains w.waiting.items a → IsMarked w.marks.items a
