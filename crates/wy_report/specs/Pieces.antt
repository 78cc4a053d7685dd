-- The pieces of which a page is made.
use Rattle.std.specs.Prelude.{ℕ, List, [], ◌∷◌, ◌++◌, codes}
use Rattle.std.specs.Fmt.{decimal}
use Rattle.std.specs.List.{flat_map}
use Rattle.wy_report.specs.declared.piece.Target.{Target}
use Rattle.wy_report.specs.declared.piece.Target.TheVariants.{Line, Event}
use Rattle.wy_report.specs.declared.piece.Piece as memory
use Rattle.wy_report.specs.declared.piece.Piece.TheVariants as in_memory
use Rattle.wy_report.specs.Escapes.{escaped}

-- a part of the template; a number; what the source or an event holds; the place that a tag is, and the one to which it leads
pub data Piece : Type 0 where
  Markup : (text : List ℕ) → Piece
  Number : (n : ℕ) → Piece
  Shown : (text : List ℕ) → Piece
  Anchor : (place : Target) → Piece
  Link : (place : Target) → Piece

abbrev pub piece_of : memory.Piece → Piece
piece_of (in_memory.Markup text) = Markup text.now
piece_of (in_memory.Number n) = Number n
piece_of (in_memory.Shown text) = Shown text.now
piece_of (in_memory.Anchor place) = Anchor place
piece_of (in_memory.Link place) = Link place

abbrev pub target_text : Target → List ℕ
target_text (Line k) = codes "L" ++ decimal k
target_text (Event n) = codes "e" ++ decimal n

abbrev pub attribute_text : List ℕ → Target → List ℕ
attribute_text before place = before ++ (target_text place ++ 34 ∷ [])

-- the bytes of a piece
abbrev pub written : Piece → List ℕ
written (Markup text) = text
written (Number n) = decimal n
written (Shown text) = escaped text
written (Anchor place) = attribute_text (codes " id=" ++ 34 ∷ []) place
written (Link place) = attribute_text (codes " href=" ++ (34 ∷ codes "#")) place

-- the bytes of those in memory, one behind another
abbrev pub pieces_text : List memory.Piece → List ℕ
pieces_text pieces = flat_map (λ piece. written (piece_of piece)) pieces

-- ---- the places of a page

-- those that it has, in order
abbrev pub anchors : List Piece → List Target
anchors [] = []
anchors (Anchor place ∷ pieces) = place ∷ anchors pieces
anchors (piece ∷ pieces) = anchors pieces

-- those to which its links lead
abbrev pub links : List Piece → List Target
links [] = []
links (Link place ∷ pieces) = place ∷ links pieces
links (piece ∷ pieces) = links pieces
