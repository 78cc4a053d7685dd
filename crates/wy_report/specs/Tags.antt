-- The tags that a page can have.
use Rattle.std.specs.Prelude.{ℕ, List, [], ◌∷◌, ◌++◌, codes, Contains}
use Rattle.wy_report.specs.declared.piece.Target.{Target}
use Rattle.wy_report.specs.Pieces.{Anchor, Link, written}

-- those in which no place stands
abbrev pub fixed_tags : List (List ℕ)
fixed_tags =
    codes "!DOCTYPE html" ∷ codes "html lang='en'" ∷ codes "head" ∷ codes "meta charset='utf-8'"
    ∷ codes "meta http-equiv='Content-Security-Policy' content='default-src &#39;none&#39;; style-src &#39;unsafe-inline&#39;'"
    ∷ codes "meta name='viewport' content='width=device-width, initial-scale=1'" ∷ codes "title" ∷ codes "/title" ∷ codes "style" ∷ codes "/style" ∷ codes "/head"
    ∷ codes "body" ∷ codes "h1" ∷ codes "/h1" ∷ codes "p" ∷ codes "span class='key data'" ∷ codes "/span" ∷ codes "span class='key other'" ∷ codes "/p" ∷ codes "h2" ∷ codes "/h2"
    ∷ codes "table class='source'" ∷ codes "table class='events'" ∷ codes "td" ∷ codes "/td" ∷ codes "/tr" ∷ codes "a" ∷ codes "/a" ∷ codes "/table" ∷ codes "/body" ∷ codes "/html" ∷ []

-- the classes of a row
abbrev pub classes : List (List ℕ)
classes = [] ∷ codes " class='other'" ∷ codes " class='data'" ∷ []

-- a row is a place of the page, and a link leads to one
pub data IsTag : List ℕ → Type 0 where
  fixed : (tag : List ℕ) → Contains fixed_tags tag → IsTag tag
  row : (place : Target) (class : List ℕ) → Contains classes class → IsTag ((codes "tr" ++ written (Anchor place)) ++ class)
  link : (place : Target) → IsTag (codes "a" ++ written (Link place))
