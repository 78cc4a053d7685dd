-- What stands at a token, and around it in its statement.
use Rattle.std.specs.Prelude.{ℕ, List, [], ◌∷◌, ◌++◌, ◌||◌, Bool, bytes_eq, codes, fold, length, min, slice_range, if◌then◌else◌}
use Rattle.wy_tree.specs.Tokens.{SpannedToken}
use Rattle.wy_explain.specs.Rows.{Text, Window}

-- the text of a token
abbrev pub text_of : List ℕ → SpannedToken → Text
text_of source s = let end = min s.end (length source) in slice_range source (min s.start end) end

-- a statement ends at these
abbrev pub is_border : Text → Bool
is_border word = bytes_eq word (codes ";") || (bytes_eq word (codes "{") || bytes_eq word (codes "}"))

-- what stands before a token: where the last one before it ends, that one, and those of the same statement
pub record Front : Type 0 where
  pub end : ℕ
  pub last : Text
  pub words : List Text

abbrev pub no_front : Front
no_front = record { end = 0; last = []; words = [] }

abbrev pub with_token : List ℕ → Front → SpannedToken → Front
with_token source f s = let word = text_of source s in
    record { end = s.end; last = word; words = if is_border word then [] else f.words ++ word ∷ [] }

unfoldable pub front_of : List ℕ → List SpannedToken → Front
front_of source front = fold (with_token source) no_front front

-- what stands behind a token in its statement
abbrev pub ahead_of : List ℕ → List SpannedToken → List Text
ahead_of source [] = []
ahead_of source (s ∷ spans) = let word = text_of source s in if is_border word then [] else word ∷ ahead_of source spans

-- a token that stands behind all others is at the end of the last one
abbrev pub window_at : List ℕ → Front → List SpannedToken → Window
window_at source f [] = record { place = f.end; here = []; last = f.last; before = f.words; ahead = [] }
window_at source f (s ∷ spans) =
    record { place = s.start; here = text_of source s; last = f.last; before = f.words; ahead = ahead_of source spans }
