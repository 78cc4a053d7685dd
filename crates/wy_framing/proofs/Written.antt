-- What a writer has once it took two parts, one behind the other.
use Rattle.std.proofs.Common.{◌≡◌, ℕ, List, [], ◌++◌, Option, Some, None, sym, ◌∙◌, ap, append_assoc, append-nil}
use Rattle.std.specs.Io.KnownBytes.{Appends}
use Rattle.wy_framing.specs.Blocks.{Flows}
use Rattle.wy_outside.proofs.Written.{both_appended}

-- what was kept back and then a piece were written, and nothing is kept back
pub all_written : (a b c : Option (List ℕ)) (kept piece keeps : List ℕ) → keeps ≡ [] → Appends a b kept → Appends b c piece → Flows a kept c keeps piece
all_written a b c kept piece keeps empty first second =
    (kept ++ piece, sym (append-nil (kept ++ piece)) ∙ ap (λ t. (kept ++ piece) ++ t) (sym empty), both_appended a b c kept piece first second)
