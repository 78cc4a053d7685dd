-- Which files a trace may take the place of.
use Rattle.std.specs.Prelude.{◌≡◌, ℕ, List, [], ◌⊎◌}
use Rattle.std.specs.Io.{StartsWith}
use Rattle.wy_event.specs.declared.record.Version.TheVariants.{One, Two}
use Rattle.wy_spelling.specs.Spelling.{magic}

-- it holds nothing, or begins as a trace of either version does
abbrev pub IsReplaceable : List ℕ → Type 0
IsReplaceable held = (held ≡ []) ⊎ (StartsWith held (magic One) ⊎ StartsWith held (magic Two))
