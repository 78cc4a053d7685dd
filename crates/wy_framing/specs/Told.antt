-- What a trace sink tells once it is opened.
use Rattle.std.specs.Prelude.{ℕ, List, [], Option, option_map}

-- no byte, where the bytes are told
abbrev pub emptied : Option (List ℕ) → Option (List ℕ)
emptied bytes = option_map (λ before. []) bytes
