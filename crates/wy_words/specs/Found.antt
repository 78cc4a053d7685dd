-- What is asked by the matches of the crate that reads the words, as the calls of this crate find it.
use Rattle.std.specs.Prelude.{ℕ, List, [], ◌∷◌, Option, Some, None, option_and_then, option_map, codes}
use Rattle.clap.specs.Walk.{Row, Text, first_of}
use Rattle.wy_words.specs.Words.{Command, number_up_to}
use Rattle.wy_words.specs.Reading.{Asking, command_named}
use Rattle.wy_words.specs.Awaited as awaited

unfoldable pub operands_in : Option Text → Option Text → Option Text → List Text
operands_in None second third = []
operands_in (Some first) None third = first ∷ []
operands_in (Some first) (Some second) None = first ∷ (second ∷ [])
operands_in (Some first) (Some second) (Some third) = first ∷ (second ∷ (third ∷ []))

-- a number of steps, where one is given
unfoldable pub steps_in : Option Text → Option (Option ℕ)
steps_in None = Some None
steps_in (Some word) = option_map Some (number_up_to 50000000 word)

unfoldable pub asking_in : List Row → Option Asking
asking_in rows = option_map (λ steps. record {
  awaited = awaited.Word;
  operands = operands_in (first_of (codes "first") rows) (first_of (codes "second") rows) (first_of (codes "third") rows);
  input = first_of (codes "input") rows;
  trace = first_of (codes "trace") rows;
  steps = steps;
}) (steps_in (first_of (codes "steps") rows))

unfoldable pub command_in : Option (Text × List Row) → Option Command
command_in found = option_and_then (λ p. option_and_then (command_named p.0) (asking_in p.1)) found
