-- What an operation of the library gives, as a run carries it.
use Rattle.std.specs.Prelude.{List}
use Rattle.wy_event.specs.declared.record.Use.{Use}
use Rattle.wy_steps.specs.Sets.{nothing}
use Rattle.wy_steps.specs.State.{Carried}
use Rattle.wy_state.specs.Seen.{given, valued}
use Rattle.wy_operation.specs.declared.texts.found.Found.{Found}
use Rattle.wy_operation.specs.declared.texts.found.Found.TheVariants.{Same, Made}

-- a value with the uses of all operands, or the value of an event
abbrev pub found_of : List Use → Found → Carried nothing
found_of us (Same v) = given v us
found_of us (Made v e) = valued e v
