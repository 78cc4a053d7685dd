-- What a trace says of the Throw that ended its run.
use Rattle.std.specs.Prelude.{ℕ, List, Option, option_and_then, option_map, slice_get}
use Rattle.wy_kernel.specs.Program.{class_of_type}
use Rattle.wy_event.specs.Record.{Recorded}
use Rattle.wy_kernel.specs.View.{present}
use Rattle.wy_meaning.specs.World.{object_in, type_in}

-- the record of the Throw that is event `last`, and none where there is no such event
abbrev pub throw_in : List Recorded → Option ℕ → Option Recorded
throw_in rs last = option_and_then (slice_get rs) last

-- the class of the object that an event threw
abbrev pub class_thrown : List Recorded → Recorded → ℕ
class_thrown rs e = class_of_type (type_in (slice_get rs (object_in e.value)))

unfoldable pub thrown_class : List Recorded → Option ℕ → Option ℕ
thrown_class rs last = option_map (class_thrown rs) (throw_in rs last)

unfoldable pub thrown_site : List Recorded → Option ℕ → Option ℕ
thrown_site rs last = option_and_then (λ e. present e.site) (throw_in rs last)
