-- A single Bind of a body that begins.
use Rattle.std.specs.Prelude.{ℕ}
use Rattle.wy_kernel.specs.Program.{Body, local_site}
use Rattle.wy_event.specs.declared.record.Kind.TheVariants as kind
use Rattle.wy_event.specs.declared.record.Slot.TheVariants.{Local}
use Rattle.wy_steps.specs.Sets.{nothing}
use Rattle.wy_steps.specs.State.{Carried, Run}
use Rattle.wy_steps.specs.Steps.{Made, note_write}
use Rattle.wy_meaning.specs.World.{into}

-- the local is bound to the value, in the frame of the call
abbrev pub binding : Body → ℕ → ℕ → Carried nothing → Run nothing (Made nothing)
binding b f i v = note_write (into kind.Bind (local_site b i) (Local f i) v.value) v
