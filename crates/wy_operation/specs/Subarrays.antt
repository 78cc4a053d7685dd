-- Single turns of what is done for each element of an array (JLS 10.6, 15.10.2).
use Rattle.std.specs.Prelude.{ℕ, List}
use Rattle.wy_kernel.specs.declared.types.Ty.{Ty}
use Rattle.wy_kernel.specs.Program.{element_type}
use Rattle.wy_value.specs.declared.value.Value.TheVariants.{Object}
use Rattle.wy_event.specs.declared.record.Kind.TheVariants as kind
use Rattle.wy_event.specs.declared.record.Slot.TheVariants.{Elem}
use Rattle.wy_steps.specs.Sets.{nothing}
use Rattle.wy_steps.specs.State.{Carried, Run, ◌>>=◌}
use Rattle.wy_steps.specs.Steps.{Made, joined, note_write, value_of}
use Rattle.wy_meaning.specs.World.{World, into, natural_of}
use Rattle.wy_meaning.specs.Array.{make_array, subarrays}

-- a subarray is made, stored at its index, and filled in the same way
abbrev pub subarray : World nothing → ℕ → Ty → Carried nothing → List (Carried nothing) → ℕ → ℕ → Run nothing (Unit {0})
subarray w site ty d ds parent i = do
  sub ← make_array w site ty (natural_of d.value) d
  e ← note_write (into kind.Set site (Elem parent i) (Object sub.number)) (value_of sub (Object sub.number))
  subarrays w site (element_type ty) ds sub.number (natural_of d.value)

-- an element of an array initializer is set
abbrev pub element_set : ℕ → Made nothing → ℕ → Carried nothing → Run nothing (Made nothing)
element_set site e i v = note_write (into kind.Set site (Elem e.number i) v.value) (joined v.value (value_of e (Object e.number)) v)
