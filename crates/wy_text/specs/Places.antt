-- Places as a line shows them.
use Rattle.std.specs.Prelude.{ℕ, List, [], ◌++◌, Option, Some, slice_get, codes}
use Rattle.std.specs.Prelude.{None as Absent}
use Rattle.std.specs.Fmt.{decimal}
use Rattle.wy_kernel.specs.Program as parts
use Rattle.wy_kernel.specs.Program.{Program, body, init_body}
use Rattle.wy_event.specs.declared.record.Kind.{Kind}
use Rattle.wy_event.specs.declared.record.Kind.TheVariants.{Call, Init}
use Rattle.wy_event.specs.declared.record.Slot.{Slot}
use Rattle.wy_event.specs.declared.record.Slot.TheVariants.{Local, Static, Field, Elem}
use Rattle.wy_event.specs.Record.{Recorded}
use Rattle.wy_text.specs.Names.{field_name, numbered}

-- the body that an event begins: that of a method or of a class's initializer
unfoldable pub begun : Program → Kind → Option ℕ → Option parts.Body
begun p Call (Some m) = body p m
begun p Init (Some c) = init_body p c
begun p _ _ = Absent

unfoldable pub frame_body : Program → Option Recorded → Option parts.Body
frame_body p Absent = Absent
frame_body p (Some e) = begun p e.kind e.entity

unfoldable pub called : Option parts.Local → List ℕ
called Absent = []
called (Some local) = local.name

unfoldable pub local_name : Option parts.Body → ℕ → List ℕ
local_name Absent index = []
local_name (Some b) index = called (slice_get b.locals index)

-- a local by the name that the body of its frame has for it
unfoldable pub slot_text : Program → List Recorded → Slot → List ℕ
slot_text p records (Local frame index) = local_name (frame_body p (slice_get records frame)) index
slot_text p records (Static f) = field_name p f
slot_text p records (Field object f) = numbered object ++ (codes "." ++ field_name p f)
slot_text p records (Elem array index) =
    numbered array ++ (codes "[" ++ (decimal index ++ codes "]"))
slot_text p records _ = []
