-- Frames, locals and values of some small traces, computed.
use Rattle.std.proofs.Common.{◌≡◌, ℕ, List, [], ◌∷◌, refl}
use Rattle.std.specs.Prelude.{false, Option, Some, pos}
use Rattle.std.specs.Prelude.{None as Absent}
use Rattle.wy_kernel.specs.declared.operator.Primitive.TheVariants as prim
use Rattle.wy_kernel.specs.declared.types.Base.TheVariants.{Primitive as Basic}
use Rattle.wy_kernel.specs.declared.types.Ty.TheVariants.{Void, Of}
use Rattle.wy_kernel.specs.Form.{Block, Stmt, done}
use Rattle.wy_kernel.specs.Program as parts
use Rattle.wy_kernel.specs.Program.{Program, base_code, base_of, body, element_type, field, init_body, primitive_code, type_of_code}
use Rattle.wy_value.specs.declared.value.Value.{Value}
use Rattle.wy_value.specs.declared.value.Value.TheVariants as value
use Rattle.wy_event.specs.declared.record.Kind.{Kind}
use Rattle.wy_event.specs.declared.record.Kind.TheVariants as kind
use Rattle.wy_event.specs.declared.record.Slot.{Slot}
use Rattle.wy_event.specs.declared.record.Slot.TheVariants as slot
use Rattle.wy_event.specs.Record.{Recorded, same_slot}
use Rattle.wy_event.specs.Sources.{creates, creates_as, creation, is_entity, is_so, is_write, last_write, or_else, writes, written}
use Rattle.wy_steps.specs.Steps.{code_of, default_in, default_primitive, default_value, owner_in}
use Rattle.wy_travel.specs.Backtrace.{backtrace}
use Rattle.wy_travel.specs.Frames.{frame_of, frames, frames_within}
use Rattle.wy_travel.specs.Held.{given_at, given_by, held}
use Rattle.wy_travel.specs.Locals.{body_run, frame_body, is_written, local_count, written_among, written_locals}

abbrev local : parts.Local
local = record { name = []; site = 0; ty = Void }

abbrev body_with : List parts.Local → Option parts.Body
body_with locals = Some (record { block = Stmt 0 0 false 0 (Block done); locals = locals; end = 0 })

abbrev int_field : parts.Field
int_field = record { name = []; site = 0; class = 0; ty = Of (Basic prim.Int) 0; is_static = false; is_final = false; is_fixed = false; is_private = false }

-- method 0 has three locals, method 1 has one, and field 0 is an int
abbrev program : Program
program = record {
  classes = [];
  methods = [];
  fields = int_field ∷ [];
  bodies = body_with (local ∷ local ∷ local ∷ []) ∷ body_with (local ∷ []) ∷ [];
  init_bodies = Absent ∷ [];
  fixed_texts = [];
  statements = 0;
  main = 0;
}

abbrev event : Kind → Option ℕ → Option ℕ → Slot → Value → Recorded
event k frame entity x v = record { kind = k; site = 0; frame = frame; control = frame; entity = entity; slot = x; value = v; units = []; uses = [] }

abbrev int : ℕ → Value
int n = value.Int (pos n)

-- ---- `int x = 2; int y = 0; if (x > 1) { y = x + 3; } System.out.println(y);` in a Main that begins with its arguments

abbrev trace : List Recorded
trace =
    event kind.Init Absent (Some 0) slot.None value.None
    ∷ event kind.New Absent (Some 16777217) slot.None (int 0)
    ∷ event kind.Call Absent (Some 0) slot.None value.None
    ∷ event kind.Bind (Some 2) Absent (slot.Local 2 0) (value.Object 1)
    ∷ event kind.Set (Some 2) Absent (slot.Local 2 1) (int 2)
    ∷ event kind.Set (Some 2) Absent (slot.Local 2 2) (int 0)
    ∷ event kind.Test (Some 2) Absent slot.None (value.Arm 0)
    ∷ event kind.Set (Some 2) Absent (slot.Local 2 2) (int 5)
    ∷ event kind.Print (Some 2) Absent slot.None (int 5)
    ∷ event kind.Return (Some 2) Absent slot.None value.None
    ∷ []

abbrev y_at : ℕ → Value
y_at m = held program trace (slot.Local 2 2) m

-- the write at an event comes behind it
y_before_its_write : y_at 7 ≡ int 0
unfolding same_slot creates creates_as creation is_entity is_so is_write last_write or_else writes written default_in owner_in given_at given_by held
y_before_its_write = refl

y_behind_its_write : y_at 8 ≡ int 5
unfolding same_slot creates creates_as creation is_entity is_so is_write last_write or_else writes written default_in owner_in given_at given_by held
y_behind_its_write = refl

y_before_all : y_at 5 ≡ value.None
unfolding same_slot creates creates_as creation is_entity is_so is_write last_write or_else writes written default_in owner_in given_at given_by held
y_before_all = refl

frames_of_print : backtrace program trace 8 ≡ record { call = 2; locals = (0, value.Object 1) ∷ (1, int 2) ∷ (2, int 5) ∷ [] } ∷ []
unfolding same_slot creates creates_as creation is_entity is_so is_write last_write or_else writes written default_in owner_in given_at given_by held frame_of frames frames_within body body_run frame_body is_written local_count written_among written_locals backtrace
frames_of_print = refl

-- y has no value yet, so it isn't shown
frames_of_second_set : backtrace program trace 5 ≡ record { call = 2; locals = (0, value.Object 1) ∷ (1, int 2) ∷ [] } ∷ []
unfolding same_slot creates creates_as creation is_entity is_so is_write last_write or_else writes written default_in owner_in given_at given_by held frame_of frames frames_within body body_run frame_body is_written local_count written_among written_locals backtrace
frames_of_second_set = refl

-- ---- a body that calls another twice, an object with a field and an array of int

abbrev calls : List Recorded
calls =
    event kind.Call Absent (Some 0) slot.None value.None
    ∷ event kind.Call (Some 0) (Some 1) slot.None value.None
    ∷ event kind.Bind (Some 1) Absent (slot.Local 1 0) (int 7)
    ∷ event kind.Return (Some 1) Absent slot.None value.None
    ∷ event kind.Call (Some 0) (Some 1) slot.None value.None
    ∷ event kind.Bind (Some 4) Absent (slot.Local 4 0) (int 8)
    ∷ event kind.New (Some 4) (Some 34) slot.None value.None
    ∷ event kind.New (Some 4) (Some 16777220) slot.None (int 3)
    ∷ event kind.Print (Some 4) Absent slot.None (int 8)
    ∷ []

-- a call that came back is no frame
frames_of_second_call : frames calls 8 ≡ 4 ∷ 0 ∷ []
unfolding frame_of frames frames_within
frames_of_second_call = refl

-- a local is that of its frame
local_of_second_call : written_locals program calls 4 8 ≡ (0, int 8) ∷ []
unfolding same_slot creates creates_as creation is_entity is_so is_write last_write or_else writes written default_in owner_in given_at given_by held body body_run frame_body is_written local_count written_among written_locals
local_of_second_call = refl

-- what was only created holds its default
field_first : held program calls (slot.Field 6 0) 8 ≡ int 0
unfolding same_slot creates creates_as creation is_entity is_so is_write last_write or_else writes written default_in default_value default_primitive field owner_in given_at given_by held
field_first = refl

element_first : held program calls (slot.Elem 7 2) 8 ≡ int 0
unfolding same_slot creates creates_as creation is_entity is_so is_write last_write or_else writes written default_in default_value default_primitive element_type type_of_code base_of code_of owner_in given_at given_by held
element_first = refl

-- and nothing before
field_of_none : held program calls (slot.Field 6 0) 6 ≡ value.None
unfolding same_slot creates creates_as creation is_entity is_so is_write last_write or_else writes written default_in owner_in given_at given_by held
field_of_none = refl
