-- From where an expression is looked at: a moment of a trace, and the innermost frame there.
use Rattle.std.specs.Prelude.{◌≡◌, ◌<◌, ◌≤◌, ◌^◌, ℕ, List, [], Option, Some, IfSome, option_map, slice_get, map, take, length}
use Rattle.std.specs.Prelude.{None as Absent}
use Rattle.wy_kernel.specs.Program.{Program, Body, Local, field, method}
use Rattle.wy_kernel.specs.Parts.{program_of}
use Rattle.wy_kernel.specs.View.{NONE, local_of}
use Rattle.wy_event.specs.declared.record.Kind.{Kind}
use Rattle.wy_event.specs.declared.record.Kind.TheVariants.{Init, Call}
use Rattle.wy_event.specs.Record.{Recorded}
use Rattle.wy_index.specs.Index.{owners_of}
use Rattle.wy_travel.specs.Frames.{frame_of}
use Rattle.wy_travel.specs.Locals.{frame_body}
use Rattle.wy_watch.specs.declared.sight.Standing as memory_standing
use Rattle.wy_watch.specs.declared.sight.Sight as memory

-- a frame: its event, and the class and the locals of the body that runs in it
pub record Standing : Type 0 where
  pub frame : ℕ
  pub class : ℕ
  pub locals : List Local

pub record Sight : Type 0 where
  pub program : Program
  pub records : List Recorded
  pub moment : ℕ
  pub standing : Option Standing

-- a body numbers its locals from 0 on; NONE numbers none
abbrev pub locals_in : Option Body → List Local
locals_in Absent = []
locals_in (Some b) = take NONE b.locals

-- a Call runs a method, an Init the initializer of its class
abbrev pub class_run : Program → Kind → Option ℕ → Option ℕ
class_run p Call (Some m) = Some (method p m).class
class_run p Init (Some c) = Some c
class_run p _ _ = Absent

abbrev pub frame_class : Program → Option Recorded → Option ℕ
frame_class p (Some e) = class_run p e.kind e.entity
frame_class p Absent = Absent

abbrev pub standing_with : Program → ℕ → Option Recorded → ℕ → Standing
standing_with p f e c = record { frame = f; class = c; locals = locals_in (frame_body p e) }

-- what runs in the frame of an event
abbrev pub standing_of : Program → ℕ → Option Recorded → Option Standing
standing_of p f e = option_map (standing_with p f e) (frame_class p e)

abbrev pub standing_in : Program → List Recorded → Option ℕ → Option Standing
standing_in p rs (Some f) = standing_of p f (slice_get rs f)
standing_in p rs Absent = Absent

-- the innermost frame just before event m is that of event m
abbrev pub standing_at : Program → List Recorded → ℕ → Option Standing
standing_at p rs m = standing_in p rs (frame_of (slice_get rs m))

abbrev pub sight_at : Program → List Recorded → ℕ → Sight
sight_at p rs m = record { program = p; records = rs; moment = m; standing = standing_at p rs m }

-- ---- in memory

abbrev pub standing_seen : memory_standing.Standing → Standing
standing_seen s = record { frame = s.frame; class = s.class; locals = map local_of s.locals.now }

abbrev pub sight_seen : List Recorded → memory.Sight → Sight
sight_seen rs s = record { program = program_of s.program.now; records = rs; moment = s.moment; standing = option_map standing_seen s.standing }

-- what is known of a sight in memory: its index knows the classes of the program's fields, and its parts can be numbered
pub record IsFit (s : memory.Sight) : Type 0 where
  pub owners : (f : ℕ) → owners_of s.index.now f ≡ (field (program_of s.program.now) f).class
  pub few_fields : length s.program.now.fields.items < 2 ^ 32
  pub few_locals : IfSome s.standing (λ at. length at.locals.now ≤ NONE)
