-- What a name means where an expression is looked at (JLS 6.5.6, 8.3, 15.11).
use Rattle.std.specs.Prelude.{◌<◌, ℕ, zero, suc, Bool, true, false, not, ◌&&◌, ◌==◌, nat_lt, if◌then◌else◌, List, [], ◌∷◌, length, Option, Some, option_map, codes}
use Rattle.std.specs.Prelude.{None as Absent}
use Rattle.std.specs.List.{position_from}
use Rattle.std.specs.Str.{bytes_eq}
use Rattle.wy_kernel.specs.Program.{Program, Field, Local, class}
use Rattle.wy_event.specs.declared.record.Slot.{Slot}
use Rattle.wy_event.specs.declared.record.Slot.TheVariants as slot
use Rattle.wy_event.specs.Sources.{last_write}
use Rattle.wy_steps.specs.Steps.{owner_in}
use Rattle.wy_travel.specs.Held.{HasFieldBelow}
use Rattle.wy_watch.specs.declared.names.Meaning.{Meaning}
use Rattle.wy_watch.specs.declared.names.Meaning.TheVariants.{Stored, OfThis, Nothing}
use Rattle.wy_watch.specs.declared.names.Written.{Written}
use Rattle.wy_watch.specs.Sight.{Sight, Standing}

-- ---- locals

-- the one that was written later
abbrev pub later : Option Written → Option Written → Option Written
later (Some a) (Some b) = if nat_lt a.event b.event then Some b else Some a
later (Some a) Absent = Some a
later Absent b = b

-- the last write of a local
abbrev pub write_of : Sight → ℕ → ℕ → Option Written
write_of s f i = option_map (λ n. record { index = i; event = n }) (last_write (owner_in s.program) s.records (slot.Local f i) s.moment)

abbrev pub write_if : Bool → Option Written → Option Written
write_if true w = w
write_if false w = Absent

-- of the locals that have a name, the first of which has number i, the one that was written last
unfoldable pub last_named : Sight → ℕ → List ℕ → ℕ → List Local → Option Written
last_named s f name i [] = Absent
last_named s f name i (l ∷ rest) = later (write_if (bytes_eq l.name name) (write_of s f i)) (last_named s f name (suc i) rest)

abbrev pub local_in : Sight → List ℕ → Option Standing → Option Slot
local_in s name Absent = Absent
local_in s name (Some at) = option_map (λ w. slot.Local at.frame w.index) (last_named s at.frame name 0 at.locals)

-- the local of the innermost frame's body with this name that was written last
abbrev pub local_named : Sight → List ℕ → Option Slot
local_named s name = local_in s name s.standing

-- ---- fields

abbrev pub same_truth : Bool → Bool → Bool
same_truth true b = b
same_truth false b = not b

-- a field that a class declares by a name, static or of its objects
abbrev pub is_meant : Bool → ℕ → List ℕ → Field → Bool
is_meant is_static c name f = same_truth f.is_static is_static && (f.class == c && bytes_eq f.name name)

abbrev pub declared_field : Program → Bool → ℕ → List ℕ → Option ℕ
declared_field p is_static c name = position_from (is_meant is_static c name) 0 p.fields

abbrev pub or_above : Option ℕ → Option ℕ → (ℕ → Option ℕ) → Option ℕ
or_above (Some field) above find = Some field
or_above Absent (Some c) find = find c
or_above Absent Absent find = Absent

unfoldable pub field_within : ℕ → Program → Bool → ℕ → List ℕ → Option ℕ
field_within zero p is_static c name = Absent
field_within (suc longest) p is_static c name =
    or_above (declared_field p is_static c name) (class p c).above (λ above. field_within longest p is_static above name)

-- that of the nearest class from a class upward; no line of superclasses is longer than there are classes
abbrev pub field_above : Program → Bool → ℕ → List ℕ → Option ℕ
field_above p is_static c name = field_within (length p.classes) p is_static c name

abbrev pub field_from : Program → Bool → List ℕ → Option Standing → Option ℕ
field_from p is_static name Absent = Absent
field_from p is_static name (Some at) = field_above p is_static at.class name

-- that of the nearest class from the innermost frame's class upward
abbrev pub frame_field : Sight → Bool → List ℕ → Option ℕ
frame_field s is_static name = field_from s.program is_static name s.standing

-- ---- `this`, names and classes

-- local 0 of a body is `this`, where the body has it
abbrev pub begins_with_this : List Local → Bool
begins_with_this [] = false
begins_with_this (l ∷ rest) = bytes_eq l.name (codes "this")

abbrev pub this_of : Option Standing → Option Slot
this_of Absent = Absent
this_of (Some at) = if begins_with_this at.locals then Some (slot.Local at.frame 0) else Absent

abbrev pub if_there : Option Slot → Option ℕ → Option ℕ
if_there (Some x) f = f
if_there Absent f = Absent

-- the instance field of this name that `this` has
abbrev pub own_field : Sight → List ℕ → Option ℕ
own_field s name = if_there (this_of s.standing) (frame_field s false name)

abbrev pub meant : Option Slot → Option ℕ → Option ℕ → Meaning
meant (Some x) own shared = Stored x
meant Absent (Some f) shared = OfThis f
meant Absent Absent (Some f) = Stored (slot.Static f)
meant Absent Absent Absent = Nothing

-- a name is a local, else a field of `this`, and else a static field
abbrev pub meaning_of : Sight → List ℕ → Meaning
meaning_of s name = meant (local_named s name) (own_field s name) (frame_field s true name)

abbrev pub class_named : Program → List ℕ → Option ℕ
class_named p name = position_from (λ c. bytes_eq c.name name) 0 p.classes

abbrev pub class_as : Meaning → Option ℕ → Option ℕ
class_as Nothing c = c
class_as (Stored x) c = Absent
class_as (OfThis f) c = Absent

-- the class that a name is of, where it means nothing else
abbrev pub class_meant : Sight → List ℕ → Option ℕ
class_meant s name = class_as (meaning_of s name) (class_named s.program name)

-- the field of what a name means, if it has one, is one of so many
abbrev pub HasFieldsBelow : ℕ → Meaning → Type 0
HasFieldsBelow n (Stored x) = HasFieldBelow n x
HasFieldsBelow n (OfThis f) = f < n
HasFieldsBelow n Nothing = Unit {0}
