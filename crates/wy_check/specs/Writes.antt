-- The events that wrote a slot, and the last of them below a moment.
use Rattle.std.specs.Prelude.{◌≡◌, ℕ, ◌<◌, ◌≤◌, List, Vec, Contains, Option, Some, option_map}
use Rattle.std.specs.Prelude.{None as Absent}
use Rattle.std.specs.declared.alloc.Global.{Global}
use Rattle.std.specs.BTreeMap.{BTreeMap, get}
use Rattle.std.specs.Ordering.{nat_cmp}
use Rattle.wy_kernel.specs.Program.{Program, field}
use Rattle.wy_event.specs.declared.record.Slot.{Slot}
use Rattle.wy_event.specs.Record.{Recorded}
use Rattle.wy_event.specs.Sources.{Owners, writes}
use Rattle.wy_index.specs.Found.{gathered, one_if}
use Rattle.wy_check.specs.Keys.{key_cmp, key_of}

-- the class that declares a field
abbrev pub owners : Program → Owners
owners p f = (field p f).class

-- event n, where it wrote the slot
abbrev pub write_of : Slot → ℕ → Recorded → List ℕ
write_of x n r = one_if (writes x r) n

abbrev pub writes_of : Slot → List Recorded → List ℕ
writes_of x rs = gathered (write_of x) 0 rs

-- the events that are kept under a slot, where it is asked about
abbrev pub written_in : BTreeMap (ℕ × ℕ × ℕ) (Vec ℕ Global) → Slot → Option (List ℕ)
written_in kept x = option_map (λ v. v.items) (get key_cmp kept (key_of x))

abbrev pub first_of : BTreeMap ℕ ℕ → ℕ → Option ℕ
first_of inits class = get nat_cmp inits class

-- the greatest of them below a moment, if one is
abbrev pub IsLastBelow : List ℕ → ℕ → Option ℕ → Type 0
IsLastBelow events moment Absent = (k : ℕ) → Contains events k → moment ≤ k
IsLastBelow events moment (Some e) = Contains events e × (e < moment) × ((k : ℕ) → Contains events k → k < moment → k ≤ e)
