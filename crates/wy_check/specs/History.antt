-- What a history has seen of the slots that it is asked about.
use Rattle.std.specs.Prelude.{◌≡◌, ℕ, List, map, IfSome, IsSome}
use Rattle.wy_event.specs.declared.record.Slot.{Slot}
use Rattle.wy_event.specs.Record.{Recorded}
use Rattle.wy_index.specs.Found.{first_from, is_init_of, is_new}
use Rattle.wy_check.specs.declared.history.History.{History}
use Rattle.wy_check.specs.Writes.{first_of, written_in, writes_of}

abbrev pub IsAsked : History → Slot → Type 0
IsAsked h x = IsSome (written_in h.writes x)

-- these records, from the first on
pub record HasSeen (h : History) (rs : List Recorded) : Type 0 where
  pub writes : (x : Slot) → IfSome (written_in h.writes x) (λ events. events ≡ writes_of x rs)
  pub made : h.made.items ≡ map (λ (r : Recorded). is_new r.kind) rs
  pub inits : (class : ℕ) → first_of h.inits class ≡ first_from (is_init_of class) 0 rs
