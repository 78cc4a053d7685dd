-- What is kept of the Sets of fields while the events are gone through.
use Rattle.std.specs.Prelude.{◌≡◌, ℕ, Bool, ◌&&◌, ◌==◌, nat_eq, List, Option, Some, IfSome, map, option_map}
use Rattle.std.specs.Prelude.{None as Absent}
use Rattle.std.specs.HashMap.{HashMap, get}
use Rattle.std.specs.Option.{option_eq}
use Rattle.std.specs.declared.hash.BuildHasherDefault.{BuildHasherDefault}
use Rattle.std.specs.declared.hash.FoldHasher.{FoldHasher}
use Rattle.wy_value.specs.declared.value.Value.{Value}
use Rattle.wy_event.specs.declared.record.Slot.{Slot}
use Rattle.wy_event.specs.declared.record.Slot.TheVariants.{Static, Field}
use Rattle.wy_event.specs.Record.{Recorded}
use Rattle.wy_view.specs.References.{ValueBelow}
use Rattle.wy_ask.specs.declared.stored.Stores.{Stores}
use Rattle.wy_ask.specs.Listing.{each_once, last_set}

-- the object of a field, if it is not static, and the number of the field
abbrev pub Key : Type 0
Key = Option ℕ × ℕ

abbrev pub key_of : Slot → Option Key
key_of (Static field) = Some (Absent, field)
key_of (Field object field) = Some (Some object, field)
key_of _ = Absent

abbrev pub field_of : Option ℕ → ℕ → Slot
field_of Absent field = Static field
field_of (Some object) field = Field object field

abbrev pub slot_of : Key → Slot
slot_of k = field_of k.0 k.1

abbrev pub same_key : Key → Key → Bool
same_key a b = option_eq nat_eq a.0 b.0 && (a.1 == b.1)

abbrev pub held : HashMap Key Value (BuildHasherDefault FoldHasher) → Key → Option Value
held values k = get same_key values k

-- the fields that these Sets wrote are kept, and what each holds
pub record HasStored (stores : Stores) (sets : List Recorded) : Type 0 where
  pub slots : map slot_of stores.keys.items ≡ each_once (map (λ r. r.slot) sets)
  pub values : (k : Key) → held stores.values k ≡ option_map (λ r. r.value) (last_set sets (slot_of k))

-- what is held refers below a number of events
abbrev pub HoldsBelow : ℕ → Stores → Type 0
HoldsBelow n stores = (k : Key) → IfSome (held stores.values k) (ValueBelow n)
