-- The records of a trace by blocks of 1,024, and the order in which blocks are kept.
use Rattle.std.specs.Prelude.{◌≡◌, ℕ, ◌+◌, ◌-◌, ◌*◌, ◌<◌, ◌≤◌, ◌⊎◌, min, nat_eq, Bool, true, false, if◌then◌else◌, List, [], ◌∷◌, Contains, length, take, drop, slice_index, Vec}
use Rattle.std.specs.declared.alloc.Global.{Global}
use Rattle.wy_event.specs.declared.record.Event.{Event}
use Rattle.wy_view.specs.Counts.{count_after}
use Rattle.std.specs.Coded.{le_prop}
use denote.Struct.Props.{props}
use Rattle.std.specs.List.{list_any}
use Rattle.wy_view.specs.References.{RefersBelow-prop}
use Rattle.wy_page.specs.Frames.{ReferFrom}

-- how many events a block has, but the last
abbrev pub block_length : ℕ
block_length = 1024

-- how many blocks are held at most
abbrev pub held_blocks : ℕ
held_blocks = 64

-- block b of a list
abbrev pub block_of : {X : Type 0} → ℕ → List X → List X
block_of b xs = take block_length (drop (block_length * b) xs)

-- how many elements block b has of a list of so many
abbrev pub size_of_block : ℕ → ℕ → ℕ
size_of_block count b = min block_length (count - block_length * b)

-- the events are as many as block b has, and each refers below itself
pub record IsBlock (count b : ℕ) (events : List Event) : Type 0 where
  pub size : length events ≡ size_of_block count b
  pub refer : ReferFrom (block_length * b) events

-- each block that is held
abbrev pub AreBlocks : ℕ → List (ℕ × Vec Event Global) → Type 0
AreBlocks count held = (h : ℕ × Vec Event Global) → Contains held h → IsBlock count h.0 h.1.items

-- so many events have a block each, a block lies between two places, and there is a digest of each
pub record ArePlaces (count : ℕ) (starts : List ℕ) (digests : List (List ℕ)) : Type 0 where
  pub places : length starts ≡ length digests + 1
  pub enough : count ≤ block_length * length digests
  pub needed : block_length * length digests < count + block_length
  pub rising : (b : ℕ) → b < length digests → slice_index starts b ≤ slice_index starts (b + 1)

-- ---- the order of what is held, and what a look counts

-- the numbers of the blocks that are held, the one asked last first; how many were read; and how many reads the shelf counts
pub record Order : Type 0 where
  pub held : List ℕ
  pub loads : ℕ
  pub gets : ℕ

abbrev pub is_held : ℕ → List ℕ → Bool
is_held b held = list_any (nat_eq b) held

-- without the first that is b
abbrev pub without : ℕ → List ℕ → List ℕ
without b [] = []
without b (h ∷ held) = if nat_eq b h then held else h ∷ without b held

-- a block that is held comes first; any other is read once, comes first, and the last of 64 goes
abbrev pub asked_order : ℕ → Order → Order
asked_order b order =
    if is_held b order.held then record order { held = b ∷ without b order.held }
    else record { held = b ∷ take (held_blocks - 1) order.held; loads = count_after order.loads 1; gets = count_after order.gets 1 }

-- after a refusal all is as it was, but that the shelf may count a read more
pub record Refused (old new : Order) : Type 0 where
  pub held : new.held ≡ old.held
  pub loads : new.loads ≡ old.loads
  pub gets : (new.gets ≡ old.gets) ⊎ (new.gets ≡ count_after old.gets 1)

abbrev pub Asked : ℕ → Bool → Order → Order → Type 0
Asked b true old new = new ≡ asked_order b old
Asked b false old new = Refused old new

-- ---- each is a fact

IsBlock-prop : (count b : ℕ) (events : List Event) → IsProp (IsBlock count b events)
IsBlock-prop count b events = hlevel (props, RefersBelow-prop)

pub AreBlocks-prop : (count : ℕ) (held : List (ℕ × Vec Event Global)) → IsProp (AreBlocks count held)
AreBlocks-prop count held = hlevel (props, IsBlock-prop)

pub ArePlaces-prop : (count : ℕ) (starts : List ℕ) (digests : List (List ℕ)) → IsProp (ArePlaces count starts digests)
ArePlaces-prop count starts digests = hlevel (props, le_prop)
