-- Where events and their blocks lie in the bytes of a trace.
use Rattle.std.specs.Prelude.{◌≡◌, ℕ, ◌+◌, ◌-◌, ◌*◌, ◌<◌, ◌≤◌, min, List, [], ◌∷◌, length, map, take, drop, slice_get, slice_index, Some}
use Rattle.sha2.specs.Sha256.{sha256}
use Rattle.wy_frames.specs.declared.stage.ReadEvent.{ReadEvent}
use Rattle.wy_page.specs.Blocks.{block_length}
use Rattle.wy_page.specs.declared.marks.Marks.{Marks}

-- the bytes from one place to another
abbrev pub part : ℕ → ℕ → List ℕ → List ℕ
part from to bytes = take (to - from) (drop from bytes)

abbrev pub end_of : ReadEvent → ℕ
end_of x = x.end

-- the place behind each event that was read
abbrev pub ends_of : List ReadEvent → List ℕ
ends_of placed = map end_of placed

-- places behind one another, and none past a bound
abbrev pub RiseTo : ℕ → ℕ → List ℕ → Type 0
RiseTo bound at [] = Unit {0}
RiseTo bound at (end ∷ ends) = (at < end) × (end ≤ bound) × RiseTo bound end ends

-- event n lies between places n and n + 1 of these bytes. Each block that has all of its events is marked, and the next one begins behind it
pub record AreMarked (m : Marks) (places bytes : List ℕ) : Type 0 where
  pub counted : length places ≡ m.count + 1
  pub size : length m.starts.items ≡ length m.digests.items
  pub whole : block_length * length m.digests.items ≤ m.count
  pub others : m.count < block_length * length m.digests.items + block_length
  pub from : slice_index places (block_length * length m.digests.items) ≡ m.from
  pub end : slice_index places m.count ≡ m.end
  pub starts : (b : ℕ) → b < length m.digests.items → slice_index m.starts.items b ≡ slice_index places (block_length * b)
  pub digests : (b : ℕ) → b < length m.digests.items → slice_get m.digests.items b ≡ Some (sha256 (part (slice_index places (block_length * b)) (slice_index places (block_length * (b + 1))) bytes))

-- the event that block b begins with, of so many, or the end of all
abbrev pub first_of : ℕ → ℕ → ℕ
first_of count b = min (block_length * b) count

-- each block is marked: where it begins, and where the last ends; and the digest of its bytes
pub record AreAllMarked (starts : List ℕ) (digests : List (List ℕ)) (count : ℕ) (places bytes : List ℕ) : Type 0 where
  pub counted : length places ≡ count + 1
  pub size : length starts ≡ length digests + 1
  pub enough : count ≤ block_length * length digests
  pub needed : block_length * length digests < count + block_length
  pub starts_are : (b : ℕ) → b ≤ length digests → slice_index starts b ≡ slice_index places (first_of count b)
  pub digests_are : (b : ℕ) → b < length digests → slice_get digests b ≡ Some (sha256 (part (slice_index starts b) (slice_index starts (b + 1)) bytes))
