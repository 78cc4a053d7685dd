-- Numbers of classes.
use Rattle.std.specs.Prelude.{◌≡◌, ℕ, ◌<◌, List, length, slice_index}

-- each of so many classes has a number below so many, which no other has
pub record IsNumbering (many : ℕ) (numbers : List ℕ) : Type 0 where
  pub long : length numbers ≡ many
  pub within : (c : ℕ) → c < many → slice_index numbers c < many
  pub apart : (c d : ℕ) → c < many → d < many → slice_index numbers c ≡ slice_index numbers d → c ≡ d

-- the class that holds a number has it, and the number of a class is held by it
pub record AreInverse (many : ℕ) (numbers holders : List ℕ) : Type 0 where
  pub long : length numbers ≡ many
  pub long_holders : length holders ≡ many
  pub number : (c : ℕ) → c < many → (slice_index numbers c < many) × (slice_index holders (slice_index numbers c) ≡ c)
  pub holder : (n : ℕ) → n < many → (slice_index holders n < many) × (slice_index numbers (slice_index holders n) ≡ n)
