-- What the parts of a certificate's reader find, and that they find what is spelled.
use Rattle.std.specs.Prelude.{◌≡◌, ℕ, suc, ◌^◌, ◌<◌, ◌≤◌, Bool, true, false, List, [], ◌∷◌, ◌++◌, length, if◌then◌else◌, nat_eq, Option, Some, None, Result, MatchResult}
use Rattle.std.specs.Char.{is_ascii_digit}
use Rattle.std.specs.Borrow.{Bor}
use Rattle.std.specs.List.{AllByRecursion, flat_map}
use Rattle.wy_why.specs.declared.source.Source.{Source}
use Rattle.wy_why.specs.Answer.{Rises}
use Rattle.wy_cert.specs.declared.certificate.Listed.{Listed}
use Rattle.wy_cert.specs.declared.error.ReadError.{ReadError}
use Rattle.wy_cert.specs.declared.error.ReadError.TheVariants.{NoMemory}
use Rattle.wy_cert.specs.declared.reader.Head.{Head}
use Rattle.wy_cert.specs.Spelling.{FitsLine, FitsSource, IsSealText, events, head_text, line_feed, line_text, source_text}

-- ---- numbers

-- no digit goes on
abbrev pub EndsNumber : List ℕ → Type 0
EndsNumber [] = Unit {0}
EndsNumber (b ∷ rest) = is_ascii_digit b ≡ false

-- what stands behind a byte, where it stands at the front
abbrev pub after_byte : ℕ → List ℕ → Option (List ℕ)
after_byte byte [] = None
after_byte byte (b ∷ rest) = if nat_eq b byte then Some rest else None

-- a value, and the bytes behind it
abbrev pub seen : {X : Type 0} → X × Bor (List ℕ) → X × List ℕ
seen x = (x.0, x.1.now)

abbrev pub both_seen : Bor (List ℕ) × Bor (List ℕ) → List ℕ × List ℕ
both_seen x = (x.0.now, x.1.now)

-- ---- lines

-- what is read where memory is found
abbrev pub IsReadAs : {X : Type 0} → Result X ReadError → (X → Type 0) → Type 0
IsReadAs r P = MatchResult r P (λ e. e ≡ NoMemory)

-- these sources behind the old ones, the end of their line, and the rest
pub record AddsSources (old new : List Source) (bytes rest : List ℕ) (more : List Source) : Type 0 where
  pub added : new ≡ old ++ more
  pub fits : AllByRecursion FitsSource more
  pub spelled : bytes ≡ flat_map source_text more ++ line_feed ∷ rest

-- this line behind the old ones, not below the least, and the rest
pub record AddsLine (old new : List Listed) (least : ℕ) (bytes rest : List ℕ) (l : Listed) : Type 0 where
  pub added : new ≡ old ++ l ∷ []
  pub fits : FitsLine l
  pub above : least ≤ l.event
  pub spelled : bytes ≡ line_text l ++ rest

-- as many lines as are to come, each above the one before it
pub record AreLines (count : ℕ) (bytes : List ℕ) (listed : List Listed) : Type 0 where
  pub all : length listed ≡ count
  pub fit : AllByRecursion FitsLine listed
  pub rises : Rises 0 (2 ^ 32) (events listed)
  pub spelled : bytes ≡ flat_map line_text listed

-- the least number above all, which rise from a number on
abbrev pub above_all : ℕ → List ℕ → ℕ
above_all least [] = least
above_all least (n ∷ ns) = above_all (suc n) ns

-- ---- the first line

pub record IsHead (hex : List ℕ) (event count : ℕ) : Type 0 where
  pub digits : IsSealText hex
  pub event_fits : event < 2 ^ 32
  pub count_fits : count < 2 ^ 32

pub record HasHead (bytes : List ℕ) (h : Head) : Type 0 where
  pub is : IsHead h.hex.now h.event h.count
  pub spelled : bytes ≡ head_text h.hex.now h.event h.count ++ h.rest.now

abbrev pub head_seen : Head → List ℕ × ℕ × ℕ × List ℕ
head_seen h = (h.hex.now, h.event, h.count, h.rest.now)
