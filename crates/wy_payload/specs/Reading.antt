-- Reading a payload field by field from left to right, up to the first rule that is broken. What is read is a value and the bytes behind it.
use Rattle.std.specs.Prelude.{◌≡◌, ℕ, zero, suc, List, [], ◌∷◌, length, take, drop, Option, Some, Result, Ok, Err, nat_lt, nat_le, ◌==◌, if◌then◌else◌}
use Rattle.std.specs.Prelude.{None as Absent}
use Rattle.std.specs.Int.{Width, w32, byte_len, from_be_bytes}
use Rattle.wy_payload.specs.declared.fault.DamageRule.{DamageRule}
use Rattle.wy_payload.specs.declared.fault.DamageRule.TheVariants as rule
use Rattle.wy_payload.specs.declared.fault.Fault.{Fault}
use Rattle.wy_payload.specs.declared.fault.Fault.TheVariants as fault
use Rattle.wy_payload.specs.declared.known.Known.{Known}
use Rattle.wy_payload.specs.declared.known.Role.{Role}
use Rattle.wy_payload.specs.Rules.{Broken, in_range, optional_rule, reference_rule}

infixl 10 ◌>>=◌
abbrev pub ◌>>=◌ : {A B : Type 0} → Result A DamageRule → (A → Result B DamageRule) → Result B DamageRule
(Ok x) >>= f = f x
(Err r) >>= f = Err r

abbrev pub Read : Type 0 → Type 0
Read A = Result (A × List ℕ) DamageRule

-- what a function returned, seen so, is what reading gives, unless memory ran out
abbrev pub Fails : {Y : Type 0} → Fault → Result Y DamageRule → Type 0
Fails fault.NoMemory read = Unit {0}
Fails (fault.Broken r) read = read ≡ Err r

abbrev pub Gives : {X Y : Type 0} → (X → Y) → Result X Fault → Result Y DamageRule → Type 0
Gives view (Ok x) read = read ≡ Ok (view x)
Gives view (Err e) read = Fails e read

-- where no rule is broken
abbrev pub passed : {A : Type 0} → Broken → A → Result A DamageRule
passed Absent x = Ok x
passed (Some r) x = Err r

abbrev pub passed_number : Broken → ℕ → List ℕ → Read ℕ
passed_number r n rest = passed r (n, rest)

-- where the byte is that of a tag
abbrev pub known_tag : {A : Type 0} → Option A → List ℕ → Read A
known_tag Absent rest = Err rule.Range
known_tag (Some tag) rest = Ok (tag, rest)

-- a number in so many bytes
abbrev pub number_at : Width → List ℕ → Read ℕ
number_at w bytes = if nat_lt (length bytes) (byte_len w) then Err rule.Length else Ok (from_be_bytes w (take (byte_len w) bytes), drop (byte_len w) bytes)

unfoldable pub reference_at : Role → List Known → List ℕ → Read ℕ
reference_at r earlier bytes = do
  n ← number_at w32 bytes
  passed (reference_rule r earlier n.0) n

unfoldable pub optional_at : Role → List Known → List ℕ → Read ℕ
optional_at r earlier bytes = do
  n ← number_at w32 bytes
  passed (optional_rule r earlier n.0) n

-- a number below a limit
unfoldable pub below_at : ℕ → List ℕ → Read ℕ
below_at limit bytes = do
  n ← number_at w32 bytes
  passed (in_range (nat_lt n.0 limit)) n

-- a number up to a limit
unfoldable pub at_most_at : ℕ → List ℕ → Read ℕ
at_most_at limit bytes = do
  n ← number_at w32 bytes
  passed (in_range (nat_le n.0 limit)) n

-- so many, one behind another
unfoldable pub rows_from : {X : Type 0} → (List ℕ → Read X) → ℕ → List ℕ → Read (List X)
rows_from read zero bytes = Ok ([], bytes)
rows_from read (suc count) bytes = do
  first ← read bytes
  others ← rows_from read count first.1
  Ok (first.0 ∷ others.0, others.1)

-- so many bytes, whose number is at most the limit
unfoldable pub block_at : ℕ → List ℕ → Read (List ℕ)
block_at limit bytes = do
  n ← at_most_at limit bytes
  if nat_lt (length n.1) n.0 then Err rule.Length else Ok (take n.0 n.1, drop n.0 n.1)

-- nothing stands behind it
abbrev pub all_of : {A : Type 0} → Read A → Result A DamageRule
all_of read = read >>= λ x. if length x.1 == 0 then Ok x.0 else Err rule.Length
