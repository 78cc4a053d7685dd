-- The magic and the frame of a head are bytes, where its input and its source are.
use Rattle.std.proofs.Common.{◌≡◌, ℕ, zero, suc, ◌+◌, ◌-◌, ◌<◌, Bool, true, false, List, [], ◌∷◌, ◌++◌, length, refl, sym, subst, arith, ⊎_elim}
use Rattle.std.specs.Prelude.{◌%◌, ◌&&◌, nat_lt, slice_index}
use Rattle.std.specs.Int.{byte_at, bytes_high_first}
use Rattle.std.proofs.lemmas.Bool.{cases_lt, ltb-true}
use Rattle.std.proofs.lemmas.List.{get_or_append_left, get_or-append-add}
use Rattle.wy_event.specs.declared.record.Version.{Version}
use Rattle.wy_event.specs.declared.record.Version.TheVariants as version
use Rattle.wy_event.specs.declared.record.Head.{Head}
use Rattle.wy_spelling.specs.Spelling.{head_frame, head_payload, magic, number, opening}
use Rattle.law_reading.specs.Spelled.{AreBytes}

pub no_bytes : AreBytes []
no_bytes i = omega arith

pub bytes_then : (a b : List ℕ) → AreBytes a → AreBytes b → AreBytes (a ++ b)
bytes_then a b x y i = ⊎_elim (λ lt. subst (λ (n : ℕ). n < 256) (sym (get_or_append_left a b 0 i lt)) (x i)) (λ le. behind (i - length a) (omega (arith, le))) (cases_lt i (length a)) where
  behind : (k : ℕ) → i ≡ length a + k → slice_index (a ++ b) i < 256
  behind k is = subst (λ (n : ℕ). slice_index (a ++ b) n < 256) (sym is) (subst (λ (n : ℕ). n < 256) (sym (get_or-append-add a b k 0)) (y k))

byte_then : (a : ℕ) (b : List ℕ) → a < 256 → AreBytes b → AreBytes (a ∷ b)
byte_then a b x y zero = x
byte_then a b x y (suc i) = y i

low_byte : (m : ℕ) → m % 256 < 256
low_byte m = omega arith

is_byte : (k n : ℕ) → byte_at k n < 256
is_byte zero n = low_byte n
is_byte (suc k) n = low_byte _

high_bytes : (k n : ℕ) → AreBytes (bytes_high_first k n)
high_bytes zero n = no_bytes
high_bytes (suc k) n = byte_then (byte_at k n) (bytes_high_first k n) (is_byte k n) (high_bytes k n)

of_number : (n : ℕ) → AreBytes (number n)
of_number n = high_bytes 4 n

of_magic : (v : Version) → AreBytes (magic v)
of_magic v = by (magic v) (each v) where
  small : (n : ℕ) → nat_lt n 256 ≡ true → n < 256
  small n is = ltb-true n 256 is

  all_small : List ℕ → Bool
  all_small [] = true
  all_small (b ∷ bytes) = nat_lt b 256 && all_small bytes

  each : (v : Version) → all_small (magic v) ≡ true
  each version.One = refl
  each version.Two = refl

  both : (a b : Bool) → (a && b) ≡ true → (a ≡ true) × (b ≡ true)
  both true b is = (refl, is)
  both false b is = absurd cc

  by : (bytes : List ℕ) → all_small bytes ≡ true → AreBytes bytes
  by [] is = no_bytes
  by (b ∷ bytes) is = let two = both (nat_lt b 256) (all_small bytes) is in byte_then b bytes (small b two.0) (by bytes two.1)

of_payload : (head : Head) → AreBytes head.input → AreBytes head.source → AreBytes (head_payload head)
unfolding head_payload
of_payload head input source =
    let last = number (length head.source) ++ head.source in
    let behind = head.input ++ last in
    let sized = number (length head.input) ++ behind in
    bytes_then (number head.steps) sized (of_number head.steps) (bytes_then (number (length head.input)) behind (of_number (length head.input)) (bytes_then head.input last input (bytes_then (number (length head.source)) head.source (of_number (length head.source)) source)))

pub head_bytes : (v : Version) (head : Head) → AreBytes head.input → AreBytes head.source → AreBytes (opening v head)
unfolding opening head_frame
head_bytes v head input source =
    let payload = head_payload head in
    let sized = number (length payload) ++ payload in
    bytes_then (magic v) (72 ∷ sized) (of_magic v) (byte_then 72 sized (omega arith) (bytes_then (number (length payload)) payload (of_number (length payload)) (of_payload head input source)))
