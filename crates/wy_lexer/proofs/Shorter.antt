-- What is behind a literal is shorter than what is behind its opening quote.
use Rattle.std.proofs.Common.{ℕ, zero, suc, ◌+◌, ◌*◌, ◌-◌, ◌<◌, ◌≤◌, nat_eq, nat_le, Bool, true, false, if◌then◌else◌, List, [], ◌∷◌, length, drop, Option, Some, None, arith}
use Rattle.std.proofs.lemmas.List.{length-drop}
use Rattle.std.specs.List.{prefix_len}
use Rattle.std.specs.Str.{continuation_len, lead_bits}
use Rattle.std.specs.Char.{digit_value}
use Rattle.wy_tree.specs.Bytes.{is_octal_digit, is_line_end}
use Rattle.wy_tree.specs.Literals.{Element, simple_escape, octal_digit, octal_escape, or_else, third_digit, second_digit, are_hexadecimal, is_special, unit_of_hexadecimal, four_digits, unicode_escape, other_escape, escape_of, escape, continued, first_char, one_unit, one_char, element, with_units, followed_by, text_from, closed_by, closed, char_literal}

abbrev Number : Type 0
Number = ℕ × List ℕ

abbrev Within : ℕ → Option Number → Type 0
Within n None = Unit {0}
Within n (Some x) = length x.1 ≤ n

abbrev UnitsWithin : ℕ → Option Element → Type 0
UnitsWithin n None = Unit {0}
UnitsWithin n (Some x) = length x.1 ≤ n

abbrev pub UnitLess : ℕ → Option Number → Type 0
UnitLess n None = Unit {0}
UnitLess n (Some x) = length x.1 < n

abbrev pub UnitsLess : ℕ → Option Element → Type 0
UnitsLess n None = Unit {0}
UnitsLess n (Some x) = length x.1 < n

chosen : (n : ℕ) (c : Bool) (x y : Option Number) → Within n x → Within n y → Within n (if c then x else y)
chosen n true x y f g = f
chosen n false x y f g = g

raised : (n m : ℕ) (o : Option Number) → n ≤ m → Within n o → Within m o
raised n m None le f = tt
raised n m (Some x) le f = omega arith

octal_digit_within : (n : ℕ) (bytes : List ℕ) → Within (length bytes) (octal_digit n bytes)
unfolding octal_digit
octal_digit_within n [] = tt
octal_digit_within n (b ∷ bytes) = chosen (length (b ∷ bytes)) (is_octal_digit b) (Some (8 * n + (b - 48), bytes)) None (omega arith) tt

or_else_within : (n : ℕ) (o : Option Number) (x : Number) → Within n o → length x.1 ≤ n → length (or_else o x).1 ≤ n
or_else_within n None x f g = g
or_else_within n (Some y) x f g = f

third_within : (room : Bool) (x : Number) → length (third_digit room x).1 ≤ length x.1
third_within true x = or_else_within (length x.1) (octal_digit x.0 x.1) x (octal_digit_within x.0 x.1) (omega arith)
third_within false x = omega arith

second_within : (n : ℕ) (room : Bool) (o : Option Number) (y : Number) → Within n o → length y.1 ≤ n → length (second_digit room o y).1 ≤ n
second_within n room None y f g = g
second_within n room (Some x) y f g = let h = third_within room x in omega arith

octal_escape_within : (b : ℕ) (bytes : List ℕ) → length (octal_escape b bytes).1 ≤ length bytes
unfolding octal_escape
octal_escape_within b bytes = second_within (length bytes) (nat_le b 51) (octal_digit (b - 48) bytes) (b - 48, bytes) (octal_digit_within (b - 48) bytes) (omega arith)

four_digits_within : (bytes : List ℕ) → Within (length bytes) (four_digits bytes)
unfolding four_digits
four_digits_within [] = tt
four_digits_within (a ∷ []) = tt
four_digits_within (a ∷ b ∷ []) = tt
four_digits_within (a ∷ b ∷ c ∷ []) = tt
four_digits_within (a ∷ b ∷ c ∷ d ∷ bytes) =
    let n = length (a ∷ b ∷ c ∷ d ∷ bytes) in
    let u = 16 * (16 * (16 * digit_value a + digit_value b) + digit_value c) + digit_value d in
    chosen n (are_hexadecimal a b c d) (unit_of_hexadecimal u bytes) None (chosen n (is_special u) None (Some (u, bytes)) tt (omega arith)) tt

unicode_within : (bytes : List ℕ) → Within (length bytes) (unicode_escape bytes)
unfolding unicode_escape
unicode_within bytes =
    let k = prefix_len (λ b. nat_eq b 117) bytes in
    let e = length-drop k bytes in
    raised (length (drop k bytes)) (length bytes) (four_digits (drop k bytes)) (omega (arith, e)) (four_digits_within (drop k bytes))

other_within : (b : ℕ) (bytes : List ℕ) → Within (length bytes) (other_escape b bytes)
other_within b bytes =
    chosen (length bytes) (is_octal_digit b) (Some (octal_escape b bytes)) (if nat_eq b 117 then unicode_escape bytes else None) (octal_escape_within b bytes)
    (chosen (length bytes) (nat_eq b 117) (unicode_escape bytes) None (unicode_within bytes) tt)

escape_of_within : (o : Option ℕ) (b : ℕ) (bytes : List ℕ) → Within (length bytes) (escape_of o b bytes)
escape_of_within (Some u) b bytes = omega arith
escape_of_within None b bytes = other_within b bytes

escape_within : (bytes : List ℕ) → Within (length bytes) (escape bytes)
unfolding escape
escape_within [] = tt
escape_within (b ∷ bytes) = raised (length bytes) (length (b ∷ bytes)) (escape_of (simple_escape b) b bytes) (omega arith) (escape_of_within (simple_escape b) b bytes)

continued_within : (n c : ℕ) (bytes : List ℕ) → Within (length bytes) (continued n c bytes)
continued_within zero c bytes = omega arith
continued_within (suc n) c [] = tt
continued_within (suc n) c (b ∷ bytes) =
    raised (length bytes) (length (b ∷ bytes)) (continued n (c * 64 + (b - 128)) bytes) (omega arith) (continued_within n (c * 64 + (b - 128)) bytes)

first_char_within : (b : ℕ) (bytes : List ℕ) → Within (length bytes) (first_char b bytes)
unfolding first_char
first_char_within b bytes = continued_within (continuation_len b) (lead_bits b) bytes

one_unit_within : (n : ℕ) (o : Option Number) → Within n o → UnitsWithin n (one_unit o)
one_unit_within n None f = tt
one_unit_within n (Some x) f = f

one_char_within : (n : ℕ) (o : Option Number) → Within n o → UnitsWithin n (one_char o)
one_char_within n None f = tt
one_char_within n (Some x) f = f

element_within : (b : ℕ) (bytes : List ℕ) → UnitsWithin (length bytes) (element b bytes)
unfolding element
element_within b bytes = by (nat_eq b 92) (is_line_end b)
  where
    by : (v w : Bool) → UnitsWithin (length bytes) (if v then one_unit (escape bytes) else (if w then None else one_char (first_char b bytes)))
    by true w = one_unit_within (length bytes) (escape bytes) (escape_within bytes)
    by false true = tt
    by false false = one_char_within (length bytes) (first_char b bytes) (first_char_within b bytes)

with_units_less : (n m : ℕ) (us : List ℕ) (o : Option Element) → n ≤ m → UnitsLess n o → UnitsLess m (with_units us o)
with_units_less n m us None le f = tt
with_units_less n m us (Some x) le f = omega arith

followed_less : (n : ℕ) (o : Option Element) (rest : List ℕ → Option Element) → UnitsWithin n o → ((s : List ℕ) → UnitsLess (length s) (rest s)) → UnitsLess n (followed_by rest o)
followed_less n None rest f g = tt
followed_less n (Some x) rest f g = with_units_less (length x.1) n x.0 (rest x.1) f (g x.1)

text_chosen : (n : ℕ) (c : Bool) (x y : Option Element) → UnitsLess n x → UnitsLess n y → UnitsLess n (if c then x else y)
text_chosen n true x y f g = f
text_chosen n false x y f g = g

raised_less : (n m : ℕ) (o : Option Element) → n ≤ m → UnitsLess n o → UnitsLess m o
raised_less n m None le f = tt
raised_less n m (Some x) le f = omega arith

pub text_less : (k : ℕ) (bytes : List ℕ) → UnitsLess (length bytes) (text_from k bytes)
unfolding text_from
text_less zero bytes = tt
text_less (suc k) [] = tt
text_less (suc k) (b ∷ bytes) =
    text_chosen (length (b ∷ bytes)) (nat_eq b 34) (Some ([], bytes)) (followed_by (text_from k) (element b bytes)) (omega arith)
    (raised_less (length bytes) (length (b ∷ bytes)) (followed_by (text_from k) (element b bytes)) (omega arith)
    (followed_less (length bytes) (element b bytes) (text_from k) (element_within b bytes) (λ s. text_less k s)))

closed_by_less : (us bytes : List ℕ) → UnitLess (length bytes) (closed_by us bytes)
closed_by_less [] bytes = tt
closed_by_less (u ∷ []) [] = tt
closed_by_less (u ∷ []) (q ∷ bytes) = by (nat_eq q 39)
  where
    by : (v : Bool) → UnitLess (length (q ∷ bytes)) (if v then Some (u, bytes) else None)
    by true = omega arith
    by false = tt
closed_by_less (u ∷ v ∷ us) bytes = tt

lifted : (n m : ℕ) (o : Option Number) → n ≤ m → UnitLess n o → UnitLess m o
lifted n m None le f = tt
lifted n m (Some x) le f = omega arith

closed_less : (n : ℕ) (o : Option Element) → UnitsWithin n o → UnitLess n (closed o)
closed_less n None f = tt
closed_less n (Some x) f = lifted (length x.1) n (closed_by x.0 x.1) f (closed_by_less x.0 x.1)

pub char_less : (bytes : List ℕ) → UnitLess (length bytes) (char_literal bytes)
unfolding char_literal
char_less [] = tt
char_less (b ∷ bytes) = by (nat_eq b 39)
  where
    by : (v : Bool) → UnitLess (length (b ∷ bytes)) (if v then None else closed (element b bytes))
    by true = tt
    by false = lifted (length bytes) (length (b ∷ bytes)) (closed (element b bytes)) (omega arith) (closed_less (length bytes) (element b bytes) (element_within b bytes))
