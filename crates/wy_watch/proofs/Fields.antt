-- The first field of a program that passes a test, and the first class of a name.
use Rattle.std.proofs.Common.{◌≡◌, ℕ, ◌+◌, ◌<◌, Bool, true, false, List, length, drop, Some}
use Rattle.std.specs.Prelude.{Option}
use Rattle.std.specs.List.{position_from}
use Rattle.std.specs.Str.{bytes_eq}
use Rattle.wy_kernel.specs.Program.{Program, Field, class, field}
use Rattle.wy_watch.proofs.Positions.{passes, fails}

pub found_field : (p : Program) (test : Field → Bool) (n : ℕ) (r : Option ℕ) → n < length p.fields → test (field p n) ≡ true → r ≡ position_from test n (drop n p.fields) → Some n ≡ r
unfolding field
found_field p test n r less is e = passes test p.fields n _ r less is e

pub passed_field : (p : Program) (test : Field → Bool) (n : ℕ) (r : Option ℕ) → n < length p.fields → test (field p n) ≡ false → r ≡ position_from test n (drop n p.fields)
    → r ≡ position_from test (n + 1) (drop (n + 1) p.fields)
unfolding field
passed_field p test n r less is e = fails test p.fields n _ r less is e

pub found_class : (p : Program) (name : List ℕ) (n : ℕ) (r : Option ℕ) → n < length p.classes → bytes_eq (class p n).name name ≡ true
    → r ≡ position_from (λ c. bytes_eq c.name name) n (drop n p.classes) → Some n ≡ r
unfolding class
found_class p name n r less is e = passes (λ c. bytes_eq c.name name) p.classes n _ r less is e

pub passed_class : (p : Program) (name : List ℕ) (n : ℕ) (r : Option ℕ) → n < length p.classes → bytes_eq (class p n).name name ≡ false
    → r ≡ position_from (λ c. bytes_eq c.name name) n (drop n p.classes) → r ≡ position_from (λ c. bytes_eq c.name name) (n + 1) (drop (n + 1) p.classes)
unfolding class
passed_class p name n r less is e = fails (λ c. bytes_eq c.name name) p.classes n _ r less is e
