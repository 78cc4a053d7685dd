-- What a search for the method that runs goes by.
use Rattle.std.specs.Prelude.{ℕ, ◌≡◌, ◌<◌, ◌≤◌, ◌+◌, nat_eq, if◌then◌else◌, List, [], ◌∷◌, length, drop, map, slice_index_or, Option}
use Rattle.std.specs.List.{All}
use Rattle.wy_kernel.specs.Program.{Program, class, declared_in}
use Rattle.wy_kernel.specs.View.{method_of, NONE}
use Rattle.wy_kernel.specs.declared.program.Program.{Program as Memory}
use Rattle.wy_kernel.specs.declared.types.Method.{Method}

abbrev pub above : Program → ℕ → Option ℕ
above p c = (class p c).above

-- the first method of a class that a call of a method runs
abbrev pub found_in : Memory → ℕ → Method → Option ℕ
found_in p c called = declared_in c (method_of called) 0 (map method_of p.methods.items)

-- the first method of a class in a list whose first has this number, or NONE
abbrev pub first_in : ℕ → ℕ → List Method → ℕ
first_in c n [] = NONE
first_in c n (m ∷ ms) = if nat_eq m.class c then n else first_in c (n + 1) ms

-- of each class, its first method from a number on
abbrev pub HasFirsts : List Method → List ℕ → ℕ → Type 0
HasFirsts ms first from = (c : ℕ) → c < length first → slice_index_or first c NONE ≡ first_in c from (drop from ms)

-- of each method from a number on, the next one of its class
abbrev pub HasNexts : List Method → List ℕ → ℕ → Type 0
HasNexts ms next from = (n : ℕ) (m : Method) → from ≤ n → n < length ms → slice_index_or next n NONE ≡ first_in (slice_index_or ms n m).class (n + 1) (drop (n + 1) ms)

-- each method from a number on is of one of so many classes
abbrev pub AreOf : List Method → ℕ → ℕ → Type 0
AreOf ms classes from = All (λ m. m.class < classes) (drop from ms)
