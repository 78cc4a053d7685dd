-- The library's declarations, computed: how many there are, and what stands at their numbers.
use Rattle.std.specs.Prelude.{◌≡◌, ℕ, zero, suc, ◌+◌, ◌*◌, ◌-◌, ◌^◌, List, [], ◌∷◌, length, map, slice_get, Some, codes, refl}
use Rattle.wy_kernel.specs.Builtin.{classes, methods, first_methods, fields, extending, constructor, text}

pub how_many : (length classes ≡ 18) × (length methods ≡ 36) × (length fields ≡ 1)
unfolding classes methods first_methods fields
how_many = (refl, refl, refl)

pub exception_extends_throwable : slice_get classes 3 ≡ Some (extending (Some 2) (codes "Exception"))
unfolding classes
exception_extends_throwable = refl

pub index_of_array_extends_index : (slice_get classes 13 ≡ Some (extending (Some 12) (codes "ArrayIndexOutOfBoundsException"))) × (slice_get classes 12 ≡ Some (extending (Some 5) (codes "IndexOutOfBoundsException")))
unfolding classes
index_of_array_extends_index = (refl, refl)

below_throwable : List ℕ
below_throwable = 3 ∷ 4 ∷ 5 ∷ 6 ∷ 7 ∷ 8 ∷ 9 ∷ 10 ∷ 11 ∷ 12 ∷ 13 ∷ 14 ∷ 15 ∷ 16 ∷ 17 ∷ []

-- method 6 + 2 * (c - 3) is the constructor of class c without a message
constructors_without : map (λ c. slice_get methods (6 + 2 * (c - 3))) below_throwable ≡ map (λ c. Some (constructor (6 + 2 * (c - 3)) c [])) below_throwable
unfolding methods first_methods below_throwable
constructors_without = refl

-- and the next is that with one
constructors_with : map (λ c. slice_get methods (7 + 2 * (c - 3))) below_throwable ≡ map (λ c. Some (constructor (7 + 2 * (c - 3)) c (text ∷ []))) below_throwable
unfolding methods first_methods below_throwable
constructors_with = refl

numbers : ℕ → ℕ → List ℕ
numbers first zero = []
numbers first (suc many) = first ∷ numbers (first + 1) many

-- the site of method m is 2 ^ 31 + m
sites : map (λ m. m.site) methods ≡ map (λ n. 2 ^ 31 + n) (numbers 0 36)
unfolding methods first_methods numbers
sites = refl
