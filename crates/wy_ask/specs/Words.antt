-- Numbers and names, as they stand in the words of questions.
use Rattle.std.specs.Prelude.{ℕ, ◌+◌, ◌*◌, ◌-◌, nat_le, nat_lt, Bool, not, ◌&&◌, List, [], ◌∷◌, ◌++◌, length, Option, Some, None, if◌then◌else◌, codes, IsTrue}
use Rattle.std.specs.List.{list_all}
use Rattle.wy_tree.specs.Bytes.{begins_with, begins_word, goes_on_word, is_digit}
use Rattle.wy_tree.specs.Words.{is_key}

-- the number that has first been read, with these digits behind it
abbrev pub value_from : ℕ → List ℕ → ℕ
value_from n [] = n
value_from n (b ∷ digits) = value_from (10 * n + (b - 48)) digits

abbrev pub value_of : List ℕ → ℕ
value_of digits = value_from 0 digits

-- 1 to 10 digits, with a value up to 4294967295
unfoldable pub is_number : List ℕ → Bool
is_number word = list_all is_digit word && (nat_lt 0 (length word) && (nat_le (length word) 10 && nat_le (value_of word) 4294967295))

abbrev pub number_of : List ℕ → Option ℕ
number_of word = if is_number word then Some (value_of word) else None

-- a name of the language: letters, digits, "_" and "$", no digit first, and none of the words that are no names
unfoldable pub is_name : List ℕ → Bool
is_name word = begins_with begins_word word && (list_all goes_on_word word && not (is_key word))

abbrev pub library : List ℕ
library = codes "java.lang."

-- a class of the source by its name, and one of the library by its name in its package
pub data IsClassWord : List ℕ → Type 0 where
  of_source : (name : List ℕ) → IsTrue (is_name name) → IsClassWord name
  of_library : (name : List ℕ) → IsTrue (is_name name) → IsClassWord (library ++ name)
