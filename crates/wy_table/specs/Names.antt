-- The numbers of classes and fields by name (JLS 6.5, 8.3): of classes of one name the first counts, and so of fields of one class.
use Rattle.std.specs.Prelude.{◌≡◌, ◌<◌, ◌==◌, ◌&&◌, ℕ, Bool, List, Option, Some, None, String, length, slice_get, option_and_then, if◌then◌else◌}
use Rattle.std.specs.HashMap.{HashMap, get_by_text}
use Rattle.std.specs.List.{position_from}
use Rattle.std.specs.Str.{bytes_eq}
use Rattle.wy_kernel.specs.Program.{Class, Field}
use Rattle.wy_table.specs.declared.names.DeclaredNames.{DeclaredNames}

-- the number of a name once one more name has a number: the first that it has stays
abbrev pub numbered_also : Option ℕ → Bool → ℕ → Option ℕ
numbered_also (Some number) same next = Some number
numbered_also None same next = if same then Some next else None

abbrev pub is_field_named : ℕ → List ℕ → Field → Bool
is_field_named class name f = f.class == class && bytes_eq f.name name

-- a number by a class and a name, from a map for each class
abbrev pub number_in : {Y S : Type 0} → List (HashMap (String Y) ℕ S) → ℕ → List ℕ → Option ℕ
number_in rows class name = option_and_then (λ row. get_by_text row name) (slice_get rows class)

-- they find the number of the first class of each name, and of the first field that a class declares by each name
pub record KeepsNames (classes : List Class) (fields : List Field) (names : DeclaredNames) : Type 0 where
  pub of_classes : (name : List ℕ) → get_by_text names.classes name ≡ position_from (λ c. bytes_eq c.name name) 0 classes
  pub a_map_a_class : length names.fields.items ≡ length classes
  pub of_fields : (class : ℕ) (name : List ℕ) → class < length classes →
      number_in names.fields.items class name ≡ position_from (is_field_named class name) 0 fields
