-- Classes by name, and the field that a class has by a name (JLS 6.5, 8.3).
use Rattle.std.specs.Prelude.{Bool, ℕ, zero, suc, ◌&&◌, ◌==◌, List, Option, Some, None, bytes_eq, slice_get, length}
use Rattle.std.specs.List.{position_from}
use Rattle.wy_kernel.specs.Program.{Class, Field}
use Rattle.wy_kernel.specs.Table.{Table, ConstantValue}

abbrev pub is_class_named : List ℕ → Class → Bool
is_class_named name c = bytes_eq c.name name

abbrev pub class_named : List Class → List ℕ → Option ℕ
class_named classes name = position_from (is_class_named name) 0 classes

abbrev pub is_field : ℕ → List ℕ → Field → Bool
is_field class name f = f.class == class && bytes_eq f.name name

abbrev pub declared_field : List Field → ℕ → List ℕ → Option ℕ
declared_field fields class name = position_from (is_field class name) 0 fields

abbrev pub superclass : Option Class → Option ℕ
superclass None = None
superclass (Some c) = c.above

abbrev pub or_above : Option ℕ → Option ℕ → (ℕ → Option ℕ) → Option ℕ
or_above (Some field) above find = Some field
or_above None (Some class) find = find class
or_above None None find = None

-- the field that a class or the nearest of so many classes above it declares
unfoldable pub field_within : ℕ → Table → ℕ → List ℕ → Option ℕ
field_within zero t class name = None
field_within (suc longest) t class name =
    or_above (declared_field t.fields class name) (superclass (slice_get t.classes class)) (λ above. field_within longest t above name)

-- the field that a name denotes in a class: that of the nearest class from it upward; private ones count, and no line of superclasses is
-- longer than there are classes
abbrev pub field_of : Table → ℕ → List ℕ → Option ℕ
field_of t class name = field_within (length t.classes) t class name

abbrev pub the : Option (Option ConstantValue) → Option ConstantValue
the (Some c) = c
the None = None

-- the value of a field that is a constant variable
abbrev pub field_constant : Table → ℕ → Option ConstantValue
field_constant t field = the (slice_get t.constants field)
