-- What a program declares, before its bodies: its classes, methods and fields by number, those of java.lang first (JLS 8, 9).
use Rattle.std.specs.Prelude.{◌≡◌, ℕ, ◌<◌, ◌≤◌, ◌↔◌, List, map, ◌++◌, length, Option, Some, None, slice_get, option_map, nat_eq}
use Rattle.std.specs.List.{All, Contains, IsDistinct}
use Rattle.std.specs.Option.{option_to_list}
use Rattle.wy_kernel.specs.declared.types.Base.TheVariants.{Primitive as Basic, Class as Named}
use Rattle.wy_kernel.specs.declared.types.Ty.{Ty}
use Rattle.wy_kernel.specs.declared.types.Ty.TheVariants.{Void, Null, Of}
use Rattle.wy_kernel.specs.declared.form.Const.{Const}
use Rattle.wy_kernel.specs.declared.form.Const.TheVariants as constant
use Rattle.wy_kernel.specs.declared.types.Class as memory
use Rattle.wy_kernel.specs.declared.types.Method as memory_method
use Rattle.wy_kernel.specs.declared.types.Field as memory_field
use Rattle.wy_kernel.specs.Form.{Constant}
use Rattle.wy_kernel.specs.Form as plain
use Rattle.wy_kernel.specs.Program.{Class, Method, Field}
use Rattle.wy_kernel.specs.Subtyping.{Supertype, IsAcyclic, direct_supertypes}
use Rattle.wy_kernel.specs.Builtin as builtin
use Rattle.wy_kernel.specs.View.{class_of, method_of, field_of, constant_of}

-- the value of a constant variable: a primitive one, or a text (JLS 4.12.4)
pub data ConstantValue : Type 0 where
  Simple : Constant → ConstantValue
  Text : List ℕ → ConstantValue

abbrev pub constant_value : Const → ConstantValue
constant_value (constant.Text units) = Text units.items
constant_value constant.Null = Simple plain.Null
constant_value (constant.Bool b) = Simple (plain.Truth b)
constant_value (constant.Byte z) = Simple (plain.Byte z)
constant_value (constant.Short z) = Simple (plain.Short z)
constant_value (constant.Char n) = Simple (plain.Char n)
constant_value (constant.Int z) = Simple (plain.Int z)
constant_value (constant.Long z) = Simple (plain.Long z)

-- constants has the value of each field that is a constant variable
pub record Table : Type 0 where
  pub classes : List Class
  pub methods : List Method
  pub fields : List Field
  pub constants : List (Option ConstantValue)

-- the table of these parts in memory
abbrev pub table_with : List memory.Class → List memory_method.Method → List memory_field.Field → List (Option Const) → Table
table_with classes methods fields constants = record {
  classes = map class_of classes;
  methods = map method_of methods;
  fields = map field_of fields;
  constants = map (option_map constant_value) constants;
}

-- the class that a type names, if it names one, is one of so many
abbrev pub IsTypeOf : ℕ → Ty → Type 0
IsTypeOf many (Of (Named c) brackets) = c < many
IsTypeOf many (Of (Basic p) brackets) = Unit {0}
IsTypeOf many Void = Unit {0}
IsTypeOf many Null = Unit {0}

-- a method of one of so many classes, with types of them
pub record IsMethodOf (many : ℕ) (m : Method) : Type 0 where
  pub class : m.class < many
  pub params : All (IsTypeOf many) m.params
  pub result : IsTypeOf many m.result

-- a field of one of so many classes, with a type of them
pub record IsFieldOf (many : ℕ) (f : Field) : Type 0 where
  pub class : f.class < many
  pub ty : IsTypeOf many f.ty

-- the list begins with this one
abbrev pub BeginsWith : {X : Type 0} → List X → List X → Type 0
BeginsWith {X} xs front = (rest : List X) × (xs ≡ front ++ rest)

-- each class extends and implements classes of the list
abbrev pub NamesAmong : List Class → Type 0
NamesAmong classes = (c d : ℕ) → Contains (direct_supertypes classes c) d → d < length classes

-- what holds of the declarations of every program
pub record IsTable (t : Table) : Type 0 where
  pub library_classes : BeginsWith t.classes builtin.classes
  pub library_methods : BeginsWith t.methods builtin.methods
  pub library_fields : BeginsWith t.fields builtin.fields
  pub supertypes_in_range : NamesAmong t.classes
  pub methods_in_range : All (IsMethodOf (length t.classes)) t.methods
  pub fields_in_range : All (IsFieldOf (length t.classes)) t.fields
  pub constants_of_fields : length t.constants ≡ length t.fields
  pub acyclic : IsAcyclic t.classes
  pub few_classes : length t.classes < builtin.no_site
  pub few_methods : length t.methods < builtin.no_site
  pub few_fields : length t.fields < builtin.no_site

-- the list has exactly the supertypes of class c, each once
pub record HasSupertypes (classes : List Class) (c : ℕ) (row : List ℕ) : Type 0 where
  pub exact : (d : ℕ) → Contains row d ↔ Supertype classes c d
  pub once : IsDistinct nat_eq row

-- a row for each class, with its supertypes
pub record KeepsSupertypes (classes : List Class) (rows : List (List ℕ)) : Type 0 where
  pub a_row_a_class : length rows ≡ length classes
  pub each : (c : ℕ) (row : List ℕ) → slice_get rows c ≡ Some row → HasSupertypes classes c row
