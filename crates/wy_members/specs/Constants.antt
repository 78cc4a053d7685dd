-- Which fields are constant variables, and their values (JLS 4.12.4, 15.28).
use Rattle.std.specs.Prelude.{◌≡◌, ◌↔◌, ℕ, not, List, [], map, ◌++◌, flat_map, length, Option, Some, None, option_and_then, slice_get, if◌then◌else◌}
use Rattle.wy_syntax.specs.declared.declaration.Modifier.TheVariants as modifier
use Rattle.wy_syntax.specs.Syntax.{Expression, Initial, Value, Listed, Declarator, Placed, Member, Fields, ClassSyntax}
use Rattle.wy_kernel.specs.Builtin as builtin
use Rattle.wy_kernel.specs.Program.{Field}
use Rattle.wy_kernel.specs.Table.{Table, ConstantValue}
use Rattle.wy_constant.specs.Scope.{body_of}
use Rattle.wy_constant.specs.Constant.{constant, constant_variable}
use Rattle.wy_members.specs.Declarations.{CompilationUnit, classes_of, has, table}

-- ---- initializers

-- elements in braces are no expression
abbrev pub expression_in : Option Initial → Option Expression
expression_in (Some (Value e)) = Some e
expression_in (Some (Listed elements brace)) = None
expression_in None = None

-- of a final field alone
abbrev pub initializer : List Placed → Declarator → Option Expression
initializer ms d = if has modifier.Final ms then expression_in d.initial else None

abbrev pub initializer_rows : List Placed → List Declarator → List (Option Expression)
initializer_rows ms declarators = map (initializer ms) declarators

abbrev pub initializers_in : Member → List (Option Expression)
initializers_in (Fields ms ty declarators) = initializer_rows ms declarators
initializers_in _ = []

abbrev pub initializers_among : List Member → List (Option Expression)
initializers_among members = flat_map initializers_in members

abbrev pub written_initializers : CompilationUnit → List (Option Expression)
written_initializers unit = flat_map (λ (k : ClassSyntax). initializers_among k.members) (classes_of unit)

abbrev pub library_initializers : List (Option Expression)
library_initializers = map (λ f. None) builtin.fields

-- the initializer of each field that is final, by the number of the field
unfoldable pub initializers : CompilationUnit → List (Option Expression)
initializers unit = library_initializers ++ written_initializers unit

-- ---- constants that follow from others

abbrev pub with_constants : Table → List (Option ConstantValue) → Table
with_constants t known = record t { constants = known }

abbrev pub without_constants : Table → Table
without_constants t = with_constants t []

-- a field of this row whose initializer is a constant expression that may be assigned to it; names denote what they do in a body of its class
abbrev pub initial_value : Table → Field → Expression → Option ConstantValue
initial_value t f e = option_and_then (constant_variable f.ty) (constant t (body_of f.class (not f.is_static)) e)

abbrev pub initial_value_of : Table → Option Field → Option (Option Expression) → Option ConstantValue
initial_value_of t (Some f) (Some (Some e)) = initial_value t f e
initial_value_of t _ _ = None

-- the value that field k has by the constants of the table
abbrev pub told : Table → List (Option Expression) → ℕ → Option ConstantValue
told t all k = initial_value_of t (slice_get t.fields k) (slice_get all k)

-- field k is a constant variable of this value, by constants each of which is one by others: where initializers need each other, none of them is
pub data IsConstant (rows : Table) (all : List (Option Expression)) : ℕ → ConstantValue → Type 0 where
  by_initializer : {k : ℕ} {v : ConstantValue} (known : List (Option ConstantValue)) → ((j : ℕ) (w : ConstantValue) → slice_get known j ≡ Some (Some w) → IsConstant rows all j w) → told (with_constants rows known) all k ≡ Some v → IsConstant rows all k v

-- field k of the program is a constant variable of this value
abbrev pub IsConstantField : CompilationUnit → ℕ → ConstantValue → Type 0
IsConstantField unit k v = IsConstant (without_constants (table unit)) (initializers unit) k v

-- the list has the value of each field that is a constant variable
pub record HasConstants (unit : CompilationUnit) (constants : List (Option ConstantValue)) : Type 0 where
  pub a_place_a_field : length constants ≡ length (table unit).fields
  pub exact : (k : ℕ) (v : ConstantValue) → (slice_get constants k ≡ Some (Some v)) ↔ IsConstantField unit k v

-- ---- the table of a program

-- its rows, with the values of its constant variables
pub record IsTableOf (unit : CompilationUnit) (t : Table) : Type 0 where
  pub rows : t ≡ with_constants (table unit) t.constants
  pub constants : HasConstants unit t.constants
