-- The table of a program: what the library declares, and behind it what the text declares, in its order (JLS 8, 9).
use Rattle.std.specs.Prelude.{ℕ, ◌+◌, Bool, true, false, not, ◌&&◌, ◌||◌, if◌then◌else◌, List, [], ◌∷◌, ◌++◌, map, position, flat_map, filter_map, Option, Some, None, unwrap_or, is_some, codes}
use Rattle.std.specs.Str.{bytes_eq}
use Rattle.std.specs.List.{list_any, enumerate_from}
use Rattle.wy_kernel.specs.declared.types.Base.{Base}
use Rattle.wy_kernel.specs.declared.types.Base.TheVariants as base
use Rattle.wy_kernel.specs.declared.types.Ty.{Ty}
use Rattle.wy_kernel.specs.declared.types.Ty.TheVariants.{Void, Of}
use Rattle.wy_kernel.specs.declared.types.MethodForm.{MethodForm}
use Rattle.wy_kernel.specs.declared.types.MethodForm.TheVariants as kind
use Rattle.wy_kernel.specs.Program.{Class, Method, Field, object_class, first_source_class}
use Rattle.wy_kernel.specs.Builtin as builtin
use Rattle.wy_kernel.specs.Table.{Table, ConstantValue}
use Rattle.wy_syntax.specs.declared.declaration.Modifier.{Modifier}
use Rattle.wy_syntax.specs.declared.declaration.Modifier.TheVariants as modifier
use Rattle.wy_syntax.specs.contracts.declaration.Modifier.{the_type}
use Rattle.wy_syntax.specs.Syntax.{Named, WrittenType, Declarator, Placed, Parameter, Header, Member, Initializer, Fields, ClassSyntax, Declaration, Declared}
use Rattle.wy_syntax.specs.Syntax as syntax
use denote.Enum.Bare.{sameb}

-- a program as the list of what stands at its top
abbrev pub CompilationUnit : Type 0
CompilationUnit = List Declaration

abbrev pub class_in : Declaration → Option ClassSyntax
class_in (Declared k) = Some k
class_in syntax.Declaration.Nothing = None
class_in syntax.Declaration.Unknown = None

-- its classes and interfaces
abbrev pub classes_of : CompilationUnit → List ClassSyntax
classes_of unit = filter_map class_in unit

-- ---- names and types

abbrev pub name_of : Class → List ℕ
name_of k = k.name

abbrev pub written_names : CompilationUnit → List (List ℕ)
written_names unit = map (λ (k : ClassSyntax). k.name.name) (classes_of unit)

-- the names of all classes and interfaces, by their numbers
abbrev pub class_names : CompilationUnit → List (List ℕ)
class_names unit = map name_of builtin.classes ++ written_names unit

-- the number of the class or the interface that a name denotes: the first of this name
unfoldable pub denoted : CompilationUnit → List ℕ → Option ℕ
denoted unit name = position (bytes_eq name) (class_names unit)

-- a name that denotes nothing counts as Object
abbrev pub class_or_object : CompilationUnit → List ℕ → ℕ
class_or_object unit name = unwrap_or (denoted unit name) object_class

abbrev pub base_type : CompilationUnit → syntax.Base → Base
base_type unit (syntax.Basic p) = base.Primitive p
base_type unit (syntax.Class name) = base.Class (class_or_object unit name)

-- a written type with so many pairs of brackets more
abbrev pub type_with : CompilationUnit → WrittenType → ℕ → Ty
type_with unit ty more = Of (base_type unit ty.base) (ty.brackets + more)

-- no written type is void
abbrev pub result_type : CompilationUnit → Option WrittenType → Ty
result_type unit None = Void
result_type unit (Some ty) = type_with unit ty 0

abbrev pub types_of : CompilationUnit → List Parameter → List Ty
types_of unit params = map (λ (p : Parameter). type_with unit p.ty p.brackets) params

abbrev pub parameter_types : CompilationUnit → Header → List Ty
parameter_types unit h = types_of unit h.params

-- ---- modifiers

abbrev pub same_modifier : Modifier → Modifier → Bool
same_modifier = sameb the_type

-- the modifier is among these
abbrev pub has : Modifier → List Placed → Bool
has m ms = list_any (λ (p : Placed). same_modifier m p.modifier) ms

-- ---- classes (JLS 8.1, 9.1)

-- what extends nothing is below Object
abbrev pub superclass : CompilationUnit → Option Named → ℕ
superclass unit None = object_class
superclass unit (Some n) = class_or_object unit n.name

-- what a class implements, or an interface extends, without what denotes nothing
abbrev pub interfaces_of : CompilationUnit → List Named → List ℕ
interfaces_of unit interfaces = filter_map (λ (n : Named). denoted unit n.name) interfaces

abbrev pub class_row : CompilationUnit → ClassSyntax → Class
class_row unit k = record {
  name = k.name.name;
  site = k.name.token;
  is_interface = k.is_interface;
  is_abstract = k.is_interface || has modifier.Abstract k.modifiers;
  is_final = has modifier.Final k.modifiers;
  above = if k.is_interface then None else Some (superclass unit k.above);
  interfaces = interfaces_of unit k.interfaces;
}

-- the rows of the classes of some declarations of the unit
abbrev pub class_rows : CompilationUnit → CompilationUnit → List Class
class_rows unit declarations = map (class_row unit) (classes_of declarations)

-- ---- methods and constructors (JLS 8.4, 8.6, 8.8, 9.4)

-- those of interfaces are abstract
abbrev pub is_abstract_in : ClassSyntax → Header → Bool
is_abstract_in k h = k.is_interface || has modifier.Abstract h.modifiers

abbrev pub method_row : CompilationUnit → ℕ → ClassSyntax → Header → List ℕ → Ty → MethodForm → Method
method_row unit c k h name result form = record {
  name = name;
  site = h.name.token;
  class = c;
  params = parameter_types unit h;
  result = result;
  form = form;
  is_private = has modifier.Private h.modifiers;
  is_abstract = is_abstract_in k h;
  is_final = has modifier.Final h.modifiers;
}

abbrev pub form_of : Header → MethodForm
form_of h = if has modifier.Static h.modifiers then kind.Static else kind.Instance

-- the method or the constructor that a member of class c is
abbrev pub method_in : CompilationUnit → ℕ → ClassSyntax → Member → Option Method
method_in unit c k (syntax.Method h result body) = Some (method_row unit c k h h.name.name (result_type unit result) (form_of h))
method_in unit c k (syntax.Constructor h own_call brace parts end) = Some (method_row unit c k h (codes "new") Void kind.Constructor)
method_in unit c k _ = None

-- the methods and constructors among some members of class c
abbrev pub methods_in : CompilationUnit → ℕ → ClassSyntax → List Member → List Method
methods_in unit c k members = filter_map (method_in unit c k) members

-- a method that no text declares, at the name of its class
abbrev pub implied : ℕ → ClassSyntax → List ℕ → MethodForm → Method
implied c k name form = record { name = name; site = k.name.token; class = c; params = []; result = Void; form = form; is_private = false; is_abstract = false; is_final = false }

abbrev pub is_given_first : Declarator → Bool
is_given_first d = is_some d.initial

-- an instance initializer, or an instance field with an initializer
abbrev pub initializes_objects : Member → Bool
initializes_objects (Initializer is_static block) = not is_static
initializes_objects (Fields ms ty declarators) = not (has modifier.Static ms) && list_any is_given_first declarators
initializes_objects _ = false

-- the unit of the instance initializers of a class that has some
abbrev pub fields_unit : ℕ → ClassSyntax → List Method
fields_unit c k = if list_any initializes_objects k.members then implied c k (codes "<fields>") kind.Fields ∷ [] else []

abbrev pub is_constructor : Member → Bool
is_constructor (syntax.Constructor h own_call brace parts end) = true
is_constructor _ = false

-- the constructor of a class that declares none (JLS 8.8.9)
abbrev pub implied_constructor : ℕ → ClassSyntax → List Method
implied_constructor c k = if k.is_interface || list_any is_constructor k.members then [] else implied c k (codes "new") kind.Constructor ∷ []

abbrev pub methods_of : CompilationUnit → ℕ → ClassSyntax → List Method
methods_of unit c k = fields_unit c k ++ implied_constructor c k ++ methods_in unit c k k.members

-- ---- fields (JLS 8.3)

abbrev pub field_row : CompilationUnit → ℕ → List Placed → WrittenType → Declarator → Field
field_row unit c ms ty d = record {
  name = d.name.name;
  site = d.name.token;
  class = c;
  ty = type_with unit ty d.brackets;
  is_static = has modifier.Static ms;
  is_final = has modifier.Final ms;
  is_fixed = has modifier.Final ms && is_some d.initial;
  is_private = has modifier.Private ms;
}

abbrev pub field_rows : CompilationUnit → ℕ → List Placed → WrittenType → List Declarator → List Field
field_rows unit c ms ty declarators = map (field_row unit c ms ty) declarators

abbrev pub fields_in : CompilationUnit → ℕ → Member → List Field
fields_in unit c (Fields ms ty declarators) = field_rows unit c ms ty declarators
fields_in unit c _ = []

abbrev pub fields_among : CompilationUnit → ℕ → List Member → List Field
fields_among unit c members = flat_map (fields_in unit c) members

abbrev pub fields_of : CompilationUnit → ℕ → ClassSyntax → List Field
fields_of unit c k = fields_among unit c k.members

-- ---- the table

-- what f makes of each class of the text and its number, in a row, the first of number c
abbrev pub class_by_class_from : {X : Type 0} → (ℕ → ClassSyntax → List X) → ℕ → CompilationUnit → List X
class_by_class_from f c unit = flat_map (λ p. f p.0 p.1) (enumerate_from c (classes_of unit))

abbrev pub class_by_class : {X : Type 0} → (ℕ → ClassSyntax → List X) → CompilationUnit → List X
class_by_class f unit = class_by_class_from f first_source_class unit

abbrev pub all_fields : CompilationUnit → List Field
all_fields unit = builtin.fields ++ class_by_class (fields_of unit) unit

abbrev pub no_constants : List Field → List (Option ConstantValue)
no_constants fields = map (λ f. None) fields

-- which fields are constant variables is not said here
unfoldable pub table : CompilationUnit → Table
table unit = record {
  classes = builtin.classes ++ class_rows unit unit;
  methods = builtin.methods ++ class_by_class (methods_of unit) unit;
  fields = all_fields unit;
  constants = no_constants (all_fields unit);
}
