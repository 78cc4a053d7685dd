-- A program by its numbered parts, and what is asked of its classes: subtypes (JLS 4.10) and the method that a class runs (JLS 15.12.4.4).
use Rattle.std.specs.Prelude.{ℕ, zero, suc, ◌+◌, ◌*◌, ◌/◌, ◌%◌, ◌-◌, ◌^◌, Bool, true, false, not, ◌&&◌, ◌||◌, ◌==◌, nat_lt, if◌then◌else◌, List, [], ◌∷◌, length, slice_index_or, Option, Some, None, codes, ◌++◌}
use Rattle.wy_kernel.specs.declared.operator.Primitive.{Primitive}
use Rattle.wy_kernel.specs.declared.operator.Primitive.TheVariants as prim
use Rattle.wy_kernel.specs.declared.types.Base.{Base}
use Rattle.wy_kernel.specs.declared.types.Base.TheVariants.{Primitive as Basic, Class as Named}
use Rattle.wy_kernel.specs.declared.types.Ty.{Ty}
use Rattle.wy_kernel.specs.declared.types.Ty.TheVariants.{Void, Null, Of}
use Rattle.wy_kernel.specs.declared.types.MethodForm.{MethodForm}
use Rattle.wy_kernel.specs.declared.types.MethodForm.TheVariants as kind
use Rattle.wy_kernel.specs.Form.{Statement}

pub record Class : Type 0 where
  pub name : List ℕ
  pub site : ℕ
  pub is_interface : Bool
  pub is_abstract : Bool
  pub is_final : Bool
  pub above : Option ℕ
  pub interfaces : List ℕ

pub record Method : Type 0 where
  pub name : List ℕ
  pub site : ℕ
  pub class : ℕ
  pub params : List Ty
  pub result : Ty
  pub form : MethodForm
  pub is_private : Bool
  pub is_abstract : Bool
  pub is_final : Bool

pub record Field : Type 0 where
  pub name : List ℕ
  pub site : ℕ
  pub class : ℕ
  pub ty : Ty
  pub is_static : Bool
  pub is_final : Bool
  -- final, and with an initializer
  pub is_fixed : Bool
  pub is_private : Bool

pub record Local : Type 0 where
  pub name : List ℕ
  pub site : ℕ
  pub ty : Ty

pub record Body : Type 0 where
  pub block : Statement
  pub locals : List Local
  pub end : ℕ

-- what the meaning of a run reads of a program: statements is their number, main the number of the method
pub record Program : Type 0 where
  pub classes : List Class
  pub methods : List Method
  pub fields : List Field
  pub bodies : List (Option Body)
  pub init_bodies : List (Option Body)
  pub fixed_texts : List (List ℕ)
  pub statements : ℕ
  pub main : ℕ

-- ---- numbered parts, with a default where a number is out of range

unfoldable pub class : Program → ℕ → Class
class p n = slice_index_or p.classes n (record { name = []; site = 0; is_interface = false; is_abstract = false; is_final = false; above = None; interfaces = [] })

unfoldable pub method : Program → ℕ → Method
method p n = slice_index_or p.methods n (record { name = []; site = 0; class = 0; params = []; result = Void; form = kind.Static; is_private = false; is_abstract = false; is_final = false })

unfoldable pub field : Program → ℕ → Field
field p n = slice_index_or p.fields n (record { name = []; site = 0; class = 0; ty = Void; is_static = false; is_final = false; is_fixed = false; is_private = false })

-- none exactly where the method has no body
unfoldable pub body : Program → ℕ → Option Body
body p n = slice_index_or p.bodies n None

-- none exactly where the class has no initializer
unfoldable pub init_body : Program → ℕ → Option Body
init_body p n = slice_index_or p.init_bodies n None

unfoldable pub fixed_text : Program → ℕ → List ℕ
fixed_text p n = slice_index_or p.fixed_texts n []

-- the site of a local's name
unfoldable pub local_site : Body → ℕ → ℕ
local_site b n = (slice_index_or b.locals n (record { name = []; site = 0; ty = Void })).site

-- ---- the built-in classes, in their order

abbrev pub object_class : ℕ
object_class = 0

abbrev pub string_class : ℕ
string_class = 1

-- source classes begin here
abbrev pub first_source_class : ℕ
first_source_class = 18

-- so many methods has the library
abbrev pub library_methods : ℕ
library_methods = 36

-- so many statements have its bodies
abbrev pub library_statements : ℕ
library_statements = 74

unfoldable pub is_source : ℕ → Bool
is_source c = not (nat_lt c first_source_class)

-- a class's name, that of a built-in one with its package
unfoldable pub full_name : Program → ℕ → List ℕ
full_name p c = if is_source c then (class p c).name else codes "java.lang." ++ (class p c).name

-- ---- primitive types

-- the keyword of a primitive type (JLS 4.2)
unfoldable pub primitive_name : Primitive → List ℕ
primitive_name prim.Bool = codes "boolean"
primitive_name prim.Byte = codes "byte"
primitive_name prim.Short = codes "short"
primitive_name prim.Char = codes "char"
primitive_name prim.Int = codes "int"
primitive_name prim.Long = codes "long"

-- ---- types as numbers

unfoldable pub primitive_code : Primitive → ℕ
primitive_code prim.Bool = 0
primitive_code prim.Byte = 1
primitive_code prim.Short = 2
primitive_code prim.Char = 3
primitive_code prim.Int = 4
primitive_code prim.Long = 5

unfoldable pub base_code : Base → ℕ
base_code (Basic q) = primitive_code q
base_code (Named c) = 16 + c

-- 2 ^ 24 times the number of bracket pairs, and 0 to 5 for a primitive type or 16 and the number of the class
unfoldable pub type_code : Ty → ℕ
type_code Void = 0
type_code Null = 0
type_code (Of base brackets) = 2 ^ 24 * brackets + base_code base

unfoldable pub base_of : ℕ → Base
base_of n = if n == 0 then Basic prim.Bool
    else (if n == 1 then Basic prim.Byte
    else (if n == 2 then Basic prim.Short
    else (if n == 3 then Basic prim.Char
    else (if n == 4 then Basic prim.Int
    else (if n == 5 then Basic prim.Long
    else Named (n - 16))))))

-- the type that a code is of
unfoldable pub type_of_code : ℕ → Ty
type_of_code n = Of (base_of (n % 2 ^ 24)) (n / 2 ^ 24)

-- the type of an array's elements
unfoldable pub element_type : Ty → Ty
element_type Void = Void
element_type Null = Null
element_type (Of base brackets) = Of base (brackets - 1)

-- the class of an object, and Object for an array
unfoldable pub class_of_type : Ty → ℕ
class_of_type (Of (Named c) zero) = c
class_of_type _ = object_class

unfoldable pub is_array : Ty → Bool
is_array (Of base brackets) = not (brackets == 0)
is_array _ = false

-- ---- subtypes (JLS 4.10)

unfoldable pub is_one_of : (ℕ → Bool) → List ℕ → Bool
is_one_of f [] = false
is_one_of f (n ∷ ns) = f n || is_one_of f ns

unfoldable pub is_above : (ℕ → Bool) → Option ℕ → Bool
is_above f None = false
is_above f (Some n) = f n

-- a class is below itself, Object, and what its superclass and its interfaces are below; no chain is longer than there are classes
unfoldable pub class_below : Program → ℕ → ℕ → ℕ → Bool
class_below p zero c d = false
class_below p (suc longest) c d = c == d || d == object_class || is_above (λ e. class_below p longest e d) (class p c).above || is_one_of (λ e. class_below p longest e d) (class p c).interfaces

unfoldable pub is_subclass : Program → ℕ → ℕ → Bool
is_subclass p c d = class_below p (suc (length p.classes)) c d

unfoldable pub same_primitive : Primitive → Primitive → Bool
same_primitive a b = primitive_code a == primitive_code b

unfoldable pub base_below : Program → Base → Base → Bool
base_below p (Named c) (Named d) = is_subclass p c d
base_below p (Basic a) (Basic b) = same_primitive a b
base_below p _ _ = false

unfoldable pub is_object : Base → Bool
is_object (Named c) = c == object_class
is_object (Basic a) = false

-- arrays are below Object; `S[]` is below `T[]` where S is T, or both are references and S is below T
unfoldable pub brackets_below : Program → Base → ℕ → Base → ℕ → Bool
brackets_below p a zero b zero = base_below p a b
brackets_below p a (suc m) b zero = is_object b
brackets_below p a zero b (suc n) = false
brackets_below p a (suc m) b (suc n) = brackets_below p a m b n

-- a run-time type is below a type
unfoldable pub is_below : Program → Ty → Ty → Bool
is_below p (Of a m) (Of b n) = brackets_below p a m b n
is_below p _ _ = false

-- ---- the method that a class runs (JLS 8.4.2, 15.12.4.4)

unfoldable pub same_units : List ℕ → List ℕ → Bool
same_units [] [] = true
same_units (x ∷ xs) (y ∷ ys) = x == y && same_units xs ys
same_units _ _ = false

unfoldable pub same_types : List Ty → List Ty → Bool
same_types [] [] = true
same_types (x ∷ xs) (y ∷ ys) = type_code x == type_code y && same_types xs ys
same_types _ _ = false

unfoldable pub is_instance : MethodForm → Bool
is_instance kind.Instance = true
is_instance _ = false

-- an instance method of class c that is not private, with the name and the parameter types of m
unfoldable pub runs_as : ℕ → Method → Method → Bool
runs_as c m other = other.class == c && is_instance other.form && not other.is_private && same_units m.name other.name && same_types m.params other.params

-- the first such method of a list whose first has this number
unfoldable pub declared_in : ℕ → Method → ℕ → List Method → Option ℕ
declared_in c m n [] = None
declared_in c m n (other ∷ rest) = if runs_as c m other then Some n else declared_in c m (suc n) rest

unfoldable pub or_above : (ℕ → ℕ) → ℕ → Option ℕ → Option ℕ → ℕ
or_above find m (Some n) above = n
or_above find m None (Some c) = find c
or_above find m None None = m

unfoldable pub find_method : Program → ℕ → ℕ → ℕ → ℕ
find_method p zero m c = m
find_method p (suc longest) m c = or_above (λ d. find_method p longest m d) m (declared_in c (method p m) 0 p.methods) (class p c).above

-- what a call of method m runs on an object of class c: the method of the nearest class from c upward that declares it
unfoldable pub dispatch : Program → ℕ → ℕ → ℕ
dispatch p m c = find_method p (suc (length p.classes)) m c
