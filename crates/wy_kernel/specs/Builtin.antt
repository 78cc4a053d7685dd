-- The classes of java.lang that a program may use, with their methods and their one field, in the order of their numbers.
use Rattle.std.specs.Prelude.{ℕ, zero, suc, ◌+◌, ◌*◌, ◌-◌, ◌^◌, false, true, List, [], ◌∷◌, ◌++◌, Option, Some, None, codes}
use Rattle.wy_kernel.specs.declared.operator.Primitive.TheVariants as prim
use Rattle.wy_kernel.specs.declared.types.Ty.{Ty}
use Rattle.wy_kernel.specs.declared.types.Ty.TheVariants.{Void}
use Rattle.wy_kernel.specs.declared.types.MethodForm.{MethodForm}
use Rattle.wy_kernel.specs.declared.types.MethodForm.TheVariants as kind
use Rattle.wy_kernel.specs.Program.{Class, Method, Field, object_class, string_class}
use Rattle.wy_kernel.specs.Subtyping.{class_type, object_type, primitive_type}

-- no token stands for a class or a field of the library
abbrev pub no_site : ℕ
no_site = 4294967295

abbrev pub throwable_class : ℕ
throwable_class = 2

abbrev pub extending : Option ℕ → List ℕ → Class
extending above name = record { name = name; site = no_site; is_interface = false; is_abstract = false; is_final = false; above = above; interfaces = [] }

abbrev pub string : Class
string = record { name = codes "String"; site = no_site; is_interface = false; is_abstract = false; is_final = true; above = Some object_class; interfaces = [] }

unfoldable pub classes : List Class
classes =
    extending None (codes "Object")
    ∷ string
    ∷ extending (Some 0) (codes "Throwable")
    ∷ extending (Some 2) (codes "Exception")
    ∷ extending (Some 2) (codes "Error")
    ∷ extending (Some 3) (codes "RuntimeException")
    ∷ extending (Some 5) (codes "ArithmeticException")
    ∷ extending (Some 5) (codes "ArrayStoreException")
    ∷ extending (Some 5) (codes "ClassCastException")
    ∷ extending (Some 5) (codes "IllegalArgumentException")
    ∷ extending (Some 9) (codes "NumberFormatException")
    ∷ extending (Some 5) (codes "IllegalStateException")
    ∷ extending (Some 5) (codes "IndexOutOfBoundsException")
    ∷ extending (Some 12) (codes "ArrayIndexOutOfBoundsException")
    ∷ extending (Some 12) (codes "StringIndexOutOfBoundsException")
    ∷ extending (Some 5) (codes "NegativeArraySizeException")
    ∷ extending (Some 5) (codes "NullPointerException")
    ∷ extending (Some 5) (codes "UnsupportedOperationException")
    ∷ []

-- all sites in method m of the library are this number
abbrev pub method_site : ℕ → ℕ
method_site m = 2 ^ 31 + m

-- a method by its number, class, name, parameter types, result and form; all are public, have a body and may be overridden
abbrev pub numbered : ℕ → ℕ → List ℕ → List Ty → Ty → MethodForm → Method
numbered m c name params result form = record {
  name = name;
  site = method_site m;
  class = c;
  params = params;
  result = result;
  form = form;
  is_private = false;
  is_abstract = false;
  is_final = false;
}

abbrev pub instance : ℕ → ℕ → List ℕ → List Ty → Ty → Method
instance m c name params result = numbered m c name params result kind.Instance

abbrev pub constructor : ℕ → ℕ → List Ty → Method
constructor m c params = numbered m c (codes "new") params Void kind.Constructor

abbrev pub text : Ty
text = class_type string_class

-- those of Object and of Throwable
unfoldable pub first_methods : List Method
first_methods =
    instance 0 object_class (codes "toString") [] text
    ∷ instance 1 object_class (codes "equals") (object_type ∷ []) (primitive_type prim.Bool)
    ∷ constructor 2 throwable_class []
    ∷ constructor 3 throwable_class (text ∷ [])
    ∷ instance 4 throwable_class (codes "getMessage") [] text
    ∷ instance 5 throwable_class (codes "toString") [] text
    ∷ []

-- the number of the first constructor of a class below Throwable
abbrev pub first_constructor : ℕ → ℕ
first_constructor c = 6 + 2 * (c - 3)

-- such a class has the constructors without a message and with one
abbrev pub constructors : ℕ → List Method
constructors c = constructor (first_constructor c) c [] ∷ constructor (first_constructor c + 1) c (text ∷ []) ∷ []

-- the constructors of so many classes below Throwable
abbrev pub all_constructors : ℕ → List Method
all_constructors zero = []
all_constructors (suc many) = all_constructors many ++ constructors (3 + many)

unfoldable pub methods : List Method
methods = first_methods ++ all_constructors 15

unfoldable pub fields : List Field
fields =
    record { name = codes "message"; site = no_site; class = throwable_class; ty = text; is_static = false; is_final = false; is_fixed = false; is_private = true }
    ∷ []
