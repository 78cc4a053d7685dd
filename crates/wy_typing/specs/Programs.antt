-- A program whose numbers are those of its parts, whose forms fit their types, and in which every method that may run has a body.
use Rattle.std.specs.Prelude.{◌≡◌, ℕ, false, List, [], ◌∷◌, ◌++◌, map, length, Option, Some, None, slice_get}
use Rattle.std.specs.List.{All}
use Rattle.wy_kernel.specs.declared.types.Base.TheVariants.{Class as Named}
use Rattle.wy_kernel.specs.declared.types.Ty.{Ty}
use Rattle.wy_kernel.specs.declared.types.Ty.TheVariants.{Void, Of}
use Rattle.wy_kernel.specs.declared.types.MethodForm.{MethodForm}
use Rattle.wy_kernel.specs.declared.types.MethodForm.TheVariants as kind
use Rattle.wy_kernel.specs.Program.{Program, Body, Local, Field, Method, string_class, dispatch}
use Rattle.wy_kernel.specs.Subtyping.{Below, IsAcyclic, Substitutable, class_type}
use Rattle.wy_kernel.specs.Table.{BeginsWith, NamesAmong, IsTypeOf, IsMethodOf, IsFieldOf}
use Rattle.wy_kernel.specs.Builtin as builtin
use Rattle.wy_typing.specs.Types.{IsVariableType}
use Rattle.wy_typing.specs.Expressions.{IsMethod, HasBody, IsMade}
use Rattle.wy_typing.specs.Statements.{Within, IsTyped}

-- ---- declarations

-- a type of variables, whose class is one of the program
pub record IsTypeIn (p : Program) (ty : Ty) : Type 0 where
  pub variable : IsVariableType ty
  pub known : IsTypeOf (length p.classes) ty

-- the declarations name classes of the program, and begin with those of the library
pub record IsDeclared (p : Program) : Type 0 where
  pub library_classes : BeginsWith p.classes builtin.classes
  pub library_methods : BeginsWith p.methods builtin.methods
  pub library_fields : BeginsWith p.fields builtin.fields
  pub supertypes : NamesAmong p.classes
  pub acyclic : IsAcyclic p.classes
  pub methods : All (IsMethodOf (length p.classes)) p.methods
  pub fields : All (IsFieldOf (length p.classes)) p.fields
  pub params : All (λ (m : Method). All IsVariableType m.params) p.methods
  pub variables : All (λ (f : Field). IsVariableType f.ty) p.fields

-- ---- bodies

abbrev pub types : Body → List Ty
types b = map (λ (l : Local). l.ty) b.locals

-- `this` is local 0 of a method that isn't static
abbrev pub this_types : MethodForm → ℕ → List Ty
this_types kind.Static c = []
this_types _ c = class_type c ∷ []

-- the instance initializers have no `return`
abbrev pub result_of : MethodForm → Ty → Option Ty
result_of kind.Fields ty = None
result_of _ ty = Some ty

abbrev pub within : Program → Body → Option Ty → Within
within p b result = record { program = p; locals = types b; result = result }

-- a body that gives back such a result: its first locals are of these types
pub record IsBody (p : Program) (first : List Ty) (result : Option Ty) (b : Body) : Type 0 where
  pub locals : All (IsTypeIn p) (types b)
  pub begins : BeginsWith (types b) first
  pub block : IsTyped (within p b result) b.block

-- the body of a method takes its receiver and its arguments
abbrev pub IsBodyOf : Program → Method → Body → Type 0
IsBodyOf p m b = IsBody p (this_types m.form m.class ++ m.params) (result_of m.form m.result) b

-- ---- what may run

-- on an object of class c a call of method k runs method n, which has a body, takes what k takes, and gives what may stand for what k gives
-- (JLS 15.12.4.4)
pub record RunsFor (p : Program) (c : ℕ) (m : Method) (n : ℕ) : Type 0 where
  pub body : HasBody p n
  pub run : Method
  pub found : IsMethod p n run
  pub instance : run.form ≡ kind.Instance
  pub receiver : Below p.classes (class_type c) (class_type run.class)
  pub params : run.params ≡ m.params
  pub result : Substitutable p.classes run.result m.result

-- each method that may be chosen by class is run by each class that objects are made of
abbrev pub RunsMethods : Program → Type 0
RunsMethods p =
    (c k : ℕ) (m : Method) → IsMade p c → IsMethod p k m → m.form ≡ kind.Instance → m.is_private ≡ false → Below p.classes (class_type c) (class_type m.class)
    → RunsFor p c m (dispatch p k c)

-- `public static void main(String[])` (JLS 12.1.4)
pub record HasMain (p : Program) : Type 0 where
  pub method : Method
  pub found : IsMethod p p.main method
  pub static : method.form ≡ kind.Static
  pub params : method.params ≡ Of (Named string_class) 1 ∷ []
  pub result : method.result ≡ Void
  pub body : HasBody p p.main

pub record IsProgram (p : Program) : Type 0 where
  pub declarations : IsDeclared p
  pub a_place_a_method : length p.bodies ≡ length p.methods
  pub a_place_a_class : length p.init_bodies ≡ length p.classes
  pub bodies : (k : ℕ) (m : Method) (b : Body) → IsMethod p k m → slice_get p.bodies k ≡ Some (Some b) → IsBodyOf p m b
  pub initializers : (c : ℕ) (b : Body) → slice_get p.init_bodies c ≡ Some (Some b) → IsBody p [] None b
  pub runs : RunsMethods p
  pub main : HasMain p
