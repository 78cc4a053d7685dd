-- Subtyping (JLS 4.10): the least relation that is closed under its rules.
use Rattle.std.specs.Prelude.{◌≡◌, ℕ, zero, suc, List, [], ◌++◌, Option, Some, None, slice_get, ◌⊎◌}
use Rattle.std.specs.Option.{option_to_list}
use Rattle.std.specs.List.{Contains}
use Rattle.wy_kernel.specs.declared.operator.Primitive.{Primitive}
use Rattle.wy_kernel.specs.declared.operator.Primitive.TheVariants as prim
use Rattle.wy_kernel.specs.declared.types.Base.{Base}
use Rattle.wy_kernel.specs.declared.types.Base.TheVariants.{Primitive as Basic, Class as Named}
use Rattle.wy_kernel.specs.declared.types.Ty.{Ty}
use Rattle.wy_kernel.specs.declared.types.Ty.TheVariants.{Void, Null, Of}
use Rattle.wy_kernel.specs.Program.{Class, object_class}

abbrev pub primitive_type : Primitive → Ty
primitive_type p = Of (Basic p) 0

abbrev pub class_type : ℕ → Ty
class_type c = Of (Named c) 0

abbrev pub object_type : Ty
object_type = class_type object_class

-- a class, an interface or an array, and not the type of null
abbrev pub IsReference : Ty → Type 0
IsReference (Of (Named c) brackets) = Unit {0}
IsReference (Of (Basic p) (suc brackets)) = Unit {0}
IsReference (Of (Basic p) zero) = ⊥
IsReference Void = ⊥
IsReference Null = ⊥

abbrev pub named_above : Option Class → List ℕ
named_above None = []
named_above (Some k) = option_to_list k.above ++ k.interfaces

-- the classes and interfaces that a class or an interface extends and implements (JLS 8.1.4, 8.1.5, 9.1.3)
unfoldable pub direct_supertypes : List Class → ℕ → List ℕ
direct_supertypes classes c = named_above (slice_get classes c)

-- the supertypes of a class or an interface: itself, and those of its direct supertypes
pub data Supertype (classes : List Class) : ℕ → ℕ → Type 0 where
  itself : {c : ℕ} → Supertype classes c c
  further : {c d e : ℕ} → Contains (direct_supertypes classes c) d → Supertype classes d e → Supertype classes c e

-- no class or interface is above itself (JLS 8.1.4, 9.1.3)
abbrev pub IsAcyclic : List Class → Type 0
IsAcyclic classes = (c d : ℕ) → Contains (direct_supertypes classes c) d → Supertype classes d c → ⊥

-- type a is below type b
pub data Below (classes : List Class) : Ty → Ty → Type 0 where
  same : {a : Ty} → Below classes a a
  transitive : {a b c : Ty} → Below classes a b → Below classes b c → Below classes a c
  declared : {c d : ℕ} → Contains (direct_supertypes classes c) d → Below classes (class_type c) (class_type d)
  byte_short : Below classes (primitive_type prim.Byte) (primitive_type prim.Short)
  short_int : Below classes (primitive_type prim.Short) (primitive_type prim.Int)
  int_long : Below classes (primitive_type prim.Int) (primitive_type prim.Long)
  char_int : Below classes (primitive_type prim.Char) (primitive_type prim.Int)
  of_null : {b : Ty} → IsReference b → Below classes Null b
  to_object : {a : Ty} → IsReference a → Below classes a object_type
  of_arrays : {a b : Base} {m n : ℕ} → IsReference (Of a m) → IsReference (Of b n) → Below classes (Of a m) (Of b n) → Below classes (Of a (suc m)) (Of b (suc n))

-- a method with result a may stand for one with result b: they are the same, or a is a lower reference (JLS 8.4.5)
abbrev pub Substitutable : List Class → Ty → Ty → Type 0
Substitutable classes a b = (a ≡ b) ⊎ (IsReference a × Below classes a b)
