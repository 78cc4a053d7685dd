-- The table of a program, whole.
use Rattle.std.proofs.Common.{◌≡◌, refl}
use Rattle.std.specs.Prelude.{true, false, [], ◌∷◌, ◌++◌, Some, codes}
use Rattle.std.specs.Prelude.{None as Absent}
use Rattle.wy_kernel.specs.declared.operator.Primitive.TheVariants as prim
use Rattle.wy_kernel.specs.declared.types.Base.TheVariants.{Primitive as Basic, Class as Named}
use Rattle.wy_kernel.specs.declared.types.Ty.TheVariants.{Void, Of}
use Rattle.wy_kernel.specs.declared.types.MethodForm.TheVariants as kind
use Rattle.wy_kernel.specs.Builtin as builtin
use Rattle.wy_syntax.specs.declared.declaration.Modifier.TheVariants as modifier
use Rattle.wy_syntax.specs.Syntax.{Value, Name, Fields, Method}
use Rattle.wy_syntax.specs.Syntax as syntax
use Rattle.wy_members.specs.Declarations.{CompilationUnit, table, denoted}
use Rattle.wy_members.proofs.Written.{at, class_type, primitive_arrays, int_type, the, parameter, declarator, header, empty, constructor, class, interface}

-- interface Shape { int area(); }
-- abstract class Base implements Shape {
--   private int side, twice = side;
--   static final long[] rows[];
--   abstract Shape next(Base b, int[] n[]) throws Exception;
-- }
-- final class Tile extends Base {
--   Tile(String name) { }
--   public int area() { }
--   Shape next(Base b, int[][] n) { }
-- };
abbrev shapes : CompilationUnit
shapes =
    interface (codes "Shape") 1 [] (Method (header [] (codes "area") 4 []) (Some (int_type 3)) Absent ∷ []) 8
    ∷ class (the modifier.Abstract 9 ∷ []) (codes "Base") 11 Absent (at (codes "Shape") 13 ∷ []) (
    Fields (the modifier.Private 15 ∷ []) (int_type 16) (
    declarator (codes "side") 17
    ∷ record { name = at (codes "twice") 19; brackets = 0; initial = Some (Value (Name (codes "side") 21)) }
    ∷ [])
    ∷ Fields (the modifier.Static 23 ∷ the modifier.Final 24 ∷ []) (primitive_arrays prim.Long 1 25) (record { name = at (codes "rows") 28; brackets = 1; initial = Absent } ∷ [])
    ∷ Method (record {
      modifiers = the modifier.Abstract 32 ∷ [];
      name = at (codes "next") 34;
      params = parameter (class_type (codes "Base") 36) (codes "b") 37 ∷ record { is_final = false; ty = primitive_arrays prim.Int 1 39; name = at (codes "n") 42; brackets = 1 } ∷ [];
      throws = at (codes "Exception") 47 ∷ [];
    }) (Some (class_type (codes "Shape") 33)) Absent
    ∷ []) 49
    ∷ class (the modifier.Final 50 ∷ []) (codes "Tile") 52 (Some (at (codes "Base") 54)) [] (
    constructor [] (codes "Tile") 56 (parameter (class_type (codes "String") 58) (codes "name") 59 ∷ []) 61
    ∷ Method (header (the modifier.Public 63 ∷ []) (codes "area") 65 []) (Some (int_type 64)) (empty 68)
    ∷ Method (header [] (codes "next") 71 (parameter (class_type (codes "Base") 73) (codes "b") 74 ∷ parameter (primitive_arrays prim.Int 2 76) (codes "n") 81 ∷ [])) (Some (class_type (codes "Shape") 70)) (empty 83)
    ∷ []) 85
    ∷ syntax.Declaration.Nothing
    ∷ []

shapes_table : table shapes ≡ record {
  classes = builtin.classes ++ (
      record { name = codes "Shape"; site = 1; is_interface = true; is_abstract = true; is_final = false; above = Absent; interfaces = [] }
      ∷ record { name = codes "Base"; site = 11; is_interface = false; is_abstract = true; is_final = false; above = Some 0; interfaces = 18 ∷ [] }
      ∷ record { name = codes "Tile"; site = 52; is_interface = false; is_abstract = false; is_final = true; above = Some 19; interfaces = [] }
      ∷ []);
  methods = builtin.methods ++ (
      record { name = codes "area"; site = 4; class = 18; params = []; result = Of (Basic prim.Int) 0; form = kind.Instance; is_private = false; is_abstract = true; is_final = false }
      ∷ record { name = codes "<fields>"; site = 11; class = 19; params = []; result = Void; form = kind.Fields; is_private = false; is_abstract = false; is_final = false }
      ∷ record { name = codes "new"; site = 11; class = 19; params = []; result = Void; form = kind.Constructor; is_private = false; is_abstract = false; is_final = false }
      ∷ record { name = codes "next"; site = 34; class = 19; params = Of (Named 19) 0 ∷ Of (Basic prim.Int) 2 ∷ []; result = Of (Named 18) 0; form = kind.Instance; is_private = false; is_abstract = true; is_final = false }
      ∷ record { name = codes "new"; site = 56; class = 20; params = Of (Named 1) 0 ∷ []; result = Void; form = kind.Constructor; is_private = false; is_abstract = false; is_final = false }
      ∷ record { name = codes "area"; site = 65; class = 20; params = []; result = Of (Basic prim.Int) 0; form = kind.Instance; is_private = false; is_abstract = false; is_final = false }
      ∷ record { name = codes "next"; site = 71; class = 20; params = Of (Named 19) 0 ∷ Of (Basic prim.Int) 2 ∷ []; result = Of (Named 18) 0; form = kind.Instance; is_private = false; is_abstract = false; is_final = false }
      ∷ []);
  fields = builtin.fields ++ (
      record { name = codes "side"; site = 17; class = 19; ty = Of (Basic prim.Int) 0; is_static = false; is_final = false; is_fixed = false; is_private = true }
      ∷ record { name = codes "twice"; site = 19; class = 19; ty = Of (Basic prim.Int) 0; is_static = false; is_final = false; is_fixed = false; is_private = true }
      ∷ record { name = codes "rows"; site = 28; class = 19; ty = Of (Basic prim.Long) 2; is_static = true; is_final = true; is_fixed = false; is_private = false }
      ∷ []);
  constants = Absent ∷ Absent ∷ Absent ∷ Absent ∷ [];
}
unfolding table denoted builtin.classes builtin.methods builtin.first_methods builtin.fields
shapes_table = refl
