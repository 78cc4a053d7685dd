-- Runs with objects, arrays, classes and texts.
use Rattle.std.proofs.Common.{◌≡◌, refl}
use Rattle.std.specs.Prelude.{pos, true, false, [], ◌∷◌, Some, codes}
use Rattle.std.specs.Prelude.{None as Absent}
use Rattle.wy_kernel.specs.declared.operator.Primitive.TheVariants as prim
use Rattle.wy_kernel.specs.declared.operator.BinOp.TheVariants as op
use Rattle.wy_kernel.specs.declared.types.Base.TheVariants.{Primitive as Basic, Class as Named}
use Rattle.wy_kernel.specs.declared.types.Ty.TheVariants.{Void, Of}
use Rattle.wy_kernel.specs.declared.types.MethodForm.TheVariants as kinds
use Rattle.wy_kernel.specs.declared.form.CallForm.TheVariants as calling
use Rattle.wy_kernel.specs.Form.{Null, Byte, Int, Long, Const, Str, Read, Set, Upd, Bin, Conv, New, NewArray, Call, Local, Static, Field, Elem, absent, the, none, more, Stmt, Block, Eval, Return, Print, done, first}
use Rattle.wy_kernel.specs.Program.{Program}
use Rattle.wy_value.specs.declared.value.Value.TheVariants as val
use Rattle.wy_event.specs.declared.record.Kind.TheVariants as kind
use Rattle.wy_event.specs.declared.record.Slot.TheVariants as slot
use Rattle.wy_event.specs.declared.record.Use.TheVariants as used
use Rattle.wy_steps.specs.Steps.{never_left}
use Rattle.wy_meaning.proofs.Computed.{told, event, cover, class_named, method_named, field_named, body_with}
use Rattle.wy_meaning.proofs.Builtin.{program}

-- class Main {
--   public static void main(String[] a) {
--     int[][][] x = new int[2][2][1];
--     x[1][1][0] = 7;
--     System.out.println(x[1][1][0]);
--   }
-- }
abbrev subarrays : Program
subarrays = program
    ((class_named (codes "Main") 1 (Some 0) ([])) ∷ [])
    ((method_named (codes "new") 1 18 ([]) Void kinds.Constructor) ∷ (method_named (codes "main") 6 18 (Of (Named 1) 1 ∷ []) Void kinds.Static) ∷ [])
    ([])
    ((Some (body_with (Stmt 75 1 false 4294967295 (Block done)) (1 ∷ []) 1)) ∷ (Some (body_with (Stmt 76 13 false 4294967295 (Block (first (Stmt 77 21 true 4294967295 (Eval (Set (Local 1) (NewArray (Of (Basic prim.Int) 3) (more (Const (Int (pos 2))) (more (Const (Int (pos 2))) (more (Const (Int (pos 1))) none))) none ([]) 23) 21))) (first (Stmt 78 35 true 4294967295 (Eval (Set (Elem (Read (Elem (Read (Elem (Read (Local 1)) (Const (Int (pos 1))) 42)) (Const (Int (pos 1))) 42)) (Const (Int (pos 0))) 42) (Const (Int (pos 7))) 45))) (first (Stmt 79 48 true 4294967295 (Print (the (Read (Elem (Read (Elem (Read (Elem (Read (Local 1)) (Const (Int (pos 1))) 55)) (Const (Int (pos 1))) 55)) (Const (Int (pos 0))) 55))) Void true 53)) done))))) (11 ∷ 21 ∷ []) 66)) ∷ [])
    ((Some (body_with (Stmt 74 1 false 4294967295 (Block done)) ([]) 1)) ∷ [])
    ([])
    80 37

subarrays_run : told subarrays [] 1000 ≡ record {
  events =
      (event kind.Init 1 Absent Absent (Some 18) slot.None val.None ([]) ([])) ∷
      (event kind.New 6 Absent Absent (Some 16777233) slot.None (val.Int (pos 0)) ([]) ([])) ∷
      (event kind.Call 6 Absent Absent (Some 37) slot.None val.None ([]) ([])) ∷
      (event kind.Bind 11 (Some 2) (Some 2) Absent (slot.Local 2 0) (val.Object 1) ([]) (used.Value 1 ∷ [])) ∷
      (event kind.New 23 (Some 2) (Some 2) (Some 50331652) slot.None (val.Int (pos 2)) ([]) ([])) ∷
      (event kind.New 23 (Some 2) (Some 2) (Some 33554436) slot.None (val.Int (pos 2)) ([]) ([])) ∷
      (event kind.Set 23 (Some 2) (Some 2) Absent (slot.Elem 4 0) (val.Object 5) ([]) (used.Value 5 ∷ [])) ∷
      (event kind.New 23 (Some 2) (Some 2) (Some 16777220) slot.None (val.Int (pos 1)) ([]) ([])) ∷
      (event kind.Set 23 (Some 2) (Some 2) Absent (slot.Elem 5 0) (val.Object 7) ([]) (used.Value 7 ∷ [])) ∷
      (event kind.New 23 (Some 2) (Some 2) (Some 16777220) slot.None (val.Int (pos 1)) ([]) ([])) ∷
      (event kind.Set 23 (Some 2) (Some 2) Absent (slot.Elem 5 1) (val.Object 9) ([]) (used.Value 9 ∷ [])) ∷
      (event kind.New 23 (Some 2) (Some 2) (Some 33554436) slot.None (val.Int (pos 2)) ([]) ([])) ∷
      (event kind.Set 23 (Some 2) (Some 2) Absent (slot.Elem 4 1) (val.Object 11) ([]) (used.Value 11 ∷ [])) ∷
      (event kind.New 23 (Some 2) (Some 2) (Some 16777220) slot.None (val.Int (pos 1)) ([]) ([])) ∷
      (event kind.Set 23 (Some 2) (Some 2) Absent (slot.Elem 11 0) (val.Object 13) ([]) (used.Value 13 ∷ [])) ∷
      (event kind.New 23 (Some 2) (Some 2) (Some 16777220) slot.None (val.Int (pos 1)) ([]) ([])) ∷
      (event kind.Set 23 (Some 2) (Some 2) Absent (slot.Elem 11 1) (val.Object 15) ([]) (used.Value 15 ∷ [])) ∷
      (event kind.Set 21 (Some 2) (Some 2) Absent (slot.Local 2 1) (val.Object 4) ([]) (used.Value 4 ∷ [])) ∷
      (event kind.Set 45 (Some 2) (Some 2) Absent (slot.Elem 15 0) (val.Int (pos 7)) ([]) (used.Place (slot.Local 2 1) 18 ∷ used.Place (slot.Elem 4 1) 18 ∷ used.Place (slot.Elem 11 1) 18 ∷ [])) ∷
      (event kind.Print 53 (Some 2) (Some 2) Absent slot.None (val.Int (pos 7)) ([]) (used.Place (slot.Local 2 1) 19 ∷ used.Place (slot.Elem 4 1) 19 ∷ used.Place (slot.Elem 11 1) 19 ∷ used.Place (slot.Elem 15 0) 19 ∷ [])) ∷
      (event kind.Return 66 (Some 2) (Some 2) Absent slot.None val.None ([]) ([])) ∷
      [];
  output = codes "7\n";
  stop = 0;
  last = Absent;
  steps = 25;
  uses = 15;
  coverage = (cover 1 1 (Some 1) never_left) ∷ (cover 0 0 Absent never_left) ∷ (cover 1 1 (Some 4) never_left) ∷ (cover 1 1 (Some 4) never_left) ∷ (cover 1 1 (Some 18) never_left) ∷ (cover 1 1 (Some 19) never_left) ∷ [];
}
unfolding told
subarrays_run = refl

-- class Main {
--   public static void main(String[] args) {
--     int a = 2;
--     int[][] x = { { a, 1 }, null };
--   }
-- }
abbrev initializer : Program
initializer = program
    ((class_named (codes "Main") 1 (Some 0) ([])) ∷ [])
    ((method_named (codes "new") 1 18 ([]) Void kinds.Constructor) ∷ (method_named (codes "main") 6 18 (Of (Named 1) 1 ∷ []) Void kinds.Static) ∷ [])
    ([])
    ((Some (body_with (Stmt 75 1 false 4294967295 (Block done)) (1 ∷ []) 1)) ∷ (Some (body_with (Stmt 76 13 false 4294967295 (Block (first (Stmt 77 15 true 4294967295 (Eval (Set (Local 1) (Const (Int (pos 2))) 15))) (first (Stmt 78 24 true 4294967295 (Eval (Set (Local 2) (NewArray (Of (Basic prim.Int) 2) none (more (NewArray (Of (Basic prim.Int) 1) none (more (Read (Local 1)) (more (Const (Int (pos 1))) none)) (27 ∷ 29 ∷ []) 27) (more (Const Null) none)) (26 ∷ 32 ∷ []) 26) 24))) done)))) (11 ∷ 15 ∷ 24 ∷ []) 36)) ∷ [])
    ((Some (body_with (Stmt 74 1 false 4294967295 (Block done)) ([]) 1)) ∷ [])
    ([])
    79 37

initializer_run : told initializer [] 1000 ≡ record {
  events =
      (event kind.Init 1 Absent Absent (Some 18) slot.None val.None ([]) ([])) ∷
      (event kind.New 6 Absent Absent (Some 16777233) slot.None (val.Int (pos 0)) ([]) ([])) ∷
      (event kind.Call 6 Absent Absent (Some 37) slot.None val.None ([]) ([])) ∷
      (event kind.Bind 11 (Some 2) (Some 2) Absent (slot.Local 2 0) (val.Object 1) ([]) (used.Value 1 ∷ [])) ∷
      (event kind.Set 15 (Some 2) (Some 2) Absent (slot.Local 2 1) (val.Int (pos 2)) ([]) ([])) ∷
      (event kind.New 26 (Some 2) (Some 2) (Some 33554436) slot.None (val.Int (pos 2)) ([]) ([])) ∷
      (event kind.New 27 (Some 2) (Some 2) (Some 16777220) slot.None (val.Int (pos 2)) ([]) ([])) ∷
      (event kind.Set 27 (Some 2) (Some 2) Absent (slot.Elem 6 0) (val.Int (pos 2)) ([]) (used.Value 6 ∷ used.Place (slot.Local 2 1) 7 ∷ [])) ∷
      (event kind.Set 29 (Some 2) (Some 2) Absent (slot.Elem 6 1) (val.Int (pos 1)) ([]) (used.Value 6 ∷ [])) ∷
      (event kind.Set 26 (Some 2) (Some 2) Absent (slot.Elem 5 0) (val.Object 6) ([]) (used.Value 5 ∷ used.Value 6 ∷ [])) ∷
      (event kind.Set 32 (Some 2) (Some 2) Absent (slot.Elem 5 1) val.Null ([]) (used.Value 5 ∷ [])) ∷
      (event kind.Set 24 (Some 2) (Some 2) Absent (slot.Local 2 2) (val.Object 5) ([]) (used.Value 5 ∷ [])) ∷
      (event kind.Return 36 (Some 2) (Some 2) Absent slot.None val.None ([]) ([])) ∷
      [];
  output = [];
  stop = 0;
  last = Absent;
  steps = 12;
  uses = 8;
  coverage = (cover 1 1 (Some 1) never_left) ∷ (cover 0 0 Absent never_left) ∷ (cover 1 1 (Some 4) never_left) ∷ (cover 1 1 (Some 4) never_left) ∷ (cover 1 1 (Some 5) never_left) ∷ [];
}
unfolding told
initializer_run = refl

-- class A { static int x = 1; static { System.out.println("A"); } }
-- class Main {
--   static int f() { System.out.println("f"); return 2; }
--   public static void main(String[] args) {
--     A.x = f();
--     System.out.println(A.x);
--   }
-- }
abbrev static_write : Program
static_write = program
    ((class_named (codes "A") 1 (Some 0) ([])) ∷ (class_named (codes "Main") 23 (Some 0) ([])) ∷ [])
    ((method_named (codes "new") 1 18 ([]) Void kinds.Constructor) ∷ (method_named (codes "new") 23 19 ([]) Void kinds.Constructor) ∷ (method_named (codes "f") 27 19 ([]) (Of (Basic prim.Int) 0) kinds.Static) ∷ (method_named (codes "main") 47 19 (Of (Named 1) 1 ∷ []) Void kinds.Static) ∷ [])
    ((field_named (codes "x") 5 18 (Of (Basic prim.Int) 0) true) ∷ [])
    ((Some (body_with (Stmt 75 1 false 4294967295 (Block done)) (1 ∷ []) 1)) ∷ (Some (body_with (Stmt 80 23 false 4294967295 (Block done)) (23 ∷ []) 23)) ∷ (Some (body_with (Stmt 81 30 false 4294967295 (Block (first (Stmt 82 31 true 4294967295 (Print (the (Str 2)) Void true 36)) (first (Stmt 83 40 true 4294967295 (Return (the (Const (Int (pos 2)))))) done)))) ([]) 43)) ∷ (Some (body_with (Stmt 84 54 false 4294967295 (Block (first (Stmt 85 55 true 4294967295 (Eval (Set (Static 1 57) (Call calling.Static 38 absent Void none 60) 58))) (first (Stmt 86 63 true 4294967295 (Print (the (Read (Static 1 71))) Void true 68)) done)))) (52 ∷ []) 74)) ∷ [])
    ((Some (body_with (Stmt 74 1 false 4294967295 (Block (first (Stmt 76 5 true 4294967295 (Eval (Set (Static 1 5) (Const (Int (pos 1))) 5))) (first (Stmt 77 10 false 4294967295 (Block (first (Stmt 78 11 true 4294967295 (Print (the (Str 1)) Void true 16)) done))) done)))) ([]) 1)) ∷ (Some (body_with (Stmt 79 23 false 4294967295 (Block done)) ([]) 23)) ∷ [])
    (codes "A" ∷ codes "f" ∷ [])
    87 39

static_write_run : told static_write [] 1000 ≡ record {
  events =
      (event kind.Init 23 Absent Absent (Some 19) slot.None val.None ([]) ([])) ∷
      (event kind.New 47 Absent Absent (Some 16777233) slot.None (val.Int (pos 0)) ([]) ([])) ∷
      (event kind.Call 47 Absent Absent (Some 39) slot.None val.None ([]) ([])) ∷
      (event kind.Bind 52 (Some 2) (Some 2) Absent (slot.Local 2 0) (val.Object 1) ([]) (used.Value 1 ∷ [])) ∷
      (event kind.Call 60 (Some 2) (Some 2) (Some 38) slot.None val.None ([]) ([])) ∷
      (event kind.Print 36 (Some 4) (Some 4) Absent slot.None (val.Fixed 2) ([]) ([])) ∷
      (event kind.Return 40 (Some 4) (Some 4) Absent slot.None (val.Int (pos 2)) ([]) ([])) ∷
      (event kind.Init 57 (Some 2) (Some 2) (Some 18) slot.None val.None ([]) ([])) ∷
      (event kind.Set 5 (Some 7) (Some 7) Absent (slot.Static 1) (val.Int (pos 1)) ([]) ([])) ∷
      (event kind.Print 16 (Some 7) (Some 7) Absent slot.None (val.Fixed 1) ([]) ([])) ∷
      (event kind.Set 58 (Some 2) (Some 2) Absent (slot.Static 1) (val.Int (pos 2)) ([]) (used.Value 6 ∷ [])) ∷
      (event kind.Print 68 (Some 2) (Some 2) Absent slot.None (val.Int (pos 2)) ([]) (used.Place (slot.Static 1) 11 ∷ [])) ∷
      (event kind.Return 74 (Some 2) (Some 2) Absent slot.None val.None ([]) ([])) ∷
      [];
  output = codes "f\nA\n2\n";
  stop = 0;
  last = Absent;
  steps = 19;
  uses = 3;
  coverage = (cover 1 1 (Some 8) never_left) ∷ (cover 0 0 Absent never_left) ∷ (cover 1 1 (Some 8) never_left) ∷ (cover 1 1 (Some 9) never_left) ∷ (cover 1 1 (Some 9) never_left) ∷ (cover 1 1 (Some 1) never_left) ∷ (cover 0 0 Absent never_left) ∷ (cover 1 0 (Some 5) 6) ∷ (cover 1 1 (Some 5) never_left) ∷ (cover 1 0 (Some 6) 6) ∷ (cover 1 1 (Some 4) never_left) ∷ (cover 1 1 (Some 4) never_left) ∷ (cover 1 1 (Some 11) never_left) ∷ [];
}
unfolding told
static_write_run = refl

-- class Main {
--   int x = 1;
--   { x = 2; }
--   Main() { super(); }
--   Main(int a) { this(); }
--   Main(long a) { ; }
--   public static void main(String[] args) { new Main(1); new Main(2L); }
-- }
abbrev constructors : Program
constructors = program
    ((class_named (codes "Main") 1 (Some 0) ([])) ∷ [])
    ((method_named (codes "<fields>") 1 18 ([]) Void kinds.Fields) ∷ (method_named (codes "new") 14 18 ([]) Void kinds.Constructor) ∷ (method_named (codes "new") 23 18 (Of (Basic prim.Int) 0 ∷ []) Void kinds.Constructor) ∷ (method_named (codes "new") 34 18 (Of (Basic prim.Long) 0 ∷ []) Void kinds.Constructor) ∷ (method_named (codes "main") 45 18 (Of (Named 1) 1 ∷ []) Void kinds.Static) ∷ [])
    ((field_named (codes "x") 4 18 (Of (Basic prim.Int) 0) false) ∷ [])
    ((Some (body_with (Stmt 75 1 false 4294967295 (Block (first (Stmt 76 4 true 4294967295 (Eval (Set (Field (Read (Local 0)) 1 4) (Const (Int (pos 1))) 4))) (first (Stmt 77 8 false 4294967295 (Block (first (Stmt 78 9 true 4294967295 (Eval (Set (Field (Read (Local 0)) 1 9) (Const (Int (pos 2))) 10))) done))) done)))) (1 ∷ []) 1)) ∷ (Some (body_with (Stmt 80 17 false 4294967295 (Block (first (Stmt 79 14 false 4294967295 (Eval (Call calling.Direct 36 (the (Read (Local 0))) (Of (Named 18) 0) none 14))) done))) (14 ∷ []) 22)) ∷ (Some (body_with (Stmt 81 28 false 4294967295 (Block (first (Stmt 82 29 true 4294967295 (Eval (Call calling.Direct 37 (the (Read (Local 0))) (Of (Named 18) 0) none 30))) done))) (23 ∷ 26 ∷ []) 33)) ∷ (Some (body_with (Stmt 84 39 false 4294967295 (Block (first (Stmt 83 34 false 4294967295 (Eval (Call calling.Direct 36 (the (Read (Local 0))) (Of (Named 18) 0) none 34))) (first (Stmt 85 40 true 4294967295 (Block done)) done)))) (34 ∷ 37 ∷ []) 41)) ∷ (Some (body_with (Stmt 86 52 false 4294967295 (Block (first (Stmt 87 53 true 4294967295 (Eval (New 18 (Some 38) (more (Const (Int (pos 1))) none) 53))) (first (Stmt 88 59 true 4294967295 (Eval (New 18 (Some 39) (more (Const (Long (pos 2))) none) 59))) done)))) (50 ∷ []) 65)) ∷ [])
    ((Some (body_with (Stmt 74 1 false 4294967295 (Block done)) ([]) 1)) ∷ [])
    ([])
    89 40

constructors_run : told constructors [] 1000 ≡ record {
  events =
      (event kind.Init 1 Absent Absent (Some 18) slot.None val.None ([]) ([])) ∷
      (event kind.New 45 Absent Absent (Some 16777233) slot.None (val.Int (pos 0)) ([]) ([])) ∷
      (event kind.Call 45 Absent Absent (Some 40) slot.None val.None ([]) ([])) ∷
      (event kind.Bind 50 (Some 2) (Some 2) Absent (slot.Local 2 0) (val.Object 1) ([]) (used.Value 1 ∷ [])) ∷
      (event kind.New 53 (Some 2) (Some 2) (Some 34) slot.None val.None ([]) ([])) ∷
      (event kind.Call 53 (Some 2) (Some 2) (Some 38) slot.None val.None ([]) ([])) ∷
      (event kind.Bind 23 (Some 5) (Some 5) Absent (slot.Local 5 0) (val.Object 4) ([]) (used.Value 4 ∷ [])) ∷
      (event kind.Bind 26 (Some 5) (Some 5) Absent (slot.Local 5 1) (val.Int (pos 1)) ([]) ([])) ∷
      (event kind.Call 30 (Some 5) (Some 5) (Some 37) slot.None val.None ([]) ([])) ∷
      (event kind.Bind 14 (Some 8) (Some 8) Absent (slot.Local 8 0) (val.Object 4) ([]) (used.Place (slot.Local 5 0) 8 ∷ [])) ∷
      (event kind.Call 14 (Some 8) (Some 8) (Some 36) slot.None val.None ([]) (used.Place (slot.Local 8 0) 10 ∷ [])) ∷
      (event kind.Bind 1 (Some 10) (Some 10) Absent (slot.Local 10 0) (val.Object 4) ([]) (used.Place (slot.Local 8 0) 10 ∷ [])) ∷
      (event kind.Set 4 (Some 10) (Some 10) Absent (slot.Field 4 1) (val.Int (pos 1)) ([]) (used.Place (slot.Local 10 0) 12 ∷ [])) ∷
      (event kind.Set 10 (Some 10) (Some 10) Absent (slot.Field 4 1) (val.Int (pos 2)) ([]) (used.Place (slot.Local 10 0) 13 ∷ [])) ∷
      (event kind.Return 1 (Some 10) (Some 10) Absent slot.None val.None ([]) ([])) ∷
      (event kind.Return 22 (Some 8) (Some 8) Absent slot.None val.None ([]) ([])) ∷
      (event kind.Return 33 (Some 5) (Some 5) Absent slot.None val.None ([]) ([])) ∷
      (event kind.New 59 (Some 2) (Some 2) (Some 34) slot.None val.None ([]) ([])) ∷
      (event kind.Call 59 (Some 2) (Some 2) (Some 39) slot.None val.None ([]) ([])) ∷
      (event kind.Bind 34 (Some 18) (Some 18) Absent (slot.Local 18 0) (val.Object 17) ([]) (used.Value 17 ∷ [])) ∷
      (event kind.Bind 37 (Some 18) (Some 18) Absent (slot.Local 18 1) (val.Long (pos 2)) ([]) ([])) ∷
      (event kind.Call 34 (Some 18) (Some 18) (Some 36) slot.None val.None ([]) (used.Place (slot.Local 18 0) 21 ∷ [])) ∷
      (event kind.Bind 1 (Some 21) (Some 21) Absent (slot.Local 21 0) (val.Object 17) ([]) (used.Place (slot.Local 18 0) 21 ∷ [])) ∷
      (event kind.Set 4 (Some 21) (Some 21) Absent (slot.Field 17 1) (val.Int (pos 1)) ([]) (used.Place (slot.Local 21 0) 23 ∷ [])) ∷
      (event kind.Set 10 (Some 21) (Some 21) Absent (slot.Field 17 1) (val.Int (pos 2)) ([]) (used.Place (slot.Local 21 0) 24 ∷ [])) ∷
      (event kind.Return 1 (Some 21) (Some 21) Absent slot.None val.None ([]) ([])) ∷
      (event kind.Return 41 (Some 18) (Some 18) Absent slot.None val.None ([]) ([])) ∷
      (event kind.Return 65 (Some 2) (Some 2) Absent slot.None val.None ([]) ([])) ∷
      [];
  output = [];
  stop = 0;
  last = Absent;
  steps = 41;
  uses = 12;
  coverage = (cover 1 1 (Some 1) never_left) ∷ (cover 2 2 (Some 12) never_left) ∷ (cover 2 2 (Some 12) never_left) ∷ (cover 2 2 (Some 13) never_left) ∷ (cover 2 2 (Some 13) never_left) ∷ (cover 1 1 (Some 10) never_left) ∷ (cover 1 1 (Some 10) never_left) ∷ (cover 1 1 (Some 8) never_left) ∷ (cover 1 1 (Some 8) never_left) ∷ (cover 1 1 (Some 21) never_left) ∷ (cover 1 1 (Some 21) never_left) ∷ (cover 1 1 (Some 26) never_left) ∷ (cover 1 1 (Some 4) never_left) ∷ (cover 1 1 (Some 4) never_left) ∷ (cover 1 1 (Some 17) never_left) ∷ [];
}
unfolding told
constructors_run = refl

-- class Main {
--   public static void main(String[] args) {
--     long n = 1;
--     n = n + 1;
--     byte b = 3;
--     b += 1;
--     int[] a = new int['\2'];
--     a['\1'] = b;
--     System.out.println((byte) 3);
--   }
-- }
abbrev constants : Program
constants = program
    ((class_named (codes "Main") 1 (Some 0) ([])) ∷ [])
    ((method_named (codes "new") 1 18 ([]) Void kinds.Constructor) ∷ (method_named (codes "main") 6 18 (Of (Named 1) 1 ∷ []) Void kinds.Static) ∷ [])
    ([])
    ((Some (body_with (Stmt 75 1 false 4294967295 (Block done)) (1 ∷ []) 1)) ∷ (Some (body_with (Stmt 76 13 false 4294967295 (Block (first (Stmt 77 15 true 4294967295 (Eval (Set (Local 1) (Const (Long (pos 1))) 15))) (first (Stmt 78 19 true 4294967295 (Eval (Set (Local 1) (Bin op.Add (Read (Local 1)) (Const (Long (pos 1))) 0) 20))) (first (Stmt 79 26 true 4294967295 (Eval (Set (Local 2) (Const (Byte (pos 3))) 26))) (first (Stmt 80 30 true 4294967295 (Eval (Upd (Local 2) op.Add (the (Const (Int (pos 1)))) (Of (Basic prim.Int) 0) (Of (Basic prim.Byte) 0) (Some prim.Int) false 31))) (first (Stmt 81 37 true 4294967295 (Eval (Set (Local 3) (NewArray (Of (Basic prim.Int) 1) (more (Const (Int (pos 2))) none) none ([]) 39) 37))) (first (Stmt 82 45 true 4294967295 (Eval (Set (Elem (Read (Local 3)) (Const (Int (pos 1))) 46) (Conv prim.Int (Read (Local 2))) 49))) (first (Stmt 83 52 true 4294967295 (Print (the (Const (Int (pos 3)))) Void true 57)) done))))))))) (11 ∷ 15 ∷ 26 ∷ 37 ∷ []) 64)) ∷ [])
    ((Some (body_with (Stmt 74 1 false 4294967295 (Block done)) ([]) 1)) ∷ [])
    ([])
    84 37

constants_run : told constants [] 1000 ≡ record {
  events =
      (event kind.Init 1 Absent Absent (Some 18) slot.None val.None ([]) ([])) ∷
      (event kind.New 6 Absent Absent (Some 16777233) slot.None (val.Int (pos 0)) ([]) ([])) ∷
      (event kind.Call 6 Absent Absent (Some 37) slot.None val.None ([]) ([])) ∷
      (event kind.Bind 11 (Some 2) (Some 2) Absent (slot.Local 2 0) (val.Object 1) ([]) (used.Value 1 ∷ [])) ∷
      (event kind.Set 15 (Some 2) (Some 2) Absent (slot.Local 2 1) (val.Long (pos 1)) ([]) ([])) ∷
      (event kind.Set 20 (Some 2) (Some 2) Absent (slot.Local 2 1) (val.Long (pos 2)) ([]) (used.Place (slot.Local 2 1) 5 ∷ [])) ∷
      (event kind.Set 26 (Some 2) (Some 2) Absent (slot.Local 2 2) (val.Byte (pos 3)) ([]) ([])) ∷
      (event kind.Set 31 (Some 2) (Some 2) Absent (slot.Local 2 2) (val.Byte (pos 4)) ([]) (used.Place (slot.Local 2 2) 7 ∷ [])) ∷
      (event kind.New 39 (Some 2) (Some 2) (Some 16777220) slot.None (val.Int (pos 2)) ([]) ([])) ∷
      (event kind.Set 37 (Some 2) (Some 2) Absent (slot.Local 2 3) (val.Object 8) ([]) (used.Value 8 ∷ [])) ∷
      (event kind.Set 49 (Some 2) (Some 2) Absent (slot.Elem 8 1) (val.Int (pos 4)) ([]) (used.Place (slot.Local 2 3) 10 ∷ used.Place (slot.Local 2 2) 10 ∷ [])) ∷
      (event kind.Print 57 (Some 2) (Some 2) Absent slot.None (val.Int (pos 3)) ([]) ([])) ∷
      (event kind.Return 64 (Some 2) (Some 2) Absent slot.None val.None ([]) ([])) ∷
      [];
  output = codes "3\n";
  stop = 0;
  last = Absent;
  steps = 28;
  uses = 6;
  coverage = (cover 1 1 (Some 1) never_left) ∷ (cover 0 0 Absent never_left) ∷ (cover 1 1 (Some 4) never_left) ∷ (cover 1 1 (Some 4) never_left) ∷ (cover 1 1 (Some 5) never_left) ∷ (cover 1 1 (Some 6) never_left) ∷ (cover 1 1 (Some 7) never_left) ∷ (cover 1 1 (Some 8) never_left) ∷ (cover 1 1 (Some 10) never_left) ∷ (cover 1 1 (Some 11) never_left) ∷ [];
}
unfolding told
constants_run = refl
