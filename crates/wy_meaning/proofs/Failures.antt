-- Runs that fail: a form with its operands, in a call, a store, a division, an array creation, an initializer, and a method that falls off its end.
use Rattle.std.proofs.Common.{◌≡◌, refl}
use Rattle.std.specs.Prelude.{pos, negsuc, true, false, [], ◌∷◌, Some, codes, option_and_then, slice_get}
use Rattle.std.specs.Prelude.{None as Absent}
use Rattle.wy_kernel.specs.declared.operator.Primitive.TheVariants as prim
use Rattle.wy_kernel.specs.declared.operator.BinOp.TheVariants as op
use Rattle.wy_kernel.specs.declared.types.Base.TheVariants.{Primitive as Basic, Class as Named}
use Rattle.wy_kernel.specs.declared.types.Ty.TheVariants.{Void, Of}
use Rattle.wy_kernel.specs.declared.types.MethodForm.TheVariants as kinds
use Rattle.wy_kernel.specs.declared.form.CallForm.TheVariants as calling
use Rattle.wy_kernel.specs.Form.{Null, Int, Const, Str, Read, Set, Upd, Bin, NewArray, Call, Local, Static, Elem, absent, the, none, more, Stmt, Block, Eval, If, Return, Try, Print, nothing, this, done, first, uncaught}
use Rattle.wy_kernel.specs.Program.{Program, base_of, class_of_type, type_of_code}
use Rattle.wy_value.specs.declared.value.Value.TheVariants as val
use Rattle.wy_event.specs.declared.record.Kind.TheVariants as kind
use Rattle.wy_event.specs.declared.record.Slot.TheVariants as slot
use Rattle.wy_event.specs.declared.record.Use.TheVariants as used
use Rattle.wy_steps.specs.Steps.{going_on, never_left}
use Rattle.wy_meaning.specs.Run.{thrown_in}
use Rattle.wy_meaning.specs.World.{object_in, type_in}
use Rattle.wy_meaning.proofs.Computed.{told, event, cover, class_named, method_named, field_named, body_with}
use Rattle.wy_meaning.proofs.Builtin.{program}

-- class Main {
--   public static void main(String[] args) {
--     int[] a = null;
--     int x = 1;
--     a[x] = x + 2;
--   }
-- }
abbrev null_array : Program
null_array = program
    ((class_named (codes "Main") 1 (Some 0) ([])) ∷ [])
    ((method_named (codes "new") 1 18 ([]) Void kinds.Constructor) ∷ (method_named (codes "main") 6 18 (Of (Named 1) 1 ∷ []) Void kinds.Static) ∷ [])
    ([])
    ((Some (body_with (Stmt 75 1 false 4294967295 (Block done)) (1 ∷ []) 1)) ∷ (Some (body_with (Stmt 76 13 false 4294967295 (Block (first (Stmt 77 17 true 4294967295 (Eval (Set (Local 1) (Const Null) 17))) (first (Stmt 78 22 true 4294967295 (Eval (Set (Local 2) (Const (Int (pos 1))) 22))) (first (Stmt 79 26 true 4294967295 (Eval (Set (Elem (Read (Local 1)) (Read (Local 2)) 27) (Bin op.Add (Read (Local 2)) (Const (Int (pos 2))) 0) 30))) done))))) (11 ∷ 17 ∷ 22 ∷ []) 0)) ∷ [])
    ((Some (body_with (Stmt 74 1 false 4294967295 (Block done)) ([]) 1)) ∷ [])
    ([])
    80 37

null_array_run : told null_array [] 1000 ≡ record {
  events =
      (event kind.Init 1 Absent Absent (Some 18) slot.None val.None ([]) ([])) ∷
      (event kind.New 6 Absent Absent (Some 16777233) slot.None (val.Int (pos 0)) ([]) ([])) ∷
      (event kind.Call 6 Absent Absent (Some 37) slot.None val.None ([]) ([])) ∷
      (event kind.Bind 11 (Some 2) (Some 2) Absent (slot.Local 2 0) (val.Object 1) ([]) (used.Value 1 ∷ [])) ∷
      (event kind.Set 17 (Some 2) (Some 2) Absent (slot.Local 2 1) val.Null ([]) ([])) ∷
      (event kind.Set 22 (Some 2) (Some 2) Absent (slot.Local 2 2) (val.Int (pos 1)) ([]) ([])) ∷
      (event kind.New 27 (Some 2) (Some 2) (Some 32) slot.None val.None ([]) (used.Place (slot.Local 2 1) 6 ∷ used.Place (slot.Local 2 2) 6 ∷ [])) ∷
      (event kind.Throw 27 (Some 2) (Some 2) Absent slot.None (val.Object 6) ([]) (used.Value 6 ∷ [])) ∷
      [];
  output = [];
  stop = 1;
  last = Some 7;
  steps = 15;
  uses = 4;
  coverage = (cover 1 1 (Some 1) never_left) ∷ (cover 0 0 Absent never_left) ∷ (cover 1 0 (Some 4) 7) ∷ (cover 1 1 (Some 4) never_left) ∷ (cover 1 1 (Some 5) never_left) ∷ (cover 1 0 (Some 6) 7) ∷ [];
}
unfolding told
null_array_run = refl

-- a NullPointerException, at the place of the element
null_array_thrown : thrown_in (told null_array [] 1000).events (option_and_then (slice_get (told null_array [] 1000).events) (told null_array [] 1000).last) ≡ record { class = Some 16; site = Some 27 }
unfolding told thrown_in type_in object_in type_of_code base_of class_of_type
null_array_thrown = refl

-- class Main {
--   int f(int n) { return n; }
--   public static void main(String[] args) {
--     Main m = null;
--     int x = 1;
--     m.f(x);
--   }
-- }
abbrev null_receiver : Program
null_receiver = program
    ((class_named (codes "Main") 1 (Some 0) ([])) ∷ [])
    ((method_named (codes "new") 1 18 ([]) Void kinds.Constructor) ∷ (method_named (codes "f") 4 18 (Of (Basic prim.Int) 0 ∷ []) (Of (Basic prim.Int) 0) kinds.Instance) ∷ (method_named (codes "main") 17 18 (Of (Named 1) 1 ∷ []) Void kinds.Static) ∷ [])
    ([])
    ((Some (body_with (Stmt 75 1 false 4294967295 (Block done)) (1 ∷ []) 1)) ∷ (Some (body_with (Stmt 76 9 false 4294967295 (Block (first (Stmt 77 10 true 4294967295 (Return (the (Read (Local 1))))) done))) (4 ∷ 7 ∷ []) 13)) ∷ (Some (body_with (Stmt 78 24 false 4294967295 (Block (first (Stmt 79 26 true 4294967295 (Eval (Set (Local 1) (Const Null) 26))) (first (Stmt 80 31 true 4294967295 (Eval (Set (Local 2) (Const (Int (pos 1))) 31))) (first (Stmt 81 35 true 4294967295 (Eval (Call calling.Chosen 37 (the (Read (Local 1))) (Of (Named 18) 0) (more (Read (Local 2)) none) 38))) done))))) (22 ∷ 26 ∷ 31 ∷ []) 42)) ∷ [])
    ((Some (body_with (Stmt 74 1 false 4294967295 (Block done)) ([]) 1)) ∷ [])
    ([])
    82 38

null_receiver_run : told null_receiver [] 1000 ≡ record {
  events =
      (event kind.Init 1 Absent Absent (Some 18) slot.None val.None ([]) ([])) ∷
      (event kind.New 17 Absent Absent (Some 16777233) slot.None (val.Int (pos 0)) ([]) ([])) ∷
      (event kind.Call 17 Absent Absent (Some 38) slot.None val.None ([]) ([])) ∷
      (event kind.Bind 22 (Some 2) (Some 2) Absent (slot.Local 2 0) (val.Object 1) ([]) (used.Value 1 ∷ [])) ∷
      (event kind.Set 26 (Some 2) (Some 2) Absent (slot.Local 2 1) val.Null ([]) ([])) ∷
      (event kind.Set 31 (Some 2) (Some 2) Absent (slot.Local 2 2) (val.Int (pos 1)) ([]) ([])) ∷
      (event kind.New 38 (Some 2) (Some 2) (Some 32) slot.None val.None ([]) (used.Place (slot.Local 2 1) 6 ∷ [])) ∷
      (event kind.Throw 38 (Some 2) (Some 2) Absent slot.None (val.Object 6) ([]) (used.Value 6 ∷ [])) ∷
      [];
  output = [];
  stop = 1;
  last = Some 7;
  steps = 12;
  uses = 3;
  coverage = (cover 1 1 (Some 1) never_left) ∷ (cover 0 0 Absent never_left) ∷ (cover 0 0 Absent never_left) ∷ (cover 0 0 Absent never_left) ∷ (cover 1 0 (Some 4) 7) ∷ (cover 1 1 (Some 4) never_left) ∷ (cover 1 1 (Some 5) never_left) ∷ (cover 1 0 (Some 6) 7) ∷ [];
}
unfolding told
null_receiver_run = refl

-- class Main {
--   public static void main(String[] args) {
--     Object[] o = new Main[1];
--     String s = "q";
--     o[0] = s;
--   }
-- }
abbrev bad_store : Program
bad_store = program
    ((class_named (codes "Main") 1 (Some 0) ([])) ∷ [])
    ((method_named (codes "new") 1 18 ([]) Void kinds.Constructor) ∷ (method_named (codes "main") 6 18 (Of (Named 1) 1 ∷ []) Void kinds.Static) ∷ [])
    ([])
    ((Some (body_with (Stmt 75 1 false 4294967295 (Block done)) (1 ∷ []) 1)) ∷ (Some (body_with (Stmt 76 13 false 4294967295 (Block (first (Stmt 77 17 true 4294967295 (Eval (Set (Local 1) (NewArray (Of (Named 18) 1) (more (Const (Int (pos 1))) none) none ([]) 19) 17))) (first (Stmt 78 26 true 4294967295 (Eval (Set (Local 2) (Str 1) 26))) (first (Stmt 79 30 true 4294967295 (Eval (Set (Elem (Read (Local 1)) (Const (Int (pos 0))) 31) (Read (Local 2)) 34))) done))))) (11 ∷ 17 ∷ 26 ∷ []) 0)) ∷ [])
    ((Some (body_with (Stmt 74 1 false 4294967295 (Block done)) ([]) 1)) ∷ [])
    (codes "q" ∷ [])
    80 37

bad_store_run : told bad_store [] 1000 ≡ record {
  events =
      (event kind.Init 1 Absent Absent (Some 18) slot.None val.None ([]) ([])) ∷
      (event kind.New 6 Absent Absent (Some 16777233) slot.None (val.Int (pos 0)) ([]) ([])) ∷
      (event kind.Call 6 Absent Absent (Some 37) slot.None val.None ([]) ([])) ∷
      (event kind.Bind 11 (Some 2) (Some 2) Absent (slot.Local 2 0) (val.Object 1) ([]) (used.Value 1 ∷ [])) ∷
      (event kind.New 19 (Some 2) (Some 2) (Some 16777250) slot.None (val.Int (pos 1)) ([]) ([])) ∷
      (event kind.Set 17 (Some 2) (Some 2) Absent (slot.Local 2 1) (val.Object 4) ([]) (used.Value 4 ∷ [])) ∷
      (event kind.Set 26 (Some 2) (Some 2) Absent (slot.Local 2 2) (val.Fixed 1) ([]) ([])) ∷
      (event kind.New 34 (Some 2) (Some 2) (Some 23) slot.None val.None ([]) (used.Place (slot.Local 2 1) 7 ∷ used.Place (slot.Local 2 2) 7 ∷ [])) ∷
      (event kind.Throw 34 (Some 2) (Some 2) Absent slot.None (val.Object 7) ([]) (used.Value 7 ∷ [])) ∷
      [];
  output = [];
  stop = 1;
  last = Some 8;
  steps = 14;
  uses = 5;
  coverage = (cover 1 1 (Some 1) never_left) ∷ (cover 0 0 Absent never_left) ∷ (cover 1 0 (Some 4) 8) ∷ (cover 1 1 (Some 4) never_left) ∷ (cover 1 1 (Some 6) never_left) ∷ (cover 1 0 (Some 7) 8) ∷ [];
}
unfolding told
bad_store_run = refl

-- class Main {
--   public static void main(String[] args) {
--     int[] a = { 7 };
--     int z = 0;
--     a[z] /= z;
--   }
-- }
abbrev zero_divisor : Program
zero_divisor = program
    ((class_named (codes "Main") 1 (Some 0) ([])) ∷ [])
    ((method_named (codes "new") 1 18 ([]) Void kinds.Constructor) ∷ (method_named (codes "main") 6 18 (Of (Named 1) 1 ∷ []) Void kinds.Static) ∷ [])
    ([])
    ((Some (body_with (Stmt 75 1 false 4294967295 (Block done)) (1 ∷ []) 1)) ∷ (Some (body_with (Stmt 76 13 false 4294967295 (Block (first (Stmt 77 17 true 4294967295 (Eval (Set (Local 1) (NewArray (Of (Basic prim.Int) 1) none (more (Const (Int (pos 7))) none) (19 ∷ []) 19) 17))) (first (Stmt 78 24 true 4294967295 (Eval (Set (Local 2) (Const (Int (pos 0))) 24))) (first (Stmt 79 28 true 4294967295 (Eval (Upd (Elem (Read (Local 1)) (Read (Local 2)) 29) op.Div (the (Read (Local 2))) (Of (Basic prim.Int) 0) (Of (Basic prim.Int) 0) (Some prim.Int) false 32))) done))))) (11 ∷ 17 ∷ 24 ∷ []) 35)) ∷ [])
    ((Some (body_with (Stmt 74 1 false 4294967295 (Block done)) ([]) 1)) ∷ [])
    ([])
    80 37

zero_divisor_run : told zero_divisor [] 1000 ≡ record {
  events =
      (event kind.Init 1 Absent Absent (Some 18) slot.None val.None ([]) ([])) ∷
      (event kind.New 6 Absent Absent (Some 16777233) slot.None (val.Int (pos 0)) ([]) ([])) ∷
      (event kind.Call 6 Absent Absent (Some 37) slot.None val.None ([]) ([])) ∷
      (event kind.Bind 11 (Some 2) (Some 2) Absent (slot.Local 2 0) (val.Object 1) ([]) (used.Value 1 ∷ [])) ∷
      (event kind.New 19 (Some 2) (Some 2) (Some 16777220) slot.None (val.Int (pos 1)) ([]) ([])) ∷
      (event kind.Set 19 (Some 2) (Some 2) Absent (slot.Elem 4 0) (val.Int (pos 7)) ([]) (used.Value 4 ∷ [])) ∷
      (event kind.Set 17 (Some 2) (Some 2) Absent (slot.Local 2 1) (val.Object 4) ([]) (used.Value 4 ∷ [])) ∷
      (event kind.Set 24 (Some 2) (Some 2) Absent (slot.Local 2 2) (val.Int (pos 0)) ([]) ([])) ∷
      (event kind.New 32 (Some 2) (Some 2) (Some 22) slot.None val.None ([]) (used.Place (slot.Local 2 1) 8 ∷ used.Place (slot.Local 2 2) 8 ∷ used.Place (slot.Elem 4 0) 8 ∷ used.Place (slot.Local 2 2) 8 ∷ [])) ∷
      (event kind.Throw 32 (Some 2) (Some 2) Absent slot.None (val.Object 8) ([]) (used.Value 8 ∷ [])) ∷
      [];
  output = [];
  stop = 1;
  last = Some 9;
  steps = 14;
  uses = 8;
  coverage = (cover 1 1 (Some 1) never_left) ∷ (cover 0 0 Absent never_left) ∷ (cover 1 0 (Some 4) 9) ∷ (cover 1 1 (Some 4) never_left) ∷ (cover 1 1 (Some 7) never_left) ∷ (cover 1 0 (Some 8) 9) ∷ [];
}
unfolding told
zero_divisor_run = refl

-- class Main {
--   public static void main(String[] args) {
--     int a = 2;
--     int b = -1;
--     int[][] x = new int[a][b];
--   }
-- }
abbrev negative_dimension : Program
negative_dimension = program
    ((class_named (codes "Main") 1 (Some 0) ([])) ∷ [])
    ((method_named (codes "new") 1 18 ([]) Void kinds.Constructor) ∷ (method_named (codes "main") 6 18 (Of (Named 1) 1 ∷ []) Void kinds.Static) ∷ [])
    ([])
    ((Some (body_with (Stmt 75 1 false 4294967295 (Block done)) (1 ∷ []) 1)) ∷ (Some (body_with (Stmt 76 13 false 4294967295 (Block (first (Stmt 77 15 true 4294967295 (Eval (Set (Local 1) (Const (Int (pos 2))) 15))) (first (Stmt 78 20 true 4294967295 (Eval (Set (Local 2) (Const (Int (negsuc 0))) 20))) (first (Stmt 79 30 true 4294967295 (Eval (Set (Local 3) (NewArray (Of (Basic prim.Int) 2) (more (Read (Local 1)) (more (Read (Local 2)) none)) none ([]) 32) 30))) done))))) (11 ∷ 15 ∷ 20 ∷ 30 ∷ []) 0)) ∷ [])
    ((Some (body_with (Stmt 74 1 false 4294967295 (Block done)) ([]) 1)) ∷ [])
    ([])
    80 37

negative_dimension_run : told negative_dimension [] 1000 ≡ record {
  events =
      (event kind.Init 1 Absent Absent (Some 18) slot.None val.None ([]) ([])) ∷
      (event kind.New 6 Absent Absent (Some 16777233) slot.None (val.Int (pos 0)) ([]) ([])) ∷
      (event kind.Call 6 Absent Absent (Some 37) slot.None val.None ([]) ([])) ∷
      (event kind.Bind 11 (Some 2) (Some 2) Absent (slot.Local 2 0) (val.Object 1) ([]) (used.Value 1 ∷ [])) ∷
      (event kind.Set 15 (Some 2) (Some 2) Absent (slot.Local 2 1) (val.Int (pos 2)) ([]) ([])) ∷
      (event kind.Set 20 (Some 2) (Some 2) Absent (slot.Local 2 2) (val.Int (negsuc 0)) ([]) ([])) ∷
      (event kind.New 32 (Some 2) (Some 2) (Some 31) slot.None val.None ([]) (used.Place (slot.Local 2 1) 6 ∷ used.Place (slot.Local 2 2) 6 ∷ [])) ∷
      (event kind.Throw 32 (Some 2) (Some 2) Absent slot.None (val.Object 6) ([]) (used.Value 6 ∷ [])) ∷
      [];
  output = [];
  stop = 1;
  last = Some 7;
  steps = 13;
  uses = 4;
  coverage = (cover 1 1 (Some 1) never_left) ∷ (cover 0 0 Absent never_left) ∷ (cover 1 0 (Some 4) 7) ∷ (cover 1 1 (Some 4) never_left) ∷ (cover 1 1 (Some 5) never_left) ∷ (cover 1 0 (Some 6) 7) ∷ [];
}
unfolding told
negative_dimension_run = refl

-- class A { static int x = 1 / (x - x); }
-- class Main {
--   public static void main(String[] args) {
--     try { System.out.println(A.x); } finally { System.out.println("no"); }
--   }
-- }
abbrev failed_initializer : Program
failed_initializer = program
    ((class_named (codes "A") 1 (Some 0) ([])) ∷ (class_named (codes "Main") 17 (Some 0) ([])) ∷ [])
    ((method_named (codes "new") 1 18 ([]) Void kinds.Constructor) ∷ (method_named (codes "new") 17 19 ([]) Void kinds.Constructor) ∷ (method_named (codes "main") 22 19 (Of (Named 1) 1 ∷ []) Void kinds.Static) ∷ [])
    ((field_named (codes "x") 5 18 (Of (Basic prim.Int) 0) true) ∷ [])
    ((Some (body_with (Stmt 75 1 false 4294967295 (Block done)) (1 ∷ []) 1)) ∷ (Some (body_with (Stmt 78 17 false 4294967295 (Block done)) (17 ∷ []) 17)) ∷ (Some (body_with (Stmt 79 29 false 4294967295 (Block (first (Stmt 80 30 true 4294967295 (Try (Stmt 81 31 false 4294967295 (Block (first (Stmt 82 32 true 4294967295 (Print (the (Read (Static 1 40))) Void true 37)) done))) uncaught (this (Stmt 83 45 false 4294967295 (Block (first (Stmt 84 46 true 4294967295 (Print (the (Str 1)) Void true 51)) done)))))) done))) (27 ∷ []) 55)) ∷ [])
    ((Some (body_with (Stmt 74 1 false 4294967295 (Block (first (Stmt 76 5 true 4294967295 (Eval (Set (Static 1 5) (Bin op.Div (Const (Int (pos 1))) (Bin op.Sub (Read (Static 1 0)) (Read (Static 1 0)) 0) 8) 5))) done))) ([]) 1)) ∷ (Some (body_with (Stmt 77 17 false 4294967295 (Block done)) ([]) 17)) ∷ [])
    (codes "no" ∷ [])
    85 38

failed_initializer_run : told failed_initializer [] 1000 ≡ record {
  events =
      (event kind.Init 17 Absent Absent (Some 19) slot.None val.None ([]) ([])) ∷
      (event kind.New 22 Absent Absent (Some 16777233) slot.None (val.Int (pos 0)) ([]) ([])) ∷
      (event kind.Call 22 Absent Absent (Some 38) slot.None val.None ([]) ([])) ∷
      (event kind.Bind 27 (Some 2) (Some 2) Absent (slot.Local 2 0) (val.Object 1) ([]) (used.Value 1 ∷ [])) ∷
      (event kind.Init 40 (Some 2) (Some 2) (Some 18) slot.None val.None ([]) ([])) ∷
      (event kind.New 8 (Some 4) (Some 4) (Some 22) slot.None val.None ([]) (used.Place (slot.Static 1) 5 ∷ used.Place (slot.Static 1) 5 ∷ [])) ∷
      (event kind.Throw 8 (Some 4) (Some 4) Absent slot.None (val.Object 5) ([]) (used.Value 5 ∷ [])) ∷
      [];
  output = [];
  stop = 11;
  last = Some 6;
  steps = 14;
  uses = 4;
  coverage = (cover 1 0 (Some 5) 6) ∷ (cover 0 0 Absent never_left) ∷ (cover 1 0 (Some 5) 6) ∷ (cover 1 1 (Some 1) never_left) ∷ (cover 0 0 Absent never_left) ∷ (cover 1 0 (Some 4) 6) ∷ (cover 1 0 (Some 4) 6) ∷ (cover 1 0 (Some 4) 6) ∷ (cover 1 0 (Some 4) 6) ∷ (cover 0 0 Absent never_left) ∷ (cover 0 0 Absent never_left) ∷ [];
}
unfolding told
failed_initializer_run = refl

-- class Main {
--   static int f(int x) { if (x > 1) return 1; }
--   public static void main(String[] args) {
--     f(1);
--   }
-- }
abbrev fell_off : Program
fell_off = program
    ((class_named (codes "Main") 1 (Some 0) ([])) ∷ [])
    ((method_named (codes "new") 1 18 ([]) Void kinds.Constructor) ∷ (method_named (codes "f") 5 18 (Of (Basic prim.Int) 0 ∷ []) (Of (Basic prim.Int) 0) kinds.Static) ∷ (method_named (codes "main") 24 18 (Of (Named 1) 1 ∷ []) Void kinds.Static) ∷ [])
    ([])
    ((Some (body_with (Stmt 75 1 false 4294967295 (Block done)) (1 ∷ []) 1)) ∷ (Some (body_with (Stmt 76 10 false 4294967295 (Block (first (Stmt 77 11 true 76 (If (Bin op.Gt (Read (Local 0)) (Const (Int (pos 1))) 0) (Stmt 78 17 true 4294967295 (Return (the (Const (Int (pos 1)))))) nothing)) done))) (8 ∷ []) 20)) ∷ (Some (body_with (Stmt 79 31 false 4294967295 (Block (first (Stmt 80 32 true 4294967295 (Eval (Call calling.Static 37 absent Void (more (Const (Int (pos 1))) none) 33))) done))) (29 ∷ []) 37)) ∷ [])
    ((Some (body_with (Stmt 74 1 false 4294967295 (Block done)) ([]) 1)) ∷ [])
    ([])
    81 38

fell_off_run : told fell_off [] 1000 ≡ record {
  events =
      (event kind.Init 1 Absent Absent (Some 18) slot.None val.None ([]) ([])) ∷
      (event kind.New 24 Absent Absent (Some 16777233) slot.None (val.Int (pos 0)) ([]) ([])) ∷
      (event kind.Call 24 Absent Absent (Some 38) slot.None val.None ([]) ([])) ∷
      (event kind.Bind 29 (Some 2) (Some 2) Absent (slot.Local 2 0) (val.Object 1) ([]) (used.Value 1 ∷ [])) ∷
      (event kind.Call 33 (Some 2) (Some 2) (Some 37) slot.None val.None ([]) ([])) ∷
      (event kind.Bind 8 (Some 4) (Some 4) Absent (slot.Local 4 0) (val.Int (pos 1)) ([]) ([])) ∷
      (event kind.Test 11 (Some 4) (Some 4) Absent slot.None (val.Arm 0) ([]) (used.Place (slot.Local 4 0) 6 ∷ [])) ∷
      [];
  output = [];
  stop = 10;
  last = Absent;
  steps = 10;
  uses = 2;
  coverage = (cover 1 1 (Some 1) never_left) ∷ (cover 0 0 Absent never_left) ∷ (cover 1 1 (Some 6) never_left) ∷ (cover 1 1 (Some 6) never_left) ∷ (cover 0 0 Absent never_left) ∷ (cover 1 0 (Some 4) going_on) ∷ (cover 1 0 (Some 4) going_on) ∷ [];
}
unfolding told
fell_off_run = refl
