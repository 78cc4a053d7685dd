-- Runs with jumps through `finally`, and the coverage of their statements.
use Rattle.std.proofs.Common.{◌≡◌, refl}
use Rattle.std.specs.Prelude.{pos, true, false, [], ◌∷◌, Some, codes}
use Rattle.std.specs.Prelude.{None as Absent}
use Rattle.wy_kernel.specs.declared.operator.Primitive.TheVariants as prim
use Rattle.wy_kernel.specs.declared.operator.BinOp.TheVariants as op
use Rattle.wy_kernel.specs.declared.types.Base.TheVariants.{Primitive as Basic, Class as Named}
use Rattle.wy_kernel.specs.declared.types.Ty.TheVariants.{Void, Of}
use Rattle.wy_kernel.specs.declared.types.MethodForm.TheVariants as kinds
use Rattle.wy_kernel.specs.declared.form.CallForm.TheVariants as calling
use Rattle.wy_kernel.specs.Form.{Null, Int, Const, Str, Read, Set, Upd, Bin, New, Call, Local, absent, the, none, more, Stmt, Block, Eval, If, For, Labelled, Jump, Return, Throw, Try, Print, nothing, this, done, first, uncaught, catch}
use Rattle.wy_kernel.specs.Program.{Program}
use Rattle.wy_value.specs.declared.value.Value.TheVariants as val
use Rattle.wy_event.specs.declared.record.Kind.TheVariants as kind
use Rattle.wy_event.specs.declared.record.Slot.TheVariants as slot
use Rattle.wy_event.specs.declared.record.Use.TheVariants as used
use Rattle.wy_steps.specs.Steps.{never_left}
use Rattle.wy_meaning.proofs.Computed.{told, event, cover, class_named, method_named, body_with}
use Rattle.wy_meaning.proofs.Builtin.{program}

-- class Main {
--   static int f() { try { return 1; } finally { return 2; } }
--   public static void main(String[] args) {
--     System.out.println(f());
--   }
-- }
abbrev finally_replaces_a_return : Program
finally_replaces_a_return = program
    ((class_named (codes "Main") 1 (Some 0) ([])) ∷ [])
    ((method_named (codes "new") 1 18 ([]) Void kinds.Constructor) ∷ (method_named (codes "f") 5 18 ([]) (Of (Basic prim.Int) 0) kinds.Static) ∷ (method_named (codes "main") 25 18 (Of (Named 1) 1 ∷ []) Void kinds.Static) ∷ [])
    ([])
    ((Some (body_with (Stmt 75 1 false 4294967295 (Block done)) (1 ∷ []) 1)) ∷ (Some (body_with (Stmt 76 8 false 4294967295 (Block (first (Stmt 77 9 true 4294967295 (Try (Stmt 78 10 false 4294967295 (Block (first (Stmt 79 11 true 4294967295 (Return (the (Const (Int (pos 1)))))) done))) uncaught (this (Stmt 80 16 false 4294967295 (Block (first (Stmt 81 17 true 4294967295 (Return (the (Const (Int (pos 2)))))) done)))))) done))) ([]) 21)) ∷ (Some (body_with (Stmt 82 32 false 4294967295 (Block (first (Stmt 83 33 true 4294967295 (Print (the (Call calling.Static 37 absent Void none 40)) Void true 38)) done))) (30 ∷ []) 44)) ∷ [])
    ((Some (body_with (Stmt 74 1 false 4294967295 (Block done)) ([]) 1)) ∷ [])
    ([])
    84 38

finally_replaces_a_return_run : told finally_replaces_a_return [] 1000 ≡ record {
  events =
      (event kind.Init 1 Absent Absent (Some 18) slot.None val.None ([]) ([])) ∷
      (event kind.New 25 Absent Absent (Some 16777233) slot.None (val.Int (pos 0)) ([]) ([])) ∷
      (event kind.Call 25 Absent Absent (Some 38) slot.None val.None ([]) ([])) ∷
      (event kind.Bind 30 (Some 2) (Some 2) Absent (slot.Local 2 0) (val.Object 1) ([]) (used.Value 1 ∷ [])) ∷
      (event kind.Call 40 (Some 2) (Some 2) (Some 37) slot.None val.None ([]) ([])) ∷
      (event kind.Return 11 (Some 4) (Some 4) Absent slot.None (val.Int (pos 1)) ([]) ([])) ∷
      (event kind.Return 17 (Some 4) (Some 4) Absent slot.None (val.Int (pos 2)) ([]) ([])) ∷
      (event kind.Print 38 (Some 2) (Some 2) Absent slot.None (val.Int (pos 2)) ([]) (used.Value 6 ∷ [])) ∷
      (event kind.Return 44 (Some 2) (Some 2) Absent slot.None val.None ([]) ([])) ∷
      [];
  output = codes "2\n";
  stop = 0;
  last = Absent;
  steps = 12;
  uses = 2;
  coverage = (cover 1 1 (Some 1) never_left) ∷ (cover 0 0 Absent never_left) ∷ (cover 1 0 (Some 5) 6) ∷ (cover 1 0 (Some 5) 6) ∷ (cover 1 0 (Some 5) 5) ∷ (cover 1 0 (Some 5) 5) ∷ (cover 1 0 (Some 6) 6) ∷ (cover 1 0 (Some 6) 6) ∷ (cover 1 1 (Some 4) never_left) ∷ (cover 1 1 (Some 4) never_left) ∷ [];
}
unfolding told
finally_replaces_a_return_run = refl

-- class Main {
--   static int f(int n) {
--     L: for (int i = 0; i < n; i++) {
--       try {
--         if (i == 1) continue L;
--         if (i == 2) break;
--         if (n == 9) throw new RuntimeException("q");
--       } catch (RuntimeException e) {
--         return 7;
--       } finally {
--         g();
--       }
--     }
--     return 1;
--   }
--   static void g() { }
--   public static void main(String[] a) {
--     System.out.println(f(3));
--     System.out.println(f(9));
--     Object o = null;
--     o.toString();
--   }
-- }
abbrev jumps : Program
jumps = program
    ((class_named (codes "Main") 1 (Some 0) ([])) ∷ [])
    ((method_named (codes "new") 1 18 ([]) Void kinds.Constructor) ∷ (method_named (codes "f") 5 18 (Of (Basic prim.Int) 0 ∷ []) (Of (Basic prim.Int) 0) kinds.Static) ∷ (method_named (codes "g") 85 18 ([]) Void kinds.Static) ∷ (method_named (codes "main") 93 18 (Of (Named 1) 1 ∷ []) Void kinds.Static) ∷ [])
    ([])
    ((Some (body_with (Stmt 75 1 false 4294967295 (Block done)) (1 ∷ []) 1)) ∷ (Some (body_with (Stmt 76 10 false 4294967295 (Block (first (Stmt 77 11 true 4294967295 (Labelled (Stmt 78 13 true 76 (For (first (Stmt 79 16 true 4294967295 (Eval (Set (Local 1) (Const (Int (pos 0))) 16))) done) (the (Bin op.Lt (Read (Local 1)) (Read (Local 0)) 0)) (first (Stmt 80 24 true 4294967295 (Eval (Upd (Local 1) op.Add absent (Of (Basic prim.Int) 0) (Of (Basic prim.Int) 0) (Some prim.Int) true 25))) done) (Stmt 81 27 false 4294967295 (Block (first (Stmt 82 28 true 4294967295 (Try (Stmt 83 29 false 4294967295 (Block (first (Stmt 84 30 true 81 (If (Bin op.Eq (Read (Local 1)) (Const (Int (pos 1))) 0) (Stmt 85 36 true 4294967295 (Jump 81)) nothing)) (first (Stmt 86 39 true 78 (If (Bin op.Eq (Read (Local 1)) (Const (Int (pos 2))) 0) (Stmt 87 45 true 4294967295 (Jump 78)) nothing)) (first (Stmt 88 47 true 82 (If (Bin op.Eq (Read (Local 0)) (Const (Int (pos 9))) 0) (Stmt 89 53 true 4294967295 (Throw (New 5 (Some 11) (more (Str 1) none) 54))) nothing)) done))))) (catch 5 2 64 (Stmt 90 66 false 4294967295 (Block (first (Stmt 91 67 true 4294967295 (Return (the (Const (Int (pos 7)))))) done))) uncaught) (this (Stmt 92 72 false 4294967295 (Block (first (Stmt 93 73 true 4294967295 (Eval (Call calling.Static 38 absent Void none 74))) done)))))) done))))))) (first (Stmt 94 79 true 4294967295 (Return (the (Const (Int (pos 1)))))) done)))) (8 ∷ 16 ∷ 64 ∷ []) 82)) ∷ (Some (body_with (Stmt 95 88 false 4294967295 (Block done)) ([]) 89)) ∷ (Some (body_with (Stmt 96 100 false 4294967295 (Block (first (Stmt 97 101 true 4294967295 (Print (the (Call calling.Static 37 absent Void (more (Const (Int (pos 3))) none) 108)) Void true 106)) (first (Stmt 98 113 true 4294967295 (Print (the (Call calling.Static 37 absent Void (more (Const (Int (pos 9))) none) 120)) Void true 118)) (first (Stmt 99 126 true 4294967295 (Eval (Set (Local 1) (Const Null) 126))) (first (Stmt 100 130 true 4294967295 (Eval (Call calling.Chosen 0 (the (Read (Local 1))) (Of (Named 0) 0) none 133))) done)))))) (98 ∷ 126 ∷ []) 136)) ∷ [])
    ((Some (body_with (Stmt 74 1 false 4294967295 (Block done)) ([]) 1)) ∷ [])
    (codes "q" ∷ [])
    101 39

jumps_run : told jumps [] 1000 ≡ record {
  events =
      (event kind.Init 1 Absent Absent (Some 18) slot.None val.None ([]) ([])) ∷
      (event kind.New 93 Absent Absent (Some 16777233) slot.None (val.Int (pos 0)) ([]) ([])) ∷
      (event kind.Call 93 Absent Absent (Some 39) slot.None val.None ([]) ([])) ∷
      (event kind.Bind 98 (Some 2) (Some 2) Absent (slot.Local 2 0) (val.Object 1) ([]) (used.Value 1 ∷ [])) ∷
      (event kind.Call 108 (Some 2) (Some 2) (Some 37) slot.None val.None ([]) ([])) ∷
      (event kind.Bind 8 (Some 4) (Some 4) Absent (slot.Local 4 0) (val.Int (pos 3)) ([]) ([])) ∷
      (event kind.Set 16 (Some 4) (Some 4) Absent (slot.Local 4 1) (val.Int (pos 0)) ([]) ([])) ∷
      (event kind.Test 13 (Some 4) (Some 4) Absent slot.None (val.Arm 1) ([]) (used.Place (slot.Local 4 1) 7 ∷ used.Place (slot.Local 4 0) 7 ∷ [])) ∷
      (event kind.Test 30 (Some 4) (Some 7) Absent slot.None (val.Arm 0) ([]) (used.Place (slot.Local 4 1) 8 ∷ [])) ∷
      (event kind.Test 39 (Some 4) (Some 8) Absent slot.None (val.Arm 0) ([]) (used.Place (slot.Local 4 1) 9 ∷ [])) ∷
      (event kind.Test 47 (Some 4) (Some 9) Absent slot.None (val.Arm 0) ([]) (used.Place (slot.Local 4 0) 10 ∷ [])) ∷
      (event kind.Call 74 (Some 4) (Some 10) (Some 38) slot.None val.None ([]) ([])) ∷
      (event kind.Return 89 (Some 11) (Some 11) Absent slot.None val.None ([]) ([])) ∷
      (event kind.Set 25 (Some 4) (Some 9) Absent (slot.Local 4 1) (val.Int (pos 1)) ([]) (used.Place (slot.Local 4 1) 13 ∷ [])) ∷
      (event kind.Test 13 (Some 4) (Some 9) Absent slot.None (val.Arm 1) ([]) (used.Place (slot.Local 4 1) 14 ∷ used.Place (slot.Local 4 0) 14 ∷ [])) ∷
      (event kind.Test 30 (Some 4) (Some 14) Absent slot.None (val.Arm 1) ([]) (used.Place (slot.Local 4 1) 15 ∷ [])) ∷
      (event kind.Jump 36 (Some 4) (Some 15) Absent slot.None val.None ([]) ([])) ∷
      (event kind.Call 74 (Some 4) (Some 15) (Some 38) slot.None val.None ([]) ([])) ∷
      (event kind.Return 89 (Some 17) (Some 17) Absent slot.None val.None ([]) ([])) ∷
      (event kind.Set 25 (Some 4) (Some 14) Absent (slot.Local 4 1) (val.Int (pos 2)) ([]) (used.Place (slot.Local 4 1) 19 ∷ [])) ∷
      (event kind.Test 13 (Some 4) (Some 14) Absent slot.None (val.Arm 1) ([]) (used.Place (slot.Local 4 1) 20 ∷ used.Place (slot.Local 4 0) 20 ∷ [])) ∷
      (event kind.Test 30 (Some 4) (Some 20) Absent slot.None (val.Arm 0) ([]) (used.Place (slot.Local 4 1) 21 ∷ [])) ∷
      (event kind.Test 39 (Some 4) (Some 21) Absent slot.None (val.Arm 1) ([]) (used.Place (slot.Local 4 1) 22 ∷ [])) ∷
      (event kind.Jump 45 (Some 4) (Some 22) Absent slot.None val.None ([]) ([])) ∷
      (event kind.Call 74 (Some 4) (Some 22) (Some 38) slot.None val.None ([]) ([])) ∷
      (event kind.Return 89 (Some 24) (Some 24) Absent slot.None val.None ([]) ([])) ∷
      (event kind.Return 79 (Some 4) (Some 20) Absent slot.None (val.Int (pos 1)) ([]) ([])) ∷
      (event kind.Print 106 (Some 2) (Some 2) Absent slot.None (val.Int (pos 1)) ([]) (used.Value 26 ∷ [])) ∷
      (event kind.Call 120 (Some 2) (Some 2) (Some 37) slot.None val.None ([]) ([])) ∷
      (event kind.Bind 8 (Some 28) (Some 28) Absent (slot.Local 28 0) (val.Int (pos 9)) ([]) ([])) ∷
      (event kind.Set 16 (Some 28) (Some 28) Absent (slot.Local 28 1) (val.Int (pos 0)) ([]) ([])) ∷
      (event kind.Test 13 (Some 28) (Some 28) Absent slot.None (val.Arm 1) ([]) (used.Place (slot.Local 28 1) 31 ∷ used.Place (slot.Local 28 0) 31 ∷ [])) ∷
      (event kind.Test 30 (Some 28) (Some 31) Absent slot.None (val.Arm 0) ([]) (used.Place (slot.Local 28 1) 32 ∷ [])) ∷
      (event kind.Test 39 (Some 28) (Some 32) Absent slot.None (val.Arm 0) ([]) (used.Place (slot.Local 28 1) 33 ∷ [])) ∷
      (event kind.Test 47 (Some 28) (Some 33) Absent slot.None (val.Arm 1) ([]) (used.Place (slot.Local 28 0) 34 ∷ [])) ∷
      (event kind.New 54 (Some 28) (Some 34) (Some 21) slot.None val.None ([]) ([])) ∷
      (event kind.Call 54 (Some 28) (Some 34) (Some 11) slot.None val.None ([]) ([])) ∷
      (event kind.Bind 2147483659 (Some 36) (Some 36) Absent (slot.Local 36 0) (val.Object 35) ([]) (used.Value 35 ∷ [])) ∷
      (event kind.Bind 2147483659 (Some 36) (Some 36) Absent (slot.Local 36 1) (val.Fixed 1) ([]) ([])) ∷
      (event kind.Call 2147483659 (Some 36) (Some 36) (Some 7) slot.None val.None ([]) ([])) ∷
      (event kind.Bind 2147483655 (Some 39) (Some 39) Absent (slot.Local 39 0) (val.Object 35) ([]) (used.Place (slot.Local 36 0) 39 ∷ [])) ∷
      (event kind.Bind 2147483655 (Some 39) (Some 39) Absent (slot.Local 39 1) (val.Fixed 1) ([]) (used.Place (slot.Local 36 1) 39 ∷ [])) ∷
      (event kind.Call 2147483655 (Some 39) (Some 39) (Some 3) slot.None val.None ([]) ([])) ∷
      (event kind.Bind 2147483651 (Some 42) (Some 42) Absent (slot.Local 42 0) (val.Object 35) ([]) (used.Place (slot.Local 39 0) 42 ∷ [])) ∷
      (event kind.Bind 2147483651 (Some 42) (Some 42) Absent (slot.Local 42 1) (val.Fixed 1) ([]) (used.Place (slot.Local 39 1) 42 ∷ [])) ∷
      (event kind.Set 2147483651 (Some 42) (Some 42) Absent (slot.Field 35 0) (val.Fixed 1) ([]) (used.Place (slot.Local 42 0) 45 ∷ used.Place (slot.Local 42 1) 45 ∷ [])) ∷
      (event kind.Return 2147483651 (Some 42) (Some 42) Absent slot.None val.None ([]) ([])) ∷
      (event kind.Return 2147483655 (Some 39) (Some 39) Absent slot.None val.None ([]) ([])) ∷
      (event kind.Return 2147483659 (Some 36) (Some 36) Absent slot.None val.None ([]) ([])) ∷
      (event kind.Throw 53 (Some 28) (Some 34) Absent slot.None (val.Object 35) ([]) (used.Value 35 ∷ [])) ∷
      (event kind.Catch 64 (Some 28) (Some 34) Absent (slot.Local 28 2) (val.Object 35) ([]) (used.Value 49 ∷ [])) ∷
      (event kind.Return 67 (Some 28) (Some 50) Absent slot.None (val.Int (pos 7)) ([]) ([])) ∷
      (event kind.Call 74 (Some 28) (Some 34) (Some 38) slot.None val.None ([]) ([])) ∷
      (event kind.Return 89 (Some 52) (Some 52) Absent slot.None val.None ([]) ([])) ∷
      (event kind.Print 118 (Some 2) (Some 2) Absent slot.None (val.Int (pos 7)) ([]) (used.Value 51 ∷ [])) ∷
      (event kind.Set 126 (Some 2) (Some 2) Absent (slot.Local 2 1) val.Null ([]) ([])) ∷
      (event kind.New 133 (Some 2) (Some 2) (Some 32) slot.None val.None ([]) (used.Place (slot.Local 2 1) 56 ∷ [])) ∷
      (event kind.Throw 133 (Some 2) (Some 2) Absent slot.None (val.Object 56) ([]) (used.Value 56 ∷ [])) ∷
      [];
  output = codes "1\n7\n";
  stop = 1;
  last = Some 57;
  steps = 131;
  uses = 33;
  coverage = (cover 1 1 (Some 1) never_left) ∷ (cover 0 0 Absent never_left) ∷ (cover 2 0 (Some 6) 51) ∷ (cover 2 1 (Some 6) 51) ∷ (cover 2 1 (Some 6) 51) ∷ (cover 2 2 (Some 6) never_left) ∷ (cover 2 2 (Some 13) never_left) ∷ (cover 4 2 (Some 8) 51) ∷ (cover 4 1 (Some 8) 51) ∷ (cover 4 1 (Some 8) 49) ∷ (cover 4 3 (Some 8) 16) ∷ (cover 1 0 (Some 16) 16) ∷ (cover 3 2 (Some 9) 23) ∷ (cover 1 0 (Some 23) 23) ∷ (cover 2 1 (Some 10) 49) ∷ (cover 1 0 (Some 35) 49) ∷ (cover 1 0 (Some 51) 51) ∷ (cover 1 0 (Some 51) 51) ∷ (cover 4 4 (Some 11) never_left) ∷ (cover 4 4 (Some 11) never_left) ∷ (cover 1 0 (Some 26) 26) ∷ (cover 4 4 (Some 12) never_left) ∷ (cover 1 0 (Some 4) 57) ∷ (cover 1 1 (Some 4) never_left) ∷ (cover 1 1 (Some 28) never_left) ∷ (cover 1 1 (Some 55) never_left) ∷ (cover 1 0 (Some 56) 57) ∷ [];
}
unfolding told
jumps_run = refl
