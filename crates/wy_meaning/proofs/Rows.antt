-- Worked runs: a small program, an assignment inside an operand, tests that guard a return and a continue, an overridden method in a constructor, `finally` over a throw.
use Rattle.std.proofs.Common.{◌≡◌, refl}
use Rattle.std.specs.Prelude.{pos, true, false, [], ◌∷◌, Some, codes}
use Rattle.std.specs.Prelude.{None as Absent}
use Rattle.wy_kernel.specs.declared.operator.Primitive.TheVariants as prim
use Rattle.wy_kernel.specs.declared.operator.BinOp.TheVariants as op
use Rattle.wy_kernel.specs.declared.types.Base.TheVariants.{Primitive as Basic, Class as Named}
use Rattle.wy_kernel.specs.declared.types.Ty.TheVariants.{Void, Of}
use Rattle.wy_kernel.specs.declared.types.MethodForm.TheVariants as kinds
use Rattle.wy_kernel.specs.declared.form.CallForm.TheVariants as calling
use Rattle.wy_kernel.specs.Form.{Int, Const, Str, Read, Set, Bin, New, Call, Local, Field, absent, the, none, more, Stmt, Block, Eval, If, While, Jump, Return, Throw, Try, Print, nothing, this, done, first, uncaught}
use Rattle.wy_kernel.specs.Program.{Program}
use Rattle.wy_value.specs.declared.value.Value.TheVariants as val
use Rattle.wy_event.specs.declared.record.Kind.TheVariants as kind
use Rattle.wy_event.specs.declared.record.Slot.TheVariants as slot
use Rattle.wy_event.specs.declared.record.Use.TheVariants as used
use Rattle.wy_steps.specs.Steps.{never_left}
use Rattle.wy_meaning.proofs.Computed.{told, event, cover, class_named, method_named, field_named, body_with}
use Rattle.wy_meaning.proofs.Builtin.{program}

-- class Main {
--   public static void main(String[] args) {
--     int x = 2;
--     int y = 0;
--     if (x > 1) {
--       y = x + 3;
--     }
--     System.out.println(y);
--   }
-- }
abbrev pub p1 : Program
p1 = program
    ((class_named (codes "Main") 1 (Some 0) ([])) ∷ [])
    ((method_named (codes "new") 1 18 ([]) Void kinds.Constructor) ∷ (method_named (codes "main") 6 18 (Of (Named 1) 1 ∷ []) Void kinds.Static) ∷ [])
    ([])
    ((Some (body_with (Stmt 75 1 false 4294967295 (Block done)) (1 ∷ []) 1)) ∷ (Some (body_with (Stmt 76 13 false 4294967295 (Block (first (Stmt 77 15 true 4294967295 (Eval (Set (Local 1) (Const (Int (pos 2))) 15))) (first (Stmt 78 20 true 4294967295 (Eval (Set (Local 2) (Const (Int (pos 0))) 20))) (first (Stmt 79 24 true 79 (If (Bin op.Gt (Read (Local 1)) (Const (Int (pos 1))) 0) (Stmt 80 30 false 4294967295 (Block (first (Stmt 81 31 true 4294967295 (Eval (Set (Local 2) (Bin op.Add (Read (Local 1)) (Const (Int (pos 3))) 0) 32))) done))) nothing)) (first (Stmt 82 38 true 4294967295 (Print (the (Read (Local 2))) Void true 43)) done)))))) (11 ∷ 15 ∷ 20 ∷ []) 47)) ∷ [])
    ((Some (body_with (Stmt 74 1 false 4294967295 (Block done)) ([]) 1)) ∷ [])
    ([])
    83 37

p1_run : told p1 [] 1000 ≡ record {
  events =
      (event kind.Init 1 Absent Absent (Some 18) slot.None val.None ([]) ([])) ∷
      (event kind.New 6 Absent Absent (Some 16777233) slot.None (val.Int (pos 0)) ([]) ([])) ∷
      (event kind.Call 6 Absent Absent (Some 37) slot.None val.None ([]) ([])) ∷
      (event kind.Bind 11 (Some 2) (Some 2) Absent (slot.Local 2 0) (val.Object 1) ([]) (used.Value 1 ∷ [])) ∷
      (event kind.Set 15 (Some 2) (Some 2) Absent (slot.Local 2 1) (val.Int (pos 2)) ([]) ([])) ∷
      (event kind.Set 20 (Some 2) (Some 2) Absent (slot.Local 2 2) (val.Int (pos 0)) ([]) ([])) ∷
      (event kind.Test 24 (Some 2) (Some 2) Absent slot.None (val.Arm 1) ([]) (used.Place (slot.Local 2 1) 6 ∷ [])) ∷
      (event kind.Set 32 (Some 2) (Some 6) Absent (slot.Local 2 2) (val.Int (pos 5)) ([]) (used.Place (slot.Local 2 1) 7 ∷ [])) ∷
      (event kind.Print 43 (Some 2) (Some 2) Absent slot.None (val.Int (pos 5)) ([]) (used.Place (slot.Local 2 2) 8 ∷ [])) ∷
      (event kind.Return 47 (Some 2) (Some 2) Absent slot.None val.None ([]) ([])) ∷
      [];
  output = codes "5\n";
  stop = 0;
  last = Absent;
  steps = 20;
  uses = 4;
  coverage = (cover 1 1 (Some 1) never_left) ∷ (cover 0 0 Absent never_left) ∷ (cover 1 1 (Some 4) never_left) ∷ (cover 1 1 (Some 4) never_left) ∷ (cover 1 1 (Some 5) never_left) ∷ (cover 1 1 (Some 6) never_left) ∷ (cover 1 1 (Some 7) never_left) ∷ (cover 1 1 (Some 7) never_left) ∷ (cover 1 1 (Some 8) never_left) ∷ [];
}
unfolding told
p1_run = refl

-- class Main {
--   public static void main(String[] a) {
--     int x = 1; int y = x + (x = 5);
--     System.out.println(y);
--   }
-- }
abbrev pub assign_in_operand : Program
assign_in_operand = program
    ((class_named (codes "Main") 1 (Some 0) ([])) ∷ [])
    ((method_named (codes "new") 1 18 ([]) Void kinds.Constructor) ∷ (method_named (codes "main") 6 18 (Of (Named 1) 1 ∷ []) Void kinds.Static) ∷ [])
    ([])
    ((Some (body_with (Stmt 75 1 false 4294967295 (Block done)) (1 ∷ []) 1)) ∷ (Some (body_with (Stmt 76 13 false 4294967295 (Block (first (Stmt 77 15 true 4294967295 (Eval (Set (Local 1) (Const (Int (pos 1))) 15))) (first (Stmt 78 20 true 4294967295 (Eval (Set (Local 2) (Bin op.Add (Read (Local 1)) (Set (Local 1) (Const (Int (pos 5))) 26) 0) 20))) (first (Stmt 79 30 true 4294967295 (Print (the (Read (Local 2))) Void true 35)) done))))) (11 ∷ 15 ∷ 20 ∷ []) 39)) ∷ [])
    ((Some (body_with (Stmt 74 1 false 4294967295 (Block done)) ([]) 1)) ∷ [])
    ([])
    80 37

assign_in_operand_run : told assign_in_operand [] 1000 ≡ record {
  events =
      (event kind.Init 1 Absent Absent (Some 18) slot.None val.None ([]) ([])) ∷
      (event kind.New 6 Absent Absent (Some 16777233) slot.None (val.Int (pos 0)) ([]) ([])) ∷
      (event kind.Call 6 Absent Absent (Some 37) slot.None val.None ([]) ([])) ∷
      (event kind.Bind 11 (Some 2) (Some 2) Absent (slot.Local 2 0) (val.Object 1) ([]) (used.Value 1 ∷ [])) ∷
      (event kind.Set 15 (Some 2) (Some 2) Absent (slot.Local 2 1) (val.Int (pos 1)) ([]) ([])) ∷
      (event kind.Set 26 (Some 2) (Some 2) Absent (slot.Local 2 1) (val.Int (pos 5)) ([]) ([])) ∷
      (event kind.Set 20 (Some 2) (Some 2) Absent (slot.Local 2 2) (val.Int (pos 6)) ([]) (used.Place (slot.Local 2 1) 5 ∷ used.Value 5 ∷ [])) ∷
      (event kind.Print 35 (Some 2) (Some 2) Absent slot.None (val.Int (pos 6)) ([]) (used.Place (slot.Local 2 2) 7 ∷ [])) ∷
      (event kind.Return 39 (Some 2) (Some 2) Absent slot.None val.None ([]) ([])) ∷
      [];
  output = codes "6\n";
  stop = 0;
  last = Absent;
  steps = 13;
  uses = 4;
  coverage = (cover 1 1 (Some 1) never_left) ∷ (cover 0 0 Absent never_left) ∷ (cover 1 1 (Some 4) never_left) ∷ (cover 1 1 (Some 4) never_left) ∷ (cover 1 1 (Some 5) never_left) ∷ (cover 1 1 (Some 7) never_left) ∷ [];
}
unfolding told
assign_in_operand_run = refl

-- class Main {
--   public static void main(String[] a) {
--     int i = 0;
--     while (i < 2) {
--       i = i + 1;
--       if (i == 5) return;
--       if (i == 1) continue;
--       System.out.println(i);
--     }
--   }
-- }
abbrev pub loop_guards : Program
loop_guards = program
    ((class_named (codes "Main") 1 (Some 0) ([])) ∷ [])
    ((method_named (codes "new") 1 18 ([]) Void kinds.Constructor) ∷ (method_named (codes "main") 6 18 (Of (Named 1) 1 ∷ []) Void kinds.Static) ∷ [])
    ([])
    ((Some (body_with (Stmt 75 1 false 4294967295 (Block done)) (1 ∷ []) 1)) ∷ (Some (body_with (Stmt 76 13 false 4294967295 (Block (first (Stmt 77 15 true 4294967295 (Eval (Set (Local 1) (Const (Int (pos 0))) 15))) (first (Stmt 78 19 true 76 (While (Bin op.Lt (Read (Local 1)) (Const (Int (pos 2))) 0) (Stmt 79 25 false 4294967295 (Block (first (Stmt 80 26 true 4294967295 (Eval (Set (Local 1) (Bin op.Add (Read (Local 1)) (Const (Int (pos 1))) 0) 27))) (first (Stmt 81 32 true 76 (If (Bin op.Eq (Read (Local 1)) (Const (Int (pos 5))) 0) (Stmt 82 38 true 4294967295 (Return absent)) nothing)) (first (Stmt 83 40 true 79 (If (Bin op.Eq (Read (Local 1)) (Const (Int (pos 1))) 0) (Stmt 84 46 true 4294967295 (Jump 79)) nothing)) (first (Stmt 85 48 true 4294967295 (Print (the (Read (Local 1))) Void true 53)) done)))))))) done)))) (11 ∷ 15 ∷ []) 58)) ∷ [])
    ((Some (body_with (Stmt 74 1 false 4294967295 (Block done)) ([]) 1)) ∷ [])
    ([])
    86 37

loop_guards_run : told loop_guards [] 1000 ≡ record {
  events =
      (event kind.Init 1 Absent Absent (Some 18) slot.None val.None ([]) ([])) ∷
      (event kind.New 6 Absent Absent (Some 16777233) slot.None (val.Int (pos 0)) ([]) ([])) ∷
      (event kind.Call 6 Absent Absent (Some 37) slot.None val.None ([]) ([])) ∷
      (event kind.Bind 11 (Some 2) (Some 2) Absent (slot.Local 2 0) (val.Object 1) ([]) (used.Value 1 ∷ [])) ∷
      (event kind.Set 15 (Some 2) (Some 2) Absent (slot.Local 2 1) (val.Int (pos 0)) ([]) ([])) ∷
      (event kind.Test 19 (Some 2) (Some 2) Absent slot.None (val.Arm 1) ([]) (used.Place (slot.Local 2 1) 5 ∷ [])) ∷
      (event kind.Set 27 (Some 2) (Some 5) Absent (slot.Local 2 1) (val.Int (pos 1)) ([]) (used.Place (slot.Local 2 1) 6 ∷ [])) ∷
      (event kind.Test 32 (Some 2) (Some 5) Absent slot.None (val.Arm 0) ([]) (used.Place (slot.Local 2 1) 7 ∷ [])) ∷
      (event kind.Test 40 (Some 2) (Some 7) Absent slot.None (val.Arm 1) ([]) (used.Place (slot.Local 2 1) 8 ∷ [])) ∷
      (event kind.Jump 46 (Some 2) (Some 8) Absent slot.None val.None ([]) ([])) ∷
      (event kind.Test 19 (Some 2) (Some 7) Absent slot.None (val.Arm 1) ([]) (used.Place (slot.Local 2 1) 10 ∷ [])) ∷
      (event kind.Set 27 (Some 2) (Some 10) Absent (slot.Local 2 1) (val.Int (pos 2)) ([]) (used.Place (slot.Local 2 1) 11 ∷ [])) ∷
      (event kind.Test 32 (Some 2) (Some 10) Absent slot.None (val.Arm 0) ([]) (used.Place (slot.Local 2 1) 12 ∷ [])) ∷
      (event kind.Test 40 (Some 2) (Some 12) Absent slot.None (val.Arm 0) ([]) (used.Place (slot.Local 2 1) 13 ∷ [])) ∷
      (event kind.Print 53 (Some 2) (Some 13) Absent slot.None (val.Int (pos 2)) ([]) (used.Place (slot.Local 2 1) 14 ∷ [])) ∷
      (event kind.Test 19 (Some 2) (Some 12) Absent slot.None (val.Arm 0) ([]) (used.Place (slot.Local 2 1) 15 ∷ [])) ∷
      (event kind.Return 58 (Some 2) (Some 2) Absent slot.None val.None ([]) ([])) ∷
      [];
  output = codes "2\n";
  stop = 0;
  last = Absent;
  steps = 46;
  uses = 11;
  coverage = (cover 1 1 (Some 1) never_left) ∷ (cover 0 0 Absent never_left) ∷ (cover 1 1 (Some 4) never_left) ∷ (cover 1 1 (Some 4) never_left) ∷ (cover 1 1 (Some 5) never_left) ∷ (cover 2 2 (Some 6) never_left) ∷ (cover 2 2 (Some 6) never_left) ∷ (cover 2 2 (Some 7) never_left) ∷ (cover 0 0 Absent never_left) ∷ (cover 2 1 (Some 8) 9) ∷ (cover 1 0 (Some 9) 9) ∷ (cover 1 1 (Some 14) never_left) ∷ [];
}
unfolding told
loop_guards_run = refl

-- class A { A() { show(); } void show() { System.out.println(1); } }
-- class B extends A { int v = 7; void show() { System.out.println(v); } }
-- class Main { public static void main(String[] a) { new B(); } }
abbrev pub overridden_in_constructor : Program
overridden_in_constructor = program
    ((class_named (codes "A") 1 (Some 0) ([])) ∷ (class_named (codes "B") 29 (Some 18) ([])) ∷ (class_named (codes "Main") 55 (Some 0) ([])) ∷ [])
    ((method_named (codes "new") 3 18 ([]) Void kinds.Constructor) ∷ (method_named (codes "show") 13 18 ([]) Void kinds.Instance) ∷ (method_named (codes "<fields>") 29 19 ([]) Void kinds.Fields) ∷ (method_named (codes "new") 29 19 ([]) Void kinds.Constructor) ∷ (method_named (codes "show") 39 19 ([]) Void kinds.Instance) ∷ (method_named (codes "new") 55 20 ([]) Void kinds.Constructor) ∷ (method_named (codes "main") 60 20 (Of (Named 1) 1 ∷ []) Void kinds.Static) ∷ [])
    ((field_named (codes "v") 34 19 (Of (Basic prim.Int) 0) false) ∷ [])
    ((Some (body_with (Stmt 75 6 false 4294967295 (Block (first (Stmt 76 7 true 4294967295 (Eval (Call calling.Chosen 37 (the (Read (Local 0))) (Of (Named 18) 0) none 8))) done))) (3 ∷ []) 11)) ∷ (Some (body_with (Stmt 77 16 false 4294967295 (Block (first (Stmt 78 17 true 4294967295 (Print (the (Const (Int (pos 1)))) Void true 22)) done))) (13 ∷ []) 26)) ∷ (Some (body_with (Stmt 80 29 false 4294967295 (Block (first (Stmt 84 34 true 4294967295 (Eval (Set (Field (Read (Local 0)) 1 34) (Const (Int (pos 7))) 34))) done))) (29 ∷ []) 29)) ∷ (Some (body_with (Stmt 81 29 false 4294967295 (Block (first (Stmt 82 29 false 4294967295 (Eval (Call calling.Direct 36 (the (Read (Local 0))) (Of (Named 18) 0) none 29))) (first (Stmt 83 29 false 4294967295 (Eval (Call calling.Direct 38 (the (Read (Local 0))) (Of (Named 19) 0) none 29))) done)))) (29 ∷ []) 29)) ∷ (Some (body_with (Stmt 85 42 false 4294967295 (Block (first (Stmt 86 43 true 4294967295 (Print (the (Read (Field (Read (Local 0)) 1 49))) Void true 48)) done))) (39 ∷ []) 52)) ∷ (Some (body_with (Stmt 88 55 false 4294967295 (Block done)) (55 ∷ []) 55)) ∷ (Some (body_with (Stmt 89 67 false 4294967295 (Block (first (Stmt 90 68 true 4294967295 (Eval (New 19 (Some 39) none 68))) done))) (65 ∷ []) 73)) ∷ [])
    ((Some (body_with (Stmt 74 1 false 4294967295 (Block done)) ([]) 1)) ∷ (Some (body_with (Stmt 79 29 false 4294967295 (Block done)) ([]) 29)) ∷ (Some (body_with (Stmt 87 55 false 4294967295 (Block done)) ([]) 55)) ∷ [])
    ([])
    91 42

overridden_in_constructor_run : told overridden_in_constructor [] 1000 ≡ record {
  events =
      (event kind.Init 55 Absent Absent (Some 20) slot.None val.None ([]) ([])) ∷
      (event kind.New 60 Absent Absent (Some 16777233) slot.None (val.Int (pos 0)) ([]) ([])) ∷
      (event kind.Call 60 Absent Absent (Some 42) slot.None val.None ([]) ([])) ∷
      (event kind.Bind 65 (Some 2) (Some 2) Absent (slot.Local 2 0) (val.Object 1) ([]) (used.Value 1 ∷ [])) ∷
      (event kind.Init 68 (Some 2) (Some 2) (Some 19) slot.None val.None ([]) ([])) ∷
      (event kind.Init 29 (Some 4) (Some 4) (Some 18) slot.None val.None ([]) ([])) ∷
      (event kind.New 68 (Some 2) (Some 2) (Some 35) slot.None val.None ([]) ([])) ∷
      (event kind.Call 68 (Some 2) (Some 2) (Some 39) slot.None val.None ([]) ([])) ∷
      (event kind.Bind 29 (Some 7) (Some 7) Absent (slot.Local 7 0) (val.Object 6) ([]) (used.Value 6 ∷ [])) ∷
      (event kind.Call 29 (Some 7) (Some 7) (Some 36) slot.None val.None ([]) ([])) ∷
      (event kind.Bind 3 (Some 9) (Some 9) Absent (slot.Local 9 0) (val.Object 6) ([]) (used.Place (slot.Local 7 0) 9 ∷ [])) ∷
      (event kind.Call 8 (Some 9) (Some 9) (Some 40) slot.None val.None ([]) (used.Place (slot.Local 9 0) 11 ∷ [])) ∷
      (event kind.Bind 39 (Some 11) (Some 11) Absent (slot.Local 11 0) (val.Object 6) ([]) (used.Place (slot.Local 9 0) 11 ∷ [])) ∷
      (event kind.Print 48 (Some 11) (Some 11) Absent slot.None (val.Int (pos 0)) ([]) (used.Place (slot.Local 11 0) 13 ∷ used.Place (slot.Field 6 1) 13 ∷ [])) ∷
      (event kind.Return 52 (Some 11) (Some 11) Absent slot.None val.None ([]) ([])) ∷
      (event kind.Return 11 (Some 9) (Some 9) Absent slot.None val.None ([]) ([])) ∷
      (event kind.Call 29 (Some 7) (Some 7) (Some 38) slot.None val.None ([]) (used.Place (slot.Local 7 0) 16 ∷ [])) ∷
      (event kind.Bind 29 (Some 16) (Some 16) Absent (slot.Local 16 0) (val.Object 6) ([]) (used.Place (slot.Local 7 0) 16 ∷ [])) ∷
      (event kind.Set 34 (Some 16) (Some 16) Absent (slot.Field 6 1) (val.Int (pos 7)) ([]) (used.Place (slot.Local 16 0) 18 ∷ [])) ∷
      (event kind.Return 29 (Some 16) (Some 16) Absent slot.None val.None ([]) ([])) ∷
      (event kind.Return 29 (Some 7) (Some 7) Absent slot.None val.None ([]) ([])) ∷
      (event kind.Return 73 (Some 2) (Some 2) Absent slot.None val.None ([]) ([])) ∷
      [];
  output = codes "0\n";
  stop = 0;
  last = Absent;
  steps = 26;
  uses = 10;
  coverage = (cover 1 1 (Some 6) never_left) ∷ (cover 1 1 (Some 11) never_left) ∷ (cover 1 1 (Some 11) never_left) ∷ (cover 0 0 Absent never_left) ∷ (cover 0 0 Absent never_left) ∷ (cover 1 1 (Some 6) never_left) ∷ (cover 1 1 (Some 18) never_left) ∷ (cover 1 1 (Some 9) never_left) ∷ (cover 1 1 (Some 9) never_left) ∷ (cover 1 1 (Some 16) never_left) ∷ (cover 1 1 (Some 18) never_left) ∷ (cover 1 1 (Some 13) never_left) ∷ (cover 1 1 (Some 13) never_left) ∷ (cover 1 1 (Some 1) never_left) ∷ (cover 0 0 Absent never_left) ∷ (cover 1 1 (Some 4) never_left) ∷ (cover 1 1 (Some 4) never_left) ∷ [];
}
unfolding told
overridden_in_constructor_run = refl

-- class Main {
--   static int f() { try { throw new RuntimeException("a"); } finally { return 2; } }
--   public static void main(String[] a) { System.out.println(f()); }
-- }
abbrev return_in_finally : Program
return_in_finally = program
    ((class_named (codes "Main") 1 (Some 0) ([])) ∷ [])
    ((method_named (codes "new") 1 18 ([]) Void kinds.Constructor) ∷ (method_named (codes "f") 5 18 ([]) (Of (Basic prim.Int) 0) kinds.Static) ∷ (method_named (codes "main") 29 18 (Of (Named 1) 1 ∷ []) Void kinds.Static) ∷ [])
    ([])
    ((Some (body_with (Stmt 75 1 false 4294967295 (Block done)) (1 ∷ []) 1)) ∷ (Some (body_with (Stmt 76 8 false 4294967295 (Block (first (Stmt 77 9 true 4294967295 (Try (Stmt 78 10 false 4294967295 (Block (first (Stmt 79 11 true 4294967295 (Throw (New 5 (Some 11) (more (Str 1) none) 12))) done))) uncaught (this (Stmt 80 20 false 4294967295 (Block (first (Stmt 81 21 true 4294967295 (Return (the (Const (Int (pos 2)))))) done)))))) done))) ([]) 25)) ∷ (Some (body_with (Stmt 82 36 false 4294967295 (Block (first (Stmt 83 37 true 4294967295 (Print (the (Call calling.Static 37 absent Void none 44)) Void true 42)) done))) (34 ∷ []) 48)) ∷ [])
    ((Some (body_with (Stmt 74 1 false 4294967295 (Block done)) ([]) 1)) ∷ [])
    (codes "a" ∷ [])
    84 38

return_in_finally_run : told return_in_finally [] 1000 ≡ record {
  events =
      (event kind.Init 1 Absent Absent (Some 18) slot.None val.None ([]) ([])) ∷
      (event kind.New 29 Absent Absent (Some 16777233) slot.None (val.Int (pos 0)) ([]) ([])) ∷
      (event kind.Call 29 Absent Absent (Some 38) slot.None val.None ([]) ([])) ∷
      (event kind.Bind 34 (Some 2) (Some 2) Absent (slot.Local 2 0) (val.Object 1) ([]) (used.Value 1 ∷ [])) ∷
      (event kind.Call 44 (Some 2) (Some 2) (Some 37) slot.None val.None ([]) ([])) ∷
      (event kind.New 12 (Some 4) (Some 4) (Some 21) slot.None val.None ([]) ([])) ∷
      (event kind.Call 12 (Some 4) (Some 4) (Some 11) slot.None val.None ([]) ([])) ∷
      (event kind.Bind 2147483659 (Some 6) (Some 6) Absent (slot.Local 6 0) (val.Object 5) ([]) (used.Value 5 ∷ [])) ∷
      (event kind.Bind 2147483659 (Some 6) (Some 6) Absent (slot.Local 6 1) (val.Fixed 1) ([]) ([])) ∷
      (event kind.Call 2147483659 (Some 6) (Some 6) (Some 7) slot.None val.None ([]) ([])) ∷
      (event kind.Bind 2147483655 (Some 9) (Some 9) Absent (slot.Local 9 0) (val.Object 5) ([]) (used.Place (slot.Local 6 0) 9 ∷ [])) ∷
      (event kind.Bind 2147483655 (Some 9) (Some 9) Absent (slot.Local 9 1) (val.Fixed 1) ([]) (used.Place (slot.Local 6 1) 9 ∷ [])) ∷
      (event kind.Call 2147483655 (Some 9) (Some 9) (Some 3) slot.None val.None ([]) ([])) ∷
      (event kind.Bind 2147483651 (Some 12) (Some 12) Absent (slot.Local 12 0) (val.Object 5) ([]) (used.Place (slot.Local 9 0) 12 ∷ [])) ∷
      (event kind.Bind 2147483651 (Some 12) (Some 12) Absent (slot.Local 12 1) (val.Fixed 1) ([]) (used.Place (slot.Local 9 1) 12 ∷ [])) ∷
      (event kind.Set 2147483651 (Some 12) (Some 12) Absent (slot.Field 5 0) (val.Fixed 1) ([]) (used.Place (slot.Local 12 0) 15 ∷ used.Place (slot.Local 12 1) 15 ∷ [])) ∷
      (event kind.Return 2147483651 (Some 12) (Some 12) Absent slot.None val.None ([]) ([])) ∷
      (event kind.Return 2147483655 (Some 9) (Some 9) Absent slot.None val.None ([]) ([])) ∷
      (event kind.Return 2147483659 (Some 6) (Some 6) Absent slot.None val.None ([]) ([])) ∷
      (event kind.Throw 11 (Some 4) (Some 4) Absent slot.None (val.Object 5) ([]) (used.Value 5 ∷ [])) ∷
      (event kind.Return 21 (Some 4) (Some 4) Absent slot.None (val.Int (pos 2)) ([]) ([])) ∷
      (event kind.Print 42 (Some 2) (Some 2) Absent slot.None (val.Int (pos 2)) ([]) (used.Value 20 ∷ [])) ∷
      (event kind.Return 48 (Some 2) (Some 2) Absent slot.None val.None ([]) ([])) ∷
      [];
  output = codes "2\n";
  stop = 0;
  last = Absent;
  steps = 28;
  uses = 10;
  coverage = (cover 1 1 (Some 1) never_left) ∷ (cover 0 0 Absent never_left) ∷ (cover 1 0 (Some 5) 20) ∷ (cover 1 0 (Some 5) 20) ∷ (cover 1 0 (Some 5) 19) ∷ (cover 1 0 (Some 5) 19) ∷ (cover 1 0 (Some 20) 20) ∷ (cover 1 0 (Some 20) 20) ∷ (cover 1 1 (Some 4) never_left) ∷ (cover 1 1 (Some 4) never_left) ∷ [];
}
unfolding told
return_in_finally_run = refl
