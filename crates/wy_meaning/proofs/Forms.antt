-- Runs told by hand from the rules: a test in a catch, choices and casts, `do` and a local without a value, operations of the library.
use Rattle.std.proofs.Common.{◌≡◌, refl}
use Rattle.std.specs.Prelude.{pos, negsuc, true, false, [], ◌∷◌, Some, codes}
use Rattle.std.specs.Prelude.{None as Absent}
use Rattle.wy_kernel.specs.declared.operator.Primitive.TheVariants as prim
use Rattle.wy_kernel.specs.declared.operator.BinOp.TheVariants as op
use Rattle.wy_kernel.specs.declared.operator.UnOp.TheVariants as un
use Rattle.wy_kernel.specs.declared.types.Base.TheVariants.{Primitive as Basic, Class as Named}
use Rattle.wy_kernel.specs.declared.types.Ty.TheVariants.{Void, Of}
use Rattle.wy_kernel.specs.declared.types.MethodForm.TheVariants as kinds
use Rattle.wy_kernel.specs.declared.form.CondForm.TheVariants as condition
use Rattle.wy_kernel.specs.declared.form.LibOp.TheVariants as lib
use Rattle.wy_kernel.specs.Form.{Truth, Int, Const, Str, Read, Set, Upd, Un, Bin, Cast, InstanceOf, Cond, NewArray, Lib, Local, Elem, absent, the, none, more, Stmt, Block, Eval, Declare, If, Do, Return, Try, Print, nothing, done, first, uncaught, catch}
use Rattle.wy_kernel.specs.Program.{Program}
use Rattle.wy_value.specs.declared.value.Value.TheVariants as val
use Rattle.wy_event.specs.declared.record.Kind.TheVariants as kind
use Rattle.wy_event.specs.declared.record.Slot.TheVariants as slot
use Rattle.wy_event.specs.declared.record.Use.TheVariants as used
use Rattle.wy_steps.specs.Steps.{going_on, never_left}
use Rattle.wy_meaning.proofs.Computed.{told, event, cover, class_named, method_named, body_with}
use Rattle.wy_meaning.proofs.Builtin.{program}

-- try { 1 / 0; } catch (RuntimeException e) { if (false) return; } println(1);
-- The test guards a `return`, so it is active until the end of the body.
abbrev test_in_a_catch : Program
test_in_a_catch = program
    ((class_named (codes "Main") 1 (Some 0) ([])) ∷ [])
    ((method_named (codes "new") 1 18 ([]) Void kinds.Constructor) ∷ (method_named (codes "main") 6 18 (Of (Named 1) 1 ∷ []) Void kinds.Static) ∷ [])
    ([])
    ((Some (body_with (Stmt 75 1 false 4294967295 (Block done)) (1 ∷ []) 1)) ∷ (Some (body_with (Stmt 76 8 true 4294967295 (Block (first (Stmt 77 10 true 4294967295 (Try (Stmt 78 11 true 4294967295 (Block (first (Stmt 79 12 true 4294967295 (Eval (Bin op.Div (Const (Int (pos 1))) (Const (Int (pos 0))) 13))) done))) (catch 5 1 20 (Stmt 80 21 true 4294967295 (Block (first (Stmt 81 22 true 76 (If (Const (Truth false)) (Stmt 82 23 true 4294967295 (Return absent)) nothing)) done))) uncaught) nothing)) (first (Stmt 83 28 true 4294967295 (Print (the (Const (Int (pos 1)))) Void true 30)) done)))) (11 ∷ 20 ∷ []) 40)) ∷ [])
    ((Some (body_with (Stmt 74 1 false 4294967295 (Block done)) ([]) 1)) ∷ [])
    ([])
    84 37

test_in_a_catch_run : told test_in_a_catch [] 1000 ≡ record {
  events =
      (event kind.Init 1 Absent Absent (Some 18) slot.None val.None ([]) ([])) ∷
      (event kind.New 6 Absent Absent (Some 16777233) slot.None (val.Int (pos 0)) ([]) ([])) ∷
      (event kind.Call 6 Absent Absent (Some 37) slot.None val.None ([]) ([])) ∷
      (event kind.Bind 11 (Some 2) (Some 2) Absent (slot.Local 2 0) (val.Object 1) ([]) (used.Value 1 ∷ [])) ∷
      (event kind.New 13 (Some 2) (Some 2) (Some 22) slot.None val.None ([]) ([])) ∷
      (event kind.Throw 13 (Some 2) (Some 2) Absent slot.None (val.Object 4) ([]) (used.Value 4 ∷ [])) ∷
      (event kind.Catch 20 (Some 2) (Some 2) Absent (slot.Local 2 1) (val.Object 4) ([]) (used.Value 5 ∷ [])) ∷
      (event kind.Test 22 (Some 2) (Some 6) Absent slot.None (val.Arm 0) ([]) ([])) ∷
      (event kind.Print 30 (Some 2) (Some 7) Absent slot.None (val.Int (pos 1)) ([]) ([])) ∷
      (event kind.Return 40 (Some 2) (Some 2) Absent slot.None val.None ([]) ([])) ∷
      [];
  output = codes "1\n";
  stop = 0;
  last = Absent;
  steps = 13;
  uses = 3;
  coverage = (cover 1 1 (Some 1) never_left) ∷ (cover 0 0 Absent never_left) ∷ (cover 1 1 (Some 4) never_left) ∷ (cover 1 1 (Some 4) never_left) ∷ (cover 1 0 (Some 4) 5) ∷ (cover 1 0 (Some 4) 5) ∷ (cover 1 1 (Some 7) never_left) ∷ (cover 1 1 (Some 7) never_left) ∷ (cover 0 0 Absent never_left) ∷ (cover 1 1 (Some 8) never_left) ∷ [];
}
unfolding told
test_in_a_catch_run = refl

-- int x = args instanceof Object ? -2 : 3; boolean b = x == -2 || false; Object o = (Object) args; Throwable t = (Throwable) o;
-- A Test of an expression ends with the expression. What was not chosen leaves no use, and an empty arm has the value of the condition.
abbrev choices_and_casts : Program
choices_and_casts = program
    ((class_named (codes "Main") 1 (Some 0) ([])) ∷ [])
    ((method_named (codes "new") 1 18 ([]) Void kinds.Constructor) ∷ (method_named (codes "main") 6 18 (Of (Named 1) 1 ∷ []) Void kinds.Static) ∷ [])
    ([])
    ((Some (body_with (Stmt 75 1 false 4294967295 (Block done)) (1 ∷ []) 1)) ∷ (Some (body_with (Stmt 76 8 true 4294967295 (Block (first (Stmt 77 10 true 4294967295 (Eval (Set (Local 1) (Cond condition.Choice (InstanceOf (Of (Named 0) 0) (Read (Local 0))) (the (Un un.Minus (Const (Int (pos 2))))) (the (Const (Int (pos 3)))) 12) 10))) (first (Stmt 78 14 true 4294967295 (Eval (Set (Local 2) (Cond condition.Or (Bin op.Eq (Read (Local 1)) (Const (Int (negsuc 1))) 0) absent (the (Const (Truth false))) 15) 14))) (first (Stmt 79 17 true 4294967295 (Eval (Set (Local 3) (Cast (Of (Named 0) 0) (Read (Local 0)) 18) 17))) (first (Stmt 80 19 true 4294967295 (Eval (Set (Local 4) (Cast (Of (Named 2) 0) (Read (Local 3)) 20) 19))) done)))))) (11 ∷ 10 ∷ 14 ∷ 17 ∷ 19 ∷ []) 40)) ∷ [])
    ((Some (body_with (Stmt 74 1 false 4294967295 (Block done)) ([]) 1)) ∷ [])
    ([])
    81 37

choices_and_casts_run : told choices_and_casts [] 1000 ≡ record {
  events =
      (event kind.Init 1 Absent Absent (Some 18) slot.None val.None ([]) ([])) ∷
      (event kind.New 6 Absent Absent (Some 16777233) slot.None (val.Int (pos 0)) ([]) ([])) ∷
      (event kind.Call 6 Absent Absent (Some 37) slot.None val.None ([]) ([])) ∷
      (event kind.Bind 11 (Some 2) (Some 2) Absent (slot.Local 2 0) (val.Object 1) ([]) (used.Value 1 ∷ [])) ∷
      (event kind.Test 12 (Some 2) (Some 2) Absent slot.None (val.Arm 1) ([]) (used.Place (slot.Local 2 0) 4 ∷ [])) ∷
      (event kind.Set 10 (Some 2) (Some 2) Absent (slot.Local 2 1) (val.Int (negsuc 1)) ([]) (used.Choice 4 ∷ [])) ∷
      (event kind.Test 15 (Some 2) (Some 2) Absent slot.None (val.Arm 1) ([]) (used.Place (slot.Local 2 1) 6 ∷ [])) ∷
      (event kind.Set 14 (Some 2) (Some 2) Absent (slot.Local 2 2) (val.Bool true) ([]) (used.Value 6 ∷ [])) ∷
      (event kind.Set 17 (Some 2) (Some 2) Absent (slot.Local 2 3) (val.Object 1) ([]) (used.Place (slot.Local 2 0) 8 ∷ [])) ∷
      (event kind.New 20 (Some 2) (Some 2) (Some 24) slot.None val.None ([]) (used.Place (slot.Local 2 3) 9 ∷ [])) ∷
      (event kind.Throw 20 (Some 2) (Some 2) Absent slot.None (val.Object 9) ([]) (used.Value 9 ∷ [])) ∷
      [];
  output = [];
  stop = 1;
  last = Some 10;
  steps = 23;
  uses = 8;
  coverage = (cover 1 1 (Some 1) never_left) ∷ (cover 0 0 Absent never_left) ∷ (cover 1 0 (Some 4) 10) ∷ (cover 1 1 (Some 4) never_left) ∷ (cover 1 1 (Some 6) never_left) ∷ (cover 1 1 (Some 8) never_left) ∷ (cover 1 0 (Some 9) 10) ∷ [];
}
unfolding told
choices_and_casts_run = refl

-- int x; int i = 0; do i++; while (i < 2); int y = x;
-- The body of a `do` comes first; a local without a value stops the run.
abbrev unassigned : Program
unassigned = program
    ((class_named (codes "Main") 1 (Some 0) ([])) ∷ [])
    ((method_named (codes "new") 1 18 ([]) Void kinds.Constructor) ∷ (method_named (codes "main") 6 18 (Of (Named 1) 1 ∷ []) Void kinds.Static) ∷ [])
    ([])
    ((Some (body_with (Stmt 75 1 false 4294967295 (Block done)) (1 ∷ []) 1)) ∷ (Some (body_with (Stmt 76 8 true 4294967295 (Block (first (Stmt 77 9 true 4294967295 (Declare 1)) (first (Stmt 78 12 true 4294967295 (Eval (Set (Local 2) (Const (Int (pos 0))) 12))) (first (Stmt 79 14 true 79 (Do (Stmt 80 15 true 4294967295 (Eval (Upd (Local 2) op.Add absent (Of (Basic prim.Int) 0) (Of (Basic prim.Int) 0) (Some prim.Int) true 16))) (Bin op.Lt (Read (Local 2)) (Const (Int (pos 2))) 0))) (first (Stmt 81 24 true 4294967295 (Eval (Set (Local 3) (Read (Local 1)) 24))) done)))))) (11 ∷ 9 ∷ 12 ∷ 24 ∷ []) 40)) ∷ [])
    ((Some (body_with (Stmt 74 1 false 4294967295 (Block done)) ([]) 1)) ∷ [])
    ([])
    82 37

unassigned_run : told unassigned [] 1000 ≡ record {
  events =
      (event kind.Init 1 Absent Absent (Some 18) slot.None val.None ([]) ([])) ∷
      (event kind.New 6 Absent Absent (Some 16777233) slot.None (val.Int (pos 0)) ([]) ([])) ∷
      (event kind.Call 6 Absent Absent (Some 37) slot.None val.None ([]) ([])) ∷
      (event kind.Bind 11 (Some 2) (Some 2) Absent (slot.Local 2 0) (val.Object 1) ([]) (used.Value 1 ∷ [])) ∷
      (event kind.Set 12 (Some 2) (Some 2) Absent (slot.Local 2 2) (val.Int (pos 0)) ([]) ([])) ∷
      (event kind.Set 16 (Some 2) (Some 2) Absent (slot.Local 2 2) (val.Int (pos 1)) ([]) (used.Place (slot.Local 2 2) 5 ∷ [])) ∷
      (event kind.Test 14 (Some 2) (Some 2) Absent slot.None (val.Arm 1) ([]) (used.Place (slot.Local 2 2) 6 ∷ [])) ∷
      (event kind.Set 16 (Some 2) (Some 6) Absent (slot.Local 2 2) (val.Int (pos 2)) ([]) (used.Place (slot.Local 2 2) 7 ∷ [])) ∷
      (event kind.Test 14 (Some 2) (Some 6) Absent slot.None (val.Arm 0) ([]) (used.Place (slot.Local 2 2) 8 ∷ [])) ∷
      [];
  output = [];
  stop = 9;
  last = Absent;
  steps = 20;
  uses = 5;
  coverage = (cover 1 1 (Some 1) never_left) ∷ (cover 0 0 Absent never_left) ∷ (cover 1 0 (Some 4) going_on) ∷ (cover 1 1 (Some 4) never_left) ∷ (cover 1 1 (Some 4) never_left) ∷ (cover 1 1 (Some 5) never_left) ∷ (cover 2 2 (Some 5) never_left) ∷ (cover 1 0 (Some 9) going_on) ∷ [];
}
unfolding told
unassigned_run = refl

-- Object[] o = new Main[1]; o[5] = "q";
-- The index is checked before the store.
abbrev bounds_before_store : Program
bounds_before_store = program
    ((class_named (codes "Main") 1 (Some 0) ([])) ∷ [])
    ((method_named (codes "new") 1 18 ([]) Void kinds.Constructor) ∷ (method_named (codes "main") 6 18 (Of (Named 1) 1 ∷ []) Void kinds.Static) ∷ [])
    ([])
    ((Some (body_with (Stmt 75 1 false 4294967295 (Block done)) (1 ∷ []) 1)) ∷ (Some (body_with (Stmt 76 8 true 4294967295 (Block (first (Stmt 77 17 true 4294967295 (Eval (Set (Local 1) (NewArray (Of (Named 18) 1) (more (Const (Int (pos 1))) none) none ([]) 19) 17))) (first (Stmt 78 30 true 4294967295 (Eval (Set (Elem (Read (Local 1)) (Const (Int (pos 5))) 31) (Str 1) 34))) done)))) (11 ∷ 17 ∷ []) 40)) ∷ [])
    ((Some (body_with (Stmt 74 1 false 4294967295 (Block done)) ([]) 1)) ∷ [])
    (codes "q" ∷ [])
    79 37

bounds_before_store_run : told bounds_before_store [] 1000 ≡ record {
  events =
      (event kind.Init 1 Absent Absent (Some 18) slot.None val.None ([]) ([])) ∷
      (event kind.New 6 Absent Absent (Some 16777233) slot.None (val.Int (pos 0)) ([]) ([])) ∷
      (event kind.Call 6 Absent Absent (Some 37) slot.None val.None ([]) ([])) ∷
      (event kind.Bind 11 (Some 2) (Some 2) Absent (slot.Local 2 0) (val.Object 1) ([]) (used.Value 1 ∷ [])) ∷
      (event kind.New 19 (Some 2) (Some 2) (Some 16777250) slot.None (val.Int (pos 1)) ([]) ([])) ∷
      (event kind.Set 17 (Some 2) (Some 2) Absent (slot.Local 2 1) (val.Object 4) ([]) (used.Value 4 ∷ [])) ∷
      (event kind.New 31 (Some 2) (Some 2) (Some 29) slot.None val.None ([]) (used.Place (slot.Local 2 1) 6 ∷ [])) ∷
      (event kind.Throw 31 (Some 2) (Some 2) Absent slot.None (val.Object 6) ([]) (used.Value 6 ∷ [])) ∷
      [];
  output = [];
  stop = 1;
  last = Some 7;
  steps = 11;
  uses = 4;
  coverage = (cover 1 1 (Some 1) never_left) ∷ (cover 0 0 Absent never_left) ∷ (cover 1 0 (Some 4) 7) ∷ (cover 1 1 (Some 4) never_left) ∷ (cover 1 0 (Some 6) 7) ∷ [];
}
unfolding told
bounds_before_store_run = refl

-- try { 1 / 0; } catch (ArithmeticException e) { println(1); } catch (RuntimeException e) { println(2); }
-- Both clauses could take it; the first does.
abbrev first_clause : Program
first_clause = program
    ((class_named (codes "Main") 1 (Some 0) ([])) ∷ [])
    ((method_named (codes "new") 1 18 ([]) Void kinds.Constructor) ∷ (method_named (codes "main") 6 18 (Of (Named 1) 1 ∷ []) Void kinds.Static) ∷ [])
    ([])
    ((Some (body_with (Stmt 75 1 false 4294967295 (Block done)) (1 ∷ []) 1)) ∷ (Some (body_with (Stmt 76 8 true 4294967295 (Block (first (Stmt 77 10 true 4294967295 (Try (Stmt 78 11 true 4294967295 (Block (first (Stmt 79 12 true 4294967295 (Eval (Bin op.Div (Const (Int (pos 1))) (Const (Int (pos 0))) 13))) done))) (catch 6 1 20 (Stmt 80 21 true 4294967295 (Block (first (Stmt 81 22 true 4294967295 (Print (the (Const (Int (pos 1)))) Void true 22)) done))) (catch 5 2 25 (Stmt 82 26 true 4294967295 (Block (first (Stmt 83 27 true 4294967295 (Print (the (Const (Int (pos 2)))) Void true 27)) done))) uncaught)) nothing)) done))) (11 ∷ 20 ∷ 25 ∷ []) 40)) ∷ [])
    ((Some (body_with (Stmt 74 1 false 4294967295 (Block done)) ([]) 1)) ∷ [])
    ([])
    84 37

first_clause_run : told first_clause [] 1000 ≡ record {
  events =
      (event kind.Init 1 Absent Absent (Some 18) slot.None val.None ([]) ([])) ∷
      (event kind.New 6 Absent Absent (Some 16777233) slot.None (val.Int (pos 0)) ([]) ([])) ∷
      (event kind.Call 6 Absent Absent (Some 37) slot.None val.None ([]) ([])) ∷
      (event kind.Bind 11 (Some 2) (Some 2) Absent (slot.Local 2 0) (val.Object 1) ([]) (used.Value 1 ∷ [])) ∷
      (event kind.New 13 (Some 2) (Some 2) (Some 22) slot.None val.None ([]) ([])) ∷
      (event kind.Throw 13 (Some 2) (Some 2) Absent slot.None (val.Object 4) ([]) (used.Value 4 ∷ [])) ∷
      (event kind.Catch 20 (Some 2) (Some 2) Absent (slot.Local 2 1) (val.Object 4) ([]) (used.Value 5 ∷ [])) ∷
      (event kind.Print 22 (Some 2) (Some 6) Absent slot.None (val.Int (pos 1)) ([]) ([])) ∷
      (event kind.Return 40 (Some 2) (Some 2) Absent slot.None val.None ([]) ([])) ∷
      [];
  output = codes "1\n";
  stop = 0;
  last = Absent;
  steps = 11;
  uses = 3;
  coverage = (cover 1 1 (Some 1) never_left) ∷ (cover 0 0 Absent never_left) ∷ (cover 1 1 (Some 4) never_left) ∷ (cover 1 1 (Some 4) never_left) ∷ (cover 1 0 (Some 4) 5) ∷ (cover 1 0 (Some 4) 5) ∷ (cover 1 1 (Some 7) never_left) ∷ (cover 1 1 (Some 7) never_left) ∷ (cover 0 0 Absent never_left) ∷ (cover 0 0 Absent never_left) ∷ [];
}
unfolding told
first_clause_run = refl

-- The values are those of java.lang: "abc".charAt(1), substring(1), substring(0, 2), compareTo("abd"), Integer.parseInt("-12"), Math.max(3, -5), min, abs(-7),
-- "abc".equals("abc"), isEmpty(), length(), and then charAt(3), which throws.
abbrev library : Program
library = program
    ((class_named (codes "Main") 1 (Some 0) ([])) ∷ [])
    ((method_named (codes "new") 1 18 ([]) Void kinds.Constructor) ∷ (method_named (codes "main") 6 18 (Of (Named 1) 1 ∷ []) Void kinds.Static) ∷ [])
    ([])
    ((Some (body_with (Stmt 75 1 false 4294967295 (Block done)) (1 ∷ []) 1)) ∷ (Some (body_with (Stmt 76 8 true 4294967295 (Block (first (Stmt 77 10 true 4294967295 (Print (the (Lib lib.CharAt (more (Str 1) (more (Const (Int (pos 1))) none)) 1)) Void true 30)) (first (Stmt 78 11 true 4294967295 (Print (the (Lib lib.PartFrom (more (Str 1) (more (Const (Int (pos 1))) none)) 1)) Void true 30)) (first (Stmt 79 12 true 4294967295 (Print (the (Lib lib.Part (more (Str 1) (more (Const (Int (pos 0))) (more (Const (Int (pos 2))) none))) 1)) Void true 30)) (first (Stmt 80 13 true 4294967295 (Print (the (Lib lib.Compare (more (Str 1) (more (Str 2) none)) 1)) Void true 30)) (first (Stmt 81 14 true 4294967295 (Print (the (Lib lib.ParseInt (more (Str 3) none) 1)) Void true 30)) (first (Stmt 82 15 true 4294967295 (Print (the (Lib lib.Max (more (Const (Int (pos 3))) (more (Const (Int (negsuc 4))) none)) 1)) Void true 30)) (first (Stmt 83 16 true 4294967295 (Print (the (Lib lib.Min (more (Const (Int (pos 3))) (more (Const (Int (negsuc 4))) none)) 1)) Void true 30)) (first (Stmt 84 17 true 4294967295 (Print (the (Lib lib.Abs (more (Const (Int (negsuc 6))) none) 1)) Void true 30)) (first (Stmt 85 18 true 4294967295 (Print (the (Lib lib.Same (more (Str 1) (more (Str 1) none)) 1)) Void true 30)) (first (Stmt 86 19 true 4294967295 (Print (the (Lib lib.IsEmpty (more (Str 1) none) 1)) Void true 30)) (first (Stmt 87 20 true 4294967295 (Print (the (Lib lib.Length (more (Str 1) none) 1)) Void true 30)) (first (Stmt 88 21 true 4294967295 (Eval (Lib lib.CharAt (more (Str 1) (more (Const (Int (pos 3))) none)) 1))) done)))))))))))))) (11 ∷ []) 40)) ∷ [])
    ((Some (body_with (Stmt 74 1 false 4294967295 (Block done)) ([]) 1)) ∷ [])
    (codes "abc" ∷ codes "abd" ∷ codes "-12" ∷ [])
    89 37

library_output : (told library [] 1000).output ≡ codes "b\nbc\nab\n-1\n-12\n3\n-5\n7\ntrue\nfalse\n3\n"
unfolding told
library_output = refl

library_stop : (told library [] 1000).stop ≡ 1
unfolding told
library_stop = refl
