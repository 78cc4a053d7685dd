-- Runs of each operator of one operand, and of the operations that give the text of a number, of a boolean and of a text itself.
use Rattle.std.proofs.Common.{◌≡◌, refl}
use Rattle.std.specs.Prelude.{pos, negsuc, true, false, [], ◌∷◌, Some, codes}
use Rattle.std.specs.Prelude.{None as Absent}
use Rattle.wy_kernel.specs.declared.operator.UnOp.TheVariants as op
use Rattle.wy_kernel.specs.declared.types.Base.TheVariants.{Class as Named}
use Rattle.wy_kernel.specs.declared.types.Ty.TheVariants.{Void, Of}
use Rattle.wy_kernel.specs.declared.types.MethodForm.TheVariants as kinds
use Rattle.wy_kernel.specs.declared.form.LibOp.TheVariants as lib
use Rattle.wy_kernel.specs.Form.{Int, Truth, Const, Read, Set, Un, Cat, Lib, Local, the, none, more, Stmt, Block, Eval, Print, done, first}
use Rattle.wy_kernel.specs.Program.{Program}
use Rattle.wy_value.specs.declared.value.Value.TheVariants as val
use Rattle.wy_event.specs.declared.record.Kind.TheVariants as kind
use Rattle.wy_event.specs.declared.record.Slot.TheVariants as slot
use Rattle.wy_event.specs.declared.record.Use.TheVariants as used
use Rattle.wy_steps.specs.Steps.{never_left}
use Rattle.wy_meaning.proofs.Computed.{told, event, cover, class_named, method_named, body_with}
use Rattle.wy_meaning.proofs.Builtin.{program}

-- class Main {
--   public static void main(String[] args) {
--     int i = 5;
--     boolean b = true;
--     System.out.println(+i);
--     System.out.println(-i);
--     System.out.println(~i);
--     System.out.println(!b);
--   }
-- }
abbrev unary_operators : Program
unary_operators = program
    ((class_named (codes "Main") 1 (Some 0) ([])) ∷ [])
    ((method_named (codes "new") 1 18 ([]) Void kinds.Constructor) ∷ (method_named (codes "main") 6 18 (Of (Named 1) 1 ∷ []) Void kinds.Static) ∷ [])
    ([])
    ((Some (body_with (Stmt 75 1 false 4294967295 (Block done)) (1 ∷ []) 1)) ∷ (Some (body_with (Stmt 76 13 false 4294967295 (Block (first (Stmt 77 15 true 4294967295 (Eval (Set (Local 1) (Const (Int (pos 5))) 15))) (first (Stmt 78 20 true 4294967295 (Eval (Set (Local 2) (Const (Truth true)) 20))) (first (Stmt 79 24 true 4294967295 (Print (the (Un op.Plus (Read (Local 1)))) Void true 29)) (first (Stmt 80 34 true 4294967295 (Print (the (Un op.Minus (Read (Local 1)))) Void true 39)) (first (Stmt 81 44 true 4294967295 (Print (the (Un op.Flip (Read (Local 1)))) Void true 49)) (first (Stmt 82 54 true 4294967295 (Print (the (Un op.Not (Read (Local 2)))) Void true 59)) done)))))))) (11 ∷ 15 ∷ 20 ∷ []) 64)) ∷ [])
    ((Some (body_with (Stmt 74 1 false 4294967295 (Block done)) ([]) 1)) ∷ [])
    ([])
    83 37

unary_operators_run : told unary_operators [] 1000 ≡ record {
  events =
      (event kind.Init 1 Absent Absent (Some 18) slot.None val.None ([]) ([])) ∷
      (event kind.New 6 Absent Absent (Some 16777233) slot.None (val.Int (pos 0)) ([]) ([])) ∷
      (event kind.Call 6 Absent Absent (Some 37) slot.None val.None ([]) ([])) ∷
      (event kind.Bind 11 (Some 2) (Some 2) Absent (slot.Local 2 0) (val.Object 1) ([]) (used.Value 1 ∷ [])) ∷
      (event kind.Set 15 (Some 2) (Some 2) Absent (slot.Local 2 1) (val.Int (pos 5)) ([]) ([])) ∷
      (event kind.Set 20 (Some 2) (Some 2) Absent (slot.Local 2 2) (val.Bool true) ([]) ([])) ∷
      (event kind.Print 29 (Some 2) (Some 2) Absent slot.None (val.Int (pos 5)) ([]) (used.Place (slot.Local 2 1) 6 ∷ [])) ∷
      (event kind.Print 39 (Some 2) (Some 2) Absent slot.None (val.Int (negsuc 4)) ([]) (used.Place (slot.Local 2 1) 7 ∷ [])) ∷
      (event kind.Print 49 (Some 2) (Some 2) Absent slot.None (val.Int (negsuc 5)) ([]) (used.Place (slot.Local 2 1) 8 ∷ [])) ∷
      (event kind.Print 59 (Some 2) (Some 2) Absent slot.None (val.Bool false) ([]) (used.Place (slot.Local 2 2) 9 ∷ [])) ∷
      (event kind.Return 64 (Some 2) (Some 2) Absent slot.None val.None ([]) ([])) ∷
      [];
  output = codes "5\n-5\n-6\nfalse\n";
  stop = 0;
  last = Absent;
  steps = 20;
  uses = 5;
  coverage = (cover 1 1 (Some 1) never_left) ∷ (cover 0 0 Absent never_left) ∷ (cover 1 1 (Some 4) never_left) ∷ (cover 1 1 (Some 4) never_left) ∷ (cover 1 1 (Some 5) never_left) ∷ (cover 1 1 (Some 6) never_left) ∷ (cover 1 1 (Some 7) never_left) ∷ (cover 1 1 (Some 8) never_left) ∷ (cover 1 1 (Some 9) never_left) ∷ [];
}
unfolding told
unary_operators_run = refl

-- class Main {
--   public static void main(String[] args) {
--     int i = -7;
--     boolean b = true;
--     String s = String.valueOf(b);
--     String t = Integer.toString(i);
--     System.out.println(s.toString() + t);
--   }
-- }
abbrev made_texts : Program
made_texts = program
    ((class_named (codes "Main") 1 (Some 0) ([])) ∷ [])
    ((method_named (codes "new") 1 18 ([]) Void kinds.Constructor) ∷ (method_named (codes "main") 6 18 (Of (Named 1) 1 ∷ []) Void kinds.Static) ∷ [])
    ([])
    ((Some (body_with (Stmt 75 1 false 4294967295 (Block done)) (1 ∷ []) 1)) ∷ (Some (body_with (Stmt 76 13 false 4294967295 (Block (first (Stmt 77 15 true 4294967295 (Eval (Set (Local 1) (Const (Int (negsuc 6))) 15))) (first (Stmt 78 21 true 4294967295 (Eval (Set (Local 2) (Const (Truth true)) 21))) (first (Stmt 79 26 true 4294967295 (Eval (Set (Local 3) (Lib lib.ValueOf (more (Read (Local 2)) none) 31) 26))) (first (Stmt 80 36 true 4294967295 (Eval (Set (Local 4) (Lib lib.IntText (more (Read (Local 1)) none) 41) 36))) (first (Stmt 81 45 true 4294967295 (Print (the (Cat (Lib lib.Itself (more (Read (Local 3)) none) 54) (Read (Local 4)) Void Void 56)) Void true 50)) done))))))) (11 ∷ 15 ∷ 21 ∷ 26 ∷ 36 ∷ []) 60)) ∷ [])
    ((Some (body_with (Stmt 74 1 false 4294967295 (Block done)) ([]) 1)) ∷ [])
    ([])
    82 37

made_texts_run : told made_texts [] 1000 ≡ record {
  events =
      (event kind.Init 1 Absent Absent (Some 18) slot.None val.None ([]) ([])) ∷
      (event kind.New 6 Absent Absent (Some 16777233) slot.None (val.Int (pos 0)) ([]) ([])) ∷
      (event kind.Call 6 Absent Absent (Some 37) slot.None val.None ([]) ([])) ∷
      (event kind.Bind 11 (Some 2) (Some 2) Absent (slot.Local 2 0) (val.Object 1) ([]) (used.Value 1 ∷ [])) ∷
      (event kind.Set 15 (Some 2) (Some 2) Absent (slot.Local 2 1) (val.Int (negsuc 6)) ([]) ([])) ∷
      (event kind.Set 21 (Some 2) (Some 2) Absent (slot.Local 2 2) (val.Bool true) ([]) ([])) ∷
      (event kind.Text 31 (Some 2) (Some 2) Absent slot.None val.None (codes "true") (used.Place (slot.Local 2 2) 6 ∷ [])) ∷
      (event kind.Set 26 (Some 2) (Some 2) Absent (slot.Local 2 3) (val.Text 6) ([]) (used.Value 6 ∷ [])) ∷
      (event kind.Text 41 (Some 2) (Some 2) Absent slot.None val.None (codes "-7") (used.Place (slot.Local 2 1) 8 ∷ [])) ∷
      (event kind.Set 36 (Some 2) (Some 2) Absent (slot.Local 2 4) (val.Text 8) ([]) (used.Value 8 ∷ [])) ∷
      (event kind.Text 56 (Some 2) (Some 2) Absent slot.None val.None (codes "true-7") (used.Place (slot.Local 2 3) 10 ∷ used.Place (slot.Local 2 4) 10 ∷ [])) ∷
      (event kind.Print 50 (Some 2) (Some 2) Absent slot.None (val.Text 10) ([]) (used.Value 10 ∷ [])) ∷
      (event kind.Return 60 (Some 2) (Some 2) Absent slot.None val.None ([]) ([])) ∷
      [];
  output = codes "true-7\n";
  stop = 0;
  last = Absent;
  steps = 21;
  uses = 8;
  coverage = (cover 1 1 (Some 1) never_left) ∷ (cover 0 0 Absent never_left) ∷ (cover 1 1 (Some 4) never_left) ∷ (cover 1 1 (Some 4) never_left) ∷ (cover 1 1 (Some 5) never_left) ∷ (cover 1 1 (Some 6) never_left) ∷ (cover 1 1 (Some 8) never_left) ∷ (cover 1 1 (Some 10) never_left) ∷ [];
}
unfolding told
made_texts_run = refl
