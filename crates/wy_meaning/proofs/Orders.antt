-- Runs whose order of evaluation shows.
use Rattle.std.proofs.Common.{◌≡◌, refl}
use Rattle.std.specs.Prelude.{pos, true, false, [], ◌∷◌, Some, codes}
use Rattle.std.specs.Prelude.{None as Absent}
use Rattle.wy_kernel.specs.declared.operator.Primitive.TheVariants as prim
use Rattle.wy_kernel.specs.declared.operator.BinOp.TheVariants as op
use Rattle.wy_kernel.specs.declared.types.Base.TheVariants.{Primitive as Basic, Class as Named}
use Rattle.wy_kernel.specs.declared.types.Ty.TheVariants.{Void, Of}
use Rattle.wy_kernel.specs.declared.types.MethodForm.TheVariants as kinds
use Rattle.wy_kernel.specs.Form.{Int, Const, Read, Set, Upd, New, Cat, Local, the, none, Stmt, Block, Eval, Print, done, first}
use Rattle.wy_kernel.specs.Program.{Program}
use Rattle.wy_value.specs.declared.value.Value.TheVariants as val
use Rattle.wy_event.specs.declared.record.Kind.TheVariants as kind
use Rattle.wy_event.specs.declared.record.Slot.TheVariants as slot
use Rattle.wy_event.specs.declared.record.Use.TheVariants as used
use Rattle.wy_steps.specs.Steps.{never_left}
use Rattle.wy_meaning.proofs.Computed.{told, event, cover, class_named, method_named, body_with}
use Rattle.wy_meaning.proofs.Builtin.{program}

-- int x = 2; x += (x = 5); println(x);
-- The old value is fetched before the right side: 2 + 5.
abbrev compound_assignment : Program
compound_assignment = program
    ((class_named (codes "Main") 1 (Some 0) ([])) ∷ [])
    ((method_named (codes "new") 1 18 ([]) Void kinds.Constructor) ∷ (method_named (codes "main") 6 18 (Of (Named 1) 1 ∷ []) Void kinds.Static) ∷ [])
    ([])
    ((Some (body_with (Stmt 75 1 false 4294967295 (Block done)) (1 ∷ []) 1)) ∷ (Some (body_with (Stmt 76 8 true 4294967295 (Block (first (Stmt 77 12 true 4294967295 (Eval (Set (Local 1) (Const (Int (pos 2))) 12))) (first (Stmt 78 14 true 4294967295 (Eval (Upd (Local 1) op.Add (the (Set (Local 1) (Const (Int (pos 5))) 17)) (Of (Basic prim.Int) 0) (Of (Basic prim.Int) 0) (Some prim.Int) false 15))) (first (Stmt 79 28 true 4294967295 (Print (the (Read (Local 1))) Void true 30)) done))))) (11 ∷ 12 ∷ []) 40)) ∷ [])
    ((Some (body_with (Stmt 74 1 false 4294967295 (Block done)) ([]) 1)) ∷ [])
    ([])
    80 37

compound_assignment_run : told compound_assignment [] 1000 ≡ record {
  events =
      (event kind.Init 1 Absent Absent (Some 18) slot.None val.None ([]) ([])) ∷
      (event kind.New 6 Absent Absent (Some 16777233) slot.None (val.Int (pos 0)) ([]) ([])) ∷
      (event kind.Call 6 Absent Absent (Some 37) slot.None val.None ([]) ([])) ∷
      (event kind.Bind 11 (Some 2) (Some 2) Absent (slot.Local 2 0) (val.Object 1) ([]) (used.Value 1 ∷ [])) ∷
      (event kind.Set 12 (Some 2) (Some 2) Absent (slot.Local 2 1) (val.Int (pos 2)) ([]) ([])) ∷
      (event kind.Set 17 (Some 2) (Some 2) Absent (slot.Local 2 1) (val.Int (pos 5)) ([]) ([])) ∷
      (event kind.Set 15 (Some 2) (Some 2) Absent (slot.Local 2 1) (val.Int (pos 7)) ([]) (used.Place (slot.Local 2 1) 5 ∷ used.Value 5 ∷ [])) ∷
      (event kind.Print 30 (Some 2) (Some 2) Absent slot.None (val.Int (pos 7)) ([]) (used.Place (slot.Local 2 1) 7 ∷ [])) ∷
      (event kind.Return 40 (Some 2) (Some 2) Absent slot.None val.None ([]) ([])) ∷
      [];
  output = codes "7\n";
  stop = 0;
  last = Absent;
  steps = 11;
  uses = 4;
  coverage = (cover 1 1 (Some 1) never_left) ∷ (cover 0 0 Absent never_left) ∷ (cover 1 1 (Some 4) never_left) ∷ (cover 1 1 (Some 4) never_left) ∷ (cover 1 1 (Some 5) never_left) ∷ (cover 1 1 (Some 7) never_left) ∷ [];
}
unfolding told
compound_assignment_run = refl

-- A `+` of two new objects, which no Java program has: the left one is converted first.
abbrev left_conversion_first : Program
left_conversion_first = program
    ((class_named (codes "Main") 1 (Some 0) ([])) ∷ [])
    ((method_named (codes "new") 1 18 ([]) Void kinds.Constructor) ∷ (method_named (codes "main") 6 18 (Of (Named 1) 1 ∷ []) Void kinds.Static) ∷ [])
    ([])
    ((Some (body_with (Stmt 75 1 false 4294967295 (Block done)) (1 ∷ []) 1)) ∷ (Some (body_with (Stmt 76 8 true 4294967295 (Block (first (Stmt 77 12 true 4294967295 (Eval (Set (Local 1) (Cat (New 0 Absent none 20) (New 0 Absent none 21) Void Void 15) 12))) done))) (11 ∷ 12 ∷ []) 40)) ∷ [])
    ((Some (body_with (Stmt 74 1 false 4294967295 (Block done)) ([]) 1)) ∷ [])
    ([])
    78 37

left_conversion_first_run : told left_conversion_first [] 1000 ≡ record {
  events =
      (event kind.Init 1 Absent Absent (Some 18) slot.None val.None ([]) ([])) ∷
      (event kind.New 6 Absent Absent (Some 16777233) slot.None (val.Int (pos 0)) ([]) ([])) ∷
      (event kind.Call 6 Absent Absent (Some 37) slot.None val.None ([]) ([])) ∷
      (event kind.Bind 11 (Some 2) (Some 2) Absent (slot.Local 2 0) (val.Object 1) ([]) (used.Value 1 ∷ [])) ∷
      (event kind.New 20 (Some 2) (Some 2) (Some 16) slot.None val.None ([]) ([])) ∷
      (event kind.New 21 (Some 2) (Some 2) (Some 16) slot.None val.None ([]) ([])) ∷
      (event kind.Call 15 (Some 2) (Some 2) (Some 0) slot.None val.None ([]) (used.Value 4 ∷ [])) ∷
      (event kind.Bind 2147483648 (Some 6) (Some 6) Absent (slot.Local 6 0) (val.Object 4) ([]) (used.Value 4 ∷ [])) ∷
      (event kind.Text 2147483648 (Some 6) (Some 6) Absent slot.None val.None (codes "java.lang.Object@4") (used.Place (slot.Local 6 0) 8 ∷ [])) ∷
      (event kind.Return 2147483648 (Some 6) (Some 6) Absent slot.None (val.Text 8) ([]) (used.Value 8 ∷ [])) ∷
      (event kind.Call 15 (Some 2) (Some 2) (Some 0) slot.None val.None ([]) (used.Value 5 ∷ [])) ∷
      (event kind.Bind 2147483648 (Some 10) (Some 10) Absent (slot.Local 10 0) (val.Object 5) ([]) (used.Value 5 ∷ [])) ∷
      (event kind.Text 2147483648 (Some 10) (Some 10) Absent slot.None val.None (codes "java.lang.Object@5") (used.Place (slot.Local 10 0) 12 ∷ [])) ∷
      (event kind.Return 2147483648 (Some 10) (Some 10) Absent slot.None (val.Text 12) ([]) (used.Value 12 ∷ [])) ∷
      (event kind.Text 15 (Some 2) (Some 2) Absent slot.None val.None (codes "java.lang.Object@4java.lang.Object@5") (used.Value 9 ∷ used.Value 13 ∷ [])) ∷
      (event kind.Set 12 (Some 2) (Some 2) Absent (slot.Local 2 1) (val.Text 14) ([]) (used.Value 14 ∷ [])) ∷
      (event kind.Return 40 (Some 2) (Some 2) Absent slot.None val.None ([]) ([])) ∷
      [];
  output = [];
  stop = 0;
  last = Absent;
  steps = 15;
  uses = 12;
  coverage = (cover 1 1 (Some 1) never_left) ∷ (cover 0 0 Absent never_left) ∷ (cover 1 1 (Some 4) never_left) ∷ (cover 1 1 (Some 4) never_left) ∷ [];
}
unfolding told
left_conversion_first_run = refl
