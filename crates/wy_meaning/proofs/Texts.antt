-- Runs that convert and print texts.
use Rattle.std.proofs.Common.{◌≡◌, refl}
use Rattle.std.specs.Prelude.{pos, true, false, [], ◌∷◌, Some, codes}
use Rattle.std.specs.Prelude.{None as Absent}
use Rattle.wy_kernel.specs.declared.operator.BinOp.TheVariants as op
use Rattle.wy_kernel.specs.declared.types.Base.TheVariants.{Class as Named}
use Rattle.wy_kernel.specs.declared.types.Ty.TheVariants.{Void, Of}
use Rattle.wy_kernel.specs.declared.types.MethodForm.TheVariants as kinds
use Rattle.wy_kernel.specs.declared.form.CallForm.TheVariants as calling
use Rattle.wy_kernel.specs.declared.form.LibOp.TheVariants as lib
use Rattle.wy_kernel.specs.Form.{Null, Const, Str, Read, Set, Upd, New, Call, Cat, Lib, Local, Field, absent, the, none, more, Stmt, Block, Eval, Return, Print, done, first}
use Rattle.wy_kernel.specs.Program.{Program}
use Rattle.wy_value.specs.declared.value.Value.TheVariants as val
use Rattle.wy_event.specs.declared.record.Kind.TheVariants as kind
use Rattle.wy_event.specs.declared.record.Slot.TheVariants as slot
use Rattle.wy_event.specs.declared.record.Use.TheVariants as used
use Rattle.wy_steps.specs.Steps.{never_left}
use Rattle.wy_meaning.proofs.Computed.{told, event, cover, class_named, method_named, field_named, body_with}
use Rattle.wy_meaning.proofs.Builtin.{program}

-- class Main {
--   public String toString() { return null; }
--   public static void main(String[] args) {
--     Object o = new Main();
--     System.out.println(o);
--     o = "s";
--     System.out.println(o);
--     System.out.println("x" + o + null);
--     o = null;
--     System.out.println(o);
--     System.out.println(args);
--   }
-- }
abbrev printed_references : Program
printed_references = program
    ((class_named (codes "Main") 1 (Some 0) ([])) ∷ [])
    ((method_named (codes "new") 1 18 ([]) Void kinds.Constructor) ∷ (method_named (codes "toString") 5 18 ([]) (Of (Named 1) 0) kinds.Instance) ∷ (method_named (codes "main") 16 18 (Of (Named 1) 1 ∷ []) Void kinds.Static) ∷ [])
    ([])
    ((Some (body_with (Stmt 75 1 false 4294967295 (Block done)) (1 ∷ []) 1)) ∷ (Some (body_with (Stmt 76 8 false 4294967295 (Block (first (Stmt 77 9 true 4294967295 (Return (the (Const Null)))) done))) (5 ∷ []) 12)) ∷ (Some (body_with (Stmt 78 23 false 4294967295 (Block (first (Stmt 79 25 true 4294967295 (Eval (Set (Local 1) (New 18 (Some 36) none 27) 25))) (first (Stmt 80 32 true 4294967295 (Print (the (Read (Local 1))) Void true 37)) (first (Stmt 81 41 true 4294967295 (Eval (Set (Local 1) (Str 1) 42))) (first (Stmt 82 45 true 4294967295 (Print (the (Read (Local 1))) Void true 50)) (first (Stmt 83 54 true 4294967295 (Print (the (Cat (Cat (Str 2) (Read (Local 1)) Void Void 61) (Const Null) Void Void 63)) Void true 59)) (first (Stmt 84 67 true 4294967295 (Eval (Set (Local 1) (Const Null) 68))) (first (Stmt 85 71 true 4294967295 (Print (the (Read (Local 1))) Void true 76)) (first (Stmt 86 80 true 4294967295 (Print (the (Read (Local 0))) Void true 85)) done)))))))))) (21 ∷ 25 ∷ []) 89)) ∷ [])
    ((Some (body_with (Stmt 74 1 false 4294967295 (Block done)) ([]) 1)) ∷ [])
    (codes "s" ∷ codes "x" ∷ [])
    87 38

printed_references_run : told printed_references [] 1000 ≡ record {
  events =
      (event kind.Init 1 Absent Absent (Some 18) slot.None val.None ([]) ([])) ∷
      (event kind.New 16 Absent Absent (Some 16777233) slot.None (val.Int (pos 0)) ([]) ([])) ∷
      (event kind.Call 16 Absent Absent (Some 38) slot.None val.None ([]) ([])) ∷
      (event kind.Bind 21 (Some 2) (Some 2) Absent (slot.Local 2 0) (val.Object 1) ([]) (used.Value 1 ∷ [])) ∷
      (event kind.New 27 (Some 2) (Some 2) (Some 34) slot.None val.None ([]) ([])) ∷
      (event kind.Call 27 (Some 2) (Some 2) (Some 36) slot.None val.None ([]) ([])) ∷
      (event kind.Bind 1 (Some 5) (Some 5) Absent (slot.Local 5 0) (val.Object 4) ([]) (used.Value 4 ∷ [])) ∷
      (event kind.Return 1 (Some 5) (Some 5) Absent slot.None val.None ([]) ([])) ∷
      (event kind.Set 25 (Some 2) (Some 2) Absent (slot.Local 2 1) (val.Object 4) ([]) (used.Value 4 ∷ [])) ∷
      (event kind.Call 37 (Some 2) (Some 2) (Some 37) slot.None val.None ([]) (used.Place (slot.Local 2 1) 9 ∷ [])) ∷
      (event kind.Bind 5 (Some 9) (Some 9) Absent (slot.Local 9 0) (val.Object 4) ([]) (used.Place (slot.Local 2 1) 9 ∷ [])) ∷
      (event kind.Return 9 (Some 9) (Some 9) Absent slot.None val.Null ([]) ([])) ∷
      (event kind.Print 37 (Some 2) (Some 2) Absent slot.None val.Null ([]) (used.Value 11 ∷ [])) ∷
      (event kind.Set 42 (Some 2) (Some 2) Absent (slot.Local 2 1) (val.Fixed 1) ([]) ([])) ∷
      (event kind.Print 50 (Some 2) (Some 2) Absent slot.None (val.Fixed 1) ([]) (used.Place (slot.Local 2 1) 14 ∷ [])) ∷
      (event kind.Text 61 (Some 2) (Some 2) Absent slot.None val.None (codes "xs") (used.Place (slot.Local 2 1) 15 ∷ [])) ∷
      (event kind.Text 63 (Some 2) (Some 2) Absent slot.None val.None (codes "xsnull") (used.Value 15 ∷ [])) ∷
      (event kind.Print 59 (Some 2) (Some 2) Absent slot.None (val.Text 16) ([]) (used.Value 16 ∷ [])) ∷
      (event kind.Set 68 (Some 2) (Some 2) Absent (slot.Local 2 1) val.Null ([]) ([])) ∷
      (event kind.Print 76 (Some 2) (Some 2) Absent slot.None val.Null ([]) (used.Place (slot.Local 2 1) 19 ∷ [])) ∷
      (event kind.Call 85 (Some 2) (Some 2) (Some 0) slot.None val.None ([]) (used.Place (slot.Local 2 0) 20 ∷ [])) ∷
      (event kind.Bind 2147483648 (Some 20) (Some 20) Absent (slot.Local 20 0) (val.Object 1) ([]) (used.Place (slot.Local 2 0) 20 ∷ [])) ∷
      (event kind.Text 2147483648 (Some 20) (Some 20) Absent slot.None val.None (codes "java.lang.String[]@1") (used.Place (slot.Local 20 0) 22 ∷ [])) ∷
      (event kind.Return 2147483648 (Some 20) (Some 20) Absent slot.None (val.Text 22) ([]) (used.Value 22 ∷ [])) ∷
      (event kind.Print 85 (Some 2) (Some 2) Absent slot.None (val.Text 22) ([]) (used.Value 23 ∷ [])) ∷
      (event kind.Return 89 (Some 2) (Some 2) Absent slot.None val.None ([]) ([])) ∷
      [];
  output = codes "null\ns\nxsnull\nnull\njava.lang.String[]@1\n";
  stop = 0;
  last = Absent;
  steps = 33;
  uses = 16;
  coverage = (cover 1 1 (Some 1) never_left) ∷ (cover 1 1 (Some 7) never_left) ∷ (cover 1 0 (Some 11) 11) ∷ (cover 1 0 (Some 11) 11) ∷ (cover 1 1 (Some 4) never_left) ∷ (cover 1 1 (Some 4) never_left) ∷ (cover 1 1 (Some 9) never_left) ∷ (cover 1 1 (Some 13) never_left) ∷ (cover 1 1 (Some 14) never_left) ∷ (cover 1 1 (Some 15) never_left) ∷ (cover 1 1 (Some 18) never_left) ∷ (cover 1 1 (Some 19) never_left) ∷ (cover 1 1 (Some 20) never_left) ∷ [];
}
unfolding told
printed_references_run = refl

-- class Main {
--   public static void main(String[] args) {
--     Object o = "s" + args.length;
--     System.out.println(o.equals("s0"));
--     System.out.println(o.toString());
--   }
-- }
abbrev text_methods : Program
text_methods = program
    ((class_named (codes "Main") 1 (Some 0) ([])) ∷ [])
    ((method_named (codes "new") 1 18 ([]) Void kinds.Constructor) ∷ (method_named (codes "main") 6 18 (Of (Named 1) 1 ∷ []) Void kinds.Static) ∷ [])
    ([])
    ((Some (body_with (Stmt 75 1 false 4294967295 (Block done)) (1 ∷ []) 1)) ∷ (Some (body_with (Stmt 76 13 false 4294967295 (Block (first (Stmt 77 15 true 4294967295 (Eval (Set (Local 1) (Cat (Str 1) (Lib lib.ArrayLength (more (Read (Local 0)) none) 20) Void Void 18) 15))) (first (Stmt 78 23 true 4294967295 (Print (the (Call calling.Chosen 1 (the (Read (Local 1))) (Of (Named 0) 0) (more (Str 2) none) 31)) Void true 28)) (first (Stmt 79 37 true 4294967295 (Print (the (Call calling.Chosen 0 (the (Read (Local 1))) (Of (Named 0) 0) none 45)) Void true 42)) done))))) (11 ∷ 15 ∷ []) 50)) ∷ [])
    ((Some (body_with (Stmt 74 1 false 4294967295 (Block done)) ([]) 1)) ∷ [])
    (codes "s" ∷ codes "s0" ∷ [])
    80 37

text_methods_run : told text_methods [] 1000 ≡ record {
  events =
      (event kind.Init 1 Absent Absent (Some 18) slot.None val.None ([]) ([])) ∷
      (event kind.New 6 Absent Absent (Some 16777233) slot.None (val.Int (pos 0)) ([]) ([])) ∷
      (event kind.Call 6 Absent Absent (Some 37) slot.None val.None ([]) ([])) ∷
      (event kind.Bind 11 (Some 2) (Some 2) Absent (slot.Local 2 0) (val.Object 1) ([]) (used.Value 1 ∷ [])) ∷
      (event kind.Text 18 (Some 2) (Some 2) Absent slot.None val.None (codes "s0") (used.Place (slot.Local 2 0) 4 ∷ [])) ∷
      (event kind.Set 15 (Some 2) (Some 2) Absent (slot.Local 2 1) (val.Text 4) ([]) (used.Value 4 ∷ [])) ∷
      (event kind.Print 28 (Some 2) (Some 2) Absent slot.None (val.Bool true) ([]) (used.Place (slot.Local 2 1) 6 ∷ [])) ∷
      (event kind.Print 42 (Some 2) (Some 2) Absent slot.None (val.Text 4) ([]) (used.Place (slot.Local 2 1) 7 ∷ [])) ∷
      (event kind.Return 50 (Some 2) (Some 2) Absent slot.None val.None ([]) ([])) ∷
      [];
  output = codes "true\ns0\n";
  stop = 0;
  last = Absent;
  steps = 15;
  uses = 5;
  coverage = (cover 1 1 (Some 1) never_left) ∷ (cover 0 0 Absent never_left) ∷ (cover 1 1 (Some 4) never_left) ∷ (cover 1 1 (Some 4) never_left) ∷ (cover 1 1 (Some 6) never_left) ∷ (cover 1 1 (Some 7) never_left) ∷ [];
}
unfolding told
text_methods_run = refl

-- class Main {
--   String n;
--   Main(String n) { this.n = n; }
--   public String toString() { System.out.println(n); return n; }
--   static Main get(String n) { System.out.println("get " + n); return new Main(n); }
--   public static void main(String[] args) {
--     String s = get("a") + "-" + get("b");
--     s += get("c");
--   }
-- }
abbrev order_of_conversions : Program
order_of_conversions = program
    ((class_named (codes "Main") 1 (Some 0) ([])) ∷ [])
    ((method_named (codes "new") 6 18 (Of (Named 1) 0 ∷ []) Void kinds.Constructor) ∷ (method_named (codes "toString") 21 18 ([]) (Of (Named 1) 0) kinds.Instance) ∷ (method_named (codes "get") 40 18 (Of (Named 1) 0 ∷ []) (Of (Named 18) 0) kinds.Static) ∷ (method_named (codes "main") 68 18 (Of (Named 1) 1 ∷ []) Void kinds.Static) ∷ [])
    ((field_named (codes "n") 4 18 (Of (Named 1) 0) false) ∷ [])
    ((Some (body_with (Stmt 75 11 false 4294967295 (Block (first (Stmt 76 12 true 4294967295 (Eval (Set (Field (Read (Local 0)) 1 14) (Read (Local 1)) 15))) done))) (6 ∷ 9 ∷ []) 18)) ∷ (Some (body_with (Stmt 77 24 false 4294967295 (Block (first (Stmt 78 25 true 4294967295 (Print (the (Read (Field (Read (Local 0)) 1 31))) Void true 30)) (first (Stmt 79 34 true 4294967295 (Return (the (Read (Field (Read (Local 0)) 1 35))))) done)))) (21 ∷ []) 37)) ∷ (Some (body_with (Stmt 80 45 false 4294967295 (Block (first (Stmt 81 46 true 4294967295 (Print (the (Cat (Str 1) (Read (Local 0)) Void Void 53)) Void true 51)) (first (Stmt 82 57 true 4294967295 (Return (the (New 18 (Some 36) (more (Read (Local 0)) none) 58)))) done)))) (43 ∷ []) 63)) ∷ (Some (body_with (Stmt 83 75 false 4294967295 (Block (first (Stmt 84 77 true 4294967295 (Eval (Set (Local 1) (Cat (Cat (Call calling.Static 38 absent Void (more (Str 2) none) 80) (Str 3) Void Void 83) (Call calling.Static 38 absent Void (more (Str 4) none) 87) Void Void 85) 77))) (first (Stmt 85 91 true 4294967295 (Eval (Upd (Local 1) op.Add (the (Call calling.Static 38 absent Void (more (Str 5) none) 94)) (Of (Named 18) 0) (Of (Named 1) 0) Absent false 92))) done)))) (73 ∷ 77 ∷ []) 98)) ∷ [])
    ((Some (body_with (Stmt 74 1 false 4294967295 (Block done)) ([]) 1)) ∷ [])
    (codes "get " ∷ codes "a" ∷ codes "-" ∷ codes "b" ∷ codes "c" ∷ [])
    86 39

order_of_conversions_run : told order_of_conversions [] 1000 ≡ record {
  events =
      (event kind.Init 1 Absent Absent (Some 18) slot.None val.None ([]) ([])) ∷
      (event kind.New 68 Absent Absent (Some 16777233) slot.None (val.Int (pos 0)) ([]) ([])) ∷
      (event kind.Call 68 Absent Absent (Some 39) slot.None val.None ([]) ([])) ∷
      (event kind.Bind 73 (Some 2) (Some 2) Absent (slot.Local 2 0) (val.Object 1) ([]) (used.Value 1 ∷ [])) ∷
      (event kind.Call 80 (Some 2) (Some 2) (Some 38) slot.None val.None ([]) ([])) ∷
      (event kind.Bind 43 (Some 4) (Some 4) Absent (slot.Local 4 0) (val.Fixed 2) ([]) ([])) ∷
      (event kind.Text 53 (Some 4) (Some 4) Absent slot.None val.None (codes "get a") (used.Place (slot.Local 4 0) 6 ∷ [])) ∷
      (event kind.Print 51 (Some 4) (Some 4) Absent slot.None (val.Text 6) ([]) (used.Value 6 ∷ [])) ∷
      (event kind.New 58 (Some 4) (Some 4) (Some 34) slot.None val.None ([]) ([])) ∷
      (event kind.Call 58 (Some 4) (Some 4) (Some 36) slot.None val.None ([]) ([])) ∷
      (event kind.Bind 6 (Some 9) (Some 9) Absent (slot.Local 9 0) (val.Object 8) ([]) (used.Value 8 ∷ [])) ∷
      (event kind.Bind 9 (Some 9) (Some 9) Absent (slot.Local 9 1) (val.Fixed 2) ([]) (used.Place (slot.Local 4 0) 9 ∷ [])) ∷
      (event kind.Set 15 (Some 9) (Some 9) Absent (slot.Field 8 1) (val.Fixed 2) ([]) (used.Place (slot.Local 9 0) 12 ∷ used.Place (slot.Local 9 1) 12 ∷ [])) ∷
      (event kind.Return 18 (Some 9) (Some 9) Absent slot.None val.None ([]) ([])) ∷
      (event kind.Return 57 (Some 4) (Some 4) Absent slot.None (val.Object 8) ([]) (used.Value 8 ∷ [])) ∷
      (event kind.Call 83 (Some 2) (Some 2) (Some 37) slot.None val.None ([]) (used.Value 14 ∷ [])) ∷
      (event kind.Bind 21 (Some 15) (Some 15) Absent (slot.Local 15 0) (val.Object 8) ([]) (used.Value 14 ∷ [])) ∷
      (event kind.Print 30 (Some 15) (Some 15) Absent slot.None (val.Fixed 2) ([]) (used.Place (slot.Local 15 0) 17 ∷ used.Place (slot.Field 8 1) 17 ∷ [])) ∷
      (event kind.Return 34 (Some 15) (Some 15) Absent slot.None (val.Fixed 2) ([]) (used.Place (slot.Local 15 0) 18 ∷ used.Place (slot.Field 8 1) 18 ∷ [])) ∷
      (event kind.Text 83 (Some 2) (Some 2) Absent slot.None val.None (codes "a-") (used.Value 18 ∷ [])) ∷
      (event kind.Call 87 (Some 2) (Some 2) (Some 38) slot.None val.None ([]) ([])) ∷
      (event kind.Bind 43 (Some 20) (Some 20) Absent (slot.Local 20 0) (val.Fixed 4) ([]) ([])) ∷
      (event kind.Text 53 (Some 20) (Some 20) Absent slot.None val.None (codes "get b") (used.Place (slot.Local 20 0) 22 ∷ [])) ∷
      (event kind.Print 51 (Some 20) (Some 20) Absent slot.None (val.Text 22) ([]) (used.Value 22 ∷ [])) ∷
      (event kind.New 58 (Some 20) (Some 20) (Some 34) slot.None val.None ([]) ([])) ∷
      (event kind.Call 58 (Some 20) (Some 20) (Some 36) slot.None val.None ([]) ([])) ∷
      (event kind.Bind 6 (Some 25) (Some 25) Absent (slot.Local 25 0) (val.Object 24) ([]) (used.Value 24 ∷ [])) ∷
      (event kind.Bind 9 (Some 25) (Some 25) Absent (slot.Local 25 1) (val.Fixed 4) ([]) (used.Place (slot.Local 20 0) 25 ∷ [])) ∷
      (event kind.Set 15 (Some 25) (Some 25) Absent (slot.Field 24 1) (val.Fixed 4) ([]) (used.Place (slot.Local 25 0) 28 ∷ used.Place (slot.Local 25 1) 28 ∷ [])) ∷
      (event kind.Return 18 (Some 25) (Some 25) Absent slot.None val.None ([]) ([])) ∷
      (event kind.Return 57 (Some 20) (Some 20) Absent slot.None (val.Object 24) ([]) (used.Value 24 ∷ [])) ∷
      (event kind.Call 85 (Some 2) (Some 2) (Some 37) slot.None val.None ([]) (used.Value 30 ∷ [])) ∷
      (event kind.Bind 21 (Some 31) (Some 31) Absent (slot.Local 31 0) (val.Object 24) ([]) (used.Value 30 ∷ [])) ∷
      (event kind.Print 30 (Some 31) (Some 31) Absent slot.None (val.Fixed 4) ([]) (used.Place (slot.Local 31 0) 33 ∷ used.Place (slot.Field 24 1) 33 ∷ [])) ∷
      (event kind.Return 34 (Some 31) (Some 31) Absent slot.None (val.Fixed 4) ([]) (used.Place (slot.Local 31 0) 34 ∷ used.Place (slot.Field 24 1) 34 ∷ [])) ∷
      (event kind.Text 85 (Some 2) (Some 2) Absent slot.None val.None (codes "a-b") (used.Value 19 ∷ used.Value 34 ∷ [])) ∷
      (event kind.Set 77 (Some 2) (Some 2) Absent (slot.Local 2 1) (val.Text 35) ([]) (used.Value 35 ∷ [])) ∷
      (event kind.Call 94 (Some 2) (Some 2) (Some 38) slot.None val.None ([]) ([])) ∷
      (event kind.Bind 43 (Some 37) (Some 37) Absent (slot.Local 37 0) (val.Fixed 5) ([]) ([])) ∷
      (event kind.Text 53 (Some 37) (Some 37) Absent slot.None val.None (codes "get c") (used.Place (slot.Local 37 0) 39 ∷ [])) ∷
      (event kind.Print 51 (Some 37) (Some 37) Absent slot.None (val.Text 39) ([]) (used.Value 39 ∷ [])) ∷
      (event kind.New 58 (Some 37) (Some 37) (Some 34) slot.None val.None ([]) ([])) ∷
      (event kind.Call 58 (Some 37) (Some 37) (Some 36) slot.None val.None ([]) ([])) ∷
      (event kind.Bind 6 (Some 42) (Some 42) Absent (slot.Local 42 0) (val.Object 41) ([]) (used.Value 41 ∷ [])) ∷
      (event kind.Bind 9 (Some 42) (Some 42) Absent (slot.Local 42 1) (val.Fixed 5) ([]) (used.Place (slot.Local 37 0) 42 ∷ [])) ∷
      (event kind.Set 15 (Some 42) (Some 42) Absent (slot.Field 41 1) (val.Fixed 5) ([]) (used.Place (slot.Local 42 0) 45 ∷ used.Place (slot.Local 42 1) 45 ∷ [])) ∷
      (event kind.Return 18 (Some 42) (Some 42) Absent slot.None val.None ([]) ([])) ∷
      (event kind.Return 57 (Some 37) (Some 37) Absent slot.None (val.Object 41) ([]) (used.Value 41 ∷ [])) ∷
      (event kind.Call 92 (Some 2) (Some 2) (Some 37) slot.None val.None ([]) (used.Value 47 ∷ [])) ∷
      (event kind.Bind 21 (Some 48) (Some 48) Absent (slot.Local 48 0) (val.Object 41) ([]) (used.Value 47 ∷ [])) ∷
      (event kind.Print 30 (Some 48) (Some 48) Absent slot.None (val.Fixed 5) ([]) (used.Place (slot.Local 48 0) 50 ∷ used.Place (slot.Field 41 1) 50 ∷ [])) ∷
      (event kind.Return 34 (Some 48) (Some 48) Absent slot.None (val.Fixed 5) ([]) (used.Place (slot.Local 48 0) 51 ∷ used.Place (slot.Field 41 1) 51 ∷ [])) ∷
      (event kind.Text 92 (Some 2) (Some 2) Absent slot.None val.None (codes "a-bc") (used.Place (slot.Local 2 1) 37 ∷ used.Value 51 ∷ [])) ∷
      (event kind.Set 92 (Some 2) (Some 2) Absent (slot.Local 2 1) (val.Text 52) ([]) (used.Value 52 ∷ [])) ∷
      (event kind.Return 98 (Some 2) (Some 2) Absent slot.None val.None ([]) ([])) ∷
      [];
  output = codes "get a\na\nget b\nb\nget c\nc\n";
  stop = 0;
  last = Absent;
  steps = 75;
  uses = 47;
  coverage = (cover 1 1 (Some 1) never_left) ∷ (cover 3 3 (Some 12) never_left) ∷ (cover 3 3 (Some 12) never_left) ∷ (cover 3 0 (Some 17) 51) ∷ (cover 3 3 (Some 17) never_left) ∷ (cover 3 0 (Some 18) 51) ∷ (cover 3 0 (Some 6) 47) ∷ (cover 3 3 (Some 6) never_left) ∷ (cover 3 0 (Some 8) 47) ∷ (cover 1 1 (Some 4) never_left) ∷ (cover 1 1 (Some 4) never_left) ∷ (cover 1 1 (Some 37) never_left) ∷ [];
}
unfolding told
order_of_conversions_run = refl
