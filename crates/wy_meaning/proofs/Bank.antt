-- A whole program with input: an interface, dispatch, `super`, an exception that is caught and printed, and tests of `&&`.
use Rattle.std.proofs.Common.{◌≡◌, refl}
use Rattle.std.specs.Prelude.{pos, negsuc, true, false, [], ◌∷◌, Some, codes}
use Rattle.std.specs.Prelude.{None as Absent}
use Rattle.wy_kernel.specs.declared.operator.Primitive.TheVariants as prim
use Rattle.wy_kernel.specs.declared.operator.BinOp.TheVariants as op
use Rattle.wy_kernel.specs.declared.types.Base.TheVariants.{Primitive as Basic, Class as Named}
use Rattle.wy_kernel.specs.declared.types.Ty.TheVariants.{Void, Of}
use Rattle.wy_kernel.specs.declared.types.MethodForm.TheVariants as kinds
use Rattle.wy_kernel.specs.declared.form.CondForm.TheVariants as condition
use Rattle.wy_kernel.specs.declared.form.CallForm.TheVariants as calling
use Rattle.wy_kernel.specs.declared.form.LibOp.TheVariants as lib
use Rattle.wy_kernel.specs.Form.{Int, Const, Str, Read, Set, Upd, Bin, Cond, New, NewArray, Call, Cat, Lib, Local, Field, Elem, absent, the, none, more, Stmt, Block, Eval, If, While, For, Return, Throw, Try, Print, nothing, done, first, uncaught, catch}
use Rattle.wy_kernel.specs.Program.{Program}
use Rattle.wy_value.specs.declared.value.Value.TheVariants as val
use Rattle.wy_event.specs.declared.record.Kind.TheVariants as kind
use Rattle.wy_event.specs.declared.record.Slot.TheVariants as slot
use Rattle.wy_event.specs.declared.record.Use.TheVariants as used
use Rattle.wy_steps.specs.Steps.{never_left}
use Rattle.wy_meaning.proofs.Computed.{told, event, cover, class_named, method_named, field_named, body_with}
use Rattle.wy_meaning.proofs.Builtin.{program}

-- interface Account { int balance(); void add(int n); String name(); }
-- abstract class Base implements Account {
--   private int cents;
--   public int balance() { return cents; }
--   public void add(int n) {
--     if (n < 0) throw new IllegalArgumentException("negative");
--     cents += n;
--   }
-- }
-- class Plain extends Base {
--   public String name() { return "plain"; }
-- }
-- class Bonus extends Base {
--   @Override public void add(int n) { super.add(n + n / 10); }
--   public String name() { return "bonus"; }
-- }
-- class Frozen extends Base {
--   public void add(int n) { throw new IllegalStateException("frozen"); }
--   public String name() { return "frozen"; }
-- }
-- public class Bank {
--   public static void main(String[] args) throws Exception {
--     Account[] all = { new Plain(), new Bonus(), new Frozen() };
--     int who = 0;
--     int c = System.in.read();
--     while (c != -1) {
--       int n = 0;
--       while (c >= '0' && c <= '9') {
--         n = n * 10 + (c - '0');
--         c = System.in.read();
--       }
--       try {
--         all[who % 3].add(n);
--       } catch (RuntimeException e) {
--         System.out.println(e);
--       }
--       who++;
--       c = System.in.read();
--     }
--     for (int i = 0; i < all.length; i++) {
--       System.out.println(all[i].name() + ": " + all[i].balance());
--     }
--   }
-- }
abbrev bank : Program
bank = program
    ((class_named (codes "Account") 1 Absent ([])) ∷ (class_named (codes "Base") 23 (Some 0) (18 ∷ [])) ∷ (class_named (codes "Plain") 69 (Some 19) ([])) ∷ (class_named (codes "Bonus") 85 (Some 19) ([])) ∷ (class_named (codes "Frozen") 123 (Some 19) ([])) ∷ (class_named (codes "Bank") 156 (Some 0) ([])) ∷ [])
    ((method_named (codes "balance") 4 18 ([]) (Of (Basic prim.Int) 0) kinds.Instance) ∷ (method_named (codes "add") 9 18 (Of (Basic prim.Int) 0 ∷ []) Void kinds.Instance) ∷ (method_named (codes "name") 16 18 ([]) (Of (Named 1) 0) kinds.Instance) ∷ (method_named (codes "new") 23 19 ([]) Void kinds.Constructor) ∷ (method_named (codes "balance") 33 19 ([]) (Of (Basic prim.Int) 0) kinds.Instance) ∷ (method_named (codes "add") 43 19 (Of (Basic prim.Int) 0 ∷ []) Void kinds.Instance) ∷ (method_named (codes "new") 69 20 ([]) Void kinds.Constructor) ∷ (method_named (codes "name") 75 20 ([]) (Of (Named 1) 0) kinds.Instance) ∷ (method_named (codes "new") 85 21 ([]) Void kinds.Constructor) ∷ (method_named (codes "add") 93 21 (Of (Basic prim.Int) 0 ∷ []) Void kinds.Instance) ∷ (method_named (codes "name") 113 21 ([]) (Of (Named 1) 0) kinds.Instance) ∷ (method_named (codes "new") 123 22 ([]) Void kinds.Constructor) ∷ (method_named (codes "add") 129 22 (Of (Basic prim.Int) 0 ∷ []) Void kinds.Instance) ∷ (method_named (codes "name") 145 22 ([]) (Of (Named 1) 0) kinds.Instance) ∷ (method_named (codes "new") 156 23 ([]) Void kinds.Constructor) ∷ (method_named (codes "main") 161 23 (Of (Named 1) 1 ∷ []) Void kinds.Static) ∷ [])
    ((field_named (codes "cents") 29 19 (Of (Basic prim.Int) 0) false) ∷ [])
    (Absent ∷ Absent ∷ Absent ∷ (Some (body_with (Stmt 75 23 false 4294967295 (Block done)) (23 ∷ []) 23)) ∷ (Some (body_with (Stmt 76 36 false 4294967295 (Block (first (Stmt 77 37 true 4294967295 (Return (the (Read (Field (Read (Local 0)) 1 38))))) done))) (33 ∷ []) 40)) ∷ (Some (body_with (Stmt 78 48 false 4294967295 (Block (first (Stmt 79 49 true 78 (If (Bin op.Lt (Read (Local 1)) (Const (Int (pos 0))) 0) (Stmt 80 55 true 4294967295 (Throw (New 9 (Some 19) (more (Str 1) none) 56))) nothing)) (first (Stmt 81 62 true 4294967295 (Eval (Upd (Field (Read (Local 0)) 1 62) op.Add (the (Read (Local 1))) (Of (Basic prim.Int) 0) (Of (Basic prim.Int) 0) (Some prim.Int) false 63))) done)))) (43 ∷ 46 ∷ []) 66)) ∷ (Some (body_with (Stmt 83 69 false 4294967295 (Block (first (Stmt 84 69 false 4294967295 (Eval (Call calling.Direct 39 (the (Read (Local 0))) (Of (Named 19) 0) none 69))) done))) (69 ∷ []) 69)) ∷ (Some (body_with (Stmt 85 78 false 4294967295 (Block (first (Stmt 86 79 true 4294967295 (Return (the (Str 2)))) done))) (75 ∷ []) 82)) ∷ (Some (body_with (Stmt 88 85 false 4294967295 (Block (first (Stmt 89 85 false 4294967295 (Eval (Call calling.Direct 39 (the (Read (Local 0))) (Of (Named 19) 0) none 85))) done))) (85 ∷ []) 85)) ∷ (Some (body_with (Stmt 90 98 false 4294967295 (Block (first (Stmt 91 99 true 4294967295 (Eval (Call calling.Direct 41 (the (Read (Local 0))) (Of (Named 19) 0) (more (Bin op.Add (Read (Local 1)) (Bin op.Div (Read (Local 1)) (Const (Int (pos 10))) 106) 0) none) 102))) done))) (93 ∷ 96 ∷ []) 110)) ∷ (Some (body_with (Stmt 92 116 false 4294967295 (Block (first (Stmt 93 117 true 4294967295 (Return (the (Str 3)))) done))) (113 ∷ []) 120)) ∷ (Some (body_with (Stmt 95 123 false 4294967295 (Block (first (Stmt 96 123 false 4294967295 (Eval (Call calling.Direct 39 (the (Read (Local 0))) (Of (Named 19) 0) none 123))) done))) (123 ∷ []) 123)) ∷ (Some (body_with (Stmt 97 134 false 4294967295 (Block (first (Stmt 98 135 true 4294967295 (Throw (New 11 (Some 23) (more (Str 4) none) 136))) done))) (129 ∷ 132 ∷ []) 141)) ∷ (Some (body_with (Stmt 99 148 false 4294967295 (Block (first (Stmt 100 149 true 4294967295 (Return (the (Str 4)))) done))) (145 ∷ []) 152)) ∷ (Some (body_with (Stmt 102 156 false 4294967295 (Block done)) (156 ∷ []) 156)) ∷ (Some (body_with (Stmt 103 170 false 4294967295 (Block (first (Stmt 104 174 true 4294967295 (Eval (Set (Local 1) (NewArray (Of (Named 18) 1) none (more (New 20 (Some 42) none 177) (more (New 21 (Some 44) none 182) (more (New 22 (Some 47) none 187) none))) (176 ∷ 181 ∷ 186 ∷ []) 176) 174))) (first (Stmt 105 194 true 4294967295 (Eval (Set (Local 2) (Const (Int (pos 0))) 194))) (first (Stmt 106 199 true 4294967295 (Eval (Set (Local 3) (Lib lib.ReadByte none 206) 199))) (first (Stmt 107 209 true 107 (While (Bin op.Ne (Read (Local 3)) (Const (Int (negsuc 0))) 0) (Stmt 108 216 false 4294967295 (Block (first (Stmt 109 218 true 4294967295 (Eval (Set (Local 4) (Const (Int (pos 0))) 218))) (first (Stmt 110 222 true 110 (While (Cond condition.And (Bin op.Ge (Read (Local 3)) (Const (Int (pos 48))) 0) (the (Bin op.Le (Read (Local 3)) (Const (Int (pos 57))) 0)) absent 227) (Stmt 111 232 false 4294967295 (Block (first (Stmt 112 233 true 4294967295 (Eval (Set (Local 4) (Bin op.Add (Bin op.Mul (Read (Local 4)) (Const (Int (pos 10))) 0) (Bin op.Sub (Read (Local 3)) (Const (Int (pos 48))) 0) 0) 234))) (first (Stmt 113 245 true 4294967295 (Eval (Set (Local 3) (Lib lib.ReadByte none 252) 246))) done)))))) (first (Stmt 114 256 true 4294967295 (Try (Stmt 115 257 false 4294967295 (Block (first (Stmt 116 258 true 4294967295 (Eval (Call calling.Chosen 37 (the (Read (Elem (Read (Local 1)) (Bin op.Rem (Read (Local 2)) (Const (Int (pos 3))) 261) 259))) (Of (Named 18) 0) (more (Read (Local 4)) none) 266))) done))) (catch 5 5 274 (Stmt 117 276 false 4294967295 (Block (first (Stmt 118 277 true 4294967295 (Print (the (Read (Local 5))) Void true 282)) done))) uncaught) nothing)) (first (Stmt 119 287 true 4294967295 (Eval (Upd (Local 2) op.Add absent (Of (Basic prim.Int) 0) (Of (Basic prim.Int) 0) (Some prim.Int) true 288))) (first (Stmt 120 290 true 4294967295 (Eval (Set (Local 3) (Lib lib.ReadByte none 297) 291))) done))))))))) (first (Stmt 121 301 true 121 (For (first (Stmt 122 304 true 4294967295 (Eval (Set (Local 6) (Const (Int (pos 0))) 304))) done) (the (Bin op.Lt (Read (Local 6)) (Lib lib.ArrayLength (more (Read (Local 1)) none) 312) 0)) (first (Stmt 123 314 true 4294967295 (Eval (Upd (Local 6) op.Add absent (Of (Basic prim.Int) 0) (Of (Basic prim.Int) 0) (Some prim.Int) true 315))) done) (Stmt 124 317 false 4294967295 (Block (first (Stmt 125 318 true 4294967295 (Print (the (Cat (Cat (Call calling.Chosen 38 (the (Read (Elem (Read (Local 1)) (Read (Local 6)) 325))) (Of (Named 18) 0) none 330) (Str 0) Void Void 332) (Call calling.Chosen 36 (the (Read (Elem (Read (Local 1)) (Read (Local 6)) 336))) (Of (Named 18) 0) none 341) Void Void 334)) Void true 323)) done))))) done))))))) (166 ∷ 174 ∷ 194 ∷ 199 ∷ 218 ∷ 274 ∷ 304 ∷ []) 346)) ∷ [])
    (Absent ∷ (Some (body_with (Stmt 74 23 false 4294967295 (Block done)) ([]) 23)) ∷ (Some (body_with (Stmt 82 69 false 4294967295 (Block done)) ([]) 69)) ∷ (Some (body_with (Stmt 87 85 false 4294967295 (Block done)) ([]) 85)) ∷ (Some (body_with (Stmt 94 123 false 4294967295 (Block done)) ([]) 123)) ∷ (Some (body_with (Stmt 101 156 false 4294967295 (Block done)) ([]) 156)) ∷ [])
    (codes "negative" ∷ codes "plain" ∷ codes "bonus" ∷ codes "frozen" ∷ [])
    126 51

bank_run : told bank (49 ∷ 48 ∷ 48 ∷ 44 ∷ 50 ∷ 48 ∷ 48 ∷ 44 ∷ 51 ∷ 48 ∷ 48 ∷ 44 ∷ 52 ∷ 48 ∷ []) 1000 ≡ record {
  events =
      (event kind.Init 156 Absent Absent (Some 23) slot.None val.None ([]) ([])) ∷
      (event kind.New 161 Absent Absent (Some 16777233) slot.None (val.Int (pos 0)) ([]) ([])) ∷
      (event kind.Call 161 Absent Absent (Some 51) slot.None val.None ([]) ([])) ∷
      (event kind.Bind 166 (Some 2) (Some 2) Absent (slot.Local 2 0) (val.Object 1) ([]) (used.Value 1 ∷ [])) ∷
      (event kind.New 176 (Some 2) (Some 2) (Some 16777250) slot.None (val.Int (pos 3)) ([]) ([])) ∷
      (event kind.Init 177 (Some 2) (Some 2) (Some 20) slot.None val.None ([]) ([])) ∷
      (event kind.Init 69 (Some 5) (Some 5) (Some 19) slot.None val.None ([]) ([])) ∷
      (event kind.New 177 (Some 2) (Some 2) (Some 36) slot.None val.None ([]) ([])) ∷
      (event kind.Call 177 (Some 2) (Some 2) (Some 42) slot.None val.None ([]) ([])) ∷
      (event kind.Bind 69 (Some 8) (Some 8) Absent (slot.Local 8 0) (val.Object 7) ([]) (used.Value 7 ∷ [])) ∷
      (event kind.Call 69 (Some 8) (Some 8) (Some 39) slot.None val.None ([]) ([])) ∷
      (event kind.Bind 23 (Some 10) (Some 10) Absent (slot.Local 10 0) (val.Object 7) ([]) (used.Place (slot.Local 8 0) 10 ∷ [])) ∷
      (event kind.Return 23 (Some 10) (Some 10) Absent slot.None val.None ([]) ([])) ∷
      (event kind.Return 69 (Some 8) (Some 8) Absent slot.None val.None ([]) ([])) ∷
      (event kind.Set 176 (Some 2) (Some 2) Absent (slot.Elem 4 0) (val.Object 7) ([]) (used.Value 4 ∷ used.Value 7 ∷ [])) ∷
      (event kind.Init 182 (Some 2) (Some 2) (Some 21) slot.None val.None ([]) ([])) ∷
      (event kind.New 182 (Some 2) (Some 2) (Some 37) slot.None val.None ([]) ([])) ∷
      (event kind.Call 182 (Some 2) (Some 2) (Some 44) slot.None val.None ([]) ([])) ∷
      (event kind.Bind 85 (Some 17) (Some 17) Absent (slot.Local 17 0) (val.Object 16) ([]) (used.Value 16 ∷ [])) ∷
      (event kind.Call 85 (Some 17) (Some 17) (Some 39) slot.None val.None ([]) ([])) ∷
      (event kind.Bind 23 (Some 19) (Some 19) Absent (slot.Local 19 0) (val.Object 16) ([]) (used.Place (slot.Local 17 0) 19 ∷ [])) ∷
      (event kind.Return 23 (Some 19) (Some 19) Absent slot.None val.None ([]) ([])) ∷
      (event kind.Return 85 (Some 17) (Some 17) Absent slot.None val.None ([]) ([])) ∷
      (event kind.Set 181 (Some 2) (Some 2) Absent (slot.Elem 4 1) (val.Object 16) ([]) (used.Value 4 ∷ used.Value 16 ∷ [])) ∷
      (event kind.Init 187 (Some 2) (Some 2) (Some 22) slot.None val.None ([]) ([])) ∷
      (event kind.New 187 (Some 2) (Some 2) (Some 38) slot.None val.None ([]) ([])) ∷
      (event kind.Call 187 (Some 2) (Some 2) (Some 47) slot.None val.None ([]) ([])) ∷
      (event kind.Bind 123 (Some 26) (Some 26) Absent (slot.Local 26 0) (val.Object 25) ([]) (used.Value 25 ∷ [])) ∷
      (event kind.Call 123 (Some 26) (Some 26) (Some 39) slot.None val.None ([]) ([])) ∷
      (event kind.Bind 23 (Some 28) (Some 28) Absent (slot.Local 28 0) (val.Object 25) ([]) (used.Place (slot.Local 26 0) 28 ∷ [])) ∷
      (event kind.Return 23 (Some 28) (Some 28) Absent slot.None val.None ([]) ([])) ∷
      (event kind.Return 123 (Some 26) (Some 26) Absent slot.None val.None ([]) ([])) ∷
      (event kind.Set 186 (Some 2) (Some 2) Absent (slot.Elem 4 2) (val.Object 25) ([]) (used.Value 4 ∷ used.Value 25 ∷ [])) ∷
      (event kind.Set 174 (Some 2) (Some 2) Absent (slot.Local 2 1) (val.Object 4) ([]) (used.Value 4 ∷ [])) ∷
      (event kind.Set 194 (Some 2) (Some 2) Absent (slot.Local 2 2) (val.Int (pos 0)) ([]) ([])) ∷
      (event kind.Read 206 (Some 2) (Some 2) Absent slot.None (val.Int (pos 49)) ([]) ([])) ∷
      (event kind.Set 199 (Some 2) (Some 2) Absent (slot.Local 2 3) (val.Int (pos 49)) ([]) (used.Value 35 ∷ [])) ∷
      (event kind.Test 209 (Some 2) (Some 2) Absent slot.None (val.Arm 1) ([]) (used.Place (slot.Local 2 3) 37 ∷ [])) ∷
      (event kind.Set 218 (Some 2) (Some 37) Absent (slot.Local 2 4) (val.Int (pos 0)) ([]) ([])) ∷
      (event kind.Test 227 (Some 2) (Some 37) Absent slot.None (val.Arm 1) ([]) (used.Place (slot.Local 2 3) 39 ∷ [])) ∷
      (event kind.Test 222 (Some 2) (Some 37) Absent slot.None (val.Arm 1) ([]) (used.Choice 39 ∷ used.Place (slot.Local 2 3) 40 ∷ [])) ∷
      (event kind.Set 234 (Some 2) (Some 40) Absent (slot.Local 2 4) (val.Int (pos 1)) ([]) (used.Place (slot.Local 2 4) 41 ∷ used.Place (slot.Local 2 3) 41 ∷ [])) ∷
      (event kind.Read 252 (Some 2) (Some 40) Absent slot.None (val.Int (pos 48)) ([]) ([])) ∷
      (event kind.Set 246 (Some 2) (Some 40) Absent (slot.Local 2 3) (val.Int (pos 48)) ([]) (used.Value 42 ∷ [])) ∷
      (event kind.Test 227 (Some 2) (Some 40) Absent slot.None (val.Arm 1) ([]) (used.Place (slot.Local 2 3) 44 ∷ [])) ∷
      (event kind.Test 222 (Some 2) (Some 40) Absent slot.None (val.Arm 1) ([]) (used.Choice 44 ∷ used.Place (slot.Local 2 3) 45 ∷ [])) ∷
      (event kind.Set 234 (Some 2) (Some 45) Absent (slot.Local 2 4) (val.Int (pos 10)) ([]) (used.Place (slot.Local 2 4) 46 ∷ used.Place (slot.Local 2 3) 46 ∷ [])) ∷
      (event kind.Read 252 (Some 2) (Some 45) Absent slot.None (val.Int (pos 48)) ([]) ([])) ∷
      (event kind.Set 246 (Some 2) (Some 45) Absent (slot.Local 2 3) (val.Int (pos 48)) ([]) (used.Value 47 ∷ [])) ∷
      (event kind.Test 227 (Some 2) (Some 45) Absent slot.None (val.Arm 1) ([]) (used.Place (slot.Local 2 3) 49 ∷ [])) ∷
      (event kind.Test 222 (Some 2) (Some 45) Absent slot.None (val.Arm 1) ([]) (used.Choice 49 ∷ used.Place (slot.Local 2 3) 50 ∷ [])) ∷
      (event kind.Set 234 (Some 2) (Some 50) Absent (slot.Local 2 4) (val.Int (pos 100)) ([]) (used.Place (slot.Local 2 4) 51 ∷ used.Place (slot.Local 2 3) 51 ∷ [])) ∷
      (event kind.Read 252 (Some 2) (Some 50) Absent slot.None (val.Int (pos 44)) ([]) ([])) ∷
      (event kind.Set 246 (Some 2) (Some 50) Absent (slot.Local 2 3) (val.Int (pos 44)) ([]) (used.Value 52 ∷ [])) ∷
      (event kind.Test 227 (Some 2) (Some 50) Absent slot.None (val.Arm 0) ([]) (used.Place (slot.Local 2 3) 54 ∷ [])) ∷
      (event kind.Test 222 (Some 2) (Some 50) Absent slot.None (val.Arm 0) ([]) (used.Value 54 ∷ [])) ∷
      (event kind.Call 266 (Some 2) (Some 37) (Some 41) slot.None val.None ([]) (used.Place (slot.Local 2 1) 56 ∷ used.Place (slot.Local 2 2) 56 ∷ used.Place (slot.Elem 4 0) 56 ∷ [])) ∷
      (event kind.Bind 43 (Some 56) (Some 56) Absent (slot.Local 56 0) (val.Object 7) ([]) (used.Place (slot.Local 2 1) 56 ∷ used.Place (slot.Local 2 2) 56 ∷ used.Place (slot.Elem 4 0) 56 ∷ [])) ∷
      (event kind.Bind 46 (Some 56) (Some 56) Absent (slot.Local 56 1) (val.Int (pos 100)) ([]) (used.Place (slot.Local 2 4) 56 ∷ [])) ∷
      (event kind.Test 49 (Some 56) (Some 56) Absent slot.None (val.Arm 0) ([]) (used.Place (slot.Local 56 1) 59 ∷ [])) ∷
      (event kind.Set 63 (Some 56) (Some 59) Absent (slot.Field 7 1) (val.Int (pos 100)) ([]) (used.Place (slot.Local 56 0) 60 ∷ used.Place (slot.Local 56 0) 60 ∷ used.Place (slot.Field 7 1) 60 ∷ used.Place (slot.Local 56 1) 60 ∷ [])) ∷
      (event kind.Return 66 (Some 56) (Some 56) Absent slot.None val.None ([]) ([])) ∷
      (event kind.Set 288 (Some 2) (Some 37) Absent (slot.Local 2 2) (val.Int (pos 1)) ([]) (used.Place (slot.Local 2 2) 62 ∷ [])) ∷
      (event kind.Read 297 (Some 2) (Some 37) Absent slot.None (val.Int (pos 50)) ([]) ([])) ∷
      (event kind.Set 291 (Some 2) (Some 37) Absent (slot.Local 2 3) (val.Int (pos 50)) ([]) (used.Value 63 ∷ [])) ∷
      (event kind.Test 209 (Some 2) (Some 37) Absent slot.None (val.Arm 1) ([]) (used.Place (slot.Local 2 3) 65 ∷ [])) ∷
      (event kind.Set 218 (Some 2) (Some 65) Absent (slot.Local 2 4) (val.Int (pos 0)) ([]) ([])) ∷
      (event kind.Test 227 (Some 2) (Some 65) Absent slot.None (val.Arm 1) ([]) (used.Place (slot.Local 2 3) 67 ∷ [])) ∷
      (event kind.Test 222 (Some 2) (Some 65) Absent slot.None (val.Arm 1) ([]) (used.Choice 67 ∷ used.Place (slot.Local 2 3) 68 ∷ [])) ∷
      (event kind.Set 234 (Some 2) (Some 68) Absent (slot.Local 2 4) (val.Int (pos 2)) ([]) (used.Place (slot.Local 2 4) 69 ∷ used.Place (slot.Local 2 3) 69 ∷ [])) ∷
      (event kind.Read 252 (Some 2) (Some 68) Absent slot.None (val.Int (pos 48)) ([]) ([])) ∷
      (event kind.Set 246 (Some 2) (Some 68) Absent (slot.Local 2 3) (val.Int (pos 48)) ([]) (used.Value 70 ∷ [])) ∷
      (event kind.Test 227 (Some 2) (Some 68) Absent slot.None (val.Arm 1) ([]) (used.Place (slot.Local 2 3) 72 ∷ [])) ∷
      (event kind.Test 222 (Some 2) (Some 68) Absent slot.None (val.Arm 1) ([]) (used.Choice 72 ∷ used.Place (slot.Local 2 3) 73 ∷ [])) ∷
      (event kind.Set 234 (Some 2) (Some 73) Absent (slot.Local 2 4) (val.Int (pos 20)) ([]) (used.Place (slot.Local 2 4) 74 ∷ used.Place (slot.Local 2 3) 74 ∷ [])) ∷
      (event kind.Read 252 (Some 2) (Some 73) Absent slot.None (val.Int (pos 48)) ([]) ([])) ∷
      (event kind.Set 246 (Some 2) (Some 73) Absent (slot.Local 2 3) (val.Int (pos 48)) ([]) (used.Value 75 ∷ [])) ∷
      (event kind.Test 227 (Some 2) (Some 73) Absent slot.None (val.Arm 1) ([]) (used.Place (slot.Local 2 3) 77 ∷ [])) ∷
      (event kind.Test 222 (Some 2) (Some 73) Absent slot.None (val.Arm 1) ([]) (used.Choice 77 ∷ used.Place (slot.Local 2 3) 78 ∷ [])) ∷
      (event kind.Set 234 (Some 2) (Some 78) Absent (slot.Local 2 4) (val.Int (pos 200)) ([]) (used.Place (slot.Local 2 4) 79 ∷ used.Place (slot.Local 2 3) 79 ∷ [])) ∷
      (event kind.Read 252 (Some 2) (Some 78) Absent slot.None (val.Int (pos 44)) ([]) ([])) ∷
      (event kind.Set 246 (Some 2) (Some 78) Absent (slot.Local 2 3) (val.Int (pos 44)) ([]) (used.Value 80 ∷ [])) ∷
      (event kind.Test 227 (Some 2) (Some 78) Absent slot.None (val.Arm 0) ([]) (used.Place (slot.Local 2 3) 82 ∷ [])) ∷
      (event kind.Test 222 (Some 2) (Some 78) Absent slot.None (val.Arm 0) ([]) (used.Value 82 ∷ [])) ∷
      (event kind.Call 266 (Some 2) (Some 65) (Some 45) slot.None val.None ([]) (used.Place (slot.Local 2 1) 84 ∷ used.Place (slot.Local 2 2) 84 ∷ used.Place (slot.Elem 4 1) 84 ∷ [])) ∷
      (event kind.Bind 93 (Some 84) (Some 84) Absent (slot.Local 84 0) (val.Object 16) ([]) (used.Place (slot.Local 2 1) 84 ∷ used.Place (slot.Local 2 2) 84 ∷ used.Place (slot.Elem 4 1) 84 ∷ [])) ∷
      (event kind.Bind 96 (Some 84) (Some 84) Absent (slot.Local 84 1) (val.Int (pos 200)) ([]) (used.Place (slot.Local 2 4) 84 ∷ [])) ∷
      (event kind.Call 102 (Some 84) (Some 84) (Some 41) slot.None val.None ([]) (used.Place (slot.Local 84 0) 87 ∷ [])) ∷
      (event kind.Bind 43 (Some 87) (Some 87) Absent (slot.Local 87 0) (val.Object 16) ([]) (used.Place (slot.Local 84 0) 87 ∷ [])) ∷
      (event kind.Bind 46 (Some 87) (Some 87) Absent (slot.Local 87 1) (val.Int (pos 220)) ([]) (used.Place (slot.Local 84 1) 87 ∷ used.Place (slot.Local 84 1) 87 ∷ [])) ∷
      (event kind.Test 49 (Some 87) (Some 87) Absent slot.None (val.Arm 0) ([]) (used.Place (slot.Local 87 1) 90 ∷ [])) ∷
      (event kind.Set 63 (Some 87) (Some 90) Absent (slot.Field 16 1) (val.Int (pos 220)) ([]) (used.Place (slot.Local 87 0) 91 ∷ used.Place (slot.Local 87 0) 91 ∷ used.Place (slot.Field 16 1) 91 ∷ used.Place (slot.Local 87 1) 91 ∷ [])) ∷
      (event kind.Return 66 (Some 87) (Some 87) Absent slot.None val.None ([]) ([])) ∷
      (event kind.Return 110 (Some 84) (Some 84) Absent slot.None val.None ([]) ([])) ∷
      (event kind.Set 288 (Some 2) (Some 65) Absent (slot.Local 2 2) (val.Int (pos 2)) ([]) (used.Place (slot.Local 2 2) 94 ∷ [])) ∷
      (event kind.Read 297 (Some 2) (Some 65) Absent slot.None (val.Int (pos 51)) ([]) ([])) ∷
      (event kind.Set 291 (Some 2) (Some 65) Absent (slot.Local 2 3) (val.Int (pos 51)) ([]) (used.Value 95 ∷ [])) ∷
      (event kind.Test 209 (Some 2) (Some 65) Absent slot.None (val.Arm 1) ([]) (used.Place (slot.Local 2 3) 97 ∷ [])) ∷
      (event kind.Set 218 (Some 2) (Some 97) Absent (slot.Local 2 4) (val.Int (pos 0)) ([]) ([])) ∷
      (event kind.Test 227 (Some 2) (Some 97) Absent slot.None (val.Arm 1) ([]) (used.Place (slot.Local 2 3) 99 ∷ [])) ∷
      (event kind.Test 222 (Some 2) (Some 97) Absent slot.None (val.Arm 1) ([]) (used.Choice 99 ∷ used.Place (slot.Local 2 3) 100 ∷ [])) ∷
      (event kind.Set 234 (Some 2) (Some 100) Absent (slot.Local 2 4) (val.Int (pos 3)) ([]) (used.Place (slot.Local 2 4) 101 ∷ used.Place (slot.Local 2 3) 101 ∷ [])) ∷
      (event kind.Read 252 (Some 2) (Some 100) Absent slot.None (val.Int (pos 48)) ([]) ([])) ∷
      (event kind.Set 246 (Some 2) (Some 100) Absent (slot.Local 2 3) (val.Int (pos 48)) ([]) (used.Value 102 ∷ [])) ∷
      (event kind.Test 227 (Some 2) (Some 100) Absent slot.None (val.Arm 1) ([]) (used.Place (slot.Local 2 3) 104 ∷ [])) ∷
      (event kind.Test 222 (Some 2) (Some 100) Absent slot.None (val.Arm 1) ([]) (used.Choice 104 ∷ used.Place (slot.Local 2 3) 105 ∷ [])) ∷
      (event kind.Set 234 (Some 2) (Some 105) Absent (slot.Local 2 4) (val.Int (pos 30)) ([]) (used.Place (slot.Local 2 4) 106 ∷ used.Place (slot.Local 2 3) 106 ∷ [])) ∷
      (event kind.Read 252 (Some 2) (Some 105) Absent slot.None (val.Int (pos 48)) ([]) ([])) ∷
      (event kind.Set 246 (Some 2) (Some 105) Absent (slot.Local 2 3) (val.Int (pos 48)) ([]) (used.Value 107 ∷ [])) ∷
      (event kind.Test 227 (Some 2) (Some 105) Absent slot.None (val.Arm 1) ([]) (used.Place (slot.Local 2 3) 109 ∷ [])) ∷
      (event kind.Test 222 (Some 2) (Some 105) Absent slot.None (val.Arm 1) ([]) (used.Choice 109 ∷ used.Place (slot.Local 2 3) 110 ∷ [])) ∷
      (event kind.Set 234 (Some 2) (Some 110) Absent (slot.Local 2 4) (val.Int (pos 300)) ([]) (used.Place (slot.Local 2 4) 111 ∷ used.Place (slot.Local 2 3) 111 ∷ [])) ∷
      (event kind.Read 252 (Some 2) (Some 110) Absent slot.None (val.Int (pos 44)) ([]) ([])) ∷
      (event kind.Set 246 (Some 2) (Some 110) Absent (slot.Local 2 3) (val.Int (pos 44)) ([]) (used.Value 112 ∷ [])) ∷
      (event kind.Test 227 (Some 2) (Some 110) Absent slot.None (val.Arm 0) ([]) (used.Place (slot.Local 2 3) 114 ∷ [])) ∷
      (event kind.Test 222 (Some 2) (Some 110) Absent slot.None (val.Arm 0) ([]) (used.Value 114 ∷ [])) ∷
      (event kind.Call 266 (Some 2) (Some 97) (Some 48) slot.None val.None ([]) (used.Place (slot.Local 2 1) 116 ∷ used.Place (slot.Local 2 2) 116 ∷ used.Place (slot.Elem 4 2) 116 ∷ [])) ∷
      (event kind.Bind 129 (Some 116) (Some 116) Absent (slot.Local 116 0) (val.Object 25) ([]) (used.Place (slot.Local 2 1) 116 ∷ used.Place (slot.Local 2 2) 116 ∷ used.Place (slot.Elem 4 2) 116 ∷ [])) ∷
      (event kind.Bind 132 (Some 116) (Some 116) Absent (slot.Local 116 1) (val.Int (pos 300)) ([]) (used.Place (slot.Local 2 4) 116 ∷ [])) ∷
      (event kind.New 136 (Some 116) (Some 116) (Some 27) slot.None val.None ([]) ([])) ∷
      (event kind.Call 136 (Some 116) (Some 116) (Some 23) slot.None val.None ([]) ([])) ∷
      (event kind.Bind 2147483671 (Some 120) (Some 120) Absent (slot.Local 120 0) (val.Object 119) ([]) (used.Value 119 ∷ [])) ∷
      (event kind.Bind 2147483671 (Some 120) (Some 120) Absent (slot.Local 120 1) (val.Fixed 4) ([]) ([])) ∷
      (event kind.Call 2147483671 (Some 120) (Some 120) (Some 11) slot.None val.None ([]) ([])) ∷
      (event kind.Bind 2147483659 (Some 123) (Some 123) Absent (slot.Local 123 0) (val.Object 119) ([]) (used.Place (slot.Local 120 0) 123 ∷ [])) ∷
      (event kind.Bind 2147483659 (Some 123) (Some 123) Absent (slot.Local 123 1) (val.Fixed 4) ([]) (used.Place (slot.Local 120 1) 123 ∷ [])) ∷
      (event kind.Call 2147483659 (Some 123) (Some 123) (Some 7) slot.None val.None ([]) ([])) ∷
      (event kind.Bind 2147483655 (Some 126) (Some 126) Absent (slot.Local 126 0) (val.Object 119) ([]) (used.Place (slot.Local 123 0) 126 ∷ [])) ∷
      (event kind.Bind 2147483655 (Some 126) (Some 126) Absent (slot.Local 126 1) (val.Fixed 4) ([]) (used.Place (slot.Local 123 1) 126 ∷ [])) ∷
      (event kind.Call 2147483655 (Some 126) (Some 126) (Some 3) slot.None val.None ([]) ([])) ∷
      (event kind.Bind 2147483651 (Some 129) (Some 129) Absent (slot.Local 129 0) (val.Object 119) ([]) (used.Place (slot.Local 126 0) 129 ∷ [])) ∷
      (event kind.Bind 2147483651 (Some 129) (Some 129) Absent (slot.Local 129 1) (val.Fixed 4) ([]) (used.Place (slot.Local 126 1) 129 ∷ [])) ∷
      (event kind.Set 2147483651 (Some 129) (Some 129) Absent (slot.Field 119 0) (val.Fixed 4) ([]) (used.Place (slot.Local 129 0) 132 ∷ used.Place (slot.Local 129 1) 132 ∷ [])) ∷
      (event kind.Return 2147483651 (Some 129) (Some 129) Absent slot.None val.None ([]) ([])) ∷
      (event kind.Return 2147483655 (Some 126) (Some 126) Absent slot.None val.None ([]) ([])) ∷
      (event kind.Return 2147483659 (Some 123) (Some 123) Absent slot.None val.None ([]) ([])) ∷
      (event kind.Return 2147483671 (Some 120) (Some 120) Absent slot.None val.None ([]) ([])) ∷
      (event kind.Throw 135 (Some 116) (Some 116) Absent slot.None (val.Object 119) ([]) (used.Value 119 ∷ [])) ∷
      (event kind.Catch 274 (Some 2) (Some 97) Absent (slot.Local 2 5) (val.Object 119) ([]) (used.Value 137 ∷ [])) ∷
      (event kind.Call 282 (Some 2) (Some 138) (Some 5) slot.None val.None ([]) (used.Place (slot.Local 2 5) 139 ∷ [])) ∷
      (event kind.Bind 2147483653 (Some 139) (Some 139) Absent (slot.Local 139 0) (val.Object 119) ([]) (used.Place (slot.Local 2 5) 139 ∷ [])) ∷
      (event kind.Call 2147483653 (Some 139) (Some 139) (Some 4) slot.None val.None ([]) (used.Place (slot.Local 139 0) 141 ∷ [])) ∷
      (event kind.Bind 2147483652 (Some 141) (Some 141) Absent (slot.Local 141 0) (val.Object 119) ([]) (used.Place (slot.Local 139 0) 141 ∷ [])) ∷
      (event kind.Return 2147483652 (Some 141) (Some 141) Absent slot.None (val.Fixed 4) ([]) (used.Place (slot.Local 141 0) 143 ∷ used.Place (slot.Field 119 0) 143 ∷ [])) ∷
      (event kind.Set 2147483653 (Some 139) (Some 139) Absent (slot.Local 139 1) (val.Fixed 4) ([]) (used.Value 143 ∷ [])) ∷
      (event kind.Test 2147483653 (Some 139) (Some 139) Absent slot.None (val.Arm 0) ([]) (used.Place (slot.Local 139 1) 145 ∷ [])) ∷
      (event kind.Text 2147483653 (Some 139) (Some 145) Absent slot.None val.None (codes "java.lang.IllegalStateException") (used.Place (slot.Local 139 0) 146 ∷ [])) ∷
      (event kind.Text 2147483653 (Some 139) (Some 145) Absent slot.None val.None (codes "java.lang.IllegalStateException: ") (used.Value 146 ∷ [])) ∷
      (event kind.Text 2147483653 (Some 139) (Some 145) Absent slot.None val.None (codes "java.lang.IllegalStateException: frozen") (used.Value 147 ∷ used.Place (slot.Local 139 1) 148 ∷ [])) ∷
      (event kind.Return 2147483653 (Some 139) (Some 145) Absent slot.None (val.Text 148) ([]) (used.Value 148 ∷ [])) ∷
      (event kind.Print 282 (Some 2) (Some 138) Absent slot.None (val.Text 148) ([]) (used.Value 149 ∷ [])) ∷
      (event kind.Set 288 (Some 2) (Some 97) Absent (slot.Local 2 2) (val.Int (pos 3)) ([]) (used.Place (slot.Local 2 2) 151 ∷ [])) ∷
      (event kind.Read 297 (Some 2) (Some 97) Absent slot.None (val.Int (pos 52)) ([]) ([])) ∷
      (event kind.Set 291 (Some 2) (Some 97) Absent (slot.Local 2 3) (val.Int (pos 52)) ([]) (used.Value 152 ∷ [])) ∷
      (event kind.Test 209 (Some 2) (Some 97) Absent slot.None (val.Arm 1) ([]) (used.Place (slot.Local 2 3) 154 ∷ [])) ∷
      (event kind.Set 218 (Some 2) (Some 154) Absent (slot.Local 2 4) (val.Int (pos 0)) ([]) ([])) ∷
      (event kind.Test 227 (Some 2) (Some 154) Absent slot.None (val.Arm 1) ([]) (used.Place (slot.Local 2 3) 156 ∷ [])) ∷
      (event kind.Test 222 (Some 2) (Some 154) Absent slot.None (val.Arm 1) ([]) (used.Choice 156 ∷ used.Place (slot.Local 2 3) 157 ∷ [])) ∷
      (event kind.Set 234 (Some 2) (Some 157) Absent (slot.Local 2 4) (val.Int (pos 4)) ([]) (used.Place (slot.Local 2 4) 158 ∷ used.Place (slot.Local 2 3) 158 ∷ [])) ∷
      (event kind.Read 252 (Some 2) (Some 157) Absent slot.None (val.Int (pos 48)) ([]) ([])) ∷
      (event kind.Set 246 (Some 2) (Some 157) Absent (slot.Local 2 3) (val.Int (pos 48)) ([]) (used.Value 159 ∷ [])) ∷
      (event kind.Test 227 (Some 2) (Some 157) Absent slot.None (val.Arm 1) ([]) (used.Place (slot.Local 2 3) 161 ∷ [])) ∷
      (event kind.Test 222 (Some 2) (Some 157) Absent slot.None (val.Arm 1) ([]) (used.Choice 161 ∷ used.Place (slot.Local 2 3) 162 ∷ [])) ∷
      (event kind.Set 234 (Some 2) (Some 162) Absent (slot.Local 2 4) (val.Int (pos 40)) ([]) (used.Place (slot.Local 2 4) 163 ∷ used.Place (slot.Local 2 3) 163 ∷ [])) ∷
      (event kind.Read 252 (Some 2) (Some 162) Absent slot.None (val.Int (negsuc 0)) ([]) ([])) ∷
      (event kind.Set 246 (Some 2) (Some 162) Absent (slot.Local 2 3) (val.Int (negsuc 0)) ([]) (used.Value 164 ∷ [])) ∷
      (event kind.Test 227 (Some 2) (Some 162) Absent slot.None (val.Arm 0) ([]) (used.Place (slot.Local 2 3) 166 ∷ [])) ∷
      (event kind.Test 222 (Some 2) (Some 162) Absent slot.None (val.Arm 0) ([]) (used.Value 166 ∷ [])) ∷
      (event kind.Call 266 (Some 2) (Some 154) (Some 41) slot.None val.None ([]) (used.Place (slot.Local 2 1) 168 ∷ used.Place (slot.Local 2 2) 168 ∷ used.Place (slot.Elem 4 0) 168 ∷ [])) ∷
      (event kind.Bind 43 (Some 168) (Some 168) Absent (slot.Local 168 0) (val.Object 7) ([]) (used.Place (slot.Local 2 1) 168 ∷ used.Place (slot.Local 2 2) 168 ∷ used.Place (slot.Elem 4 0) 168 ∷ [])) ∷
      (event kind.Bind 46 (Some 168) (Some 168) Absent (slot.Local 168 1) (val.Int (pos 40)) ([]) (used.Place (slot.Local 2 4) 168 ∷ [])) ∷
      (event kind.Test 49 (Some 168) (Some 168) Absent slot.None (val.Arm 0) ([]) (used.Place (slot.Local 168 1) 171 ∷ [])) ∷
      (event kind.Set 63 (Some 168) (Some 171) Absent (slot.Field 7 1) (val.Int (pos 140)) ([]) (used.Place (slot.Local 168 0) 172 ∷ used.Place (slot.Local 168 0) 172 ∷ used.Place (slot.Field 7 1) 172 ∷ used.Place (slot.Local 168 1) 172 ∷ [])) ∷
      (event kind.Return 66 (Some 168) (Some 168) Absent slot.None val.None ([]) ([])) ∷
      (event kind.Set 288 (Some 2) (Some 154) Absent (slot.Local 2 2) (val.Int (pos 4)) ([]) (used.Place (slot.Local 2 2) 174 ∷ [])) ∷
      (event kind.Read 297 (Some 2) (Some 154) Absent slot.None (val.Int (negsuc 0)) ([]) ([])) ∷
      (event kind.Set 291 (Some 2) (Some 154) Absent (slot.Local 2 3) (val.Int (negsuc 0)) ([]) (used.Value 175 ∷ [])) ∷
      (event kind.Test 209 (Some 2) (Some 154) Absent slot.None (val.Arm 0) ([]) (used.Place (slot.Local 2 3) 177 ∷ [])) ∷
      (event kind.Set 304 (Some 2) (Some 2) Absent (slot.Local 2 6) (val.Int (pos 0)) ([]) ([])) ∷
      (event kind.Test 301 (Some 2) (Some 2) Absent slot.None (val.Arm 1) ([]) (used.Place (slot.Local 2 6) 179 ∷ used.Place (slot.Local 2 1) 179 ∷ [])) ∷
      (event kind.Call 330 (Some 2) (Some 179) (Some 43) slot.None val.None ([]) (used.Place (slot.Local 2 1) 180 ∷ used.Place (slot.Local 2 6) 180 ∷ used.Place (slot.Elem 4 0) 180 ∷ [])) ∷
      (event kind.Bind 75 (Some 180) (Some 180) Absent (slot.Local 180 0) (val.Object 7) ([]) (used.Place (slot.Local 2 1) 180 ∷ used.Place (slot.Local 2 6) 180 ∷ used.Place (slot.Elem 4 0) 180 ∷ [])) ∷
      (event kind.Return 79 (Some 180) (Some 180) Absent slot.None (val.Fixed 2) ([]) ([])) ∷
      (event kind.Text 332 (Some 2) (Some 179) Absent slot.None val.None (codes "plain: ") (used.Value 182 ∷ [])) ∷
      (event kind.Call 341 (Some 2) (Some 179) (Some 40) slot.None val.None ([]) (used.Place (slot.Local 2 1) 184 ∷ used.Place (slot.Local 2 6) 184 ∷ used.Place (slot.Elem 4 0) 184 ∷ [])) ∷
      (event kind.Bind 33 (Some 184) (Some 184) Absent (slot.Local 184 0) (val.Object 7) ([]) (used.Place (slot.Local 2 1) 184 ∷ used.Place (slot.Local 2 6) 184 ∷ used.Place (slot.Elem 4 0) 184 ∷ [])) ∷
      (event kind.Return 37 (Some 184) (Some 184) Absent slot.None (val.Int (pos 140)) ([]) (used.Place (slot.Local 184 0) 186 ∷ used.Place (slot.Field 7 1) 186 ∷ [])) ∷
      (event kind.Text 334 (Some 2) (Some 179) Absent slot.None val.None (codes "plain: 140") (used.Value 183 ∷ used.Value 186 ∷ [])) ∷
      (event kind.Print 323 (Some 2) (Some 179) Absent slot.None (val.Text 187) ([]) (used.Value 187 ∷ [])) ∷
      (event kind.Set 315 (Some 2) (Some 179) Absent (slot.Local 2 6) (val.Int (pos 1)) ([]) (used.Place (slot.Local 2 6) 189 ∷ [])) ∷
      (event kind.Test 301 (Some 2) (Some 179) Absent slot.None (val.Arm 1) ([]) (used.Place (slot.Local 2 6) 190 ∷ used.Place (slot.Local 2 1) 190 ∷ [])) ∷
      (event kind.Call 330 (Some 2) (Some 190) (Some 46) slot.None val.None ([]) (used.Place (slot.Local 2 1) 191 ∷ used.Place (slot.Local 2 6) 191 ∷ used.Place (slot.Elem 4 1) 191 ∷ [])) ∷
      (event kind.Bind 113 (Some 191) (Some 191) Absent (slot.Local 191 0) (val.Object 16) ([]) (used.Place (slot.Local 2 1) 191 ∷ used.Place (slot.Local 2 6) 191 ∷ used.Place (slot.Elem 4 1) 191 ∷ [])) ∷
      (event kind.Return 117 (Some 191) (Some 191) Absent slot.None (val.Fixed 3) ([]) ([])) ∷
      (event kind.Text 332 (Some 2) (Some 190) Absent slot.None val.None (codes "bonus: ") (used.Value 193 ∷ [])) ∷
      (event kind.Call 341 (Some 2) (Some 190) (Some 40) slot.None val.None ([]) (used.Place (slot.Local 2 1) 195 ∷ used.Place (slot.Local 2 6) 195 ∷ used.Place (slot.Elem 4 1) 195 ∷ [])) ∷
      (event kind.Bind 33 (Some 195) (Some 195) Absent (slot.Local 195 0) (val.Object 16) ([]) (used.Place (slot.Local 2 1) 195 ∷ used.Place (slot.Local 2 6) 195 ∷ used.Place (slot.Elem 4 1) 195 ∷ [])) ∷
      (event kind.Return 37 (Some 195) (Some 195) Absent slot.None (val.Int (pos 220)) ([]) (used.Place (slot.Local 195 0) 197 ∷ used.Place (slot.Field 16 1) 197 ∷ [])) ∷
      (event kind.Text 334 (Some 2) (Some 190) Absent slot.None val.None (codes "bonus: 220") (used.Value 194 ∷ used.Value 197 ∷ [])) ∷
      (event kind.Print 323 (Some 2) (Some 190) Absent slot.None (val.Text 198) ([]) (used.Value 198 ∷ [])) ∷
      (event kind.Set 315 (Some 2) (Some 190) Absent (slot.Local 2 6) (val.Int (pos 2)) ([]) (used.Place (slot.Local 2 6) 200 ∷ [])) ∷
      (event kind.Test 301 (Some 2) (Some 190) Absent slot.None (val.Arm 1) ([]) (used.Place (slot.Local 2 6) 201 ∷ used.Place (slot.Local 2 1) 201 ∷ [])) ∷
      (event kind.Call 330 (Some 2) (Some 201) (Some 49) slot.None val.None ([]) (used.Place (slot.Local 2 1) 202 ∷ used.Place (slot.Local 2 6) 202 ∷ used.Place (slot.Elem 4 2) 202 ∷ [])) ∷
      (event kind.Bind 145 (Some 202) (Some 202) Absent (slot.Local 202 0) (val.Object 25) ([]) (used.Place (slot.Local 2 1) 202 ∷ used.Place (slot.Local 2 6) 202 ∷ used.Place (slot.Elem 4 2) 202 ∷ [])) ∷
      (event kind.Return 149 (Some 202) (Some 202) Absent slot.None (val.Fixed 4) ([]) ([])) ∷
      (event kind.Text 332 (Some 2) (Some 201) Absent slot.None val.None (codes "frozen: ") (used.Value 204 ∷ [])) ∷
      (event kind.Call 341 (Some 2) (Some 201) (Some 40) slot.None val.None ([]) (used.Place (slot.Local 2 1) 206 ∷ used.Place (slot.Local 2 6) 206 ∷ used.Place (slot.Elem 4 2) 206 ∷ [])) ∷
      (event kind.Bind 33 (Some 206) (Some 206) Absent (slot.Local 206 0) (val.Object 25) ([]) (used.Place (slot.Local 2 1) 206 ∷ used.Place (slot.Local 2 6) 206 ∷ used.Place (slot.Elem 4 2) 206 ∷ [])) ∷
      (event kind.Return 37 (Some 206) (Some 206) Absent slot.None (val.Int (pos 0)) ([]) (used.Place (slot.Local 206 0) 208 ∷ used.Place (slot.Field 25 1) 208 ∷ [])) ∷
      (event kind.Text 334 (Some 2) (Some 201) Absent slot.None val.None (codes "frozen: 0") (used.Value 205 ∷ used.Value 208 ∷ [])) ∷
      (event kind.Print 323 (Some 2) (Some 201) Absent slot.None (val.Text 209) ([]) (used.Value 209 ∷ [])) ∷
      (event kind.Set 315 (Some 2) (Some 201) Absent (slot.Local 2 6) (val.Int (pos 3)) ([]) (used.Place (slot.Local 2 6) 211 ∷ [])) ∷
      (event kind.Test 301 (Some 2) (Some 201) Absent slot.None (val.Arm 0) ([]) (used.Place (slot.Local 2 6) 212 ∷ used.Place (slot.Local 2 1) 212 ∷ [])) ∷
      (event kind.Return 346 (Some 2) (Some 2) Absent slot.None val.None ([]) ([])) ∷
      [];
  output = codes "java.lang.IllegalStateException: frozen\nplain: 140\nbonus: 220\nfrozen: 0\n";
  stop = 0;
  last = Absent;
  steps = 534;
  uses = 239;
  coverage = (cover 1 1 (Some 7) never_left) ∷ (cover 3 3 (Some 12) never_left) ∷ (cover 3 0 (Some 186) 208) ∷ (cover 3 0 (Some 186) 208) ∷ (cover 3 3 (Some 59) never_left) ∷ (cover 3 3 (Some 59) never_left) ∷ (cover 0 0 Absent never_left) ∷ (cover 3 3 (Some 60) never_left) ∷ (cover 1 1 (Some 7) never_left) ∷ (cover 1 1 (Some 10) never_left) ∷ (cover 1 1 (Some 10) never_left) ∷ (cover 1 0 (Some 182) 182) ∷ (cover 1 0 (Some 182) 182) ∷ (cover 1 1 (Some 16) never_left) ∷ (cover 1 1 (Some 19) never_left) ∷ (cover 1 1 (Some 19) never_left) ∷ (cover 1 1 (Some 87) never_left) ∷ (cover 1 1 (Some 87) never_left) ∷ (cover 1 0 (Some 193) 193) ∷ (cover 1 0 (Some 193) 193) ∷ (cover 1 1 (Some 25) never_left) ∷ (cover 1 1 (Some 28) never_left) ∷ (cover 1 1 (Some 28) never_left) ∷ (cover 1 0 (Some 119) 137) ∷ (cover 1 0 (Some 119) 137) ∷ (cover 1 0 (Some 204) 204) ∷ (cover 1 0 (Some 204) 204) ∷ (cover 1 1 (Some 1) never_left) ∷ (cover 0 0 Absent never_left) ∷ (cover 1 1 (Some 4) never_left) ∷ (cover 1 1 (Some 4) never_left) ∷ (cover 1 1 (Some 34) never_left) ∷ (cover 1 1 (Some 35) never_left) ∷ (cover 1 1 (Some 37) never_left) ∷ (cover 4 4 (Some 38) never_left) ∷ (cover 4 4 (Some 38) never_left) ∷ (cover 4 4 (Some 39) never_left) ∷ (cover 11 11 (Some 41) never_left) ∷ (cover 11 11 (Some 41) never_left) ∷ (cover 11 11 (Some 42) never_left) ∷ (cover 4 4 (Some 56) never_left) ∷ (cover 4 3 (Some 56) 137) ∷ (cover 4 3 (Some 56) 137) ∷ (cover 1 1 (Some 139) never_left) ∷ (cover 1 1 (Some 139) never_left) ∷ (cover 4 4 (Some 62) never_left) ∷ (cover 4 4 (Some 63) never_left) ∷ (cover 1 1 (Some 178) never_left) ∷ (cover 1 1 (Some 178) never_left) ∷ (cover 3 3 (Some 189) never_left) ∷ (cover 3 3 (Some 180) never_left) ∷ (cover 3 3 (Some 180) never_left) ∷ [];
}
unfolding told
bank_run = refl
