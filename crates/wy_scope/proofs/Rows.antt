-- Two calls of a method that guards its one statement, computed: in the first the guard was false, in the second true. The class is
-- `class Main { static void f(int n) { if (n > 1) { System.out.println(n); } } .. f(1); f(2); .. }`, and f is method 1.
use Rattle.std.specs.Prelude.{pos}
use Rattle.std.proofs.Common.{◌≡◌, ℕ, true, false, List, [], ◌∷◌, Option, Some, refl}
use Rattle.std.specs.Prelude.{None as Absent}
use Rattle.wy_value.specs.declared.value.Value.{Value}
use Rattle.wy_value.specs.declared.value.Value.TheVariants as value
use Rattle.wy_kernel.specs.declared.operator.BinOp.TheVariants as op
use Rattle.wy_kernel.specs.declared.types.Ty.TheVariants.{Void}
use Rattle.wy_kernel.specs.Form.{Bin, Block, Const, If, Int, Local, Print, Read, Statement, Stmt, done, first, nothing, the}
use Rattle.wy_event.specs.declared.record.Kind.{Kind}
use Rattle.wy_event.specs.declared.record.Kind.TheVariants as kind
use Rattle.wy_event.specs.declared.record.Slot.TheVariants as slot
use Rattle.wy_event.specs.Record.{Recorded}
use Rattle.wy_static.specs.declared.point.Point.TheVariants as point
use Rattle.wy_static.specs.declared.point.LinkKind.TheVariants as link
use Rattle.wy_static.specs.declared.point.Link.{Link}
use Rattle.wy_travel.specs.Frames.{frame_of}
use Rattle.wy_scope.specs.Evidence.{tests_in}
use Rattle.wy_scope.specs.Regions.{located, regions}
use Rattle.wy_scope.specs.Scope.{comes_to, in_scope}

abbrev event : Kind → ℕ → Option ℕ → Option ℕ → Value → Recorded
event k site frame entity v = record { kind = k; site = site; frame = frame; control = frame; entity = entity; slot = slot.None; value = v; units = []; uses = [] }

-- the token of the guard
abbrev guard : ℕ
guard = 20

abbrev trace : List Recorded
trace =
    event kind.Init 1 Absent (Some 5) value.None
    ∷ event kind.New 1 Absent Absent value.None
    ∷ event kind.Call 1 Absent (Some 0) value.None
    ∷ event kind.Bind 2 (Some 2) Absent value.None
    ∷ event kind.Call 40 (Some 2) (Some 1) value.None
    ∷ event kind.Bind 10 (Some 4) Absent (value.Int (pos 1))
    ∷ event kind.Test guard (Some 4) Absent (value.Arm 0)
    ∷ event kind.Return 30 (Some 4) Absent value.None
    ∷ event kind.Call 50 (Some 2) (Some 1) value.None
    ∷ event kind.Bind 10 (Some 8) Absent (value.Int (pos 2))
    ∷ event kind.Test guard (Some 8) Absent (value.Arm 1)
    ∷ event kind.Print 25 (Some 8) Absent value.None
    ∷ event kind.Return 30 (Some 8) Absent value.None
    ∷ event kind.Return 60 (Some 2) Absent value.None
    ∷ []

-- the body of f: a block with the test, whose arm is a block with the print
abbrev test : Statement
test = Stmt 1 guard true 0 (If (Bin op.Gt (Read (Local 0)) (Const (Int (pos 1))) 0) (Stmt 2 22 false 0 (Block (first (Stmt 3 25 true 0 (Print (the (Read (Local 0))) Void true 25)) done))) nothing)

abbrev body : Statement
body = Stmt 0 12 false 0 (Block (first test done))

-- the print stands in the arm, and the test in the entry
f_regions : regions (point.Entry 1) body ≡ located 0 (point.Entry 1) ∷ located 1 (point.Entry 1) ∷ located 2 (point.Statement 2) ∷ located 3 (point.Statement 2) ∷ []
f_regions = refl

first_test : in_scope trace 4 6 ≡ true
unfolding in_scope comes_to frame_of
first_test = refl

-- what ran in the second call is not in the scope of the first
second_test : in_scope trace 4 10 ≡ false
unfolding in_scope comes_to frame_of
second_test = refl

-- but both are in the scope of the call of main
in_main : in_scope trace 2 10 ≡ true
unfolding in_scope comes_to frame_of
in_main = refl

abbrev arm : Link
arm = record { kind = link.Arm 1; from = point.Entry 1; to = point.Statement 2; site = guard }

-- one test was false in the first call, and none in the second
tests_of_first : tests_in trace 4 arm ≡ 6 ∷ []
unfolding tests_in in_scope comes_to frame_of
tests_of_first = refl

tests_of_second : tests_in trace 8 arm ≡ []
unfolding tests_in in_scope comes_to frame_of
tests_of_second = refl
