-- Values of watch texts on a small trace, computed: that of `int x = 2; int y = 0; if (x > 1) { y = x + 3; } System.out.println(y);`
-- in a Main that begins with its arguments.
use Rattle.std.proofs.Common.{◌≡◌, ℕ, List, [], ◌∷◌, refl}
use Rattle.std.specs.Prelude.{false, true, Option, Some, pos, codes}
use Rattle.std.specs.Prelude.{None as Absent}
use Rattle.std.specs.Int.{int_wrap}
use Rattle.wy_kernel.specs.declared.operator.BinOp.{BinOp}
use Rattle.wy_kernel.specs.declared.operator.BinOp.TheVariants as op
use Rattle.wy_kernel.specs.declared.types.MethodForm.TheVariants as kinds
use Rattle.wy_kernel.specs.declared.types.Ty.TheVariants.{Void}
use Rattle.wy_kernel.specs.Form.{Block, Stmt, done}
use Rattle.wy_kernel.specs.Program as parts
use Rattle.wy_kernel.specs.Program.{Program, body, class, init_body, method}
use Rattle.wy_value.specs.declared.value.Value.{Value}
use Rattle.wy_value.specs.declared.value.Value.TheVariants as value
use Rattle.wy_event.specs.declared.record.Kind.{Kind}
use Rattle.wy_event.specs.declared.record.Kind.TheVariants as kind
use Rattle.wy_event.specs.declared.record.Slot.{Slot}
use Rattle.wy_event.specs.declared.record.Slot.TheVariants as slot
use Rattle.wy_event.specs.Record.{Recorded, same_slot}
use Rattle.wy_event.specs.Sources.{creates, creates_as, creation, is_entity, is_so, is_write, last_write, or_else, writes, written}
use Rattle.wy_steps.specs.Steps.{default_in, owner_in}
use Rattle.wy_tree.specs.Seen.{Int}
use Rattle.wy_syntax.specs.Syntax.{Expression, Binary, Both, Literal, Name}
use Rattle.wy_travel.specs.Frames.{frame_of}
use Rattle.wy_travel.specs.Held.{given_at, given_by, held}
use Rattle.wy_travel.specs.Locals.{body_run, frame_body}
use Rattle.wy_watch.specs.Sight.{sight_at}
use Rattle.wy_watch.specs.Names.{field_within, last_named}
use Rattle.wy_watch.specs.Value as spec

abbrev local : List ℕ → parts.Local
local name = record { name = name; site = 0; ty = Void }

abbrev main_class : parts.Class
main_class = record { name = codes "Main"; site = 0; is_interface = false; is_abstract = false; is_final = false; above = Absent; interfaces = [] }

abbrev main_method : parts.Method
main_method = record { name = codes "main"; site = 0; class = 0; params = []; result = Void; form = kinds.Static; is_private = false; is_abstract = false; is_final = false }

abbrev program : Program
program = record {
  classes = main_class ∷ [];
  methods = main_method ∷ [];
  fields = [];
  bodies = Some (record { block = Stmt 0 0 false 0 (Block done); locals = local (codes "args") ∷ local (codes "x") ∷ local (codes "y") ∷ []; end = 0 }) ∷ [];
  init_bodies = Absent ∷ [];
  fixed_texts = [];
  statements = 0;
  main = 0;
}

abbrev event : Kind → Option ℕ → Option ℕ → Slot → Value → Recorded
event k frame entity x v = record { kind = k; site = 0; frame = frame; control = frame; entity = entity; slot = x; value = v; units = []; uses = [] }

abbrev int : ℕ → Value
int n = value.Int (pos n)

abbrev trace : List Recorded
trace =
    event kind.Init Absent (Some 0) slot.None value.None
    ∷ event kind.New Absent (Some 16777217) slot.None (int 0)
    ∷ event kind.Call Absent (Some 0) slot.None value.None
    ∷ event kind.Bind (Some 2) Absent (slot.Local 2 0) (value.Object 1)
    ∷ event kind.Set (Some 2) Absent (slot.Local 2 1) (int 2)
    ∷ event kind.Set (Some 2) Absent (slot.Local 2 2) (int 0)
    ∷ event kind.Test (Some 2) Absent slot.None (value.Arm 1)
    ∷ event kind.Set (Some 2) Absent (slot.Local 2 2) (int 5)
    ∷ event kind.Print (Some 2) Absent slot.None (int 5)
    ∷ event kind.Return (Some 2) Absent slot.None value.None
    ∷ []

abbrev value_at : ℕ → Expression → Option Value
value_at m e = spec.value (sight_at program trace m) e

abbrev name : List ℕ → Expression
name n = Name n 0

abbrev number : ℕ → Expression
number n = Literal (Int n true) 0

abbrev binary : BinOp → Expression → Expression → Expression
binary o a b = Binary o a b 0

-- `y + 1` at the print
one_more : value_at 8 (binary op.Add (name (codes "y")) (number 1)) ≡ Some (int 6)
unfolding int_wrap same_slot creates creates_as creation is_entity is_so is_write last_write or_else writes written default_in owner_in given_at given_by held frame_of body init_body method class body_run frame_body field_within last_named spec.value
one_more = refl

-- `x / 0`
by_zero : value_at 8 (binary op.Div (name (codes "x")) (number 0)) ≡ Absent
unfolding same_slot creates creates_as creation is_entity is_so is_write last_write or_else writes written default_in owner_in given_at given_by held frame_of body init_body method class body_run frame_body field_within last_named spec.value
by_zero = refl

-- `q`
nothing_named_so : value_at 8 (name (codes "q")) ≡ Absent
unfolding same_slot creates creates_as creation is_entity is_so is_write last_write or_else writes written default_in owner_in given_at given_by held frame_of body init_body method class body_run frame_body field_within last_named spec.value
nothing_named_so = refl

-- `x > 1 && y == 0` just before y is set again
still_zero : value_at 7 (Both (binary op.Gt (name (codes "x")) (number 1)) (binary op.Eq (name (codes "y")) (number 0)) 0) ≡ Some (value.Bool true)
unfolding same_slot creates creates_as creation is_entity is_so is_write last_write or_else writes written default_in owner_in given_at given_by held frame_of body init_body method class body_run frame_body field_within last_named spec.value
still_zero = refl

-- and `y == 0 && x / 0 == 1` at the print asks for no more than its left side
left_alone : value_at 8 (Both (binary op.Eq (name (codes "y")) (number 0)) (binary op.Eq (binary op.Div (name (codes "x")) (number 0)) (number 1)) 0) ≡ Some (value.Bool false)
unfolding same_slot creates creates_as creation is_entity is_so is_write last_write or_else writes written default_in owner_in given_at given_by held frame_of body init_body method class body_run frame_body field_within last_named spec.value
left_alone = refl
