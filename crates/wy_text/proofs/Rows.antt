-- The lines of a small trace, each computed: an event of each kind, a value and a place of each.
use Rattle.std.proofs.Common.{◌≡◌, ℕ, ◌+◌, ◌^◌, Bool, true, false, List, [], ◌∷◌, ◌++◌, refl}
use Rattle.std.specs.Prelude.{pos, negsuc, not, Option, Some, codes}
use Rattle.std.specs.Prelude.{None as Absent}
use Rattle.std.specs.Fmt.{digits}
use Rattle.wy_kernel.specs.declared.types.Ty.TheVariants.{Void}
use Rattle.wy_kernel.specs.declared.types.MethodForm.{MethodForm}
use Rattle.wy_kernel.specs.declared.types.MethodForm.TheVariants as form
use Rattle.wy_kernel.specs.Builtin.{classes, extending}
use Rattle.wy_kernel.specs.Form as plain
use Rattle.wy_kernel.specs.Program.{Program, Method, Field, Local, base_of, body, class, field, fixed_text, full_name, init_body, is_source, method, primitive_name, type_of_code}
use Rattle.wy_value.specs.declared.value.Value.{Value}
use Rattle.wy_value.specs.declared.value.Value.TheVariants as value
use Rattle.wy_event.specs.declared.record.Kind.{Kind}
use Rattle.wy_event.specs.declared.record.Kind.TheVariants as kind
use Rattle.wy_event.specs.declared.record.Slot.{Slot}
use Rattle.wy_event.specs.declared.record.Slot.TheVariants as slot
use Rattle.wy_event.specs.Record.{Recorded}
use Rattle.wy_kernel.specs.View.{present}
use Rattle.wy_event.specs.Sources.{Control}
use Rattle.wy_text.specs.EventLines.{event_line, line_at, deed_of, line_with, where_at, deed, verb, led, equation, made_text, subject, given, star}
use Rattle.wy_text.specs.EndLines.{place_of, place_on, name_of}
use Rattle.wy_text.specs.Names.{method_name, field_name, member_name, made_name, numbered}
use Rattle.wy_meaning.specs.Library.{type_name, base_name, brackets_text}
use Rattle.wy_text.specs.Values.{value_text, truth_text, plain_text, own_text, units_of, entity_of, quoted, letter, shown, is_plain, escaped, hex_digit}
use Rattle.wy_text.specs.Places.{slot_text, local_name, called, frame_body, begun}
use Rattle.wy_text.specs.Sources.{role_word, source_line}
use Rattle.wy_text.specs.FrameLines.{frame_line, running_at, running, local_line, local_text}

abbrev local : List ℕ → Local
local name = record { name = name; site = 0; ty = Void }

abbrev of_main : List ℕ → MethodForm → Method
of_main name f = record { name = name; site = 0; class = 18; params = []; result = Void; form = f; is_private = false; is_abstract = false; is_final = false }

abbrev field_of_main : List ℕ → Field
field_of_main name = record { name = name; site = 0; class = 18; ty = Void; is_static = false; is_final = false; is_fixed = false; is_private = false }

abbrev program : Program
program = record {
  classes = classes ++ extending (Some 0) (codes "Main") ∷ [];
  methods = of_main (codes "main") form.Static ∷ of_main (codes "new") form.Constructor ∷ of_main (codes "<fields>") form.Fields ∷ [];
  fields = field_of_main (codes "total") ∷ field_of_main (codes "mark") ∷ [];
  bodies = Some (record { block = plain.Stmt 0 0 true 4294967295 (plain.Block plain.done); locals = local (codes "args") ∷ local (codes "m") ∷ []; end = 0 }) ∷ [];
  init_bodies = [];
  fixed_texts = (97 ∷ 34 ∷ 98 ∷ []) ∷ [];
  statements = 1;
  main = 0;
}

abbrev lines : List ℕ
lines = 1 ∷ 7 ∷ 12 ∷ []

abbrev event : Kind → ℕ → Option ℕ → Slot → Value → List ℕ → Recorded
event k site entity x v units = record { kind = k; site = site; frame = Some 2; control = Absent; entity = entity; slot = x; value = v; units = units; uses = [] }

abbrev trace : List Recorded
trace =
    event kind.Init 0 (Some 18) slot.None value.None []
    ∷ event kind.New 0 (Some (2 ^ 24 + 17)) slot.None (value.Int (pos 0)) []
    ∷ event kind.Call 0 (Some 0) slot.None value.None []
    ∷ event kind.Bind 0 Absent (slot.Local 2 0) (value.Object 1) []
    ∷ event kind.New 1 (Some 34) slot.None value.None []
    ∷ event kind.Call 1 (Some 2) slot.None value.None []
    ∷ event kind.Set 1 Absent (slot.Local 2 1) (value.Object 4) []
    ∷ event kind.Set 1 Absent (slot.Static 0) (value.Long (negsuc 4)) []
    ∷ event kind.Set 2 Absent (slot.Field 4 1) (value.Char 39) []
    ∷ event kind.Set 2 Absent (slot.Elem 1 3) (value.Fixed 0) []
    ∷ event kind.Text 2 Absent slot.None value.None (97 ∷ 92 ∷ 255 ∷ [])
    ∷ event kind.Print 2 Absent slot.None (value.Text 10) []
    ∷ event kind.Print 2 Absent slot.None value.None []
    ∷ event kind.Test 2 Absent slot.None (value.Arm 1) []
    ∷ event kind.Read 2 Absent slot.None (value.Int (negsuc 0)) []
    ∷ event kind.Return 2147483648 Absent slot.None value.Null []
    ∷ event kind.Return 2 Absent slot.None value.None []
    ∷ event kind.Jump 2 Absent slot.None value.None []
    ∷ event kind.Throw 2 Absent slot.None (value.Object 4) []
    ∷ event kind.Catch 2 Absent (slot.Local 2 1) (value.Object 4) []
    ∷ []

-- each event's line, the odd ones marked
abbrev listing : ℕ → Bool → List Recorded → List ℕ
listing n marked [] = []
listing n marked (e ∷ es) = event_line program lines trace n marked ++ listing (n + 1) (not marked) es

all_lines : listing 0 false trace ≡
    codes "#0 line 1 init Main\n"
    ++ codes "#1 line 1 new java.lang.String[] length 0 *\n"
    ++ codes "#2 line 1 call Main.main\n"
    ++ codes "#3 line 1 bind args = java.lang.String[]#1 *\n"
    ++ codes "#4 line 7 new Main\n"
    ++ codes "#5 line 7 call Main.<fields> *\n"
    ++ codes "#6 line 7 set m = Main#4\n"
    ++ codes "#7 line 7 set Main.total = -5 *\n"
    ++ codes "#8 line 12 set #4.Main.mark = '\\u0027'\n"
    ++ codes "#9 line 12 set #1[3] = \"a\\u0022b\" *\n"
    ++ codes "#10 line 12 text \"a\\u005c\\u00ff\"\n"
    ++ codes "#11 line 12 print \"a\\u005c\\u00ff\" *\n"
    ++ codes "#12 line 12 print\n"
    ++ codes "#13 line 12 test true *\n"
    ++ codes "#14 line 12 read -1\n"
    ++ codes "#15 library return null *\n"
    ++ codes "#16 line 12 return\n"
    ++ codes "#17 line 12 jump *\n"
    ++ codes "#18 line 12 throw Main#4\n"
    ++ codes "#19 line 12 catch m = Main#4 *\n"
unfolding event_line line_at deed_of line_with where_at deed verb led equation made_text subject given star place_of place_on name_of present method_name field_name member_name made_name numbered type_of_code base_of type_name base_name primitive_name brackets_text full_name is_source class method field body fixed_text init_body value_text truth_text plain_text own_text units_of entity_of quoted letter shown is_plain escaped hex_digit digits slot_text local_name called frame_body begun classes
all_lines = refl

control_source : source_line program lines trace (record { role = Control; event = 2 }) ≡ codes "control #2 line 1 call Main.main\n"
unfolding source_line role_word event_line line_at deed_of line_with where_at deed verb led equation made_text subject given star place_of place_on name_of present method_name field_name member_name made_name numbered type_of_code base_of type_name base_name primitive_name brackets_text full_name is_source class method field body fixed_text init_body value_text truth_text plain_text own_text units_of entity_of quoted letter shown is_plain escaped hex_digit digits slot_text local_name called frame_body begun classes
control_source = refl

-- a frame of main and that of an initializer, and what a local holds
frames_and_locals : frame_line program trace 2 ++ local_line program trace 2 0 (value.Object 1) ++ local_line program trace 2 1 (value.Int (pos 5)) ++ frame_line program trace 0 ≡
    codes "#2 Main.main\n"
    ++ codes " args.0 = java.lang.String[]#1\n"
    ++ codes " m.1 = 5\n"
    ++ codes "#0 init Main\n"
unfolding frame_line running_at running local_line local_text equation name_of method_name member_name made_name numbered type_of_code base_of type_name base_name brackets_text full_name is_source class method body value_text truth_text plain_text own_text entity_of digits slot_text local_name called frame_body begun classes
frames_and_locals = refl
