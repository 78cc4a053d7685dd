-- What is told of a small trace, computed: two prints, one of them of a line, and a Throw that ended the run.
use Rattle.std.proofs.Common.{◌≡◌, ℕ, true, false, List, [], ◌∷◌, ◌++◌, refl}
use Rattle.std.specs.Prelude.{pos, Option, Some, codes}
use Rattle.std.specs.Prelude.{None as Absent}
use Rattle.std.specs.Char.Utf16.{utf16_chars}
use Rattle.std.specs.Fmt.{digits}
use lib.Utf8.{encode}
use Rattle.wy_kernel.specs.declared.types.Ty.TheVariants.{Void}
use Rattle.wy_kernel.specs.Builtin.{classes, extending}
use Rattle.wy_kernel.specs.Form as plain
use Rattle.wy_kernel.specs.Program.{Program, class, full_name, is_source, type_of_code, base_of, class_of_type}
use Rattle.wy_value.specs.declared.value.Value.{Value}
use Rattle.wy_value.specs.declared.value.Value.TheVariants as value
use Rattle.wy_event.specs.declared.record.Kind.{Kind}
use Rattle.wy_event.specs.declared.record.Kind.TheVariants as kind
use Rattle.wy_event.specs.declared.record.Slot.TheVariants as slot
use Rattle.wy_event.specs.Record.{Recorded}
use Rattle.wy_kernel.specs.View.{present}
use Rattle.wy_meaning.specs.Text.{line_end}
use Rattle.wy_meaning.specs.World.{object_in, type_in, units_in}
use Rattle.wy_steps.specs.Steps.{code_of}
use Rattle.wy_text.specs.EndLines.{name_of, place_of, place_on, stop_line, uncaught_line}
use Rattle.wy_telling.specs.Printed.{printed, printed_by, printed_units}
use Rattle.wy_telling.specs.Thrown.{thrown_class, thrown_site}

-- `System.out.print("a" + 1)` at token 1, `System.out.println(7)` at token 2, and a throw at token 3
abbrev program : Program
program = record {
  classes = classes ++ extending (Some 0) (codes "Main") ∷ [];
  methods = [];
  fields = [];
  bodies = Some (record {
    block = plain.Stmt 0 0 true 4294967295 (plain.Block
        (plain.first (plain.Stmt 1 1 true 4294967295 (plain.Print plain.absent Void false 1))
        (plain.first (plain.Stmt 2 2 true 4294967295 (plain.Print plain.absent Void true 2)) plain.done)));
    locals = [];
    end = 0;
  }) ∷ [];
  init_bodies = [];
  fixed_texts = [];
  statements = 3;
  main = 0;
}

abbrev lines : List ℕ
lines = 1 ∷ 4 ∷ 5 ∷ 6 ∷ []

abbrev event : Kind → ℕ → Option ℕ → Value → List ℕ → Recorded
event k site entity v units = record { kind = k; site = site; frame = Absent; control = Absent; entity = entity; slot = slot.None; value = v; units = units; uses = [] }

abbrev trace : List Recorded
trace =
    event kind.Text 1 Absent value.None (codes "a1")
    ∷ event kind.Print 1 Absent (value.Text 0) []
    ∷ event kind.Print 2 Absent (value.Int (pos 7)) []
    ∷ event kind.New 3 (Some 34) value.None []
    ∷ event kind.Throw 3 Absent (value.Object 3) []
    ∷ []

prints : printed program trace ≡ codes "a17\n"
unfolding printed_by printed_units units_in line_end utf16_chars encode digits
prints = refl

end : stop_line program lines 1 (thrown_class trace (Some 4)) (thrown_site trace (Some 4)) ≡ codes "-- uncaught Main, line 6\n"
unfolding stop_line uncaught_line name_of place_of place_on full_name is_source class thrown_class thrown_site type_in object_in type_of_code base_of class_of_type code_of present classes digits
end = refl

no_throw : thrown_class trace Absent ≡ Absent
unfolding thrown_class
no_throw = refl
