-- What the ranges of a trace of a version read of a program, and what is known of the events before one.
use Rattle.std.specs.Prelude.{ℕ, List, length, map}
use Rattle.wy_kernel.specs.declared.program.Program.{Program}
use Rattle.wy_kernel.specs.Parts.{program_of}
use Rattle.wy_kernel.specs.Statements.{statements_of}
use Rattle.wy_value.specs.Encoding.{utf8_of}
use Rattle.wy_event.specs.declared.record.Event.{Event}
use Rattle.wy_event.specs.declared.record.Kind.{Kind}
use Rattle.wy_event.specs.declared.record.Kind.TheVariants as kind
use Rattle.wy_event.specs.declared.record.Version.{Version}
use Rattle.wy_payload.specs.Bodies.{locals_of, newlines_of}
use Rattle.wy_payload.specs.declared.ranges.Ranges.{Ranges}
use Rattle.wy_payload.specs.declared.known.Known.{Known}
use Rattle.wy_payload.specs.declared.known.Known.TheVariants as known

unfoldable pub ranges_of : Version → Program → Ranges
ranges_of v p = record {
  version = v;
  tokens = length p.lines.items;
  classes = length p.classes.items;
  methods = length p.methods.items;
  statements = p.statements;
  statics = map (λ f. f.is_static) p.fields.items;
  method_locals = map locals_of p.bodies.items;
  class_locals = map locals_of p.init_bodies.items;
  fixed = map (λ t. length (utf8_of t.items)) p.fixed_texts.items;
  newlines = newlines_of (statements_of (program_of p));
}

-- of an event what later ones may refer to; of a Text how many bytes it prints
abbrev pub known_as : Kind → ℕ → List ℕ → Known
known_as kind.Init entity units = known.Init entity
known_as kind.New entity units = known.New entity
known_as kind.Call entity units = known.Call entity
known_as kind.Test entity units = known.Test
known_as kind.Text entity units = known.Text (length (utf8_of units))
known_as kind.Jump entity units = known.Jump
known_as kind.Return entity units = known.Return
known_as kind.Throw entity units = known.Throw
known_as kind.Catch entity units = known.Catch
known_as _ entity units = known.Other

abbrev pub known_of : Event → Known
known_of e = known_as e.kind e.entity e.units
