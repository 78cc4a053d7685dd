-- A program in memory as contracts see it.
use Rattle.std.specs.Prelude.{map, option_map}
use Rattle.wy_kernel.specs.Program as parts
use Rattle.wy_kernel.specs.declared.program.Program.{Program}
use Rattle.wy_kernel.specs.View.{class_of, method_of, field_of, body_of}

abbrev pub program_of : Program → parts.Program
program_of p = record {
  classes = map class_of p.classes.items;
  methods = map method_of p.methods.items;
  fields = map field_of p.fields.items;
  bodies = map (option_map body_of) p.bodies.items;
  init_bodies = map (option_map body_of) p.init_bodies.items;
  fixed_texts = map (λ v. v.items) p.fixed_texts.items;
  statements = p.statements;
  main = p.main;
}
