use Rattle.std.proofs.Common.{ap, ◌∙◌, refl, map}
use Rattle.wy_table.specs.ClassTable.{table_of}
use Rattle.wy_syntax.specs.View.{declaration_of}
use Rattle.wy_elab_body.specs.Places.{at, number_at}
use Rattle.wy_elab_stmt.specs.Program.{setting}
use Rattle.wy_elab_stmt.proofs.assembly.made_at.Goals as goal

pub returns : goal.returns
returns c = λ j s.
    c.all_made.ensures (setting j (table_of c.args.table.now) (map declaration_of c.args.unit.now)) (record {
      table = refl;
      settled = s;
      numbers = λ site role. c.in_ok-numbers.ensures site role ∙ ap (λ xs. number_at xs (at site role)) c.requires;
    })
