use Rattle.std.proofs.Common.{List, subst}
use Rattle.std.specs.Prelude.{map}
use Rattle.wy_syntax.specs.declared.declaration.Declaration.{Declaration}
use Rattle.wy_syntax.specs.View.{declaration_of}
use Rattle.wy_members.specs.Refusal.{IsRefusal}
use Rattle.wy_members.proofs.unit_table.class_table_of.Goals as goal

pub returns-in-Ok-clause-refused : goal.returns-in-Ok-clause-refused
returns-in-Ok-clause-refused c = λ rule token e.
    let P : List Declaration → Type 0 = λ unit. IsRefusal (map declaration_of unit) rule token in
    subst P c.in-Ok.ensures (c.table_of_names.ensures.refused rule token e)
