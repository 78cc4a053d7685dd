use Rattle.std.proofs.Common.{List, subst}
use Rattle.std.specs.Prelude.{map}
use Rattle.wy_syntax.specs.declared.declaration.Declaration.{Declaration}
use Rattle.wy_syntax.specs.View.{declaration_of}
use Rattle.wy_members.specs.Declarations.{CompilationUnit}
use Rattle.wy_members.specs.Refusal.{IsRefusal}
use Rattle.wy_members.proofs.tree_table.class_table.Goals as goal

pub returns-clause-refused : goal.returns-clause-refused
returns-clause-refused c = λ rule token e.
    let P : List Declaration → Type 0 = λ all. IsRefusal (map declaration_of all) rule token in
    let Q : CompilationUnit → Type 0 = λ unit. IsRefusal unit rule token in
    subst Q c.in_ok-declarations.ensures (subst P c.as_slice.ensures.value (c.class_table_of.ensures.refused rule token e))
