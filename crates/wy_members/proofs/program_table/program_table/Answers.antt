use Rattle.std.proofs.Common.{◌≡◌, length, ap, subst, ◌∙◌}
use Rattle.std.specs.Prelude.{List, Option, option_map}
use Rattle.std.proofs.lemmas.List.{length-map}
use Rattle.wy_syntax.specs.Syntax.{Expression}
use Rattle.wy_table.specs.declared.table.ClassTable.{ClassTable}
use Rattle.wy_table.specs.ClassTable.{table_of}
use Rattle.wy_kernel.specs.Table.{Table, constant_value}
use Rattle.wy_table.proofs.Counts.{constants_of_fields}
use Rattle.wy_members.specs.Declarations.{table}
use Rattle.wy_members.specs.Names.{unit_of}
use Rattle.wy_members.specs.Initializers.{initializers_seen}
use Rattle.wy_members.specs.Constants.{initializers}
use Rattle.wy_members.specs.Sweep.{GoesOn, IsFinished}
use Rattle.wy_members.proofs.ProgramTables.{is_table_of}
use Rattle.wy_members.proofs.program_table.program_table.Goals as goal

as_many : (t : ClassTable) → length (table_of t).constants ≡ length (table_of t).fields
unfolding table_of
as_many t = length-map t.constants.items (option_map constant_value) ∙ constants_of_fields t.classes.items t.methods.items t.fields.items t.constants.items t.is_table

pub returns : goal.returns
returns c =
    let unit = unit_of c.args.names.now in
    let t = table_of c.find_constants.new.table in
    let all : initializers_seen c.as_slice.result.now ≡ initializers unit = ap initializers_seen c.as_slice.ensures.value ∙ c.in_ok-all.ensures in
    let P : Table → List (Option Expression) → Type 0 = λ old xs. GoesOn xs old t in
    let Q : List (Option Expression) → Type 0 = λ xs. IsFinished t xs in
    let goes : GoesOn (initializers unit) (table unit) t = subst (λ old. P old (initializers unit)) c.in_ok-table.ensures (subst (P (table_of c.in_ok-table.table)) all c.in_ok-find_constants.ensures.goes_on) in
    let finished : IsFinished t (initializers unit) = subst Q all c.in_ok-find_constants.ensures.finished in
    is_table_of unit t goes finished (as_many c.find_constants.new.table)
