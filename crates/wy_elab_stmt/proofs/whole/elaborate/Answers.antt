use Rattle.std.proofs.Common.{◌∙◌, ap, length, map}
use Rattle.std.proofs.lemmas.List.{length-map}
use Rattle.std.proofs.lemmas.Result.{err_from_is_err_and}
use Rattle.wy_tree.specs.declared.token.Spanned.{Spanned}
use Rattle.wy_tree.specs.Seen.{seen}
use Rattle.wy_table.specs.ClassTable.{table_of}
use Rattle.wy_elab_stmt.proofs.OneProgram.{within}
use Rattle.wy_elab_stmt.proofs.Becoming.{refused_due, bodies_due}
use Rattle.wy_elab_stmt.proofs.whole.elaborate.Goals as goal

pub unit-requires : goal.unit-requires
unit-requires c = within (λ (t : Spanned). seen t.token) _ _ c.requires.leaves c.requires.few

pub returns-in_err-table-clause-program : goal.returns-in_err-table-clause-program
returns-in_err-table-clause-program c =
    let p = err_from_is_err_and c.from_residual-in_err-table.result c.from_residual-in_err-table.ensures.1 in
    rw p.1 (refused_due _ _ _ _ _ _ p.2 c.as_slice.ensures.value c.in_ok-declarations.ensures c.in_err-table.ensures.refused)

pub returns-clause-program : goal.returns-clause-program
returns-clause-program c =
    bodies_due _ _ _ (table_of c.in_ok-table.table) _ _ _ _ (ap length c.in_ok-lines.ensures ∙ length-map c.args.tokens.now (λ (t : Spanned). t.line)) c.as_slice.ensures.value c.as_slice-2.ensures.value
    c.in_ok-declarations.ensures c.in_ok-table.ensures.keeps c.in_ok-table.ensures.table c.a_table_is_judged.ensures c.elaborate_unit.ensures.program
