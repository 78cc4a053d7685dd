use Rattle.std.proofs.Common.{ap, sym, ◌∙◌, map, ℕ, arith}
use Rattle.std.proofs.lemmas.List.{length-map}
use Rattle.std.specs.Prelude.{option_and_then}
use Rattle.std.specs.List.{position_from}
use Rattle.wy_table.specs.ClassTable.{table_of}
use Rattle.wy_syntax.specs.View.{declaration_of}
use Rattle.wy_elab_stmt.specs.Program.{main_of, stands_at}
use Rattle.wy_elab_stmt.proofs.MainMethod.{main_by_words}
use Rattle.wy_elab_stmt.proofs.main_method.main_of.Goals as goal

pub returns-in-Some : goal.returns-in-Some
unfolding main_of
returns-in-Some c =
    c.method_at.ensures
    ∙ ap (option_and_then (λ (token : ℕ). position_from (stands_at token) 0 (table_of c.args.table.now).methods))
    (c.in-Some.ensures ∙ sym (main_by_words (map declaration_of c.args.unit.now) (omega (arith, length-map c.args.unit.now declaration_of))))

pub returns-in-None : goal.returns-in-None
unfolding main_of
returns-in-None c =
    ap (option_and_then (λ (token : ℕ). position_from (stands_at token) 0 (table_of c.args.table.now).methods))
    (c.in-None.ensures ∙ sym (main_by_words (map declaration_of c.args.unit.now) (omega (arith, length-map c.args.unit.now declaration_of))))
