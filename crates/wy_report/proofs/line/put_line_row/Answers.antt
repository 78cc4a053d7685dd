use Rattle.std.proofs.Common.{◌∙◌, List, ℕ, [], ◌∷◌, ◌++◌, ap}
use Rattle.std.specs.Prelude.{codes}
use Rattle.std.specs.List.{flat_map}
use Rattle.std.proofs.lemmas.Result.{on_ok_weaker}
use Rattle.wy_report.specs.declared.piece.Target.TheVariants.{Line}
use Rattle.wy_report.specs.Page.{class_text, line_row, row_end}
use Rattle.wy_report.specs.Pieces.{Piece, Markup, Number, Shown, Anchor, written}
use Rattle.wy_report.proofs.line.put_line_row.Goals as goal

pub returns : goal.returns
unfolding line_row
returns c =
    let k = c.args.number in
    let row : List ℕ → List ℕ → List Piece = λ class star. Markup (codes "<tr") ∷ Anchor (Line k) ∷ Markup class ∷ Number k ∷ Markup star ∷ Shown c.args.text.now ∷ Markup row_end ∷ [] in
    on_ok_weaker c.put_pieces.result (λ is. is
    ∙ ap (λ t. c.args.out.now.items ++ flat_map written (row t c.star_text.result.now)) c.class_text.ensures
    ∙ ap (λ t. c.args.out.now.items ++ flat_map written (row (class_text c.args.mark) t)) c.star_text.ensures) c.put_pieces.ensures
