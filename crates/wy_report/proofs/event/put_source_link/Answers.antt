use Rattle.std.proofs.Common.{◌∙◌, List, ℕ, [], ◌∷◌, ◌++◌, ap}
use Rattle.std.specs.Prelude.{codes}
use Rattle.std.specs.List.{flat_map}
use Rattle.std.proofs.lemmas.Result.{on_ok_weaker}
use Rattle.wy_report.specs.declared.piece.Target.TheVariants.{Event}
use Rattle.wy_report.specs.Page.{source_link}
use Rattle.wy_report.specs.Pieces.{Piece, Markup, Number, Link, written}
use Rattle.wy_report.proofs.event.put_source_link.Goals as goal

pub returns : goal.returns
unfolding source_link
returns c =
    let n = c.args.source.event in
    let row : List ℕ → List Piece = λ role. Markup (codes "<a") ∷ Link (Event n) ∷ Markup role ∷ Number n ∷ Markup (codes "</a> ") ∷ [] in
    on_ok_weaker c.put_pieces.result (λ is. is ∙ ap (λ t. c.args.out.now.items ++ flat_map written (row t)) c.role_text.ensures) c.put_pieces.ensures
