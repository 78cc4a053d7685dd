use Rattle.std.proofs.Common.{◌∙◌, List, ℕ, [], ◌∷◌, ◌++◌, ap}
use Rattle.std.specs.List.{flat_map}
use Rattle.std.proofs.lemmas.Result.{on_ok_weaker}
use Rattle.wy_report.specs.Pieces.{Piece, Markup, Shown, written}
use Rattle.wy_report.specs.Template.{opening, styles}
use Rattle.wy_report.proofs.report.put_front.Goals as goal

pub returns : goal.returns
returns c =
    let text = c.args.text.now in
    let front : List ℕ → List ℕ → List ℕ → List Piece = λ first second third. Markup first ∷ Shown text ∷ Markup second ∷ Shown text ∷ Markup third ∷ [] in
    let put : List Piece → List ℕ = λ ps. c.args.out.now.items ++ flat_map written ps in
    on_ok_weaker c.put_pieces.result (λ is. is ∙ ap (λ t. put (front t c.styles.result.now c.middle.result.now)) c.opening.ensures
    ∙ ap (λ t. put (front opening t c.middle.result.now)) c.styles.ensures ∙ ap (λ t. put (front opening styles t)) c.middle.ensures) c.put_pieces.ensures
