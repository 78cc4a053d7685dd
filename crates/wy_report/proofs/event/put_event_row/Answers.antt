use Rattle.std.proofs.Common.{◌≡◌, ◌∙◌, List, ℕ, [], ◌∷◌, ◌++◌, ap}
use Rattle.std.specs.Prelude.{codes}
use Rattle.std.specs.List.{flat_map}
use Rattle.std.proofs.lemmas.Result.{on_ok_weaker}
use Rattle.wy_report.specs.declared.piece.Target.TheVariants.{Event}
use Rattle.wy_report.specs.Page.{class_text, event_row, line_link, row_end, source_link, source_links, text_cell}
use Rattle.wy_report.specs.Pieces.{Piece, Markup, Anchor, written}
use Rattle.wy_report.proofs.Written.{both_put, flat_of_each}
use Rattle.wy_report.proofs.event.put_event_row.Goals as goal

pub returns : goal.returns
unfolding event_row
returns c =
    let r = c.args.row in
    let out = c.args.out.now.items in
    let head : List ℕ → List Piece = λ class. Markup (codes "<tr") ∷ Anchor (Event r.event) ∷ Markup class ∷ Markup (codes "<a") ∷ [] in
    let link = line_link c.args.many r.line in
    let text = text_cell r.text.now in
    let end : List Piece = Markup row_end ∷ [] in
    let ours = source_links r.sources.now in
    let a = c.put_pieces.new.out.items in
    let b = c.put_line_link.new.out.items in
    let d = c.put_text_cell.new.out.items in
    let e = c.put_source_links.new.out.items in
    let first : a ≡ out ++ flat_map written (head (class_text r.mark)) = c.in_ok-put_pieces.ensures ∙ ap (λ t. out ++ flat_map written (head t)) c.class_text.ensures in
    let fourth : e ≡ d ++ flat_map written ours = c.in_ok-put_source_links.ensures ∙ ap (λ t. d ++ t) (flat_of_each written source_link r.sources.now) in
    on_ok_weaker c.put_pieces-2.result (λ last.
    both_put written out a c.put_pieces-2.new.out.items (head (class_text r.mark)) (link ++ (text ++ (ours ++ end))) first
    (both_put written a b c.put_pieces-2.new.out.items link (text ++ (ours ++ end)) c.in_ok-put_line_link.ensures
    (both_put written b d c.put_pieces-2.new.out.items text (ours ++ end) c.in_ok-put_text_cell.ensures
    (both_put written d e c.put_pieces-2.new.out.items ours end fourth last)))) c.put_pieces-2.ensures
