use Rattle.std.proofs.Common.{◌≡◌, ◌∙◌, true, eq-eqb, sym}
use Rattle.std.proofs.lemmas.Bool.{false≢true}
use Rattle.wy_fold.proofs.Slicing.{is_some}
use Rattle.wy_fold.proofs.slice.or_nothing.Goals as goal

pub returns : goal.returns
returns c = is_some c.args.text.items (λ none.
    let empty : c.is_empty.result ≡ true = c.is_empty.ensures ∙ eq-eqb c.args.text.len 0 (c.args.text.ok.0 ∙ none) in
    absurd (false≢true (sym c.if-is_empty.false ∙ empty)))
