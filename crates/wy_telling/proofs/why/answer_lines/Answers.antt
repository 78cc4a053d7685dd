use Rattle.std.proofs.Common.{◌∙◌, sym, ap, subst}
use Rattle.std.specs.Prelude.{filter}
use Rattle.wy_why.specs.Answer.{Rises}
use Rattle.wy_telling.proofs.why.answer_lines.Goals as goal

pub marked_lines-requires : goal.marked_lines-requires
marked_lines-requires g c = record { there = subst (Rises 0 (g.V.EventView.tells c.args.view.now).count) (sym c.as_slice.ensures.value) c.requires.there }

pub returns-clause-lines : goal.returns-clause-lines
returns-clause-lines g c = λ rs is by_data of.
    let same = c.as_slice.ensures.value in
    rw same at (c.marked_lines.ensures.lines rs is by_data (c.as_slice-2.ensures.value ∙ of ∙ ap (filter by_data) (sym same)))
