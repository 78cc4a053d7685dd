use Rattle.std.proofs.Common.{◌∙◌, sym, subst}
use Rattle.std.specs.Prelude.{All}
use Rattle.wy_ask.specs.Listing.{IsListedBelow}
use Rattle.wy_telling.specs.Questions.{questions_text}
use Rattle.wy_telling.proofs.listed.all_lines.Goals as goal

pub listed_lines-requires : goal.listed_lines-requires
listed_lines-requires g c = record {
  below = subst (λ n. All (IsListedBelow n) c.as_slice.result.now) (sym c.questions.ensures.stays.keeps.count)
      (subst (All (IsListedBelow (g.V.EventView.tells c.args.opened.now.view).count)) (sym c.as_slice.ensures.value) c.in_ok-listed.ensures.below);
}

pub returns-clause-lines : goal.returns-clause-lines
unfolding questions_text
returns-clause-lines g c = λ rs is.
    let stays = c.questions.ensures.stays in
    let lines = rw (stays.program) at c.listed_lines.ensures.lines rs (stays.keeps.records ∙ is) in
    rw (c.as_slice.ensures.value, c.in_ok-listed.ensures.listed rs is) at lines
