use Rattle.std.proofs.Common.{◌∙◌, ap}
use Rattle.wy_watch.specs.Value.{there}
use Rattle.wy_watch.proofs.value.stored_at.Goals as goal

pub returns-clause-looks : goal.returns-clause-looks
returns-clause-looks g c = record {
  keeps = c.in_ok-value.ensures.keeps;
  counts = c.in_ok-value.ensures.answers;
  is = λ rs told. c.there.ensures ∙ ap there (c.in_ok-value.ensures.held rs told);
}
