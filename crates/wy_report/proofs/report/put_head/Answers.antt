use Rattle.std.proofs.Common.{◌∙◌, ◌++◌, ap}
use Rattle.std.specs.List.{flat_map}
use Rattle.wy_report.specs.Pieces.{written}
use Rattle.wy_report.specs.Page.{head_part}
use Rattle.wy_report.proofs.report.put_head.Goals as goal

pub returns-clause-head : goal.returns-clause-head
returns-clause-head g c = λ rs is.
    c.in_ok-put_front.ensures ∙ ap (λ t. c.args.out.now.items ++ flat_map written (head_part t)) (c.as_slice.ensures.value ∙ c.in_ok-text.ensures.text rs is)
