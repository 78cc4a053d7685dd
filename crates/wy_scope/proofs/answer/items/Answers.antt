use Rattle.std.proofs.Common.{◌≡◌, ◌∙◌, ap, arith, map, take}
use Rattle.std.proofs.lemmas.Grind.{common_steps}
use Rattle.wy_paths.proofs.Bridging.{some_link}
use Rattle.wy_paths.proofs.Lists.{both_next}
use Rattle.wy_scope.specs.Evidence.{evidence, evidence_in}
use Rattle.wy_scope.proofs.answer.items.Goals as goal

pub loop-link-preserved : goal.loop-link-preserved
loop-link-preserved c = λ p rs call are is_index is.
    both_next evidence_in (evidence p rs call) c.args.blocked.now c.loop-link.link-index some_link c.loop-link.items.items c.push.new.self.items c.in_ok-item.field-0 c.loop-link-test.true
    (c.loop-link.invariant p rs call are is_index is) c.in_ok-push.ensures.items (c.in_ok-item.ensures p rs call are is_index is)

pub returns : goal.returns
returns c = λ p rs call are is_index is.
    let whole : take c.loop-link.link-index c.args.blocked.now ≡ c.args.blocked.now = grind (arith, common_steps) in
    c.loop-link.invariant p rs call are is_index is ∙ ap (map (evidence p rs call)) whole
