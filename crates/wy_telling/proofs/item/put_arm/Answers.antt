use Rattle.std.proofs.Common.{◌∙◌, ◌++◌, ap}
use Rattle.std.specs.Prelude.{codes}
use Rattle.wy_static.proofs.Behind.{behind_on}
use Rattle.wy_telling.specs.Items.{arm_text, tests_text, truth}
use Rattle.wy_telling.proofs.item.put_arm.Goals as goal

pub returns : goal.returns
unfolding arm_text
returns c =
    let r = c.put_tests.result in
    let new = c.put_tests.new.out.items in
    let last = tests_text c.args.value c.args.tests.now c.args.cause in
    behind_on r c.args.out.now.items c.put_text.new.out.items new (codes "arm ") (truth c.args.value ++ (codes " not taken: " ++ last)) c.in_ok-put_text.ensures
    (behind_on r c.put_text.new.out.items c.put_text-2.new.out.items new (truth c.args.value) (codes " not taken: " ++ last) (c.in_ok-put_text-2.ensures ∙ ap (λ t. c.put_text.new.out.items ++ t) c.truth.ensures)
    (behind_on r c.put_text-2.new.out.items c.put_text-3.new.out.items new (codes " not taken: ") last c.in_ok-put_text-3.ensures c.put_tests.ensures))
