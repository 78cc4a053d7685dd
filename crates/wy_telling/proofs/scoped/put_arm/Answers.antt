use Rattle.std.proofs.Common.{◌∙◌, ◌++◌, ap}
use Rattle.std.specs.Prelude.{codes}
use Rattle.wy_static.proofs.Behind.{behind_on}
use Rattle.wy_telling.specs.Items.{truth}
use Rattle.wy_telling.specs.Scoped.{arm_text_in, tests_text_in}
use Rattle.wy_telling.proofs.scoped.put_arm.Goals as goal

pub returns : goal.returns
unfolding arm_text_in
returns c =
    let r = c.put_tests.result in
    let new = c.put_tests.new.out.items in
    let last = tests_text_in c.args.value c.args.tests.now in
    behind_on r c.args.out.now.items c.put_text.new.out.items new (codes "arm ") (truth c.args.value ++ (codes " not taken: " ++ last)) c.in_ok-put_text.ensures
    (behind_on r c.put_text.new.out.items c.put_text-2.new.out.items new (truth c.args.value) (codes " not taken: " ++ last) (c.in_ok-put_text-2.ensures ∙ ap (λ t. c.put_text.new.out.items ++ t) c.truth.ensures)
    (behind_on r c.put_text-2.new.out.items c.put_text-3.new.out.items new (codes " not taken: ") last c.in_ok-put_text-3.ensures c.put_tests.ensures))
