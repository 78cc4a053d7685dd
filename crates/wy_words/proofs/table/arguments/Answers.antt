use Rattle.std.proofs.lemmas.Result.{IfOk-weaker}
use Rattle.wy_words.proofs.Told.{all_arguments, none_global}
use Rattle.wy_words.proofs.table.arguments.Goals as goal

pub returns-clause-shape : goal.returns-clause-shape
returns-clause-shape c =
    IfOk-weaker c.with_steps.result _ _
    (λ after adds. all_arguments c.args.name.now c.new-command.result _ _ after c.new-command.ensures.app c.in_ok-with_operands.ensures c.in_ok-with_files.ensures adds) c.with_steps.ensures

pub returns-clause-own : goal.returns-clause-own
returns-clause-own c =
    IfOk-weaker c.with_steps.result _ _
    (λ after adds. none_global c.new-command.result _ _ after c.new-command.ensures.local c.in_ok-with_operands.ensures c.in_ok-with_files.ensures adds) c.with_steps.ensures
