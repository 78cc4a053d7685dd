use Rattle.std.proofs.lemmas.Result.{IfOk-weaker}
use Rattle.wy_lens.specs.Table.{first, second}
use Rattle.wy_lens.proofs.Told.{one_argument, one_argument_more}
use Rattle.wy_lens.proofs.table.with_operands.Goals as goal

pub returns : goal.returns
returns c =
    IfOk-weaker c.arg-2.result _ _ (λ after adds. one_argument_more c.args.command _ after first second
    (one_argument c.args.command c.new-first.result _ first c.in_ok-command.ensures c.new-first.ensures.optional.1 c.new-first.ensures.rule)
    (one_argument _ c.new-second.result after second adds c.new-second.ensures.optional.1 c.new-second.ensures.rule)) c.arg-2.ensures
