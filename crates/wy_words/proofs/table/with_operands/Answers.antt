use Rattle.std.proofs.lemmas.Result.{IfOk-weaker}
use Rattle.wy_words.specs.Table.{first, second, third}
use Rattle.wy_words.proofs.Told.{arguments_more, one_argument, one_argument_more}
use Rattle.wy_words.proofs.table.with_operands.Goals as goal

pub returns : goal.returns
returns c =
    IfOk-weaker c.arg-3.result _ _ (λ after adds. arguments_more c.args.command _ after first second third
    (one_argument_more c.args.command _ _ first second
    (one_argument c.args.command c.new-first.result _ first c.in_ok-command.ensures c.new-first.ensures.optional.1 c.new-first.ensures.rule)
    (one_argument _ c.new-second.result _ second c.in_ok-command-2.ensures c.new-second.ensures.optional.1 c.new-second.ensures.rule))
    (one_argument _ c.new-third.result after third adds c.new-third.ensures.optional.1 c.new-third.ensures.rule)) c.arg-3.ensures
