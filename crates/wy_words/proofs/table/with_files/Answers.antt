use Rattle.std.proofs.Common.{◌∙◌, Some, ap}
use Rattle.std.proofs.lemmas.Result.{IfOk-weaker}
use Rattle.clap.specs.Walk.{Rule, rule_of}
use Rattle.clap.specs.declared.builder.arg.Arg.{Arg}
use Rattle.wy_words.specs.Table.{input, trace}
use Rattle.wy_words.proofs.Told.{one_argument, one_argument_more}
use Rattle.wy_words.proofs.table.with_files.Goals as goal

pub returns : goal.returns
returns c =
    let input_own = ap (λ (a : Arg). a.global) c.short-input.ensures ∙ c.new.ensures.optional.1 in
    let input_is = ap rule_of c.short-input.ensures ∙ ap (λ (r : Rule). record r { short = Some 105 }) c.new.ensures.rule in
    let trace_own = ap (λ (a : Arg). a.global) c.short-trace.ensures ∙ c.new-2.ensures.optional.1 in
    let trace_is = ap rule_of c.short-trace.ensures ∙ ap (λ (r : Rule). record r { short = Some 111 }) c.new-2.ensures.rule in
    IfOk-weaker c.arg-2.result _ _ (λ after adds. one_argument_more c.args.command _ after input trace
    (one_argument c.args.command c.short-input.result _ input c.in_ok-command.ensures input_own input_is)
    (one_argument _ c.short-trace.result after trace adds trace_own trace_is)) c.arg-2.ensures
