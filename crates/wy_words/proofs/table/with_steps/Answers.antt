use Rattle.std.proofs.Common.{◌∙◌, Some, ap, codes}
use Rattle.std.proofs.lemmas.Result.{IfOk-weaker}
use Rattle.clap.specs.Walk.{Rule, rule_of}
use Rattle.clap.specs.declared.builder.arg.Arg.{Arg}
use Rattle.wy_words.proofs.Told.{one_argument}
use Rattle.wy_words.proofs.table.with_steps.Goals as goal

pub returns : goal.returns
returns c =
    let own = ap (λ (a : Arg). a.global) c.long.ensures ∙ c.new.ensures.optional.1 in
    let is = ap rule_of c.long.ensures ∙ ap (λ (r : Rule). record r { long = Some (codes "steps") }) c.new.ensures.rule in
    IfOk-weaker c.arg.result _ _ (λ after adds. one_argument c.args.command c.long.result after _ adds own is) c.arg.ensures
