use Rattle.std.proofs.Common.{◌∙◌, Some, ap}
use Rattle.std.proofs.lemmas.Result.{IfOk-weaker}
use Rattle.clap.specs.Walk.{Rule, rule_of}
use Rattle.clap.specs.declared.builder.action.ArgAction.TheVariants.{SetTrue}
use Rattle.clap.specs.declared.builder.arg.Arg.{Arg}
use Rattle.wy_lens.specs.Table.{flag_rule}
use Rattle.wy_lens.proofs.Told.{one_argument}
use Rattle.wy_lens.proofs.table.with_flag.Goals as goal

pub returns : goal.returns
returns c =
    let own = ap (λ (a : Arg). a.global) c.action-flag.ensures ∙ ap (λ (a : Arg). a.global) c.long.ensures ∙ c.new.ensures.optional.1 in
    let is = ap rule_of c.action-flag.ensures ∙ ap (λ (a : Arg). record (rule_of a) { action = Some SetTrue }) c.long.ensures
    ∙ ap (λ (r : Rule). record r { long = Some c.args.name.now; action = Some SetTrue }) c.new.ensures.rule in
    IfOk-weaker c.arg.result _ _ (λ after adds. one_argument c.args.command c.action-flag.result after (flag_rule c.args.name.now) adds own is) c.arg.ensures
