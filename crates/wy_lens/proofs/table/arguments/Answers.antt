use Rattle.std.proofs.Common.{ap, codes}
use Rattle.std.proofs.lemmas.Result.{IfOk-weaker}
use Rattle.clap.specs.Simple.{App}
use Rattle.wy_lens.proofs.Told.{all_arguments, none_global}
use Rattle.wy_lens.proofs.table.arguments.Goals as goal

pub returns-clause-shape : goal.returns-clause-shape
returns-clause-shape c =
    IfOk-weaker c.with_flag-3.result _ _ (λ after adds. ap (λ (a : App). a.top) (all_arguments c.args.name.now (codes "stop") (codes "all") (codes "data") c.new.result _ _ _ after
    c.new.ensures.app c.in_ok-command.ensures c.in_ok-stop.ensures c.in_ok-all.ensures adds)) c.with_flag-3.ensures

pub returns-clause-own : goal.returns-clause-own
returns-clause-own c =
    IfOk-weaker c.with_flag-3.result _ _ (λ after adds. none_global c.new.result _ _ _ after _ _ _
    c.new.ensures.local c.in_ok-command.ensures c.in_ok-stop.ensures c.in_ok-all.ensures adds) c.with_flag-3.ensures
