use Rattle.std.proofs.Common.{◌∙◌, arith, refl, ap}
use Rattle.clap.specs.Simple.{app_of, with_subcommand}
use Rattle.wy_words.proofs.Told.{none_left, one_more_command}
use Rattle.wy_words.proofs.table.with_commands.Goals as goal

pub loop-name-preserved : goal.loop-name-preserved
loop-name-preserved c =
    let added = c.in_ok-table.ensures.shape c.in_ok-arguments.ensures.own ∙ ap (with_subcommand (app_of c.loop-name.table)) c.in_ok-arguments.ensures.shape in
    one_more_command c.args.names.now c.loop-name.name-index _ _ (app_of c.loop-name.table) (app_of c.in_ok-table.table) _ (omega arith) added refl c.loop-name.invariant

pub returns : goal.returns
returns c =
    none_left c.args.names.now c.loop-name.name-index (app_of c.loop-name.table) _ c.loop-name-test.false c.loop-name.invariant
