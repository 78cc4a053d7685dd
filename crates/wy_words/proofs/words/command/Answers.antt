use Rattle.std.proofs.Common.{◌∙◌, ap, sym, map, string_bytes}
use Rattle.clap.specs.Simple.{app_of, is_simple}
use Rattle.clap.specs.Faults.{is_simple_and_free}
use Rattle.wy_words.proofs.Built.{table_is_simple, table_simple}
use Rattle.wy_words.proofs.Parsed.{asked_so, failed_so, refused_so}
use Rattle.wy_words.proofs.Scan.{unspelled_asks_nothing}
use Rattle.wy_words.proofs.words.command.Goals as goal

pub returns-then-not-are_spelled-clause-refused : goal.returns-then-not-are_spelled-clause-refused
returns-then-not-are_spelled-clause-refused c none = unspelled_asks_nothing _ (sym c.are_spelled.ensures ∙ c.if-not-are_spelled.true)

pub returns-in-Ok-clause-asked : goal.returns-in-Ok-clause-asked
returns-in-Ok-clause-asked c =
    let told = c.in_ok-table.ensures in
    asked_so (map string_bytes c.args.words.now) (app_of c.in_ok-table.field-0) c.in-Ok.matches c.command_in.result told (sym c.are_spelled.ensures ∙ c.if-not-are_spelled.false)
    (c.in-Ok.ensures.kinds (ap is_simple_and_free told ∙ table_simple)) (c.in-Ok.ensures.matches (ap is_simple told ∙ table_is_simple)).1 c.command_in.ensures

pub returns-in-Ok-clause-refused : goal.returns-in-Ok-clause-refused
returns-in-Ok-clause-refused c =
    let told = c.in_ok-table.ensures in
    refused_so (map string_bytes c.args.words.now) (app_of c.in_ok-table.field-0) c.in-Ok.matches c.command_in.result told (sym c.are_spelled.ensures ∙ c.if-not-are_spelled.false)
    (c.in-Ok.ensures.kinds (ap is_simple_and_free told ∙ table_simple)) (c.in-Ok.ensures.matches (ap is_simple told ∙ table_is_simple)).1 c.command_in.ensures

pub returns-in_ok-memory_sufficed-in-Err-clause-refused : goal.returns-in_ok-memory_sufficed-in-Err-clause-refused
returns-in_ok-memory_sufficed-in-Err-clause-refused c none =
    let told = c.in_ok-table.ensures in
    failed_so (map string_bytes c.args.words.now) (app_of c.in_ok-table.field-0) c.in-Err.error told (sym c.are_spelled.ensures ∙ c.if-not-are_spelled.false)
    (c.in-Err.ensures.kinds (ap is_simple_and_free told ∙ table_simple)) c.in_ok-memory_sufficed-in-Err.ensures
