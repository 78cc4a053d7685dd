use Rattle.std.proofs.Common.{◌∙◌, ap, map, string_bytes}
use Rattle.std.proofs.lemmas.Result.{IfOk-weaker}
use Rattle.clap.specs.Simple.{app_of, is_simple}
use Rattle.clap.specs.Faults.{is_simple_and_free}
use Rattle.wy_lens.proofs.Asked.{entered_asks, fault_told, none_asked, none_told, table_is_simple, table_simple}
use Rattle.wy_lens.proofs.words.asked_by.Goals as goal

pub returns-in-Ok-clause-asked : goal.returns-in-Ok-clause-asked
returns-in-Ok-clause-asked c =
    let told = c.in_ok-table.ensures in
    entered_asks (map string_bytes c.args.words.now) (app_of c.in_ok-table.field-0) c.in-Ok.matches c.request_in.result told
    (c.in-Ok.ensures.kinds (ap is_simple_and_free told ∙ table_simple)) (c.in-Ok.ensures.matches (ap is_simple told ∙ table_is_simple)).1 c.request_in.ensures

pub returns-in-Ok-clause-refused : goal.returns-in-Ok-clause-refused
returns-in-Ok-clause-refused c same =
    let told = c.in_ok-table.ensures in
    none_asked (map string_bytes c.args.words.now) (app_of c.in_ok-table.field-0) c.in-Ok.matches c.request_in.result told
    (c.in-Ok.ensures.kinds (ap is_simple_and_free told ∙ table_simple)) (c.in-Ok.ensures.matches (ap is_simple told ∙ table_is_simple)).1 c.request_in.ensures same

pub returns-in-Err-clause-asked : goal.returns-in-Err-clause-asked
returns-in-Err-clause-asked c =
    let told = c.in_ok-table.ensures in
    IfOk-weaker c.request_by.result _ _ (λ r is. fault_told (map string_bytes c.args.words.now) (app_of c.in_ok-table.field-0) c.in-Err.error r told
    (c.in-Err.ensures.kinds (ap is_simple_and_free told ∙ table_simple)) is) c.request_by.ensures

pub returns-in-Err-clause-refused : goal.returns-in-Err-clause-refused
returns-in-Err-clause-refused c =
    let told = c.in_ok-table.ensures in
    IfOk-weaker c.request_by.result _ _ (λ r is. none_told (map string_bytes c.args.words.now) (app_of c.in_ok-table.field-0) c.in-Err.error r told
    (c.in-Err.ensures.kinds (ap is_simple_and_free told ∙ table_simple)) is) c.request_by.ensures
