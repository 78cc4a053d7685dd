use Rattle.std.proofs.Common.{◌≡◌, ◌∙◌, [], true, ap, codes}
use Rattle.std.proofs.lemmas.Result.{IfOk-weaker}
use Rattle.clap.specs.Simple.{App, Shape, app_of, app_of_fields, on_top, with_subcommand}
use Rattle.wy_lens.specs.Table.{sub, top}
use Rattle.wy_lens.proofs.table.table.Goals as goal

pub returns : goal.returns
returns c =
    let top_is : app_of c.version-table.result ≡ record { top = top; subs = [] } =
    ap app_of_fields c.version-table.ensures ∙ ap (on_top (λ (s : Shape). record s { has_version = true }))
    (ap app_of_fields c.disable_help_subcommand.ensures ∙ ap (on_top (λ (s : Shape). record s { disable_help_subcommand = true }))
    (ap app_of_fields c.no_binary_name.ensures ∙ ap (on_top (λ (s : Shape). record s { no_binary_name = true })) c.new.ensures.app)) in
    let one = c.in_ok-table.ensures.shape c.in_ok-arguments.ensures.own
    ∙ ap (with_subcommand (app_of c.version-table.result)) c.in_ok-arguments.ensures.shape ∙ ap (λ a. with_subcommand a (sub (codes "explain"))) top_is in
    let two = c.in_ok-table-2.ensures.shape c.in_ok-arguments-2.ensures.own
    ∙ ap (with_subcommand (app_of c.in_ok-table.table)) c.in_ok-arguments-2.ensures.shape ∙ ap (λ a. with_subcommand a (sub (codes "show"))) one in
    let three = c.in_ok-table-3.ensures.shape c.in_ok-arguments-3.ensures.own
    ∙ ap (with_subcommand (app_of c.in_ok-table-2.table)) c.in_ok-arguments-3.ensures.shape ∙ ap (λ a. with_subcommand a (sub (codes "slice"))) two in
    let four = c.in_ok-table-4.ensures.shape c.in_ok-arguments-4.ensures.own
    ∙ ap (with_subcommand (app_of c.in_ok-table-3.table)) c.in_ok-arguments-4.ensures.shape ∙ ap (λ a. with_subcommand a (sub (codes "report"))) three in
    let five = c.in_ok-table-5.ensures.shape c.in_ok-arguments-5.ensures.own
    ∙ ap (with_subcommand (app_of c.in_ok-table-4.table)) c.in_ok-arguments-5.ensures.shape ∙ ap (λ a. with_subcommand a (sub (codes "diff"))) four in
    let six = c.in_ok-table-6.ensures.shape c.in_ok-arguments-6.ensures.own
    ∙ ap (with_subcommand (app_of c.in_ok-table-5.table)) c.in_ok-arguments-6.ensures.shape ∙ ap (λ a. with_subcommand a (sub (codes "expect"))) five in
    IfOk-weaker c.subcommand-7.result _ _ (λ after adds. adds.shape c.in_ok-arguments-7.ensures.own
    ∙ ap (with_subcommand (app_of c.in_ok-table-6.table)) c.in_ok-arguments-7.ensures.shape ∙ ap (λ a. with_subcommand a (sub (codes "events"))) six) c.subcommand-7.ensures
