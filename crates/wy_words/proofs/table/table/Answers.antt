use Rattle.std.proofs.Common.{rules, ◌≡◌, ◌∙◌, ap, ap₂, map, true, []}
use Rattle.clap.specs.Simple.{Shape, app_of, app_of_fields, on_top}
use Rattle.wy_words.specs.Table.{names, top, with_commands}
use Rattle.wy_words.proofs.table.table.Goals as goal

pub returns : goal.returns
returns c =
    let names_are : map (λ s. s.now) c.as_slice.result.now ≡ names = search rules in
    let top_is : app_of c.disable_help_subcommand-table.result ≡ record { top = top; subs = [] } =
    ap app_of_fields c.disable_help_subcommand-table.ensures ∙ ap (on_top (λ (s : Shape). record s { disable_help_subcommand = true }))
    (ap app_of_fields c.disable_help_flag.ensures ∙ ap (on_top (λ (s : Shape). record s { disable_help_flag = true }))
    (ap app_of_fields c.no_binary_name.ensures ∙ ap (on_top (λ (s : Shape). record s { no_binary_name = true })) c.new.ensures.app)) in
    c.in_ok-table.ensures ∙ ap₂ with_commands top_is names_are
