use Rattle.std.proofs.Common.{◌≡◌, ◌∙◌, ap, rules, None, Some}
use Rattle.std.specs.Prelude.{string_bytes, is_some}
use Rattle.std.specs.Str.{bytes_eq}
use Rattle.std.specs.HashMap.{get_by_text}
use Rattle.std.proofs.lemmas.Map.Text.{hash_map_updates_text}
use Rattle.wy_table.specs.Names.{numbered_also}
use Rattle.wy_table.proofs.FirstNumbers.{absent}
use Rattle.wy_members.proofs.Numbering.{numbered_update}
use Rattle.wy_members.proofs.names.number.Goals as goal

pub returns-in_ok-insert : goal.returns-in_ok-insert
returns-in_ok-insert c = λ q.
    let m = c.args.numbers.now in
    let key = c.in_ok-to_string.field-0 in
    let named : string_bytes key ≡ c.args.name.now = search rules in
    let none : get_by_text m (string_bytes key) ≡ None = absent _ (ap (λ name. is_some (get_by_text m name)) named ∙ search rules) in
    hash_map_updates_text (string_bytes key) m c.insert.new.self (Some c.args.next) c.in_ok-insert.ensures.updates q
    ∙ numbered_update (get_by_text m) (string_bytes key) q c.args.next none
    ∙ ap (λ name. numbered_also (get_by_text m q) (bytes_eq q name) c.args.next) named
