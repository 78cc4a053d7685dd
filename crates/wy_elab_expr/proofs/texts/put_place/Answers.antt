use Rattle.std.proofs.Common.{◌≡◌, ◌∙◌, ap, rules, List, ℕ, Option, Some, None}
use Rattle.std.specs.Prelude.{is_some}
use Rattle.std.specs.Map.{lookup}
use Rattle.std.specs.Str.{bytes_eq}
use Rattle.wy_table.specs.Names.{numbered_also}
use Rattle.wy_elab_expr.specs.TextPlaces.{place_in}
use Rattle.wy_elab_expr.proofs.TextPlaces.{placed_more, not_some}
use Rattle.wy_elab_expr.proofs.texts.put_place.Goals as goal

pub returns-in_ok-insert : goal.returns-in_ok-insert
returns-in_ok-insert c = λ q.
    let m = c.args.places.now in
    let key = c.in_ok-copied.field-0 in
    let same : key.items ≡ c.args.units.now.items = c.in_ok-copied.ensures in
    let none : place_in m key ≡ None = not_some _ (ap (λ (w : List ℕ). is_some (lookup (λ b. bytes_eq w b.items) m.entries)) same ∙ search rules) in
    placed_more m c.insert.new.self key c.args.at none c.in_ok-insert.ensures.updates q
    ∙ ap (λ w. numbered_also (place_in m q) (bytes_eq w q.items) c.args.at) same
