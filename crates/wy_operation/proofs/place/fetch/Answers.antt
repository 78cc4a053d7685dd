use Rattle.std.proofs.Common.{◌∙◌, sym}
use Rattle.wy_operation.proofs.Places.{fetch_goes, fetch_stops}
use Rattle.wy_operation.proofs.place.fetch.Goals as goal

pub returns-then-lacks_value : goal.returns-then-lacks_value
returns-then-lacks_value g c p parts = fetch_stops p _ _ _ (c.in_ok-value.ensures p) parts (sym c.lacks_value.ensures ∙ c.if-lacks_value.true)

pub returns : goal.returns
returns g c p parts = fetch_goes p _ _ _ (c.in_ok-value.ensures p) parts (sym c.lacks_value.ensures ∙ c.if-lacks_value.false)
