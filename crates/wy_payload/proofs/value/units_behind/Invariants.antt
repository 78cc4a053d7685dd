use Rattle.std.proofs.Common.{◌≡◌, ◌-◌}
use Rattle.std.specs.Int.{w16}
use Rattle.wy_payload.specs.Reading.{number_at, rows_from}
use Rattle.wy_payload.proofs.Rows.{with_front}
use Rattle.wy_payload.proofs.value.units_behind.Given as goal

abbrev pub invariant-units : goal.invariant-units
invariant-units l = with_front l.units.items (rows_from (number_at w16) (l.count - l.counter) l.rest) ≡ rows_from (number_at w16) l.count l.bytes
