use Rattle.std.proofs.Common.{◌≡◌, ◌-◌}
use Rattle.wy_payload.specs.Reading.{rows_from}
use Rattle.wy_payload.specs.Closing.{cover_at}
use Rattle.wy_payload.proofs.Rows.{with_front}
use Rattle.wy_payload.proofs.closing.covers_behind.Given as goal

abbrev pub invariant-covers : goal.invariant-covers
invariant-covers l = with_front l.covers.items (rows_from (cover_at l.earlier) (l.count - l.counter) l.rest) ≡ rows_from (cover_at l.earlier) l.count l.bytes
