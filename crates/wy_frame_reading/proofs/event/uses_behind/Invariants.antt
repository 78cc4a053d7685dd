use Rattle.std.proofs.Common.{◌≡◌, ◌-◌}
use Rattle.wy_payload.specs.Reading.{rows_from}
use Rattle.wy_frame_reading.specs.Fields.{use_at}
use Rattle.wy_payload.proofs.Rows.{with_front}
use Rattle.wy_frame_reading.proofs.event.uses_behind.Given as goal

abbrev pub invariant-uses : goal.invariant-uses
invariant-uses l = with_front l.uses.items (rows_from (use_at l.n) (l.count - l.counter) l.rest) ≡ rows_from (use_at l.n) l.count l.bytes
