-- Where the payload of an event is short, so are its parts.
use Rattle.std.proofs.Common.{◌+◌, ◌<◌, ◌^◌, ◌++◌, length, arith, length-append}
use Rattle.wy_event.specs.declared.record.Version.{Version}
use Rattle.wy_event.specs.Record.{Recorded}
use Rattle.wy_spelling.specs.Spelling.{slot_bytes, content_bytes, uses_bytes, origin_bytes, event_payload}
use Rattle.wy_spelling.proofs.Lengths.{uses_are_few}

pub record Short (v : Version) (e : Recorded) : Type 0 where
  pub content : length (content_bytes v e.kind e.value e.units) < 2 ^ 32
  pub uses : length e.uses < 2 ^ 32

pub parts_short : (v : Version) (e : Recorded) → length (event_payload v e) < 2 ^ 32 → Short v e
unfolding event_payload
parts_short v e short =
    let uses = uses_bytes e.uses in
    let content = content_bytes v e.kind e.value e.units in
    let slot = slot_bytes e.slot in
    let within : length content + length uses < 2 ^ 32 = omega (arith, short, length-append (origin_bytes e) (slot ++ (content ++ uses)), length-append slot (content ++ uses), length-append content uses) in
    record { content = omega (arith, within); uses = uses_are_few e.uses (omega (arith, within)) }
