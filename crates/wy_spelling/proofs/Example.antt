-- Three events of a small program, byte by byte: `int x = 2` sets a local, `if (x > 1)` tests it, and `y = x + 3` sets another from it.
use Rattle.std.proofs.Common.{◌≡◌, List, ℕ, [], ◌∷◌, ◌++◌, pos, refl, Some}
use Rattle.std.specs.Prelude.{None as Absent}
use Rattle.wy_value.specs.declared.value.Value.TheVariants.{Int, Arm}
use Rattle.wy_event.specs.declared.record.Kind.TheVariants as kind
use Rattle.wy_event.specs.declared.record.Slot.TheVariants.{None as NoSlot, Local}
use Rattle.wy_event.specs.declared.record.Use.TheVariants.{Place}
use Rattle.wy_event.specs.declared.record.Version.{Version}
use Rattle.wy_event.specs.declared.record.Version.TheVariants.{One, Two}
use Rattle.wy_event.specs.Record.{Recorded}
use Rattle.wy_spelling.specs.Spelling.{slot_bytes, value_bytes, use_bytes, uses_bytes, origin_bytes, event_payload, event_frame}

set_x : Recorded
set_x = record { kind = kind.Set; site = 15; frame = Some 2; control = Some 2; entity = Absent; slot = Local 2 1; value = Int (pos 2); units = []; uses = [] }

four : ℕ → ℕ → ℕ → ℕ → List ℕ
four a b c d = a ∷ b ∷ c ∷ d ∷ []

set_x_spelled : (v : Version) → event_frame v set_x ≡ 0x45 ∷ four 0 0 0 0x23 ++ (0x04 ∷ four 0 0 0 0x0f ++ (four 0 0 0 2 ++ (four 0 0 0 2 ++ (four 0xff 0xff 0xff 0xff
    ++ (0x01 ∷ four 0 0 0 2 ++ (four 0 0 0 1 ++ (0x05 ∷ four 0 0 0 2 ++ four 0 0 0 0)))))))
unfolding event_frame event_payload origin_bytes slot_bytes value_bytes uses_bytes set_x four
set_x_spelled v = refl

set_y : Recorded
set_y = record { kind = kind.Set; site = 32; frame = Some 2; control = Some 6; entity = Absent; slot = Local 2 2; value = Int (pos 5); units = []; uses = Place (Local 2 1) 7 ∷ [] }

set_y_spelled : (v : Version) → event_frame v set_y ≡ 0x45 ∷ four 0 0 0 0x31 ++ (0x04 ∷ four 0 0 0 0x20 ++ (four 0 0 0 2 ++ (four 0 0 0 6 ++ (four 0xff 0xff 0xff 0xff
    ++ (0x01 ∷ four 0 0 0 2 ++ (four 0 0 0 2 ++ (0x05 ∷ four 0 0 0 5 ++ (four 0 0 0 1
    ++ (0x01 ∷ 0x01 ∷ four 0 0 0 2 ++ (four 0 0 0 1 ++ four 0 0 0 7))))))))))
unfolding event_frame event_payload origin_bytes slot_bytes value_bytes use_bytes uses_bytes set_y four
set_y_spelled v = refl

test_x : Recorded
test_x = record { kind = kind.Test; site = 24; frame = Some 2; control = Some 2; entity = Absent; slot = NoSlot; value = Arm 1; units = []; uses = Place (Local 2 1) 6 ∷ [] }

test_x_spelled_one : event_frame One test_x ≡ 0x45 ∷ four 0 0 0 0x26 ++ (0x05 ∷ four 0 0 0 0x18 ++ (four 0 0 0 2 ++ (four 0 0 0 2 ++ (four 0xff 0xff 0xff 0xff
    ++ (0x00 ∷ 0x01 ∷ 0x01 ∷ four 0 0 0 1 ++ (0x01 ∷ 0x01 ∷ four 0 0 0 2 ++ (four 0 0 0 1 ++ four 0 0 0 6)))))))
unfolding event_frame event_payload origin_bytes slot_bytes value_bytes use_bytes uses_bytes test_x four
test_x_spelled_one = refl

test_x_spelled_two : event_frame Two test_x ≡ 0x45 ∷ four 0 0 0 0x29 ++ (0x05 ∷ four 0 0 0 0x18 ++ (four 0 0 0 2 ++ (four 0 0 0 2 ++ (four 0xff 0xff 0xff 0xff
    ++ (0x00 ∷ 0x0c ∷ four 0 0 0 1 ++ (four 0 0 0 1 ++ (0x01 ∷ 0x01 ∷ four 0 0 0 2 ++ (four 0 0 0 1 ++ four 0 0 0 6))))))))
unfolding event_frame event_payload origin_bytes slot_bytes value_bytes use_bytes uses_bytes test_x four
test_x_spelled_two = refl
