use Rattle.std.proofs.Common.{◌≡◌, length, map, take}
use Rattle.wy_value.specs.Encoding.{utf8_of}
use Rattle.wy_payload.proofs.ranges.lengths_of.Given as goal

abbrev pub invariant-loop-text : goal.invariant-loop-text
invariant-loop-text l = l.lengths.items ≡ map (λ t. length (utf8_of t.items)) (take l.text-index l.texts)
