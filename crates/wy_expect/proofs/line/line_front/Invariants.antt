-- no line feed stands from here on
use Rattle.std.proofs.Common.{◌≡◌, ◌+◌, ◌≤◌, not, length, take}
use Rattle.std.specs.List.{suffix_len}
use Rattle.wy_expect.specs.Beside.{is_feed}
use Rattle.wy_expect.proofs.line.line_front.Given as goal

abbrev pub invariant-loop-start : goal.invariant-loop-start
invariant-loop-start l =
    (l.start ≤ length l.text) × (l.start + suffix_len (λ b. not (is_feed b)) l.text ≡ length l.text + suffix_len (λ b. not (is_feed b)) (take l.start l.text))

abbrev pub decreases-loop-start : goal.decreases-loop-start
decreases-loop-start l = l.start
