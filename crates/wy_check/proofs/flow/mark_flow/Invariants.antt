use Rattle.std.proofs.Common.{◌≡◌, ◌≤◌, ℕ, suc, List, length}
use Rattle.wy_event.specs.Record.{Recorded}
use Rattle.wy_event.specs.Sources.{Owners}
use Rattle.wy_cert.specs.declared.certificate.Certificate.{Certificate}
use Rattle.wy_check.specs.Faults.{IsWhole}
use Rattle.wy_check.specs.Marks.{AreUnmarked}
use Rattle.wy_check.proofs.Flows.{IsGone}
use Rattle.wy_check.proofs.flow.mark_flow.Given as goal

abbrev pub invariant-loop-next : goal.invariant-loop-next
invariant-loop-next l = record {
  gone : (owner : Owners) (rs : List Recorded) (c : Certificate) → c.listed ≡ l.lines → c.event ≡ l.event → length l.fn.marks ≡ suc l.event → AreUnmarked l.fn.marks
      → (whole : IsWhole owner rs c) → IsGone owner rs c whole l.next l.marks;
  within : l.next ≤ length l.lines;
}

abbrev pub decreases-loop-next : goal.decreases-loop-next
decreases-loop-next l = l.next
