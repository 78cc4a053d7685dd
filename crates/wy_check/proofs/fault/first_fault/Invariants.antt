use Rattle.std.proofs.Common.{◌≡◌, ◌<◌, ◌≤◌, ℕ, List, Some, length}
use Rattle.std.specs.Prelude.{slice_get}
use Rattle.wy_event.specs.Record.{Recorded}
use Rattle.wy_event.specs.Sources.{Owners}
use Rattle.wy_cert.specs.declared.certificate.Certificate.{Certificate}
use Rattle.wy_cert.specs.declared.certificate.Listed.{Listed}
use Rattle.wy_cert.specs.Goodness.{IsSound}
use Rattle.wy_check.specs.Faults.{IsWeighedWhole}
use Rattle.wy_check.proofs.fault.first_fault.Given as goal

abbrev pub invariant-loop-place : goal.invariant-loop-place
invariant-loop-place l = record {
  sound : (owner : Owners) (rs : List Recorded) (c : Certificate) → IsWeighedWhole owner rs c l.weighing → l.asked ≡ c.event → c.listed ≡ l.lines
      → (j : ℕ) (k : Listed) → slice_get l.lines j ≡ Some k → j < l.place → IsSound owner rs c k;
  few : l.place ≤ length l.weighing.sound.items;
}
