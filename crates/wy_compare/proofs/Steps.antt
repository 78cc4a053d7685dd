-- Two events in memory are one step of a path exactly where what is recorded of them is.
use Rattle.std.proofs.Common.{◌≡◌, ◌↔◌, Bool, IsTrue, ap}
use Rattle.wy_kernel.specs.View.{present}
use Rattle.wy_event.specs.declared.record.Event.{Event}
use Rattle.wy_event.specs.Record.{recorded}
use Rattle.wy_record.proofs.Events.{present_once}
use Rattle.wy_compare.specs.Parting.{SameStep}

pub step_tells : (a b : Event) (r : Bool) → IsTrue r ↔ ((a.kind ≡ b.kind) × (a.site ≡ b.site) × (a.frame ≡ b.frame) × (a.entity ≡ b.entity)) → IsTrue r ↔ SameStep (recorded a) (recorded b)
unfolding recorded
step_tells a b r tells = (
  λ held. let is = tells.0 held in record { kind = is.0; site = is.1; frame = ap present is.2; entity = ap present is.3 },
  λ is. tells.1 (is.kind, is.site, present_once a.frame b.frame is.frame, present_once a.entity b.entity is.entity),
)
