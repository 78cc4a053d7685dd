-- The parts of the state in memory as the definition of a run has them.
use Rattle.std.specs.Prelude.{ℕ, List, [], ◌∷◌}
use Rattle.wy_value.specs.declared.value.Value.{Value}
use Rattle.wy_event.specs.declared.record.Cover.{Cover}
use Rattle.wy_event.specs.declared.record.Use.{Use}
use Rattle.wy_event.specs.declared.record.Use.TheVariants as uses
use Rattle.wy_kernel.specs.View.{present}
use Rattle.wy_steps.specs.Sets.{nothing}
use Rattle.wy_steps.specs.State as run
use Rattle.wy_steps.specs.Steps as steps
use Rattle.wy_steps.specs.Steps.{Made}
use Rattle.wy_state.specs.declared.parts.Draft.{Draft}
use Rattle.wy_state.specs.declared.parts.Limit.{Limit}
use Rattle.wy_state.specs.declared.parts.Limit.TheVariants as limit
use Rattle.wy_state.specs.declared.parts.Reason.{Reason}
use Rattle.wy_state.specs.declared.parts.Reason.TheVariants.{Jumped, Returned, Threw}

-- what carries a value and these uses
abbrev pub given : Value → List Use → run.Carried nothing
given v us = record { value = v; uses = us; from_data = tt; from_all = tt }

-- the value of an event
abbrev pub valued : ℕ → Value → run.Carried nothing
valued e v = given v (uses.Value e ∷ [])

-- an event by its number
abbrev pub made_of : ℕ → Made nothing
made_of n = record { number = n; from_data = tt; from_all = tt }

abbrev pub covered_of : Cover → run.Covered
covered_of c = record { begins = c.begins; ends = c.ends; first = present c.first; cause = c.cause }

-- a cover that stands for none
abbrev pub blank : Cover
blank = record { begins = 0; ends = 0; first = 0; cause = 0 }

abbrev pub stop_of : Limit → run.Stop
stop_of limit.Steps = run.StepLimit
stop_of limit.Events = run.EventLimit
stop_of limit.Uses = run.UseLimit
stop_of limit.Elements = run.ElementLimit
stop_of limit.Units = run.UnitLimit
stop_of limit.Output = run.OutputLimit
stop_of limit.Depth = run.DepthLimit
stop_of limit.Unassigned = run.Unassigned
stop_of limit.FellOff = run.FellOff
stop_of (limit.InitFailed last) = run.InitFailed last

abbrev pub reason_of : Reason → run.Reason nothing
reason_of (Jumped target e) = run.Jumped target e
reason_of (Returned e v) = run.Returned e (valued e v)
reason_of (Threw e v) = run.Threw e (valued e v)

-- what an event says of itself, with these units
abbrev pub draft_of : Draft → List ℕ → steps.Draft
draft_of d units = record { kind = d.kind; site = d.site; entity = present d.entity; slot = d.slot; value = d.value; units = units }
