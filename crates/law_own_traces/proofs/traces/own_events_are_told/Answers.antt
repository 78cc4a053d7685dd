use Rattle.std.proofs.Common.{subst, List, ℕ}
use Rattle.law_own_traces.proofs.Input.{input_is_bytes}
use Rattle.law_own_traces.proofs.Told.{own_told}
use Rattle.law_own_traces.specs.Own.{text_of}
use Rattle.law_reading.specs.Spelled.{AreBytes}
use Rattle.wy_kernel.specs.Parts.{program_of}
use Rattle.wy_meaning.specs.Run.{events}
use Rattle.wy_steps.specs.Sets.{nothing}
use Rattle.law_own_traces.proofs.traces.own_events_are_told.Goals as goal

pub returns-clause-events : goal.returns-clause-events
returns-clause-events c = λ p fits library text. own_told p c.references_point_below.ensures.records (c.runs_are_in_range.ensures.runs (text_of p) (program_of p) fits library text)

pub returns-clause-bytes : goal.returns-clause-bytes
returns-clause-bytes c = λ p fits library text v head end bytes are is.
    own_told p c.references_point_below.ensures.records (c.runs_are_in_range.ensures.runs (text_of p) (program_of p) fits library text) v head.input head.steps
    (input_is_bytes v head (events nothing (program_of p) head.input head.steps) end (subst (λ (l : List ℕ). AreBytes l) is are))
