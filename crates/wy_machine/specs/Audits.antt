-- What an audit of a trace finds.
use Rattle.std.specs.Prelude.{◌≡◌, ◌≢◌, List}
use Rattle.wy_event.specs.declared.record.Head.{Head}
use Rattle.wy_event.specs.declared.record.Tail.{Tail as Kept}
use Rattle.wy_event.specs.Record.{Recorded}
use Rattle.wy_kernel.specs.Program.{Program}
use Rattle.wy_steps.specs.Sets.{nothing}
use Rattle.wy_meaning.specs.Run as meaning
use Rattle.wy_machine.specs.Differences.{FirstDifference}
use Rattle.wy_machine.specs.declared.auditing.Verdict.{Verdict}
use Rattle.wy_machine.specs.declared.auditing.Verdict.TheVariants.{Equal, Event, Tail}

-- the events and the tail of the run of a head
abbrev pub events_of_head : Program → Head → List Recorded
events_of_head p head = meaning.events nothing p head.input head.steps

abbrev pub tail_of_head : Program → Head → meaning.Tail
tail_of_head p head = meaning.tail nothing p head.input head.steps

-- these events and this tail are those of the run of the head; or the events differ first here; or the tail alone is another
abbrev pub AuditIs : Program → Head → List Recorded → meaning.Tail → Verdict → Type 0
AuditIs p head events tail Equal = (events ≡ events_of_head p head) × (tail ≡ tail_of_head p head)
AuditIs p head events tail (Event n) = FirstDifference events (events_of_head p head) n
AuditIs p head events tail Tail = (events ≡ events_of_head p head) × (tail ≢ tail_of_head p head)

-- two verdicts on the same are one
abbrev pub OneAuditIsDue : Type 0
OneAuditIsDue = (p : Program) (head : Head) (events : List Recorded) (tail : meaning.Tail) (v w : Verdict) → AuditIs p head events tail v → AuditIs p head events tail w → v ≡ w

-- two ends in memory say the same of all but the statements
abbrev pub SameCounts : Kept → Kept → Type 0
SameCounts a b = (a.stop ≡ b.stop) × (a.last ≡ b.last) × (a.steps ≡ b.steps) × (a.events ≡ b.events) × (a.uses ≡ b.uses) × (a.output ≡ b.output)
