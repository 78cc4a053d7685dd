use Rattle.std.proofs.Common.{refl}
use Rattle.wy_machine.specs.declared.auditing.Verdict.TheVariants as verdict
use Rattle.wy_reply.specs.declared.status.Status.TheVariants as status
use Rattle.wy_reply.specs.Tellings.{audit}
use Rattle.wy_reply.proofs.Tellings.{told_audit}
use Rattle.wy_reply.proofs.telling.answer_to_audit.Goals as goal

pub returns-in_ok-line-in-Equal-clause-due : goal.returns-in_ok-line-in-Equal-clause-due
returns-in_ok-line-in-Equal-clause-due c = λ seal.
    rw (c.done.ensures.status, c.done.ensures.text, c.in_ok-line-in-Equal.ensures) (audit verdict.Equal (rw (c.in-Equal.is) at c.in_ok-audit.ensures))

pub returns-in-Event-clause-due : goal.returns-in-Event-clause-due
returns-in-Event-clause-due c = λ seal. told_audit _ seal _ (verdict.Event c.in-Event.event) status.Audit _ (rw (c.in-Event.is) at c.in_ok-audit.ensures) refl c.refused.ensures

pub returns-in-Tail-clause-due : goal.returns-in-Tail-clause-due
returns-in-Tail-clause-due c = λ seal. told_audit _ seal _ verdict.Tail status.Audit _ (rw (c.in-Tail.is) at c.in_ok-audit.ensures) refl c.refused-in-Tail.ensures
