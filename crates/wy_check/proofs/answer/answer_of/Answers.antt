use Rattle.std.proofs.Common.{◌∙◌, ◌^◌}
use Rattle.wy_cert.proofs.Goodness.{lists_closure}
use Rattle.wy_check.proofs.Flows.{asked_fits}
use Rattle.wy_check.proofs.answer.answer_of.Goals as goal

pub returns-clause-answer : goal.returns-clause-answer
returns-clause-answer c = λ owner rs whole.
    let cert = c.args.certificate.now in
    record {
      all = c.in_ok-all.ensures ∙ lists_closure owner rs cert whole.sound whole.last (2 ^ 32) whole.rises (asked_fits owner rs cert whole);
      flow = c.in_ok-flow.ensures owner rs whole;
    }
