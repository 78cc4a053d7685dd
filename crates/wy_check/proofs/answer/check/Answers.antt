-- A fault of the lines is told where one was found, and else they are the answer.
use Rattle.std.proofs.Common.{sym, subst}
use Rattle.wy_kernel.specs.Parts.{program_of}
use Rattle.wy_cert.specs.Goodness.{IsGood}
use Rattle.wy_check.specs.Writes.{owners}
use Rattle.wy_check.proofs.Faults.{good_no_fault}
use Rattle.wy_check.proofs.Verdicts.{accepted, faulty}
use Rattle.wy_check.proofs.answer.check.Goals as goal

pub returns-in-Some-clause-judges : goal.returns-in-Some-clause-judges
returns-in-Some-clause-judges g c =
    let owner = owners (program_of c.args.program.now) in
    let found = c.in_ok-certificate.ensures.found in
    faulty owner (g.V.EventView.tells c.args.view.now).records c.args.seal.now c.args.bytes.now c.in_ok-certificate.certificate c.in-Some.event (record { written = found.0; spelled = found.1 })
    (c.in_ok-same_trace.ensures.0 c.if-not-same_trace.false) (λ rs is. c.in-Some.ensures.fault owner rs (c.in_ok-weighing.ensures.whole rs is))

pub returns-in-Some-clause-accepts : goal.returns-in-Some-clause-accepts
returns-in-Some-clause-accepts g c = λ rs is other spelled good.
    let owner = owners (program_of c.args.program.now) in
    let read = c.in_ok-certificate.certificate in
    let same = c.in_ok-certificate.ensures.only other spelled.written spelled.spelled in
    absurd (good_no_fault owner rs c.args.seal.now read c.in-Some.event (subst (IsGood owner rs c.args.seal.now) (sym same) good) (c.in-Some.ensures.fault owner rs (c.in_ok-weighing.ensures.whole rs is)))

pub returns-clause-judges : goal.returns-clause-judges
returns-clause-judges g c =
    let owner = owners (program_of c.args.program.now) in
    let found = c.in_ok-certificate.ensures.found in
    accepted owner (g.V.EventView.tells c.args.view.now).records c.args.seal.now c.args.bytes.now c.in_ok-certificate.certificate _ (record { written = found.0; spelled = found.1 })
    (c.in_ok-same_trace.ensures.0 c.if-not-same_trace.false) (λ rs is. c.in-None.ensures.fault owner rs (c.in_ok-weighing.ensures.whole rs is)) (c.in_ok-answer_of-in-None.ensures.answer owner)
