use Rattle.std.proofs.Common.{◌≡◌, ◌-◌, ◌^◌, length, None, Some, refl, sym, ap, ◌∙◌, subst}
use Rattle.std.specs.Prelude.{option_copied, slice_get}
use Rattle.wy_cert.specs.Goodness.{not_last}
use Rattle.wy_check.proofs.Faults.{as_fault, last_greatest, last_place, no_last, none_is_last, not_the_last, whole}
use Rattle.wy_check.proofs.fault.fault.Goals as goal

pub returns-in-Some-clause-fault : goal.returns-in-Some-clause-fault
returns-in-Some-clause-fault c = λ owner rs w. as_fault owner rs c.args.certificate.now c.in-Some.event (c.in-Some.ensures.first owner rs c.args.certificate.now w refl (sym c.as_slice-lines.ensures))

pub returns-in-Some-last-clause-fault : goal.returns-in-Some-last-clause-fault
returns-in-Some-last-clause-fault c = λ owner rs w.
    let cert = c.args.certificate.now in
    let ls = cert.listed in
    let line = c.in-Some-last.line.now in
    let at : slice_get ls (length ls - 1) ≡ Some line = subst (λ l. slice_get l (length l - 1) ≡ Some line) c.as_slice-lines.ensures (sym c.in-Some-last.ensures.value) in
    whole owner rs cert c.args.weighing.now w (c.in-None.ensures.first owner rs cert w refl (sym c.as_slice-lines.ensures))
    (last_greatest cert (2 ^ 32) (length ls - 1) line w.rises at (last_place ls line at) c.if-line-asked.true)

pub returns-in_default-clause-fault : goal.returns-in_default-clause-fault
returns-in_default-clause-fault c = λ owner rs w.
    let cert = c.args.certificate.now in
    let ls = cert.listed in
    let line = c.in-Some-last.line.now in
    let at : slice_get ls (length ls - 1) ≡ Some line = subst (λ l. slice_get l (length l - 1) ≡ Some line) c.as_slice-lines.ensures (sym c.in-Some-last.ensures.value) in
    not_last (c.in-None.ensures.first owner rs cert w refl (sym c.as_slice-lines.ensures))
    (not_the_last cert (2 ^ 32) (length ls - 1) line w.rises at (last_place ls line at) c.if-line-asked.false)

pub returns-in_default-2-clause-fault : goal.returns-in_default-2-clause-fault
returns-in_default-2-clause-fault c = λ owner rs w.
    let cert = c.args.certificate.now in
    let ls = cert.listed in
    let none : None ≡ slice_get ls (length ls - 1) = subst (λ l. None ≡ slice_get l (length l - 1)) c.as_slice-lines.ensures (sym (ap option_copied c.in_default.is) ∙ c.last.ensures.value) in
    not_last (c.in-None.ensures.first owner rs cert w refl (sym c.as_slice-lines.ensures)) (none_is_last cert (no_last ls none))
