use Rattle.std.proofs.Common.{arith}
use Rattle.wy_top.proofs.Certified.{opened_answers, refused_answers}
use Rattle.wy_top.proofs.Opened.{caused, is_decoded}
use Rattle.wy_top.proofs.checking.check_over.Goals as goal

pub check_under-requires-clause-decoded : goal.check_under-requires-clause-decoded
check_under-requires-clause-decoded g c =
    is_decoded c.args.bytes.now c.in-Open.typed c.in-Open.trace (λ i. omega (arith, c.type_inv.bytes i)) c.requires (rw (c.in-Open.is) at c.in_ok-typed.ensures.opens)

pub returns-in-Open-clause-due : goal.returns-in-Open-clause-due
returns-in-Open-clause-due g c = λ k.
    opened_answers _ _ c.args.bytes.now c.in-Open.typed c.in-Open.trace _ _ c.check_under.result (rw (c.in-Open.is) at c.in_ok-typed.ensures.opens) (c.check_under.ensures.due k)

pub returns-in-Refused-clause-due : goal.returns-in-Refused-clause-due
returns-in-Refused-clause-due g c = λ k.
    refused_answers _ _ c.args.bytes.now _ c.in-Refused.answer (rw (c.in-Refused.is) at c.in_ok-typed.ensures.opens) (rw (c.in-Refused.is) at c.in_ok-typed.ensures.settled)

pub returns-in-Refused-clause-causes : goal.returns-in-Refused-clause-causes
returns-in-Refused-clause-causes g c = caused _ _ c.in-Refused.answer (rw (c.in-Refused.is) at c.in_ok-typed.ensures.settled)
