use Rattle.wy_reply.specs.Tellings.{inquiry_of}
use Rattle.wy_top.specs.Due.{DueForTrace}
use Rattle.wy_top.proofs.Paging.{clause_causes, clause_due}
use Rattle.wy_top.proofs.answer.answer_from.Goals as goal

pub returns-in-Inquiry-clause-due : goal.returns-in-Inquiry-clause-due
returns-in-Inquiry-clause-due g c =
    rw (c.in-Inquiry.is) (clause_due (λ files. DueForTrace files c.args.trace.now (inquiry_of c.in-Inquiry.inquiry)) (g.S.Shelf.held c.args.shelf.now) _ _ c.answer_by_pages.result c.answer_by_pages.ensures.answers)

pub returns-in-Inquiry-clause-by_run : goal.returns-in-Inquiry-clause-by_run
returns-in-Inquiry-clause-by_run g c = rw (c.in-Inquiry.is) c.answer_by_pages.ensures.by_run

pub returns-in-Inquiry-clause-causes : goal.returns-in-Inquiry-clause-causes
returns-in-Inquiry-clause-causes g c =
    clause_causes (λ files. DueForTrace files c.args.trace.now (inquiry_of c.in-Inquiry.inquiry)) (g.S.Shelf.held c.args.shelf.now) _ _ c.answer_by_pages.result c.answer_by_pages.ensures.answers
