use Rattle.wy_top.specs.Paging.{DueInPages}
use Rattle.wy_reply.specs.Tellings.{inquiry_of}
use Rattle.wy_top.proofs.Paging.{refused_from, settled_from}
use Rattle.wy_top.proofs.paged.answer_in.Goals as goal

pub returns-in-Ok-clause-answers : goal.returns-in-Ok-clause-answers
returns-in-Ok-clause-answers g c =
    settled_from (DueInPages c.args.program.now c.args.pages c.args.tail.now (inquiry_of c.args.inquiry)) (g.S.Shelf.held c.args.shelf.now) _ _ c.in-Ok.answer c.in-Ok.ensures.settled c.in-Ok.ensures.looks
    (λ files told t are. c.in-Ok.ensures.due t files told are)

pub returns-in-Err-clause-answers : goal.returns-in-Err-clause-answers
returns-in-Err-clause-answers g c =
    refused_from (DueInPages c.args.program.now c.args.pages c.args.tail.now (inquiry_of c.args.inquiry)) c.args.pages (g.S.Shelf.held c.args.shelf.now) _ _ c.args.name.now c.in-Err.error c.answer_to_refusal.result c.in-Err.ensures.looks c.answer_to_refusal.ensures
