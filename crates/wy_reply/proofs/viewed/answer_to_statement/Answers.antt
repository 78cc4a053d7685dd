use Rattle.std.proofs.Common.{Ok, Err, List, map, subst}
use Rattle.wy_kernel.specs.Parts.{program_of}
use Rattle.wy_event.specs.declared.record.Cover.{Cover}
use Rattle.wy_event.specs.Record.{recorded}
use Rattle.wy_telling.specs.Whynot.{TellsWhynot}
use Rattle.wy_reply.specs.Tellings.{covers_of, whynot}
use Rattle.wy_reply.proofs.Tellings.{denied}
use Rattle.wy_reply.proofs.viewed.answer_to_statement.Goals as goal

pub returns-in-Ok-clause-due : goal.returns-in-Ok-clause-due
returns-in-Ok-clause-due g c = λ seal t is.
    rw (c.done.ensures.status, c.done.ensures.text) (whynot c.args.statement.now (Ok c.in-Ok.text.items) (rw (is.covers) at c.in-Ok.ensures (map recorded t.events) is.records))

pub returns-in-Err-clause-due : goal.returns-in-Err-clause-due
returns-in-Err-clause-due g c = λ seal t is.
    let p = c.args.opened.now.program.now in
    let word = c.args.statement.now in
    let told : TellsWhynot (program_of p) p.lines.items (map recorded t.events) (covers_of t) word (Err c.in-Err.error) =
    subst (λ (cs : List Cover). TellsWhynot (program_of p) p.lines.items (map recorded t.events) cs word (Err c.in-Err.error)) is.covers
    (c.in-Err.ensures (map recorded t.events) is.records) in
    denied p seal t word c.in-Err.error c.answer_to_unanswered.result told c.answer_to_unanswered.ensures
