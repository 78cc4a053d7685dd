use Rattle.wy_kernel.specs.Parts.{program_of}
use Rattle.wy_ask.proofs.Opening.{index_of}
use Rattle.wy_explore.proofs.Arms.{whynot_absent, whynot_ran, whynot_told, whynot_unread}
use Rattle.wy_explore.proofs.apply.reply_to_whynot.Goals as goal

pub returns-in-Err-BadQuestion-clause-reply : goal.returns-in-Err-BadQuestion-clause-reply
returns-in-Err-BadQuestion-clause-reply g c = λ rs is x.
    let o = c.args.opened.now in
    whynot_unread o.program.now o.coverage.now rs x c.args.word.now c.in-Err-BadQuestion.field-0 c.in-Err-BadQuestion.field-0-is (c.in-Err-BadQuestion.ensures {u = tt})

pub returns-in-Err-NoSuch-clause-reply : goal.returns-in-Err-NoSuch-clause-reply
returns-in-Err-NoSuch-clause-reply g c = λ rs is x.
    let o = c.args.opened.now in
    whynot_absent o.program.now o.coverage.now rs x c.args.word.now c.in-Err-NoSuch.field-0 _ c.in-Err-NoSuch.field-0-is (c.in-Err-NoSuch.ensures {u = tt})

pub returns-in-Ok-whynot-clause-reply : goal.returns-in-Ok-whynot-clause-reply
returns-in-Ok-whynot-clause-reply g c = λ rs is x.
    let o = c.args.opened.now in
    whynot_told o.program.now o.coverage.now rs x c.args.word.now c.in-Ok.named c.in-Ok-whynot.items (c.in-Ok.ensures {u = tt})
    (c.in-Ok-whynot.ensures {u = tt} (program_of o.program.now) rs c.requires.links (index_of o.index (g.V.EventView.tells o.view) rs is c.requires.opened.index))

pub returns-in-Err-Ran-clause-reply : goal.returns-in-Err-Ran-clause-reply
returns-in-Err-Ran-clause-reply g c = λ rs is x.
    let o = c.args.opened.now in
    whynot_ran o.program.now o.coverage.now rs x c.args.word.now c.in-Ok.named c.in-Err-Ran.field-0 c.in-Err-Ran.field-0-0 c.in-Err-Ran.field-0-1 c.in-Err-Ran.field-0-is (c.in-Ok.ensures {u = tt})
    (c.in-Err-Ran.ensures {u = tt} (program_of o.program.now) rs c.requires.links (index_of o.index (g.V.EventView.tells o.view) rs is c.requires.opened.index))
