use Rattle.std.proofs.Common.{◌<◌, ◌+◌, arith, subst}
use Rattle.std.specs.Prelude.{IfSome}
use Rattle.wy_kernel.specs.Parts.{program_of}
use Rattle.wy_explore.specs.Commands.{AsksAbout}
use Rattle.wy_explore.proofs.Arms.{answered_by, ask_missed, ask_told}
use Rattle.wy_explore.proofs.Searching.{rises_up}
use Rattle.wy_explore.proofs.explorer.Explorer.ask.Goals as goal

pub returns-in_default-clause-reply : goal.returns-in_default-clause-reply
returns-in_default-clause-reply g c = λ rs is.
    let o = c.args.opened.now in
    ask_missed o.program.now o.coverage.now rs c.args.self.now c.args.word.now
    (subst (AsksAbout (program_of o.program.now) rs c.args.word.now) c.in_default.is (c.in_ok-event.ensures.event rs is))

pub returns-clause-reply : goal.returns-clause-reply
returns-clause-reply g c = λ rs is.
    let o = c.args.opened.now in
    ask_told o.program.now o.coverage.now rs c.args.self.now c.args.word.now c.in-Some.event c.ask_about.new.self
    (subst (AsksAbout (program_of o.program.now) rs c.args.word.now) c.in-Some.is (c.in_ok-event.ensures.event rs is)) c.ask_about.ensures.session

pub returns-clause-answered : goal.returns-clause-answered
returns-clause-answered g c = λ rs is all.
    let o = c.args.opened.now in
    c.ask_about.ensures.answered (program_of o.program.now) rs
    (answered_by o (g.V.EventView.tells o.view) rs c.in-Some.event c.in_ok-answer.answer c.requires.opened (c.in_ok-answer.ensures.all rs is) (c.in_ok-answer.ensures.flow rs is)) all

pub returns-clause-within : goal.returns-clause-within
returns-clause-within g c =
    let told = g.V.EventView.tells c.args.opened.now.view in
    let below : c.in-Some.event < told.count = subst (λ o. IfSome o (λ event. event < told.count)) c.in-Some.is c.in_ok-event.ensures.below in
    c.ask_about.ensures.within told.count (below, rises_up 0 (c.in-Some.event + 1) told.count c.in_ok-answer.answer.all.items (omega (arith, below)) c.in_ok-answer.ensures.rises.0) c.requires.within
