use Rattle.std.proofs.Common.{arith}
use Rattle.wy_explore.proofs.Arms.{show_missed, show_told, show_too_long, show_worthless}
use Rattle.wy_explore.proofs.Within.{value_within}
use Rattle.wy_explore.proofs.explorer.Explorer.show.Goals as goal

pub returns-in_default-clause-reply : goal.returns-in_default-clause-reply
returns-in_default-clause-reply g c = λ rs is. show_missed c.args.opened.now.program.now c.args.opened.now.coverage.now rs c.args.self.now c.args.text.now c.in_default.is

pub returns-then-text-clause-reply : goal.returns-then-text-clause-reply
returns-then-text-clause-reply g c = λ rs is. show_too_long c.args.opened.now.program.now c.args.opened.now.coverage.now rs c.args.self.now c.args.text.now (omega (arith, c.if-text.true))

pub returns-in-Ok-clause-reply : goal.returns-in-Ok-clause-reply
returns-in-Ok-clause-reply g c = λ rs is.
    let o = c.args.opened.now in
    show_told o.program.now o.coverage.now rs c.args.self.now c.args.text.now c.in-Some.event c.in-Ok.value (omega (arith, c.if-text.false)) c.in-Some.is (c.in-Ok.ensures.value rs is)

pub returns-in-Err-NoValue-clause-reply : goal.returns-in-Err-NoValue-clause-reply
returns-in-Err-NoValue-clause-reply g c = λ rs is.
    let o = c.args.opened.now in
    show_worthless o.program.now o.coverage.now rs c.args.self.now c.args.text.now c.in-Some.event c.in-Err-NoValue.field-0 c.in-Err-NoValue.field-0-is c.in-Some.is (c.in-Err-NoValue.ensures.none rs is)

pub returns-in-Ok-clause-within : goal.returns-in-Ok-clause-within
returns-in-Ok-clause-within g c =
    value_within (g.V.EventView.tells c.args.opened.now.view).count c.in-Some.event c.args.self.now.cursor c.requires.within.cursor c.in-Some.is c.in-Ok.value c.in-Ok.ensures.below
