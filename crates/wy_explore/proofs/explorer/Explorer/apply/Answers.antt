use Rattle.std.proofs.Common.{◌∙◌, ap, sym}
use Rattle.wy_explore.specs.Commands.{Ask, Down, Frames, Go, Listing, Show, Sources, Undo, Up, WhyNot, worded}
use Rattle.wy_ask.proofs.Opening.{all_told}
use Rattle.wy_explore.proofs.Arms.{line_missed, line_over, line_told, line_told_or_not}
use Rattle.wy_explore.proofs.explorer.Explorer.apply.Goals as goal

pub returns-in-Some-Ask-clause-reply : goal.returns-in-Some-Ask-clause-reply
returns-in-Some-Ask-clause-reply g c = λ rs is all.
    let o = c.args.opened.now in
    line_told_or_not o.program.now o.coverage.now rs c.args.self.now c.args.line.now c.in-Some-Ask.field-0 (Ask c.in-Some-Ask.word.now) c.ask.new.self c.ask.result (ap worded c.in-Some-Ask.field-0-is) (c.in-Some-Ask.ensures {u = tt})
    (c.ask.ensures.reply rs is)

pub returns-in-Some-Listing-clause-reply : goal.returns-in-Some-Listing-clause-reply
returns-in-Some-Listing-clause-reply g c = λ rs is all.
    let o = c.args.opened.now in
    line_told o.program.now o.coverage.now rs c.args.self.now c.args.line.now c.in-Some-Listing.field-0 Listing c.args.self.now c.listing.result (ap worded c.in-Some-Listing.field-0-is) (c.in-Some-Listing.ensures {u = tt}) (c.listing.ensures.reply o.program.now o.coverage.now rs)

pub returns-in-Some-Up-clause-reply : goal.returns-in-Some-Up-clause-reply
returns-in-Some-Up-clause-reply g c = λ rs is all.
    let o = c.args.opened.now in
    line_told o.program.now o.coverage.now rs c.args.self.now c.args.line.now c.in-Some-Up.field-0 Up c.go_up.new.self c.go_up.result (ap worded c.in-Some-Up.field-0-is) (c.in-Some-Up.ensures {u = tt}) (c.go_up.ensures.reply o.program.now o.coverage.now rs all)

pub returns-in-Some-Down-clause-reply : goal.returns-in-Some-Down-clause-reply
returns-in-Some-Down-clause-reply g c = λ rs is all.
    let o = c.args.opened.now in
    line_told o.program.now o.coverage.now rs c.args.self.now c.args.line.now c.in-Some-Down.field-0 Down c.go_down.new.self c.go_down.result (ap worded c.in-Some-Down.field-0-is) (c.in-Some-Down.ensures {u = tt}) (c.go_down.ensures.reply o.program.now o.coverage.now rs all)

pub returns-in-Some-Go-clause-reply : goal.returns-in-Some-Go-clause-reply
returns-in-Some-Go-clause-reply g c = λ rs is all.
    let o = c.args.opened.now in
    let counted = all_told o (g.V.EventView.tells o.view) c.requires.opened rs is ∙ sym c.count.ensures.count in
    line_told o.program.now o.coverage.now rs c.args.self.now c.args.line.now c.in-Some-Go.field-0 (Go c.in-Some-Go.word.now) c.go_to.new.self c.go_to.result (ap worded c.in-Some-Go.field-0-is) (c.in-Some-Go.ensures {u = tt}) (c.go_to.ensures.reply o.program.now o.coverage.now rs counted)

pub returns-in-Some-Sources-clause-reply : goal.returns-in-Some-Sources-clause-reply
returns-in-Some-Sources-clause-reply g c = λ rs is all.
    let o = c.args.opened.now in
    line_told_or_not o.program.now o.coverage.now rs c.args.self.now c.args.line.now c.in-Some-Sources.field-0 Sources c.args.self.now c.sources.result (ap worded c.in-Some-Sources.field-0-is) (c.in-Some-Sources.ensures {u = tt})
    (c.sources.ensures.reply rs is)

pub returns-in_ok-reply_to_whynot-in-Some-WhyNot-clause-reply : goal.returns-in_ok-reply_to_whynot-in-Some-WhyNot-clause-reply
returns-in_ok-reply_to_whynot-in-Some-WhyNot-clause-reply g c = λ rs is all.
    let o = c.args.opened.now in
    line_told o.program.now o.coverage.now rs c.args.self.now c.args.line.now c.in-Some-WhyNot.field-0 (WhyNot c.in-Some-WhyNot.word.now) c.args.self.now c.in_ok-reply_to_whynot-in-Some-WhyNot.field-0 (ap worded c.in-Some-WhyNot.field-0-is) (c.in-Some-WhyNot.ensures {u = tt})
    (c.in_ok-reply_to_whynot-in-Some-WhyNot.ensures.reply rs is c.args.self.now)

pub returns-in_ok-reply_to_whynot-in-Some-WhyNot-clause-reply_within : goal.returns-in_ok-reply_to_whynot-in-Some-WhyNot-clause-reply_within
returns-in_ok-reply_to_whynot-in-Some-WhyNot-clause-reply_within g c = c.in_ok-reply_to_whynot-in-Some-WhyNot.ensures.within (g.V.EventView.tells c.args.opened.now.view).count

pub returns-in-Some-Frames-clause-reply : goal.returns-in-Some-Frames-clause-reply
returns-in-Some-Frames-clause-reply g c = λ rs is all.
    let o = c.args.opened.now in
    line_told_or_not o.program.now o.coverage.now rs c.args.self.now c.args.line.now c.in-Some-Frames.field-0 Frames c.args.self.now c.frames.result (ap worded c.in-Some-Frames.field-0-is) (c.in-Some-Frames.ensures {u = tt})
    (c.frames.ensures.reply rs is)

pub returns-in-Some-Show-clause-reply : goal.returns-in-Some-Show-clause-reply
returns-in-Some-Show-clause-reply g c = λ rs is all.
    let o = c.args.opened.now in
    line_told_or_not o.program.now o.coverage.now rs c.args.self.now c.args.line.now c.in-Some-Show.field-0 (Show c.in-Some-Show.text.now) c.args.self.now c.show.result (ap worded c.in-Some-Show.field-0-is) (c.in-Some-Show.ensures {u = tt})
    (c.show.ensures.reply rs is)

pub returns-in-Some-Undo-clause-reply : goal.returns-in-Some-Undo-clause-reply
returns-in-Some-Undo-clause-reply g c = λ rs is all.
    let o = c.args.opened.now in
    line_told o.program.now o.coverage.now rs c.args.self.now c.args.line.now c.in-Some-Undo.field-0 Undo c.go_back.new.self c.go_back.result (ap worded c.in-Some-Undo.field-0-is) (c.in-Some-Undo.ensures {u = tt}) (c.go_back.ensures.reply o.program.now o.coverage.now rs)

pub returns-in-Some-Quit-clause-reply : goal.returns-in-Some-Quit-clause-reply
returns-in-Some-Quit-clause-reply g c = λ rs is all.
    let o = c.args.opened.now in
    line_over o.program.now o.coverage.now rs c.args.self.now c.args.line.now c.in-Some-Quit.field-0 (ap worded c.in-Some-Quit.field-0-is) (c.in-Some-Quit.ensures {u = tt})

pub returns-in-None-clause-reply : goal.returns-in-None-clause-reply
returns-in-None-clause-reply g c = λ rs is all. line_missed c.args.opened.now.program.now c.args.opened.now.coverage.now rs c.args.self.now c.args.line.now (c.in-None.ensures {u = tt})
