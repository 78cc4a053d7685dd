use Rattle.wy_explore.proofs.Within.{frames_within}
use Rattle.wy_explore.proofs.Arms.{frames_missed, frames_told}
use Rattle.wy_explore.proofs.explorer.Explorer.frames.Goals as goal

pub returns-in_default-clause-reply : goal.returns-in_default-clause-reply
returns-in_default-clause-reply g c = λ rs is. frames_missed c.args.opened.now.program.now c.args.opened.now.coverage.now rs c.args.self.now c.in_default.is

pub returns-clause-reply : goal.returns-clause-reply
returns-clause-reply g c = λ rs is.
    let o = c.args.opened.now in
    frames_told o.program.now o.coverage.now rs c.args.self.now c.in-Some.event c.in_ok-state.state c.in-Some.is (c.in_ok-state.ensures.frames rs is)

pub returns-clause-within : goal.returns-clause-within
returns-clause-within g c =
    frames_within (g.V.EventView.tells c.args.opened.now.view).count c.in-Some.event c.args.self.now.cursor c.requires.within.cursor c.in-Some.is c.in_ok-state.state.frames.items c.in_ok-state.ensures.below
