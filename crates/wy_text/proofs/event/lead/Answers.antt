use Rattle.std.proofs.Common.{arith}
use Rattle.wy_text.proofs.Leading.{taken_away}
use Rattle.wy_text.proofs.event.lead.Goals as goal

pub returns-then-saturating_sub-before : goal.returns-then-saturating_sub-before
returns-then-saturating_sub-before c = λ front text long all.
    taken_away c.args.end c.args.out.now.items c.truncate.new.self.items c.args.before.now front text c.truncate.ensures.items
    (omega (arith, c.saturating_sub.ensures, c.len.ensures, c.if-saturating_sub-before.true)) long all
