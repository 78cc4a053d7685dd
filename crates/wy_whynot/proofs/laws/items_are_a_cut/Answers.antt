use Rattle.wy_whynot.proofs.Begun.{never_executed, start_executed}
use Rattle.wy_whynot.proofs.Chaining.{cut}
use Rattle.wy_whynot.proofs.laws.items_are_a_cut.Goals as goal

pub returns : goal.returns
returns c = λ p rs covers n items never are chain leads.
    let h = cut p rs covers n (never_executed rs covers n never) (start_executed rs covers) chain leads in
    (h.0, h.1, (are.blocked.exact h.0).1 h.2)
