use Rattle.wy_scope.proofs.Blocking.{cut}
use Rattle.wy_scope.proofs.laws.items_are_a_cut.Goals as goal

pub returns : goal.returns
returns c = λ p rs call n items is missed are chain leads.
    let h = cut p rs call n is missed chain leads in
    (h.0, h.1, (are.blocked.exact h.0).1 h.2)
