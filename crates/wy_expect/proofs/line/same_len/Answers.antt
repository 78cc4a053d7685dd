use Rattle.std.proofs.Common.{◌≡◌, ◌∙◌, ℕ, List, [], ◌∷◌, ap, arith, drop, refl}
use Rattle.std.proofs.lemmas.List.{drop_all}
use Rattle.wy_expect.specs.Beside.{same_len}
use Rattle.wy_expect.proofs.line.same_len.Goals as goal

ended : (text : List ℕ) → same_len text [] ≡ 0
ended [] = refl
ended (b ∷ text) = refl

pub returns-else-n-found-clause-same : goal.returns-else-n-found-clause-same
returns-else-n-found-clause-same c =
    let rest = drop c.loop-n.n c.args.expected.now in
    let none = ap (same_len rest) (drop_all c.loop-n.n c.args.found.now c.if-n-found.false) ∙ ended rest in
    omega (arith, c.loop-n.invariant.2, none)
