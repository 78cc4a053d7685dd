use Rattle.std.proofs.Common.{ℕ, List, sym, ap, ◌∙◌, subst, option_copied}
use Rattle.wy_static.specs.Receivers.{AreTargetsOf}
use Rattle.wy_static.proofs.class.Targets.of.Goals as goal

pub returns : goal.returns
returns c = λ p all.
    let ns = c.unwrap.result.now in
    let found = sym c.get.ensures.value ∙ ap option_copied c.unwrap.ensures in
    subst (λ (xs : List ℕ). AreTargetsOf p c.args.method c.args.class xs) (sym c.as_slice.ensures.value) (all.found c.args.method c.args.class ns found)
