use Rattle.std.proofs.Common.{◌≡◌, ℕ, List, nat_eq, false, ap, sym, ◌∙◌}
use Rattle.std.specs.List.{list_any}
use Rattle.wy_kernel.proofs.Taking.{takes_new}
use Rattle.wy_kernel.proofs.closure.take.Goals as goal

pub returns-in_ok-push : goal.returns-in_ok-push
returns-in_ok-push c =
    let fresh : list_any (λ y. nat_eq y c.args.other) c.args.row.now.items ≡ false =
    ap (λ (xs : List ℕ). list_any (λ y. nat_eq y c.args.other) xs) (sym c.deref.ensures.value) ∙ sym c.contains.ensures.value ∙ c.if-not-contains.true in
    takes_new _ _ _ fresh c.in_ok-push.ensures.items
