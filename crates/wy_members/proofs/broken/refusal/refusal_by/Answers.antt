use Rattle.std.proofs.Common.{ℕ, true, false, List, sym, subst}
use Rattle.wy_overloads.specs.LineageView.{lineage_of}
use Rattle.wy_members.specs.Alike.{ListsFound}
use Rattle.wy_members.specs.Within.{AreCyclic}
use Rattle.wy_members.proofs.broken.refusal.refusal_by.Goals as goal

pub invariant_of-judged : goal.invariant_of-judged
invariant_of-judged c =
    let classes = (lineage_of c.args.lineage.now).classes in
    record { exact = ∣ subst (λ (xs : List ℕ). AreCyclic classes xs) (sym c.as_slice.ensures.value) c.in_ok-cyclic.ensures ∣₁ }

pub invariant_of-compared : goal.invariant_of-compared
invariant_of-compared c =
    let t = lineage_of c.args.inherited.now in
    record {
      lists_shared = ∣ subst (λ (xs : List ℕ). ListsFound t false xs) (sym c.as_slice-2.ensures.value) c.in_ok-shared.ensures ∣₁;
      lists_unfinished = ∣ subst (λ (xs : List ℕ). ListsFound t true xs) (sym c.as_slice-3.ensures.value) c.in_ok-unfinished.ensures ∣₁;
    }
