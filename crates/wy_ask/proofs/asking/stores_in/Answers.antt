use Rattle.std.proofs.Common.{◌≡◌, ◌&&◌, ◌++◌, ◌∷◌, [], length, sym, ◌∙◌, subst, Some, length-append, arith}
use Rattle.std.specs.Prelude.{IfSome, slice_get}
use Rattle.std.proofs.lemmas.List.Elements.{filter-append}
use Rattle.wy_view.proofs.Views.{keeps_on}
use Rattle.wy_index.proofs.Building.{told_more, all_told}
use Rattle.wy_ask.specs.Held.{HasStored, HoldsBelow}
use Rattle.wy_ask.specs.Listing.{field_sets, is_field, is_set}
use Rattle.wy_ask.proofs.asking.stores_in.Goals as goal

pub loop-n-preserved : goal.loop-n-preserved
loop-n-preserved g c =
    let told = g.V.EventView.tells in
    let v = c.loop-n.invariant in
    let rs = v.stored.0 in
    let next = c.in_ok-look.ensures.stored (field_sets rs) v.stored.1 in
    let first = told c.args.view.now in
    let before = told c.loop-n.view in
    let after = told c.look.new.view in
    record {
      stored = (
        rs ++ next.0 ∷ [],
        subst (HasStored c.look.new.stores) (sym (filter-append (λ r. is_set r.kind && is_field r.slot) rs (next.0 ∷ []))) next.1,
        omega (arith, length-append rs (next.0 ∷ []), v.stored.2),
        told_more first.records rs next.0 c.loop-n.n v.stored.3 (subst (λ o. IfSome o (λ t. slice_get t c.loop-n.n ≡ Some next.0)) v.keeps.records next.2),
      );
      below = subst (λ k. HoldsBelow k c.look.new.stores) v.keeps.count (c.in_ok-look.ensures.below (subst (λ k. HoldsBelow k c.loop-n.stores) (sym v.keeps.count) v.below));
      within = omega (arith, c.count-n-end.ensures.count);
      keeps = keeps_on first before after v.keeps c.look.ensures.keeps;
      faults = c.in_ok-look.ensures.answers ∙ v.faults;
      steps = omega (arith, v.steps, c.look.ensures.step);
    }

pub returns-clause-stored : goal.returns-clause-stored
returns-clause-stored g c = λ rs is.
    let v = c.loop-n.invariant in
    let seen = v.stored.0 in
    let first = g.V.EventView.tells c.args.view.now in
    let all : c.loop-n.n ≡ first.count = omega (arith, v.within, c.count-n-end.ensures.count) in
    let told = all_told first.records seen c.loop-n.n v.stored.3 (subst (λ k. IfSome first.records (λ t. length t ≡ k)) (sym all) c.count-n-end.ensures.told) in
    subst (λ l. HasStored c.loop-n.stores (field_sets l)) (sym (subst (λ o. IfSome o (λ t. t ≡ seen)) is told)) v.stored.1
