-- The records that were looked at are the index's.
use Rattle.std.proofs.Common.{◌≡◌, ◌++◌, ◌∷◌, [], length, sym, ◌∙◌, subst, Some, length-append, arith}
use Rattle.std.specs.Prelude.{IfSome, slice_get}
use Rattle.wy_view.proofs.Views.{keeps_on, more_reads, one_read}
use Rattle.wy_index.proofs.Building.{told_more, all_told}
use Rattle.wy_index.proofs.index.Index.build.Goals as goal

pub loop-n-preserved : goal.loop-n-preserved
loop-n-preserved g c =
    let told = g.V.EventView.tells in
    let v = c.loop-n.invariant in
    let rs = v.found.0 in
    let next = c.in_ok-look.ensures.found rs v.found.1 v.found.2 in
    let first = told c.args.view.now in
    let before = told c.loop-n.view in
    let after = told c.look.new.view in
    record {
      found = (
        rs ++ next.0 ∷ [],
        next.1,
        omega (arith, length-append rs (next.0 ∷ []), v.found.2),
        told_more first.records rs next.0 c.loop-n.n v.found.3 (subst (λ o. IfSome o (λ t. slice_get t c.loop-n.n ≡ Some next.0)) v.keeps.records next.2),
      );
      within = omega (arith, c.count-n-end.ensures.count);
      keeps = keeps_on first before after v.keeps c.look.ensures.keeps;
      faults = c.in_ok-look.ensures.answers ∙ v.faults;
      reads = more_reads c.loop-n.n 1 first.reads before.reads after.reads v.reads (one_read before.reads after.reads c.look.ensures.reads);
      forward = omega (arith, v.forward, c.look.ensures.step);
      steps = omega (arith, v.steps, c.look.ensures.step);
    }

pub of_findings-requires : goal.of_findings-requires
of_findings-requires g c =
    let v = c.loop-n.invariant in
    record { records = v.found.0; has_found = v.found.1; few = omega (arith, v.found.2) }

pub returns-clause-index : goal.returns-clause-index
returns-clause-index g c =
    let told = g.V.EventView.tells in
    let v = c.loop-n.invariant in
    let rs = v.found.0 in
    let first = told c.args.view.now in
    let all : c.loop-n.n ≡ first.count = omega (arith, v.within, c.count-n-end.ensures.count) in
    record {
      records = rs;
      is_index = c.in_ok-of_findings.ensures.index rs v.found.1 (omega (arith, v.found.2));
      all = v.found.2 ∙ all ∙ sym v.keeps.count;
      as_told = subst (λ o. IfSome o (λ t. t ≡ rs)) (sym v.keeps.records) (all_told first.records rs c.loop-n.n v.found.3 (subst (λ k. IfSome first.records (λ t. length t ≡ k)) (sym all) c.count-n-end.ensures.told));
    }
