use Rattle.std.proofs.Common.{arith, ap, ◌∙◌, ◌++◌, Bor, List, length}
use Rattle.wy_kernel.specs.declared.form.Stmt.{Stmt}
use Rattle.std.specs.List.{flat_map}
use Rattle.wy_kernel.specs.Statements.{statements}
use Rattle.wy_kernel.specs.Substatements.{statements_seen, to_come}
use Rattle.wy_kernel.specs.View.{statement}
use Rattle.wy_kernel.proofs.Substatements.{no_more, one_more, own_found, first_found, all_found}
use Rattle.wy_kernel.proofs.statements.+put_statement.Goals as goal

pub loop-inner-init : goal.loop-inner-init
loop-inner-init t c =
    let come = ap (λ s. flat_map statements (to_come s)) c.into_iter-inner-iterator.ensures.into_iter_gives ∙ c.substatements-inner-items.ensures in
    let left = flat_map statements (to_come c.into_iter-inner-iterator.result) in (
      ap (λ (l : List (Bor Stmt)). statements_seen l ++ left) c.in_ok-push.ensures.items ∙ own_found c.args.out.now.items _ left come,
      omega (arith, ap length come),
    )

pub put_statement-requires : goal.put_statement-requires
put_statement-requires t c =
    let less = no_more (to_come c.loop-inner.inner-iterator) (to_come c.next.new.self) (statement c.in-Some.inner.now) _ c.in-Some.ensures.steps c.loop-inner.invariant.1 in
    (omega (arith, less.0, one_more c.args.s.now, c.decreases), tt)

pub loop-inner-preserved : goal.loop-inner-preserved
loop-inner-preserved t c =
    let left = to_come c.loop-inner.inner-iterator in
    let rest = to_come c.next.new.self in
    let s = statement c.in-Some.inner.now in
    let first = c.in-Some.ensures.steps in (
      first_found (statements_seen c.loop-inner.out.items) _ _ left rest s first c.in_ok-put_statement.ensures c.loop-inner.invariant.0,
      (no_more left rest s _ first c.loop-inner.invariant.1).1,
    )

pub returns : goal.returns
returns t c = all_found _ _ (to_come c.loop-inner.inner-iterator) c.in-None.ensures.steps.0 c.loop-inner.invariant.0
