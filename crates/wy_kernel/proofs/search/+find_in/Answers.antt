use Rattle.std.proofs.Common.{arith, ap, sym, ◌∙◌, find, length}
use Rattle.std.specs.List.{flat_map}
use Rattle.wy_kernel.specs.Statements.{has_number, statements}
use Rattle.wy_kernel.specs.Substatements.{to_come}
use Rattle.wy_kernel.specs.View.{statement}
use Rattle.wy_kernel.proofs.Found.{found_here, found_within, found_in_first, others_have}
use Rattle.wy_kernel.proofs.Substatements.{no_more, one_more}
use Rattle.wy_kernel.proofs.search.+find_in.Goals as goal

pub returns-then-s-n : goal.returns-then-s-n
returns-then-s-n t c = found_here c.args.s.now c.args.n c.if-s-n.true

pub loop-inner-init : goal.loop-inner-init
loop-inner-init t c =
    let come = ap (λ s. flat_map statements (to_come s)) c.into_iter-inner-iterator.ensures.into_iter_gives ∙ c.substatements-inner-items.ensures in
    (ap (find (has_number c.args.n)) (sym come), omega (arith, ap length come))

pub find_in-requires : goal.find_in-requires
find_in-requires t c =
    let less = no_more (to_come c.loop-inner.inner-iterator) (to_come c.next.new.self) (statement c.in-Some.inner.now) _ c.in-Some.ensures.steps c.loop-inner.invariant.1 in
    (omega (arith, less.0, one_more c.args.s.now, c.decreases), tt)

pub returns-in-Some-find_in : goal.returns-in-Some-find_in
returns-in-Some-find_in t c = found_within c.args.s.now c.args.n _ c.if-s-n.false
    (found_in_first (has_number c.args.n) _ _ (to_come c.next.new.self) (statement c.in-Some.inner.now) c.in-Some.ensures.steps c.loop-inner.invariant.0 c.find_in.result c.in-Some-find_in.found c.in-Some-find_in.is c.find_in.ensures)

pub loop-inner-preserved : goal.loop-inner-preserved
loop-inner-preserved t c =
    let first = c.in-Some.ensures.steps in (
      others_have (has_number c.args.n) _ _ (to_come c.next.new.self) (statement c.in-Some.inner.now) first c.loop-inner.invariant.0 c.find_in.result c.in_default.is c.find_in.ensures,
      (no_more (to_come c.loop-inner.inner-iterator) (to_come c.next.new.self) (statement c.in-Some.inner.now) _ first c.loop-inner.invariant.1).1,
    )

pub returns : goal.returns
returns t c = found_within c.args.s.now c.args.n _ c.if-s-n.false (sym (c.loop-inner.invariant.0 ∙ ap (λ l. find (has_number c.args.n) (flat_map statements l)) c.in-None.ensures.steps.0))
