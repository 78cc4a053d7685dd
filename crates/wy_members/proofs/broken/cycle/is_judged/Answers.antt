use Rattle.std.proofs.Common.{get_or, below_more, refl}
use Rattle.std.specs.List.{Contains}
use Rattle.std.proofs.Math.Logic.{∥∥₁_elim}
use Rattle.std.proofs.Props.{props}
use Rattle.std.proofs.lemmas.List.Elements.{Contains-get_or}
use Rattle.wy_kernel.specs.Subtyping.{Supertype}
use Rattle.wy_members.specs.Broken.{IsAboveItself}
use Rattle.wy_overloads.specs.LineageView.{lineage_of}
use Rattle.wy_members.proofs.Cycles.{of_contained}
use Rattle.wy_overloads.proofs.Related.{both, not_below, untrue}
use Rattle.wy_members.proofs.broken.cycle.is_judged.Goals as goal

pub returns-then-is_supertype : goal.returns-then-is_supertype
returns-then-is_supertype c =
    let j = c.args.judged.now in
    let d = get_or j.cyclic.now c.loop-d.d-index 0 in
    not_below (λ judged. ∥∥₁_elim j.exact (hlevel props) (λ exact. judged d (c.is_supertype.ensures.0 c.if-is_supertype.true) ((exact d).0 (Contains-get_or j.cyclic.now c.loop-d.d-index 0 c.loop-d-test.true))))

pub loop-d-preserved : goal.loop-d-preserved
loop-d-preserved c = below_more _ _ c.loop-d.invariant (λ s. untrue _ c.if-is_supertype.false (c.is_supertype.ensures.1 s))

pub returns : goal.returns
returns c =
    let j = c.args.judged.now in
    let classes = (lineage_of j.lineage.now).classes in
    both _ refl (λ d s a. ∥∥₁_elim j.exact (hlevel props) (λ exact. of_contained (λ n. Supertype classes c.args.c n → ⊥) j.cyclic.now c.loop-d.d-index c.loop-d-test.false c.loop-d.invariant d ((exact d).1 a) s))
