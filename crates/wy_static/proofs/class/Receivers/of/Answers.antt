use Rattle.std.proofs.Common.{ℕ, ◌↔◌, List, Contains, sym, subst}
use Rattle.wy_static.specs.Links.{IsAtOrBelow, MayReceive}
use Rattle.wy_static.proofs.Receiving.{below_object, below_another}
use Rattle.wy_static.proofs.class.Receivers.of.Goals as goal

pub returns-then-class-eq-OBJECT : goal.returns-then-class-eq-OBJECT
returns-then-class-eq-OBJECT c = λ p r.
    subst (λ (xs : List ℕ). (k : ℕ) → Contains xs k ↔ (MayReceive p k × IsAtOrBelow p k c.args.class)) (sym c.deref.ensures.value) (below_object p c.args.class c.args.self.now.all.items c.if-class-eq-OBJECT.true r.all)

pub returns-else-class-eq-OBJECT : goal.returns-else-class-eq-OBJECT
returns-else-class-eq-OBJECT c = λ p r.
    subst (λ (xs : List ℕ). (k : ℕ) → Contains xs k ↔ (MayReceive p k × IsAtOrBelow p k c.args.class)) (sym c.numbers_under.ensures) (below_another p c.args.class _ c.if-class-eq-OBJECT.false (λ k. r.below k c.args.class))
