use Rattle.std.proofs.Common.{◌≡◌, ◌↔◌, ℕ, List, Some, IsTrue, map, slice_get, subst, inr}
use Rattle.wy_syntax.specs.declared.name.Named as memory
use Rattle.wy_syntax.specs.Syntax.{Named}
use Rattle.wy_syntax.specs.View.{named_of}
use Rattle.wy_overloads.specs.LineageView.{lineage_of}
use Rattle.wy_members.specs.Names.{unit_of}
use Rattle.wy_members.specs.Within.{NamesClass}
use Rattle.wy_overloads.proofs.Related.{both, or_second, untrue}
use Rattle.wy_members.proofs.broken.supertypes.has_wrong_above.Goals as goal

pub returns-then-names_class : goal.returns-then-names_class
returns-then-names_class c =
    let Some_class : List memory.Named → Type 0 = λ written. (i : ℕ) × (name : Named) × (slice_get (map named_of written) i ≡ Some name) × NamesClass (unit_of c.args.names.now) (lineage_of c.args.lineage.now).classes name in
    both _ c.if-names_class.true (inr (subst Some_class c.deref.ensures.value (c.names_class.ensures.0 c.if-names_class.true)))

pub returns-else-names_class : goal.returns-else-names_class
returns-else-names_class c =
    let Some_class : List memory.Named → Type 0 = λ written. (i : ℕ) × (name : Named) × (slice_get (map named_of written) i ≡ Some name) × NamesClass (unit_of c.args.names.now) (lineage_of c.args.lineage.now).classes name in
    let exact = subst (λ (ws : List memory.Named). IsTrue c.names_class.result ↔ Some_class ws) c.deref.ensures.value c.names_class.ensures in
    or_second _ (λ some. untrue _ c.if-names_class.false (exact.1 some)) c.extends_wrongly.ensures
