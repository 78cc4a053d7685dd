use Rattle.std.proofs.Common.{eq-eqb}
use Rattle.wy_overloads.specs.LineageView.{lineage_of}
use Rattle.wy_overloads.proofs.Straight.{straight}
use Rattle.wy_overloads.proofs.Related as related
use Rattle.wy_overloads.proofs.subtyping.is_base_below.Goals as goal

pub returns-then-d-eq-OBJECT : goal.returns-then-d-eq-OBJECT
returns-then-d-eq-OBJECT c =
    related.at_bases (lineage_of c.args.lineage.now).classes _ c.args.brackets _ _ _ _ c.in-Class-Class.is-0 c.in-Class-Class.is-1
    (related.both _ (eq-eqb c.in-Class-Class.d 0 c.if-d-eq-OBJECT.true) (related.below_object _ _ _ _ c.if-d-eq-OBJECT.true))

pub returns-else-d-eq-OBJECT : goal.returns-else-d-eq-OBJECT
returns-else-d-eq-OBJECT c =
    related.at_bases (lineage_of c.args.lineage.now).classes _ c.args.brackets _ _ _ _ c.in-Class-Class.is-0 c.in-Class-Class.is-1
    (related.classes_exact _ _ _ _ _ (related.top_in c.args.lineage.now) c.if-d-eq-OBJECT.false c.is_supertype.ensures)

pub returns-in-Class-Primitive : goal.returns-in-Class-Primitive
returns-in-Class-Primitive c =
    related.at_bases (lineage_of c.args.lineage.now).classes _ c.args.brackets _ _ _ _ c.in-Class-Primitive.is-0 c.in-Class-Primitive.is-1
    (related.not_below (λ b. related.class_below_primitive _ (straight _ (related.top_in c.args.lineage.now) b)))

pub returns-in-Primitive-Class : goal.returns-in-Primitive-Class
returns-in-Primitive-Class c =
    related.at_bases (lineage_of c.args.lineage.now).classes _ c.args.brackets _ _ _ _ c.in-Primitive-Class.is-0 c.in-Primitive-Class.is-1
    (related.not_below (λ b. related.primitive_below_class _ (straight _ (related.top_in c.args.lineage.now) b)))

pub returns-then-brackets-eq0 : goal.returns-then-brackets-eq0
returns-then-brackets-eq0 c =
    related.at_no_brackets (lineage_of c.args.lineage.now).classes _ c.args.brackets _ _ _ _ c.in-Primitive-Primitive.is-0 c.in-Primitive-Primitive.is-1 c.if-brackets-eq0.true
    (related.widens_exact _ _ _ _ (related.top_in c.args.lineage.now) c.widens.ensures)

pub returns-else-brackets-eq0 : goal.returns-else-brackets-eq0
returns-else-brackets-eq0 c =
    related.at_bases (lineage_of c.args.lineage.now).classes _ c.args.brackets _ _ _ _ c.in-Primitive-Primitive.is-0 c.in-Primitive-Primitive.is-1
    (related.primitives_exact _ _ _ _ _ (related.top_in c.args.lineage.now) c.if-brackets-eq0.false c.is_same.ensures)
