use Rattle.std.proofs.Common.{Bor, map}
use Rattle.wy_syntax.specs.declared.declaration.ClassSyntax.{ClassSyntax}
use Rattle.wy_syntax.specs.View.{class_of as class_syntax}
use Rattle.wy_members.specs.Least.{Among, Either}
use Rattle.wy_overloads.specs.LineageView.{lineage_of}
use Rattle.wy_members.specs.Names.{unit_of}
use Rattle.wy_members.specs.Within.{WrongAboveAt, OverridesAt, InheritsAt}
use Rattle.wy_members.proofs.Leasts.{either}
use Rattle.wy_members.proofs.broken.judging.least_bad_override.Goals as goal

pub returns : goal.returns
returns c =
    let classes = (lineage_of c.args.judged.now.lineage.now).classes in
    let below = lineage_of c.args.compared.now.lineage.now in
    let Supertypes = Among (map (λ (k : Bor ClassSyntax). class_syntax k.now) c.args.classes.now) (WrongAboveAt (unit_of c.args.names.now) classes) in
    let Overriding = Among below.methods (OverridesAt classes below) in
    let Inheriting = Among below.classes (InheritsAt classes below) in
    either Supertypes (Either Overriding Inheriting) _ _ _ c.least_in_classes-supertypes.ensures (either Overriding Inheriting _ _ _ c.least_overriding-overriding.ensures c.least_inheriting-inheriting.ensures c.lesser.ensures) c.lesser-2.ensures
