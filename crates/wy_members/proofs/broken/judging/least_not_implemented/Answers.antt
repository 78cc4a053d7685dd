use Rattle.std.proofs.Common.{Bor, map}
use Rattle.wy_syntax.specs.declared.declaration.ClassSyntax.{ClassSyntax}
use Rattle.wy_syntax.specs.View.{class_of as class_syntax}
use Rattle.wy_members.specs.Least.{Among, Either}
use Rattle.wy_overloads.specs.LineageView.{lineage_of}
use Rattle.wy_members.specs.Within.{DeclaresAt, LeavesAt, WrongBodyAt}
use Rattle.wy_members.proofs.Leasts.{either}
use Rattle.wy_members.proofs.broken.judging.least_not_implemented.Goals as goal

pub returns : goal.returns
returns c =
    let judged = lineage_of c.args.judged.now.lineage.now in
    let below = lineage_of c.args.compared.now.lineage.now in
    let Declared = Among judged.methods (DeclaresAt judged.classes) in
    let Left = Among below.classes (LeavesAt judged.classes below) in
    let Bodies = Among (map (λ (k : Bor ClassSyntax). class_syntax k.now) c.args.classes.now) (WrongBodyAt judged.classes) in
    either Declared (Either Left Bodies) _ _ _ c.least_declared_abstract-declared.ensures (either Left Bodies _ _ _ c.least_left_abstract-left_in.ensures c.least_in_classes-bodies.ensures c.lesser.ensures) c.lesser-2.ensures
