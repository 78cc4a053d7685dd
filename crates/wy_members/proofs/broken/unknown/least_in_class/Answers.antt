use Rattle.std.proofs.Common.{ℕ, List, map, subst}
use Rattle.wy_syntax.specs.declared.name.Named.{Named}
use Rattle.wy_syntax.specs.declared.declaration.Member.{Member}
use Rattle.wy_syntax.specs.View.{class_of, named_of, member_of}
use Rattle.wy_members.specs.Least.{Among, Either, IsLeast}
use Rattle.wy_members.specs.Names.{unit_of}
use Rattle.wy_members.specs.Within.{UnknownAbove, UnknownNames, UnknownInMember}
use Rattle.wy_members.proofs.Leasts.{either}
use Rattle.wy_members.proofs.broken.unknown.least_in_class.Goals as goal

pub returns : goal.returns
returns c =
    let unit = unit_of c.args.names.now in
    let k = class_of c.args.class.now in
    let Members = Among k.members (λ i m. UnknownInMember unit k.name.name m) in
    either (UnknownAbove unit k.above) (Either (UnknownNames unit k.interfaces) Members) _ _ _ c.least_above-above.ensures
    (either (UnknownNames unit k.interfaces) Members _ _ _
    (subst (λ (ns : List Named). IsLeast (UnknownNames unit (map named_of ns)) c.least_in_names-interfaces.result) c.deref.ensures.value c.least_in_names-interfaces.ensures)
    (subst (λ (name : List ℕ). IsLeast (Among k.members (λ i m. UnknownInMember unit name m)) c.least_in_members-members.result) c.as_str.ensures.value
    (subst (λ (ms : List Member). IsLeast (Among (map member_of ms) (λ i m. UnknownInMember unit c.as_str.result.now m)) c.least_in_members-members.result) c.deref-2.ensures.value c.least_in_members-members.ensures))
    c.lesser.ensures)
    c.lesser-2.ensures
