use Rattle.std.proofs.Common.{List, map, subst}
use Rattle.wy_syntax.specs.declared.name.Named.{Named}
use Rattle.wy_syntax.specs.declared.declaration.Parameter.{Parameter}
use Rattle.wy_syntax.specs.Syntax as plain
use Rattle.wy_syntax.specs.View.{header_of, named_of, parameter_of}
use Rattle.wy_members.specs.Least.{Among, IsLeast}
use Rattle.wy_members.specs.Names.{unit_of}
use Rattle.wy_members.specs.Within.{UnknownNames, UnknownType}
use Rattle.wy_members.proofs.Leasts.{either}
use Rattle.wy_members.proofs.broken.unknown.least_in_header.Goals as goal

pub returns : goal.returns
returns c =
    let unit = unit_of c.args.names.now in
    let h = header_of c.args.header.now in
    either (Among h.params (λ i (p : plain.Parameter). UnknownType unit p.ty)) (UnknownNames unit h.throws) _ _ _
    (subst (λ (ps : List Parameter). IsLeast (Among (map parameter_of ps) (λ i p. UnknownType unit p.ty)) c.least_in_parameters-params.result) c.deref.ensures.value c.least_in_parameters-params.ensures)
    (subst (λ (ns : List Named). IsLeast (UnknownNames unit (map named_of ns)) c.least_in_names-throws.result) c.deref-2.ensures.value c.least_in_names-throws.ensures)
    c.lesser.ensures
