use Rattle.std.proofs.Common.{◌∙◌, ◌++◌, sym, ap}
use Rattle.wy_members.specs.Broken.{known_part}
use Rattle.wy_members.specs.Declarations.{class_by_class, methods_of}
use Rattle.wy_members.specs.Names.{unit_of}
use Rattle.wy_members.proofs.KnownParts.{known_methods_are}
use Rattle.wy_members.proofs.broken.known.known_methods.Goals as goal

pub returns-then-len-clause-value : goal.returns-then-len-clause-value
returns-then-len-clause-value c =
    let unit = unit_of c.args.names.now in
    c.in_ok-add_known_methods.ensures ∙ ap (λ rows. rows ++ class_by_class (methods_of unit) (known_part unit)) c.in_ok-methods.ensures ∙ sym (known_methods_are unit)
