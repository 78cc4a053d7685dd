use Rattle.std.proofs.Common.{◌∙◌, sym, ap, map}
use Rattle.wy_syntax.specs.View.{member_of, outcome_of, parameter_of}
use Rattle.wy_members.specs.Broken.{is_known}
use Rattle.wy_members.specs.Names.{unit_of}
use Rattle.wy_members.proofs.KnownMembers.{are_known_parameters, of_parameters, with_known_result}
use Rattle.wy_members.proofs.broken.known.is_known.Goals as goal

pub returns-then-is_known_result : goal.returns-then-is_known_result
returns-then-is_known_result c =
    let unit = unit_of c.args.names.now in
    c.are_known.ensures
    ∙ ap (λ ps. are_known_parameters unit (map parameter_of ps)) c.as_slice.ensures.value
    ∙ with_known_result unit (outcome_of c.in-Method.result) (map parameter_of c.in-Method.header.params.items) (sym c.is_known_result.ensures ∙ c.if-is_known_result.true)
    ∙ sym (ap (λ m. is_known unit (member_of m)) c.in-Method.is)

pub returns-in-Constructor : goal.returns-in-Constructor
returns-in-Constructor c =
    let unit = unit_of c.args.names.now in
    c.are_known-in-Constructor.ensures
    ∙ ap (λ ps. are_known_parameters unit (map parameter_of ps)) c.as_slice-in-Constructor.ensures.value
    ∙ sym (of_parameters unit (map parameter_of c.in-Constructor.header.params.items))
    ∙ sym (ap (λ m. is_known unit (member_of m)) c.in-Constructor.is)
