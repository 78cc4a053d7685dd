use Rattle.std.proofs.Common.{◌≡◌}
use Rattle.wy_syntax.specs.View.{member_of, outcome_of, header_of}
use Rattle.wy_members.specs.Least.{Here}
use Rattle.wy_members.specs.Names.{unit_of}
use Rattle.wy_members.specs.Within.{UnknownInMember, UnknownInHeader, UnknownResult}
use Rattle.wy_members.proofs.Leasts.{at_form, no_token, either, where_it_fails}
use Rattle.wy_members.proofs.broken.unknown.least_in_member.Goals as goal

pub returns-in-Fields : goal.returns-in-Fields
returns-in-Fields c = at_form (λ m. UnknownInMember (unit_of c.args.names.now) c.args.class.now (member_of m)) _ _ _ c.in-Fields.is c.least_in_type.ensures

pub returns-in-Method : goal.returns-in-Method
returns-in-Method c =
    let unit = unit_of c.args.names.now in
    at_form (λ m. UnknownInMember unit c.args.class.now (member_of m)) _ _ _ c.in-Method.is
    (either (UnknownResult unit (outcome_of c.in-Method.result)) (UnknownInHeader unit (header_of c.in-Method.header)) _ _ _ c.least_in_result.ensures c.least_in_header.ensures c.lesser.ensures)

pub returns-in-Constructor : goal.returns-in-Constructor
returns-in-Constructor c =
    let unit = unit_of c.args.names.now in
    let h = header_of c.in-Constructor.header in
    at_form (λ m. UnknownInMember unit c.args.class.now (member_of m)) _ _ _ c.in-Constructor.is
    (either (UnknownInHeader unit h) (Here (h.name.name ≡ c.args.class.now → ⊥) h.name.token) _ _ _ c.least_in_header-in-Constructor.ensures (where_it_fails (h.name.name ≡ c.args.class.now) h.name.token c.is_name.result _ c.is_name.ensures c.token_where-name.ensures) c.lesser-in-Constructor.ensures)

pub returns-in-Nothing : goal.returns-in-Nothing
returns-in-Nothing c = at_form (λ m. UnknownInMember (unit_of c.args.names.now) c.args.class.now (member_of m)) _ _ _ c.in-Nothing.is no_token

pub returns-in-Initializer : goal.returns-in-Initializer
returns-in-Initializer c = at_form (λ m. UnknownInMember (unit_of c.args.names.now) c.args.class.now (member_of m)) _ _ _ c.in-Initializer.is no_token

pub returns-in-Wrong : goal.returns-in-Wrong
returns-in-Wrong c = at_form (λ m. UnknownInMember (unit_of c.args.names.now) c.args.class.now (member_of m)) _ _ _ c.in-Wrong.is no_token
