use Rattle.std.proofs.Common.{◌≡◌, true}
use Rattle.std.specs.Prelude.{option_map}
use Rattle.wy_syntax.specs.declared.declaration.Modifier.TheVariants as modifier
use Rattle.wy_syntax.specs.View.{block_of, header_of, member_of}
use Rattle.wy_members.specs.Declarations.{has}
use Rattle.wy_members.specs.Within.{WrongBody, WrongBodyIn}
use Rattle.wy_members.proofs.Leasts.{at_form, no_token, where_it_holds}
use Rattle.wy_members.proofs.broken.bodies.least_in_member.Goals as goal

pub returns-in-Method : goal.returns-in-Method
returns-in-Method c =
    let h = header_of c.in-Method.header in
    at_form (λ m. WrongBodyIn c.args.in_interface (member_of m)) _ _ _ c.in-Method.is
    (where_it_holds (WrongBody c.args.in_interface h (option_map block_of c.in-Method.body)) h.name.token c.has_wrong_body.result _ c.has_wrong_body.ensures c.token_where.ensures)

pub returns-in-Constructor : goal.returns-in-Constructor
returns-in-Constructor c =
    let h = header_of c.in-Constructor.header in
    at_form (λ m. WrongBodyIn c.args.in_interface (member_of m)) _ _ _ c.in-Constructor.is
    (where_it_holds (has modifier.Abstract h.modifiers ≡ true) h.name.token c.is_abstract.result _ c.is_abstract.ensures c.token_where-in-Constructor.ensures)

pub returns-in-Fields : goal.returns-in-Fields
returns-in-Fields c = at_form (λ m. WrongBodyIn c.args.in_interface (member_of m)) _ _ _ c.in-Fields.is no_token

pub returns-in-Nothing : goal.returns-in-Nothing
returns-in-Nothing c = at_form (λ m. WrongBodyIn c.args.in_interface (member_of m)) _ _ _ c.in-Nothing.is no_token

pub returns-in-Initializer : goal.returns-in-Initializer
returns-in-Initializer c = at_form (λ m. WrongBodyIn c.args.in_interface (member_of m)) _ _ _ c.in-Initializer.is no_token

pub returns-in-Wrong : goal.returns-in-Wrong
returns-in-Wrong c = at_form (λ m. WrongBodyIn c.args.in_interface (member_of m)) _ _ _ c.in-Wrong.is no_token
