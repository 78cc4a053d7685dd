use Rattle.std.proofs.Common.{◌≡◌, ◌↔◌, ℕ, List, IsTrue, subst}
use Rattle.std.specs.Prelude.{None, string_bytes}
use Rattle.wy_syntax.specs.View.{base_seen}
use Rattle.wy_members.specs.Declarations.{denoted}
use Rattle.wy_members.specs.Names.{unit_of}
use Rattle.wy_members.specs.Within.{UnknownBase}
use Rattle.wy_members.proofs.Leasts.{at_form, no_token, where_it_holds}
use Rattle.wy_members.proofs.broken.unknown.least_in_type.Goals as goal

pub returns-in-Class : goal.returns-in-Class
returns-in-Class c =
    let unit = unit_of c.args.names.now in
    let exact = subst (λ (name : List ℕ). IsTrue c.is_unknown.result ↔ (denoted unit name ≡ None)) c.as_str.ensures.value c.is_unknown.ensures in
    at_form (λ base. UnknownBase unit (base_seen base) c.args.ty.now.token) _ _ _ c.in-Class.is
    (where_it_holds (denoted unit (string_bytes c.in-Class.name) ≡ None) c.args.ty.now.token c.is_unknown.result _ exact c.token_where.ensures)

pub returns-in-Primitive : goal.returns-in-Primitive
returns-in-Primitive c = at_form (λ base. UnknownBase (unit_of c.args.names.now) (base_seen base) c.args.ty.now.token) _ _ _ c.in-Primitive.is no_token
