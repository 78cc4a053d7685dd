use Rattle.std.proofs.Common.{◌≡◌, ◌↔◌, ℕ, List, IsTrue, subst}
use Rattle.std.specs.Prelude.{None}
use Rattle.wy_syntax.specs.View.{named_of}
use Rattle.wy_members.specs.Declarations.{denoted}
use Rattle.wy_members.specs.Names.{unit_of}
use Rattle.wy_members.proofs.Leasts.{where_it_holds}
use Rattle.wy_members.proofs.broken.unknown.least_in_name.Goals as goal

pub returns : goal.returns
returns c =
    let unit = unit_of c.args.names.now in
    let exact = subst (λ (name : List ℕ). IsTrue c.is_unknown.result ↔ (denoted unit name ≡ None)) c.as_str.ensures.value c.is_unknown.ensures in
    where_it_holds (denoted unit (named_of c.args.name.now).name ≡ None) c.args.name.now.token c.is_unknown.result _ exact c.token_where.ensures
