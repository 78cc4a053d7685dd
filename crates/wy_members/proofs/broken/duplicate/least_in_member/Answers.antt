use Rattle.std.proofs.Common.{◌≡◌}
use Rattle.std.proofs.lemmas.Result.{IfOk-weaker}
use Rattle.wy_syntax.specs.View.{header_of, member_of, placed_of}
use Rattle.wy_members.specs.Least.{IsAgain, IsLeast}
use Rattle.wy_members.specs.Within.{RepeatsInHeader, RepeatsInMember}
use Rattle.wy_members.proofs.Leasts.{at_form, again_in, no_token}
use Rattle.wy_members.proofs.broken.duplicate.least_in_member.Goals as goal

pub returns-in-Fields : goal.returns-in-Fields
returns-in-Fields c =
    IfOk-weaker c.least_again.result (IsLeast (IsAgain (λ a b. a.modifier ≡ b.modifier) (λ b. b.token) c.deref.result.now)) (IsLeast (RepeatsInMember (member_of c.args.member.now)))
    (λ r least. at_form (λ m. RepeatsInMember (member_of m)) _ _ r c.in-Fields.is
    (again_in placed_of (λ a b. a.modifier ≡ b.modifier) (λ b. b.token) c.in-Fields.modifiers.items c.deref.result.now r c.deref.ensures.value least))
    c.least_again.ensures

pub returns-in-Method : goal.returns-in-Method
returns-in-Method c =
    IfOk-weaker c.least_in_header.result (IsLeast (RepeatsInHeader (header_of c.in-Method.header))) (IsLeast (RepeatsInMember (member_of c.args.member.now)))
    (λ r least. at_form (λ m. RepeatsInMember (member_of m)) _ _ r c.in-Method.is least)
    c.least_in_header.ensures

pub returns-in-Constructor : goal.returns-in-Constructor
returns-in-Constructor c =
    IfOk-weaker c.least_in_header-in-Constructor.result (IsLeast (RepeatsInHeader (header_of c.in-Constructor.header))) (IsLeast (RepeatsInMember (member_of c.args.member.now)))
    (λ r least. at_form (λ m. RepeatsInMember (member_of m)) _ _ r c.in-Constructor.is least)
    c.least_in_header-in-Constructor.ensures

pub returns-in-Nothing : goal.returns-in-Nothing
returns-in-Nothing c = at_form (λ m. RepeatsInMember (member_of m)) _ _ _ c.in-Nothing.is no_token

pub returns-in-Initializer : goal.returns-in-Initializer
returns-in-Initializer c = at_form (λ m. RepeatsInMember (member_of m)) _ _ _ c.in-Initializer.is no_token

pub returns-in-Wrong : goal.returns-in-Wrong
returns-in-Wrong c = at_form (λ m. RepeatsInMember (member_of m)) _ _ _ c.in-Wrong.is no_token
