use Rattle.std.proofs.Common.{◌≡◌, ◌↔◌, ℕ, List, map, IsTrue, subst}
use Rattle.std.specs.List.{Contains}
use Rattle.wy_syntax.specs.declared.declaration.Member.{Member}
use Rattle.wy_syntax.specs.View.{class_of, placed_of, member_of}
use Rattle.wy_members.specs.Broken.{reserved_names}
use Rattle.wy_members.specs.Least.{IsLeast, Among, Either, Here}
use Rattle.wy_members.specs.Within.{ModifierTwice, RepeatsInMember}
use Rattle.wy_members.proofs.Leasts.{either, again_in, where_it_holds}
use Rattle.wy_members.proofs.broken.duplicate.least_in_class.Goals as goal

pub returns : goal.returns
returns c =
    let k = class_of c.args.class.now in
    let Reserved = Here (Contains reserved_names k.name.name) k.name.token in
    let Members = Among k.members (λ i m. RepeatsInMember m) in
    either Reserved (Either (ModifierTwice k.modifiers) Members) _ _ _
    (where_it_holds (Contains reserved_names k.name.name) k.name.token c.is_reserved.result _ (subst (λ (name : List ℕ). IsTrue c.is_reserved.result ↔ Contains reserved_names name) c.as_str.ensures.value c.is_reserved.ensures) c.token_where-name.ensures)
    (either (ModifierTwice k.modifiers) Members _ _ _
    (again_in placed_of (λ a b. a.modifier ≡ b.modifier) (λ b. b.token) c.args.class.now.modifiers.items c.deref.result.now _ c.deref.ensures.value c.in_ok-modifiers.ensures)
    (subst (λ (ms : List Member). IsLeast (Among (map member_of ms) (λ i m. RepeatsInMember m)) c.in_ok-members.members) c.deref-2.ensures.value c.in_ok-members.ensures)
    c.lesser.ensures)
    c.lesser-2.ensures
