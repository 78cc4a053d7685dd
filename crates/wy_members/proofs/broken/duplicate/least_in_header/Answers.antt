use Rattle.std.proofs.Common.{◌≡◌}
use Rattle.wy_syntax.specs.View.{header_of, placed_of, parameter_of}
use Rattle.wy_members.specs.Within.{ModifierTwice, ParameterTwice}
use Rattle.wy_members.proofs.Leasts.{either, again_in}
use Rattle.wy_members.proofs.broken.duplicate.least_in_header.Goals as goal

pub returns : goal.returns
returns c =
    let h = c.args.header.now in
    either (ModifierTwice (header_of h).modifiers) (ParameterTwice (header_of h).params) _ _ _
    (again_in placed_of (λ a b. a.modifier ≡ b.modifier) (λ b. b.token) h.modifiers.items c.deref.result.now _ c.deref.ensures.value c.in_ok-modifiers.ensures)
    (again_in parameter_of (λ a b. a.name.name ≡ b.name.name) (λ b. b.name.token) h.params.items c.deref-2.result.now _ c.deref-2.ensures.value c.in_ok-params.ensures)
    c.lesser.ensures
