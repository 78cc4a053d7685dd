-- A frame that is there has the body that is kept for it.
use Rattle.std.proofs.Common.{◌≡◌, ⊎_elim, sym, ap, ◌∙◌}
use Rattle.std.proofs.lemmas.Bool.{cases_eq}
use Rattle.std.proofs.lemmas.List.{get_or_past, get_or_default}
use Rattle.wy_kernel.specs.View.{NONE}
use Rattle.wy_index.specs.Found.{body_at}
use Rattle.wy_index.proofs.Numbers.{absent_number, present_number}
use Rattle.wy_index.proofs.build.caller.Goals as goal

pub returns-then-frame-ne-NONE : goal.returns-then-frame-ne-NONE
returns-then-frame-ne-NONE c = get_or_default c.args.bodies.now c.args.frame 0 NONE c.if-frame-bodies.true ∙ sym (ap (body_at c.args.bodies.now) (present_number c.args.frame c.if-frame-ne-NONE.true))

pub returns-else-frame-bodies : goal.returns-else-frame-bodies
returns-else-frame-bodies c =
    let bodies = c.args.bodies.now in
    let frame = c.args.frame in
    ⊎_elim
    (λ (e : frame ≡ NONE). sym (ap (body_at bodies) (absent_number frame e)))
    (λ (apart : frame ≡ NONE → ⊥). sym (ap (body_at bodies) (present_number frame apart) ∙ get_or_past bodies frame NONE (⊎_elim (λ h. absurd (apart h.1)) (λ h. h) c.else-frame-bodies.either)))
    (cases_eq frame NONE)
