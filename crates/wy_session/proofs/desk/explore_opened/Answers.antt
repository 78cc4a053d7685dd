use Rattle.wy_view.specs.declared.view.ViewError.TheVariants.{NoMemory}
use Rattle.wy_session.proofs.Desks.{opened_desk}
use Rattle.wy_session.proofs.Fewer.{closed_over, reads_out_over}
use Rattle.wy_session.proofs.Talking.{nothing_closes}
use Rattle.wy_session.proofs.desk.explore_opened.Goals as goal

pub returns-in_default-clause-closed : goal.returns-in_default-clause-closed
returns-in_default-clause-closed g c = nothing_closes _ _ _ _ _ NoMemory

pub returns-in_default-open-clause-closed : goal.returns-in_default-open-clause-closed
returns-in_default-open-clause-closed g c = nothing_closes _ _ _ _ _ NoMemory

pub talk-ending-requires : goal.talk-ending-requires
talk-ending-requires g c = record { is_opened = c.requires; are_links = c.in-Ok.ensures; within = c.in-Ok-open.ensures.within _ }

pub returns-clause-closed : goal.returns-clause-closed
returns-clause-closed g c = closed_over _ _ _ _ _ _ c.talk-ending.result
    (λ x scene. opened_desk _ c.args.opened c.in-Ok-open.explorer x c.in-Ok-open.ensures.begun (c.in-Ok-open.ensures.answered _ _) scene) c.talk-ending.ensures.closed

pub returns-clause-read_out : goal.returns-clause-read_out
returns-clause-read_out g c = reads_out_over _ _ _ _ c.talk-ending.result
    (λ x scene. opened_desk _ c.args.opened c.in-Ok-open.explorer x c.in-Ok-open.ensures.begun (c.in-Ok-open.ensures.answered _ _) scene) c.talk-ending.ensures.read_out
