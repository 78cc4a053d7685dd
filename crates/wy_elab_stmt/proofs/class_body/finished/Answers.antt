use Rattle.wy_syntax.specs.View.{class_of}
use Rattle.wy_elab_stmt.specs.ClassViews.{growth_of}
use Rattle.wy_elab_body.specs.Views.{bodies_seen}
use Rattle.wy_elab_stmt.proofs.ClassParts.{finished_is}
use Rattle.wy_elab_stmt.proofs.class_body.finished.Goals as goal

pub returns : goal.returns
returns c = λ w first second s.
    finished_is w (class_of c.args.class.now) (bodies_seen c.args.implied) (growth_of c.args.growth first second) _ _ _ _
    (c.in_ok-own.ensures w second s) c.in_ok-front.ensures c.in_ok-bodies.ensures (c.implied_body-initializer.ensures w first s)
