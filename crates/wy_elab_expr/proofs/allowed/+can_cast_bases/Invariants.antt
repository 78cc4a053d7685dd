use Rattle.wy_elab_expr.proofs.allowed.+can_cast_bases.Given as goal

abbrev pub decreases-can_cast_bases : goal.decreases-can_cast_bases
decreases-can_cast_bases l = l.m
