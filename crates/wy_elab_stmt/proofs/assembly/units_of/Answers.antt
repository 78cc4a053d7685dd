use Rattle.std.proofs.Common.{ap, ◌∙◌, map, ℕ}
use Rattle.std.specs.declared.alloc.Global.{Global}
use Rattle.std.specs.declared.vec.Vec.{Vec}
use Rattle.wy_constant.specs.Scope.{FixedText}
use Rattle.wy_elab_stmt.proofs.Programs.{same_units}
use Rattle.wy_elab_stmt.proofs.assembly.units_of.Goals as goal

pub returns-clause-units : goal.returns-clause-units
returns-clause-units c =
    ap (map (λ (v : Vec ℕ Global). v.items)) c.in_ok-all.ensures
    ∙ same_units c.into_list.result.items
    ∙ ap (map (λ (t : FixedText). t.units)) c.into_list.ensures.texts
