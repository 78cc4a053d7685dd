use Rattle.std.proofs.Common.{◌≡◌, List, drop, map}
use Rattle.wy_constant.specs.Scope.{FixedText}
use Rattle.wy_syntax.specs.View.{class_of, member_of}
use Rattle.wy_elab_stmt.specs.Classes.{members}
use Rattle.wy_elab_body.specs.Statements.{Setting as PlainSetting}
use Rattle.wy_elab_stmt.specs.ClassViews.{growth_of}
use Rattle.wy_elab_body.specs.Views.{IsSetting}
use Rattle.wy_elab_stmt.proofs.Members.{Stale}
use Rattle.wy_elab_stmt.proofs.class_body.members.Given as goal

abbrev pub invariant-loop-m : goal.invariant-loop-m
invariant-loop-m l = (w : PlainSetting) (first second : List FixedText) → IsSetting l.setting w →
    (s : Stale) × (members w l.number (class_of l.class) (growth_of l.growth s.first s.second) (map member_of (drop l.m-index l.all)) l.texts
    ≡ members w l.number (class_of l.class) (growth_of l.initial.growth first second) (map member_of l.all) l.initial.texts)
