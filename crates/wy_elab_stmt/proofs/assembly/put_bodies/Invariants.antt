use Rattle.std.proofs.Common.{◌≡◌, drop, map}
use Rattle.wy_syntax.specs.View.{declaration_of}
use Rattle.wy_members.specs.Declarations.{classes_of}
use Rattle.wy_elab_body.specs.Statements.{Setting as PlainSetting}
use Rattle.wy_elab_body.specs.Views.{IsSetting}
use Rattle.wy_elab_stmt.specs.Program.{bodies_from}
use Rattle.wy_elab_stmt.specs.Whole.{behind_bodies, bodies_view}
use Rattle.wy_elab_stmt.proofs.assembly.put_bodies.Given as goal

abbrev pub invariant-loop-declaration : goal.invariant-loop-declaration
invariant-loop-declaration l = (w : PlainSetting) → IsSetting l.setting w →
    behind_bodies (bodies_view l.all) (bodies_from w l.number (classes_of (map declaration_of (drop l.declaration-index l.unit))) l.texts)
    ≡ behind_bodies (bodies_view l.initial.all) (bodies_from w 18 (classes_of (map declaration_of l.unit)) l.initial.texts)
