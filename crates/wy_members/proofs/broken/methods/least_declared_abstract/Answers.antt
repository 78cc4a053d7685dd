use Rattle.std.proofs.Common.{◌≡◌, ◌≤◌, true, length, arith}
use Rattle.wy_kernel.specs.View.{method_of}
use Rattle.wy_overloads.specs.LineageView.{lineage_of}
use Rattle.wy_members.specs.Within.{DeclaresAt, IsConcrete, IsJudgedIn}
use Rattle.wy_members.proofs.Leasts.{none_yet, one_more, all_gone, where_it_holds}
use Rattle.wy_members.proofs.broken.methods.least_declared_abstract.Goals as goal

pub loop-k-init : goal.loop-k-init
loop-k-init c = none_yet (DeclaresAt (lineage_of c.args.judged.now.lineage.now).classes) (lineage_of c.args.judged.now.lineage.now).methods

pub loop-k-preserved : goal.loop-k-preserved
loop-k-preserved c =
    let x = method_of c.method-m.result.now in
    one_more (DeclaresAt (lineage_of c.args.judged.now.lineage.now).classes) (lineage_of c.args.judged.now.lineage.now).methods c.loop-k.k x _ _ _ c.method-m.ensures c.loop-k.invariant
    (where_it_holds (IsJudgedIn (lineage_of c.args.judged.now.lineage.now).classes x.class × (x.is_abstract ≡ true) × IsConcrete (lineage_of c.args.judged.now.lineage.now).classes x.class) x.site c.is_declared_wrongly-wrong.result _ c.is_declared_wrongly-wrong.ensures c.token_where.ensures) c.lesser-least.ensures

pub returns : goal.returns
returns c =
    let all : length (lineage_of c.args.judged.now.lineage.now).methods ≤ c.loop-k.k = omega (arith, c.loop-k-test.false, c.methods-k-end.ensures) in
    all_gone (DeclaresAt (lineage_of c.args.judged.now.lineage.now).classes) (lineage_of c.args.judged.now.lineage.now).methods c.loop-k.k _ all c.loop-k.invariant
