use Rattle.std.proofs.Common.{map, sym, subst}
use Rattle.wy_kernel.specs.View.{method_of}
use Rattle.wy_table.specs.Methods.{Lists, IsAlike, IsByName}
use Rattle.wy_overloads.specs.LineageView.{lineage_of}
use Rattle.wy_overloads.proofs.Listed.{alike_listed}
use Rattle.wy_overloads.proofs.lineage.Lineage.alike_by_name.Goals as goal

pub returns : goal.returns
unfolding lineage_of
returns c =
    let l = c.args.self.now in
    let ms = map method_of l.methods.now in
    let m = method_of c.args.m.now in
    subst (λ ns. Lists ms (λ j other. IsByName other.form × IsAlike m other) ns) (sym c.alike.ensures) (alike_listed l.index.now ms l.is_index c.args.k m c.requires)
