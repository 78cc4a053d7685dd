use Rattle.std.proofs.Common.{◌<◌, length, get_or}
use Rattle.std.proofs.Math.Logic.{∥∥₁_elim}
use Rattle.std.proofs.Props.{props}
use Rattle.wy_overloads.specs.LineageView.{lineage_of}
use Rattle.wy_overloads.proofs.Related.{not_below, top_in}
use Rattle.wy_members.proofs.Listed.{in_list}
use Rattle.wy_members.proofs.Alike.{none_wrong}
use Rattle.wy_members.proofs.broken.overriding.inherits_wrongly.Goals as goal

pub method-m-requires : goal.method-m-requires
method-m-requires c =
    let t = lineage_of c.args.compared.now.lineage.now in
    let numbers = c.args.compared.now.shared.now in
    let within : get_or numbers c.loop-k.k-index 0 < length t.methods = ∥∥₁_elim c.args.compared.now.lists_shared (hlevel props) (λ l. in_list t numbers c.loop-k.k-index l.in_range c.loop-k-test.true) in
    within

pub returns : goal.returns
returns c =
    let compared = c.args.compared.now in
    not_below (none_wrong (lineage_of compared.lineage.now) c.args.c compared.shared.now c.loop-k.k-index (top_in compared.lineage.now) compared.lists_shared c.loop-k-test.false c.loop-k.invariant)
