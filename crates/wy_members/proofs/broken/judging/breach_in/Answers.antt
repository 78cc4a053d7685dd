use Rattle.wy_overloads.specs.LineageView.{lineage_of}
use Rattle.wy_members.specs.Names.{unit_of}
use Rattle.wy_members.proofs.Firsts.{first_of_all}
use Rattle.wy_members.proofs.Judgings.{duplicates, unknowns, cycles, overrides, implementations}
use Rattle.wy_members.proofs.broken.judging.breach_in.Goals as goal

pub returns : goal.returns
returns c =
    let unit = unit_of c.args.names.now in
    let judged = lineage_of c.args.judged.now.lineage.now in
    let lower = lineage_of c.args.compared.now.lineage.now in
    let j = c.requires.judged in
    first_of_all unit c.in_ok-duplicate.duplicate c.least_in_classes-unknown.result c.least_cycle-cycle.result c.least_bad_override-overriding.result c.least_not_implemented-unimplemented.result
    c.earlier-found.result c.earlier-found-2.result c.earlier-found-3.result c.earlier-found-4.result c.earlier.result
    (duplicates unit _ _ _ _ _ j.rows.classes j.rows.fields j.known j.written c.in_ok-duplicate.ensures)
    (unknowns unit _ _ j.written c.least_in_classes-unknown.ensures)
    (cycles unit _ judged.classes j.classes c.least_cycle-cycle.ensures)
    (overrides unit _ judged.classes lower _ j.classes j.below j.written c.least_bad_override-overriding.ensures)
    (implementations unit _ judged lower _ j.classes j.methods j.below j.written c.least_not_implemented-unimplemented.ensures)
    c.earlier-found.ensures c.earlier-found-2.ensures c.earlier-found-3.ensures c.earlier-found-4.ensures c.earlier.ensures
