use Rattle.std.proofs.Common.{◌∙◌, ◌++◌, ap, arith}
use Rattle.wy_kernel.specs.Parts.{program_of}
use Rattle.wy_ask.specs.Listing.{field_sets, never, printed}
use Rattle.wy_ask.proofs.Listings.{all_parts, few_prints, first_below, last_below, prints_below}
use Rattle.wy_ask.proofs.asking.all_listed.Goals as goal

pub put_prints-requires : goal.put_prints-requires
put_prints-requires c =
    let (rs, is, all) = c.requires.index in
    omega (arith, few_prints rs c.prints.result.now c.args.count (c.prints.ensures rs is) all, c.ranges.count)

pub returns-clause-listed : goal.returns-clause-listed
returns-clause-listed c = λ rs is all stored.
    all_parts (program_of c.args.program.now) c.args.program.now.lines.items rs c.args.coverage.now c.put_prints.new.listed.items c.put.new.listed.items c.put_unbegun.new.listed.items
    c.prints.result.now c.args.count c.in_ok-unbegun.unbegun.items
    (c.in_ok-put_prints.ensures.listed ∙ ap (λ l. l ++ printed c.prints.result.now) c.new-listed.ensures.items)
    (c.in_ok-put.ensures.listed (field_sets rs) stored)
    (c.in_ok-put_unbegun.ensures ∙ ap (λ l. c.put.new.listed.items ++ never l) c.as_slice.ensures.value)
    (c.prints.ensures rs is) all c.in_ok-unbegun.ensures

pub returns-clause-below : goal.returns-clause-below
returns-clause-below c = λ holds.
    let (rs, is, all) = c.requires.index in
    let prints = c.prints.result.now in
    last_below c.args.count c.put.new.listed.items c.put_unbegun.new.listed.items c.as_slice.result.now c.in_ok-put_unbegun.ensures
    (c.in_ok-put.ensures.below c.args.count holds
    (first_below c.args.count c.put_prints.new.listed.items prints (c.in_ok-put_prints.ensures.listed ∙ ap (λ l. l ++ printed prints) c.new-listed.ensures.items)
    (prints_below rs prints c.args.count (c.prints.ensures rs is) all)))
