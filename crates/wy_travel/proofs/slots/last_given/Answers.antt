-- The event that the index finds is one of the records, and gives what the definition says.
use Rattle.std.proofs.Common.{◌∙◌, Some, None, ap, arith}
use Rattle.wy_kernel.specs.Parts.{program_of}
use Rattle.wy_index.specs.Index.{owners_of}
use Rattle.wy_travel.proofs.Reading.{found_given, index_of, last_write_within}
use Rattle.wy_travel.proofs.slots.last_given.Goals as goal

pub given_at-requires-clause-there : goal.given_at-requires-clause-there
given_at-requires-clause-there g c =
    let whole = c.requires.index in
    let within = last_write_within (owners_of c.args.index.now) whole.records c.args.slot c.args.moment c.in-Some.event (c.in-Some.ensures.write whole.records whole.is_index) in
    omega (arith, within, whole.all)

pub returns-in_ok-given_at-in-Some-clause-given : goal.returns-in_ok-given_at-in-Some-clause-given
returns-in_ok-given_at-in-Some-clause-given g c = λ rs is.
    let index = c.args.index.now in
    let found = c.in-Some.ensures.write rs (index_of index (g.V.EventView.tells c.args.view.now) rs is c.requires.index) in
    ap Some (c.in_ok-given_at-in-Some.ensures.given rs is)
    ∙ found_given (program_of c.args.program.now) (owners_of index) rs c.args.slot c.args.moment (Some c.in-Some.event) c.requires.owners found

pub returns-in-None-clause-given : goal.returns-in-None-clause-given
returns-in-None-clause-given g c = λ rs is.
    let index = c.args.index.now in
    let found = c.in-None.ensures.write rs (index_of index (g.V.EventView.tells c.args.view.now) rs is c.requires.index) in
    found_given (program_of c.args.program.now) (owners_of index) rs c.args.slot c.args.moment None c.requires.owners found
