use Rattle.wy_kernel.specs.Parts.{program_of}
use Rattle.wy_ask.specs.Asked.{element_place}
use Rattle.wy_ask.proofs.Stores.{answered}
use Rattle.wy_ask.proofs.resolving.resolve_in.Goals as goal

pub returns-in-Elem-clause-event : goal.returns-in-Elem-clause-event
returns-in-Elem-clause-event g c = λ rs is.
    rw c.in-Elem.is (answered (program_of c.args.program.now) c.args.index.now c.args.count rs is c.element_place-place.result
    (element_place rs c.in-Elem.array c.in-Elem.element c.in-Elem.moment) c.in-Elem.moment c.stored-in-Elem.result c.ok_or-in-Elem.result
    (c.element_place-place.ensures rs is.is_index) (c.stored-in-Elem.ensures.write rs is.is_index is.all) c.ok_or-in-Elem.ensures.value)
