use Rattle.std.proofs.Common.{sym, subst}
use Rattle.wy_kernel.specs.Parts.{program_of}
use Rattle.wy_ask.specs.Asked.{IsOf}
use Rattle.wy_ask.proofs.Opening.{of_index, of_records}
use Rattle.wy_ask.proofs.resolving.resolve.Goals as goal

pub returns-clause-event : goal.returns-clause-event
returns-clause-event g c = λ rs is.
    let o = c.args.opened.now in
    let told = g.V.EventView.tells o.view in
    c.resolve_in.ensures.event rs (subst (λ n. IsOf (program_of o.program.now) o.index n rs) (sym c.count-count.ensures.count) (of_records o told c.requires rs is))

pub returns-clause-below : goal.returns-clause-below
returns-clause-below g c =
    let o = c.args.opened.now in
    let told = g.V.EventView.tells o.view in
    let rs = c.requires.index.records in
    rw (sym c.count-count.ensures.count) (c.resolve_in.ensures.below rs (subst (λ n. IsOf (program_of o.program.now) o.index n rs) (sym c.count-count.ensures.count) (of_index o told c.requires)))
