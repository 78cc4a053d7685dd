use Rattle.std.proofs.Common.{◌≡◌, take, length, refl, sym, ap, ◌∙◌, subst, ◌≤◌, arith}
use Rattle.std.proofs.lemmas.Option.{slice_get_within}
use Rattle.wy_kernel.specs.Parts.{program_of}
use Rattle.wy_event.specs.Record.{recorded}
use Rattle.wy_check.specs.Asking.{AreLinesAsked}
use Rattle.wy_check.specs.History.{HasSeen}
use Rattle.wy_check.specs.Writes.{owners}
use Rattle.wy_check.proofs.Askings.{lines_kept}
use Rattle.wy_check.proofs.Fronts.{front_length}
use Rattle.wy_check.proofs.Weights.{weighed_more}
use Rattle.wy_check.proofs.weighing.Weighing.weigh_and_keep.Goals as goal

pub returns-clause-weighed : goal.returns-clause-weighed
returns-clause-weighed c = λ rs lines end read marked w there at.
    let owner = owners (program_of c.args.program.now) in
    let n = c.args.n in
    let le : n ≤ length rs = (let lt = slice_get_within rs n (recorded c.args.event.now) read.there in omega (arith, lt)) in
    let next = c.in_ok-weigh.ensures.weighed rs lines end n read marked w there at in
    let seen = c.in_ok-note.ensures.seen (take n rs) (subst (λ h. HasSeen h (take n rs)) (sym next.history) w.seen) (front_length rs n le) in
    let asked = lines_kept c.weigh.new.self.history c.note.new.self c.in_ok-note.ensures.keeps rs lines (subst (λ h. AreLinesAsked h rs lines) (sym next.history) w.asked) in
    weighed_more owner rs lines end n c.args.self.now c.weigh.new.self _ c.args.line.now (recorded c.args.event.now) marked.rises read.there read.refers w there at next refl refl seen asked
