use Rattle.std.proofs.Common.{◌≡◌, take, refl, ◌≤◌, length, arith}
use Rattle.std.proofs.lemmas.Option.{slice_get_within}
use Rattle.wy_event.specs.Record.{recorded}
use Rattle.wy_check.proofs.Askings.{lines_kept}
use Rattle.wy_check.proofs.Fronts.{front_length}
use Rattle.wy_check.proofs.Weights.{passed_by}
use Rattle.wy_check.proofs.weighing.Weighing.pass_by.Goals as goal

pub returns-clause-passed : goal.returns-clause-passed
returns-clause-passed c = λ owner rs lines end read up w lacks.
    let n = c.args.n in
    let le : n ≤ length rs = (let lt = slice_get_within rs n (recorded c.args.event.now) read.there in omega (arith, lt)) in
    let seen = c.in_ok-note.ensures.seen (take n rs) w.seen (front_length rs n le) in
    let asked = lines_kept c.args.self.now.history c.note.new.self c.in_ok-note.ensures.keeps rs lines w.asked in
    passed_by owner rs lines end n c.args.self.now _ (recorded c.args.event.now) up read.there le w lacks refl refl seen asked
