use Rattle.std.proofs.Common.{◌∷◌, [], Bool, List, Option, find, take, get_or, sym, ap, ◌∙◌}
use Rattle.std.specs.Option.{option_or}
use Rattle.std.proofs.lemmas.List.{take_more}
use Rattle.std.proofs.lemmas.List.Folds.{find-append}
use Rattle.wy_static.specs.declared.point.Point.TheVariants as point
use Rattle.wy_static.specs.declared.standing.Standing.{Standing}
use Rattle.wy_static.specs.Along.{its_standing}
use Rattle.wy_static.specs.Order.{same_point}
use Rattle.wy_static.proofs.links.standings_at.Goals as goal

pub loop-standing-preserved : goal.loop-standing-preserved
loop-standing-preserved c = λ q.
    let all = c.args.all.now in
    let i = c.loop-standing.standing-index in
    let any : Standing = record { point = point.Start; method = 0; around = 0 } in
    let x = get_or all i any in
    let test : Standing → Bool = λ y. same_point y.point q in
    c.in_ok-keep_first.ensures q
    ∙ ap (λ (o : Option Standing). option_or o (its_standing x q)) (c.loop-standing.invariant q)
    ∙ sym (find-append test (take i all) (x ∷ []))
    ∙ ap (λ (xs : List Standing). find test xs) (sym (take_more all i any c.loop-standing-test.true))
