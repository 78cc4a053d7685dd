use Rattle.std.proofs.Common.{◌≡◌, ◌||◌, [], length, get_or, take, sym, ap, ◌∙◌, subst, arith}
use Rattle.std.specs.Prelude.{nat_eq}
use Rattle.wy_why.specs.declared.source.Role.TheVariants.{Data}
use Rattle.wy_why.specs.declared.source.Source.{Source}
use Rattle.wy_check.specs.Marks.{mark_of}
use Rattle.wy_check.proofs.Marking.{any_all, any_more, none_marked}
use Rattle.wy_check.proofs.marks.mark_sources.Goals as goal

pub loop-source-init : goal.loop-source-init
loop-source-init c = λ j lt. none_marked (mark_of c.args.marks.now j)

pub loop-source-preserved : goal.loop-source-preserved
loop-source-preserved c = λ j lt.
    let d : Source = record { event = 0; role = Data } in
    let i = c.loop-source.source-index in
    c.mark.ensures j (omega (arith, lt, c.loop-source.auto.marks)) ∙ ap (λ b. b || nat_eq j (get_or c.args.sources.now i d).event) (c.loop-source.invariant j lt)
    ∙ any_more (λ (x : Source). nat_eq j x.event) c.args.sources.now i d (mark_of c.args.marks.now j) c.loop-source-test.true

pub returns : goal.returns
returns c = λ j lt. c.loop-source.invariant j lt ∙ any_all (λ (x : Source). nat_eq j x.event) c.args.sources.now c.loop-source.source-index (mark_of c.args.marks.now j) c.loop-source-test.false
