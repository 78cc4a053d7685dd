use Rattle.std.proofs.Common.{◌≡◌, ◌||◌, [], length, get_or, take, sym, ap, ap₂, ◌∙◌, subst, arith}
use Rattle.std.specs.Prelude.{nat_eq}
use Rattle.wy_why.specs.declared.source.Role.TheVariants.{Data}
use Rattle.wy_cert.specs.declared.certificate.Listed.{Listed}
use Rattle.wy_check.specs.Marks.{mark_of}
use Rattle.wy_check.proofs.Marking.{any_all, any_more, none_marked}
use Rattle.wy_check.proofs.marks.mark_lines.Goals as goal

pub loop-line-init : goal.loop-line-init
loop-line-init c = λ j lt. none_marked (mark_of c.args.marks.now j)

pub loop-line-preserved : goal.loop-line-preserved
loop-line-preserved c = λ j lt.
    let i = c.loop-line.line-index in
    let d = c.line-item.result in
    c.mark.ensures j (omega (arith, lt, c.loop-line.auto.marks)) ∙ ap₂ (λ b (x : Listed). b || nat_eq j x.event) (c.loop-line.invariant j lt) c.line-item.is
    ∙ any_more (λ (x : Listed). nat_eq j x.event) c.args.lines.now i d (mark_of c.args.marks.now j) c.loop-line-test.true

pub returns : goal.returns
returns c = λ j lt. c.loop-line.invariant j lt ∙ any_all (λ (x : Listed). nat_eq j x.event) c.args.lines.now c.loop-line.line-index (mark_of c.args.marks.now j) c.loop-line-test.false
