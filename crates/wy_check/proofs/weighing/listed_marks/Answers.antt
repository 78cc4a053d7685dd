use Rattle.std.proofs.Common.{◌≡◌, ◌||◌, false, replicate, length, sym, ap, ◌∙◌, arith}
use Rattle.std.specs.Prelude.{nat_eq}
use Rattle.std.specs.List.{list_any}
use Rattle.std.proofs.lemmas.List.{length-replicate}
use Rattle.wy_why.proofs.Walking.{written_back}
use Rattle.wy_cert.specs.declared.certificate.Listed.{Listed}
use Rattle.wy_check.specs.Marks.{mark_of}
use Rattle.wy_check.proofs.Marking.{all_unmarked, lines_marked}
use Rattle.wy_check.proofs.weighing.listed_marks.Goals as goal

pub returns : goal.returns
returns c =
    let old = c.in_ok-marks.marks.items in
    let long : length c.mark_lines.new.marks ≡ length old = c.mark_lines.auto.marks ∙ ap length c.deref_mut.ensures.value in
    let back = written_back c.in_ok-marks.marks.len c.mark_lines.new.marks old (sym c.in_ok-marks.marks.ok.0) long in
    let out : old ≡ replicate c.args.end false = c.in_ok-marks.ensures.items_if_clones_equal (λ y h. h) in
    let room = ap length back ∙ long ∙ ap length out ∙ length-replicate c.args.end false in
    lines_marked c.args.lines.now c.args.end _ c.requires room (λ j lt.
    ap (λ l. mark_of l j) back ∙ c.mark_lines.ensures j (omega (arith, lt, ap length c.deref_mut.ensures.value, ap length out, length-replicate c.args.end false))
    ∙ ap (λ b. b || list_any (λ (l : Listed). nat_eq j l.event) c.args.lines.now) (ap (λ l. mark_of l j) (c.deref_mut.ensures.value ∙ out) ∙ all_unmarked c.args.end j))
