-- One mark is written into marks that are all out.
use Rattle.std.proofs.Common.{◌≡◌, ◌+◌, ◌||◌, ◌&&◌, true, length, sym, ap, ◌∙◌, arith}
use Rattle.std.specs.Prelude.{nat_eq}
use Rattle.wy_why.specs.Marks.{marked}
use Rattle.wy_why.proofs.Ends.{all_out, as_flow}
use Rattle.wy_why.proofs.Walking.{written_back}
use Rattle.wy_why.proofs.answer.first_marks.Goals as goal

pub returns-clause-room : goal.returns-clause-room
returns-clause-room c =
    let long : length c.mark_event.new.marks ≡ length c.in_ok-marks.marks.items = c.mark_event.auto.marks ∙ ap length c.deref_mut.ensures.value in
    let back = written_back c.in_ok-marks.marks.len c.mark_event.new.marks c.in_ok-marks.marks.items (sym c.in_ok-marks.marks.ok.0) long in
    ap length back ∙ long ∙ omega (arith, c.in_ok-marks.marks.ok.0, c.in_ok-marks.ensures.len)

pub returns-clause-alone : goal.returns-clause-alone
returns-clause-alone c = λ all j.
    let long : length c.mark_event.new.marks ≡ length c.in_ok-marks.marks.items = c.mark_event.auto.marks ∙ ap length c.deref_mut.ensures.value in
    let back = written_back c.in_ok-marks.marks.len c.mark_event.new.marks c.in_ok-marks.marks.items (sym c.in_ok-marks.marks.ok.0) long in
    let out = c.in_ok-marks.ensures.items_if_clones_equal (λ y h. h) in
    ap (λ l. marked all l j) back ∙ c.mark_event.ensures all j
    ∙ ap (λ b. b || ((all || true) && nat_eq j c.args.event)) (ap (λ l. marked all l j) (c.deref_mut.ensures.value ∙ out) ∙ all_out all (c.args.event + 1) j)
    ∙ as_flow all (nat_eq j c.args.event)
