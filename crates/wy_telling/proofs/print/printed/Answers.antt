-- One event after another.
use Rattle.std.proofs.Common.{◌≡◌, ◌∙◌, length, ap, arith, refl}
use Rattle.std.specs.List.{flat_map}
use Rattle.std.proofs.lemmas.List.{take_all}
use Rattle.wy_kernel.specs.Parts.{program_of}
use Rattle.wy_view.proofs.Views.{keeps_itself, keeps_on}
use Rattle.wy_telling.specs.Printed.{printed_by}
use Rattle.wy_telling.proofs.Prints.{all_told, one_more}
use Rattle.wy_telling.proofs.print.printed.Goals as goal

pub loop-n-init : goal.loop-n-init
loop-n-init g c = record {
  within = omega arith;
  keeps = keeps_itself (g.V.EventView.tells c.args.view.now);
  faults = refl;
  bytes = λ rs is. c.new-bytes.ensures.items;
}

pub loop-n-preserved : goal.loop-n-preserved
loop-n-preserved g c =
    let told = g.V.EventView.tells in
    let first = told c.args.view.now in
    let v = c.loop-n.invariant in
    record {
      within = omega (arith, c.count-n-end.ensures.count);
      keeps = keeps_on first (told c.loop-n.view) (told c.put_printed.new.view) v.keeps c.put_printed.ensures.keeps;
      faults = c.in_ok-put_printed.ensures.answers ∙ v.faults;
      bytes = λ rs is.
          let all : length rs ≡ first.count = all_told first.records rs first.count is c.count-n-end.ensures.told in
          one_more (printed_by (program_of c.args.program.now) rs) rs c.loop-n.n c.loop-n.bytes.items c.put_printed.new.bytes.items (omega (arith, all, c.count-n-end.ensures.count)) (v.bytes rs is)
          (λ e at. c.in_ok-put_printed.ensures.bytes rs e (v.keeps.records ∙ is) at c.in_ok-ends.ensures);
    }

pub returns-clause-bytes : goal.returns-clause-bytes
returns-clause-bytes g c = λ rs is.
    let first = g.V.EventView.tells c.args.view.now in
    let v = c.loop-n.invariant in
    let all : length rs ≡ first.count = all_told first.records rs first.count is c.count-n-end.ensures.told in
    v.bytes rs is ∙ ap (flat_map (printed_by (program_of c.args.program.now) rs)) (take_all c.loop-n.n rs (omega (arith, all, v.within, c.count-n-end.ensures.count)))
