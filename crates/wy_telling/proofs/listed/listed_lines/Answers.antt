-- One line after another.
use Rattle.std.proofs.Common.{◌∙◌, refl}
use Rattle.wy_kernel.specs.Parts.{program_of}
use Rattle.wy_view.proofs.Views.{keeps_itself, keeps_on}
use Rattle.wy_telling.specs.Questions.{listed_line}
use Rattle.wy_telling.proofs.Asked.{below_at, one_line}
use Rattle.wy_telling.proofs.listed.listed_lines.Goals as goal

pub loop-one-init : goal.loop-one-init
loop-one-init g c = record {
  keeps = keeps_itself (g.V.EventView.tells c.args.view.now);
  faults = refl;
  lines = λ rs is. c.new-text.ensures.items;
}

pub put_listed-requires : goal.put_listed-requires
put_listed-requires g c =
    let told = g.V.EventView.tells in
    record { below = below_at (told c.loop-one.view).count (told c.args.view.now).count c.args.listed.now c.loop-one.one-index _ c.loop-one.invariant.keeps.count c.requires.below c.loop-one-test.true }

pub loop-one-preserved : goal.loop-one-preserved
loop-one-preserved g c =
    let told = g.V.EventView.tells in
    let v = c.loop-one.invariant in
    record {
      keeps = keeps_on (told c.args.view.now) (told c.loop-one.view) (told c.put_listed.new.view) v.keeps c.put_listed.ensures.keeps;
      faults = c.in_ok-put_listed.ensures.answers ∙ v.faults;
      lines = λ rs is. one_line (listed_line (program_of c.args.program.now) c.args.program.now.lines.items rs) c.args.listed.now c.loop-one.one-index _ c.loop-one.text.items c.put_listed.new.text.items c.loop-one-test.true (v.lines rs is)
          (c.in_ok-put_listed.ensures.line rs (v.keeps.records ∙ is));
    }
