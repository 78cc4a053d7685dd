-- One event after another, with those of the data that are left.
use Rattle.std.proofs.Common.{◌≡◌, ◌∙◌, ◌∷◌, ◌+◌, drop, get_or, refl, ap, subst, arith}
use Rattle.std.specs.Prelude.{filter}
use Rattle.std.proofs.lemmas.List.{drop_more}
use Rattle.wy_event.specs.Numbers.{Numbers}
use Rattle.wy_kernel.specs.Parts.{program_of}
use Rattle.wy_view.proofs.Views.{keeps_itself, keeps_on}
use Rattle.wy_why.specs.Answer.{Rises}
use Rattle.wy_telling.proofs.Merging.{below_end, one_more, rises_from}
use Rattle.wy_telling.proofs.marked.marked_lines.Goals as goal

pub loop-event-init : goal.loop-event-init
loop-event-init g c = record {
  keeps = keeps_itself (g.V.EventView.tells c.args.view.now);
  faults = refl;
  flow = λ by_data is. is;
  lines = λ rs is by_data of. c.new-text.ensures.items;
}

pub put_event_line-requires : goal.put_event_line-requires
put_event_line-requires g c =
    let count = (g.V.EventView.tells c.args.view.now).count in
    record { there = omega (arith, below_end c.loop-event.event-index 0 count c.args.all.now 0 c.requires.there c.loop-event-test.true, c.loop-event.invariant.keeps.count) }

pub loop-event-preserved : goal.loop-event-preserved
loop-event-preserved g c =
    let told = g.V.EventView.tells in
    let v = c.loop-event.invariant in
    let all = c.args.all.now in
    let i = c.loop-event.event-index in
    let count = (told c.args.view.now).count in
    let n = get_or all i 0 in
    let next : drop i all ≡ n ∷ drop (i + 1) all = drop_more all i 0 c.loop-event-test.true in
    let taken : (by_data : Numbers) → c.args.flow.now ≡ filter by_data all → (c.taken-marked.result.0 ≡ by_data n) × (c.taken-marked.result.1.now ≡ filter by_data (drop (i + 1) all)) = λ by_data is. c.taken-marked.ensures by_data count (drop (i + 1) all) (subst (Rises 0 count) next (rises_from i 0 count all c.requires.there)) (v.flow by_data is ∙ ap (filter by_data) next) in
    let p = program_of c.args.program.now in
    let lines = c.args.program.now.lines.items in
    record {
      keeps = keeps_on (told c.args.view.now) (told c.loop-event.view) (told c.put_event_line.new.view) v.keeps c.put_event_line.ensures.keeps;
      faults = c.in_ok-put_event_line.ensures.answers ∙ v.faults;
      flow = λ by_data is. (taken by_data is).1;
      lines = λ rs is by_data of. one_more p lines rs by_data all all i c.taken-marked.result.0 c.loop-event.text.items c.put_event_line.new.out.items refl c.loop-event-test.true
          (c.in_ok-put_event_line.ensures.line rs (v.keeps.records ∙ is)) (taken by_data of).0 (v.lines rs is by_data of);
    }
