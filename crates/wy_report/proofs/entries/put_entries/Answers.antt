-- One event after another, with those of the data that are left.
use Rattle.std.proofs.Common.{◌≡◌, ◌∙◌, ◌∷◌, ◌+◌, drop, get_or, refl, sym, ap, subst, arith}
use Rattle.std.specs.Prelude.{IfSome, filter}
use Rattle.std.proofs.lemmas.List.{drop_more}
use Rattle.wy_event.specs.Numbers.{Numbers}
use Rattle.wy_index.specs.Index.{owners_of}
use Rattle.wy_kernel.specs.Parts.{program_of}
use Rattle.wy_telling.proofs.Merging.{below_end, rises_from}
use Rattle.wy_view.proofs.Views.{keeps_itself, keeps_on}
use Rattle.wy_why.specs.Answer.{Rises}
use Rattle.wy_report.proofs.Rows.{begins, one_more_row, whole_rows}
use Rattle.wy_report.proofs.entries.put_entries.Goals as goal

pub loop-event-init : goal.loop-event-init
loop-event-init g c = record {
  keeps = keeps_itself (g.V.EventView.tells c.args.view.now);
  flow = λ by_data is. is;
  rows = λ rs is by_data of. begins (program_of c.args.program.now) c.args.program.now.lines.items (owners_of c.args.index.now) rs by_data c.args.many c.args.out.now.items c.args.all.now;
}

pub put_entry-requires-clause-there : goal.put_entry-requires-clause-there
put_entry-requires-clause-there g c =
    let count = (g.V.EventView.tells c.args.view.now).count in
    omega (arith, below_end c.loop-event.event-index 0 count c.args.all.now 0 c.requires.there c.loop-event-test.true, c.loop-event.invariant.keeps.count)

pub put_entry-requires-clause-index : goal.put_entry-requires-clause-index
put_entry-requires-clause-index g c =
    let keeps = c.loop-event.invariant.keeps in
    let w = c.requires.index in
    record {
      records = w.records;
      is_index = w.is_index;
      all = w.all ∙ sym keeps.count;
      as_told = subst (λ o. IfSome o (λ rs. rs ≡ w.records)) (sym keeps.records) w.as_told;
    }

pub loop-event-preserved : goal.loop-event-preserved
loop-event-preserved g c =
    let told = g.V.EventView.tells in
    let v = c.loop-event.invariant in
    let all = c.args.all.now in
    let i = c.loop-event.event-index in
    let count = (told c.args.view.now).count in
    let n = get_or all i 0 in
    let next : drop i all ≡ n ∷ drop (i + 1) all = drop_more all i 0 c.loop-event-test.true in
    let found = c.next_of_data-of_data.result in
    let taken : (by_data : Numbers) → c.args.flow.now ≡ filter by_data all → (found.0 ≡ by_data n) × (found.1.now ≡ filter by_data (drop (i + 1) all)) =
    λ by_data is. c.next_of_data-of_data.ensures by_data count (drop (i + 1) all) (subst (Rises 0 count) next (rises_from i 0 count all c.requires.there)) (v.flow by_data is ∙ ap (filter by_data) next) in
    record {
      keeps = keeps_on (told c.args.view.now) (told c.loop-event.view) (told c.put_entry.new.view) v.keeps c.put_entry.ensures.keeps;
      flow = λ by_data is. (taken by_data is).1;
      rows = λ rs is by_data of. one_more_row (program_of c.args.program.now) c.args.program.now.lines.items (owners_of c.args.index.now) rs by_data c.args.many c.args.out.now.items all i n found.0
          c.loop-event.out.items c.put_entry.new.out.items (v.rows rs is by_data of) c.loop-event-test.true refl (taken by_data of).0 (c.in_ok-put_entry.ensures.row rs (v.keeps.records ∙ is));
    }

pub returns-clause-rows : goal.returns-clause-rows
returns-clause-rows g c = λ rs is by_data of.
    whole_rows (program_of c.args.program.now) c.args.program.now.lines.items (owners_of c.args.index.now) rs by_data c.args.many c.args.out.now.items c.args.all.now c.loop-event.event-index c.loop-event.out.items
    (c.loop-event.invariant.rows rs is by_data of) c.loop-event-test.false
