use Rattle.std.proofs.Common.{◌∙◌, ◌<◌, ◌≤◌, List, ℕ, ap, get_or, length, map, refl, subst, sym}
use Rattle.std.specs.Borrow.{Bor}
use Rattle.std.specs.List.{flat_map}
use Rattle.std.proofs.lemmas.List.{take_all}
use Rattle.wy_kernel.specs.Parts.{program_of}
use Rattle.wy_view.proofs.Views.{keeps_itself, keeps_on}
use Rattle.wy_why.specs.Answer.{Rises}
use Rattle.wy_fold.specs.Groups.{row_of}
use Rattle.wy_fold.proofs.Folding.{no_group, one_more_told}
use Rattle.wy_fold.proofs.fold.group_lines.Goals as goal

pub loop-group-init : goal.loop-group-init
loop-group-init g c = record {
  keeps = keeps_itself (g.V.EventView.tells c.args.view.now);
  faults = refl;
  lines = λ rs is by_data of. c.new-out.ensures.items;
}

pub put_row-requires : goal.put_row-requires
put_row-requires g c =
    let i = c.loop-group.group-index in
    let same = c.as_slice-group-items.ensures.value in
    let count = (g.V.EventView.tells c.args.view.now).count in
    let inside = subst (λ gs. i < length gs) same c.loop-group-test.true in
    let there = subst (λ gs. (get_or gs i no_group).last < count) (sym same) (c.requires.there.there i no_group inside) in
    record { there = subst (λ n. (get_or c.as_slice-group-items.result.now i no_group).last < n) (sym c.loop-group.invariant.keeps.count) there }

pub put_opened-requires : goal.put_opened-requires
put_opened-requires g c =
    let i = c.loop-group.group-index in
    let same = c.as_slice-group-items.ensures.value in
    let inside = subst (λ gs. i < length gs) same c.loop-group-test.true in
    record {
      in_all = subst (λ gs. (get_or gs i no_group).line < length c.args.fold.now.all.rows.items) (sym same) (c.requires.there.in_all i no_group inside);
      in_flow = subst (λ gs. (get_or gs i no_group).line < length c.args.fold.now.flow.rows.items) (sym same) (c.requires.there.in_flow i no_group inside);
      rises = subst (λ n. Rises 0 n (row_of c.args.fold.now.all (get_or c.as_slice-group-items.result.now i no_group).line)) (sym (c.put_row.ensures.keeps.count ∙ c.loop-group.invariant.keeps.count)) (c.requires.there.rises _);
    }

pub loop-group-preserved : goal.loop-group-preserved
loop-group-preserved g c =
    let told = g.V.EventView.tells in
    let v = c.loop-group.invariant in
    record {
      keeps = keeps_on (told c.args.view.now) (told c.put_row.new.view) (told c.put_opened.new.view) (keeps_on (told c.args.view.now) (told c.loop-group.view) (told c.put_row.new.view) v.keeps c.put_row.ensures.keeps) c.put_opened.ensures.keeps;
      faults = c.in_ok-put_opened.ensures.answers ∙ c.in_ok-put_row.ensures.answers ∙ v.faults;
      lines = λ rs is by_data of. one_more_told (program_of c.args.program.now) c.args.program.now.lines.items rs by_data (row_of c.args.fold.now.all) c.args.is_open _ _ c.as_slice-group-items.result.now c.args.fold.now.groups.items c.loop-group.group-index
          c.loop-group.out.items c.put_row.new.out.items c.put_opened.new.out.items c.as_slice-group-items.ensures.value (ap (map (λ (l : Bor (List ℕ)). l.now)) c.as_slice.ensures.value) c.loop-group-test.true
          (c.in_ok-put_row.ensures.row rs (v.keeps.records ∙ is)) (c.in_ok-put_opened.ensures.lines rs (c.put_row.ensures.keeps.records ∙ v.keeps.records ∙ is) by_data of) (v.lines rs is by_data of);
    }

pub returns-clause-lines : goal.returns-clause-lines
returns-clause-lines g c = λ rs is by_data of.
    let end = subst (λ gs. length gs ≤ c.loop-group.group-index) c.as_slice-group-items.ensures.value c.loop-group-test.false in
    c.loop-group.invariant.lines rs is by_data of ∙ ap (flat_map _) (take_all c.loop-group.group-index c.args.fold.now.groups.items end)
