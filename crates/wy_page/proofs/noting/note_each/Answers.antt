-- One event more is noted, behind those before it.
use Rattle.std.proofs.Common.{◌≡◌, ◌+◌, ℕ, List, ◌++◌, map, take, Some, sym, ap, ◌∙◌, subst, arith}
use Rattle.std.specs.Prelude.{slice_get}
use Rattle.std.proofs.lemmas.List.{take_all}
use Rattle.std.proofs.lemmas.Option.{slice_get-get_or}
use Rattle.wy_event.specs.Record.{recorded}
use Rattle.wy_frames.specs.declared.stage.ReadEvent.{ReadEvent}
use Rattle.wy_frames.specs.Progress.{event_in}
use Rattle.wy_view.specs.References.{RefersBelow}
use Rattle.wy_index.specs.Findings.{HasFound}
use Rattle.wy_page.proofs.Numbering.{one_noted, noted_many}
use Rattle.wy_page.proofs.noting.note_each.Goals as goal

pub note-requires : goal.note-requires
note-requires c =
    let i = c.loop-one.one-index in
    let x = c.one-item.result in
    let there : slice_get c.args.placed.now i ≡ Some x = slice_get-get_or c.args.placed.now i x c.loop-one-test.true ∙ ap Some (sym c.one-item.is) in
    record { refers = subst (λ (m : ℕ). RefersBelow m (recorded x.event)) (sym c.loop-one.invariant.number) (c.requires.refer i x there) }

pub loop-one-preserved : goal.loop-one-preserved
loop-one-preserved c =
    let v = c.loop-one.invariant in
    let i = c.loop-one.one-index in
    let placed = c.args.placed.now in
    record {
      number = omega (arith, v.number);
      noted = λ rs found many. one_noted c.note.new.self placed i c.one-item.result c.loop-one-test.true c.one-item.is rs (c.in_ok-note.ensures (rs ++ map recorded (map event_in (take i placed))) (v.noted rs found many) (noted_many placed i rs c.args.first c.loop-one-test.true many ∙ sym v.number));
    }

pub returns : goal.returns
returns c = λ rs found many. subst (λ (l : List ReadEvent). HasFound c.loop-one.found (rs ++ map recorded (map event_in l))) (take_all c.loop-one.one-index c.args.placed.now c.loop-one-test.false) (c.loop-one.invariant.noted rs found many)
