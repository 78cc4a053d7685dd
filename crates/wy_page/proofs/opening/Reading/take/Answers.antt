-- What was read stands so with the piece, and the events that end in it are marked.
use Rattle.std.proofs.Common.{◌≡◌, ◌+◌, List, ◌++◌, length, length-append, map, sym, ap, ◌∙◌, subst, arith}
use Rattle.wy_event.specs.Record.{recorded}
use Rattle.wy_fitting.specs.Fits.{AllFit}
use Rattle.wy_spelling.specs.Spelling.{opening}
use Rattle.wy_frames.specs.declared.stage.ReadEvent.{ReadEvent}
use Rattle.wy_frames.specs.Progress.{event_in}
use Rattle.wy_page.specs.Places.{AreMarked, RiseTo, ends_of}
use Rattle.wy_page.specs.Reads.{places}
use Rattle.wy_page.proofs.Taken.{count_is, ends_within, left_more, marked_more, read_on, rise}
use Rattle.wy_page.proofs.Numbering.{few_more, records_in, records_many, noted_more, refer_more}
use Rattle.wy_page.proofs.opening.Reading.take.Goals as goal

pub note_all-requires-clause-few : goal.note_all-requires-clause-few
note_all-requires-clause-few c =
    let x = c.requires.reading in
    let fed = c.in-Ok.ensures.fed x.version x.program x.head x.fed x.standing x.reads.scans in
    let below = c.read_events_refer_below.ensures x.version x.program x.head (x.fed ++ c.args.piece.now) c.feed.new.self.rest.items fed.0 fed.1.leaves in
    few_more x.standing fed.0 c.in-Ok.placed.items c.as_slice-2.result.now c.as_slice-2.ensures.value fed.2 below c.args.self.now.marks.count (count_is c.read_events_are_placed.ensures c.args.self.now x.version x.program x.head x.fed x.standing x.reads)

pub note_all-requires-clause-refer : goal.note_all-requires-clause-refer
note_all-requires-clause-refer c =
    let x = c.requires.reading in
    let fed = c.in-Ok.ensures.fed x.version x.program x.head x.fed x.standing x.reads.scans in
    let below = c.read_events_refer_below.ensures x.version x.program x.head (x.fed ++ c.args.piece.now) c.feed.new.self.rest.items fed.0 fed.1.leaves in
    refer_more x.standing fed.0 c.in-Ok.placed.items c.as_slice-2.result.now c.as_slice-2.ensures.value fed.2 below c.args.self.now.marks.count (count_is c.read_events_are_placed.ensures c.args.self.now x.version x.program x.head x.fed x.standing x.reads)

pub mark-requires-clause-within : goal.mark-requires-clause-within
mark-requires-clause-within c =
    let x = c.requires.reading in
    omega (arith, ends_within c.read_events_are_placed.ensures c.args.self.now x.version x.program x.head x.fed x.standing x.reads, ap length c.in_ok-extend_from_slice.ensures.items, length-append c.args.self.now.bytes.items c.args.piece.now)

pub mark-requires-clause-rise : goal.mark-requires-clause-rise
mark-requires-clause-rise c =
    let r = c.args.self.now in
    let x = c.requires.reading in
    let fed = c.in-Ok.ensures.fed x.version x.program x.head x.fed x.standing x.reads.scans in
    let ends : c.as_slice-4.result.now ≡ ends_of c.in-Ok.placed.items = c.as_slice-4.ensures.value ∙ c.in_ok-ends.ensures ∙ ap ends_of c.as_slice-3.ensures.value in
    subst (λ (l : List _). RiseTo (r.marks.from + length c.extend_from_slice.new.self.items) r.marks.end l) (sym ends)
    (subst (λ (l : List _). RiseTo (r.marks.from + length l) r.marks.end (ends_of c.in-Ok.placed.items)) (sym c.in_ok-extend_from_slice.ensures.items)
    (rise c.read_events_are_placed.ensures r x.version x.program x.head x.fed x.standing x.reads c.args.piece.now fed.0 c.feed.new.self c.in-Ok.placed.items fed.1 fed.2 c.are_bytes.ensures))

pub returns-clause-read : goal.returns-clause-read
returns-clause-read c = λ v p head fed t h noted.
    let r = c.args.self.now in
    let piece = c.args.piece.now in
    let law = c.read_events_are_placed.ensures in
    let on = c.in-Ok.ensures.fed v p head fed t h.scans in
    let placed = c.in-Ok.placed.items in
    let ends : c.as_slice-4.result.now ≡ ends_of placed = c.as_slice-4.ensures.value ∙ c.in_ok-ends.ensures ∙ ap ends_of c.as_slice-3.ensures.value in
    let fit : AllFit (map recorded (map event_in placed)) = subst (λ (l : List ReadEvent). AllFit (map recorded (map event_in l))) c.as_slice.ensures.value c.each_fits.ensures in
    let more = opening v head ++ (fed ++ piece) in
    let left = c.in_ok-extend_from_slice.ensures.items ∙ left_more law r v p head fed t h piece in
    let marked = c.in_ok-mark.ensures.marked (places v head t) more left (marked_more law r v p head fed t h piece) in (
      on.0,
      read_on law r v p head fed t h piece on.0 c.feed.new.self placed on.1 on.2 c.are_bytes.ensures _ c.mark.ensures.version c.mark.ensures.scanner fit (subst (λ (l : List _). AreMarked c.mark.new.self.marks (places v head t ++ l) more) ends marked) (c.in_ok-mark.ensures.left more left) (ap (λ n. n + length piece) c.mark.ensures.at),
      noted_more c.note_all.new.found t on.0 placed c.as_slice-2.result.now c.as_slice-2.ensures.value on.2 (c.in_ok-note_all.ensures (records_in t) noted (records_many t ∙ sym (count_is law r v p head fed t h))),
    )
