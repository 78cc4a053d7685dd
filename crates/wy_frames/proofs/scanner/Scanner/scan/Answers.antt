use Rattle.std.proofs.Common.{refl, ap, ◌∙◌, ◌++◌}
use Rattle.wy_payload.specs.Ranges.{ranges_of}
use Rattle.wy_frames.specs.Progress.{start}
use Rattle.wy_frames.proofs.Fed.{Handed, stands, leaves, refused, scanned}
use Rattle.wy_frames.proofs.scanner.Scanner.scan.Goals as goal

pub returns-in-Err : goal.returns-in-Err
returns-in-Err c = λ v p head fed t h.
    let s = c.args.self.now in
    let piece = c.args.piece.now in
    let r = c.in_ok-ranges.ranges in
    let steps = c.ranges-2.new.self.steps in
    let past = c.ranges-2.new.self.past in
    let bytes = c.deref.result.now in
    let handed : Handed s v p head piece r steps past bytes = record {
      ranges_is = c.in_ok-ranges.ensures.read h.knows ∙ ap (ranges_of s.version) h.program ∙ ap (λ w. ranges_of w p) h.version;
      steps_is = c.in_ok-ranges.ensures.steps ∙ h.steps;
      past_is = c.in_ok-ranges.ensures.past;
      bytes_is = c.deref.ensures.value ∙ c.in_ok-extend_from_slice.ensures.items ∙ ap (λ v. v.items ++ piece) (c.replace-bytes.ensures.value ∙ c.in_ok-ranges.ensures.rest);
    } in
    refused s v p head fed piece t r steps past bytes h handed c.in-Err.error
    (c.in-Err.ensures.err (start v head) t (fed ++ piece) (stands s v p head fed piece t r steps past bytes h handed) (leaves s v p head fed piece t r steps past bytes h handed))

pub returns : goal.returns
returns c = λ v p head fed t h.
    let s = c.args.self.now in
    let piece = c.args.piece.now in
    let r = c.in_ok-ranges.ranges in
    let steps = c.ranges-2.new.self.steps in
    let past = c.ranges-2.new.self.past in
    let bytes = c.deref.result.now in
    let handed : Handed s v p head piece r steps past bytes = record {
      ranges_is = c.in_ok-ranges.ensures.read h.knows ∙ ap (ranges_of s.version) h.program ∙ ap (λ w. ranges_of w p) h.version;
      steps_is = c.in_ok-ranges.ensures.steps ∙ h.steps;
      past_is = c.in_ok-ranges.ensures.past;
      bytes_is = c.deref.ensures.value ∙ c.in_ok-extend_from_slice.ensures.items ∙ ap (λ v. v.items ++ piece) (c.replace-bytes.ensures.value ∙ c.in_ok-ranges.ensures.rest);
    } in
    let x = c.in-Ok.ensures.ok (start v head) t (fed ++ piece) (stands s v p head fed piece t r steps past bytes h handed) (leaves s v p head fed piece t r steps past bytes h handed) in
    scanned s v p head fed piece t r steps past bytes h handed _ c.args.placed.now.items c.take_all.new.placed.items c.take_all.new.self c.in-Ok.rest.now x
    c.in_ok-ranges.ensures.version c.in_ok-ranges.ensures.program c.in_ok-ranges.ensures.steps refl refl c.in_ok-self-in-Ok.ensures.items c.in_ok-ranges.ensures.failure
