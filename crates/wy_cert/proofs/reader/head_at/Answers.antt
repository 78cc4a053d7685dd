-- The parts of the first line, one behind another.
use Rattle.std.proofs.Common.{◌≡◌, ◌∷◌, ◌++◌, List, ℕ, Some, refl, sym, ap, ◌∙◌}
use Rattle.std.specs.Prelude.{codes}
use Rattle.std.specs.Fmt.{decimal}
use Rattle.std.proofs.lemmas.Bool.Decides.{Decides-eqb}
use Rattle.std.proofs.lemmas.Option.{same_Some}
use Rattle.std.proofs.lemmas.Slice.Eq.{strip_prefix_is}
use Rattle.wy_cert.specs.Spelling.{line_feed, space}
use Rattle.wy_cert.proofs.Reading.{after_in, after_some, four_same, head_joined, head_parts, parts_of, same_front}
use Rattle.wy_cert.proofs.reader.head_at.Goals as goal

pub returns-clause-found : goal.returns-clause-found
returns-clause-found c =
    let bytes = c.args.bytes.now in
    let one : bytes ≡ codes "whycert 1 " ++ c.in_ok-rest.rest.now = strip_prefix_is Decides-eqb bytes (codes "whycert 1 ") (Some c.in_ok-rest.rest) c.in_ok-rest.ensures.cases in
    let hex = c.in_ok-hex.ensures.found in
    let event = c.in_ok-event.ensures.found in
    let count = c.in_ok-count.ensures.found in
    record {
      is = record { digits = hex.1; event_fits = event.1; count_fits = count.1 };
      spelled = head_joined bytes c.in_ok-rest.rest.now c.in_ok-hex.hex.now c.in_ok-hex.rest.now c.in_ok-event.event c.in_ok-event.rest.now c.in_ok-count.count c.in_ok-count.rest.now c.in_ok-rest-2.rest.now
          one hex.0 event.0 count.0 (after_some line_feed c.in_ok-count.rest.now c.in_ok-rest-2.rest.now (sym c.in_ok-rest-2.ensures));
    }

pub returns-clause-only : goal.returns-clause-only
returns-clause-only c = λ hex event count rest head is.
    let bytes = c.args.bytes.now in
    let one : bytes ≡ codes "whycert 1 " ++ c.in_ok-rest.rest.now = strip_prefix_is Decides-eqb bytes (codes "whycert 1 ") (Some c.in_ok-rest.rest) c.in_ok-rest.ensures.cases in
    let last : List ℕ = line_feed ∷ rest in
    let second : List ℕ = space ∷ (decimal count ++ last) in
    let first : List ℕ = space ∷ (decimal event ++ second) in
    let behind = (same_front (codes "whycert 1 ") (codes "whycert 1 ") c.in_ok-rest.rest.now (hex ++ first) refl (sym one ∙ is ∙ head_parts hex event count rest)).1 in
    let hexes = parts_of c.in_ok-hex.hex.now hex c.in_ok-hex.rest.now first (c.in_ok-hex.ensures.only hex first head.digits behind) in
    let events = parts_of c.in_ok-event.event event c.in_ok-event.rest.now second (c.in_ok-event.ensures.only event second head.event_fits refl hexes.1) in
    let counts = parts_of c.in_ok-count.count count c.in_ok-count.rest.now last (c.in_ok-count.ensures.only count last head.count_fits refl events.1) in
    let end = same_Some c.in_ok-rest-2.rest.now rest (c.in_ok-rest-2.ensures ∙ after_in line_feed c.in_ok-count.rest.now rest counts.1) in
    four_same c.in_ok-hex.hex.now hex c.in_ok-event.event event c.in_ok-count.count count c.in_ok-rest-2.rest.now rest hexes.0 events.0 counts.0 end
