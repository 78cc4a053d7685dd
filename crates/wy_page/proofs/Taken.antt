-- What is read of a trace stays so with a piece more.
use Rattle.std.proofs.Common.{◌≡◌, ℕ, ◌+◌, ◌*◌, ◌<◌, ◌≤◌, List, [], ◌∷◌, ◌++◌, length, length-append, map, take, drop, refl, sym, ap, ◌∙◌, subst, arith, append_assoc, add-one, get_or, take-suc}
use Rattle.std.specs.Prelude.{slice_index}
use Rattle.std.proofs.lemmas.List.{append-nil, drop-append-le, drop_at, length-drop, length-map, map-append}
use Rattle.std.proofs.lemmas.List.Elements.{All-append, All-from_recursion}
use Rattle.wy_kernel.specs.declared.program.Program.{Program}
use Rattle.wy_event.specs.declared.record.Version.{Version}
use Rattle.wy_event.specs.declared.record.Head.{Head}
use Rattle.wy_event.specs.Record.{recorded}
use Rattle.wy_fitting.specs.Fits.{AllFit, Fits}
use Rattle.wy_spelling.specs.Spelling.{events_bytes, opening}
use Rattle.wy_frames.specs.declared.scanner.Scanner.{Scanner}
use Rattle.wy_frames.specs.declared.stage.ReadEvent.{ReadEvent}
use Rattle.wy_frames.specs.Progress.{Progress, event_in, start}
use Rattle.wy_frames.specs.Scanning.{Scans}
use Rattle.law_placing.specs.Placed.{ArePlaced, PlacedFrom, ReadEventsArePlaced}
use Rattle.law_reading.specs.Spelled.{AreBytes}
use Rattle.wy_page.specs.declared.opening.Reading.{Reading}
use Rattle.wy_page.specs.Blocks.{ArePlaces, block_length}
use Rattle.wy_page.specs.Places.{AreAllMarked, AreMarked, RiseTo, ends_of, first_of}
use Rattle.wy_page.specs.Reads.{Reads, places}
use Rattle.wy_page.proofs.Bytes.{bytes_then, no_bytes}
use Rattle.wy_page.proofs.Marked.{marked_bytes}
use Rattle.wy_page.proofs.Placements.{ends_rise, events_of, joined_bytes, last_is, place_within, placed_behind, places_rise, size}

fit_both : (a b : List ReadEvent) → AllFit (map recorded (map event_in a)) → AllFit (map recorded (map event_in b)) → AllFit (map recorded (map event_in (a ++ b)))
fit_both a b x y = subst AllFit (sym (ap (map recorded) (map-append event_in a b) ∙ map-append recorded (map event_in a) (map event_in b))) (All-append Fits (map recorded (map event_in a)) (map recorded (map event_in b)) x y)

many_ends : (placed : List ReadEvent) → length (ends_of placed) ≡ length placed
many_ends placed = length-map placed (λ (x : ReadEvent). x.end)

module _ (law : ReadEventsArePlaced) (r : Reading) (v : Version) (p : Program) (head : Head) (fed : List ℕ) (t : Progress) (h : Reads r v p head fed t) where
  abbrev all : List ℕ
  all = opening v head ++ fed

  abbrev at : ℕ
  at = length (opening v head)

  pub lie : ArePlaced v head fed t.placed
  lie = law v p head fed t r.scanner.rest.items h.are h.scans.leaves

  within_all : at + size v (events_of t.placed) ≤ length all
  within_all = omega (arith, ap length lie.parts, length-append (opening v head) fed, length-append (events_bytes v (map event_in t.placed)) lie.others)

  pub count_is : r.marks.count ≡ length t.placed
  count_is = omega (arith, h.marked.counted, many_ends t.placed)

  pub end_is : r.marks.end ≡ at + size v (events_of t.placed)
  end_is = sym h.marked.end ∙ last_is v at t.placed r.marks.count lie.places count_is

  pub there : r.marks.end ≤ length all
  there = omega (arith, end_is, within_all)

  -- the bytes that are kept reach to the place that is read next
  pub reach : r.marks.from + length r.bytes.items ≡ r.at
  reach = omega (arith, ap length h.left, length-drop r.marks.from all, there, r.marks.order, h.at)

  pub ends_within : r.marks.end ≤ r.marks.from + length r.bytes.items
  ends_within = omega (arith, reach, there, h.at)

  -- whole blocks lie in what was read
  blocks_lie : (b : ℕ) → b < length r.marks.digests.items → (slice_index (places v head t) (block_length * b) ≤ slice_index (places v head t) (block_length * (b + 1))) × (slice_index (places v head t) (block_length * (b + 1)) ≤ length all)
  blocks_lie b within =
      let up_to : block_length * (b + 1) ≤ length t.placed = omega (arith, within, h.marked.whole, count_is) in (
        places_rise v at t.placed (block_length * b) (block_length * (b + 1)) lie.places (omega arith) up_to,
        omega (arith, place_within v at t.placed (block_length * (b + 1)) lie.places up_to, within_all),
      )

  -- a piece more
  module _ (piece : List ℕ) where
    abbrev more : List ℕ
    more = opening v head ++ (fed ++ piece)

    all_more : all ++ piece ≡ more
    all_more = append_assoc (opening v head) fed piece

    pub left_more : r.bytes.items ++ piece ≡ drop r.marks.from more
    left_more = ap (λ l. l ++ piece) h.left ∙ sym (drop-append-le r.marks.from all piece (omega (arith, there, r.marks.order))) ∙ ap (drop r.marks.from) all_more

    pub marked_more : AreMarked r.marks (places v head t) more
    marked_more = subst (AreMarked r.marks (places v head t)) all_more (marked_bytes r.marks (places v head t) all piece blocks_lie h.marked)

    module _ (u : Progress) (next : Scanner) (placed : List ReadEvent) (scans : Scans next v p head (fed ++ piece) u) (adds : u.placed ≡ t.placed ++ placed) (are : AreBytes piece) where
      lie_more : ArePlaced v head (fed ++ piece) u.placed
      lie_more = law v p head (fed ++ piece) u next.rest.items (bytes_then fed piece h.are are) scans.leaves

      sizes : size v (events_of u.placed) ≡ size v (events_of t.placed) + size v (events_of placed)
      sizes = ap (λ (l : List ReadEvent). size v (map event_in l)) adds ∙ size_of_both t.placed placed where
        size_of_both : (a b : List ReadEvent) → size v (map event_in (a ++ b)) ≡ size v (events_of a) + size v (events_of b)
        size_of_both a b = ap (size v) (map-append event_in a b) ∙ ap length (joined_bytes v (events_of a) (events_of b)) ∙ length-append (events_bytes v (events_of a)) (events_bytes v (events_of b))

      pub rise : RiseTo (r.marks.from + length (r.bytes.items ++ piece)) r.marks.end (ends_of placed)
      rise =
          let behind = placed_behind v at t.placed placed (subst (PlacedFrom v at) adds lie_more.places) in
          let long = length-append (opening v head) (fed ++ piece) in
          let whole = ap length lie_more.parts ∙ length-append (events_bytes v (events_of u.placed)) lie_more.others in
          let bound : (at + size v (events_of t.placed)) + size v (events_of placed) ≤ r.marks.from + length (r.bytes.items ++ piece) =
          omega (arith, sizes, long, whole, length-append r.bytes.items piece, reach, h.at, length-append (opening v head) fed, length-append fed piece) in
          subst (λ (n : ℕ). RiseTo (r.marks.from + length (r.bytes.items ++ piece)) n (ends_of placed)) (sym end_is) (ends_rise v (r.marks.from + length (r.bytes.items ++ piece)) (at + size v (events_of t.placed)) placed behind bound)

      pub read_on : (new : Reading) → new.version ≡ r.version → new.scanner ≡ next → AllFit (map recorded (map event_in placed)) → AreMarked new.marks (places v head t ++ ends_of placed) more → new.bytes.items ≡ drop new.marks.from more → new.at ≡ r.at + length piece → Reads new v p head (fed ++ piece) u
      read_on new same_version same fit marked left place = record {
        version = same_version ∙ h.version;
        scans = subst (λ (s : Scanner). Scans s v p head (fed ++ piece) u) (sym same) scans;
        fit = subst (λ (l : List ReadEvent). AllFit (map recorded (map event_in l))) (sym adds) (fit_both t.placed placed h.fit fit);
        marked = subst (λ (l : List ℕ). AreMarked new.marks l more) (sym (ap (λ (l : List ReadEvent). at ∷ ends_of l) adds ∙ ap (λ l. at ∷ l) (map-append (λ (x : ReadEvent). x.end) t.placed placed))) marked;
        left = left;
        at = place ∙ ap (λ n. n + length piece) h.at ∙ sym (length-append all piece) ∙ ap length all_more;
        are = bytes_then fed piece h.are are;
      }

  -- ---- all of it

  module _ (starts : List ℕ) (digests : List (List ℕ)) (count : ℕ) (m : AreAllMarked starts digests count (places v head t) all) where
    all_count : count ≡ length t.placed
    all_count = omega (arith, m.counted, many_ends t.placed)

    pub are_places : ArePlaces count starts digests
    are_places = record {
      places = m.size;
      enough = m.enough;
      needed = m.needed;
      rising = λ b within. subst2 (sym (m.starts_are b (omega (arith, within)))) (sym (m.starts_are (b + 1) (omega (arith, within)))) (places_rise v at t.placed (first_of count b) (first_of count (b + 1)) lie.places (omega arith) (omega (arith, all_count)));
    } where
      subst2 : {a b c d : ℕ} → a ≡ c → b ≡ d → a ≤ b → c ≤ d
      subst2 p q le = omega (arith, p, q, le)

-- nothing is read yet
pub begun : (r : Reading) (v : Version) (p : Program) (head : Head) (first : ℕ) → first ≡ length (opening v head) → r.version ≡ v → Scans r.scanner v p head [] (start v head) → AreMarked r.marks (first ∷ []) (opening v head ++ []) → r.marks.from ≡ first → r.bytes.items ≡ [] → r.at ≡ first → Reads r v p head [] (start v head)
unfolding start
begun r v p head first is same scans marked from nothing place = record {
  version = same;
  scans = scans;
  fit = All-from_recursion Fits [] tt;
  marked = subst (λ (n : ℕ). AreMarked r.marks (n ∷ []) (opening v head ++ [])) is marked;
  left = nothing ∙ sym (ap (λ n. drop n (opening v head ++ [])) (from ∙ is) ∙ drop_at (opening v head) [] (length (opening v head)) refl);
  at = place ∙ is ∙ ap length (sym (append-nil (opening v head)));
  are = no_bytes;
}

-- ---- numbers of events

pub fits_more : (placed : List ReadEvent) (i : ℕ) (x : ReadEvent) → i < length placed → x ≡ get_or placed i x → AllFit (map recorded (map event_in (take i placed))) → AllFit (map recorded (x.event ∷ [])) → AllFit (map recorded (map event_in (take (i + 1) placed)))
fits_more placed i x within is fit one = subst (λ (l : List ReadEvent). AllFit (map recorded (map event_in l))) (ap (λ (y : ReadEvent). take i placed ++ y ∷ []) is ∙ sym (take-suc placed i x within) ∙ ap (λ k. take k placed) (sym (add-one i))) (fit_both (take i placed) (x ∷ []) fit one)
