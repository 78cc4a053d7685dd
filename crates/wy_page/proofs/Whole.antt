-- What is kept of a trace that was read whole is of its file.
use Rattle.std.proofs.Common.{◌≡◌, ℕ, ◌+◌, ◌-◌, ◌*◌, ◌<◌, ◌≤◌, min, List, [], ◌++◌, length, length-append, map, take, drop, Option, Some, Ok, refl, sym, ap, ◌∙◌, subst, arith, rules}
use Rattle.std.specs.Prelude.{None as Absent}
use Rattle.std.specs.Prelude.{Contains, IfSome, slice_index, string_bytes, Vec}
use Rattle.std.specs.declared.alloc.Global.{Global}
use Rattle.std.proofs.lemmas.List.{append-nil, drop_at, length-drop, length-map, take_min, drop-map, take-map}
use Rattle.std.proofs.lemmas.List.Elements.{recursion_from_All}
use Rattle.sha2.specs.Sha256.{sha256}
use Rattle.wy_kernel.specs.Limits.{trace_limit}
use Rattle.wy_kernel.specs.declared.program.Program.{Program}
use Rattle.wy_event.specs.declared.record.Version.{Version}
use Rattle.wy_event.specs.declared.record.Event.{Event}
use Rattle.wy_event.specs.declared.record.Head.{Head}
use Rattle.wy_event.specs.declared.record.Tail.{Tail}
use Rattle.wy_event.specs.declared.record.Trace.{Trace}
use Rattle.wy_event.specs.Record.{Recorded, recorded}
use Rattle.wy_fitting.specs.Fits.{AllTold, Fits, IsTold}
use Rattle.wy_spelling.specs.Spelling.{events_bytes, opening}
use Rattle.wy_view.specs.References.{RefersBelow}
use Rattle.wy_frames.specs.Progress.{Progress, event_in}
use Rattle.wy_frames.specs.declared.stage.ReadEvent.{ReadEvent}
use Rattle.wy_frames.specs.Heads.{version_of}
use Rattle.wy_frames.specs.Traces.{IsReadAs, IsReadBehind}
use Rattle.law_placing.specs.Ended.{EndsWithSeal, ReadTracesEndSealed}
use Rattle.law_placing.specs.Placed.{ArePlaced, ReadEventsArePlaced, ReadEventsAreTold}
use Rattle.law_reading.specs.Referring.{DecodedEventsReferBelow}
use Rattle.law_reading.specs.Spelled.{AreBytes}
use Rattle.wy_outside.specs.Shelf.{Files}
use Rattle.wy_page.specs.declared.opening.Reading.{Reading}
use Rattle.wy_page.specs.declared.pages.Pages.{Pages}
use Rattle.wy_page.specs.Blocks.{block_length, block_of}
use Rattle.wy_page.specs.Frames.{AreFrames, records_from}
use Rattle.wy_page.specs.Opening.{BeginsWith, IsOpened}
use Rattle.wy_page.specs.Paged.{IsOf, IsOfShelf, block_bytes, records_of}
use Rattle.wy_page.specs.Places.{AreAllMarked, first_of, part}
use Rattle.wy_page.specs.Reads.{AreOthers, IsWhole, Reads, places}
use Rattle.law_reading.proofs.Heads.{version_read}
use Rattle.wy_page.proofs.Bytes.{bytes_then}
use Rattle.wy_page.proofs.Placements.{part_is}
use Rattle.wy_page.proofs.Records.{AllGood, all_good, frames_stand, good_before, good_behind, read_back}
use Rattle.wy_page.proofs.Taken.{lie}

-- the laws that this stands on
pub record Laws : Type 0 where
  pub placed : ReadEventsArePlaced
  pub told : ReadEventsAreTold
  pub refer : DecodedEventsReferBelow
  pub sealed : ReadTracesEndSealed

pub whole_count : (v : Version) (head : Head) (fed : List ℕ) (t : Progress) (pages : Pages) (tail : Tail) → IsWhole pages tail v head fed t → pages.count ≡ length t.placed
whole_count v head fed t pages tail w = omega (arith, w.marked.counted, length-map t.placed (λ (x : ReadEvent). x.end))

module _ (laws : Laws) (r : Reading) (v : Version) (p : Program) (head : Head) (fed : List ℕ) (t : Progress) (h : Reads r v p head fed t) (pages : Pages) (tail : Tail) (w : IsWhole pages tail v head fed t) (head_are : AreBytes (opening v head)) (bytes : List ℕ) (begin : BeginsWith v head bytes) (behind : fed ≡ drop (length (opening v head)) bytes) where
  abbrev es : List Event
  es = map event_in t.placed

  abbrev trace : Trace
  trace = record { head = head; events = map event_in t.placed; tail = tail }

  file_is : bytes ≡ opening v head ++ fed
  file_is = begin.spelled ∙ ap (λ l. opening v head ++ l) (sym (behind ∙ ap (drop (length (opening v head))) begin.spelled ∙ drop_at (opening v head) begin.rest (length (opening v head)) refl))

  read_behind : IsReadBehind v p head (drop (length (opening v head)) bytes) (Ok trace)
  read_behind = subst (λ (l : List ℕ). IsReadBehind v p head l (Ok trace)) behind (t, record { rest = r.scanner.rest.items; leaves = h.scans.leaves; waits = h.scans.waits }, record { head_is = refl; events = refl; seal = pages.seal; sealed = w.sealed })

  pub is_read : IsReadAs p bytes (Ok trace)
  is_read = rw begin.read read_behind

  are : AreBytes bytes
  are = subst AreBytes (sym file_is) (bytes_then (opening v head) fed head_are h.are)

  placed : ArePlaced v head fed t.placed
  placed = lie laws.placed r v p head fed t h

  parts : bytes ≡ opening v head ++ (events_bytes v es ++ placed.others)
  parts = file_is ∙ ap (λ l. opening v head ++ l) placed.parts

  short : length (events_bytes v es) ≤ trace_limit
  short = omega (arith, begin.short, ap length parts, length-append (opening v head) (events_bytes v es ++ placed.others), length-append (events_bytes v es) placed.others)

  version_is : version_of bytes ≡ v
  version_is = version_read bytes (head, length (opening v head), v) begin.read

  told : AllTold v (map recorded es)
  told = subst (λ (w : Version). AllTold w (map recorded es)) version_is (laws.told p bytes trace are begin.short h.fit is_read)

  good : AllGood v 0 es
  good = all_good v 0 es (recursion_from_All Fits (map recorded es) h.fit) (λ k x found. subst (λ (n : ℕ). RefersBelow n (recorded x)) (omega arith) (laws.refer p bytes trace is_read k x found)) (recursion_from_All (IsTold v) (map recorded es) told) short

  m : AreAllMarked pages.starts.items pages.digests.items pages.count (places v head t) (opening v head ++ fed)
  m = w.marked

  count_is : pages.count ≡ length t.placed
  count_is = whole_count v head fed t pages tail w

  first_is : slice_index pages.starts.items 0 ≡ length (opening v head)
  first_is =
      let none : first_of pages.count 0 ≡ 0 = omega arith in
      m.starts_are 0 (omega arith) ∙ ap (slice_index (places v head t)) none

  -- ---- the records

  pub records_are : records_of v pages.starts pages.count bytes ≡ map recorded es
  records_are =
      let fed_parts : drop (slice_index pages.starts.items 0) bytes ≡ events_bytes v es ++ placed.others = ap (λ n. drop n bytes) first_is ∙ sym behind ∙ placed.parts in
      let many : pages.count ≡ length (map recorded es) = count_is ∙ sym (length-map es recorded ∙ length-map t.placed event_in) in
      ap (λ l. records_from v 0 pages.count l) fed_parts ∙ ap (λ n. records_from v 0 n (events_bytes v es ++ placed.others)) many
      ∙ read_back v 0 (map recorded es) (events_bytes v es ++ placed.others) (subst AreBytes placed.parts h.are) (frames_stand v 0 es placed.others good)

  -- ---- the blocks

  bounds_are : (b : ℕ) → b ≤ length pages.digests.items → slice_index pages.starts.items b ≡ slice_index (places v head t) (first_of pages.count b)
  bounds_are b up_to = m.starts_are b up_to

  block_is : (b : ℕ) → b < length pages.digests.items → block_bytes pages.starts b bytes ≡ events_bytes v (block_of b es)
  block_is b within =
      let n = first_of pages.count b in
      let k = first_of pages.count (b + 1) in
      let from : n ≡ block_length * b = omega (arith, within, m.needed) in
      let left : length (drop (block_length * b) es) ≡ pages.count - block_length * b = length-drop (block_length * b) es ∙ omega (arith, count_is, length-map t.placed event_in) in
      let many : k - n ≡ min block_length (length (drop (block_length * b) es)) = omega (arith, from, left) in
      (λ i. part (bounds_are b (omega (arith, within)) i) (bounds_are (b + 1) (omega (arith, within)) i) (parts i))
      ∙ part_is v (opening v head) t.placed placed.others placed.places n k (omega arith) (omega (arith, count_is))
      ∙ ap (λ j. events_bytes v (take (k - n) (drop j es))) from
      ∙ ap (λ j. events_bytes v (take j (drop (block_length * b) es))) many
      ∙ ap (events_bytes v) (take_min block_length (drop (block_length * b) es))

  block_records : (b : ℕ) → block_of b (map recorded es) ≡ map recorded (block_of b es)
  block_records b = ap (take block_length) (drop-map recorded (block_length * b) es) ∙ take-map recorded block_length (drop (block_length * b) es)

  frames_of : (b : ℕ) → b < length pages.digests.items → AreFrames v (block_length * b) (block_of b (records_of v pages.starts pages.count bytes)) (block_bytes pages.starts b bytes)
  frames_of b within =
      let from : 0 + block_length * b ≡ block_length * b = omega arith in
      let here : AllGood v (block_length * b) (block_of b es) = good_before v block_length (block_length * b) (drop (block_length * b) es) (subst (λ (n : ℕ). AllGood v n (drop (block_length * b) es)) from (good_behind v (block_length * b) 0 es good)) in
      let stand : AreFrames v (block_length * b) (map recorded (block_of b es)) (events_bytes v (block_of b es) ++ []) = frames_stand v (block_length * b) (block_of b es) [] here in
      let ended : AreFrames v (block_length * b) (map recorded (block_of b es)) (block_bytes pages.starts b bytes) = subst (AreFrames v (block_length * b) (map recorded (block_of b es))) (append-nil (events_bytes v (block_of b es)) ∙ sym (block_is b within)) stand in
      subst (λ (l : List Recorded). AreFrames v (block_length * b) l (block_bytes pages.starts b bytes)) (sym (ap (block_of b) records_are ∙ block_records b)) ended

  -- ---- all

  pub is_of : pages.held.entries ≡ [] → IsOf pages.version pages.starts pages.digests pages.count pages.held.entries bytes
  is_of nothing = subst (λ (u : Version). IsOf u pages.starts pages.digests pages.count pages.held.entries bytes) (sym w.version_is) (record {
    digests = λ b within. m.digests_are b within ∙ ap (λ l. Some (sha256 (part (slice_index pages.starts.items b) (slice_index pages.starts.items (b + 1)) l))) (sym file_is);
    frames = frames_of;
    held = λ h among. absurd (none_in h (subst (λ (l : List (ℕ × Vec Event Global)). Contains l h) nothing among));
  }) where
    none_in : (h : ℕ × Vec Event Global) → Contains [] h → ⊥
    none_in h among = search rules

  seal_is : EndsWithSeal bytes pages.seal
  seal_is = subst (λ (l : List ℕ). EndsWithSeal l pages.seal) (sym file_is) (laws.sealed v p head fed t r.scanner.rest.items tail pages.seal h.scans.leaves h.scans.waits w.sealed)

  pub is_opened : IsOpened pages tail p bytes
  is_opened = record { trace = trace; read = is_read; version_is = w.version_is ∙ sym version_is; tail_is = refl; records_are = subst (λ (u : Version). records_of u pages.starts pages.count bytes ≡ map recorded es) (sym w.version_is) records_are; are_bytes = are; seal_is = seal_is }

pub fits_opened : (laws : Laws) (r : Reading) (v : Version) (p : Program) (head : Head) (fed : List ℕ) (t : Progress) → Reads r v p head fed t → (pages : Pages) (tail : Tail) → IsWhole pages tail v head fed t → AreBytes (opening v head) → pages.held.entries ≡ [] → (name : List ℕ) → string_bytes pages.name ≡ name → (held : Option Files)
    → IfSome held (λ files. (bytes : List ℕ) → files name ≡ Some bytes → BeginsWith v head bytes) → AreOthers held name (length (opening v head)) fed → IsOfShelf pages held
fits_opened laws r v p head fed t h pages tail w head_are nothing name named Absent may others = tt
fits_opened laws r v p head fed t h pages tail w head_are nothing name named (Some files) may (bytes, there, behind) = (
  bytes,
  ap files named ∙ there,
  is_of laws r v p head fed t h pages tail w head_are bytes (may bytes there) behind nothing,
)
