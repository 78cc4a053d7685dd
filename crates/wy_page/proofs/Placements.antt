-- Where the frames of events lie that stand one behind another.
use Rattle.std.proofs.Common.{◌≡◌, ℕ, zero, suc, ◌+◌, ◌-◌, ◌≤◌, List, [], ◌∷◌, ◌++◌, length, length-append, map, take, drop, refl, sym, ap, ◌∙◌, subst, arith, append_assoc, take-append-drop}
use Rattle.std.specs.Prelude.{slice_index}
use Rattle.std.proofs.lemmas.List.{drop-take, drop_at, length-map, take-take, take_all, take_at}
use Rattle.std.proofs.lemmas.Grind.{flat_map-append}
use Rattle.wy_event.specs.declared.record.Version.{Version}
use Rattle.wy_event.specs.declared.record.Event.{Event}
use Rattle.wy_event.specs.Record.{Recorded, recorded}
use Rattle.wy_spelling.specs.Spelling.{event_frame, events_bytes}
use Rattle.wy_frames.specs.declared.stage.ReadEvent.{ReadEvent}
use Rattle.wy_frames.specs.Progress.{event_in}
use Rattle.law_placing.specs.Placed.{PlacedFrom}
use Rattle.wy_page.specs.Places.{RiseTo, ends_of, part}

-- ---- the bytes of events

pub frame_some : (v : Version) (e : Recorded) → 1 ≤ length (event_frame v e)
unfolding event_frame
frame_some v e = omega arith

pub none_bytes : (v : Version) → events_bytes v [] ≡ []
unfolding events_bytes
none_bytes v = refl

pub more_bytes : (v : Version) (e : Event) (es : List Event) → events_bytes v (e ∷ es) ≡ event_frame v (recorded e) ++ events_bytes v es
unfolding events_bytes
more_bytes v e es = refl

pub joined_bytes : (v : Version) (a b : List Event) → events_bytes v (a ++ b) ≡ events_bytes v a ++ events_bytes v b
unfolding events_bytes
joined_bytes v a b = flat_map-append (λ (e : Event). event_frame v (recorded e)) a b

pub split_bytes : (v : Version) (n : ℕ) (es : List Event) → events_bytes v es ≡ events_bytes v (take n es) ++ events_bytes v (drop n es)
split_bytes v n es = ap (events_bytes v) (sym (take-append-drop n es)) ∙ joined_bytes v (take n es) (drop n es)

abbrev pub size : Version → List Event → ℕ
size v es = length (events_bytes v es)

split_size : (v : Version) (n : ℕ) (es : List Event) → size v es ≡ size v (take n es) + size v (drop n es)
split_size v n es = ap length (split_bytes v n es) ∙ length-append (events_bytes v (take n es)) (events_bytes v (drop n es))

-- ---- places

abbrev pub events_of : List ReadEvent → List Event
events_of placed = map event_in placed

head_size : (v : Version) (x : ReadEvent) (placed : List ReadEvent) → size v (events_of (x ∷ placed)) ≡ length (event_frame v (recorded x.event)) + size v (events_of placed)
head_size v x placed = ap length (more_bytes v x.event (events_of placed)) ∙ length-append (event_frame v (recorded x.event)) (events_bytes v (events_of placed))

pub place_is : (v : Version) (at : ℕ) (placed : List ReadEvent) (n : ℕ) → PlacedFrom v at placed → n ≤ length placed → slice_index (at ∷ ends_of placed) n ≡ at + size v (take n (events_of placed))
place_is v at placed zero lie within = omega (arith, ap length (none_bytes v))
place_is v at [] (suc n) lie within = absurd (omega (arith, within))
place_is v at (x ∷ placed) (suc n) lie within =
    let behind = place_is v x.end placed n lie.1 (omega (arith, within)) in
    let one : size v (x.event ∷ take n (events_of placed)) ≡ length (event_frame v (recorded x.event)) + size v (take n (events_of placed)) = ap length (more_bytes v x.event (take n (events_of placed))) ∙ length-append (event_frame v (recorded x.event)) (events_bytes v (take n (events_of placed))) in
    omega (arith, behind, lie.0, one)

pub last_is : (v : Version) (at : ℕ) (placed : List ReadEvent) (n : ℕ) → PlacedFrom v at placed → n ≡ length placed → slice_index (at ∷ ends_of placed) n ≡ at + size v (events_of placed)
last_is v at placed n lie is = place_is v at placed n lie (omega (arith, is)) ∙ ap (λ l. at + size v l) (take_all n (events_of placed) (omega (arith, is, length-map placed event_in)))

-- the ends of events rise, up to where the last of them ends
pub ends_rise : (v : Version) (bound at : ℕ) (placed : List ReadEvent) → PlacedFrom v at placed → at + size v (events_of placed) ≤ bound → RiseTo bound at (ends_of placed)
ends_rise v bound at [] lie within = tt
ends_rise v bound at (x ∷ placed) lie within =
    let one = head_size v x placed in
    (omega (arith, lie.0, frame_some v (recorded x.event)), omega (arith, lie.0, one, within), ends_rise v bound x.end placed lie.1 (omega (arith, lie.0, one, within)))

-- those behind others
pub placed_behind : (v : Version) (at : ℕ) (before placed : List ReadEvent) → PlacedFrom v at (before ++ placed) → PlacedFrom v (at + size v (events_of before)) placed
placed_behind v at [] placed lie = subst (λ (n : ℕ). PlacedFrom v n placed) (omega (arith, ap length (none_bytes v))) lie
placed_behind v at (x ∷ before) placed lie = subst (λ (n : ℕ). PlacedFrom v n placed) (omega (arith, lie.0, head_size v x before)) (placed_behind v x.end before placed lie.1)

-- a place is not before those before it
size_grows : (v : Version) (n m : ℕ) (es : List Event) → n ≤ m → size v (take n es) ≤ size v (take m es)
size_grows v n m es up = omega (arith, split_size v n (take m es), ap (size v) (take-take n m es up))

pub places_rise : (v : Version) (at : ℕ) (placed : List ReadEvent) (n m : ℕ) → PlacedFrom v at placed → n ≤ m → m ≤ length placed → slice_index (at ∷ ends_of placed) n ≤ slice_index (at ∷ ends_of placed) m
places_rise v at placed n m lie up within = omega (arith, place_is v at placed n lie (omega (arith, up, within)), place_is v at placed m lie within, size_grows v n m (events_of placed) up)

pub place_within : (v : Version) (at : ℕ) (placed : List ReadEvent) (n : ℕ) → PlacedFrom v at placed → n ≤ length placed → slice_index (at ∷ ends_of placed) n ≤ at + size v (events_of placed)
place_within v at placed n lie within = omega (arith, place_is v at placed n lie within, split_size v n (events_of placed))

-- between two places lie the frames of the events between them
module _ (v : Version) (front : List ℕ) (placed : List ReadEvent) (others : List ℕ) (lie : PlacedFrom v (length front) placed) where
  abbrev es : List Event
  es = events_of placed

  abbrev place : ℕ → ℕ
  place n = slice_index (length front ∷ ends_of placed) n

  behind_place : (n : ℕ) → n ≤ length placed → drop (place n) (front ++ (events_bytes v es ++ others)) ≡ events_bytes v (drop n es) ++ others
  behind_place n within =
      let first = events_bytes v (take n es) in
      let second = events_bytes v (drop n es) in
      let parts : front ++ (events_bytes v es ++ others) ≡ (front ++ first) ++ (second ++ others) = ap (λ l. front ++ (l ++ others)) (split_bytes v n es) ∙ ap (λ l. front ++ l) (append_assoc first second others) ∙ sym (append_assoc front first (second ++ others)) in
      ap (drop (place n)) parts ∙ drop_at (front ++ first) (second ++ others) (place n) (length-append front first ∙ sym (place_is v (length front) placed n lie within))

  pub part_is : (n m : ℕ) → n ≤ m → m ≤ length placed → part (place n) (place m) (front ++ (events_bytes v es ++ others)) ≡ events_bytes v (take (m - n) (drop n es))
  part_is n m up within =
      let k = m - n in
      let first = events_bytes v (take k (drop n es)) in
      let second = events_bytes v (drop k (drop n es)) in
      let inner : take n (take m es) ≡ take n es = take-take n m es up in
      let whole : m ≡ n + k = omega (arith, up) in
      let cut : drop n (take m es) ≡ take k (drop n es) = ap (λ j. drop n (take j es)) whole ∙ drop-take n k es in
      let long : length first ≡ place m - place n = omega (arith, place_is v (length front) placed n lie (omega (arith, up, within)), place_is v (length front) placed m lie within, split_size v n (take m es), ap (size v) inner, ap (size v) cut) in
      ap (take (place m - place n)) (behind_place n (omega (arith, up, within)) ∙ ap (λ l. l ++ others) (split_bytes v k (drop n es)) ∙ append_assoc first second others) ∙ take_at first (second ++ others) (place m - place n) long
