-- Frames that stand one behind another are read back, each as its record.
use Rattle.std.proofs.Common.{◌≡◌, ℕ, zero, suc, ◌+◌, ◌-◌, ◌<◌, List, [], ◌∷◌, ◌++◌, length, length-append, length-drop, take, drop, map, Some, refl, sym, ap, ◌∙◌, subst, arith, append_assoc}
use Rattle.std.specs.Prelude.{None as Absent}
use Rattle.std.proofs.Math.Seq.{take-length}
use Rattle.std.proofs.lemmas.List.{append-nil, length-map, map-append}
use Rattle.wy_kernel.specs.View.{present}
use Rattle.wy_event.specs.declared.record.Version.{Version}
use Rattle.wy_event.specs.declared.record.Event.{Event}
use Rattle.wy_event.specs.Record.{Recorded, recorded}
use Rattle.wy_spelling.specs.Spelling.{event_frame}
use Rattle.wy_view.specs.References.{RefersBelow}
use Rattle.wy_frame_reading.specs.Begins.{BeginWith, BeginsWithEvent}
use Rattle.wy_frame_reading.specs.Fields.{frame_at}
use Rattle.wy_page.specs.Frames.{AreFrames, IsNext, ReadAs, ReferFrom, blank, or_blank, records_from}

pub blank_below : (n : ℕ) → RefersBelow n (recorded blank)
unfolding recorded present
blank_below n = record { frame = tt; control = tt; slot = tt; value = tt; uses = tt }

-- ---- one event

all_behind : (size : ℕ) (bytes : List ℕ) → take (length bytes - size) (drop size bytes) ≡ drop size bytes
all_behind size bytes = ap (λ n. take n (drop size bytes)) (sym (length-drop size bytes)) ∙ take-length (drop size bytes)

pub next_found : (v : Version) (n : ℕ) (bytes : List ℕ) (x : Event) (size : ℕ) → BeginsWithEvent v n bytes (Some (x, size)) → IsNext v n bytes x (drop size bytes)
next_found v n bytes x size (is, long, only) e begin =
    let same : e ≡ recorded x = only e begin in
    (sym same, ap (λ k. drop k bytes) (long ∙ ap (λ r. length (event_frame v r)) (sym same)))

-- what is left of the bytes is all behind so many
pub next_behind : (v : Version) (n : ℕ) (bytes : List ℕ) (x : Event) (size : ℕ) → BeginsWithEvent v n bytes (Some (x, size)) → IsNext v n bytes x (take (length bytes - size) (drop size bytes))
next_behind v n bytes x size begins = subst (IsNext v n bytes x) (sym (all_behind size bytes)) (next_found v n bytes x size begins)

pub next_none : (v : Version) (n : ℕ) (bytes : List ℕ) (x : Event) (rest : List ℕ) → BeginsWithEvent v n bytes Absent → IsNext v n bytes x rest
next_none v n bytes x rest none e begin = absurd (none e begin)

-- ---- events one behind another

-- of frames that stand, so many were read as these events, and the others are left
abbrev pub ReadSoFar : Version → ℕ → List ℕ → List Event → List ℕ → Type 0
ReadSoFar v first bytes events rest = (es : List Recorded) → AreFrames v first es bytes → length events < length es + 1 → (others : List Recorded) × (es ≡ map recorded events ++ others) × AreFrames v (first + length events) others rest

pub none_read : (v : Version) (first : ℕ) (bytes : List ℕ) → ReadSoFar v first bytes [] bytes
none_read v first bytes es are within = (es, refl, subst (λ (k : ℕ). AreFrames v k es bytes) (omega arith) are)

pub one_read : (v : Version) (first n : ℕ) (bytes : List ℕ) (events : List Event) (rest : List ℕ) (x : Event) (behind : List ℕ) → n ≡ first + length events → IsNext v n rest x behind → ReadSoFar v first bytes events rest → ReadSoFar v first bytes (events ++ x ∷ []) behind
one_read v first n bytes events rest x behind place next before es are within =
    let counted : length (events ++ x ∷ []) ≡ length events + 1 = omega (arith, length-append events (x ∷ [])) in
    let was = before es are (omega (arith, counted, within)) in
    by was.0 was.1 was.2
  where
    by : (others : List Recorded) → es ≡ map recorded events ++ others → AreFrames v (first + length events) others rest → (others : List Recorded) × (es ≡ map recorded (events ++ x ∷ []) ++ others) × AreFrames v (first + length (events ++ x ∷ [])) others behind
    by [] is left = absurd (omega (arith, within, ap length is, length-append events (x ∷ []), length-append (map recorded events) [], length-map events recorded))
    by (e ∷ others) is left =
        let read = next e (subst (λ (k : ℕ). BeginWith v k rest e) (sym place) left.0) in
        let here : map recorded (events ++ x ∷ []) ++ others ≡ map recorded events ++ (e ∷ others) =
        ap (λ l. l ++ others) (map-append recorded events (x ∷ [])) ∙ append_assoc (map recorded events) (recorded x ∷ []) others ∙ ap (λ r. map recorded events ++ (r ∷ others)) read.0 in (
          others,
          is ∙ sym here,
          subst (λ (k : ℕ). AreFrames v k others behind) (omega (arith, length-append events (x ∷ []))) (subst (λ (l : List ℕ). AreFrames v (suc (first + length events)) others l) (sym read.1) left.1),
        )

pub all_read : (v : Version) (first count : ℕ) (bytes : List ℕ) (events : List Event) (rest : List ℕ) → length events ≡ count → ReadSoFar v first bytes events rest → ReadAs v first count bytes events
all_read v first count bytes events rest size read es are long = by (read es are (omega (arith, size, long))) where
  by : (others : List Recorded) × (es ≡ map recorded events ++ others) × AreFrames v (first + length events) others rest → map recorded events ≡ es
  by ([], is, left) = sym (is ∙ append-nil (map recorded events))
  by (e ∷ others, is, left) = absurd (omega (arith, size, long, ap length is, length-append (map recorded events) (e ∷ others), length-map events recorded))

-- ---- what they refer to

pub one_refers : (first n : ℕ) (events : List Event) (x : Event) → n ≡ first + length events → RefersBelow n (recorded x) → ReferFrom first events → ReferFrom first (events ++ x ∷ [])
one_refers first n [] x place below before zero e is = let same : x ≡ e = cc in subst (λ (y : Event). RefersBelow (first + zero) (recorded y)) same (subst (λ (k : ℕ). RefersBelow k (recorded x)) (omega (arith, place)) below)
one_refers first n [] x place below before (suc k) e is = absurd cc
one_refers first n (d ∷ events) x place below before zero e is = before zero e is
one_refers first n (d ∷ events) x place below before (suc k) e is =
    subst (λ (m : ℕ). RefersBelow m (recorded e)) (omega arith) (one_refers (suc first) n events x (omega (arith, place)) below (λ j f at. subst (λ (m : ℕ). RefersBelow m (recorded f)) (omega arith) (before (suc j) f at)) k e is)

-- ---- what the frames of a file are read as

pub length_from : (v : Version) (n count : ℕ) (bytes : List ℕ) → length (records_from v n count bytes) ≡ count
unfolding records_from
length_from v n zero bytes = refl
length_from v n (suc count) bytes = ap suc (length_from v (suc n) count (drop (or_blank (frame_at v n bytes)).1 bytes))
