-- The records of frames that stand one behind another are read back.
use Rattle.std.proofs.Common.{◌≡◌, ℕ, zero, suc, ◌+◌, ◌≤◌, List, [], ◌∷◌, ◌++◌, length, length-append, map, take, drop, Some, Result, Ok, Err, refl, sym, ap, ◌∙◌, subst, arith, append_assoc}
use Rattle.std.specs.Prelude.{slice_get}
use Rattle.std.specs.List.{AllByRecursion}
use Rattle.std.proofs.lemmas.List.{drop_at}
use Rattle.wy_kernel.specs.Limits.{trace_limit}
use Rattle.wy_event.specs.declared.record.Version.{Version}
use Rattle.wy_event.specs.declared.record.Event.{Event}
use Rattle.wy_event.specs.Record.{Recorded, recorded}
use Rattle.wy_fitting.specs.Fits.{Fits, IsTold}
use Rattle.wy_spelling.specs.Spelling.{event_frame, events_bytes}
use Rattle.wy_payload.specs.declared.fault.DamageRule.{DamageRule}
use Rattle.wy_payload.specs.declared.fault.Fault.TheVariants as fault
use Rattle.wy_view.specs.References.{RefersBelow}
use Rattle.wy_frame_reading.specs.Begins.{BeginWith}
use Rattle.wy_frame_reading.specs.Fields.{frame_at}
use Rattle.wy_frame_reading.proofs.Frames.{fails_is, found_is}
use Rattle.law_reading.specs.Spelled.{AreBytes}
use Rattle.law_reading.proofs.SpelledNumbers.{bytes_behind}
use Rattle.wy_page.specs.Frames.{AreFrames, or_blank, records_from}
use Rattle.wy_page.proofs.Placements.{more_bytes}

-- the frame of a record n can be read back alone
pub record Good (v : Version) (n : ℕ) (e : Recorded) : Type 0 where
  pub fits : Fits e
  pub below : RefersBelow n e
  pub told : IsTold v e
  pub short : length (event_frame v e) ≤ trace_limit

abbrev pub AllGood : Version → ℕ → List Event → Type 0
AllGood v n [] = Unit {0}
AllGood v n (x ∷ es) = Good v n (recorded x) × AllGood v (suc n) es

pub good_behind : (v : Version) (k n : ℕ) (es : List Event) → AllGood v n es → AllGood v (n + k) (drop k es)
good_behind v zero n es good = subst (λ (m : ℕ). AllGood v m es) (omega arith) good
good_behind v (suc k) n [] good = tt
good_behind v (suc k) n (x ∷ es) good = subst (λ (m : ℕ). AllGood v m (drop k es)) (omega arith) (good_behind v k (suc n) es good.1)

pub good_before : (v : Version) (k n : ℕ) (es : List Event) → AllGood v n es → AllGood v n (take k es)
good_before v zero n es good = tt
good_before v (suc k) n [] good = tt
good_before v (suc k) n (x ∷ es) good = (good.0, good_before v k (suc n) es good.1)

pub all_good : (v : Version) (n : ℕ) (es : List Event) → AllByRecursion Fits (map recorded es) → ((k : ℕ) (x : Event) → slice_get es k ≡ Some x → RefersBelow (n + k) (recorded x)) → AllByRecursion (IsTold v) (map recorded es) → length (events_bytes v es) ≤ trace_limit → AllGood v n es
all_good v n [] fit below told short = tt
all_good v n (x ∷ es) fit below told short =
    let long : length (events_bytes v (x ∷ es)) ≡ length (event_frame v (recorded x)) + length (events_bytes v es) = ap length (more_bytes v x es) ∙ length-append (event_frame v (recorded x)) (events_bytes v es) in (
      record { fits = fit.0; below = subst (λ (m : ℕ). RefersBelow m (recorded x)) (omega arith) (below 0 x refl); told = told.0; short = omega (arith, long, short) },
      all_good v (suc n) es fit.1 (λ k y at. subst (λ (m : ℕ). RefersBelow m (recorded y)) (omega arith) (below (suc k) y at)) told.1 (omega (arith, long, short)),
    )

-- they stand where their frames do
pub frames_stand : (v : Version) (n : ℕ) (es : List Event) (others : List ℕ) → AllGood v n es → AreFrames v n (map recorded es) (events_bytes v es ++ others)
frames_stand v n [] others good = tt
frames_stand v n (x ∷ es) others good =
    let frame = event_frame v (recorded x) in
    let rest = events_bytes v es ++ others in
    let parts : events_bytes v (x ∷ es) ++ others ≡ frame ++ rest = ap (λ l. l ++ others) (more_bytes v x es) ∙ append_assoc frame (events_bytes v es) others in
    let behind : drop (length frame) (events_bytes v (x ∷ es) ++ others) ≡ rest = ap (drop (length frame)) parts ∙ drop_at frame rest (length frame) refl in (
      record { fits = good.0.fits; below = good.0.below; told = good.0.told; short = good.0.short; rest = rest; starts = parts },
      subst (AreFrames v (suc n) (map recorded es)) (sym behind) (frames_stand v (suc n) es others good.1),
    )

-- and are read so
record IsRead (v : Version) (n : ℕ) (bytes : List ℕ) (e : Recorded) : Type 0 where
  record_is : recorded (or_blank (frame_at v n bytes)).0 ≡ e
  size_is : (or_blank (frame_at v n bytes)).1 ≡ length (event_frame v e)

is_read : (v : Version) (n : ℕ) (bytes : List ℕ) (e : Recorded) → AreBytes bytes → BeginWith v n bytes e → IsRead v n bytes e
is_read v n bytes e are begin = by (frame_at v n bytes) refl where
  by : (r : Result (Event × ℕ) DamageRule) → frame_at v n bytes ≡ r → IsRead v n bytes e
  by (Ok found) is =
      let shown = found_is v n bytes found are is in
      let same : e ≡ recorded found.0 = shown.2 e begin in
      record { record_is = ap (λ r. recorded (or_blank r).0) is ∙ sym same; size_is = ap (λ r. (or_blank r).1) is ∙ shown.1 ∙ ap (λ r. length (event_frame v r)) (sym same) }
  by (Err d) is = absurd (fails_is v n bytes (fault.Broken d) d refl is e begin)

pub read_back : (v : Version) (n : ℕ) (es : List Recorded) (bytes : List ℕ) → AreBytes bytes → AreFrames v n es bytes → records_from v n (length es) bytes ≡ es
unfolding records_from
read_back v n [] bytes are stand = refl
read_back v n (e ∷ es) bytes are stand =
    let one = is_read v n bytes e are stand.0 in
    let others : records_from v (suc n) (length es) (drop (length (event_frame v e)) bytes) ≡ es = read_back v (suc n) es (drop (length (event_frame v e)) bytes) (bytes_behind (length (event_frame v e)) bytes are) stand.1 in
    ap (λ r. r ∷ records_from v (suc n) (length es) (drop (or_blank (frame_at v n bytes)).1 bytes)) one.record_is
    ∙ ap (λ k. e ∷ records_from v (suc n) (length es) (drop k bytes)) one.size_is
    ∙ ap (λ l. e ∷ l) others
