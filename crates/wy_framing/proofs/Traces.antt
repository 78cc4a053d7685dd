-- What the mirrors of a recorder have after each of its calls, and what their counts sum to.
use Rattle.std.proofs.Common.{◌≡◌, ◌≢◌, ℕ, zero, suc, ◌<◌, List, [], ◌∷◌, ◌++◌, map, take, Some, None, option_map, Result, Ok, Err, refl, sym, ◌∙◌, ap, subst, append-nil, arith}
use Rattle.sha2.specs.Hashers.{Holds256}
use Rattle.sha2.specs.Sha256.{sha256}
use Rattle.sha2.specs.declared.Sha256.{Sha256}
use Rattle.wy_event.specs.declared.record.Tail.{Tail}
use Rattle.wy_outside.specs.Counts.{Rose}
use Rattle.wy_record.specs.Recorders.{ChangedOnlyAt, CountsAs, Mirrors, FaultsAs, HavePrefix, HaveClosing, MirrorsTake, MirrorsClose, with_more, opened}
use Rattle.wy_record.specs.declared.recorder.RecordError.{RecordError}
use Rattle.wy_record.specs.declared.recorder.RecordError.TheVariants.{SinkFault, Differs, NoMemory}
use Rattle.wy_record.specs.declared.recorder.Phase.{Phase}
use Rattle.wy_record.specs.declared.recorder.Phase.TheVariants as phases
use Rattle.wy_spelling.specs.Spelling.{closing, seal_frame, tail_frames}
use Rattle.wy_framing.specs.Served.{AreHeld, AreLow, Keeps, RoseIn, total}
use Rattle.wy_framing.proofs.Fronts.{same_has_front}

-- ---- the sum of the counts

total_rose : (n : ℕ) (olds news : List ℕ) → ChangedOnlyAt Rose n olds news → AreLow olds → total olds < total news
total_rose zero [] news rose low = absurd rose
total_rose (suc n) [] news rose low = absurd rose
total_rose zero (old ∷ olds) [] rose low = absurd rose
total_rose (suc n) (old ∷ olds) [] rose low = absurd rose
total_rose zero (old ∷ olds) (new ∷ news) rose low = omega (arith, rose.0, low 0 old refl, ap total rose.1)
total_rose (suc n) (old ∷ olds) (new ∷ news) rose low = omega (arith, rose.0, total_rose n olds news rose.1 (λ k count at. low (suc k) count at))

pub faults_as : (r : Result Unit RecordError) (olds news : List ℕ) → RoseIn r olds news → AreLow olds → FaultsAs r (total olds) (total news)
faults_as (Ok x) olds news rose low = ap total rose
faults_as (Err (SinkFault n)) olds news rose low = total_rose n olds news rose low
faults_as (Err (Differs n)) olds news rose low = absurd rose
faults_as (Err NoMemory) olds news rose low = ap total rose

-- ---- the count that a fault names

rose_alone : (n : ℕ) (olds news : List ℕ) → ChangedOnlyAt Rose n olds news → AreLow olds → ChangedOnlyAt (λ old new. old < new) n olds news
rose_alone zero [] news rose low = absurd rose
rose_alone (suc n) [] news rose low = absurd rose
rose_alone zero (old ∷ olds) [] rose low = absurd rose
rose_alone (suc n) (old ∷ olds) [] rose low = absurd rose
rose_alone zero (old ∷ olds) (new ∷ news) rose low = (omega (arith, rose.0, low 0 old refl), rose.1)
rose_alone (suc n) (old ∷ olds) (new ∷ news) rose low = (rose.0, rose_alone n olds news rose.1 (λ k count at. low (suc k) count at))

pub counts_as : (r : Result Unit RecordError) (olds news : List ℕ) → RoseIn r olds news → AreLow olds → CountsAs r olds news
counts_as (Ok x) olds news rose low = rose
counts_as (Err (SinkFault n)) olds news rose low = rose_alone n olds news rose low
counts_as (Err (Differs n)) olds news rose low = absurd rose
counts_as (Err NoMemory) olds news rose low = rose

-- ---- what the hasher holds

pub opened_held : (H : List ℕ → Type 0) (mirrors : Mirrors) → H [] → AreHeld H (opened mirrors)
opened_held H [] empty = tt
opened_held H (None ∷ rest) empty = opened_held H rest empty
opened_held H (Some old ∷ rest) empty = (empty, opened_held H rest empty)

more_held : (H G : List ℕ → Type 0) (piece : List ℕ) (mirrors : Mirrors) → ((bytes : List ℕ) → H bytes → G (bytes ++ piece)) → AreHeld H mirrors → AreHeld G (with_more piece mirrors)
more_held H G piece [] more held = tt
more_held H G piece (None ∷ rest) more held = more_held H G piece rest more held
more_held H G piece (Some bytes ∷ rest) more held = (more bytes held.0, more_held H G piece rest more held.1)

-- after more was put, and fed to the hasher
pub still_held : (H G : List ℕ → Type 0) (piece : List ℕ) (olds news : Mirrors) → news ≡ with_more piece olds → ((bytes : List ℕ) → H bytes → G (bytes ++ piece)) → AreHeld H olds → AreHeld G news
still_held H G piece olds news grown more held = subst (λ (m : Mirrors). AreHeld G m) (sym grown) (more_held H G piece olds more held)

-- after the opening was put to mirrors without a byte
pub first_held : (H G : List ℕ → Type 0) (piece : List ℕ) (olds news : Mirrors) → opened olds ≡ olds → news ≡ with_more piece olds → H [] → ((bytes : List ℕ) → H bytes → G (bytes ++ piece)) → AreHeld G news
first_held H G piece olds news empty grown begun more =
    still_held H G piece olds news grown more (subst (λ (m : Mirrors). AreHeld H m) empty (opened_held H olds begun))

-- ---- the refusals before anything is put

pub opened_has_front : (piece : List ℕ) (mirrors : Mirrors) → opened mirrors ≡ mirrors → HavePrefix piece (opened mirrors) mirrors
opened_has_front piece mirrors empty =
    let P : Mirrors → Type 0 = λ m. HavePrefix piece m mirrors in
    subst P (sym empty) (same_has_front piece mirrors)

pub opened_takes : (r : Result Unit RecordError) (piece : List ℕ) (olds news : Mirrors) → opened olds ≡ olds → MirrorsTake r piece olds news → MirrorsTake r piece (opened olds) news
opened_takes r piece olds news empty taken =
    let P : Mirrors → Type 0 = λ m. MirrorsTake r piece m news in
    subst P (sym empty) taken

pub same_has_closing : (close : List ℕ → List ℕ) (mirrors : Mirrors) → HaveClosing close mirrors mirrors
same_has_closing close [] = tt
same_has_closing close (None ∷ rest) = same_has_closing close rest
same_has_closing close (Some bytes ∷ rest) = ((0, sym (append-nil bytes)), same_has_closing close rest)

-- ---- the seal

-- the piece is what closes the bytes of each mirror
AllClosed : List ℕ → (List ℕ → List ℕ) → Mirrors → Type 0
AllClosed piece close [] = Unit {0}
AllClosed piece close (None ∷ rest) = AllClosed piece close rest
AllClosed piece close (Some bytes ∷ rest) = (piece ≡ close bytes) × AllClosed piece close rest

all_closed : (H : List ℕ → Type 0) (piece : List ℕ) (close : List ℕ → List ℕ) (mirrors : Mirrors) → ((bytes : List ℕ) → H bytes → piece ≡ close bytes) → AreHeld H mirrors → AllClosed piece close mirrors
unfolding AllClosed
all_closed H piece close [] closes held = tt
all_closed H piece close (None ∷ rest) closes held = all_closed H piece close rest closes held
all_closed H piece close (Some bytes ∷ rest) closes held = (closes bytes held.0, all_closed H piece close rest closes held.1)

closed_more : (piece : List ℕ) (close : List ℕ → List ℕ) (mirrors : Mirrors) → AllClosed piece close mirrors → with_more piece mirrors ≡ map (option_map (λ bytes. bytes ++ close bytes)) mirrors
unfolding AllClosed
closed_more piece close [] closed = refl
closed_more piece close (None ∷ rest) closed = ap (λ m. None ∷ m) (closed_more piece close rest closed)
closed_more piece close (Some bytes ∷ rest) closed = ap (λ p. Some (bytes ++ p) ∷ with_more piece rest) closed.0 ∙ ap (λ m. Some (bytes ++ close bytes) ∷ m) (closed_more piece close rest closed.1)

front_closes : (piece : List ℕ) (close : List ℕ → List ℕ) (olds news : Mirrors) → AllClosed piece close olds → HavePrefix piece olds news → HaveClosing close olds news
unfolding AllClosed
front_closes piece close [] [] closed front = tt
front_closes piece close [] (new ∷ news) closed front = absurd front
front_closes piece close (None ∷ olds) [] closed front = absurd front
front_closes piece close (Some old ∷ olds) [] closed front = absurd front
front_closes piece close (None ∷ olds) (None ∷ news) closed front = front_closes piece close olds news closed front
front_closes piece close (None ∷ olds) (Some new ∷ news) closed front = absurd front
front_closes piece close (Some old ∷ olds) (None ∷ news) closed front = absurd front
front_closes piece close (Some old ∷ olds) (Some new ∷ news) closed front = ((front.0.0, front.0.1 ∙ ap (λ p. old ++ take front.0.0 p) closed.0), front_closes piece close olds news closed.1 front.1)

closes : (r : Result Unit RecordError) (piece : List ℕ) (close : List ℕ → List ℕ) (olds news : Mirrors) → AllClosed piece close olds → MirrorsTake r piece olds news → MirrorsClose r close olds news
closes (Ok x) piece close olds news closed taken = taken ∙ closed_more piece close olds closed
closes (Err e) piece close olds news closed taken = front_closes piece close olds news closed taken

-- what was put is the tail and the seal of all that the hasher holds
sealing : (tail : Tail) (frames piece seal bytes : List ℕ) → frames ≡ tail_frames tail → piece ≡ frames ++ seal_frame seal → seal ≡ sha256 (bytes ++ frames) → piece ≡ closing tail bytes
unfolding closing
sealing tail frames piece seal bytes framed put sealed = put ∙ ap (λ d. frames ++ seal_frame d) sealed ∙ ap (λ f. f ++ seal_frame (sha256 (bytes ++ f))) framed

pub sealed_each : (r : Result Unit RecordError) (H G : List ℕ → Type 0) (tail : Tail) (frames piece seal : List ℕ) (olds news : Mirrors) → frames ≡ tail_frames tail → piece ≡ frames ++ seal_frame seal → ((bytes : List ℕ) → H bytes → G (bytes ++ frames)) → ((bytes : List ℕ) → G bytes → seal ≡ sha256 bytes) → AreHeld H olds → MirrorsTake r piece olds news → MirrorsClose r (closing tail) olds news
sealed_each r H G tail frames piece seal olds news framed put fed ended held taken =
    closes r piece (closing tail) olds news (all_closed H piece (closing tail) olds (λ bytes h. sealing tail frames piece seal bytes framed put (ended (bytes ++ frames) (fed bytes h))) held) taken

-- ---- what the recorder keeps

abbrev IsReady : Phase → Type 0
IsReady phases.Ready = Unit {0}
IsReady _ = ⊥

abbrev IsRecording : Phase → Type 0
IsRecording phases.Recording = Unit {0}
IsRecording _ = ⊥

-- a recorder that has failed keeps nothing
pub failed_keeps : (h : Sha256) (mirrors : Mirrors) (counts : List ℕ) → Keeps phases.Failed h mirrors counts
failed_keeps h mirrors counts = record {
  empty = λ ready. absurd (subst IsReady (sym ready) tt);
  low = λ awake. absurd (awake refl);
  held = λ recording. absurd (subst IsRecording (sym recording) tt);
}

pub ready_keeps : (h : Sha256) (mirrors : Mirrors) (counts : List ℕ) → opened mirrors ≡ mirrors → AreLow counts → Keeps phases.Ready h mirrors counts
ready_keeps h mirrors counts empty low = record {
  empty = λ ready. empty;
  low = λ awake. low;
  held = λ recording. absurd (subst IsRecording (sym recording) tt);
}

pub recording_keeps : (h : Sha256) (mirrors : Mirrors) (counts : List ℕ) → AreLow counts → AreHeld (Holds256 h) mirrors → Keeps phases.Recording h mirrors counts
recording_keeps h mirrors counts low held = record {
  empty = λ ready. absurd (subst IsReady (sym ready) tt);
  low = λ awake. low;
  held = λ recording. held;
}

pub done_keeps : (h : Sha256) (mirrors : Mirrors) (counts : List ℕ) → AreLow counts → Keeps phases.Done h mirrors counts
done_keeps h mirrors counts low = record {
  empty = λ ready. absurd (subst IsReady (sym ready) tt);
  low = λ awake. low;
  held = λ recording. absurd (subst IsRecording (sym recording) tt);
}

-- the counts are low before a call that is taken
abbrev IsAwake : Phase → Type 0
IsAwake phases.Failed = ⊥
IsAwake _ = Unit {0}

pub low_ready : (phase : Phase) (h : Sha256) (mirrors : Mirrors) (counts : List ℕ) → phase ≡ phases.Ready → Keeps phase h mirrors counts → AreLow counts
low_ready phase h mirrors counts is keeps = keeps.low (λ failed. subst IsAwake failed (subst IsAwake (sym is) tt))

pub low_recording : (phase : Phase) (h : Sha256) (mirrors : Mirrors) (counts : List ℕ) → phase ≡ phases.Recording → Keeps phase h mirrors counts → AreLow counts
low_recording phase h mirrors counts is keeps = keeps.low (λ failed. subst IsAwake failed (subst IsAwake (sym is) tt))

pub low_kept : (olds news : List ℕ) → news ≡ olds → AreLow olds → AreLow news
low_kept olds news kept low = subst AreLow (sym kept) low

-- ---- one list under two names

pub fed_alike : (H G : List ℕ → Type 0) (fed piece : List ℕ) → fed ≡ piece → ((bytes : List ℕ) → H bytes → G (bytes ++ fed)) → (bytes : List ℕ) → H bytes → G (bytes ++ piece)
fed_alike H G fed piece alike more =
    let P : List ℕ → Type 0 = λ p. (bytes : List ℕ) → H bytes → G (bytes ++ p) in
    subst P alike more

pub taken_alike : (r : Result Unit RecordError) (put piece : List ℕ) (olds news : Mirrors) → put ≡ piece → MirrorsTake r put olds news → MirrorsTake r piece olds news
taken_alike r put piece olds news alike taken =
    let P : List ℕ → Type 0 = λ p. MirrorsTake r p olds news in
    subst P alike taken
