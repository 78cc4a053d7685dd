-- What the answers of a recorder say of its faults, its mirrors and what it compares.
use Rattle.std.specs.Prelude.{◌≡◌, ◌<◌, ℕ, zero, suc, Bool, true, List, [], ◌∷◌, ◌++◌, map, take, Option, Some, option_map, Result, Ok, Err}
use Rattle.std.specs.Prelude.{None as Absent}
use Rattle.wy_record.specs.declared.recorder.RecordError.{RecordError}
use Rattle.wy_record.specs.declared.recorder.RecordError.TheVariants.{SinkFault, Differs, NoMemory}

-- the bytes of each mirror, where it tells them
abbrev pub Mirrors : Type 0
Mirrors = List (Option (List ℕ))

-- a fault is answered only where the count of faults rose, and nothing else moves it
abbrev pub FaultsAs : {X : Type 0} → Result X RecordError → ℕ → ℕ → Type 0
FaultsAs (Ok x) old new = new ≡ old
FaultsAs (Err (SinkFault mirror)) old new = old < new
FaultsAs (Err (Differs event)) old new = new ≡ old
FaultsAs (Err NoMemory) old new = new ≡ old

-- the count at this place changed so, and the others stayed
abbrev pub ChangedOnlyAt : (ℕ → ℕ → Type 0) → ℕ → List ℕ → List ℕ → Type 0
ChangedOnlyAt So zero (old ∷ olds) (new ∷ news) = So old new × (news ≡ olds)
ChangedOnlyAt So (suc n) (old ∷ olds) (new ∷ news) = (new ≡ old) × ChangedOnlyAt So n olds news
ChangedOnlyAt So n _ _ = ⊥

-- a fault names a mirror whose own count rose, and every other answer leaves the counts of all mirrors
abbrev pub CountsAs : {X : Type 0} → Result X RecordError → List ℕ → List ℕ → Type 0
CountsAs (Err (SinkFault mirror)) olds news = ChangedOnlyAt (λ old new. old < new) mirror olds news
CountsAs _ olds news = news ≡ olds

-- a difference is answered only by one that compares, at its position, for this reason
abbrev pub DiffersFor : {X : Type 0} → Result X RecordError → Bool → ℕ → Type 0 → Type 0
DiffersFor (Err (Differs event)) compares position why = (compares ≡ true) × (event ≡ position) × why
DiffersFor _ compares position why = Unit {0}

-- each mirror has this more
abbrev pub with_more : List ℕ → Mirrors → Mirrors
with_more piece mirrors = map (option_map (λ bytes. bytes ++ piece)) mirrors

-- each mirror that tells has a prefix of this more
abbrev pub HavePrefix : List ℕ → Mirrors → Mirrors → Type 0
HavePrefix piece [] [] = Unit {0}
HavePrefix piece (Some old ∷ olds) (Some new ∷ news) = ((k : ℕ) × (new ≡ old ++ take k piece)) × HavePrefix piece olds news
HavePrefix piece (Absent ∷ olds) (Absent ∷ news) = HavePrefix piece olds news
HavePrefix piece _ _ = ⊥

-- each mirror has the piece behind what it had, or where the call is refused, a prefix of it
abbrev pub MirrorsTake : {X : Type 0} → Result X RecordError → List ℕ → Mirrors → Mirrors → Type 0
MirrorsTake (Ok x) piece old new = new ≡ with_more piece old
MirrorsTake (Err e) piece old new = HavePrefix piece old new

-- each mirror is as before it was opened, without a byte
abbrev pub opened : Mirrors → Mirrors
opened mirrors = map (option_map (λ bytes. [])) mirrors

-- each mirror has what closes its own bytes behind them, or where the call is refused, a prefix of that
abbrev pub HaveClosing : (List ℕ → List ℕ) → Mirrors → Mirrors → Type 0
HaveClosing closing [] [] = Unit {0}
HaveClosing closing (Some old ∷ olds) (Some new ∷ news) = ((k : ℕ) × (new ≡ old ++ take k (closing old))) × HaveClosing closing olds news
HaveClosing closing (Absent ∷ olds) (Absent ∷ news) = HaveClosing closing olds news
HaveClosing closing _ _ = ⊥

abbrev pub MirrorsClose : {X : Type 0} → Result X RecordError → (List ℕ → List ℕ) → Mirrors → Mirrors → Type 0
MirrorsClose (Ok x) closing old new = new ≡ map (option_map (λ bytes. bytes ++ closing bytes)) old
MirrorsClose (Err e) closing old new = HaveClosing closing old new
