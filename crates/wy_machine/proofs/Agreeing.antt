-- Events that agree so far with those that were expected, and the first one that doesn't.
use Rattle.std.proofs.Common.{◌≡◌, ◌≢◌, ◌∙◌, ◌<◌, ℕ, suc, Bool, true, List, [], ◌∷◌, length, Some, refl, sym, ap, ap₂, subst, arith}
use Rattle.std.specs.Prelude.{None as Absent, slice_get, Err}
use Rattle.wy_event.specs.Record.{Recorded}
use Rattle.wy_record.specs.declared.recorder.RecordError.{RecordError}
use Rattle.wy_record.specs.declared.recorder.RecordError.TheVariants.{SinkFault, Differs, NoMemory}
use Rattle.wy_record.specs.Recorders.{DiffersFor}
use Rattle.wy_machine.specs.Differences.{AgreeBelow, DiffersAsFirst, FirstDifference}

-- ---- those that agree

-- all agree, and no more is expected
agree_all : (xs ys : List Recorded) → AgreeBelow (length ys) xs ys → slice_get xs (length ys) ≡ Absent → xs ≡ ys
agree_all [] [] agree none = refl
agree_all [] (y ∷ ys) agree none = absurd (let first : Absent ≡ Some y = agree 0 (omega arith) in cc)
agree_all (x ∷ xs) [] agree none = absurd (cc)
agree_all (x ∷ xs) (y ∷ ys) agree none =
    let first : Some x ≡ Some y = agree 0 (omega arith) in
    let same : x ≡ y = cc in
    ap₂ (λ z zs. z ∷ zs) same (agree_all xs ys (λ k below. agree (suc k) (omega (arith, below))) none)

-- a run to its end, of which each event was the expected one
pub as_expected : (given started noted run : List Recorded) (n : ℕ) → started ≡ given → noted ≡ started → n ≡ length run → AgreeBelow (length run) started run → slice_get noted n ≡ Absent → given ≡ run
as_expected given started noted run n first same all agree none = sym first ∙ agree_all started run agree (ap₂ slice_get (sym same) (sym all) ∙ none)

-- ---- the first that doesn't

-- a difference at the place of an event
pub differs_at : (X : Type 0) (e : RecordError) (compares : Bool) (xs ys : List Recorded) (i n : ℕ) (y : Recorded) → (compares ≡ true → n ≡ i) → (compares ≡ true → AgreeBelow i xs ys) → slice_get ys i ≡ Some y →
    DiffersFor {X = X} (Err e) compares n (slice_get xs n ≢ Some y) → DiffersAsFirst {X = X} (Err e) compares xs ys
differs_at X (SinkFault mirror) compares xs ys i n y at agree is differs = tt
differs_at X NoMemory compares xs ys i n y at agree is differs = tt
differs_at X (Differs event) compares xs ys i n y at agree is differs =
    let place : event ≡ i = differs.1 ∙ at differs.0 in (
      differs.0,
      record {
        before = λ k below. agree differs.0 k (omega (arith, below, place));
        here = λ same. differs.2 (ap (slice_get xs) (sym differs.1) ∙ same ∙ ap (slice_get ys) place ∙ is);
      },
    )

-- a difference behind all events
pub differs_behind : (X : Type 0) (e : RecordError) (compares : Bool) (given started noted run : List Recorded) (n : ℕ) → (compares ≡ true → started ≡ given) → noted ≡ started →
    (compares ≡ true → n ≡ length run) → (compares ≡ true → AgreeBelow (length run) started run) → DiffersFor {X = X} (Err e) compares n (slice_get noted n ≢ Absent) → DiffersAsFirst {X = X} (Err e) compares given run
differs_behind X (SinkFault mirror) compares given started noted run n first same all agree differs = tt
differs_behind X NoMemory compares given started noted run n first same all agree differs = tt
differs_behind X (Differs event) compares given started noted run n first same all agree differs =
    let does = differs.0 in
    let place : event ≡ length run = differs.1 ∙ all does in (
      does,
      record {
        before = λ k below. ap (λ (xs : List Recorded). slice_get xs k) (sym (first does)) ∙ agree does k (omega (arith, below, place));
        here = λ alike. differs.2 (ap₂ slice_get (same ∙ first does) (sym differs.1) ∙ alike ∙ ap (slice_get run) place ∙ past_all run);
      },
    )
  where
    past_all : (xs : List Recorded) → slice_get xs (length xs) ≡ Absent
    past_all [] = refl
    past_all (x ∷ xs) = past_all xs

-- the same of those that were given
pub differs_given : (X : Type 0) (e : RecordError) (compares : Bool) (given started run : List Recorded) → (compares ≡ true → started ≡ given) → DiffersAsFirst {X = X} (Err e) compares started run → DiffersAsFirst {X = X} (Err e) compares given run
differs_given X (SinkFault mirror) compares given started run first differs = tt
differs_given X NoMemory compares given started run first differs = tt
differs_given X (Differs event) compares given started run first differs = (differs.0, subst (λ (xs : List Recorded). FirstDifference xs run event) (first differs.0) differs.1)
