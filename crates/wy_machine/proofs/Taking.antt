-- A recorder that took events takes one more, or refuses it.
use Rattle.std.proofs.Common.{◌≡◌, ◌≢◌, ◌∙◌, ◌<◌, ◌+◌, ℕ, zero, suc, Bool, true, false, List, [], ◌∷◌, ◌++◌, length, map, take, drop, get_or, append_assoc, Some, Err, refl, sym, ap, ap₂, subst, arith}
use Rattle.std.specs.Prelude.{slice_get, if◌then◌else◌}
use Rattle.std.specs.Prelude.{None as Absent}
use Rattle.std.specs.List.{concat}
use Rattle.std.proofs.Math.Seq.{take-suc}
use Rattle.std.proofs.lemmas.List.{append-nil, length-append, map-append, take-append-drop}
use Rattle.std.proofs.lemmas.List.Folds.{concat-append}
use Rattle.wy_event.specs.Record.{Recorded}
use Rattle.wy_record.specs.declared.recorder.Phase.TheVariants.{Failed, Recording}
use Rattle.wy_record.specs.declared.recorder.RecordError.{RecordError}
use Rattle.wy_record.specs.Recorders.{CountsAs, DiffersFor, FaultsAs, HavePrefix, Mirrors, with_more}
use Rattle.wy_machine.specs.Differences.{AgreeBelow, DiffersAsFirst}
use Rattle.wy_machine.specs.Shown.{HasRefused, HasTaken, Shown}
use Rattle.wy_machine.proofs.Agreeing.{differs_at}
use Rattle.wy_machine.proofs.Mirrors.{front_behind, front_more, with_both, with_nothing}

-- ---- lists

seam : (es : List Recorded) (e : Recorded) (rest : List Recorded) → slice_get (es ++ e ∷ rest) (length es) ≡ Some e
seam [] e rest = refl
seam (y ∷ es) e rest = seam es e rest

inside : (es rest : List Recorded) (k : ℕ) → k < length es → slice_get es k ≡ slice_get (es ++ rest) k
inside [] rest k below = absurd (omega (arith, below))
inside (y ∷ es) rest zero below = refl
inside (y ∷ es) rest (suc k) below = inside es rest k (omega (arith, below))

-- one more agrees
agree_behind : (xs es : List Recorded) (e : Recorded) → AgreeBelow (length es) xs es → slice_get xs (length es) ≡ Some e → AgreeBelow (length (es ++ e ∷ [])) xs (es ++ e ∷ [])
agree_behind xs [] e agree has zero below = has
agree_behind xs [] e agree has (suc k) below = absurd (omega (arith, below))
agree_behind [] (y ∷ es) e agree has k below = absurd (let first : Absent ≡ Some y = agree 0 (omega arith) in cc)
agree_behind (x ∷ xs) (y ∷ es) e agree has zero below = agree 0 (omega arith)
agree_behind (x ∷ xs) (y ∷ es) e agree has (suc k) below = agree_behind xs es e (λ j less. agree (suc j) (omega (arith, less))) has k (omega (arith, below))

kept_more : (keeps : Bool) (first old new es : List Recorded) (e : Recorded) → old ≡ (if keeps then first ++ es else first) → new ≡ (if keeps then old ++ e ∷ [] else old) → new ≡ (if keeps then first ++ (es ++ e ∷ []) else first)
kept_more true first old new es e was is = is ∙ ap (λ xs. xs ++ e ∷ []) was ∙ append_assoc first es (e ∷ [])
kept_more false first old new es e was is = is ∙ was

place_more : (compares : Bool) (old new : ℕ) (es : List Recorded) (e : Recorded) → compares ≡ true → old ≡ length es → new ≡ (if compares then suc old else old) → new ≡ length (es ++ e ∷ [])
place_more true old new es e does was is = is ∙ ap suc was ∙ sym (length-append es (e ∷ []) ∙ omega arith)
place_more false old new es e does was is = absurd (cc)

module _ (keeps compares : Bool) (frame : Recorded → List ℕ) (first : Shown) where
  abbrev spelled : List Recorded → List ℕ
  spelled es = concat (map frame es)

  joined : (xs ys : List Recorded) → spelled (xs ++ ys) ≡ spelled xs ++ spelled ys
  joined xs ys = ap concat (map-append frame xs ys) ∙ concat-append (map frame xs) (map frame ys)

  one_more : (es : List Recorded) (e : Recorded) → spelled (es ++ e ∷ []) ≡ spelled es ++ frame e
  one_more es e = joined es (e ∷ []) ∙ ap (λ x. spelled es ++ x) (append-nil (frame e))

  nothing_kept : (b : Bool) (xs : List Recorded) → xs ≡ (if b then xs ++ [] else xs)
  nothing_kept true xs = sym (append-nil xs)
  nothing_kept false xs = refl

  pub nothing_taken : first.phase ≡ Recording → (compares ≡ true → first.position ≡ 0) → HasTaken keeps compares frame first first []
  nothing_taken records at = record {
    phase = records;
    kept = nothing_kept keeps first.kept;
    expected = refl;
    position = at;
    agreed = λ does k below. absurd (omega (arith, below));
    faults = refl;
    counts = refl;
    mirrors = sym (with_nothing first.mirrors);
  }

  module _ (old new : Shown) (es : List Recorded) (e : Recorded) (h : HasTaken keeps compares frame first old es) where
    pub took : new.phase ≡ Recording → new.kept ≡ (if keeps then old.kept ++ e ∷ [] else old.kept) → new.expected ≡ old.expected → new.position ≡ (if compares then suc old.position else old.position) →
        (compares ≡ true → slice_get old.expected old.position ≡ Some e) → new.faults ≡ old.faults → new.counts ≡ old.counts → new.mirrors ≡ with_more (frame e) old.mirrors → HasTaken keeps compares frame first new (es ++ e ∷ [])
    took records kept expected position has faults counts mirrors = record {
      phase = records;
      kept = kept_more keeps first.kept old.kept new.kept es e h.kept kept;
      expected = expected ∙ h.expected;
      position = λ does. place_more compares old.position new.position es e does (h.position does) position;
      agreed = λ does. agree_behind first.expected es e (h.agreed does) (ap₂ slice_get (sym h.expected) (sym (h.position does)) ∙ has does);
      faults = faults ∙ h.faults;
      counts = counts ∙ h.counts;
      mirrors = mirrors ∙ ap (with_more (frame e)) h.mirrors ∙ with_both (spelled es) (frame e) first.mirrors ∙ ap (λ x. with_more x first.mirrors) (sym (one_more es e));
    }

    pub refused : (rest : List Recorded) (x : RecordError) → new.phase ≡ Failed → new.expected ≡ old.expected → DiffersFor {X = Unit {0}} (Err x) compares old.position (slice_get old.expected old.position ≢ Some e) →
        FaultsAs {X = Unit {0}} (Err x) old.faults new.faults → CountsAs {X = Unit {0}} (Err x) old.counts new.counts → HavePrefix (frame e) old.mirrors new.mirrors → HasRefused keeps compares frame first new (es ++ e ∷ rest) x
    refused rest x failed expected differs faults counts mirrors = record {
      phase = failed;
      expected = expected ∙ h.expected;
      differs = differs_at (Unit {0}) x compares first.expected (es ++ e ∷ rest) (length es) old.position e h.position
          (λ does k below. h.agreed does k below ∙ inside es (e ∷ rest) k below) (seam es e rest)
          (subst (λ (zs : List Recorded). DiffersFor {X = Unit {0}} (Err x) compares old.position (slice_get zs old.position ≢ Some e)) h.expected differs);
      faults = subst (λ n. FaultsAs {X = Unit {0}} (Err x) n new.faults) h.faults faults;
      counts = subst (λ ns. CountsAs {X = Unit {0}} (Err x) ns new.counts) h.counts counts;
      mirrors =
          let more : HavePrefix (spelled es ++ frame e) first.mirrors new.mirrors = front_behind (spelled es) (frame e) first.mirrors new.mirrors (subst (λ (ms : Mirrors). HavePrefix (frame e) ms new.mirrors) h.mirrors mirrors) in
          subst (λ (bytes : List ℕ). HavePrefix bytes first.mirrors new.mirrors) (append_assoc (spelled es) (frame e) (spelled rest) ∙ sym (joined es (e ∷ rest))) (front_more (spelled es ++ frame e) (spelled rest) first.mirrors new.mirrors more);
    }

-- ---- the items of a slice

module _ {E : Type 0} (seen : E → Recorded) (before : List Recorded) (es : List E) (i : ℕ) (e : E) where
  pub items_more : i < length es → get_or es i e ≡ e → (before ++ map seen (take i es)) ++ seen e ∷ [] ≡ before ++ map seen (take (i + 1) es)
  items_more below is =
      let next : i + 1 ≡ suc i = omega arith in
      let more : take (i + 1) es ≡ take i es ++ e ∷ [] = ap (λ k. take k es) next ∙ take-suc es i e below ∙ ap (λ x. take i es ++ x ∷ []) is in
      append_assoc before (map seen (take i es)) (seen e ∷ []) ∙ ap (λ xs. before ++ xs) (sym (ap (map seen) more ∙ map-append seen (take i es) (e ∷ [])))

  pub items_split : (rest : List Recorded) → i < length es → get_or es i e ≡ e → (before ++ map seen (take i es)) ++ seen e ∷ (map seen (drop (i + 1) es) ++ rest) ≡ (before ++ map seen es) ++ rest
  items_split rest below is =
      sym (append_assoc (before ++ map seen (take i es)) (seen e ∷ []) (map seen (drop (i + 1) es) ++ rest))
      ∙ ap (λ xs. xs ++ (map seen (drop (i + 1) es) ++ rest)) (items_more below is)
      ∙ sym (append_assoc (before ++ map seen (take (i + 1) es)) (map seen (drop (i + 1) es)) rest)
      ∙ ap (λ xs. xs ++ rest) (append_assoc before (map seen (take (i + 1) es)) (map seen (drop (i + 1) es)) ∙ ap (λ xs. before ++ xs) (sym (map-append seen (take (i + 1) es) (drop (i + 1) es)) ∙ ap (map seen) (take-append-drop (i + 1) es)))
