-- The end of a run keeps the rules of a reader.
use Rattle.std.proofs.Common.{◌≡◌, ◌≤◌, ◌⊎◌, inl, inr, ⊎_elim, arith, ℕ, zero, suc, Bool, true, false, ◌||◌, List, length, Some, refl, sym, ap, ◌∙◌, subst}
use Rattle.std.specs.Prelude.{None as Absent}
use Rattle.std.specs.Prelude.{map, nat_le, ◌==◌, slice_get, if◌then◌else◌, All}
use Rattle.std.specs.Option.{option_map}
use Rattle.std.proofs.lemmas.Bool.{eqb-true}
use Rattle.std.proofs.lemmas.Bool.Decides.{nat_tests}
use Rattle.std.proofs.lemmas.List.{length-map}
use Rattle.std.proofs.lemmas.Option.{slice_get-map, slice_get-get_or}
use Rattle.std.proofs.Math.Seq.{take-length}
use Rattle.wy_kernel.specs.View.{NONE, present}
use Rattle.wy_event.specs.declared.record.Cover.{Cover}
use Rattle.wy_event.specs.Record.{Recorded}
use Rattle.wy_steps.specs.State.{Covered}
use Rattle.wy_meaning.specs.Kept.{covered_of}
use Rattle.wy_fitting.specs.Fits.{IsNumber}
use Rattle.wy_payload.specs.declared.known.Known.{Known}
use Rattle.wy_payload.specs.declared.known.Role.TheVariants as role
use Rattle.wy_payload.specs.Rules.{Broken, in_range, reference_rule}
use Rattle.wy_payload.specs.Closing.{first_rule, cause_rule, is_thrown, last_rule}
use Rattle.law_shaped.specs.Shaped.{Shaped, Below, OptionBelow, IsThrow, IsLeaving, FirstFits, CauseFits, CoverFits}
use Rattle.law_reading.specs.Readable.{known_in, Refers, CoverMayStand}
use Rattle.law_in_range.specs.InRange.{LastFits}
use Rattle.law_own_traces.proofs.Known.{below_refers}

-- each of a list, by its number
pub all_there : {X : Type 0} (P : X → Type 0) (xs : List X) → ((k : ℕ) (x : X) → slice_get xs k ≡ Some x → P x) → All P xs
all_there P xs h k d lt = h k _ (slice_get-get_or xs k d lt)

-- the moment of a first begin
first_passes : (begins first count : ℕ) (b : Bool) → (first == NONE) ≡ b → FirstFits count begins (if b then Absent else Some first) → first_rule begins count first ≡ Absent
first_passes zero first count true e h = ap in_range e
first_passes zero first count false e h = absurd h
first_passes (suc k) first count true e h = absurd h
first_passes (suc k) first count false e h = ap in_range (ap (λ (b : Bool). if b then first == NONE else nat_le first count) some ∙ below)
  where
    some : (suc k == 0) ≡ false
    some = grind (arith, nat_tests)

    below : nat_le first count ≡ true
    below = grind (arith, nat_tests)

pub first_stands : (begins first count : ℕ) → FirstFits count begins (present first) → first_rule begins count first ≡ Absent
unfolding present
first_stands begins first count h = first_passes begins first count (first == NONE) refl h

either_way : (b : Bool) (x : Broken) → x ≡ Absent → (if b then Absent else x) ≡ Absent
either_way true x e = refl
either_way false x e = e

module _ (rs : List Recorded) (shaped : (n : ℕ) (e : Recorded) → slice_get rs n ≡ Some e → Shaped rs n e) where
  abbrev known : List Known
  known = map known_in rs

  leaving_refers : (k : ℕ) → Below rs IsLeaving (length rs) k → Refers role.Leaving known k
  leaving_refers k h = subst (λ (l : List Recorded). Refers role.Leaving (map known_in l) k) (take-length rs) (below_refers rs shaped (length rs) role.Leaving IsLeaving (λ k h. h) k h)

  throw_refers : (k : ℕ) → Below rs IsThrow (length rs) k → Refers role.Throw known k
  throw_refers k h = subst (λ (l : List Recorded). Refers role.Throw (map known_in l) k) (take-length rs) (below_refers rs shaped (length rs) role.Throw IsThrow (λ k h. h) k h)

  cause_stands : (cause : ℕ) → CauseFits rs (length rs) cause → cause_rule known cause ≡ Absent
  unfolding cause_rule
  cause_stands cause (inl e) = subst (λ n. cause_rule known n ≡ Absent) (sym e) refl
  cause_stands cause (inr (inl e)) = subst (λ n. cause_rule known n ≡ Absent) (sym e) refl
  cause_stands cause (inr (inr h)) = either_way (cause == NONE || cause == 4294967294) (reference_rule role.Leaving known cause) (leaving_refers cause h)

  pub cover_stands : (c : Cover) → IsNumber c.begins → CoverFits rs (length rs) (covered_of c) → (covered_of c).ends ≤ (covered_of c).begins → CoverMayStand known c
  unfolding covered_of
  cover_stands c n h le = record {
    begins = n;
    ends = le;
    first = subst (λ m. first_rule c.begins m c.first ≡ Absent) (sym (length-map rs known_in)) (first_stands c.begins c.first (length rs) h.first);
    cause = cause_stands c.cause h.cause;
  }

  pub covers_stand : (cs : List Cover) (cover : List Covered) → map covered_of cs ≡ cover → All (λ (c : Cover). IsNumber c.begins) cs → ((k : ℕ) (c : Covered) → slice_get cover k ≡ Some c → CoverFits rs (length rs) c × c.ends ≤ c.begins) → All (CoverMayStand known) cs
  covers_stand cs cover e n h = λ k d lt.
      let there = slice_get-get_or cs k d lt in
      let f = h k _ (ap (λ (l : List Covered). slice_get l k) (sym e) ∙ slice_get-map covered_of cs k ∙ ap (option_map covered_of) there) in
      cover_stands _ (n k d lt) f.0 f.1

  -- ---- what ended the run

  abbrev Thrown : ℕ → Type 0
  Thrown stop = (stop ≡ 1) ⊎ (stop ≡ 11)

  thrown_is : (stop : ℕ) → Thrown stop → is_thrown stop ≡ true
  thrown_is stop (inl e) = ap is_thrown e
  thrown_is stop (inr e) = ap is_thrown e

  or_true : (a b : Bool) → (a || b) ≡ true → (a ≡ true) ⊎ (b ≡ true)
  or_true true b e = inl refl
  or_true false b e = inr e

  is_thrown_by : (stop : ℕ) → is_thrown stop ≡ true → Thrown stop
  is_thrown_by stop e = ⊎_elim (λ q. inl (eqb-true stop 1 q)) (λ q. inr (eqb-true stop 11 q)) (or_true (stop == 1) (stop == 11) e)

  not_thrown : (stop : ℕ) → (Thrown stop → ⊥) → is_thrown stop ≡ false
  not_thrown stop h = go (is_thrown stop) refl
    where
      go : (b : Bool) → is_thrown stop ≡ b → b ≡ false
      go true q = absurd (h (is_thrown_by stop q))
      go false q = refl

  there_is : (last e : ℕ) (b : Bool) → (if b then Absent else Some last) ≡ Some e → last ≡ e
  there_is last e true q = absurd (cc q)
  there_is last e false q = cc q

  absent_is : (last : ℕ) (b : Bool) → (if b then Absent else Some last) ≡ Absent → b ≡ true
  absent_is last true q = refl
  absent_is last false q = absurd (cc q)

  thrown_stands : (stop last e : ℕ) → Thrown stop → present last ≡ Some e → OptionBelow rs IsThrow (length rs) (present last) → last_rule known stop last ≡ Absent
  unfolding last_rule present
  thrown_stands stop last e t q h =
      let same : last ≡ e = there_is last e (last == NONE) q in
      let below : Below rs IsThrow (length rs) e = subst (λ o. OptionBelow rs IsThrow (length rs) o) q h in
      ap (λ (b : Bool). if b then reference_rule role.Throw known last else in_range (last == NONE)) (thrown_is stop t) ∙ ap (reference_rule role.Throw known) same ∙ throw_refers e below

  ended_stands : (stop last : ℕ) → (Thrown stop → ⊥) → present last ≡ Absent → last_rule known stop last ≡ Absent
  unfolding last_rule present
  ended_stands stop last t q = ap (λ (b : Bool). if b then reference_rule role.Throw known last else in_range (last == NONE)) (not_thrown stop t) ∙ ap in_range (absent_is last (last == NONE) q)

  pub last_stands : (stop last : ℕ) → LastFits stop (present last) → OptionBelow rs IsThrow (length rs) (present last) → last_rule known stop last ≡ Absent
  last_stands stop last (inl h) b = thrown_stands stop last h.1.0 h.0 h.1.1 b
  last_stands stop last (inr h) b = ended_stands stop last h.0 h.1
