-- The frames at an event of a run are the bodies that were active.
use Rattle.std.proofs.Common.{◌≡◌, ℕ, zero, suc, true, false, ◌<◌, ◌≤◌, List, [], ◌∷◌, ◌++◌, length, ◌⊎◌, inl, inr, ⊎_elim, Option, Some, refl, sym, ap, ◌∙◌, subst, arith}
use Rattle.std.specs.Prelude.{None as Absent}
use Rattle.std.specs.Prelude.{slice_get, if◌then◌else◌, filter, map, option_map}
use Rattle.std.proofs.lemmas.Option.{slice_get-map}
use Rattle.std.proofs.lemmas.List.{length-reverse}
use mathlib.Core.List.{reverse, reverse-cons}
use Rattle.wy_kernel.specs.Program.{Program}
use Rattle.wy_event.specs.Record.{Recorded}
use Rattle.wy_event.specs.Sources.{is_so}
use Rattle.wy_steps.specs.Sets.{Sets}
use Rattle.wy_steps.specs.State.{Noted, Active}
use Rattle.wy_steps.specs.Steps.{event_in, control_set}
use Rattle.wy_meaning.specs.Run.{outcome, end, history, events}
use Rattle.law_carried.proofs.Whole.{same_events}
use Rattle.law_counted.specs.Entries.{runs_body}
use Rattle.law_counted.proofs.ActiveRules.{IsOwn, IsBelow, IsBody, Stand, IsControlled, AllControlled, Later, later_one, later_trans, frame_below}
use Rattle.law_counted.proofs.ActiveTheorem.{in_order, in_time, all_controlled}
use Rattle.wy_travel.specs.Frames.{frame_of, frames_within, frames}
use Rattle.law_frames.specs.Joined.{One, Both, joined, active_in, EventsShowEntries}
use Rattle.law_frames.specs.Bodies.{is_body, active_bodies, FramesAreActiveBodies}
use Rattle.law_frames.proofs.Reading.{entries_are_read, made_are_named}

slice_get_snoc : {X : Type 0} (xs : List X) (y : X) (n : ℕ) (z : X) → slice_get (xs ++ y ∷ []) n ≡ Some z → (slice_get xs n ≡ Some z) ⊎ ((n ≡ length xs) × (y ≡ z))
slice_get_snoc [] y zero z e = inr (refl, cc)
slice_get_snoc [] y (suc n) z e = absurd (cc)
slice_get_snoc (x ∷ xs) y zero z e = inl e
slice_get_snoc (x ∷ xs) y (suc n) z e = ⊎_elim (λ h. inl h) (λ h. inr (ap suc h.0, h.1)) (slice_get_snoc xs y n z e)

no_frames : (k : ℕ) (rs : List Recorded) → frames_within k rs Absent ≡ []
unfolding frames_within
no_frames zero rs = refl
no_frames (suc k) rs = refl

module _ (A : Sets) where
  -- ---- one list of entries

  module _ (rs : List Recorded) (before : List (Noted A)) (known : (n : ℕ) (e : Recorded) → event_in before n ≡ Some e → slice_get rs n ≡ Some e) where
    own_skipped : (fr : Option ℕ) (n : ℕ) → IsOwn A before fr n → is_body rs n ≡ false
    unfolding is_so
    own_skipped fr n h = ap (is_so (λ e. runs_body e.kind)) (known n h.event h.there) ∙ h.runs_none

    body_kept : (fr : Option ℕ) (a : Active A) → IsBody A before fr a → is_body rs a.number ≡ true
    unfolding is_so
    body_kept fr a h = ap (is_so (λ e. runs_body e.kind)) (known a.number h.event h.there) ∙ h.runs

    less : (n k : ℕ) (fr : Option ℕ) → n ≤ k → IsBelow A n fr → IsBelow A k fr
    less n k Absent le h = tt
    less n k (Some f) le h = omega (arith, le, h)

    -- the frames from a body on are the bodies among the entries that stand for it
    pub frames_are : (k : ℕ) (fr : Option ℕ) (es : List (Active A)) → IsBelow A k fr → Stand A before fr es → frames_within k rs fr ≡ filter (is_body rs) (map (λ a. a.number) es)
    unfolding frames_within frame_of
    frames_are k fr [] below h = ap (frames_within k rs) h ∙ no_frames k rs
    frames_are zero fr (a ∷ es) below (inl h) = let lt : a.number < 0 = subst (IsBelow A 0) h.0.frame below in absurd (omega (arith, lt))
    frames_are (suc k) fr (a ∷ es) below (inl h) =
        let lt : a.number < suc k = subst (IsBelow A (suc k)) h.0.frame below in
        ap (frames_within (suc k) rs) h.0.frame
        ∙ ap (λ o. a.number ∷ frames_within k rs (frame_of o)) (known a.number h.0.event h.0.there)
        ∙ ap (λ l. a.number ∷ l) (frames_are k h.0.event.frame es (less a.number k h.0.event.frame (omega (arith, lt)) h.0.below) h.1)
        ∙ sym (ap (λ b. if b then a.number ∷ filter (is_body rs) (map (λ (x : Active A). x.number) es) else filter (is_body rs) (map (λ (x : Active A). x.number) es)) (body_kept fr a h.0))
    frames_are k fr (a ∷ es) below (inr h) =
        frames_are k fr es below h.1
        ∙ sym (ap (λ b. if b then a.number ∷ filter (is_body rs) (map (λ (x : Active A). x.number) es) else filter (is_body rs) (map (λ (x : Active A). x.number) es)) (own_skipped fr a.number h.0))

  -- ---- each event of a run

  -- the events before an event of the run, while such entries were active
  pub record IsAt (noted : List (Noted A)) (n : ℕ) (e : Noted A) : Type 0 where
    pub before : List (Noted A)
    pub count : length before ≡ n
    pub earlier : Later A before noted
    pub controlled : IsControlled A before e

  each_at : (noted : List (Noted A)) → AllControlled A noted → (n : ℕ) (e : Noted A) → slice_get (reverse noted) n ≡ Some e → IsAt noted n e
  each_at [] h n e is = absurd (cc)
  each_at (x ∷ rest) h n e is =
      ⊎_elim
      (λ found. let k = each_at rest h.1 n e found in
      record { before = k.before; count = k.count; earlier = later_trans A k.before rest (x ∷ rest) k.earlier (later_one A x rest); controlled = k.controlled })
      (λ last. record { before = rest; count = sym (last.0 ∙ length-reverse rest); earlier = later_one A x rest; controlled = subst (IsControlled A rest) last.1 h.0 })
      (slice_get_snoc (reverse rest) x n e (rw (reverse-cons x rest) at is))

-- ---- what an event shows

of_event : (noted : List (Noted joined)) (m : ℕ) (e : Noted joined) → slice_get (in_order joined noted) m ≡ Some e.event → IsAt joined noted m e → frames (in_order joined noted) m ≡ active_bodies (in_order joined noted) e
unfolding frames frame_of active_in
of_event noted m e there at =
    let c = at.controlled in
    let rs = in_order joined noted in
    ap (λ o. frames_within m rs (frame_of o)) there
    ∙ frames_are joined rs at.before (λ n x is. sym (in_time joined noted n) ∙ at.earlier.found n x is) m e.event.frame c.entries (subst (λ n. IsBelow joined n e.event.frame) at.count (frame_below joined at.before e.event.frame c.entries c.stand)) c.stand
    ∙ ap (filter (is_body rs)) (sym (ap active_in c.comes_from ∙ entries_are_read c.entries (made_are_named c.entries c.made)))

pub events_show_entries : (p : Program) → EventsShowEntries p
unfolding history
events_show_entries p input budget m e is =
    let at = each_at joined (end (outcome {A = joined} p input budget)).noted (all_controlled joined p input budget) m e is in
    let c = at.controlled in
    record {
      entries = c.entries;
      operands = c.operands;
      named = made_are_named c.entries c.made;
      from_all = c.comes_from ∙ ap (λ n. Both (One n) (Both c.operands (control_set c.entries))) at.count;
      newest = c.newest;
    }

pub frames_are_active_bodies : (p : Program) (input : List ℕ) (budget : ℕ) → FramesAreActiveBodies p input budget
unfolding history events
frames_are_active_bodies p input budget m e is =
    let noted = (end (outcome {A = joined} p input budget)).noted in
    let there = slice_get-map (λ (x : Noted joined). x.event) (reverse noted) m ∙ ap (option_map (λ (x : Noted joined). x.event)) is in
    subst (λ rs. frames rs m ≡ active_bodies rs e) (same_events joined p input budget)
    (of_event noted m e there (each_at joined noted (all_controlled joined p input budget) m e is))
