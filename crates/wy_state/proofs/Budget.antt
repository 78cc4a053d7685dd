-- The budget, the input and the coverage do what their steps do.
use Rattle.std.proofs.Common.{◌≡◌, ◌<◌, ◌∙◌, ℕ, zero, suc, ◌-◌, List, [], ◌∷◌, length, set, get_or, Some, refl, sym, ap, arith}
use Rattle.std.specs.Prelude.{None as Absent}
use Rattle.wy_kernel.specs.Program.{Program}
use Rattle.wy_event.specs.declared.record.Cover.{Cover}
use Rattle.wy_steps.specs.Sets.{nothing}
use Rattle.wy_steps.specs.State.{State, Covered, Done, StepLimit, return, stop}
use Rattle.wy_steps.specs.Steps.{tick, pay, steps_left, next_byte, take_byte, begun, ended, left_by, covering, cover_with, without, outlasting}
use Rattle.wy_calls.specs.Calls.{CallStack, frame_of}
use Rattle.wy_calls.specs.Calls as calls
use Rattle.wy_state.specs.Agrees.{Shape, Agrees, Comes, Onward, HasCovers, itself}
use Rattle.wy_state.specs.Seen.{blank, covered_of}
use Rattle.wy_state.specs.Steps.{begin, finish, leave_by}
use Rattle.wy_state.proofs.Agreement.{with_left, with_input, with_covers, with_entries, covers_changed}

module _ (p : Program) (m : Shape) where
  pub tick_goes : (m.left ≡ 0 → ⊥) → Onward p m tick (record m { left = m.left - 1 }) (return (itself tt))
  unfolding tick return pay
  tick_goes some = record { from = λ s a. paid s a s.left refl; same = refl }
    where
      paid : (s : State nothing) → Agrees p m s → (n : ℕ) → s.left ≡ n → Comes p (record m { left = m.left - 1 }) (return (itself tt)) (pay n s)
      paid s a zero e = absurd (some (sym a.left ∙ e))
      paid s a (suc n) e = record { state = record s { left = n }; agrees = with_left p m s (m.left - 1) n (omega (arith, a.left, e)) a; is = refl }

  pub tick_stops : m.left ≡ 0 → Onward p m tick m (stop StepLimit)
  unfolding tick stop pay
  tick_stops spent = record { from = λ s a. record { state = s; agrees = a; is = sym (ap (λ n. pay n s) (a.left ∙ spent)) }; same = refl }

  pub left_goes : Onward p m steps_left m (return m.left)
  unfolding steps_left return
  left_goes = record { from = λ s a. record { state = s; agrees = a; is = ap (λ n. Done n s) (sym a.left) }; same = refl }

  none_left : (xs : List ℕ) → length xs ≡ 0 → xs ≡ []
  none_left [] is = refl
  none_left (x ∷ xs) is = absurd (omega (arith, is))

  pub input_ends : length m.input ≡ 0 → Onward p m next_byte m (return Absent)
  unfolding next_byte return take_byte
  input_ends empty = record { from = λ s a. record { state = s; agrees = a; is = sym (ap (λ bs. take_byte bs s) (a.input ∙ none_left m.input empty)) }; same = refl }

  pub byte_goes : (b : ℕ) (rest : List ℕ) → m.input ≡ b ∷ rest → Onward p m next_byte (record m { input = rest }) (return (Some b))
  unfolding next_byte return take_byte
  byte_goes b rest is = record { from = λ s a. record { state = record s { input = rest }; agrees = with_input p m s rest rest refl a; is = sym (ap (λ bs. take_byte bs s) (a.input ∙ is)) }; same = refl }

module _ (p : Program) (m : Shape) (n : ℕ) (c : Cover) (lt : n < length m.covers) where
  pub begin_goes : covered_of c ≡ begun m.events (covered_of (get_or m.covers n blank)) → Onward p m (begin n) (record m { covers = set m.covers n c }) (return (itself tt))
  unfolding covering return
  begin_goes is = record { from = λ s a. record { state = covering n (begun (length s.noted)) s; agrees = with_covers p m s _ _ (covers_changed m.covers n c s.coverage (begun (length s.noted)) lt (rw a.events is) a.covers) a; is = refl }; same = refl }

  -- the same frames, and what outlasts the statement
  outlasts : (s : State nothing) (f : Covered → Covered) → HasCovers (cover_with n f s.coverage) (set m.covers n c) → Agrees p m s →
      Agrees p (record m { covers = set m.covers n c; calls = calls.ended n m.calls }) (without s.frame n (covering n f s))
  unfolding covering without
  outlasts s f has a =
      let same : outlasting s.frame n s.active ≡ outlasting (frame_of m.calls) n m.calls.active = rw (a.frame, a.active) refl in
      with_entries p (record m { covers = set m.covers n c }) (covering n f s) _ _ m.calls.scopes same (with_covers p m s _ _ has a)

  pub finish_goes : (new : CallStack) → new ≡ calls.ended n m.calls → covered_of c ≡ ended (covered_of (get_or m.covers n blank)) → Onward p m (finish n) (record m { covers = set m.covers n c; calls = new }) (return (itself tt))
  unfolding return
  finish_goes new cut is = rw cut (record { from = λ s a. record { state = without s.frame n (covering n ended s); agrees = outlasts s ended (covers_changed m.covers n c s.coverage ended lt is a.covers) a; is = refl }; same = refl })

  pub leave_goes : (e : ℕ) (new : CallStack) → new ≡ calls.ended n m.calls → covered_of c ≡ left_by e (covered_of (get_or m.covers n blank)) → Onward p m (leave_by n e) (record m { covers = set m.covers n c; calls = new }) (return (itself tt))
  unfolding return
  leave_goes e new cut is = rw cut (record { from = λ s a. record { state = without s.frame n (covering n (left_by e) s); agrees = outlasts s (left_by e) (covers_changed m.covers n c s.coverage (left_by e) lt is a.covers) a; is = refl }; same = refl })
