-- Bodies and what is active do what their steps do.
use Rattle.std.proofs.Common.{◌≡◌, ◌≤◌, ◌<◌, ◌∙◌, ℕ, ◌+◌, List, [], ◌∷◌, replicate, Some, refl, sym, ap, arith, inl, inr, slice_get}
use Rattle.std.specs.Prelude.{None as Absent}
use Rattle.std.proofs.lemmas.Bool.Decides.{eqb_tells}
use Rattle.std.proofs.lemmas.List.{get_or-replicate, length-replicate}
use Rattle.std.proofs.lemmas.Option.{get_or_from_slice_get, slice_get_within}
use Rattle.wy_kernel.specs.Program.{Program}
use Rattle.wy_value.specs.declared.value.Value.{Value}
use Rattle.wy_value.specs.declared.value.Value.TheVariants.{None as Nothing}
use Rattle.wy_event.specs.declared.record.Slot.TheVariants.{Local}
use Rattle.wy_steps.specs.Sets.{nothing}
use Rattle.wy_steps.specs.State.{Store, Around, Through, return}
use Rattle.wy_steps.specs.Steps.{held_of, with_active}
use Rattle.wy_calls.specs.Calls.{CallFrame, CallStack, frame_of, event_of, rest_of, first_of, activated, opened, closed, entered, left}
use Rattle.wy_calls.specs.Calls as calls
use Rattle.wy_state.specs.Agrees.{Shape, Onward, Fall, HasLocals, HasFreshLocals, value_in, itself}
use Rattle.wy_state.specs.Steps.{activate, activate_through, active_be, back_to, do_nothing, enter_frame, nothing_of}
use Rattle.wy_state.proofs.Agreement.{with_entries, with_frames}

module _ (p : Program) (m : Shape) where
  pub activate_goes : (e : ℕ) (new : CallStack) → new ≡ activated e Around m.calls → Onward p m (activate Around e) (record m { calls = new }) (return (itself tt))
  unfolding return with_active
  activate_goes e new is = rw is (record { from = λ s a. record { state = with_active (record { number = e; from_all = tt; reach = Around }) s; agrees = with_entries p m s _ _ m.calls.scopes (ap (λ es. record { number = e; from_all = tt; reach = Around } ∷ es) a.active) a; is = refl }; same = refl })

  pub activate_through_goes : (e statement : ℕ) (new : CallStack) → new ≡ activated e (Through (frame_of m.calls) statement) m.calls → Onward p m (activate_through e statement) (record m { calls = new }) (return (itself tt))
  unfolding return with_active
  activate_through_goes e statement new is = rw is (record {
    from = λ s a. record {
      state = with_active (record { number = e; from_all = tt; reach = Through s.frame statement }) s;
      agrees = with_entries p m s _ _ m.calls.scopes (rw (a.frame, a.active) refl) a;
      is = refl;
    };
    same = refl;
  })

  pub open_goes : {X : Type 0} (x : X) (new : CallStack) → new ≡ opened m.calls → Onward p m do_nothing (record m { calls = new }) (return (nothing_of x))
  unfolding return
  open_goes x new is = rw is (record { from = λ s a. record { state = s; agrees = with_entries p m s _ _ (m.calls.active ∷ m.calls.scopes) a.active a; is = refl }; same = refl })

  pub close_goes : (new : CallStack) → new ≡ closed m.calls → Onward p m (active_be (first_of m.calls.scopes)) (record m { calls = new }) (return (itself tt))
  unfolding return
  close_goes new is = rw is (record { from = λ s a. record { state = record s { active = first_of m.calls.scopes }; agrees = with_entries p m s _ _ (rest_of m.calls.scopes) refl a; is = refl }; same = refl })

  pub same_goes : (new : CallStack) → new ≡ m.calls → Onward p m do_nothing (record m { calls = new }) (return (itself tt))
  unfolding return
  same_goes new is = rw is (record { from = λ s a. record { state = s; agrees = a; is = refl }; same = refl })

-- ---- frames

raised : (low high : ℕ) (fs : List CallFrame) → low ≤ high → Fall low fs → Fall high fs
raised low high [] le h = tt
raised low high (f ∷ fs) le h = (omega (arith, h.0), h.1)

-- a frame whose number is below those that fall from a bound is not among them
not_held : (bound : ℕ) (fs : List CallFrame) (f i : ℕ) → Fall bound fs → bound ≤ f → calls.held fs f i ≡ Absent
not_held bound [] f i h le = refl
not_held bound (g ∷ fs) f i h le = elim (eqb_tells g.event f) as (λ _. calls.held (g ∷ fs) f i ≡ Absent) [
  | inl same ↦ absurd (omega (arith, h.0, same.1))
  | inr other ↦ rw other.0 (not_held g.event fs f i h.1 (omega (arith, h.0)))
]

no_value_yet : (count i : ℕ) (v : Value) → slice_get (replicate count Nothing) i ≡ Some v → v ≡ Nothing
no_value_yet count i v is =
    let within : i < count = omega (arith, slice_get_within (replicate count Nothing) i v is, length-replicate count Nothing) in
    sym (get_or_from_slice_get (replicate count Nothing) i v Nothing is) ∙ get_or-replicate count i Nothing Nothing within

falls : (bound : ℕ) (fs : List CallFrame) → Fall bound fs → Fall bound (rest_of fs)
falls bound [] h = tt
falls bound (f ∷ fs) h = raised f.event bound fs (omega (arith, h.0)) h.1

-- the locals of frames that stay
keeps : (bound : ℕ) (store : Store nothing) (fs : List CallFrame) → Fall bound fs → HasLocals store fs → HasLocals store (rest_of fs)
keeps bound store [] h has = has
keeps bound store (g ∷ fs) h has = kept
  where
    kept : HasLocals store fs
    kept f i v held = elim (eqb_tells g.event f) as (λ _. value_in store (Local f i) ≡ v) [
      | inl same ↦ let none : calls.held fs f i ≡ Absent = not_held g.event fs f i h.1 (omega (arith, same.1)) in cc
      | inr other ↦ has f i v (rw other.0 held)
    ]

module _ (p : Program) (m : Shape) where
  pub enter_goes : (e count : ℕ) (new : CallStack) → new ≡ entered e count m.calls → m.entered ≤ e → Onward p m (enter_frame e) (record m { calls = new; entered = e + 1 }) (return (itself tt))
  unfolding return held_of
  enter_goes e count new is le = rw is (record {
    from = λ s a. record {
      state = record s { frame = Some e };
      agrees = with_frames p m s (record { event = e; locals = replicate count Nothing } ∷ m.calls.frames) (e + 1) (Some e) refl
          (omega arith, raised m.entered e m.calls.frames le a.fall)
          (begins s.store a.locals a.fresh_locals)
          (λ f i above. a.fresh_locals f i (omega arith)) a;
      is = refl;
    };
    same = refl;
  })
    where
      begins : (store : Store nothing) → HasLocals store m.calls.frames → HasFreshLocals store m.entered → HasLocals store (record { event = e; locals = replicate count Nothing } ∷ m.calls.frames)
      begins store has fresh f i v held = elim (eqb_tells e f) as (λ _. value_in store (Local f i) ≡ v) [
        | inl same ↦ ap (λ o. (held_of o).value) (fresh f i (omega (arith, same.1))) ∙ sym (no_value_yet count i v (rw same.0 at held))
        | inr other ↦ has f i v (rw other.0 at held)
      ]

  pub leave_goes : (new : CallStack) → new ≡ left m.calls → Onward p m (back_to (event_of (rest_of m.calls.frames))) (record m { calls = new }) (return (itself tt))
  unfolding return
  leave_goes new is = rw is (record {
    from = λ s a. record {
      state = record s { frame = event_of (rest_of m.calls.frames) };
      agrees = with_frames p m s (rest_of m.calls.frames) m.entered (event_of (rest_of m.calls.frames)) refl (falls m.entered m.calls.frames a.fall) (keeps m.entered s.store m.calls.frames a.fall a.locals) a.fresh_locals a;
      is = refl;
    };
    same = refl;
  })
