-- How a body begins and ends: its scope, its frame, and the values of the body that waits.
use Rattle.std.proofs.Common.{◌≡◌, ◌≢◌, inl, inr, ◌∙◌, ℕ, List, [], ◌∷◌, map, refl, ap, ap₂, sym, subst, Option, Some, Result, Ok, Err, OnOk}
use Rattle.std.specs.Prelude.{None as Absent, if◌then◌else◌}
use Rattle.wy_kernel.specs.Program.{Program}
use Rattle.wy_value.specs.declared.value.Value.{Value}
use Rattle.wy_event.specs.declared.record.Slot.TheVariants as slot
use Rattle.wy_kernel.specs.View.{present}
use Rattle.wy_value.specs.declared.value.Value.TheVariants as val
use Rattle.wy_event.specs.declared.record.Kind.TheVariants as kind
use Rattle.wy_event.specs.declared.record.Use.{Use}
use Rattle.wy_steps.specs.Sets.{nothing}
use Rattle.wy_steps.specs.State as run
use Rattle.wy_steps.specs.State.{State, Carried, Active, Run, Outcome, Around as Within, go_on, ◌>>=◌, ◌>>◌, return, stop, leave}
use Rattle.wy_steps.specs.Steps.{Draft, Made, activating, active_again, scoped, go_in, entered, frame_again, in_frame, note, noting, room_for, next_event, made, with_event}
use Rattle.wy_meaning.specs.World.{about}
use Rattle.wy_calls.specs.declared.calls.Scope.{Scope}
use Rattle.wy_calls.specs.Calls.{CallFrame as Body, CallStack as Calls, opened, activated, frame_of}
use Rattle.wy_state.specs.declared.parts.Halt.{Halt}
use Rattle.wy_state.specs.declared.parts.Halt.TheVariants.{Left, Stopped, Memory}
use Rattle.wy_state.specs.Agrees.{Shape, Onward, StepGives}
use Rattle.wy_state.specs.Seen.{given, made_of, reason_of, stop_of}
use Rattle.wy_state.specs.Steps.{activate, do_nothing, enter_frame}
use Rattle.std.proofs.lemmas.Bool.Decides.{eqb_tells}
use Rattle.wy_state.proofs.Onward.{within, onward_as, onward_then, onward_same}
use Rattle.wy_operands.specs.Values.{Values, top, under_many}
use Rattle.wy_work.specs.declared.task.Task.TheVariants as task
use Rattle.wy_work.specs.declared.task.Step.{Step}
use Rattle.wy_work.specs.declared.task.Step.TheVariants as step
use Rattle.wy_work.specs.Calls.{IsSameStack, Enters, begun, used_by}
use Rattle.wy_work.specs.Expressions.{put_on, leaving}
use Rattle.wy_work.specs.Statements.{emptied}
use Rattle.wy_work.specs.Tasks.{Context, MachineState, around, after, pushed, then_all, followed, Turned}
use Rattle.wy_work.proofs.Begins.{newest_is}

-- what comes after a body that begins, where the values are known
pub settles : {X : Type 0} (p : Program) (f : Run nothing Values) (s : Shape) (m : MachineState) (r : Result X Halt) (n : MachineState) (us : Values) → us ≡ m.values → OnOk r (IsSameStack m n) → Turned p f s r n (λ u. return us) → Turned p f s r n (λ u. return n.values)
settles p f s m (Ok x) n us is same a = subst (λ vs. Onward p s f n.state (then_all p n (return vs))) (is ∙ sym same.values) a
settles p f s m (Err (Left why)) n us is same a = a
settles p f s m (Err (Stopped why)) n us is same a = a
settles p f s m (Err Memory) n us is same a = tt

-- ---- a scope

-- what is active of a run is what is active in memory
pub active_here : {X : Type 0} (p : Program) (m : Shape) (f : Run nothing X) → Onward p m (scoped f) m (λ s. active_again m.calls.active (f s))
unfolding scoped
active_here p m f = record { from = λ s a. record { state = s; agrees = a; is = ap (λ z. active_again z (f s)) (sym a.active) }; same = refl }

pub closes : {X : Type 0} (entries : List (Active nothing)) (put : X → Values) (o : Outcome nothing X) → go_on (active_again entries o) (λ x. return (put x)) ≡ active_again entries (go_on o (λ x. return (put x)))
unfolding go_on active_again return
closes entries put (run.Done x s) = refl
closes entries put (run.Left why s) = refl
closes entries put (run.Stopped why s) = refl

pub note_given : (d : Draft) (c : Carried nothing) (v : Value) (us : List Use) → c.uses ≡ us → (s : State nothing) → note d c s ≡ note d (given v us) s
unfolding note room_for noting next_event made with_event
note_given d c v us is s = rw (← is) refl

-- one scope more stands around
abbrev pub in_scope : MachineState → Context
in_scope m = record { depth = m.depth; bodies = map (λ (f : Body). f.event) m.state.calls.frames; scopes = m.state.calls.active ∷ m.state.calls.scopes; saved = m.saved }

abbrev pub around_of : ℕ → List Values → Calls → Context
around_of depth saved c = record { depth = depth; bodies = map (λ (f : Body). f.event) c.frames; scopes = c.scopes; saved = saved }

module _ {X : Type 0} (p : Program) (m : MachineState) (l : Shape) (scope : Scope) (noting : Run nothing (Made nothing)) (next : ℕ → Run nothing X) (put : X → Values) (opens : Onward p m.state do_nothing l (return tt)) where
  within_scope : Onward p m.state (begun noting next) l (λ s. active_again m.state.calls.active (go_on (activating Within noting s) (λ e. next e.number)))
  unfolding go_on ◌>>=◌ return
  within_scope = onward_then (active_here p m.state (activating Within noting >>= (λ e. next e.number))) (within (λ o. active_again m.state.calls.active (go_on o (λ u s. go_on (activating Within noting s) (λ e. next e.number)))) opens)

  closed_is : (k : Run nothing X) (q : MachineState) → q.work ≡ task.Close scope ∷ m.work → around q ≡ in_scope m → (s : State nothing) →
      after p (around m) m.work (go_on (active_again m.state.calls.active (k s)) (λ x. return (put x))) ≡ then_all p q (followed k (λ x. return (put x))) s
  closed_is k q work is s = ap (after p (around m) m.work) (closes m.state.calls.active put (k s)) ∙ ap₂ (λ a fs. after p a fs (go_on (k s) (λ x. return (put x)))) (sym is) (sym work)

  abbrev to_close : Run nothing X → Run nothing Values
  to_close k s = after p (around m) m.work (go_on (active_again m.state.calls.active (k s)) (λ x. return (put x)))

  module _ (o : MachineState) (o_is : o ≡ pushed (task.Close scope) (record m { state = l })) where
    work_is : (n : Shape) → (record o { state = n }).work ≡ task.Close scope ∷ m.work
    work_is n = ap (λ (z : MachineState). z.work) o_is

    around_is : (n : Shape) (c : Calls) → n.calls ≡ c → around_of m.depth m.saved c ≡ in_scope m → around (record o { state = n }) ≡ in_scope m
    around_is n c is same = ap₂ (λ (z : MachineState) (x : Calls). around_of z.depth z.saved x) o_is is ∙ same

    -- an event was recorded and is active
    pub scope_begins : l.calls ≡ opened m.state.calls → (e : ℕ) (k n : Shape) → Onward p o.state noting k (return (made_of e)) → k.calls ≡ o.state.calls → Onward p k (activate Within e) n (return tt) → n.calls ≡ activated e Within k.calls →
        Onward p m.state (then_all p m (followed (begun noting next) (λ x. return (put x)))) n (then_all p (record o { state = n }) (followed (next e) (λ x. return (put x))))
    unfolding go_on return activating go_in entered
    scope_begins c e k n a ca b cb =
        let start = within (λ o. after p (around m) m.work (go_on o (λ x. return (put x)))) within_scope in
        let noted = within (λ o. after p (around m) m.work (go_on (active_again m.state.calls.active (go_on (go_in Within o) (λ z. next z.number))) (λ x. return (put x)))) (subst (λ (z : Shape). Onward p z noting k (return (made_of e))) (ap (λ (z : MachineState). z.state) o_is) a) in
        let active = within (λ o. after p (around m) m.work (go_on (active_again m.state.calls.active (go_on o (λ u. next e))) (λ x. return (put x)))) b in
        let is = around_is n (activated e Within (opened m.state.calls)) (cb ∙ ap (activated e Within) (ca ∙ ap (λ (z : MachineState). z.state.calls) o_is ∙ c)) refl in
        onward_then start (onward_then noted (onward_then active (onward_as (closed_is (next e) (record o { state = n }) (work_is n) is) (onward_same p n _))))

    -- or there was no room for it
    pub scope_refused : {Z : Type 0} → l.calls ≡ opened m.state.calls → (e : Halt) (n : Shape) (after_it : Z → Run nothing Values) → StepGives p made_of (Err e) o.state noting n → n.calls ≡ o.state.calls →
        Turned p (then_all p m (followed (begun noting next) (λ x. return (put x)))) m.state (Err e) (record o { state = n }) after_it
    unfolding go_on return activating go_in leave stop
    scope_refused c (Left why) n after_it a ca =
        let start = within (λ o. after p (around m) m.work (go_on o (λ x. return (put x)))) within_scope in
        let noted = within (λ o. after p (around m) m.work (go_on (active_again m.state.calls.active (go_on (go_in Within o) (λ z. next z.number))) (λ x. return (put x)))) (subst (λ (z : Shape). Onward p z noting n (leave (reason_of why))) (ap (λ (z : MachineState). z.state) o_is) a) in
        onward_then start (onward_then noted (onward_as (closed_is (leave (reason_of why)) (record o { state = n }) (work_is n) (around_is n (opened m.state.calls) (ca ∙ ap (λ (z : MachineState). z.state.calls) o_is ∙ c) refl)) (onward_same p n _)))
    scope_refused c (Stopped why) n after_it a ca =
        let start = within (λ o. after p (around m) m.work (go_on o (λ x. return (put x)))) within_scope in
        let noted = within (λ o. after p (around m) m.work (go_on (active_again m.state.calls.active (go_on (go_in Within o) (λ z. next z.number))) (λ x. return (put x)))) (subst (λ (z : Shape). Onward p z noting n (stop (stop_of why))) (ap (λ (z : MachineState). z.state) o_is) a) in
        onward_then start (onward_then noted (onward_as (closed_is (stop (stop_of why)) (record o { state = n }) (work_is n) (around_is n (opened m.state.calls) (ca ∙ ap (λ (z : MachineState). z.state.calls) o_is ∙ c) refl)) (onward_same p n _)))
    scope_refused c Memory n after_it a ca = tt

-- ---- a frame

pub frame_here : {X : Type 0} (p : Program) (m : Shape) (n : ℕ) (f : Run nothing X) → Onward p m (in_frame n f) m (λ s. frame_again (frame_of m.calls) (go_on (enter_frame n s) (λ u. f)))
unfolding in_frame go_on
frame_here p m n f = record { from = λ s a. record { state = s; agrees = a; is = ap (λ z. frame_again z (f (record s { frame = Some n }))) (sym a.frame) }; same = refl }

-- the value of a body goes to the body that called it
pub handed_over : (n : Option ℕ) (under : Values) (o : Outcome nothing (Carried nothing)) → go_on (frame_again n o) (λ v. return (v ∷ under)) ≡ go_on (frame_again n (go_on o (λ v. return (v ∷ [])))) (λ vs. return (top vs ∷ under))
unfolding go_on frame_again return
handed_over n under (run.Done x s) = refl
handed_over n under (run.Left why s) = refl
handed_over n under (run.Stopped why s) = refl

-- the same where it has none
pub given_back : (n : Option ℕ) (vs : Values) (o : Outcome nothing (Unit {0})) → go_on (frame_again n o) (λ u. return vs) ≡ go_on (frame_again n (go_on o (λ u. return {X = Values} []))) (λ us. return vs)
unfolding go_on frame_again return
given_back n vs (run.Done x s) = refl
given_back n vs (run.Left why s) = refl
given_back n vs (run.Stopped why s) = refl

-- ---- what is recorded

present_some : (n : ℕ) → n ≢ 4294967295 → present n ≡ Some n
unfolding present
present_some n other = elim (eqb_tells n 4294967295) as (λ _. present n ≡ Some n) [
  | inl same ↦ absurd (other same.1)
  | inr differ ↦ ap (λ b. if b then Absent else Some n) differ.0
]

-- the Call uses its receiver, which is where it was
pub call_noted : (site method : ℕ) (c : Carried nothing) (us : List Use) (m : MachineState) (o : MachineState) (receiver : Option ℕ) {scope : Scope} {l : Shape} → c.uses ≡ used_by receiver m.values → o ≡ pushed (task.Close scope) (record m { state = l }) → us ≡ used_by receiver o.values → method ≢ 4294967295 → (s : State nothing) →
    note (about kind.Call site method val.None) c s ≡ note (record { kind = kind.Call; site = site; entity = present method; slot = slot.None; value = val.None; units = [] }) (given val.None us) s
unfolding about
call_noted site method c us m o receiver used is same some s = rw (present_some method some) (note_given _ c val.None us (used ∙ ap (λ (z : MachineState). used_by receiver z.values) (sym is) ∙ sym same) s)

-- ---- a body of a call

abbrev pub within_of : ℕ → ℕ → List Values → MachineState → Context
within_of depth event saved m = record { depth = depth; bodies = event ∷ map (λ (f : Body). f.event) m.state.calls.frames; scopes = m.state.calls.scopes; saved = saved }

pub entered_around : {p : Program} {event : ℕ} {leaves : Step} {m n : MachineState} → Enters p event leaves m n → around n ≡ within_of n.depth event (m.values ∷ m.saved) m
entered_around {event = event} {m = m} {n = n} e =
    ap₂ (λ bs ss. record { depth = n.depth; bodies = bs; scopes = ss; saved = n.saved }) e.bodies e.scopes ∙ ap (λ vs. within_of n.depth event vs m) e.saved

module _ (p : Program) (m n : MachineState) (event : ℕ) where
  abbrev pub leaving_to : ℕ → Option ℕ → (Values → Values) → Outcome nothing Values → Outcome nothing Values
  leaving_to depth f back o = after p (record (around m) { depth = depth }) m.work (go_on (frame_again f o) (λ vs. return (back vs)))

  -- in the frame of a call its value is found, and goes to the body that waits
  pub enters_call : (count : ℕ) → Enters p event (step.LeaveCall count) m n → (f : Run nothing (Carried nothing)) →
      Onward p m.state (then_all p m (put_on (under_many count m.values) (in_frame event f))) n.state (then_all p n (put_on [] f))
  unfolding go_on ◌>>=◌ return
  enters_call count e f =
      let back = λ (vs : Values). top vs ∷ under_many count m.values in
      let here = within (λ o. after p (around m) m.work (go_on o (λ v. return (v ∷ under_many count m.values)))) (frame_here p m.state event f) in
      let moved = within (leaving_to m.depth (frame_of m.state.calls) back) (e.onward (put_on [] f)) in
      let there = λ (o : Outcome nothing Values). ap₂ (λ d fr. leaving_to d fr back o) (sym e.depth) (newest_is m.state.calls.frames) ∙ ap₂ (λ a fs. after p a fs o) (sym (entered_around e)) (sym e.work) in
      onward_then here (onward_as (λ s. ap (after p (around m) m.work) (handed_over (frame_of m.state.calls) (under_many count m.values) (f (record s { frame = Some event }))))
      (onward_then moved (onward_as (λ s. there (put_on [] f s)) (onward_same p n.state _))))

  -- in the frame of an initialization there is no value
  pub enters_class : Enters p event step.LeaveClass m n → (f : Run nothing (Unit {0})) →
      Onward p m.state (then_all p m (leaving m.values (in_frame event f))) n.state (then_all p n (emptied f))
  unfolding go_on ◌>>=◌ return
  enters_class e f =
      let back = λ (vs : Values). m.values in
      let here = within (λ o. after p (around m) m.work (go_on o (λ u. return m.values))) (frame_here p m.state event f) in
      let moved = within (leaving_to m.depth (frame_of m.state.calls) back) (e.onward (emptied f)) in
      let there = λ (o : Outcome nothing Values). ap₂ (λ d fr. leaving_to d fr back o) (sym e.depth) (newest_is m.state.calls.frames) ∙ ap₂ (λ a fs. after p a fs o) (sym (entered_around e)) (sym e.work) in
      onward_then here (onward_as (λ s. ap (after p (around m) m.work) (given_back (frame_of m.state.calls) m.values (f (record s { frame = Some event }))))
      (onward_then moved (onward_as (λ s. there (emptied f s)) (onward_same p n.state _))))
