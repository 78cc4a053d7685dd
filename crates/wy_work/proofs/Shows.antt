-- Texts of values: string conversion, and two texts one after the other.
use Rattle.std.proofs.Common.{◌≡◌, ◌∙◌, ℕ, List, [], ◌∷◌, refl, ap, sym, subst, Result, Ok, Err}
use Rattle.wy_kernel.specs.Program.{Program}
use Rattle.wy_value.specs.declared.value.Value.{Value}
use Rattle.wy_value.specs.declared.value.Value.TheVariants as val
use Rattle.wy_event.specs.declared.record.Use.{Use}
use Rattle.wy_steps.specs.Sets.{nothing}
use Rattle.wy_steps.specs.State.{State, Carried, Run, go_on, ◌>>=◌, return}
use Rattle.wy_meaning.specs.World.{World}
use Rattle.wy_meaning.specs.Run.{world}
use Rattle.wy_meaning.specs.Text.{call_chosen, concatenated, shown, shown_as, to_string}
use Rattle.wy_state.specs.declared.parts.Halt.{Halt}
use Rattle.wy_state.specs.Agrees.{Shape, Onward, StepGives}
use Rattle.wy_operation.specs.Around.{IsSameAround, KeepsAt}
use Rattle.wy_operation.specs.Operands.{Pair}
use Rattle.wy_operands.specs.Values.{Values, at, top, under_many, last_many, uses_of_last, with_copy, with_event}
use Rattle.wy_operation.specs.Words.{joined_texts, text_of_event}
use Rattle.wy_work.specs.declared.task.Task.TheVariants as tasks
use Rattle.wy_work.specs.declared.task.Step.TheVariants as step
use Rattle.wy_work.specs.Expressions.{put_on, showing_right}
use Rattle.wy_work.specs.Tasks.{MachineState, around, after, goes, pushed, then_all, Does, Resumed}
use Rattle.wy_operation.proofs.Runs.{go_on-go_on}
use Rattle.wy_work.proofs.Runs.{failed_at, gave_at, world_program}
use Rattle.wy_work.proofs.Places.{resumed_as}
use Rattle.wy_work.proofs.Single.{gave_same}
use Rattle.wy_work.proofs.Operates.{last_pair}

-- what stands for a value is found
abbrev pub Showing : Program → ℕ → ℕ → MachineState → Result (Unit {0}) Halt → MachineState → Type 0
Showing p above site m r n = Does p (λ w vs. put_on vs (shown w site (at above vs))) m r n

module _ (p : Program) (m q : MachineState) (site : ℕ) (r : Result (Unit {0}) Halt) (n : MachineState) where
  -- the left is converted, and then the right
  pub left_shown : q ≡ pushed (tasks.Plain (step.ShowRight site)) m → Showing p 1 site q r n → Does p (λ w vs. put_on (under_many 2 vs) (concatenated w site (at 1 vs) (top vs))) m r n
  unfolding concatenated joined_texts ◌>>=◌ go_on return
  left_shown is a =
      let w = world p m.depth in
      let left = at 1 m.values in
      resumed_as p m (then_all p m (put_on (under_many 2 m.values) (concatenated w site left (top m.values)))) (then_all p (pushed (tasks.Plain (step.ShowRight site)) m) (put_on m.values (shown w site left))) r n
      (λ s. ap (after p (around m) m.work) (go_on-go_on (shown w site left s) _ _ ∙ sym (go_on-go_on (shown w site left s) (λ v. return (v ∷ m.values)) (showing_right w site))))
      (subst (λ (z : MachineState). Showing p 1 site z r n) is a)

  -- the right is converted, and then both are one text
  pub right_shown : q ≡ pushed (tasks.Plain (step.Join site)) m → Showing p 1 site q r n → Does p (λ w. showing_right w site) m r n
  unfolding ◌>>=◌ go_on return
  right_shown is a =
      let w = world p m.depth in
      let right = at 1 m.values in
      resumed_as p m (then_all p m (showing_right w site m.values)) (then_all p (pushed (tasks.Plain (step.Join site)) m) (put_on m.values (shown w site right))) r n
      (λ s. ap (after p (around m) m.work) (go_on-go_on (shown w site right s) _ _ ∙ sym (go_on-go_on (shown w site right s) (λ v. return (v ∷ m.values)) (λ vs. put_on (under_many 4 vs) (joined_texts w site (at 1 vs) (top vs))))))
      (subst (λ (z : MachineState). Showing p 1 site z r n) is a)

-- ---- what stands for one value

module _ (w : World nothing) (site : ℕ) (c : Carried nothing) where
  object_shown : (n : ℕ) → c.value ≡ val.Object n → (s : State nothing) → shown w site c s ≡ call_chosen w site to_string c [] s
  unfolding shown shown_as
  object_shown n is s = ap (λ v. shown_as w site c v s) is

  itself_shown : (v : Value) → ((n : ℕ) → v ≡ val.Object n → ⊥) → (s : State nothing) → shown_as w site c v s ≡ return c s
  unfolding shown_as
  itself_shown val.None other s = refl
  itself_shown (val.Bool b) other s = refl
  itself_shown (val.Byte z) other s = refl
  itself_shown (val.Short z) other s = refl
  itself_shown (val.Char n) other s = refl
  itself_shown (val.Int z) other s = refl
  itself_shown (val.Long z) other s = refl
  itself_shown val.Null other s = refl
  itself_shown (val.Object n) other s = absurd (other n refl)
  itself_shown (val.Text n) other s = refl
  itself_shown (val.Fixed n) other s = refl
  itself_shown (val.Arm n) other s = refl

module _ (p : Program) (m : MachineState) (above site : ℕ) (us : Values) (copied : us ≡ with_copy above m.values) where
  -- an object: its `toString` is called
  pub shows_object : (v : Value) (number : ℕ) (r : Result (Unit {0}) Halt) (n : MachineState) → v ≡ (top us).value → v ≡ val.Object number →
      Does p (λ w vs. put_on (under_many 1 vs) (call_chosen w site to_string (at 0 vs) (last_many 0 vs))) (record m { values = us }) r n → Showing p above site m r n
  shows_object v number r n l is a =
      let w = world p m.depth in
      let c = at above m.values in
      resumed_as p m (then_all p m (put_on m.values (shown w site c))) (then_all p m (put_on m.values (call_chosen w site to_string c []))) r n
      (λ s. ap (λ o. after p (around m) m.work (go_on o (λ v. return (v ∷ m.values)))) (object_shown w site c number (sym (l ∙ ap (λ z. (top z).value) copied) ∙ is) s))
      (subst (λ (z : Values). Does p (λ w vs. put_on (under_many 1 vs) (call_chosen w site to_string (at 0 vs) (last_many 0 vs))) (record m { values = z }) r n) copied a)

  -- each other value stands for itself
  pub shows_itself : (v : Value) → v ≡ (top us).value → ((number : ℕ) → v ≡ val.Object number → ⊥) → Showing p above site m (Ok tt) (record m { values = us })
  unfolding shown
  shows_itself v l other =
      let w = world p m.depth in
      let c = at above m.values in
      let is = l ∙ ap (λ z. (top z).value) copied in
      gave_same p m us (shown w site c) c m.values (λ s. itself_shown w site c c.value (λ number same. other number (is ∙ same)) s) copied

-- ---- two texts are one

module _ (p : Program) (m : MachineState) (s : Shape) (us : Values) (site : ℕ) (left right : Value) (used : List Use) (l : left ≡ (at 1 m.values).value) (h : right ≡ (top m.values).value) (u : used ≡ uses_of_last 2 m.values) where
  abbrev pub joins : Run nothing (Carried nothing)
  joins = joined_texts (world p m.depth) site (at 1 m.values) (top m.values)

  pub join_made : (e : ℕ) → ((w : World nothing) (o : Pair left right used) → w.program ≡ p → Onward p m.state (joined_texts w site o.first o.second) s (return (text_of_event e))) → IsSameAround m.state.calls s.calls → us ≡ with_event 4 (val.Text e) e m.values →
      Onward p m.state (then_all p m (put_on (under_many 4 m.values) joins)) s (goes p (record m { state = s; values = us }))
  join_made e a same values = gave_at p m s us joins (text_of_event e) (under_many 4 m.values) (a (world p m.depth) (last_pair m.values left right used l h u) (world_program p m.depth)) same values

  pub join_refused : (e : Halt) → ((w : World nothing) (o : Pair left right used) → w.program ≡ p → StepGives {X = ℕ} p text_of_event (Err e) m.state (joined_texts w site o.first o.second) s) → KeepsAt e m.state.calls s.calls →
      Resumed p (then_all p m (put_on (under_many 4 m.values) joins)) m.state (Err e) (record m { state = s; values = us })
  join_refused e a same = failed_at p m s us joins (λ v. return (v ∷ under_many 4 m.values)) text_of_event e (λ x. return us) (a (world p m.depth) (last_pair m.values left right used l h u) (world_program p m.depth)) same
