-- How runs that answer are put together, and what of their operands a record depends on.
use Rattle.std.proofs.Common.{◌≡◌, ℕ, List, [], refl, Result, Ok, Err}
use Rattle.wy_kernel.specs.Program.{Program}
use Rattle.wy_value.specs.declared.value.Value.{Value}
use Rattle.wy_event.specs.declared.record.Use.{Use}
use Rattle.wy_steps.specs.Sets.{nothing}
use Rattle.wy_steps.specs.State.{State, Carried, Run, Outcome, go_on, ◌>>=◌, return, stop, leave}
use Rattle.wy_steps.specs.State as run
use Rattle.wy_steps.specs.Steps.{Draft, note, note_write}
use Rattle.wy_state.specs.Agrees.{Shape, Onward, StepGives}
use Rattle.wy_state.specs.Seen.{draft_of, given, made_of}
use Rattle.wy_state.specs.declared.parts.Draft.{Draft as Drafted}
use Rattle.wy_state.specs.declared.parts.Halt.{Halt}
use Rattle.wy_state.specs.declared.parts.Halt.TheVariants.{Left, Stopped, Memory}
use Rattle.wy_state.proofs.Onward.{onward_as, onward_bind, onward_then, answers_then}

module _ {X Y : Type 0} {p : Program} {m n : Shape} where
  -- a step that was done, and what comes after it
  pub done_first : (f : Run nothing X) (k : X → Run nothing Y) (x : X) → Onward p m f n (return x) → Onward p m (f >>= k) n (k x)
  unfolding ◌>>=◌ go_on return
  done_first f k x a = onward_bind k a

-- the same run, said in another way
pub answers_as : {X Y : Type 0} (p : Program) (view : X → Y) (r : Result X Halt) (m n : Shape) (f g : Run nothing Y) → ((s : State nothing) → f s ≡ g s) → StepGives p view r m g n → StepGives p view r m f n
answers_as p view (Ok x) m n f g same a = onward_as same a
answers_as p view (Err (Left why)) m n f g same a = onward_as same a
answers_as p view (Err (Stopped why)) m n f g same a = onward_as same a
answers_as p view (Err Memory) m n f g same a = tt

-- a run before one that answers
pub answers_next : {X Y : Type 0} (p : Program) (view : X → Y) (r : Result X Halt) (m n l : Shape) (f g : Run nothing Y) → Onward p m f n g → StepGives p view r n g l → StepGives p view r m f l
answers_next p view (Ok x) m n l f g a b = onward_then a b
answers_next p view (Err e) m n l f g a b = answers_then view p e m n l f g a b

-- ---- records by their drafts in memory

module _ (p : Program) (r : Result ℕ Halt) (m n : Shape) (d : Drafted) (us : List Use) (draft : Draft) (v : Value) where
  pub noted_as : draft_of d [] ≡ draft → d.value ≡ v → StepGives p made_of r m (note (draft_of d []) (given d.value us)) n → StepGives p made_of r m (note draft (given v us)) n
  noted_as drafted same a = rw (← drafted, ← same) a

  pub written_as : draft_of d [] ≡ draft → d.value ≡ v → StepGives p made_of r m (note_write (draft_of d []) (given d.value us)) n → StepGives p made_of r m (note_write draft (given v us)) n
  written_as drafted same a = rw (← drafted, ← same) a

module _ (p : Program) (e : Halt) (m n : Shape) (d : Drafted) (us : List Use) (draft : Draft) (v : Value) where
  pub note_as : draft_of d [] ≡ draft → d.value ≡ v → StepGives p made_of (Err e) m (note (draft_of d []) (given d.value us)) n → StepGives p made_of (Err e) m (note draft (given v us)) n
  note_as drafted same a = rw (← drafted, ← same) a

  pub note_write_as : draft_of d [] ≡ draft → d.value ≡ v → StepGives p made_of (Err e) m (note_write (draft_of d []) (given d.value us)) n → StepGives p made_of (Err e) m (note_write draft (given v us)) n
  note_write_as drafted same a = rw (← drafted, ← same) a

module _ (p : Program) (m n : Shape) (d : Drafted) (us : List Use) (draft : Draft) (v : Value) (e : ℕ) where
  pub note_as_done : draft_of d [] ≡ draft → d.value ≡ v → Onward p m (note (draft_of d []) (given d.value us)) n (return (made_of e)) → Onward p m (note draft (given v us)) n (return (made_of e))
  note_as_done drafted same a = rw (← drafted, ← same) a

  pub note_write_as_done : draft_of d [] ≡ draft → d.value ≡ v → Onward p m (note_write (draft_of d []) (given d.value us)) n (return (made_of e)) → Onward p m (note_write draft (given v us)) n (return (made_of e))
  note_write_as_done drafted same a = rw (← drafted, ← same) a

-- what comes after what comes after
pub go_on-go_on : {X Y Z : Type 0} (o : Outcome nothing X) (f : X → Run nothing Y) (g : Y → Run nothing Z) → go_on (go_on o f) g ≡ go_on o (λ x s. go_on (f x s) g)
unfolding go_on
go_on-go_on (run.Done x s) f g = refl
go_on-go_on (run.Left why s) f g = refl
go_on-go_on (run.Stopped why s) f g = refl
