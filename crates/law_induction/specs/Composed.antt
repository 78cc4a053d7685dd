-- A property of runs that each of a run's steps has and that what is put together of such steps has too. Then the run of every
-- expression has it.
use Rattle.std.specs.Prelude.{ℕ, Bool, List}
use Rattle.wy_kernel.specs.Program.{Program}
use Rattle.wy_value.specs.declared.value.Value.TheVariants.{Arm}
use Rattle.wy_event.specs.declared.record.Kind.TheVariants as kind
use Rattle.wy_event.specs.declared.record.Slot.{Slot}
use Rattle.wy_steps.specs.Sets.{Sets}
use Rattle.wy_steps.specs.State.{Around, Carried, Run, Unassigned, ◌>>=◌, ◌>>◌, return, stop, choose}
use Rattle.wy_steps.specs.Steps.{Made, Draft, tick, frame, event_at, is_begun, read, declare, note, note_write, note_new, activating, scoped, take_elements, take_units, room_for_output, write_out, next_byte}
use Rattle.wy_meaning.specs.World.{plain, is_true, arm_of_truth, throwing}

pub record Composed (A : Sets) (Q : (X : Type 0) → Run A X → Type 0) : Type 1 where
  -- what is put together
  pub bind : {X Y : Type 0} {m : Run A X} {f : X → Run A Y} → Q _ m → ((x : X) → Q _ (f x)) → Q _ (m >>= f)
  pub after : {X Y : Type 0} {m : Run A X} {k : Run A Y} → Q _ m → Q _ k → Q _ (m >> k)
  pub on_choose : {X : Type 0} {m k : Run A X} (b : Bool) → Q _ m → Q _ k → Q _ (choose b m k)
  pub on_decided : {f : Carried A → Made A → Run A (Carried A)} {test : Run A (Carried A)} (site : ℕ) → Q _ test → ((v : Carried A) (e : Made A) → Q _ (f v e))
      → Q _ (scoped (test >>= λ v. activating Around (note (plain kind.Test site (Arm (arm_of_truth (is_true v.value)))) v) >>= f v))
  -- steps
  pub on_return : {X : Type 0} (x : X) → Q _ (return x)
  pub on_throwing : (X : Type 0) (site : ℕ) (v : Carried A) → Q X (throwing site v)
  pub on_unassigned : {X : Type 0} → Q X (stop Unassigned)
  pub on_tick : Q _ tick
  pub on_frame : Q _ frame
  pub on_event_at : (n : ℕ) → Q _ (event_at n)
  pub on_is_begun : (c : ℕ) → Q _ (is_begun c)
  pub on_read : (x : Slot) → Q _ (read x)
  pub on_declare : (x : Slot) → Q _ (declare x)
  pub on_take_elements : (n : ℕ) → Q _ (take_elements n)
  pub on_take_units : (n : ℕ) → Q _ (take_units n)
  pub on_room_for_output : (bytes : List ℕ) → Q _ (room_for_output bytes)
  pub on_write_out : (bytes : List ℕ) → Q _ (write_out bytes)
  pub on_next_byte : Q _ next_byte
  pub on_note : (x : Draft) (v : Carried A) → Q _ (note x v)
  pub on_note_write : (x : Draft) (v : Carried A) → Q _ (note_write x v)
  pub on_note_new : (p : Program) (x : Draft) (v : Carried A) → Q _ (note_new p x v)
