-- Each form of an expression leaves the active entries as they are.
use Rattle.std.proofs.Common.{ℕ}
use Rattle.wy_steps.specs.Sets.{Sets}
use Rattle.wy_steps.specs.State.{Around, Carried, Run}
use Rattle.wy_meaning.specs.World.{throwing}
use Rattle.law_induction.specs.Composed.{Composed}
use Rattle.law_counted.proofs.ActiveRules.{test_runs_none, Levels, bind, after, lift, bind_kept, level_choose, level_return, level_leave, level_unassigned, level_tick, level_frame, level_event_at, level_is_begun, level_read, level_declare, level_take_elements, level_take_units, level_room_for_output, level_write_out, level_next_byte, level_note, level_note_write, level_note_new, records_note, level_scoped, NoStatement, keeps_activating}

module _ (A : Sets) where
  abbrev pub IsLevel : (X : Type 0) → Run A X → Type 0
  IsLevel X m = Levels A m

  level_throwing : (X : Type 0) (site : ℕ) (v : Carried A) → Levels A {X = X} (throwing site v)
  unfolding throwing
  level_throwing X site v = bind A (level_note A _ v) (λ e. level_leave A _)

  pub level_by_steps : Composed A IsLevel
  level_by_steps = record {
    bind = λ h k. bind A h k;
    after = λ h k. after A h k;
    on_choose = λ b h k. level_choose A b h k;
    on_decided = λ site h k. level_scoped A (λ f r. Unit {0}) (bind_kept A (lift A h) (λ v.
        bind_kept A (keeps_activating A (NoStatement A) (λ f r. Unit {0}) Around (λ f. tt) (records_note A _ v) (test_runs_none site _)) (λ e. lift A (k v e))));
    on_return = λ x. level_return A x;
    on_throwing = level_throwing;
    on_unassigned = level_unassigned A;
    on_tick = level_tick A;
    on_frame = level_frame A;
    on_event_at = level_event_at A;
    on_is_begun = level_is_begun A;
    on_read = level_read A;
    on_declare = level_declare A;
    on_take_elements = level_take_elements A;
    on_take_units = level_take_units A;
    on_room_for_output = level_room_for_output A;
    on_write_out = level_write_out A;
    on_next_byte = level_next_byte A;
    on_note = level_note A;
    on_note_write = level_note_write A;
    on_note_new = level_note_new A;
  }
