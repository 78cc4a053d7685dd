-- What each form of an expression counts.
use Rattle.std.proofs.Common.{ℕ}
use Rattle.wy_steps.specs.Sets.{Sets}
use Rattle.wy_steps.specs.State.{Around, Carried, Run}
use Rattle.wy_meaning.specs.World.{throwing}
use Rattle.law_induction.specs.Composed.{Composed}
use Rattle.law_counted.proofs.CountedRules.{Counts, bind, after, bind_note, counts_activating, counts_choose, counts_return, counts_leave, counts_unassigned, counts_tick, counts_frame, counts_event_at, counts_is_begun, counts_read, counts_declare, counts_take_elements, counts_take_units, counts_room_for_output, counts_write_out, counts_next_byte, counts_note, counts_note_write, counts_note_new, counts_scoped}

module _ (A : Sets) where
  abbrev pub DoesCount : (X : Type 0) → Run A X → Type 0
  DoesCount X m = Counts A m

  counts_throwing : (X : Type 0) (site : ℕ) (v : Carried A) → Counts A {X = X} (throwing site v)
  unfolding throwing
  counts_throwing X site v = bind_note A _ v (λ e lt. counts_leave A _ lt)

  pub counts_by_steps : Composed A DoesCount
  counts_by_steps = record {
    bind = λ h k. bind A h k;
    after = λ h k. after A h k;
    on_choose = λ b h k. counts_choose A b h k;
    on_decided = λ site h k. counts_scoped A (bind A h (λ v. bind A (counts_activating A Around (counts_note A _ v)) (λ e. k v e)));
    on_return = λ x. counts_return A x;
    on_throwing = counts_throwing;
    on_unassigned = counts_unassigned A;
    on_tick = counts_tick A;
    on_frame = counts_frame A;
    on_event_at = counts_event_at A;
    on_is_begun = counts_is_begun A;
    on_read = counts_read A;
    on_declare = counts_declare A;
    on_take_elements = counts_take_elements A;
    on_take_units = counts_take_units A;
    on_room_for_output = counts_room_for_output A;
    on_write_out = counts_write_out A;
    on_next_byte = counts_next_byte A;
    on_note = counts_note A;
    on_note_write = counts_note_write A;
    on_note_new = counts_note_new A;
  }
