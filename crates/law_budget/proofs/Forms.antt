-- Every expression takes what it needs of the steps that are left.
use Rattle.wy_steps.specs.Sets.{Sets}
use Rattle.std.proofs.Common.{ℕ}
use Rattle.wy_steps.specs.State.{Around, Carried, Run}
use Rattle.wy_meaning.specs.World.{throwing}
use Rattle.law_induction.specs.Composed.{Composed}
use Rattle.law_budget.proofs.BudgetRules.{Paid, bind, after, paid_choose, paid_return, paid_leave, paid_unassigned, paid_tick, paid_frame, paid_event_at, paid_is_begun, paid_read, paid_declare, paid_take_elements, paid_take_units, paid_room_for_output, paid_write_out, paid_next_byte, paid_note, paid_note_write, paid_note_new, paid_scoped, paid_activating}

module _ (A : Sets) where
  abbrev pub IsPaid : (X : Type 0) → Run A X → Type 0
  IsPaid X m = Paid A m

  paid_throwing : (X : Type 0) (site : ℕ) (v : Carried A) → Paid A {X = X} (throwing site v)
  unfolding throwing
  paid_throwing X site v = bind A (paid_note A _ v) (λ e. paid_leave A _)

  pub paid_by_steps : Composed A IsPaid
  paid_by_steps = record {
    bind = λ h k. bind A h k;
    after = λ h k. after A h k;
    on_choose = λ b h k. paid_choose A b h k;
    on_decided = λ site h k. paid_scoped A (bind A h (λ v. bind A (paid_activating A Around (paid_note A _ v)) (λ e. k v e)));
    on_return = λ x. paid_return A x;
    on_throwing = paid_throwing;
    on_unassigned = paid_unassigned A;
    on_tick = paid_tick A;
    on_frame = paid_frame A;
    on_event_at = paid_event_at A;
    on_is_begun = paid_is_begun A;
    on_read = paid_read A;
    on_declare = paid_declare A;
    on_take_elements = paid_take_elements A;
    on_take_units = paid_take_units A;
    on_room_for_output = paid_room_for_output A;
    on_write_out = paid_write_out A;
    on_next_byte = paid_next_byte A;
    on_note = paid_note A;
    on_note_write = paid_note_write A;
    on_note_new = paid_note_new A;
  }
