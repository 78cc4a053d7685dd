-- Every expression only adds to the records.
use Rattle.std.proofs.Common.{ℕ}
use Rattle.wy_steps.specs.Sets.{nothing}
use Rattle.wy_steps.specs.State.{Around, Carried, Run}
use Rattle.wy_meaning.specs.World.{throwing}
use Rattle.law_induction.specs.Composed.{Composed}
use Rattle.law_added.proofs.Rules.{Adds, bind, after, adds_choose, adds_return, adds_leave, adds_stop, adds_tick, adds_frame, adds_event_at, adds_is_begun, adds_read, adds_declare, adds_take_elements, adds_take_units, adds_room_for_output, adds_write_out, adds_next_byte, adds_note, adds_note_write, adds_note_new, adds_scoped, adds_activating}

abbrev pub OnlyAdds : (X : Type 0) → Run nothing X → Type 0
OnlyAdds X m = Adds m

pub adds_throwing : (X : Type 0) (site : ℕ) (v : Carried nothing) → Adds {X = X} (throwing site v)
unfolding throwing
adds_throwing X site v = bind (adds_note _ v) (λ e. adds_leave _)

pub by_steps : Composed nothing OnlyAdds
by_steps = record {
  bind = λ h k. bind h k;
  after = λ h k. after h k;
  on_choose = λ b h k. adds_choose b h k;
  on_decided = λ site h k. adds_scoped (bind h (λ v. bind (adds_activating Around (adds_note _ v)) (λ e. k v e)));
  on_return = λ x. adds_return x;
  on_throwing = adds_throwing;
  on_unassigned = adds_stop _;
  on_tick = adds_tick;
  on_frame = adds_frame;
  on_event_at = adds_event_at;
  on_is_begun = adds_is_begun;
  on_read = adds_read;
  on_declare = adds_declare;
  on_take_elements = adds_take_elements;
  on_take_units = adds_take_units;
  on_room_for_output = adds_room_for_output;
  on_write_out = adds_write_out;
  on_next_byte = adds_next_byte;
  on_note = adds_note;
  on_note_write = adds_note_write;
  on_note_new = adds_note_new;
}
