-- What each step of a run, and what is put together of such steps, does to the records: it only adds to them.
use Rattle.std.proofs.Common.{◌≡◌, ◌∙◌, ℕ, zero, suc, Bool, true, false, List, [], ◌∷◌, ◌++◌, Option, Some, refl, sym, ap, append_assoc}
use Rattle.std.specs.Prelude.{nat_le, nat_lt, length, ◌+◌}
use Rattle.wy_kernel.specs.Program.{Program}
use Rattle.wy_event.specs.declared.record.Slot.{Slot}
use Rattle.wy_steps.specs.Sets.{nothing}
use Rattle.wy_steps.specs.State.{Carried, Active, Noted, Reach, State, Stop, Reason, Outcome, Done, Left, Stopped, Run, go_on, ◌>>=◌, ◌>>◌, return, leave, stop, go_on_left, catching, choose}
use Rattle.wy_kernel.specs.Limits.{event_limit, use_limit, element_limit, unit_limit, output_limit}
use Rattle.wy_steps.specs.Steps.{Made, pay, tick, steps_left, frame, event_at, is_begun, read, declare, Draft, with_event, next_event, room_for, noting, note, with_stored, writing, note_write, with_created, creating, note_new, with_active, entered, go_in, activating, active_again, scoped, without, end_reaches, reaching, frame_again, in_frame, with_elements, take_elements, with_units, take_units, room_for_output, write_out, take_byte, next_byte, covering, begun, arrives, end_normally, be_left, cover_end, covered}
use Rattle.wy_meaning.specs.Run.{end}
use Rattle.law_added.specs.Added.{Begin}

-- the records begin those of what a run came to
abbrev pub Grows : {X : Type 0} → List (Noted nothing) → Outcome nothing X → Type 0
Grows ns (Done x s) = Begin ns s.noted
Grows ns (Left why s) = Begin ns s.noted
Grows ns (Stopped why s) = Begin ns s.noted

-- a run only adds
pub record Adds {X : Type 0} (m : Run nothing X) : Type 0 where
  pub grows : (s : State nothing) → Grows s.noted (m s)

same : (ns : List (Noted nothing)) → Begin ns ns
same ns = ([], refl)

further : (a b c : List (Noted nothing)) → Begin a b → Begin b c → Begin a c
further a b c h k = (k.0 ++ h.0, k.1 ∙ ap (λ xs. k.0 ++ xs) h.1 ∙ sym (append_assoc k.0 h.0 a))

-- ---- outcomes

pub grown : {X : Type 0} (a b : List (Noted nothing)) (o : Outcome nothing X) → Begin a b → Grows b o → Grows a o
grown a b (Done x s) h k = further a b s.noted h k
grown a b (Left why s) h k = further a b s.noted h k
grown a b (Stopped why s) h k = further a b s.noted h k

pub itself : {X : Type 0} (o : Outcome nothing X) → Grows (end o).noted o
unfolding end
itself (Done x s) = same s.noted
itself (Left why s) = same s.noted
itself (Stopped why s) = same s.noted

pub at_end : {X : Type 0} (a : List (Noted nothing)) (o : Outcome nothing X) → Grows a o → Begin a (end o).noted
unfolding end
at_end a (Done x s) h = h
at_end a (Left why s) h = h
at_end a (Stopped why s) h = h

pub go_on_grows : {X Y : Type 0} (a : List (Noted nothing)) (o : Outcome nothing X) (f : X → Run nothing Y) → Grows a o → ((x : X) → Adds (f x)) → Grows a (go_on o f)
unfolding go_on
go_on_grows a (Done x s) f h k = grown a s.noted (f x s) h ((k x).grows s)
go_on_grows a (Left why s) f h k = h
go_on_grows a (Stopped why s) f h k = h

pub left_grows : {X : Type 0} (a : List (Noted nothing)) (o : Outcome nothing X) (f : Reason nothing → Run nothing X) → Grows a o → ((why : Reason nothing) → Adds (f why)) → Grows a (go_on_left o f)
unfolding go_on_left
left_grows a (Done x s) f h k = h
left_grows a (Left why s) f h k = grown a s.noted (f why s) h ((k why).grows s)
left_grows a (Stopped why s) f h k = h

pub again_grows : {X : Type 0} (a : List (Noted nothing)) (entries : List (Active nothing)) (o : Outcome nothing X) → Grows a o → Grows a (active_again entries o)
unfolding active_again
again_grows a entries (Done x s) h = h
again_grows a entries (Left why s) h = h
again_grows a entries (Stopped why s) h = h

pub reaches_grows : {X : Type 0} (a : List (Noted nothing)) (f : Option ℕ) (n : ℕ) (o : Outcome nothing X) → Grows a o → Grows a (end_reaches f n o)
unfolding end_reaches without
reaches_grows a f n (Done x s) h = h
reaches_grows a f n (Left why s) h = h
reaches_grows a f n (Stopped why s) h = h

pub frame_grows : {X : Type 0} (a : List (Noted nothing)) (f : Option ℕ) (o : Outcome nothing X) → Grows a o → Grows a (frame_again f o)
unfolding frame_again
frame_grows a f (Done x s) h = h
frame_grows a f (Left why s) h = h
frame_grows a f (Stopped why s) h = h

arrival : (a : List (Noted nothing)) (n : ℕ) (why : Reason nothing) (s : State nothing) → Begin a s.noted → (b : Bool) → Grows a (choose b (end_normally n) (be_left n why) s)
unfolding choose end_normally be_left covering
arrival a n why s h true = h
arrival a n why s h false = h

pub cover_grows : (a : List (Noted nothing)) (n : ℕ) (o : Outcome nothing (Unit {0})) → Grows a o → Grows a (cover_end n o)
unfolding cover_end end_normally covering
cover_grows a n (Done x s) h = h
cover_grows a n (Left why s) h = arrival a n why s h (arrives n why)
cover_grows a n (Stopped why s) h = h

go_in_grows : (a : List (Noted nothing)) (reach : Reach) (o : Outcome nothing (Made nothing)) → Grows a o → Grows a (go_in reach o)
unfolding go_in entered with_active
go_in_grows a reach (Done x s) h = h
go_in_grows a reach (Left why s) h = h
go_in_grows a reach (Stopped why s) h = h

-- ---- putting together

pub bind : {X Y : Type 0} {m : Run nothing X} {f : X → Run nothing Y} → Adds m → ((x : X) → Adds (f x)) → Adds (m >>= f)
unfolding ◌>>=◌
bind {m = m} {f = f} h k = record { grows = λ s. go_on_grows s.noted (m s) f (h.grows s) k }

pub after : {X Y : Type 0} {m : Run nothing X} {f : Run nothing Y} → Adds m → Adds f → Adds (m >> f)
unfolding ◌>>◌
after h k = bind h (λ x. k)

pub adds_catching : {X : Type 0} {m : Run nothing X} {f : Reason nothing → Run nothing X} → Adds m → ((why : Reason nothing) → Adds (f why)) → Adds (catching m f)
unfolding catching
adds_catching {m = m} {f = f} h k = record { grows = λ s. left_grows s.noted (m s) f (h.grows s) k }

pub adds_choose : {X : Type 0} {m k : Run nothing X} (b : Bool) → Adds m → Adds k → Adds (choose b m k)
unfolding choose
adds_choose true hm hk = hm
adds_choose false hm hk = hk

pub adds_return : {X : Type 0} (x : X) → Adds (return x)
unfolding return
adds_return x = record { grows = λ s. same s.noted }

pub adds_leave : {X : Type 0} (why : Reason nothing) → Adds {X = X} (leave why)
unfolding leave
adds_leave why = record { grows = λ s. same s.noted }

pub adds_stop : {X : Type 0} (why : Stop) → Adds {X = X} (stop why)
unfolding stop
adds_stop why = record { grows = λ s. same s.noted }

pub adds_scoped : {X : Type 0} {m : Run nothing X} → Adds m → Adds (scoped m)
unfolding scoped
adds_scoped {m = m} h = record { grows = λ s. again_grows s.noted s.active (m s) (h.grows s) }

pub adds_reaching : {X : Type 0} {m : Run nothing X} (n : ℕ) → Adds m → Adds (reaching n m)
unfolding reaching
adds_reaching {m = m} n h = record { grows = λ s. reaches_grows s.noted s.frame n (m s) (h.grows s) }

pub adds_in_frame : {X : Type 0} {m : Run nothing X} (n : ℕ) → Adds m → Adds (in_frame n m)
unfolding in_frame
adds_in_frame {m = m} n h = record { grows = λ s. frame_grows s.noted s.frame (m (record s { frame = Some n })) (h.grows (record s { frame = Some n })) }

pub adds_activating : {m : Run nothing (Made nothing)} (reach : Reach) → Adds m → Adds (activating reach m)
unfolding activating
adds_activating {m = m} reach h = record { grows = λ s. go_in_grows s.noted reach (m s) (h.grows s) }

pub adds_covered : {m : Run nothing (Unit {0})} (n : ℕ) → Adds m → Adds (covered n m)
unfolding covered covering
adds_covered {m = m} n h = record {
  grows = λ s. cover_grows s.noted n (m (covering n (begun (length s.noted)) s)) (h.grows (covering n (begun (length s.noted)) s));
}

-- ---- steps

pay_grows : (n : ℕ) (s : State nothing) → Grows s.noted (pay n s)
unfolding pay
pay_grows zero s = same s.noted
pay_grows (suc n) s = same s.noted

pub adds_tick : Adds tick
unfolding tick
adds_tick = record { grows = λ s. pay_grows s.left s }

pub adds_steps_left : Adds steps_left
unfolding steps_left
adds_steps_left = record { grows = λ s. same s.noted }

pub adds_frame : Adds frame
unfolding frame
adds_frame = record { grows = λ s. same s.noted }

pub adds_event_at : (n : ℕ) → Adds (event_at n)
unfolding event_at
adds_event_at n = record { grows = λ s. same s.noted }

pub adds_is_begun : (c : ℕ) → Adds (is_begun c)
unfolding is_begun
adds_is_begun c = record { grows = λ s. same s.noted }

pub adds_read : (x : Slot) → Adds (read x)
unfolding read
adds_read x = record { grows = λ s. same s.noted }

pub adds_declare : (x : Slot) → Adds (declare x)
unfolding declare
adds_declare x = record { grows = λ s. same s.noted }

pub adds_take_elements : (n : ℕ) → Adds (take_elements n)
unfolding take_elements with_elements
adds_take_elements n = record { grows = λ s. (adds_choose (nat_le (s.elements + n) element_limit) (record { grows = λ s. same s.noted }) (adds_stop _)).grows s }

pub adds_take_units : (n : ℕ) → Adds (take_units n)
unfolding take_units with_units
adds_take_units n = record { grows = λ s. (adds_choose (nat_le (s.units + n) unit_limit) (record { grows = λ s. same s.noted }) (adds_stop _)).grows s }

pub adds_room_for_output : (bytes : List ℕ) → Adds (room_for_output bytes)
unfolding room_for_output
adds_room_for_output bytes = record { grows = λ s. (adds_choose (nat_le (length s.output + length bytes) output_limit) (adds_return tt) (adds_stop _)).grows s }

pub adds_write_out : (bytes : List ℕ) → Adds (write_out bytes)
unfolding write_out
adds_write_out bytes = record { grows = λ s. same s.noted }

byte_grows : (bytes : List ℕ) (s : State nothing) → Grows s.noted (take_byte bytes s)
unfolding take_byte
byte_grows [] s = same s.noted
byte_grows (b ∷ rest) s = same s.noted

pub adds_next_byte : Adds next_byte
unfolding next_byte
adds_next_byte = record { grows = λ s. byte_grows s.input s }

-- ---- records

adds_room : {X : Type 0} (c : Carried nothing) (m : Run nothing X) → Adds m → Adds (room_for c m)
unfolding room_for
adds_room c m h = record {
  grows = λ s. (adds_choose (nat_lt (length s.noted) event_limit) (adds_choose (nat_le (s.uses + length c.uses) use_limit) h (adds_stop _)) (adds_stop _)).grows s;
}

pub adds_note : (d : Draft) (c : Carried nothing) → Adds (note d c)
unfolding note noting with_event
adds_note d c = adds_room c (noting d c) (record { grows = λ s. (next_event d c s ∷ [], refl) })

pub adds_note_write : (d : Draft) (c : Carried nothing) → Adds (note_write d c)
unfolding note_write writing with_event with_stored
adds_note_write d c = adds_room c (writing d c) (record { grows = λ s. (next_event d c s ∷ [], refl) })

pub adds_note_new : (p : Program) (d : Draft) (c : Carried nothing) → Adds (note_new p d c)
unfolding note_new creating with_event with_created
adds_note_new p d c = adds_room c (creating p d c) (record { grows = λ s. (next_event d c s ∷ [], refl) })
