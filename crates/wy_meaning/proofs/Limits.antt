-- Runs that a limit stops, and which limit an action stops at that would pass several.
use Rattle.std.proofs.Common.{◌≡◌, ℕ, ◌+◌, ◌<◌, ◌≤◌, List, Option, refl, ap, ◌∙◌}
use Rattle.std.proofs.lemmas.Bool.{le-ltb, lt-ltb, lt-leb, le-leb}
use Rattle.std.specs.Prelude.{pos, true, false, [], ◌∷◌, Some, codes}
use Rattle.std.specs.Prelude.{None as Absent}
use Rattle.wy_kernel.specs.declared.operator.Primitive.TheVariants as prim
use Rattle.wy_kernel.specs.declared.operator.BinOp.TheVariants as op
use Rattle.wy_kernel.specs.declared.types.Base.TheVariants.{Primitive as Basic, Class as Named}
use Rattle.wy_kernel.specs.declared.types.Ty.{Ty}
use Rattle.wy_kernel.specs.declared.types.Ty.TheVariants.{Void, Of}
use Rattle.wy_kernel.specs.declared.types.MethodForm.TheVariants as kinds
use Rattle.wy_kernel.specs.declared.form.CallForm.TheVariants as calling
use Rattle.wy_kernel.specs.Form.{Int, Const, Read, Set, Bin, Call, Local, absent, the, none, Stmt, Block, Eval, While, Print, done, first}
use Rattle.wy_kernel.specs.Program.{Program}
use Rattle.wy_value.specs.declared.value.Value.TheVariants as val
use Rattle.wy_event.specs.declared.record.Kind.TheVariants as kind
use Rattle.wy_event.specs.declared.record.Slot.TheVariants as slot
use Rattle.wy_event.specs.declared.record.Use.TheVariants as used
use Rattle.wy_kernel.specs.Limits.{event_limit, use_limit, element_limit, unit_limit, output_limit}
use Rattle.wy_steps.specs.Steps.{going_on, never_left}
use Rattle.wy_meaning.proofs.Computed.{told, event, cover, class_named, method_named, body_with}
use Rattle.wy_meaning.proofs.Builtin.{program}
use Rattle.std.specs.Prelude.{length, nat_le}
use Rattle.wy_steps.specs.Sets.{Sets, nothing as carries_nothing}
use Rattle.wy_steps.specs.State.{Carried, State, Stop, EventLimit, UseLimit, ElementLimit, UnitLimit, OutputLimit, DepthLimit, Outcome, Stopped, Run, go_on, ◌>>=◌, ◌>>◌, return, stop, choose}
use Rattle.wy_steps.specs.Steps.{room_for, noting, note, with_elements, take_elements, with_units, take_units, room_for_output, write_out, value_of}
use Rattle.wy_meaning.specs.World.{World, plain}
use Rattle.wy_meaning.specs.Text.{make_text, print}
use Rattle.wy_meaning.specs.Array.{make_array}
use Rattle.wy_meaning.specs.Run.{world, main_run, start, stop_of, end}
use Rattle.wy_meaning.specs.Kept.{covered_of, kept_tail}
use Rattle.wy_kernel.specs.View.{present}
use Rattle.wy_meaning.proofs.Rows.{p1}

-- P1 with five steps: five events, and the second declaration does not begin
p1_cut : told p1 [] 5 ≡ record {
  events =
      (event kind.Init 1 Absent Absent (Some 18) slot.None val.None ([]) ([])) ∷
      (event kind.New 6 Absent Absent (Some 16777233) slot.None (val.Int (pos 0)) ([]) ([])) ∷
      (event kind.Call 6 Absent Absent (Some 37) slot.None val.None ([]) ([])) ∷
      (event kind.Bind 11 (Some 2) (Some 2) Absent (slot.Local 2 0) (val.Object 1) ([]) (used.Value 1 ∷ [])) ∷
      (event kind.Set 15 (Some 2) (Some 2) Absent (slot.Local 2 1) (val.Int (pos 2)) ([]) ([])) ∷
      [];
  output = [];
  stop = 2;
  last = Absent;
  steps = 5;
  uses = 1;
  coverage = (cover 1 1 (Some 1) never_left) ∷ (cover 0 0 Absent never_left) ∷ (cover 1 0 (Some 4) going_on) ∷ (cover 1 1 (Some 4) never_left) ∷ (cover 0 0 Absent never_left) ∷ (cover 0 0 Absent never_left) ∷ (cover 0 0 Absent never_left) ∷ (cover 0 0 Absent never_left) ∷ (cover 0 0 Absent never_left) ∷ [];
}
unfolding told
p1_cut = refl

-- int i = 0; while (i < 9) { print(i); i = i + 1; } println(); with 18 steps
abbrev cut_in_a_loop : Program
cut_in_a_loop = program
    ((class_named (codes "Main") 1 (Some 0) ([])) ∷ [])
    ((method_named (codes "new") 1 18 ([]) Void kinds.Constructor) ∷ (method_named (codes "main") 6 18 (Of (Named 1) 1 ∷ []) Void kinds.Static) ∷ [])
    ([])
    ((Some (body_with (Stmt 75 1 false 4294967295 (Block done)) (1 ∷ []) 1)) ∷ (Some (body_with (Stmt 76 8 true 4294967295 (Block (first (Stmt 77 12 true 4294967295 (Eval (Set (Local 1) (Const (Int (pos 0))) 12))) (first (Stmt 78 20 true 78 (While (Bin op.Lt (Read (Local 1)) (Const (Int (pos 9))) 0) (Stmt 79 21 true 4294967295 (Block (first (Stmt 80 22 true 4294967295 (Print (the (Read (Local 1))) Void false 22)) (first (Stmt 81 25 true 4294967295 (Eval (Set (Local 1) (Bin op.Add (Read (Local 1)) (Const (Int (pos 1))) 0) 26))) done)))))) (first (Stmt 82 30 true 4294967295 (Print absent Void true 31)) done))))) (11 ∷ 12 ∷ []) 40)) ∷ [])
    ((Some (body_with (Stmt 74 1 false 4294967295 (Block done)) ([]) 1)) ∷ [])
    ([])
    83 37

cut_in_a_loop_output : (told cut_in_a_loop [] 18).output ≡ codes "0"
unfolding told
cut_in_a_loop_output = refl

cut_in_a_loop_events : length (told cut_in_a_loop [] 18).events ≡ 8
unfolding told
cut_in_a_loop_events = refl

cut_in_a_loop_stop : (told cut_in_a_loop [] 18).stop ≡ 2
unfolding told
cut_in_a_loop_stop = refl

-- static void f() { f(); } and main calls f(): with three frames
abbrev endless_calls : Program
endless_calls = program
    ((class_named (codes "Main") 1 (Some 0) ([])) ∷ [])
    ((method_named (codes "new") 1 18 ([]) Void kinds.Constructor) ∷ (method_named (codes "main") 6 18 (Of (Named 1) 1 ∷ []) Void kinds.Static) ∷ (method_named (codes "f") 12 18 ([]) Void kinds.Static) ∷ [])
    ([])
    ((Some (body_with (Stmt 75 1 false 4294967295 (Block done)) (1 ∷ []) 1)) ∷ (Some (body_with (Stmt 76 8 true 4294967295 (Block (first (Stmt 77 9 true 4294967295 (Eval (Call calling.Static 38 absent Void none 10))) done))) (11 ∷ []) 14)) ∷ (Some (body_with (Stmt 78 15 true 4294967295 (Block (first (Stmt 79 16 true 4294967295 (Eval (Call calling.Static 38 absent Void none 17))) done))) ([]) 20)) ∷ [])
    ((Some (body_with (Stmt 74 1 false 4294967295 (Block done)) ([]) 1)) ∷ [])
    ([])
    80 37

-- main and two calls of f stand in one another; the third call is one frame too many, and records nothing
abbrev with_three_frames : Outcome carries_nothing (Carried carries_nothing)
with_three_frames = main_run (world endless_calls 3) (start [] 1000)

depth_stop : stop_of with_three_frames ≡ 8
unfolding told
depth_stop = refl

depth_events : length (end with_three_frames).noted ≡ 6
unfolding told
depth_events = refl

-- the uses, elements and units that there may be in all, and one more
elements_full : stop_of (take_elements 1 (record (start {A = carries_nothing} [] 1) { elements = 16777216 })) ≡ 5
unfolding told
elements_full = refl

elements_fit : stop_of (take_elements 1 (record (start {A = carries_nothing} [] 1) { elements = 16777215 })) ≡ 0
unfolding told
elements_fit = refl

units_full : stop_of (take_units 1 (record (start {A = carries_nothing} [] 1) { units = 16777216 })) ≡ 6
unfolding told
units_full = refl

units_fit : stop_of (take_units 1 (record (start {A = carries_nothing} [] 1) { units = 16777215 })) ≡ 0
unfolding told
units_fit = refl

-- the limit of elements comes before that of uses
elements_before_uses : stop_of (make_array (world endless_calls 3) 1 (Of (Basic prim.Int) 1) 1 (value_of (record { number = 0; from_data = tt; from_all = tt }) (val.Int (pos 1))) (record (start {A = carries_nothing} [] 1) { elements = 16777216; uses = 32000000 })) ≡ 5
unfolding told
elements_before_uses = refl

uses_full : stop_of (make_array (world endless_calls 3) 1 (Of (Basic prim.Int) 1) 1 (value_of (record { number = 0; from_data = tt; from_all = tt }) (val.Int (pos 1))) (record (start {A = carries_nothing} [] 1) { uses = 32000000 })) ≡ 4
unfolding told
uses_full = refl

-- ---- an action that would pass several limits stops at the first of them: depth, elements, units, output, events, uses

module _ {A : Sets} (s : State A) where
  -- a call and an initialization too deep, whatever else is full
  depth_before_all : (p : Program) (site m : ℕ) (receiver : Option (Carried A)) (args : List (Carried A)) → (world p 0).call site m receiver args s ≡ Stopped DepthLimit s
  unfolding world stop
  depth_before_all p site m receiver args = refl

  depth_of_initialization : (p : Program) (site c : ℕ) → (world p 0).enter site c s ≡ Stopped DepthLimit s
  unfolding world stop
  depth_of_initialization p site c = refl

  -- the last two, wherever an event is recorded
  events_before_uses : {X : Type 0} (c : Carried A) (m : Run A X) → event_limit ≤ length s.noted → room_for c m s ≡ Stopped EventLimit s
  unfolding room_for choose stop
  events_before_uses c m full = ap (λ b. choose b (choose (nat_le (s.uses + length c.uses) use_limit) m (stop UseLimit)) (stop EventLimit) s) (le-ltb (length s.noted) event_limit full)

  uses_at_last : {X : Type 0} (c : Carried A) (m : Run A X) → length s.noted < event_limit → use_limit < s.uses + length c.uses → room_for c m s ≡ Stopped UseLimit s
  unfolding room_for choose stop
  uses_at_last c m fits full =
      ap (λ b. choose b (choose (nat_le (s.uses + length c.uses) use_limit) m (stop UseLimit)) (stop EventLimit) s) (lt-ltb (length s.noted) event_limit fits)
      ∙ ap (λ b. choose b m (stop UseLimit) s) (lt-leb (s.uses + length c.uses) use_limit full)

  -- what stops its first part stops a run
  stops_whole : {X Y : Type 0} (m : Run A X) (f : X → Run A Y) (why : Stop) → m s ≡ Stopped why s → (m >>= f) s ≡ Stopped why s
  unfolding ◌>>=◌ go_on
  stops_whole m f why e = ap (λ o. go_on o f) e

  no_elements : (n : ℕ) → element_limit < s.elements + n → take_elements n s ≡ Stopped ElementLimit s
  unfolding take_elements choose stop
  no_elements n full = ap (λ b. choose b (with_elements n) (stop ElementLimit) s) (lt-leb (s.elements + n) element_limit full)

  no_units : (n : ℕ) → unit_limit < s.units + n → take_units n s ≡ Stopped UnitLimit s
  unfolding take_units choose stop
  no_units n full = ap (λ b. choose b (with_units n) (stop UnitLimit) s) (lt-leb (s.units + n) unit_limit full)

  no_output : (bytes : List ℕ) → output_limit < length s.output + length bytes → room_for_output bytes s ≡ Stopped OutputLimit s
  unfolding room_for_output choose stop
  no_output bytes full = ap (λ b. choose b (return tt) (stop OutputLimit) s) (lt-leb (length s.output + length bytes) output_limit full)

  -- a new array, a new text and a Print pass their own limit before those of their event, however full these are
  elements_before_events : (w : World A) (site : ℕ) (ty : Ty) (n : ℕ) (c : Carried A) → element_limit < s.elements + n → make_array w site ty n c s ≡ Stopped ElementLimit s
  unfolding make_array ◌>>◌
  elements_before_events w site ty n c full = stops_whole (take_elements n) _ ElementLimit (no_elements n full)

  units_before_events : (site : ℕ) (units : List ℕ) (c : Carried A) → unit_limit < s.units + length units → make_text site units c s ≡ Stopped UnitLimit s
  unfolding make_text ◌>>◌
  units_before_events site units c full = stops_whole (take_units (length units)) _ UnitLimit (no_units (length units) full)

  output_before_events : (site : ℕ) (bytes : List ℕ) (c : Carried A) → output_limit < length s.output + length bytes → print site bytes c s ≡ Stopped OutputLimit s
  unfolding print ◌>>◌
  output_before_events site bytes c full = stops_whole (room_for_output bytes) _ OutputLimit (no_output bytes full)

  -- with room for the bytes, a Print is stopped by the events
  print_without_events : (site : ℕ) (bytes : List ℕ) (c : Carried A) → length s.output + length bytes ≤ output_limit → event_limit ≤ length s.noted → print site bytes c s ≡ Stopped EventLimit s
  unfolding print ◌>>◌ ◌>>=◌ go_on room_for_output choose return note
  print_without_events site bytes c fits full =
      ap (λ b. go_on (choose b (return tt) (stop OutputLimit) s) (λ t. note (plain kind.Print site c.value) c >> write_out bytes)) (le-leb (length s.output + length bytes) output_limit fits)
      ∙ ap (λ o. go_on o (λ e. write_out bytes)) (events_before_uses c (noting (plain kind.Print site c.value) c) full)

-- the end of that run, as it is kept
kept_end : kept_tail (record { coverage = record { statements = record { begins = 1; ends = 0; first = 4; cause = 4294967294 } ∷ record { begins = 0; ends = 0; first = 4294967295; cause = 4294967295 } ∷ [] }; stop = 2; last = 4294967295; steps = 5; events = 5; uses = 1; output = 0 })
    ≡ record { coverage = (cover 1 0 (Some 4) going_on) ∷ (cover 0 0 Absent never_left) ∷ []; stop = 2; last = Absent; steps = 5; events = 5; uses = 1; output = 0 }
unfolding kept_tail covered_of present
kept_end = refl
