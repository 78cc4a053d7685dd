-- The closures of the worked runs over their records, and what their values carried; a run that the step limit cuts.
use Rattle.std.proofs.Common.{◌≡◌, refl}
use Rattle.std.specs.Prelude.{ℕ, Bool, List, [], ◌∷◌, Option, Some, slice_get}
use Rattle.std.specs.Prelude.{None as Absent}
use Rattle.wy_kernel.specs.Program.{Program}
use Rattle.wy_event.specs.Numbers.{Numbers}
use Rattle.wy_event.specs.Sources.{closure, data_closure, last_write}
use Rattle.wy_event.specs.declared.record.Slot.TheVariants.{Local}
use Rattle.wy_steps.specs.Sets.{nothing as carries_nothing, numbers}
use Rattle.wy_steps.specs.State.{Noted}
use Rattle.wy_steps.specs.Steps.{owner_in}
use Rattle.wy_meaning.specs.Run.{events, history}
use Rattle.wy_meaning.proofs.Computed.{told, numbers_in}
use Rattle.wy_meaning.proofs.Rows.{p1, assign_in_operand, loop_guards, overridden_in_constructor}

-- the answer for event n of a run, looked up in its records: in all, and by data
abbrev answer : Program → ℕ → List ℕ
answer p n = numbers_in (closure (owner_in p) (events carries_nothing p [] 1000) n) 0 (ℕ.suc n)

abbrev data_answer : Program → ℕ → List ℕ
data_answer p n = numbers_in (data_closure (owner_in p) (events carries_nothing p [] 1000) n) 0 (ℕ.suc n)

abbrev all_of : Option (Noted numbers) → Numbers
all_of Absent n = Bool.false
all_of (Some e) n = e.from_all n

abbrev data_of : Option (Noted numbers) → Numbers
data_of Absent n = Bool.false
data_of (Some e) n = e.from_data n

-- what event n carried
abbrev carried : Program → ℕ → List ℕ
carried p n = numbers_in (all_of (slice_get (history numbers p [] 1000) n)) 0 (ℕ.suc n)

abbrev data_carried : Program → ℕ → List ℕ
data_carried p n = numbers_in (data_of (slice_get (history numbers p [] 1000) n)) 0 (ℕ.suc n)

p1_answer : answer p1 8 ≡ 2 ∷ 4 ∷ 6 ∷ 7 ∷ 8 ∷ []
unfolding told
p1_answer = refl

p1_data_answer : data_answer p1 8 ≡ 4 ∷ 7 ∷ 8 ∷ []
unfolding told
p1_data_answer = refl

p1_carried : carried p1 8 ≡ 2 ∷ 4 ∷ 6 ∷ 7 ∷ 8 ∷ []
unfolding told
p1_carried = refl

p1_data_carried : data_carried p1 8 ≡ 4 ∷ 7 ∷ 8 ∷ []
unfolding told
p1_data_carried = refl

assign_in_operand_answer : answer assign_in_operand 7 ≡ 2 ∷ 4 ∷ 5 ∷ 6 ∷ 7 ∷ []
unfolding told
assign_in_operand_answer = refl

assign_in_operand_data_answer : data_answer assign_in_operand 7 ≡ 4 ∷ 5 ∷ 6 ∷ 7 ∷ []
unfolding told
assign_in_operand_data_answer = refl

assign_in_operand_carried : carried assign_in_operand 7 ≡ 2 ∷ 4 ∷ 5 ∷ 6 ∷ 7 ∷ []
unfolding told
assign_in_operand_carried = refl

assign_in_operand_data_carried : data_carried assign_in_operand 7 ≡ 4 ∷ 5 ∷ 6 ∷ 7 ∷ []
unfolding told
assign_in_operand_data_carried = refl

loop_guards_answer : answer loop_guards 14 ≡ 2 ∷ 4 ∷ 5 ∷ 6 ∷ 7 ∷ 10 ∷ 11 ∷ 12 ∷ 13 ∷ 14 ∷ []
unfolding told
loop_guards_answer = refl

loop_guards_data_answer : data_answer loop_guards 14 ≡ 4 ∷ 6 ∷ 11 ∷ 14 ∷ []
unfolding told
loop_guards_data_answer = refl

loop_guards_carried : carried loop_guards 14 ≡ 2 ∷ 4 ∷ 5 ∷ 6 ∷ 7 ∷ 10 ∷ 11 ∷ 12 ∷ 13 ∷ 14 ∷ []
unfolding told
loop_guards_carried = refl

loop_guards_data_carried : data_carried loop_guards 14 ≡ 4 ∷ 6 ∷ 11 ∷ 14 ∷ []
unfolding told
loop_guards_data_carried = refl

overridden_in_constructor_answer : answer overridden_in_constructor 13 ≡ 2 ∷ 6 ∷ 7 ∷ 8 ∷ 9 ∷ 10 ∷ 11 ∷ 12 ∷ 13 ∷ []
unfolding told
overridden_in_constructor_answer = refl

overridden_in_constructor_data_answer : data_answer overridden_in_constructor 13 ≡ 6 ∷ 8 ∷ 10 ∷ 12 ∷ 13 ∷ []
unfolding told
overridden_in_constructor_data_answer = refl

overridden_in_constructor_carried : carried overridden_in_constructor 13 ≡ 2 ∷ 6 ∷ 7 ∷ 8 ∷ 9 ∷ 10 ∷ 11 ∷ 12 ∷ 13 ∷ []
unfolding told
overridden_in_constructor_carried = refl

overridden_in_constructor_data_carried : data_carried overridden_in_constructor 13 ≡ 6 ∷ 8 ∷ 10 ∷ 12 ∷ 13 ∷ []
unfolding told
overridden_in_constructor_data_carried = refl

-- `y` below event 7 was last written by event 5
p1_last_write : last_write (owner_in p1) (events carries_nothing p1 [] 1000) (Local 2 2) 7 ≡ Some 5
unfolding told
p1_last_write = refl

-- with five steps the run stops before its second declaration begins: five events, and the third statement after the block has no begin
p1_in_five_steps : (told p1 [] 5).stop ≡ 2
unfolding told
p1_in_five_steps = refl
