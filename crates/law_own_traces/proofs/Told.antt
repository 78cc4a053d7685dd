-- The bytes of either version tell all of each record of a run.
use Rattle.std.specs.Prelude.{All, Option, Some, slice_get, take}
use Rattle.std.proofs.Common.{◌≡◌, ◌<◌, ℕ, zero, suc, List, [], ◌∷◌, length, refl, arith}
use Rattle.wy_kernel.specs.declared.program.Program as memory
use Rattle.wy_kernel.specs.Parts.{program_of}
use Rattle.wy_kernel.specs.Program as parts
use Rattle.wy_value.specs.declared.value.Value.{Value}
use Rattle.wy_value.specs.declared.value.Value.TheVariants as val
use Rattle.wy_event.specs.declared.record.Kind.{Kind}
use Rattle.wy_event.specs.declared.record.Kind.TheVariants as kind
use Rattle.wy_event.specs.declared.record.Version.{Version}
use Rattle.wy_event.specs.declared.record.Version.TheVariants as version
use Rattle.wy_event.specs.Record.{Recorded}
use Rattle.wy_steps.specs.Sets.{nothing}
use Rattle.wy_steps.specs.Steps.{code_of}
use Rattle.wy_meaning.specs.Run.{events}
use Rattle.wy_fitting.specs.Fits.{IsTold, told, told_arm, told_truth, told_units, told_value}
use Rattle.law_shaped.specs.Shaped.{RecordsAreShaped, Shaped, UnitsOf}
use Rattle.law_in_range.specs.InRange.{Events, InRange, IsArm, IsNone, IsReturned, RunsAreInRange, ValueInRange}
use Rattle.law_own_traces.specs.Own.{OwnEventsAreTold, text_of}
use Rattle.law_own_traces.proofs.Plain.{byte_plain, length_plain, none_plain, printed_plain, some_plain, thrown_plain}

plain_told : (v : Version) (x : Value) → IsReturned x → told_truth v x ≡ x
plain_told version.One (val.Arm n) h = absurd h
plain_told version.One _ h = refl
plain_told version.Two x h = refl

arm_told : (v : Version) (x : Value) → IsArm x → told_arm v x ≡ x
arm_told version.One (val.Arm zero) h = refl
arm_told version.One (val.Arm (suc zero)) h = refl
arm_told version.One (val.Arm (suc (suc n))) h = absurd (omega (arith, h))
arm_told version.One _ h = absurd h
arm_told version.Two x h = refl

nothing_told : (x : Value) → IsNone x → val.None ≡ x
nothing_told val.None h = refl
nothing_told _ h = absurd h

value_told : (v : Version) (at : Events) (k : Kind) (entity : Option ℕ) (x : Value) → ValueInRange at k entity x → told_value v k x ≡ x
value_told v at kind.Init entity x h = plain_told v x (none_plain x h)
value_told v at kind.New entity x h = plain_told v x (length_plain (code_of entity) x h)
value_told v at kind.Call entity x h = plain_told v x (none_plain x h)
value_told v at kind.Bind entity x h = plain_told v x (some_plain x h)
value_told v at kind.Set entity x h = plain_told v x (some_plain x h)
value_told v at kind.Test entity x h = arm_told v x h
value_told v at kind.Text entity x h = nothing_told x h
value_told v at kind.Read entity x h = plain_told v x (byte_plain x h)
value_told v at kind.Print entity x h = plain_told v x (printed_plain x h)
value_told v at kind.Return entity x h = plain_told v x h
value_told v at kind.Jump entity x h = plain_told v x (none_plain x h)
value_told v at kind.Throw entity x h = plain_told v x (thrown_plain at x h)
value_told v at kind.Catch entity x h = plain_told v x (thrown_plain at x h)

units_told : (k : Kind) (us : List ℕ) → UnitsOf k us → told_units k us ≡ us
units_told kind.Text us h = refl
units_told _ [] h = refl
units_told _ (u ∷ us) h = absurd h

record_told : (v : Version) (tokens : ℕ) (p : parts.Program) (at : Events) (rs : List Recorded) (n : ℕ) (e : Recorded) → InRange tokens p at e → Shaped rs n e → IsTold v e
unfolding told
record_told v tokens p at rs n e ranged shaped = λ i. record {
  kind = e.kind;
  site = e.site;
  frame = e.frame;
  control = e.control;
  entity = e.entity;
  slot = e.slot;
  value = value_told v at e.kind e.entity e.value ranged.value i;
  units = units_told e.kind e.units shaped.units_of_kind i;
  uses = e.uses;
}

-- what holds of each record by its number holds of all
all_by_number : (P : Recorded → Type 0) (rs : List Recorded) → ((n : ℕ) (e : Recorded) → slice_get rs n ≡ Some e → P e) → All P rs
all_by_number P [] each k d less = absurd (omega (arith, less))
all_by_number P (r ∷ rs) each zero d less = each 0 r refl
all_by_number P (r ∷ rs) each (suc k) d less = all_by_number P rs (λ n e at. each (suc n) e at) k d (omega (arith, less))

pub own_told : (P : memory.Program) → ((p : parts.Program) (input : List ℕ) (budget : ℕ) → RecordsAreShaped nothing p input budget) → RunsAreInRange nothing (text_of P) (program_of P) → OwnEventsAreTold P
own_told P shaped ranged v input steps bytes =
    let rs : List Recorded = events nothing (program_of P) input steps in
    all_by_number (IsTold v) rs (λ n e at. record_told v (length P.lines.items) (program_of P) (slice_get (take n rs)) rs n e (ranged.records input steps bytes n e at) (shaped (program_of P) input steps n e at))
