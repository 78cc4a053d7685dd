-- A record whose numbers are in their bounds is read from its payload, and what is read there is such a record.
use Rattle.std.proofs.Common.{◌≡◌, ℕ, zero, suc, ◌<◌, ◌^◌, Bool, true, false, cond, eqb, List, [], ◌∷◌, ◌++◌, length, Option, Some, refl, sym, ap, subst, arith, All}
use Rattle.std.specs.Prelude.{None as Absent}
use Rattle.std.specs.Prelude.{◌==◌, ◌||◌, nat_lt}
use mir.Val.{bits}
use Rattle.std.specs.Int.{w32}
use Rattle.std.specs.List.{AllByRecursion}
use Rattle.std.proofs.lemmas.Bool.{eqb-true, lt-ltb, ltb-true}
use Rattle.std.proofs.lemmas.List.Elements.{All-from_recursion, recursion_from_All}
use Rattle.wy_kernel.specs.View.{NONE, present}
use Rattle.wy_value.specs.declared.value.Value.{Value}
use Rattle.wy_value.specs.declared.value.Value.TheVariants as val
use Rattle.wy_event.specs.declared.record.Version.{Version}
use Rattle.wy_event.specs.declared.record.Version.TheVariants as version
use Rattle.wy_event.specs.declared.record.Kind.{Kind}
use Rattle.wy_event.specs.declared.record.Kind.TheVariants as kind
use Rattle.wy_event.specs.declared.record.Use.{Use}
use Rattle.wy_event.specs.declared.record.Event.{Event}
use Rattle.wy_event.specs.Record.{Recorded, recorded}
use Rattle.wy_fitting.specs.Fits.{Fits, IsPresent, IsTold, IsUnit, UseFits, ValueFits, told, told_arm, told_truth, told_units, told_value}
use Rattle.wy_spelling.specs.Spelling.{content_bytes, event_payload, kind_number, number, optional, origin_bytes, slot_bytes, uses_bytes}
use Rattle.wy_spelling.proofs.Numbers.{optional_present}
use Rattle.wy_view.specs.References.{OptionBelow, RefersBelow, UsesBelow, ValueBelow}
use Rattle.wy_payload.specs.declared.value.ValueForm.TheVariants as form
use Rattle.wy_payload.specs.declared.event.Content.{Content}
use Rattle.wy_frame_reading.specs.Fields.{event_at}
use Rattle.wy_frame_reading.proofs.Readers.{Reads, by_parts}
use Rattle.wy_frame_reading.proofs.Numbers.{IsOptional}
use Rattle.wy_frame_reading.proofs.Uses.{GoodUse}
use Rattle.wy_frame_reading.proofs.Values.{IsSpelled}
use Rattle.wy_frame_reading.proofs.Events.{GoodContent, GoodParts, Parts, parts_made, parts_read, parts_spelled}

-- its numbers fit, it refers to events below n and moments up to n, its bytes tell all of it, and its lists are short
pub record GoodRecord (v : Version) (n : ℕ) (e : Recorded) : Type 0 where
  pub fits : Fits e
  pub below : RefersBelow n e
  pub told : IsTold v e
  pub few_units : length e.units < 2 ^ bits w32
  pub few_uses : length e.uses < 2 ^ bits w32

-- ---- numbers that may be absent, as they stand in memory

abbrev raw : Option ℕ → ℕ
raw Absent = NONE
raw (Some n) = n

raw_spelled : (o : Option ℕ) → number (raw o) ≡ optional o
raw_spelled Absent = refl
raw_spelled (Some n) = refl

raw_small : (o : Option ℕ) → IsPresent o → raw o < 2 ^ bits w32
raw_small Absent fit = omega arith
raw_small (Some n) fit = omega (arith, fit)

either : (a b : Bool) → b ≡ true → (a || b) ≡ true
either true b is = refl
either false b is = is

raw_optional : (n : ℕ) (o : Option ℕ) → IsPresent o → OptionBelow n o → IsOptional n (raw o)
raw_optional n Absent fit lower = (omega arith, refl)
raw_optional n (Some m) fit lower = (omega (arith, fit), either (m == NONE) (nat_lt m n) (lt-ltb m n lower))

some_present : (n : ℕ) (b : Bool) → n < NONE → eqb n NONE ≡ b → cond b Absent (Some n) ≡ Some n
some_present n true small e = absurd (omega (arith, small, eqb-true n NONE e))
some_present n false small e = refl

raw_present : (o : Option ℕ) → IsPresent o → present (raw o) ≡ o
unfolding present
raw_present Absent fit = refl
raw_present (Some n) fit = some_present n (eqb n NONE) fit refl

-- a number in memory, by whether it is NONE
module _ (m : ℕ) (small : m < 2 ^ bits w32) where
  fits_by : (b : Bool) → eqb m NONE ≡ b → IsPresent (cond b Absent (Some m))
  fits_by true is = tt
  fits_by false is = grind (arith, is, small)

  raw_by : (b : Bool) → eqb m NONE ≡ b → raw (cond b Absent (Some m)) ≡ m
  raw_by true is = sym (eqb-true m NONE is)
  raw_by false is = refl

  below_by : (n : ℕ) (b : Bool) → eqb m NONE ≡ b → (b || nat_lt m n) ≡ true → OptionBelow n (cond b Absent (Some m))
  below_by n true is lower = tt
  below_by n false is lower = ltb-true m n lower

present_fits : (m : ℕ) → m < 2 ^ bits w32 → IsPresent (present m)
unfolding present
present_fits m small = fits_by m small (eqb m NONE) refl

present_raw : (m : ℕ) → m < 2 ^ bits w32 → raw (present m) ≡ m
unfolding present
present_raw m small = raw_by m small (eqb m NONE) refl

present_below : (n m : ℕ) → IsOptional n m → OptionBelow n (present m)
unfolding present
present_below n m (small, lower) = below_by m small n (eqb m NONE) refl lower

-- ---- contents

abbrev content : Value → List ℕ → Content
content v us = record { value = v; units = us }

-- what is told as it is in a version is spelled as itself there, and what is spelled so is told
bit : (n : ℕ) (b : Bool) → eqb n 1 ≡ b → cond b 1 0 ≡ n → n < 2
bit n true at is = omega (arith, is)
bit n false at is = omega (arith, is)

bit_is : (n : ℕ) → n < 2 → cond (eqb n 1) 1 0 ≡ n
bit_is zero small = refl
bit_is (suc zero) small = refl
bit_is (suc (suc n)) small = absurd (omega (arith, small))

arm_in : Value → ℕ
arm_in (val.Arm n) = n
arm_in _ = 0

spelled_arm : (v : Version) (x : Value) → told_arm v x ≡ x → IsSpelled v form.Arm x
unfolding arm_in
spelled_arm version.One (val.Bool b) is = absurd cc
spelled_arm version.One (val.Arm n) is = bit n (eqb n 1) refl (ap arm_in is)
spelled_arm version.One _ is = tt
spelled_arm version.Two x is = tt

spelled_other : (v : Version) (x : Value) → told_truth v x ≡ x → IsSpelled v form.Optional x
spelled_other version.One (val.Arm n) is = absurd cc
spelled_other version.One _ is = tt
spelled_other version.Two x is = tt

told_as_arm : (v : Version) (x : Value) → IsSpelled v form.Arm x → told_arm v x ≡ x
told_as_arm version.One (val.Bool b) good = absurd good
told_as_arm version.One (val.Arm n) good = ap val.Arm (bit_is n good)
told_as_arm version.One _ good = refl
told_as_arm version.Two x good = refl

told_as_other : (v : Version) (x : Value) → IsSpelled v form.Optional x → told_truth v x ≡ x
told_as_other version.One (val.Arm n) good = absurd good
told_as_other version.One _ good = refl
told_as_other version.Two x good = refl

-- what is asked of a content
record Content_parts (v : Version) (n : ℕ) (k : Kind) (x : Value) (us : List ℕ) : Type 0 where
  fits : ValueFits x
  lower : ValueBelow n x
  units : All IsUnit us
  few : length us < 2 ^ bits w32
  told_v : told_value v k x ≡ x
  told_u : told_units k us ≡ us

content_good : (v : Version) (n : ℕ) (k : Kind) (x : Value) (us : List ℕ) → Content_parts v n k x us → GoodContent v n k (content x us)
content_good v n kind.Text x us p = (sym p.told_v, (recursion_from_All IsUnit us p.units, p.few))
content_good v n kind.Test x us p = ((p.fits, p.lower, spelled_arm v x p.told_v), sym p.told_u)
content_good v n k x us p = ((p.fits, p.lower, spelled_other v x p.told_v), sym p.told_u)

no_units : (us : List ℕ) → us ≡ [] → All IsUnit us × (length us < 2 ^ bits w32)
no_units us is = subst (λ (l : List ℕ). All IsUnit l × (length l < 2 ^ bits w32)) (sym is) (All-from_recursion IsUnit [] tt, omega arith)

content_has : (v : Version) (n : ℕ) (k : Kind) (x : Value) (us : List ℕ) → GoodContent v n k (content x us) → Content_parts v n k x us
content_has v n kind.Text x us (none, (fit, few)) = record {
  fits = subst ValueFits (sym none) tt;
  lower = subst (ValueBelow n) (sym none) tt;
  units = All-from_recursion IsUnit us fit;
  few = few;
  told_v = sym none;
  told_u = refl;
}
content_has v n kind.Test x us ((fit, lower, spelled), none) = record {
  fits = fit;
  lower = lower;
  units = (no_units us none).0;
  few = (no_units us none).1;
  told_v = told_as_arm v x spelled;
  told_u = sym none;
}
content_has v n k x us ((fit, lower, spelled), none) = record {
  fits = fit;
  lower = lower;
  units = (no_units us none).0;
  few = (no_units us none).1;
  told_v = told_as_other v x spelled;
  told_u = sym none;
}

-- ---- uses

good_uses : (n : ℕ) (us : List Use) → AllByRecursion UseFits us → UsesBelow n us → AllByRecursion (GoodUse n) us
good_uses n [] fit lower = tt
good_uses n (u ∷ us) fit lower = ((fit.0, lower.0), good_uses n us fit.1 lower.1)

uses_fit : (n : ℕ) (us : List Use) → AllByRecursion (GoodUse n) us → AllByRecursion UseFits us
uses_fit n [] good = tt
uses_fit n (u ∷ us) good = (good.0.0, uses_fit n us good.1)

uses_below : (n : ℕ) (us : List Use) → AllByRecursion (GoodUse n) us → UsesBelow n us
uses_below n [] good = tt
uses_below n (u ∷ us) good = (good.0.1, uses_below n us good.1)

-- ---- records

-- a record as it stands in memory
abbrev pub event_of : Recorded → Event
event_of e = record { kind = e.kind; site = e.site; frame = raw e.frame; control = raw e.control; entity = raw e.entity; slot = e.slot; value = e.value; units = e.units; uses = e.uses }

abbrev parts_of : Recorded → Parts
parts_of e = (record { kind = e.kind; site = e.site; frame = raw e.frame; control = raw e.control; entity = raw e.entity }, (e.slot, (content e.value e.units, e.uses)))

abbrev record_of : Parts → Recorded
record_of p = recorded (parts_made p)

-- what is told of a record is it, by its parts
told_parts : (v : Version) (e : Recorded) → IsTold v e → (told_value v e.kind e.value ≡ e.value) × (told_units e.kind e.units ≡ e.units)
unfolding told
told_parts v e is = (ap (λ r. r.value) is, ap (λ r. r.units) is)

told_all : (w : Version) (e : Recorded) → told_value w e.kind e.value ≡ e.value → told_units e.kind e.units ≡ e.units → IsTold w e
unfolding told
told_all w e v us = λ i. record { kind = e.kind; site = e.site; frame = e.frame; control = e.control; entity = e.entity; slot = e.slot; value = v i; units = us i; uses = e.uses }

parts_good : (v : Version) (n : ℕ) (e : Recorded) → GoodRecord v n e → GoodParts v n (parts_of e)
parts_good v n e good =
    let fits = good.fits in
    let below = good.below in
    let all = told_parts v e good.told in (
      (fits.site, raw_optional n e.frame fits.frame below.frame, raw_optional n e.control fits.control below.control, raw_small e.entity fits.entity),
      (
        (fits.slot, below.slot),
        (
          content_good v n e.kind e.value e.units (record { fits = fits.value; lower = below.value; units = fits.units; few = good.few_units; told_v = all.0; told_u = all.1 }),
          (good_uses n e.uses (recursion_from_All UseFits e.uses fits.uses) below.uses, good.few_uses),
        ),
      ),
    )

parts_told : (v : Version) (e : Recorded) → parts_spelled v (parts_of e) ≡ event_payload v e
unfolding event_payload origin_bytes
parts_told v e =
    λ i. kind_number e.kind ∷ number e.site ++ (raw_spelled e.frame i ++ (raw_spelled e.control i ++ raw_spelled e.entity i)) ++ (slot_bytes e.slot ++ (content_bytes v e.kind e.value e.units ++ uses_bytes e.uses))

record_good : (v : Version) (n : ℕ) (p : Parts) → GoodParts v n p → GoodRecord v n (record_of p)
unfolding recorded
record_good v n (o, (x, (c, us))) ((site, frame, control, entity), ((fit, lower), (has, (all, few)))) =
    let inner = content_has v n o.kind c.value c.units has in
    record {
      fits = record {
        site = site;
        frame = present_fits o.frame frame.0;
        control = present_fits o.control control.0;
        entity = present_fits o.entity entity;
        slot = fit;
        value = inner.fits;
        units = inner.units;
        uses = All-from_recursion UseFits us (uses_fit n us all);
      };
      below = record { frame = present_below n o.frame frame; control = present_below n o.control control; slot = lower; value = inner.lower; uses = uses_below n us all };
      told = told_all v (record_of (o, (x, (c, us)))) inner.told_v inner.told_u;
      few_units = inner.few;
      few_uses = few;
    }

record_made : (v : Version) (n : ℕ) (p : Parts) → GoodParts v n p → parts_made p ≡ event_of (record_of p)
unfolding recorded
record_made v n (o, (x, (c, us))) ((site, frame, control, entity), others) = λ i. record {
  kind = o.kind;
  site = o.site;
  frame = sym (present_raw o.frame frame.0) i;
  control = sym (present_raw o.control control.0) i;
  entity = sym (present_raw o.entity entity) i;
  slot = x;
  value = c.value;
  units = c.units;
  uses = us;
}

record_told : (v : Version) (p : Parts) → parts_spelled v p ≡ event_payload v (record_of p)
unfolding event_payload origin_bytes recorded
record_told v (o, (x, (c, us))) = rw (optional_present o.frame, optional_present o.control, optional_present o.entity) refl

pub event_read : (v : Version) (n : ℕ) → Reads Recorded Event (GoodRecord v n) (event_payload v) event_of (event_at v n)
event_read v n =
    by_parts Parts Recorded Event (GoodParts v n) (parts_spelled v) parts_made (GoodRecord v n) (event_payload v) event_of (event_at v n) parts_of record_of (parts_read v n)
    (λ e good. (parts_good v n e good, refl, parts_told v e)) (λ p good. (record_good v n p good, record_made v n p good, record_told v p))

-- memory holds the record
pub seen_again : (e : Recorded) → Fits e → recorded (event_of e) ≡ e
unfolding recorded
seen_again e fits = λ i. record {
  kind = e.kind;
  site = e.site;
  frame = raw_present e.frame fits.frame i;
  control = raw_present e.control fits.control i;
  entity = raw_present e.entity fits.entity i;
  slot = e.slot;
  value = e.value;
  units = e.units;
  uses = e.uses;
}
