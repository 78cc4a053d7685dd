-- A whole event is read back, so far as its bytes tell it.
use Rattle.std.proofs.Common.{◌≡◌, ℕ, ◌<◌, ◌^◌, Bool, true, false, cond, eqb, List, [], ◌∷◌, ◌++◌, length, Option, Some, Ok, Err, refl, sym, ap, subst, append-nil, arith, All}
use Rattle.std.specs.Prelude.{None as Absent}
use Rattle.std.specs.Prelude.{IfOk, nat_lt, slice_get}
use Rattle.std.proofs.lemmas.Bool.{eqb-true}
use Rattle.wy_value.specs.declared.value.Value.{Value}
use Rattle.wy_event.specs.declared.record.Version.{Version}
use Rattle.wy_event.specs.declared.record.Kind.{Kind}
use Rattle.wy_event.specs.declared.record.Kind.TheVariants as kind
use Rattle.wy_event.specs.Record.{Recorded, recorded}
use Rattle.wy_kernel.specs.View.{NONE, present}
use Rattle.wy_fitting.specs.Fits.{IsUnit, IsPresent, ValueFits, Fits, told_value, told_units, told}
use Rattle.wy_spelling.specs.Spelling.{number, optional, kind_number, slot_bytes, content_bytes, uses_bytes, origin_bytes, event_payload}
use Rattle.wy_spelling.proofs.Lengths.{units_are_few}
use Rattle.wy_payload.specs.declared.fault.DamageRule.TheVariants as rule
use Rattle.wy_payload.specs.declared.ranges.Ranges.{Ranges}
use Rattle.wy_payload.specs.declared.known.Known.{Known}
use Rattle.wy_payload.specs.declared.known.Role.{Role}
use Rattle.wy_payload.specs.declared.known.Role.TheVariants as role
use Rattle.wy_payload.specs.declared.event.Origin.{Origin}
use Rattle.wy_payload.specs.declared.event.Content.{Content}
use Rattle.wy_payload.specs.declared.event.Written.{Written}
use Rattle.wy_payload.specs.Rules.{in_range, optional_rule, site_rule, entity_rule}
use Rattle.wy_payload.specs.Reading.{Read, optional_at, all_of}
use Rattle.wy_payload.specs.Places.{slot_at, slot_form}
use Rattle.wy_payload.specs.Values.{value_form, output_behind, units_at, value_at}
use Rattle.wy_kernel.specs.Limits.{event_limit}
use Rattle.wy_payload.specs.Events.{kinds, kind_at, site_at, entity_at, origin_at, content_at, uses_at, event_at}
use Rattle.law_reading.proofs.SpelledSteps.{after}
use Rattle.law_reading.proofs.Back.{Gives, then_back, passed_back, checked_back, tag_back}
use Rattle.law_reading.proofs.BackParts.{slot_back}
use Rattle.law_reading.proofs.Told.{told_as, told_by_form}
use Rattle.law_reading.proofs.BackValues.{value_back, units_back, uses_back}
use Rattle.wy_payload.proofs.Tags.{kind_known}
use Rattle.law_reading.proofs.EventLengths.{parts_short}

-- ---- origins

-- as a number stands in memory
abbrev raw : Option ℕ → ℕ
raw Absent = NONE
raw (Some n) = n

raw_spelled : (o : Option ℕ) → optional o ≡ number (raw o)
raw_spelled Absent = refl
raw_spelled (Some n) = refl

raw_small : (o : Option ℕ) → IsPresent o → raw o < 2 ^ 32
raw_small Absent fit = omega arith
raw_small (Some n) fit = omega (arith, fit)

some_present : (n : ℕ) (b : Bool) → n < NONE → eqb n NONE ≡ b → cond b Absent (Some n) ≡ Some n
some_present n true small e = absurd (omega (arith, small, eqb-true n NONE e))
some_present n false small e = refl

raw_present : (o : Option ℕ) → IsPresent o → present (raw o) ≡ o
unfolding present
raw_present Absent fit = refl
raw_present (Some n) fit = some_present n (eqb n NONE) fit refl

kind_back : (earlier : List Known) (k : Kind) (rest : List ℕ) → Gives k rest (kind_at earlier (kind_number k ∷ rest))
unfolding kind_at
kind_back earlier k rest = tag_back (slice_get kinds) k (kind_number k) rest (kind_known k) _ _ (passed_back (in_range (nat_lt (length earlier) event_limit)) (k, rest))

site_back : (r : Ranges) (n : ℕ) (rest : List ℕ) → n < 2 ^ 32 → Gives n rest (site_at r (number n ++ rest))
unfolding site_at
site_back r n rest small = checked_back (site_rule r) n rest small

entity_back : (r : Ranges) (k : Kind) (n : ℕ) (rest : List ℕ) → n < 2 ^ 32 → Gives n rest (entity_at r k (number n ++ rest))
unfolding entity_at
entity_back r k n rest small = checked_back (entity_rule r k) n rest small

optional_back : (r : Role) (earlier : List Known) (n : ℕ) (rest : List ℕ) → n < 2 ^ 32 → Gives n rest (optional_at r earlier (number n ++ rest))
unfolding optional_at
optional_back r earlier n rest small = checked_back (optional_rule r earlier) n rest small

abbrev origin_of : Recorded → Origin
origin_of e = record { kind = e.kind; site = e.site; frame = raw e.frame; control = raw e.control; entity = raw e.entity }

origin_parts : (e : Recorded) (rest : List ℕ) → origin_bytes e ++ rest ≡ kind_number e.kind ∷ number e.site ++ (number (raw e.frame) ++ (number (raw e.control) ++ (number (raw e.entity) ++ rest)))
unfolding origin_bytes
origin_parts e rest = rw (raw_spelled e.frame, raw_spelled e.control, raw_spelled e.entity) refl

origin_back : (r : Ranges) (earlier : List Known) (e : Recorded) (rest : List ℕ) → Fits e → Gives (origin_of e) rest (origin_at r earlier (origin_bytes e ++ rest))
unfolding origin_at
origin_back r earlier e rest fit =
    let d = number (raw e.entity) ++ rest in
    let c = number (raw e.control) ++ d in
    let b = number (raw e.frame) ++ c in
    let a = number e.site ++ b in
    subst (λ (l : List ℕ). Gives (origin_of e) rest (origin_at r earlier l)) (sym (origin_parts e rest))
    (then_back (kind_at earlier (kind_number e.kind ∷ a)) _ (e.kind, a) _ (kind_back earlier e.kind a)
    (then_back (site_at r a) _ (e.site, b) _ (site_back r e.site b fit.site)
    (then_back (optional_at role.Frame earlier b) _ (raw e.frame, c) _ (optional_back role.Frame earlier (raw e.frame) c (raw_small e.frame fit.frame))
    (then_back (optional_at role.Control earlier c) _ (raw e.control, d) _ (optional_back role.Control earlier (raw e.control) d (raw_small e.control fit.control))
    (then_back (entity_at r e.kind d) _ (raw e.entity, rest) _ (entity_back r e.kind (raw e.entity) rest (raw_small e.entity fit.entity)) refl)))))

-- ---- contents

abbrev content_of : Version → Recorded → Content
content_of v e = record { value = told_value v e.kind e.value; units = told_units e.kind e.units }

-- the content of an event that is no Text
valued : List ℕ → Value → Content × List ℕ
valued rest x = (record { value = x; units = [] }, rest)

content_back : (r : Ranges) (earlier : List Known) (k : Kind) (entity : ℕ) (v : Value) (units rest : List ℕ) → ValueFits v → All IsUnit units → length (content_bytes r.version k v units) < 2 ^ 32
    → Gives (record { value = told_value r.version k v; units = told_units k units }) rest (content_at r earlier k entity (content_bytes r.version k v units ++ rest))
unfolding content_at valued
content_back r earlier kind.Text entity v units rest value fit short = then_back (units_at (content_bytes r.version kind.Text v units ++ rest)) _ (units, rest) _ (units_back units rest fit (units_are_few units short)) refl
content_back r earlier k entity v units rest value fit short =
    then_back (value_at r earlier (value_form k entity) (content_bytes r.version k v units ++ rest)) _ (told_as r.version (value_form k entity) v, rest) _ (value_back r earlier (value_form k entity) v rest value)
    (ap (valued rest) (told_by_form r.version k entity v tt))

-- ---- events

-- the record that was read
abbrev Tells : Version → Recorded → Written × List ℕ → Type 0
Tells v e w = (recorded w.0.event ≡ told v e) × (w.1 ≡ [])

event_told : (v : Version) (e : Recorded) (output : ℕ) → Fits e
    → Tells v e (record { event = record { kind = e.kind; site = e.site; frame = raw e.frame; control = raw e.control; entity = raw e.entity; slot = e.slot; value = told_value v e.kind e.value; units = told_units e.kind e.units; uses = e.uses }; output = output }, [])
unfolding recorded told
event_told v e output fit = (rw (raw_present e.frame fit.frame, raw_present e.control fit.control, raw_present e.entity fit.entity) refl, refl)

event_parts : (v : Version) (e : Recorded) → event_payload v e ≡ origin_bytes e ++ (slot_bytes e.slot ++ (content_bytes v e.kind e.value e.units ++ (uses_bytes e.uses ++ [])))
unfolding event_payload
event_parts v e = rw (append-nil (uses_bytes e.uses)) refl

event_back : (r : Ranges) (earlier : List Known) (output : ℕ) (e : Recorded) → Fits e → length (event_payload r.version e) < 2 ^ 32 → IfOk (event_at r earlier output (event_payload r.version e)) (Tells r.version e)
unfolding event_at
event_back r earlier output e fit short =
    let parts = parts_short r.version e short in
    let c = uses_bytes e.uses ++ [] in
    let b = content_bytes r.version e.kind e.value e.units ++ c in
    let a = slot_bytes e.slot ++ b in
    let content = content_of r.version e in
    subst (λ (l : List ℕ). IfOk (event_at r earlier output l) (Tells r.version e)) (sym (event_parts r.version e))
    (then_back (origin_at r earlier (origin_bytes e ++ a)) _ (origin_of e, a) _ (origin_back r earlier e a fit)
    (then_back (slot_at r earlier (slot_form e.kind) a) _ (e.slot, b) _ (slot_back r earlier (slot_form e.kind) e.slot b fit.slot)
    (then_back (content_at r earlier e.kind (raw e.entity) b) _ (content, c) _ (content_back r earlier e.kind (raw e.entity) e.value e.units c fit.value fit.units parts.content)
    (after (output_behind r earlier output e.kind e.site content.value) _ _ (λ total.
    then_back (uses_at r earlier c) _ (e.uses, []) _ (uses_back r earlier e.uses [] fit.uses parts.uses) (event_told r.version e total fit))))))

all_back : (v : Version) (read : Read Written) (e : Recorded) → IfOk read (Tells v e) → IfOk (all_of read) (λ w. recorded w.event ≡ told v e)
all_back v (Ok x) e is = ended (eqb (length x.1) 0)
  where
    ended : (b : Bool) → IfOk (cond b (Ok x.0) (Err rule.Length)) (λ w. recorded w.event ≡ told v e)
    ended true = is.0
    ended false = tt
all_back v (Err d) e is = tt

pub whole_back : (r : Ranges) (earlier : List Known) (output : ℕ) (e : Recorded) → Fits e → length (event_payload r.version e) < 2 ^ 32 → IfOk (all_of (event_at r earlier output (event_payload r.version e))) (λ w. recorded w.event ≡ told r.version e)
whole_back r earlier output e fit short = all_back r.version (event_at r earlier output (event_payload r.version e)) e (event_back r earlier output e fit short)
