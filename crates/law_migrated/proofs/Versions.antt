-- What keeps the rules of one version keeps those of the other, and what bytes of one tell those of version 2 do.
use Rattle.std.proofs.Common.{◌≡◌, ℕ, ◌+◌, ◌<◌, ◌≤◌, Bool, List, [], ◌∷◌, ◌++◌, map, Option, Some, refl, sym, ap, ap₂, ◌∙◌, subst}
use Rattle.std.specs.Prelude.{slice_get}
use Rattle.std.proofs.lemmas.List.Elements.{All-head, All-tail, All-weaker}
use Rattle.wy_kernel.specs.declared.program.Program.{Program}
use Rattle.wy_value.specs.declared.value.Value.{Value}
use Rattle.wy_value.specs.declared.value.Value.TheVariants as val
use Rattle.wy_event.specs.declared.record.Head.{Head}
use Rattle.wy_event.specs.declared.record.Kind.{Kind}
use Rattle.wy_event.specs.declared.record.Kind.TheVariants as kind
use Rattle.wy_event.specs.declared.record.Slot.{Slot}
use Rattle.wy_event.specs.declared.record.Slot.TheVariants as slots
use Rattle.wy_event.specs.declared.record.Tail.{Tail}
use Rattle.wy_event.specs.declared.record.Use.{Use}
use Rattle.wy_event.specs.declared.record.Use.TheVariants as used
use Rattle.wy_event.specs.declared.record.Version.{Version}
use Rattle.wy_event.specs.declared.record.Version.TheVariants as version
use Rattle.wy_event.specs.Record.{Recorded}
use Rattle.wy_fitting.specs.Fits.{AllTold, IsTold, told, told_units, told_value}
use Rattle.wy_kernel.specs.Limits.{output_limit}
use Rattle.wy_payload.specs.declared.known.Known.{Known}
use Rattle.wy_payload.specs.declared.known.Known.TheVariants as known
use Rattle.wy_payload.specs.declared.ranges.Ranges.{Ranges}
use Rattle.wy_payload.specs.declared.slot.SlotForm.{SlotForm}
use Rattle.wy_payload.specs.declared.value.ValueForm.{ValueForm}
use Rattle.wy_payload.specs.Ranges.{ranges_of}
use Rattle.wy_payload.specs.Rules.{entity_rule, field_rule, is_code, locals_in, site_rule}
use Rattle.wy_payload.specs.Values.{newline_length, output_of, printed_length}
use Rattle.law_reading.specs.Readable.{IsReadable, MayStand, SlotIsThere, SlotMayStand, UseMayStand, ValueIsThere, ValueMayStand, known_in, known_before, printed}

module _ (v w : Version) (p : Program) where
  abbrev old : Ranges
  old = ranges_of v p

  abbrev new : Ranges
  new = ranges_of w p

  -- ---- rules of a program

  site_same : (n : ℕ) → site_rule old n ≡ site_rule new n
  unfolding site_rule ranges_of
  site_same n = refl

  entity_same : (k : Kind) (n : ℕ) → entity_rule old k n ≡ entity_rule new k n
  unfolding entity_rule is_code ranges_of
  entity_same kind.Init n = refl
  entity_same kind.New n = refl
  entity_same kind.Call n = refl
  entity_same _ n = refl

  locals_same : (o : Option Known) → locals_in old o ≡ locals_in new o
  unfolding locals_in ranges_of
  locals_same (Some (known.Init class)) = refl
  locals_same (Some (known.Call method)) = refl
  locals_same _ = refl

  field_same : (static : Bool) (n : ℕ) → field_rule old static n ≡ field_rule new static n
  unfolding field_rule ranges_of
  field_same static n = refl

  printed_same : (earlier : List Known) (x : Value) → printed_length old earlier x ≡ printed_length new earlier x
  unfolding printed_length ranges_of
  printed_same earlier (val.Text n) = refl
  printed_same earlier (val.Fixed n) = refl
  printed_same earlier _ = refl

  output_same : (earlier : List Known) (k : Kind) (site : ℕ) (x : Value) → output_of old earlier k site x ≡ output_of new earlier k site x
  unfolding output_of ranges_of
  output_same earlier kind.Print site x = ap (λ n. n + newline_length new site) (printed_same earlier x)
  output_same earlier _ site x = refl

  all_same : (earlier : List Known) (rs : List Recorded) → printed old earlier rs ≡ printed new earlier rs
  unfolding printed
  all_same earlier [] = refl
  all_same earlier (e ∷ rs) = ap₂ (λ (m n : ℕ). m + n) (output_same earlier e.kind e.site e.value) (all_same (earlier ++ known_in e ∷ []) rs)

  -- ---- parts of a record

  slot_there : (earlier : List Known) (x : Slot) → SlotIsThere old earlier x → SlotIsThere new earlier x
  slot_there earlier slots.None h = tt
  slot_there earlier (slots.Local frame index) h = (h.0, subst (λ n. index < n) (locals_same (slice_get earlier frame)) h.1)
  slot_there earlier (slots.Static field) h = sym (field_same _ field) ∙ h
  slot_there earlier (slots.Field object field) h = (h.0, sym (field_same _ field) ∙ h.1)
  slot_there earlier (slots.Elem array index) h = h

  slot_may : (earlier : List Known) (wanted : SlotForm) (x : Slot) → SlotMayStand old earlier wanted x → SlotMayStand new earlier wanted x
  slot_may earlier wanted x h = record { form = h.form; there = slot_there earlier x h.there }

  value_there : (earlier : List Known) (wanted : ValueForm) (x : Value) → ValueIsThere old earlier wanted x → ValueIsThere new earlier wanted x
  unfolding ranges_of
  value_there earlier wanted (val.Int z) h = h
  value_there earlier wanted (val.Object n) h = h
  value_there earlier wanted (val.Text n) h = h
  value_there earlier wanted (val.Fixed n) h = h
  value_there earlier wanted (val.Arm n) h = h
  value_there earlier wanted _ h = tt

  value_may : (earlier : List Known) (wanted : ValueForm) (x : Value) → ValueMayStand old earlier wanted x → ValueMayStand new earlier wanted x
  value_may earlier wanted x h = record { form = h.form; there = value_there earlier wanted x h.there }

  use_may : (earlier : List Known) (u : Use) → UseMayStand old earlier u → UseMayStand new earlier u
  use_may earlier (used.Place x moment) h = (slot_may earlier _ x h.0, h.1)
  use_may earlier (used.Value event) h = h
  use_may earlier (used.Choice event) h = h

  may : (earlier : List Known) (e : Recorded) → MayStand old earlier e → MayStand new earlier e
  may earlier e h = record {
    site = sym (site_same e.site) ∙ h.site;
    frame = h.frame;
    control = h.control;
    entity = sym (entity_same e.kind _) ∙ h.entity;
    slot = slot_may earlier _ e.slot h.slot;
    value = value_may earlier _ e.value h.value;
    uses = All-weaker (UseMayStand old earlier) (UseMayStand new earlier) (use_may earlier) e.uses h.uses;
  }

  pub readable : (head : Head) (rs : List Recorded) (end : Tail) → IsReadable v p head rs end → IsReadable w p head rs end
  readable head rs end h = record {
    head_stands = h.head_stands;
    fit = h.fit;
    few = h.few;
    events_stand = λ n e at. may (known_before rs n) e (h.events_stand n e at);
    little_output = subst (λ n. n ≤ output_limit) (all_same [] rs) h.little_output;
    end_stands = h.end_stands;
    counts = record { events = h.counts.events; uses = h.counts.uses; output = h.counts.output ∙ all_same [] rs };
  }

-- ---- what is told

told_two : (v : Version) (k : Kind) (x : Value) → told_value v k x ≡ x → told_value version.Two k x ≡ x
told_two v kind.Text x h = h
told_two v _ x h = refl

record_told : (v : Version) (e : Recorded) → IsTold v e → IsTold version.Two e
unfolding told
record_told v e h =
    let value : told_value version.Two e.kind e.value ≡ e.value = told_two v e.kind e.value (ap (λ (r : Recorded). r.value) h) in
    let units : told_units e.kind e.units ≡ e.units = ap (λ (r : Recorded). r.units) h in
    λ i. record { kind = e.kind; site = e.site; frame = e.frame; control = e.control; entity = e.entity; slot = e.slot; value = value i; units = units i; uses = e.uses }

pub all_told : (v : Version) (rs : List Recorded) → AllTold v rs → map (told version.Two) rs ≡ rs
all_told v [] h = refl
all_told v (e ∷ rs) h = ap₂ (λ (x : Recorded) (xs : List Recorded). x ∷ xs) (record_told v e (All-head (IsTold v) e rs h)) (all_told v rs (All-tail (IsTold v) e rs h))
