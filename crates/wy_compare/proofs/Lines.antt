-- Two lists of records that agree below a place: what is written of an event below it is the same for both.
use Rattle.std.proofs.Common.{◌≡◌, ◌∙◌, ◌<◌, ◌≤◌, ◌+◌, ℕ, suc, Bool, List, [], ◌∷◌, ◌++◌, Option, Some, refl, sym, ap, ap₂, arith}
use Rattle.std.specs.Prelude.{None as Absent}
use Rattle.std.specs.Prelude.{slice_get}
use Rattle.std.specs.List.{flat_map}
use Rattle.wy_value.specs.declared.value.Value.{Value}
use Rattle.wy_value.specs.declared.value.Value.TheVariants as value
use Rattle.wy_kernel.specs.Program.{Program}
use Rattle.wy_event.specs.declared.record.Kind.{Kind}
use Rattle.wy_event.specs.declared.record.Kind.TheVariants as kind
use Rattle.wy_event.specs.declared.record.Slot.{Slot}
use Rattle.wy_event.specs.declared.record.Slot.TheVariants as slot
use Rattle.wy_event.specs.Record.{Recorded}
use Rattle.wy_event.specs.Sources.{closure, data_closure}
use Rattle.wy_view.specs.References.{RefersBelow, SlotBelow, ValueBelow}
use Rattle.wy_why.specs.Answer.{Rises, up_to}
use Rattle.wy_why.proofs.Closures.{refers_up}
use Rattle.wy_why.proofs.Ends.{range_rises}
use Rattle.wy_ask.specs.Asked.{owners}
use Rattle.wy_text.specs.EventLines.{deed, deed_of, event_line, given, line_at, line_with}
use Rattle.wy_text.specs.Names.{made_name, numbered}
use Rattle.wy_text.specs.Places.{frame_body, local_name, slot_text}
use Rattle.wy_text.specs.Values.{entity_of, quoted, units_of, value_text}
use Rattle.wy_telling.specs.Answers.{marked_lines}
use Rattle.wy_telling.specs.Why.{why_text}
use Rattle.wy_compare.proofs.Agreeing.{closure_same, data_same}

given_below : (k n : ℕ) (of : Kind) (v : Value) → k < n → ValueBelow n v → ValueBelow n (given of k v)
unfolding given
given_below k n kind.Text v lt below = lt
given_below k n _ v lt below = below

-- the same for each number of a rising list
each_same : (f g : ℕ → List ℕ) (low high : ℕ) (ns : List ℕ) → Rises low high ns → ((k : ℕ) → k < high → f k ≡ g k) → flat_map f ns ≡ flat_map g ns
each_same f g low high [] rises same = refl
each_same f g low high (x ∷ ns) (at, below, more) same = ap₂ (λ a b. a ++ b) (same x below) (each_same f g (suc x) high ns more same)

module _ (p : Program) (lines : List ℕ) (good bad : List Recorded) (n : ℕ) (agree : (k : ℕ) → k < n → slice_get good k ≡ slice_get bad k) (refers : (k : ℕ) (e : Recorded) → slice_get good k ≡ Some e → RefersBelow k e) where
  value_same : (v : Value) → ValueBelow n v → value_text p good v ≡ value_text p bad v
  unfolding value_text
  value_same (value.Text k) below = ap (λ o. quoted (units_of o)) (agree k below)
  value_same (value.Object k) below = ap (λ o. made_name p (entity_of o) ++ numbered k) (agree k below)
  value_same _ below = refl

  slot_same : (x : Slot) → SlotBelow n x → slot_text p good x ≡ slot_text p bad x
  unfolding slot_text
  slot_same (slot.Local frame index) below = ap (λ o. local_name (frame_body p o) index) (agree frame below)
  slot_same _ below = refl

  deed_same : (k : ℕ) (e : Recorded) → k < n → RefersBelow n e → deed_of p good k e ≡ deed_of p bad k e
  unfolding deed_of
  deed_same k e lt below = ap₂ (λ x v. deed p e.kind e.entity x v) (slot_same e.slot below.slot) (value_same (given e.kind k e.value) (given_below k n e.kind e.value lt below.value))

  of_record : (k : ℕ) (marked : Bool) → k < n → (o : Option Recorded) → slice_get good k ≡ o → line_at p lines good k marked o ≡ line_at p lines bad k marked o
  unfolding line_at
  of_record k marked lt Absent is = refl
  of_record k marked lt (Some e) is = ap (λ t. line_with lines k e.site t marked) (deed_same k e lt (refers_up k n e (omega (arith, lt)) (refers k e is)))

  line_same : (k : ℕ) (marked : Bool) → k < n → event_line p lines good k marked ≡ event_line p lines bad k marked
  unfolding event_line
  line_same k marked lt = of_record k marked lt (slice_get good k) refl ∙ ap (line_at p lines bad k marked) (agree k lt)

  pub why_same : (event : ℕ) → event < n → why_text p lines good event ≡ why_text p lines bad event
  unfolding why_text
  why_same event lt =
      let all = closure (owners p) good event in
      let flow = data_closure (owners p) good event in
      each_same (λ k. event_line p lines good k (flow k)) (λ k. event_line p lines bad k (flow k)) 0 n (up_to event all) (range_rises all 0 (suc event) n (omega (arith, lt))) (λ k less. line_same k (flow k) less)
      ∙ ap (λ s. marked_lines p lines bad s (up_to event all)) (data_same (owners p) good bad n agree refers event lt)
      ∙ ap (λ s. marked_lines p lines bad (data_closure (owners p) bad event) (up_to event s)) (closure_same (owners p) good bad n agree refers event lt)
