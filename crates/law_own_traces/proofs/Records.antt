-- Each record that is in range keeps the rules of a reader, and so does what the records write.
use Rattle.std.proofs.Common.{◌≡◌, ◌≤◌, ◌+◌, ◌^◌, ◌++◌, arith, ℕ, zero, suc, Bool, true, false, List, [], ◌∷◌, length, Some, refl, sym, ap, ◌∙◌, subst, append_assoc}
use Rattle.std.specs.Prelude.{map, take, slice_get, slice_index, slice_index_or, if◌then◌else◌}
use Rattle.std.proofs.lemmas.Option.{slice_get_within}
use Rattle.std.proofs.lemmas.List.{length-append, map-append}
use Rattle.std.proofs.Math.Seq.{take-append_seam}
use Rattle.wy_kernel.specs.declared.program.Program as memory
use Rattle.wy_kernel.specs.Parts.{program_of}
use Rattle.wy_kernel.specs.Program.{fixed_text}
use Rattle.wy_value.specs.declared.value.Value.{Value}
use Rattle.wy_value.specs.declared.value.Value.TheVariants as val
use Rattle.wy_value.specs.Encoding.{utf8_of}
use Rattle.wy_value.proofs.Encodings.{utf8_of-nil}
use Rattle.wy_event.specs.declared.record.Version.{Version}
use Rattle.wy_event.specs.declared.record.Kind.{Kind}
use Rattle.wy_event.specs.declared.record.Kind.TheVariants as kind
use Rattle.wy_event.specs.Record.{Recorded}
use Rattle.wy_meaning.specs.World.{units_in}
use Rattle.wy_meaning.specs.Text.{line_end}
use Rattle.wy_payload.specs.declared.known.Known.{Known}
use Rattle.wy_payload.specs.declared.known.Role.TheVariants as role
use Rattle.wy_payload.specs.Ranges.{ranges_of, known_as}
use Rattle.wy_payload.specs.Values.{text_length, printed_length, newline_length, output_of}
use Rattle.law_shaped.specs.Shaped.{Shaped, ValueFits, IsFrame, IsControl, IsText}
use Rattle.law_reading.specs.Readable.{known_in, known_before, MayStand, AllMayStand, printed}
use Rattle.law_in_range.specs.InRange.{InRange, units_seen, written_as, written_by, written}
use Rattle.law_own_traces.specs.Own.{text_of}
use Rattle.law_own_traces.proofs.Known.{known_there, there_taken, option_refers}
use Rattle.law_own_traces.proofs.Slots.{site_passes, entity_passes, slot_allowed, slot_there, uses_stand}
use Rattle.law_own_traces.proofs.Values.{value_stands}

module _ (V : Version) (P : memory.Program) (few : 16 + length (program_of P).classes ≤ 2 ^ 24) (rs : List Recorded) (shaped : (n : ℕ) (e : Recorded) → slice_get rs n ≡ Some e → Shaped rs n e)
    (ranged : (n : ℕ) (e : Recorded) → slice_get rs n ≡ Some e → InRange (length P.lines.items) (program_of P) (slice_get (take n rs)) e) where
  within : (n : ℕ) (e : Recorded) → slice_get rs n ≡ Some e → n ≤ length rs
  within n e there = let lt = slice_get_within rs n e there in omega (arith, lt)

  may_stand : (n : ℕ) (e : Recorded) → slice_get rs n ≡ Some e → MayStand (ranges_of V P) (known_before rs n) e
  may_stand n e there =
      let s = shaped n e there in
      let h = ranged n e there in
      record {
        site = site_passes V P e.site h.site;
        frame = option_refers rs shaped n role.Frame IsFrame (λ k h. h) e.frame s.frame;
        control = option_refers rs shaped n role.Control IsControl (λ k h. h) e.control s.control;
        entity = entity_passes V P few e.kind e.entity h.entity;
        slot = record { form = slot_allowed e.kind e.slot s.slot_of_kind; there = slot_there V P rs shaped n (within n e there) e.slot h.slot s.slot };
        value = value_stands V P rs shaped n e.kind e.entity e.value s.entity_of_kind h.value h.fixed s.value;
        uses = uses_stand V P rs shaped n (within n e there) e.uses h.uses s.uses;
      }

  pub all_may_stand : AllMayStand (ranges_of V P) rs
  all_may_stand n e there = may_stand n e there

  -- ---- what is written

  abbrev ends_line : ℕ → Bool
  ends_line = (text_of P).ends_line

  text_known : (k : Kind) (entity : ℕ) (units : List ℕ) → IsText k → text_length (Some (known_as k entity units)) ≡ length (utf8_of units)
  text_known kind.Text entity units h = refl
  text_known _ entity units h = absurd h

  fixed_length : {X : Type 0} (f : X → List ℕ) (xs : List X) (k : ℕ) → slice_index (map (λ t. length (utf8_of (f t))) xs) k ≡ length (utf8_of (slice_index_or (map f xs) k []))
  fixed_length f [] k = sym (ap length utf8_of-nil)
  fixed_length f (t ∷ xs) zero = refl
  fixed_length f (t ∷ xs) (suc k) = fixed_length f xs k

  fixed_known : (k : ℕ) → slice_index (ranges_of V P).fixed k ≡ length (utf8_of (fixed_text (program_of P) k))
  unfolding ranges_of fixed_text
  fixed_known k = fixed_length (λ t. t.items) P.fixed_texts.items k

  nothing_spelled : 0 ≡ length (utf8_of [])
  nothing_spelled = sym (ap length utf8_of-nil)

  -- as many bytes as a reader counts
  value_known : (n : ℕ) (v : Value) → ValueFits rs n v → printed_length (ranges_of V P) (known_before rs n) v ≡ length (utf8_of (units_seen (program_of P) (slice_get (take n rs)) v))
  unfolding printed_length units_in
  value_known n (val.Text k) h =
      let there : slice_get (take n rs) k ≡ Some h.event = there_taken rs n k h.event h.before h.there in
      ap text_length (known_there (take n rs) k h.event there) ∙ text_known h.event.kind _ h.event.units h.kind ∙ ap (λ o. length (utf8_of (units_in o))) (sym there)
  value_known n (val.Fixed k) h = fixed_known k
  value_known n val.None h = nothing_spelled
  value_known n (val.Object k) h = nothing_spelled
  value_known n (val.Bool x) h = refl
  value_known n (val.Byte x) h = refl
  value_known n (val.Short x) h = refl
  value_known n (val.Char x) h = refl
  value_known n (val.Int x) h = refl
  value_known n (val.Long x) h = refl
  value_known n val.Null h = refl
  value_known n (val.Arm x) h = nothing_spelled

  line_known : (site : ℕ) → newline_length (ranges_of V P) site ≡ (if ends_line site then 1 else 0)
  unfolding ranges_of
  line_known site = refl

  line_long : (b : Bool) → length (line_end b) ≡ (if b then 1 else 0)
  unfolding line_end
  line_long true = refl
  line_long false = refl

  output_as : (k : Kind) (n site : ℕ) (v : Value) → ValueFits rs n v → output_of (ranges_of V P) (known_before rs n) k site v ≡ length (written_as (program_of P) ends_line (slice_get (take n rs)) k site v)
  unfolding output_of
  output_as kind.Print n site v h =
      let a = value_known n v h in
      let b = line_known site in
      let c = line_long (ends_line site) in
      let d = length-append (utf8_of (units_seen (program_of P) (slice_get (take n rs)) v)) (line_end (ends_line site)) in omega (arith, a, b, c, d)
  output_as _ n site v h = refl

  -- of the records from one on
  written_from : (front xs : List Recorded) → rs ≡ front ++ xs → printed (ranges_of V P) (map known_in front) xs ≡ length (written (program_of P) ends_line front xs)
  unfolding printed written
  written_from front [] e = refl
  written_from front (x ∷ xs) e =
      let there : slice_get rs (length front) ≡ Some x = subst (λ (l : List Recorded). slice_get l (length front) ≡ Some x) (sym e) (seam front x xs) in
      let taken : take (length front) rs ≡ front = ap (take (length front)) e ∙ take-append_seam front (x ∷ xs) in
      let one = output_as x.kind (length front) x.site x.value (shaped (length front) x there).value in
      let same_known : output_of (ranges_of V P) (known_before rs (length front)) x.kind x.site x.value ≡ output_of (ranges_of V P) (map known_in front) x.kind x.site x.value = ap (λ (l : List Recorded). output_of (ranges_of V P) (map known_in l) x.kind x.site x.value) taken in
      let same_seen : written_by (program_of P) ends_line (slice_get (take (length front) rs)) x ≡ written_by (program_of P) ends_line (slice_get front) x = ap (λ (l : List Recorded). written_by (program_of P) ends_line (slice_get l) x) taken in
      let known_more : printed (ranges_of V P) (map known_in front ++ known_in x ∷ []) xs ≡ printed (ranges_of V P) (map known_in (front ++ x ∷ [])) xs = ap (λ (l : List Known). printed (ranges_of V P) l xs) (sym (map-append known_in front (x ∷ []))) in
      let rest = written_from (front ++ x ∷ []) xs (e ∙ sym (append_assoc front (x ∷ []) xs)) in
      let both = length-append (written_by (program_of P) ends_line (slice_get front) x) (written (program_of P) ends_line (front ++ x ∷ []) xs) in
      let seen = ap length same_seen in omega (arith, one, same_known, seen, known_more, rest, both)
    where
      seam : (xs : List Recorded) (y : Recorded) (ys : List Recorded) → slice_get (xs ++ y ∷ ys) (length xs) ≡ Some y
      seam [] y ys = refl
      seam (x ∷ xs) y ys = seam xs y ys

  pub all_written : printed (ranges_of V P) [] rs ≡ length (written (program_of P) ends_line [] rs)
  all_written = written_from [] rs refl
