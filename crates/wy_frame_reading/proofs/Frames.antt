-- The frame of a record is read at the front of bytes, and what is read there is one.
use Rattle.std.proofs.Common.{◌≡◌, ℕ, ◌+◌, ◌<◌, ◌≤◌, ◌^◌, Bool, true, false, cond, List, [], ◌∷◌, ◌++◌, length, take, drop, Some, Result, Ok, Err, refl, sym, ap, ◌∙◌, subst, append_assoc, append-nil, arith, length-append}
use Rattle.std.specs.Prelude.{None as Absent}
use Rattle.std.specs.Prelude.{IfOk, ◌==◌, nat_le, nat_lt}
use mir.Val.{bits}
use Rattle.std.specs.Int.{w8, w32}
use Rattle.std.proofs.lemmas.Bool.{eqb-true, le-leb, le-ltb, leb-true, ltb-false}
use Rattle.std.proofs.lemmas.List.{append-nil, length-take, nil_from_length, take-append-drop, take_at}
use Rattle.std.proofs.lemmas.Result.{IfOk-at_ok}
use Rattle.wy_value.specs.declared.value.Value.{Value}
use Rattle.wy_event.specs.declared.record.Version.{Version}
use Rattle.wy_event.specs.declared.record.Kind.{Kind}
use Rattle.wy_event.specs.declared.record.Kind.TheVariants as kind
use Rattle.wy_event.specs.declared.record.Event.{Event}
use Rattle.wy_event.specs.Record.{Recorded, recorded}
use Rattle.wy_spelling.specs.Spelling.{content_bytes, event_frame, event_payload, number, origin_bytes, slot_bytes, uses_bytes}
use Rattle.wy_spelling.proofs.Lengths.{units_are_few, uses_are_few}
use Rattle.wy_fitting.specs.Fits.{IsTold, told, told_units}
use Rattle.wy_payload.specs.declared.fault.DamageRule.{DamageRule}
use Rattle.wy_payload.specs.declared.fault.DamageRule.TheVariants as rule
use Rattle.wy_payload.specs.declared.fault.Fault.{Fault}
use Rattle.wy_payload.specs.declared.fault.Fault.TheVariants as fault
use Rattle.wy_payload.specs.Reading.{◌>>=◌, Fails, Read, at_most_at, number_at, passed}
use Rattle.wy_payload.specs.Rules.{in_range}
use Rattle.wy_frame_reading.specs.Begins.{BeginWith, BeginsWithEvent}
use Rattle.wy_frame_reading.specs.Fields.{event_at, frame_at, payload_at, payload_limit, whole_at}
use Rattle.wy_payload.proofs.Readers.{then_has}
use Rattle.wy_frame_reading.proofs.Readers.{AreBytes, Spelled, bound}
use Rattle.wy_frame_reading.proofs.Numbers.{at_most, byte, byte_back, bytes_before}
use Rattle.wy_frame_reading.proofs.Records.{GoodRecord, event_of, event_read, seen_again}

-- ---- the length of a payload, and the payload

abbrev cut_by : Bool → ℕ × List ℕ → Read ℕ
cut_by b size = cond b (Err rule.Length) (Ok (size.0, take size.0 size.1))

abbrev cut : ℕ × List ℕ → Read ℕ
cut size = cut_by (nat_lt (length size.1) size.0) size

-- behind the letter
abbrev sized : List ℕ → Read ℕ
sized bytes = at_most_at payload_limit bytes >>= cut

payload_back : (payload rest : List ℕ) → length payload ≤ payload_limit → payload_at (69 ∷ (number (length payload) ++ (payload ++ rest))) ≡ Ok (length payload, payload)
unfolding payload_at
payload_back payload rest short =
    let size = length payload in
    let behind = payload ++ rest in
    let text = number size ++ behind in
    bound (number_at w8 (69 ∷ text)) (λ letter. passed (in_range (letter.0 == 69)) letter.1 >>= λ rest. at_most_at payload_limit rest >>= cut) (69, text) (Ok (size, payload)) (byte_back 69 text)
    (bound (at_most_at payload_limit text) cut (size, behind) (Ok (size, payload)) ((at_most payload_limit).back size behind (omega (arith, short), le-leb size payload_limit short))
    (ap (λ b. cut_by b (size, behind)) (le-ltb (length behind) size (omega (arith, length-append payload rest))) ∙ ap (λ l. Ok (size, l)) (take_at payload rest size refl)))

-- these bytes are a letter, a length, so many bytes, and others
record IsSized (bytes : List ℕ) (r : ℕ × List ℕ) : Type 0 where
  size : r.0 ≡ length r.1
  short : r.0 ≤ payload_limit
  are : AreBytes r.1
  rest : List ℕ
  parts : bytes ≡ 69 ∷ (number r.0 ++ (r.1 ++ rest))

cut_front : (bytes : List ℕ) (size : ℕ) (behind : List ℕ) → size ≤ payload_limit → bytes ≡ 69 ∷ (number size ++ behind) → AreBytes behind → (b : Bool) → nat_lt (length behind) size ≡ b → IfOk (cut_by b (size, behind)) (IsSized bytes)
cut_front bytes size behind short parts are true is = tt
cut_front bytes size behind short parts are false is =
    let long : size ≤ length behind = ltb-false _ _ is in
    let whole : take size behind ++ drop size behind ≡ behind = take-append-drop size behind in
    record {
      size = omega (arith, length-take size behind, long);
      short = short;
      are = bytes_before size behind are;
      rest = drop size behind;
      parts = parts ∙ ap (λ l. 69 ∷ (number size ++ l)) (sym whole);
    }

sized_front : (bytes rest : List ℕ) → Spelled bytes (69 ∷ []) rest → IfOk (sized rest) (IsSized bytes)
sized_front bytes rest s =
    then_has (at_most_at payload_limit rest) cut (λ r. (m : ℕ) × (r.0 ≡ m) × ((m < 2 ^ bits w32) × (nat_le m payload_limit ≡ true)) × Spelled rest (number m) r.1) (IsSized bytes) ((at_most payload_limit).front rest s.rest_bytes)
    (λ (size, behind) (m, is, (small, up_to), u).
    cut_front bytes size behind (omega (arith, is, leb-true m payload_limit up_to)) (s.parts ∙ ap (λ l. 69 ∷ l) (u.parts ∙ ap (λ k. number k ++ behind) (sym is))) u.rest_bytes (nat_lt (length behind) size) refl)

by_letter : (bytes rest : List ℕ) (b : ℕ) (t : Bool) → (b == 69) ≡ t → Spelled bytes (b ∷ []) rest → IfOk (passed (in_range t) rest >>= sized) (IsSized bytes)
by_letter bytes rest b true is s = sized_front bytes rest (subst (λ (n : ℕ). Spelled bytes (n ∷ []) rest) (eqb-true b 69 is) s)
by_letter bytes rest b false is s = tt

payload_front : (bytes : List ℕ) → AreBytes bytes → IfOk (payload_at bytes) (IsSized bytes)
unfolding payload_at
payload_front bytes are =
    then_has (number_at w8 bytes) (λ letter. passed (in_range (letter.0 == 69)) letter.1 >>= sized) (λ r. (m : ℕ) × (r.0 ≡ m) × (m < 2 ^ bits w8) × Spelled bytes (m ∷ []) r.1) (IsSized bytes) (byte.front bytes are)
    (λ (b, rest) (m, is, small, s). by_letter bytes rest b (b == 69) refl (subst (λ (n : ℕ). Spelled bytes (n ∷ []) rest) (sym is) s))

-- ---- all of a payload

abbrev ended : Event × List ℕ → Result Event DamageRule
ended x = cond (length x.1 == 0) (Ok x.0) (Err rule.Length)

whole_back : (v : Version) (n : ℕ) (e : Recorded) → GoodRecord v n e → whole_at v n (event_payload v e) ≡ Ok (event_of e)
unfolding whole_at
whole_back v n e good = bound (event_at v n (event_payload v e)) ended (event_of e, []) (Ok (event_of e)) (ap (event_at v n) (sym (append-nil (event_payload v e))) ∙ (event_read v n).back e [] good) refl

abbrev IsWhole : Version → ℕ → List ℕ → Event → Type 0
IsWhole v n payload x = (e : Recorded) × (x ≡ event_of e) × GoodRecord v n e × (payload ≡ event_payload v e)

whole_front : (v : Version) (n : ℕ) (payload : List ℕ) → AreBytes payload → IfOk (whole_at v n payload) (IsWhole v n payload)
unfolding whole_at
whole_front v n payload are =
    then_has (event_at v n payload) ended (λ r. (e : Recorded) × (r.0 ≡ event_of e) × GoodRecord v n e × Spelled payload (event_payload v e) r.1) (IsWhole v n payload) ((event_read v n).front payload are)
    (λ (x, rest) (e, is, good, s). by_rest x rest e is good s (length rest == 0) refl)
  where
    by_rest : (x : Event) (rest : List ℕ) (e : Recorded) → x ≡ event_of e → GoodRecord v n e → Spelled payload (event_payload v e) rest → (b : Bool) → (length rest == 0) ≡ b → IfOk (cond b (Ok x) (Err rule.Length)) (IsWhole v n payload)
    by_rest x rest e is good s true none = (e, is, good, s.parts ∙ ap (λ l. event_payload v e ++ l) (nil_from_length rest (eqb-true (length rest) 0 none)) ∙ append-nil (event_payload v e))
    by_rest x rest e is good s false none = tt

-- ---- frames

abbrev with_size : Version → ℕ → ℕ × List ℕ → Result (Event × ℕ) DamageRule
with_size v n payload = whole_at v n payload.1 >>= λ event. Ok (event, 5 + payload.0)

frame_length : (v : Version) (e : Recorded) → length (event_frame v e) ≡ 5 + length (event_payload v e)
unfolding event_frame
frame_length v e = omega (arith, length-append (69 ∷ number (length (event_payload v e))) (event_payload v e))

frame_parts : (v : Version) (e : Recorded) (rest : List ℕ) → event_frame v e ++ rest ≡ 69 ∷ (number (length (event_payload v e)) ++ (event_payload v e ++ rest))
unfolding event_frame
frame_parts v e rest = append_assoc (69 ∷ number (length (event_payload v e))) (event_payload v e) rest

-- lists of a short payload are short
few_units : (v : Version) (k : Kind) (x : Value) (us : List ℕ) → told_units k us ≡ us → length (content_bytes v k x us) < 2 ^ 32 → length us < 2 ^ bits w32
few_units v kind.Text x us told short = units_are_few us short
few_units v k x us told short = subst (λ (l : List ℕ). length l < 2 ^ bits w32) told (omega arith)

told_units_of : (v : Version) (e : Recorded) → IsTold v e → told_units e.kind e.units ≡ e.units
unfolding told
told_units_of v e is = ap (λ r. r.units) is

good_of : (v : Version) (n : ℕ) (bytes : List ℕ) (e : Recorded) → BeginWith v n bytes e → GoodRecord v n e
unfolding event_payload
good_of v n bytes e begin =
    let us = uses_bytes e.uses in
    let content = content_bytes v e.kind e.value e.units in
    let slot = slot_bytes e.slot in
    let within : length content + length us < 2 ^ 32 =
    omega (arith, begin.short, frame_length v e, length-append (origin_bytes e) (slot ++ (content ++ us)), length-append slot (content ++ us), length-append content us) in
    record {
      fits = begin.fits;
      below = begin.below;
      told = begin.told;
      few_units = few_units v e.kind e.value e.units (told_units_of v e begin.told) (omega (arith, within));
      few_uses = uses_are_few e.uses (omega (arith, within));
    }

frame_back : (v : Version) (n : ℕ) (bytes : List ℕ) (e : Recorded) → BeginWith v n bytes e → frame_at v n bytes ≡ Ok (event_of e, 5 + length (event_payload v e))
unfolding frame_at
frame_back v n bytes e begin =
    let payload = event_payload v e in
    let here : bytes ≡ 69 ∷ (number (length payload) ++ (payload ++ begin.rest)) = begin.starts ∙ frame_parts v e begin.rest in
    bound (payload_at bytes) (with_size v n) (length payload, payload) (Ok (event_of e, 5 + length payload)) (ap payload_at here ∙ payload_back payload begin.rest (omega (arith, begin.short, frame_length v e)))
    (bound (whole_at v n payload) (λ event. Ok (event, 5 + length payload)) (event_of e) (Ok (event_of e, 5 + length payload)) (whole_back v n e (good_of v n bytes e begin)) refl)

abbrev IsFound : Version → ℕ → List ℕ → Event × ℕ → Type 0
IsFound v n bytes r = (e : Recorded) × (r.0 ≡ event_of e) × BeginWith v n bytes e × (r.1 ≡ length (event_frame v e))

frame_front : (v : Version) (n : ℕ) (bytes : List ℕ) → AreBytes bytes → IfOk (frame_at v n bytes) (IsFound v n bytes)
unfolding frame_at
frame_front v n bytes are =
    then_has (payload_at bytes) (with_size v n) (IsSized bytes) (IsFound v n bytes) (payload_front bytes are)
    (λ (size, payload) sized. then_has (whole_at v n payload) (λ event. Ok (event, 5 + size)) (IsWhole v n payload) (IsFound v n bytes) (whole_front v n payload sized.are)
    (λ x (e, is, good, spelled).
    let long : size ≡ length (event_payload v e) = sized.size ∙ ap length spelled in (
      e,
      is,
      record {
        fits = good.fits;
        below = good.below;
        told = good.told;
        short = omega (arith, frame_length v e, long, sized.short);
        rest = sized.rest;
        starts = sized.parts ∙ ap (λ l. 69 ∷ (number size ++ (l ++ sized.rest))) spelled ∙ ap (λ k. 69 ∷ (number k ++ (event_payload v e ++ sized.rest))) long ∙ sym (frame_parts v e sized.rest);
      },
      omega (arith, frame_length v e, long),
    )))

-- ---- what is found

abbrev Framed : Type 0
Framed = Result (Event × ℕ) DamageRule

-- the event of one that was read
abbrev event_in : Event → Framed → Event
event_in other (Ok r) = r.0
event_in other (Err d) = other

not_both : (r : Framed) (d : DamageRule) (x : Event × ℕ) → r ≡ Err d → r ≡ Ok x → ⊥
not_both (Ok y) d x failed read = absurd cc
not_both (Err e) d x failed read = absurd cc

pub found_is : (v : Version) (n : ℕ) (bytes : List ℕ) (found : Event × ℕ) → AreBytes bytes → frame_at v n bytes ≡ Ok found → BeginsWithEvent v n bytes (Some found)
found_is v n bytes (x, size) are is = of (IfOk-at_ok (IsFound v n bytes) is (frame_front v n bytes are)) where
  same : (y : Event) (k : ℕ) → frame_at v n bytes ≡ Ok (y, k) → x ≡ y
  same y k also = ap (event_in x) (sym is ∙ also)

  of : IsFound v n bytes (x, size) → BeginsWithEvent v n bytes (Some (x, size))
  of (e, made, begin, long) =
      let here : recorded x ≡ e = ap recorded made ∙ seen_again e begin.fits in (
        subst (BeginWith v n bytes) (sym here) begin,
        long ∙ ap (λ r. length (event_frame v r)) (sym here),
        λ other also. sym (ap recorded (same (event_of other) _ (frame_back v n bytes other also)) ∙ seen_again other also.fits),
      )

none_is : (v : Version) (n : ℕ) (bytes : List ℕ) (d : DamageRule) → frame_at v n bytes ≡ Err d → BeginsWithEvent v n bytes Absent
none_is v n bytes d is other begin = not_both (frame_at v n bytes) d (event_of other, 5 + length (event_payload v other)) is (frame_back v n bytes other begin)

pub fails_is : (v : Version) (n : ℕ) (bytes : List ℕ) (f : Fault) (d : DamageRule) → f ≡ fault.Broken d → Fails f (frame_at v n bytes) → BeginsWithEvent v n bytes Absent
fails_is v n bytes f d is failed = none_is v n bytes d (subst (λ (g : Fault). Fails g (frame_at v n bytes)) is failed)
