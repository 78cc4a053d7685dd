-- A whole event that is read is spelled so.
use Rattle.std.proofs.Common.{◌≡◌, ℕ, List, [], ◌∷◌, ◌++◌, length, Some, Ok, refl, subst, arith}
use Rattle.std.specs.Prelude.{nat_lt, slice_get}
use Rattle.std.specs.Int.{w32}
use Rattle.std.proofs.lemmas.Result.{IfOk-at_ok}
use Rattle.wy_event.specs.declared.record.Version.{Version}
use Rattle.wy_event.specs.declared.record.Kind.{Kind}
use Rattle.wy_event.specs.declared.record.Kind.TheVariants as kind
use Rattle.wy_event.specs.Record.{recorded}
use Rattle.wy_kernel.specs.View.{present}
use Rattle.wy_spelling.specs.Spelling.{number, optional, kind_number, slot_bytes, content_bytes, uses_bytes, origin_bytes, event_payload}
use Rattle.wy_spelling.proofs.Numbers.{optional_present}
use Rattle.wy_payload.specs.declared.ranges.Ranges.{Ranges}
use Rattle.wy_payload.specs.declared.known.Known.{Known}
use Rattle.wy_payload.specs.declared.known.Role.{Role}
use Rattle.wy_payload.specs.declared.known.Role.TheVariants as role
use Rattle.wy_payload.specs.declared.event.Origin.{Origin}
use Rattle.wy_payload.specs.declared.event.Content.{Content}
use Rattle.wy_payload.specs.declared.event.Written.{Written}
use Rattle.wy_payload.specs.Rules.{Broken, in_range, optional_rule, site_rule, entity_rule}
use Rattle.wy_payload.specs.Reading.{◌>>=◌, passed, number_at, optional_at, all_of}
use Rattle.wy_payload.specs.Places.{slot_at, slot_form}
use Rattle.wy_payload.specs.Values.{value_form, output_behind, units_at, value_at}
use Rattle.wy_kernel.specs.Limits.{event_limit}
use Rattle.wy_payload.specs.Events.{kinds, kind_at, site_at, entity_at, origin_at, content_at, uses_at, event_at}
use Rattle.law_reading.specs.Spelled.{AreBytes}
use Rattle.law_reading.proofs.SpelledNumbers.{Spelled, one_after}
use Rattle.law_reading.proofs.Tails.{whole}
use Rattle.law_reading.proofs.Slots.{checked_spelled}
use Rattle.wy_payload.proofs.Readers.{then_has}
use Rattle.law_reading.proofs.SpelledSteps.{Spells, if_read, after, passed_has, tag_is, then_tag}
use Rattle.law_reading.proofs.SpelledValues.{value_has, units_have}
use Rattle.law_reading.proofs.Uses.{slot_has, uses_have}

-- ---- origins

kind_is : (b : ℕ) (k : Kind) → slice_get kinds b ≡ Some k → kind_number k ≡ b
kind_is b k is = omega (arith, tag_is kind_number kinds 0 13 refl b k is)

kind_has : (earlier : List Known) (bytes : List ℕ) → AreBytes bytes → Spells bytes (λ k. kind_number k ∷ []) (kind_at earlier bytes)
unfolding kind_at
kind_has earlier bytes are = then_tag (slice_get kinds) kind_number kind_is bytes are _ _ (λ k s. passed_has (in_range (nat_lt (length earlier) event_limit)) k (λ (x : Kind × List ℕ). Spelled bytes (kind_number x.0 ∷ []) x.1) (λ _. s))

checked_has : (broken : ℕ → Broken) (bytes : List ℕ) → AreBytes bytes → Spells bytes number (number_at w32 bytes >>= λ n. passed (broken n.0) n)
checked_has broken bytes are = if_read (number_at w32 bytes >>= λ n. passed (broken n.0) n) (λ x. Spelled bytes (number x.0) x.1) (λ x e. checked_spelled broken bytes x are e)

site_has : (r : Ranges) (bytes : List ℕ) → AreBytes bytes → Spells bytes number (site_at r bytes)
unfolding site_at
site_has r bytes are = checked_has (site_rule r) bytes are

entity_has : (r : Ranges) (k : Kind) (bytes : List ℕ) → AreBytes bytes → Spells bytes number (entity_at r k bytes)
unfolding entity_at
entity_has r k bytes are = checked_has (entity_rule r k) bytes are

optional_has : (r : Role) (earlier : List Known) (bytes : List ℕ) → AreBytes bytes → Spells bytes number (optional_at r earlier bytes)
unfolding optional_at
optional_has r earlier bytes are = checked_has (optional_rule r earlier) bytes are

-- with the numbers as they stand in memory
abbrev origin_text : Origin → List ℕ
origin_text o = kind_number o.kind ∷ number o.site ++ (number o.frame ++ (number o.control ++ number o.entity))

origin_has : (r : Ranges) (earlier : List Known) (bytes : List ℕ) → AreBytes bytes → Spells bytes origin_text (origin_at r earlier bytes)
unfolding origin_at
origin_has r earlier bytes are =
    then_has (kind_at earlier bytes) _ _ _ (kind_has earlier bytes are) (λ k s.
    then_has (site_at r k.1) _ _ _ (site_has r k.1 s.rest_bytes) (λ site t.
    then_has (optional_at role.Frame earlier site.1) _ _ _ (optional_has role.Frame earlier site.1 t.rest_bytes) (λ frame u.
    then_has (optional_at role.Control earlier frame.1) _ _ _ (optional_has role.Control earlier frame.1 u.rest_bytes) (λ control v.
    then_has (entity_at r k.0 control.1) _ _ _ (entity_has r k.0 control.1 v.rest_bytes) (λ entity w.
    let two = one_after frame.1 (number control.0) control.1 (number entity.0) entity.1 v w in
    let three = one_after site.1 (number frame.0) frame.1 (number control.0 ++ number entity.0) entity.1 u two in
    let four = one_after k.1 (number site.0) site.1 (number frame.0 ++ (number control.0 ++ number entity.0)) entity.1 t three in
    one_after bytes (kind_number k.0 ∷ []) k.1 (number site.0 ++ (number frame.0 ++ (number control.0 ++ number entity.0))) entity.1 s four)))))

-- ---- contents

content_has : (r : Ranges) (earlier : List Known) (k : Kind) (entity : ℕ) (bytes : List ℕ) → AreBytes bytes → Spells bytes (λ (c : Content). content_bytes r.version k c.value c.units) (content_at r earlier k entity bytes)
unfolding content_at
content_has r earlier kind.Text entity bytes are = then_has (units_at bytes) _ _ _ (units_have bytes are) (λ units s. s)
content_has r earlier k entity bytes are = then_has (value_at r earlier (value_form k entity) bytes) _ _ _ (value_has r earlier (value_form k entity) bytes are) (λ value s. s)

-- ---- events

abbrev event_text : Version → Written → List ℕ
event_text v w = event_payload v (recorded w.event)

origin_is : (o : Origin) → origin_text o ≡ kind_number o.kind ∷ number o.site ++ (optional (present o.frame) ++ (optional (present o.control) ++ optional (present o.entity)))
origin_is o = rw (optional_present o.frame, optional_present o.control, optional_present o.entity) refl

event_has : (r : Ranges) (earlier : List Known) (output : ℕ) (bytes : List ℕ) → AreBytes bytes → Spells bytes (event_text r.version) (event_at r earlier output bytes)
unfolding event_at event_payload origin_bytes recorded
event_has r earlier output bytes are =
    then_has (origin_at r earlier bytes) _ _ _ (origin_has r earlier bytes are) (λ o s.
    then_has (slot_at r earlier (slot_form o.0.kind) o.1) _ _ _ (slot_has r earlier (slot_form o.0.kind) o.1 s.rest_bytes) (λ slot t.
    then_has (content_at r earlier o.0.kind o.0.entity slot.1) _ _ _ (content_has r earlier o.0.kind o.0.entity slot.1 t.rest_bytes) (λ c u.
    after (output_behind r earlier output o.0.kind o.0.site c.0.value) _ _ (λ total.
    then_has (uses_at r earlier c.1) _ _ _ (uses_have r earlier c.1 u.rest_bytes) (λ uses v.
    let content = content_bytes r.version o.0.kind c.0.value c.0.units in
    let two = one_after slot.1 content c.1 (uses_bytes uses.0) uses.1 u v in
    let three = one_after o.1 (slot_bytes slot.0) slot.1 (content ++ uses_bytes uses.0) uses.1 t two in
    let all = one_after bytes (origin_text o.0) o.1 (slot_bytes slot.0 ++ (content ++ uses_bytes uses.0)) uses.1 s three in
    subst (λ (l : List ℕ). Spelled bytes (l ++ (slot_bytes slot.0 ++ (content ++ uses_bytes uses.0))) uses.1) (origin_is o.0) all)))))

event_spelled : (r : Ranges) (earlier : List Known) (output : ℕ) (bytes : List ℕ) (x : Written × List ℕ) → AreBytes bytes → event_at r earlier output bytes ≡ Ok x → Spelled bytes (event_text r.version x.0) x.1
event_spelled r earlier output bytes x are e = IfOk-at_ok (λ (y : Written × List ℕ). Spelled bytes (event_text r.version y.0) y.1) e (event_has r earlier output bytes are)

pub whole_event : (r : Ranges) (earlier : List Known) (output : ℕ) (payload : List ℕ) (w : Written) → AreBytes payload → all_of (event_at r earlier output payload) ≡ Ok w → payload ≡ event_payload r.version (recorded w.event)
whole_event r earlier output payload w are e = whole (event_text r.version) payload (event_at r earlier output payload) w (λ x is. event_spelled r earlier output payload x are is) e
