-- What the frame of an event holds is read as it is spelled.
use Rattle.std.proofs.Common.{◌≡◌, ℕ, ◌<◌, ◌^◌, List, [], ◌∷◌, ◌++◌, Some, Ok, refl, sym, arith}
use Rattle.std.specs.Prelude.{slice_get}
use mir.Val.{bits}
use Rattle.std.specs.Int.{w32}
use Rattle.wy_value.specs.declared.value.Value.{Value}
use Rattle.wy_value.specs.declared.value.Value.TheVariants as val
use Rattle.wy_event.specs.declared.record.Version.{Version}
use Rattle.wy_event.specs.declared.record.Kind.{Kind}
use Rattle.wy_event.specs.declared.record.Kind.TheVariants as kind
use Rattle.wy_event.specs.declared.record.Slot.{Slot}
use Rattle.wy_event.specs.declared.record.Use.{Use}
use Rattle.wy_event.specs.declared.record.Event.{Event}
use Rattle.wy_spelling.specs.Spelling.{content_bytes, kind_number, number, slot_bytes, units_bytes, uses_bytes, value_bytes}
use Rattle.wy_payload.specs.declared.value.ValueForm.{ValueForm}
use Rattle.wy_payload.specs.declared.value.ValueForm.TheVariants as form
use Rattle.wy_payload.specs.declared.event.Origin.{Origin}
use Rattle.wy_payload.specs.declared.event.Content.{Content}
use Rattle.wy_payload.specs.Reading.{◌>>=◌, Read, number_at}
use Rattle.wy_payload.specs.Values.{units_at}
use Rattle.wy_payload.specs.Events.{kinds}
use Rattle.wy_frame_reading.specs.Fields.{content_at, event_at, form_in, kind_at, optional_at, origin_at, slot_at, uses_at, value_at}
use Rattle.wy_frame_reading.proofs.Readers.{Reads, by_parts, one, two}
use Rattle.wy_frame_reading.proofs.Numbers.{IsOptional, optional as optional_read, word_32}
use Rattle.wy_frame_reading.proofs.Slots.{GoodSlot, slot}
use Rattle.wy_frame_reading.proofs.Tags.{tag_is, tagged}
use Rattle.wy_frame_reading.proofs.Uses.{GoodUses, uses}
use Rattle.wy_frame_reading.proofs.Values.{GoodUnits, GoodValue, units, value}
use Rattle.wy_payload.proofs.Tags.{kind_known as known}

-- ---- origins

abbrev Small : ℕ → Type 0
Small m = m < 2 ^ bits w32

placed : (b : ℕ) (k : Kind) → slice_get kinds b ≡ Some k → kind_number k ≡ b
placed b k is = omega (arith, tag_is kind_number kinds 0 13 refl b k is)

kind_read : Reads Kind Kind (λ k. Unit {0}) (λ k. kind_number k ∷ []) (λ k. k) kind_at
unfolding kind_at
kind_read =
    tagged Kind Kind (slice_get kinds) kind_number (λ k. k) (λ k. []) (λ k. Unit {0}) (λ k rest. Ok (k, rest)) (λ k good. known k) placed (λ k rest good. refl)
    (λ k can bytes are. (refl, tt, record { parts = refl; rest_bytes = are }))

abbrev origin : Kind → ℕ → ℕ → ℕ → ℕ → Origin
origin k site frame control entity = record { kind = k; site = site; frame = frame; control = control; entity = entity }

-- with the numbers as they stand in memory
abbrev pub origin_text : Origin → List ℕ
origin_text o = kind_number o.kind ∷ number o.site ++ (number o.frame ++ (number o.control ++ number o.entity))

abbrev pub GoodOrigin : ℕ → Origin → Type 0
GoodOrigin n o = Small o.site × IsOptional n o.frame × IsOptional n o.control × Small o.entity

abbrev Numbers : Type 0
Numbers = ℕ × (ℕ × (ℕ × ℕ))

module _ (n : ℕ) where
  behind_control : (k : Kind) (site frame : ℕ) → Reads (ℕ × ℕ) Origin (λ p. IsOptional n p.0 × Small p.1) (λ p. number p.0 ++ number p.1) (λ p. origin k site frame p.0 p.1)
      (λ bytes. optional_at n bytes >>= λ control. number_at w32 control.1 >>= λ entity. Ok (origin k site frame control.0 entity.0, entity.1))
  behind_control k site frame =
      two ℕ ℕ ℕ Origin (IsOptional n) number (λ m. m) (optional_at n) (λ a. Small) (λ a. number) (origin k site frame) _ (optional_read n)
      (λ control. one ℕ ℕ Origin Small number (λ m. m) (number_at w32) (origin k site frame control) word_32)

  behind_frame : (k : Kind) (site : ℕ) → Reads (ℕ × (ℕ × ℕ)) Origin (λ p. IsOptional n p.0 × (IsOptional n p.1.0 × Small p.1.1)) (λ p. number p.0 ++ (number p.1.0 ++ number p.1.1)) (λ p. origin k site p.0 p.1.0 p.1.1)
      (λ bytes. optional_at n bytes >>= λ frame. optional_at n frame.1 >>= λ control. number_at w32 control.1 >>= λ entity. Ok (origin k site frame.0 control.0 entity.0, entity.1))
  behind_frame k site =
      two ℕ (ℕ × ℕ) ℕ Origin (IsOptional n) number (λ m. m) (optional_at n) (λ a p. IsOptional n p.0 × Small p.1) (λ a p. number p.0 ++ number p.1) (λ frame p. origin k site frame p.0 p.1) _ (optional_read n) (λ frame. behind_control k site frame)

  behind_site : (k : Kind) → Reads Numbers Origin (λ p. Small p.0 × (IsOptional n p.1.0 × (IsOptional n p.1.1.0 × Small p.1.1.1))) (λ p. number p.0 ++ (number p.1.0 ++ (number p.1.1.0 ++ number p.1.1.1))) (λ p. origin k p.0 p.1.0 p.1.1.0 p.1.1.1)
      (λ bytes. number_at w32 bytes >>= λ site. optional_at n site.1 >>= λ frame. optional_at n frame.1 >>= λ control. number_at w32 control.1 >>= λ entity. Ok (origin k site.0 frame.0 control.0 entity.0, entity.1))
  behind_site k =
      two ℕ (ℕ × (ℕ × ℕ)) ℕ Origin Small number (λ m. m) (number_at w32) (λ a p. IsOptional n p.0 × (IsOptional n p.1.0 × Small p.1.1)) (λ a p. number p.0 ++ (number p.1.0 ++ number p.1.1)) (λ site p. origin k site p.0 p.1.0 p.1.1) _ word_32
      (λ site. behind_frame k site)

  origin_parts : Reads (Kind × Numbers) Origin (λ p. Unit {0} × (Small p.1.0 × (IsOptional n p.1.1.0 × (IsOptional n p.1.1.1.0 × Small p.1.1.1.1))))
      (λ p. (kind_number p.0 ∷ []) ++ (number p.1.0 ++ (number p.1.1.0 ++ (number p.1.1.1.0 ++ number p.1.1.1.1)))) (λ p. origin p.0 p.1.0 p.1.1.0 p.1.1.1.0 p.1.1.1.1) (origin_at n)
  unfolding origin_at
  origin_parts =
      two Kind Numbers Kind Origin (λ k. Unit {0}) (λ k. kind_number k ∷ []) (λ k. k) kind_at (λ a p. Small p.0 × (IsOptional n p.1.0 × (IsOptional n p.1.1.0 × Small p.1.1.1)))
      (λ a p. number p.0 ++ (number p.1.0 ++ (number p.1.1.0 ++ number p.1.1.1))) (λ k p. origin k p.0 p.1.0 p.1.1.0 p.1.1.1) _ kind_read (λ k. behind_site k)

  origin_read : Reads Origin Origin (GoodOrigin n) origin_text (λ o. o) (origin_at n)
  origin_read =
      by_parts (Kind × Numbers) Origin Origin _ _ _ (GoodOrigin n) origin_text (λ o. o) (origin_at n) (λ o. (o.kind, (o.site, (o.frame, (o.control, o.entity))))) (λ p. origin p.0 p.1.0 p.1.1.0 p.1.1.1.0 p.1.1.1.1) origin_parts
      (λ o (site, frame, control, entity). ((tt, (site, (frame, (control, entity)))), refl, refl)) (λ p (none, (site, (frame, (control, entity)))). ((site, frame, control, entity), refl, refl))

-- ---- contents

abbrev content : Value → List ℕ → Content
content v us = record { value = v; units = us }

-- the units of a Text and no value, and the value of every other event and no units
abbrev pub GoodContent : Version → ℕ → Kind → Content → Type 0
GoodContent v n kind.Text c = (c.value ≡ val.None) × GoodUnits c.units
GoodContent v n k c = GoodValue v (form_in k) n c.value × (c.units ≡ [])

abbrev ReadsContent : Version → ℕ → Kind → Type 0
ReadsContent v n k = Reads Content Content (GoodContent v n k) (λ c. content_bytes v k c.value c.units) (λ c. c) (content_at v n k)

text_content : (v : Version) (n : ℕ) → ReadsContent v n kind.Text
unfolding content_at
text_content v n =
    by_parts (List ℕ) Content Content GoodUnits units_bytes (content val.None) (GoodContent v n kind.Text) (λ c. content_bytes v kind.Text c.value c.units) (λ c. c) _ (λ c. c.units) (content val.None)
    (one (List ℕ) (List ℕ) Content GoodUnits units_bytes (λ us. us) units_at (content val.None) units)
    (λ c (none, good). (good, (λ i. content (sym none i) c.units), refl)) (λ us good. ((refl, good), refl, refl))

module _ (v : Version) (wanted : ValueForm) (n : ℕ) where
  abbrev valued : List ℕ → Read Content
  valued bytes = value_at v wanted n bytes >>= λ x. Ok (content x.0 [], x.1)

  value_content : Reads Value Content (GoodValue v wanted n) (value_bytes v) (λ x. content x []) valued
  value_content = one Value Value Content (GoodValue v wanted n) _ (λ x. x) (value_at v wanted n) (λ x. content x []) (value v wanted n)

  other_content : Reads Content Content (λ c. GoodValue v wanted n c.value × (c.units ≡ [])) (λ c. value_bytes v c.value) (λ c. c) valued
  other_content =
      by_parts Value Content Content (GoodValue v wanted n) _ (λ x. content x []) _ _ (λ c. c) valued (λ c. c.value) (λ x. content x []) value_content
      (λ c (good, none). (good, (λ i. content c.value (sym none i)), refl)) (λ x good. ((good, refl), refl, refl))

content_read : (v : Version) (n : ℕ) (k : Kind) → ReadsContent v n k
unfolding content_at
content_read v n kind.Text = text_content v n
content_read v n kind.Init = other_content v form.Optional n
content_read v n kind.New = other_content v form.Optional n
content_read v n kind.Call = other_content v form.Optional n
content_read v n kind.Bind = other_content v form.Optional n
content_read v n kind.Set = other_content v form.Optional n
content_read v n kind.Test = other_content v form.Arm n
content_read v n kind.Read = other_content v form.Optional n
content_read v n kind.Print = other_content v form.Optional n
content_read v n kind.Return = other_content v form.Optional n
content_read v n kind.Jump = other_content v form.Optional n
content_read v n kind.Throw = other_content v form.Optional n
content_read v n kind.Catch = other_content v form.Optional n

-- ---- all parts

abbrev event : Origin → Slot → Content → List Use → Event
event o x c us = record { kind = o.kind; site = o.site; frame = o.frame; control = o.control; entity = o.entity; slot = x; value = c.value; units = c.units; uses = us }

abbrev pub Parts : Type 0
Parts = Origin × (Slot × (Content × List Use))

abbrev pub GoodParts : Version → ℕ → Parts → Type 0
GoodParts v n p = GoodOrigin n p.0 × (GoodSlot n p.1.0 × (GoodContent v n p.0.kind p.1.1.0 × GoodUses n p.1.1.1))

abbrev pub parts_spelled : Version → Parts → List ℕ
parts_spelled v p = origin_text p.0 ++ (slot_bytes p.1.0 ++ (content_bytes v p.0.kind p.1.1.0.value p.1.1.0.units ++ uses_bytes p.1.1.1))

abbrev pub parts_made : Parts → Event
parts_made p = event p.0 p.1.0 p.1.1.0 p.1.1.1

module _ (v : Version) (n : ℕ) where
  behind_slot : (o : Origin) (x : Slot) → Reads (Content × List Use) Event (λ p. GoodContent v n o.kind p.0 × GoodUses n p.1) (λ p. content_bytes v o.kind p.0.value p.0.units ++ uses_bytes p.1) (λ p. event o x p.0 p.1)
      (λ bytes. content_at v n o.kind bytes >>= λ c. uses_at n c.1 >>= λ us. Ok (event o x c.0 us.0, us.1))
  behind_slot o x =
      two Content (List Use) Content Event (GoodContent v n o.kind) (λ c. content_bytes v o.kind c.value c.units) (λ c. c) (content_at v n o.kind) (λ a. GoodUses n) (λ a. uses_bytes) (event o x) _ (content_read v n o.kind)
      (λ c. one (List Use) (List Use) Event (GoodUses n) uses_bytes (λ us. us) (uses_at n) (event o x c) (uses n))

  behind_origin : (o : Origin) → Reads (Slot × (Content × List Use)) Event (λ p. GoodSlot n p.0 × (GoodContent v n o.kind p.1.0 × GoodUses n p.1.1)) (λ p. slot_bytes p.0 ++ (content_bytes v o.kind p.1.0.value p.1.0.units ++ uses_bytes p.1.1)) (λ p. event o p.0 p.1.0 p.1.1)
      (λ bytes. slot_at n bytes >>= λ x. content_at v n o.kind x.1 >>= λ c. uses_at n c.1 >>= λ us. Ok (event o x.0 c.0 us.0, us.1))
  behind_origin o =
      two Slot (Content × List Use) Slot Event (GoodSlot n) slot_bytes (λ x. x) (slot_at n) (λ a p. GoodContent v n o.kind p.0 × GoodUses n p.1) (λ a p. content_bytes v o.kind p.0.value p.0.units ++ uses_bytes p.1) (λ x p. event o x p.0 p.1) _ (slot n)
      (λ x. behind_slot o x)

  pub parts_read : Reads Parts Event (GoodParts v n) (parts_spelled v) parts_made (event_at v n)
  unfolding event_at
  parts_read =
      two Origin (Slot × (Content × List Use)) Origin Event (GoodOrigin n) origin_text (λ o. o) (origin_at n) (λ o p. GoodSlot n p.0 × (GoodContent v n o.kind p.1.0 × GoodUses n p.1.1))
      (λ o p. slot_bytes p.0 ++ (content_bytes v o.kind p.1.0.value p.1.0.units ++ uses_bytes p.1.1)) (λ o p. event o p.0 p.1.0 p.1.1) _ (origin_read n) (λ o. behind_origin o)
