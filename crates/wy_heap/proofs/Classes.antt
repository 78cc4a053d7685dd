-- Static fields: a write to one, and a class that is made.
use Rattle.std.proofs.Common.{◌≡◌, ◌≢◌, ◌<◌, ℕ, zero, suc, Bool, true, false, List, [], ◌∷◌, length, refl, sym, ap, ◌∙◌, set, nat_eq, arith, get_or, get_or-set_same, get_or-set_other, length-set}
use Rattle.std.specs.Prelude.{None as Absent, Some, Option, slice_get, ◌&&◌, if◌then◌else◌}
use Rattle.std.specs.declared.vec.Vec.{Vec}
use Rattle.std.specs.declared.alloc.Global.{Global}
use Rattle.std.proofs.lemmas.Bool.{eq-eqb, eqb-true}
use Rattle.std.proofs.lemmas.Option.{same_Some, none-some, slice_get-get_or}
use Rattle.wy_value.specs.declared.value.Value.{Value}
use Rattle.wy_value.specs.declared.value.Value.TheVariants.{Null}
use Rattle.wy_event.specs.declared.record.Slot.{Slot}
use Rattle.wy_event.specs.declared.record.Slot.TheVariants as slot
use Rattle.wy_event.specs.Record.{same_slot}
use Rattle.wy_heap.specs.declared.plan.FieldPlan.{FieldPlan}
use Rattle.wy_heap.specs.declared.heap.Heap.{Heap}
use Rattle.wy_heap.specs.Plan.{Plan, field_at, first_of, is_static_of}
use Rattle.wy_heap.specs.Layout.{plan_with}
use Rattle.wy_heap.specs.Block.{AreApart, AreFirst}
use Rattle.wy_heap.specs.Heap.{plan, held, code, size, text, is_made, element_count, unit_count, static_place, value_at}
use Rattle.wy_heap.specs.Changes.{MakesClass, Writes, is_static_slot}
use Rattle.wy_heap.proofs.Slots.{get-set_same, get-set_other}

-- a static field that was made, as its plan says
pub record IsStatic (p : Plan) (begun : List Bool) (f q : ℕ) : Type 0 where
  pub is : f ≡ q
  pub inside : f < length p.fields
  pub made : get_or begun (field_at p.fields f).class false ≡ true

static_inside : (fields : List FieldPlan) (f : ℕ) → (field_at fields f).is_static ≡ true → f < length fields
static_inside [] f e = absurd (grind arith)
static_inside (x ∷ fields) zero e = omega arith
static_inside (x ∷ fields) (suc f) e = let h : f < length fields = static_inside fields f e in omega arith

pub static_place-is_static : (p : Plan) (begun : List Bool) (f q : ℕ) → static_place p begun f ≡ Some q → IsStatic p begun f q
unfolding static_place
static_place-is_static p begun f q e = by (field_at p.fields f).is_static refl (get_or begun (field_at p.fields f).class false) refl e
  where
    by : (a : Bool) → (field_at p.fields f).is_static ≡ a → (b : Bool) → get_or begun (field_at p.fields f).class false ≡ b → (if a && b then Some f else Absent) ≡ Some q → IsStatic p begun f q
    by true is true made e = record { is = same_Some f q e; inside = static_inside p.fields f is; made = made }
    by true is false made e = absurd (none-some q e)
    by false is b made e = absurd (none-some q e)

-- ---- a write

module _ (h : Heap) (vs : Vec Value Global) (apart : AreApart (plan_with h.layouts.fields.items h.layouts.above.items) h.layouts.rows.items h.blocks.items (length h.values.items) (length h.units.items)) (first : AreFirst (plan_with h.layouts.fields.items h.layouts.above.items) h.begun.items vs.items) where
  abbrev pub with_statics : Heap
  with_statics = record { layouts = h.layouts; begun = h.begun; statics = vs; blocks = h.blocks; values = h.values; units = h.units; elements = h.elements; is_apart = apart; is_first = first }

  pub writes-static : (f : ℕ) (v : Value) (place : ℕ) → static_place (plan h) h.begun.items f ≡ Some place → vs.items ≡ set h.statics.items place v → Writes (slot.Static f) v h with_statics
  unfolding held plan code size text is_made element_count unit_count value_at same_slot
  writes-static f v place at is = record {
    same_plan = refl;
    written = ap (value_at vs.items) at ∙ ap (λ ws. slice_get ws place) is ∙ get-set_same h.statics.items place v inside;
    others = others;
    codes = λ n. refl;
    sizes = λ n. refl;
    texts = λ n. refl;
    classes = λ c. refl;
    elements = refl;
    units = refl;
  }
    where
      there : IsStatic (plan h) h.begun.items f place
      there = static_place-is_static (plan h) h.begun.items f place at

      inside : place < length h.statics.items
      inside = omega (arith, there.is, there.inside, h.is_first.a_value_a_field)

      other : (g : ℕ) → nat_eq g f ≡ false → (o : Option ℕ) → static_place (plan h) h.begun.items g ≡ o → value_at vs.items o ≡ value_at h.statics.items o
      other g differs Absent e = refl
      other g differs (Some q) e =
          let at_g : IsStatic (plan h) h.begun.items g q = static_place-is_static (plan h) h.begun.items g q e in
          let apart : q ≢ place = λ same. let yes_same : nat_eq g f ≡ true = eq-eqb g f (at_g.is ∙ same ∙ sym there.is) in cc in
          ap (λ ws. slice_get ws q) is ∙ get-set_other h.statics.items place q v apart

      others : (y : Slot) → same_slot y (slot.Static f) ≡ false → held with_statics y ≡ held h y
      others slot.None differs = refl
      others (slot.Local g i) differs = refl
      others (slot.Static g) differs = other g differs (static_place (plan h) h.begun.items g) refl
      others (slot.Field o g) differs = refl
      others (slot.Elem a i) differs = refl

-- static fields of classes that weren't made stay as they are
pub stay-first : (p : Plan) (begun : List Bool) (statics : List Value) (f : ℕ) (v : Value) (place : ℕ) → AreFirst p begun statics → static_place p begun f ≡ Some place → AreFirst p begun (set statics place v)
stay-first p begun statics f v place first at = record { a_value_a_field = omega (arith, length-set statics place v, first.a_value_a_field); each = each }
  where
    there : IsStatic p begun f place
    there = static_place-is_static p begun f place at

    each : (g : ℕ) → get_or begun (field_at p.fields g).class false ≡ false → get_or (set statics place v) g Null ≡ first_of p g
    each g not_begun =
        let other : g ≢ place = λ same. let yes_begun : get_or begun (field_at p.fields g).class false ≡ true = ap (λ x. get_or begun (field_at p.fields x).class false) (same ∙ sym there.is) ∙ there.made in cc in
        get_or-set_other statics place g v Null other ∙ first.each g not_begun

-- ---- a class that is made

module _ (h : Heap) (begun : Vec Bool Global) (apart : AreApart (plan_with h.layouts.fields.items h.layouts.above.items) h.layouts.rows.items h.blocks.items (length h.values.items) (length h.units.items)) (first : AreFirst (plan_with h.layouts.fields.items h.layouts.above.items) begun.items h.statics.items) where
  abbrev pub with_begun : Heap
  with_begun = record { layouts = h.layouts; begun = begun; statics = h.statics; blocks = h.blocks; values = h.values; units = h.units; elements = h.elements; is_apart = apart; is_first = first }

  pub makes-class : (c : ℕ) → c < length h.begun.items → begun.items ≡ set h.begun.items c true → MakesClass c h with_begun
  unfolding held plan code size text is_made element_count unit_count value_at static_place is_static_slot is_static_of
  makes-class c inside is = record {
    same_plan = refl;
    made = now_begun;
    classes = other;
    statics = statics;
    again = again;
    slots = slots;
    codes = λ n. refl;
    sizes = λ n. refl;
    texts = λ n. refl;
    elements = refl;
    units = refl;
  }
    where
      now_begun : get_or begun.items c false ≡ true
      now_begun = ap (λ bs. get_or bs c false) is ∙ get_or-set_same h.begun.items c true false inside

      other : (d : ℕ) → d ≢ c → get_or begun.items d false ≡ get_or h.begun.items d false
      other d differs = ap (λ bs. get_or bs d false) is ∙ get_or-set_other h.begun.items c d true false differs

      first_there : (f : ℕ) → f < length (plan h).fields → get_or h.begun.items (field_at (plan h).fields f).class false ≡ false → slice_get h.statics.items f ≡ Some (first_of (plan h) f)
      first_there f below not_begun =
          let there : f < length h.statics.items = omega (arith, h.is_first.a_value_a_field, below) in
          slice_get-get_or h.statics.items f Null there ∙ ap Some (h.is_first.each f not_begun)

      statics : (f : ℕ) → ((field_at (plan h).fields f).is_static && nat_eq (field_at (plan h).fields f).class c) ≡ true → get_or h.begun.items c false ≡ false → held with_begun (slot.Static f) ≡ Some (first_of (plan h) f)
      statics f own not_begun = by (field_at (plan h).fields f).is_static refl (nat_eq (field_at (plan h).fields f).class c) (eqb-true (field_at (plan h).fields f).class c) own
        where
          by : (a : Bool) → (field_at (plan h).fields f).is_static ≡ a → (b : Bool) → (b ≡ true → (field_at (plan h).fields f).class ≡ c) → (a && b) ≡ true → held with_begun (slot.Static f) ≡ Some (first_of (plan h) f)
          by true static true same e =
              let here : get_or begun.items (field_at (plan h).fields f).class false ≡ true = ap (λ d. get_or begun.items d false) (same refl) ∙ now_begun in
              ap (λ a. value_at h.statics.items (if a && get_or begun.items (field_at (plan h).fields f).class false then Some f else Absent)) static
              ∙ ap (λ b. value_at h.statics.items (if b then Some f else Absent)) here
              ∙ first_there f (static_inside (plan h).fields f static) (ap (λ d. get_or h.begun.items d false) (same refl) ∙ not_begun)
          by true static false same e = absurd (cc e)
          by false static b same e = absurd (cc e)

      same_static : (f : ℕ) → get_or begun.items (field_at (plan h).fields f).class false ≡ get_or h.begun.items (field_at (plan h).fields f).class false → held with_begun (slot.Static f) ≡ held h (slot.Static f)
      same_static f e = ap (λ b. value_at h.statics.items (if (field_at (plan h).fields f).is_static && b then Some f else Absent)) e

      again_at : get_or h.begun.items c false ≡ true → (d : ℕ) → (b : Bool) → nat_eq d c ≡ b → get_or begun.items d false ≡ get_or h.begun.items d false
      again_at was d true e = let same : d ≡ c = eqb-true d c e in ap (λ x. get_or begun.items x false) same ∙ now_begun ∙ sym was ∙ ap (λ x. get_or h.begun.items x false) (sym same)
      again_at was d false e = other d (λ same. let yes_same : nat_eq d c ≡ true = eq-eqb d c same in cc)

      again : get_or h.begun.items c false ≡ true → (x : Slot) → held with_begun x ≡ held h x
      again was slot.None = refl
      again was (slot.Local g i) = refl
      again was (slot.Static f) = same_static f (again_at was (field_at (plan h).fields f).class (nat_eq (field_at (plan h).fields f).class c) refl)
      again was (slot.Field o g) = refl
      again was (slot.Elem a i) = refl

      other_static : (f : ℕ) (a : Bool) → (field_at (plan h).fields f).is_static ≡ a → (b : Bool) → nat_eq (field_at (plan h).fields f).class c ≡ b → (a && b) ≡ false → held with_begun (slot.Static f) ≡ held h (slot.Static f)
      other_static f false static b same e =
          ap (λ a. value_at h.statics.items (if a && get_or begun.items (field_at (plan h).fields f).class false then Some f else Absent)) static
          ∙ sym (ap (λ a. value_at h.statics.items (if a && get_or h.begun.items (field_at (plan h).fields f).class false then Some f else Absent)) static)
      other_static f true static true same e = absurd (cc e)
      other_static f true static false same e = same_static f (other (field_at (plan h).fields f).class (λ is_c. let yes_same : nat_eq (field_at (plan h).fields f).class c ≡ true = eq-eqb (field_at (plan h).fields f).class c is_c in cc))

      slots : (x : Slot) → is_static_slot (plan h) c x ≡ false → held with_begun x ≡ held h x
      slots slot.None e = refl
      slots (slot.Local g i) e = refl
      slots (slot.Static f) e = other_static f (field_at (plan h).fields f).is_static refl (nat_eq (field_at (plan h).fields f).class c) refl e
      slots (slot.Field o g) e = refl
      slots (slot.Elem a i) e = refl
