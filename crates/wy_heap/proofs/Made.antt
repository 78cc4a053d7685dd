-- What is made: of every other number the heap says the same, and of this one what was made.
use Rattle.std.proofs.Common.{◌≡◌, ◌≢◌, ◌<◌, ◌≤◌, ◌+◌, ◌-◌, ℕ, zero, suc, Bool, true, false, List, [], ◌++◌, length, refl, ap, ◌∙◌, arith, nat_eq, nat_lt, get_or, map, take, drop, replicate, length-append, length-drop, append-nil}
use Rattle.std.specs.Prelude.{None as Absent, Some, Option, option_map, is_some, Result, Ok, Err, OnErr, slice_get, slice_range, if◌then◌else◌}
use Rattle.std.proofs.lemmas.Bool.{eq-eqb, ltb-true}
use Rattle.std.proofs.lemmas.List.{drop-append-le, take-append-le, drop_at, take_all}
use Rattle.std.proofs.lemmas.Option.{slice_get-map, slice_get-get_or}
use Rattle.wy_kernel.specs.Program.{element_type, type_of_code}
use Rattle.wy_value.specs.declared.value.Value.{Value}
use Rattle.wy_event.specs.declared.record.Slot.{Slot}
use Rattle.wy_event.specs.declared.record.Slot.TheVariants as slot
use Rattle.wy_steps.specs.Steps.{default_value}
use Rattle.wy_heap.specs.declared.block.Block.{Block}
use Rattle.wy_heap.specs.declared.block.Block.TheVariants.{Nothing, Object, Array, Text}
use Rattle.wy_heap.specs.declared.heap.Heap.{Heap}
use Rattle.wy_heap.specs.Plan.{Plan, first_of, fields_of, position_of}
use Rattle.wy_heap.specs.Block.{block_at}
use Rattle.wy_heap.specs.Heap.{plan, held, code, code_in, size, size_in, text, text_in, is_made, element_count, unit_count, static_place, field_place, element_place, value_at}
use Rattle.wy_heap.specs.Changes.{Keeps, KeepsOthers, MakesArray, MakesObject, MakesText, is_part, is_field_of}
use Rattle.wy_heap.proofs.Places.{IsAt, position_of-is_at}
use Rattle.wy_heap.proofs.Slots.{field-covers, element-covers, get-append, get-append_past}

-- ---- nothing is made

-- what holds anyhow holds where there is an error
pub on_err : {X E P : Type 0} (r : Result X E) → P → OnErr r P
on_err (Ok x) h = tt
on_err (Err e) h = h

-- what lies in memory says the same
pub record IsSame (old new : Heap) : Type 0 where
  pub same_plan : plan new ≡ plan old
  pub begun : new.begun.items ≡ old.begun.items
  pub statics : new.statics.items ≡ old.statics.items
  pub blocks : (n : ℕ) → block_at new.blocks.items n ≡ block_at old.blocks.items n
  pub values : new.values.items ≡ old.values.items
  pub units : new.units.items ≡ old.units.items
  pub elements : new.elements ≡ old.elements

module _ (old new : Heap) (same_plan : plan new ≡ plan old) (begun : new.begun.items ≡ old.begun.items) (statics : new.statics.items ≡ old.statics.items) where
  same_static : (f : ℕ) → held new (slot.Static f) ≡ held old (slot.Static f)
  unfolding held
  same_static f =
      ap (λ p. value_at new.statics.items (static_place p new.begun.items f)) same_plan
      ∙ ap (λ b. value_at new.statics.items (static_place (plan old) b f)) begun
      ∙ ap (λ s. value_at s (static_place (plan old) old.begun.items f)) statics

  same_class : (c : ℕ) → is_made new c ≡ is_made old c
  unfolding is_made
  same_class c = ap (λ b. get_or b c false) begun

pub keeps : (old new : Heap) → IsSame old new → Keeps old new
unfolding held code size text element_count unit_count
keeps old new same = record {
  same_plan = same.same_plan;
  slots = slots;
  codes = λ n. ap code_in (same.blocks n);
  sizes = λ n. ap size_in (same.blocks n);
  texts = λ n. ap (text_in new.units.items) (same.blocks n) ∙ ap (λ us. text_in us (block_at old.blocks.items n)) same.units;
  classes = same_class old new same.same_plan same.begun same.statics;
  elements = same.elements;
  units = ap length same.units;
}
  where
    slots : (x : Slot) → held new x ≡ held old x
    slots slot.None = refl
    slots (slot.Local g i) = refl
    slots (slot.Static f) = same_static old new same.same_plan same.begun same.statics f
    slots (slot.Field o f) =
        ap (λ p. value_at new.values.items (field_place p (block_at new.blocks.items o) f)) same.same_plan
        ∙ ap (λ b. value_at new.values.items (field_place (plan old) b f)) (same.blocks o)
        ∙ ap (λ vs. value_at vs (field_place (plan old) (block_at old.blocks.items o) f)) same.values
    slots (slot.Elem a i) =
        ap (λ b. value_at new.values.items (element_place b i)) (same.blocks a)
        ∙ ap (λ vs. value_at vs (element_place (block_at old.blocks.items a) i)) same.values

-- ---- one block more

-- memory has one more block, with its values and units behind the others
pub record HasMore (n : ℕ) (b : Block) (vs : List Value) (us : List ℕ) (old new : Heap) : Type 0 where
  pub same_plan : plan new ≡ plan old
  pub begun : new.begun.items ≡ old.begun.items
  pub statics : new.statics.items ≡ old.statics.items
  pub block : block_at new.blocks.items n ≡ b
  pub others : (m : ℕ) → m ≢ n → block_at new.blocks.items m ≡ block_at old.blocks.items m
  pub values : new.values.items ≡ old.values.items ++ vs
  pub units : new.units.items ≡ old.units.items ++ us

value-append : (vs ws : List Value) (o : Option ℕ) → ((q : ℕ) → o ≡ Some q → q < length vs) → value_at (vs ++ ws) o ≡ value_at vs o
unfolding value_at
value-append vs ws Absent inside = refl
value-append vs ws (Some q) inside = get-append vs ws q (inside q refl)

text-append : (us ws : List ℕ) (b : Block) → ((g l : ℕ) → b ≡ Text g l → g + l ≤ length us) → text_in (us ++ ws) b ≡ text_in us b
unfolding text_in
text-append us ws Nothing inside = refl
text-append us ws (Object c g l) inside = refl
text-append us ws (Array k g l) inside = refl
text-append us ws (Text g l) inside =
    let h : g + l ≤ length us = inside g l refl in
    let starts : g ≤ length us = omega arith in
    let left : g + l - g ≤ length (drop g us) = omega (arith, length-drop g us) in
    ap (λ rest. Some (take (g + l - g) rest)) (drop-append-le g us ws starts) ∙ ap Some (take-append-le (g + l - g) (drop g us) ws left)

differs : (m n : ℕ) → nat_eq m n ≡ false → m ≢ n
differs m n e same = let yes_same : nat_eq m n ≡ true = eq-eqb m n same in cc

module _ (n : ℕ) (b : Block) (vs : List Value) (us : List ℕ) (old new : Heap) (more : HasMore n b vs us old new) where
  pub keeps-others : KeepsOthers n old new
  unfolding held code size text is_part
  keeps-others = record {
    same_plan = more.same_plan;
    slots = slots;
    codes = λ m other. ap code_in (more.others m other);
    sizes = λ m other. ap size_in (more.others m other);
    texts = λ m other. ap (text_in new.units.items) (more.others m other) ∙ ap (λ ws. text_in ws (block_at old.blocks.items m)) more.units ∙ text-append old.units.items us (block_at old.blocks.items m) (old.is_apart.texts m);
    classes = same_class old new more.same_plan more.begun more.statics;
  }
    where
      slots : (x : Slot) → is_part n x ≡ false → held new x ≡ held old x
      slots slot.None part = refl
      slots (slot.Local g i) part = refl
      slots (slot.Static f) part = same_static old new more.same_plan more.begun more.statics f
      slots (slot.Field o f) part =
          ap (λ p. value_at new.values.items (field_place p (block_at new.blocks.items o) f)) more.same_plan
          ∙ ap (λ x. value_at new.values.items (field_place (plan old) x f)) (more.others o (differs o n part))
          ∙ ap (λ ws. value_at ws (field_place (plan old) (block_at old.blocks.items o) f)) more.values
          ∙ value-append old.values.items vs (field_place (plan old) (block_at old.blocks.items o) f) (λ q e. old.is_apart.inside o q (field-covers old o f q e))
      slots (slot.Elem a i) part =
          ap (λ x. value_at new.values.items (element_place x i)) (more.others a (differs a n part))
          ∙ ap (λ ws. value_at ws (element_place (block_at old.blocks.items a) i)) more.values
          ∙ value-append old.values.items vs (element_place (block_at old.blocks.items a) i) (λ q e. old.is_apart.inside a q (element-covers old a i q e))

  -- what the new block says
  new_field : (f : ℕ) → held new (slot.Field n f) ≡ value_at (old.values.items ++ vs) (field_place (plan old) b f)
  unfolding held
  new_field f =
      ap (λ p. value_at new.values.items (field_place p (block_at new.blocks.items n) f)) more.same_plan
      ∙ ap (λ x. value_at new.values.items (field_place (plan old) x f)) more.block
      ∙ ap (λ ws. value_at ws (field_place (plan old) b f)) more.values

  new_element : (i : ℕ) → held new (slot.Elem n i) ≡ value_at (old.values.items ++ vs) (element_place b i)
  unfolding held
  new_element i =
      ap (λ x. value_at new.values.items (element_place x i)) more.block
      ∙ ap (λ ws. value_at ws (element_place b i)) more.values

  new_code : code new n ≡ code_in b
  unfolding code
  new_code = ap code_in more.block

  new_size : size new n ≡ size_in b
  unfolding size
  new_size = ap size_in more.block

  new_text : text new n ≡ text_in (old.units.items ++ us) b
  unfolding text
  new_text = ap (text_in new.units.items) more.block ∙ ap (λ ws. text_in ws b) more.units

  new_units : unit_count new ≡ unit_count old + length us
  unfolding unit_count
  new_units = ap length more.units ∙ length-append old.units.items us

-- ---- an object

field-at : (p : Plan) (vs : List Value) (row : List ℕ) (f k : ℕ) → IsAt row f k → slice_get (vs ++ map (first_of p) row) (length vs + k) ≡ Some (first_of p f)
field-at p vs row f k at =
    get-append_past vs (map (first_of p) row) k
    ∙ slice_get-map (first_of p) row k
    ∙ ap (option_map (first_of p)) (slice_get-get_or row k 0 at.below)
    ∙ ap (λ g. Some (first_of p g)) at.is

pub makes-object : (n c many : ℕ) (old new : Heap) → HasMore n (Object c (length old.values.items) many) (map (first_of (plan old)) (fields_of (plan old) c)) [] old new → new.elements ≡ old.elements → MakesObject n c old new
unfolding code_in size_in text_in field_place element_place value_at element_count unit_count is_field_of
makes-object n c many old new more elements = record {
  others = keeps-others n _ _ _ old new more;
  code = new_code n _ _ _ old new more;
  size = new_size n _ _ _ old new more;
  text = new_text n _ _ _ old new more;
  fields = λ f. new_field n _ _ _ old new more f ∙ by f (position_of (fields_of (plan old) c) f) refl;
  no_elements = λ i. new_element n _ _ _ old new more i;
  elements = elements;
  units = ap length more.units ∙ ap length (append-nil old.units.items);
}
  where
    by : (f : ℕ) (o : Option ℕ) → position_of (fields_of (plan old) c) f ≡ o → value_at (old.values.items ++ map (first_of (plan old)) (fields_of (plan old) c)) (option_map (λ k. length old.values.items + k) o) ≡ (if is_some o then Some (first_of (plan old) f) else Absent)
    by f Absent e = refl
    by f (Some k) e = field-at (plan old) old.values.items (fields_of (plan old) c) f k (position_of-is_at (fields_of (plan old) c) f k e)

-- ---- an array

get-replicate : (n i : ℕ) (v : Value) → i < n → slice_get (replicate n v) i ≡ Some v
get-replicate zero i v h = absurd (omega arith)
get-replicate (suc n) zero v h = refl
get-replicate (suc n) (suc i) v h = get-replicate n i v (omega arith)

pub makes-array : (n k many : ℕ) (old new : Heap) → HasMore n (Array k (length old.values.items) many) (replicate many (default_value (element_type (type_of_code k)))) [] old new → new.elements ≡ old.elements + many → MakesArray n k many old new
unfolding code_in size_in text_in field_place element_place value_at element_count unit_count
makes-array n k many old new more elements = record {
  others = keeps-others n _ _ _ old new more;
  code = new_code n _ _ _ old new more;
  size = new_size n _ _ _ old new more;
  text = new_text n _ _ _ old new more;
  no_fields = λ f. new_field n _ _ _ old new more f;
  each = λ i. new_element n _ _ _ old new more i ∙ by i (nat_lt i many) (ltb-true i many);
  elements = elements;
  units = ap length more.units ∙ ap length (append-nil old.units.items);
}
  where
    by : (i : ℕ) (t : Bool) → (t ≡ true → i < many) → value_at (old.values.items ++ replicate many (default_value (element_type (type_of_code k)))) (if t then Some (length old.values.items + i) else Absent) ≡ (if t then Some (default_value (element_type (type_of_code k))) else Absent)
    by i true below = get-append_past old.values.items (replicate many (default_value (element_type (type_of_code k)))) i ∙ get-replicate many i (default_value (element_type (type_of_code k))) (below refl)
    by i false below = refl

-- ---- a text

range-append : (us ws : List ℕ) → slice_range (us ++ ws) (length us) (length us + length ws) ≡ ws
range-append us ws =
    let many : length us + length ws - length us ≡ length ws = omega arith in
    let few : length ws ≤ length ws = omega arith in
    ap (λ n. take n (drop (length us) (us ++ ws))) many
    ∙ ap (take (length ws)) (drop_at us ws (length us) refl)
    ∙ take_all (length ws) ws few

pub makes-text : (n : ℕ) (us : List ℕ) (old new : Heap) → HasMore n (Text (length old.units.items) (length us)) [] us old new → new.elements ≡ old.elements → MakesText n us old new
unfolding code_in size_in text_in field_place element_place value_at element_count unit_count
makes-text n us old new more elements = record {
  others = keeps-others n _ _ _ old new more;
  code = new_code n _ _ _ old new more;
  size = new_size n _ _ _ old new more;
  text = new_text n _ _ _ old new more ∙ ap Some (range-append old.units.items us);
  no_fields = λ f. new_field n _ _ _ old new more f;
  no_elements = λ i. new_element n _ _ _ old new more i;
  elements = elements;
  units = ap length more.units ∙ length-append old.units.items us;
}

-- so many more of one value, where n are there
pub resized : (xs ys : List Value) (end n many : ℕ) (v w : Value) → ys ≡ take end xs ++ replicate (end - n) v → n ≡ length xs → end ≡ n + many → v ≡ w → ys ≡ xs ++ replicate many w
resized xs ys end n many v w e long is same =
    let enough : length xs ≤ end = omega arith in
    let left : end - n ≡ many = omega arith in
    e ∙ ap (λ zs. zs ++ replicate (end - n) v) (take_all end xs enough) ∙ ap (λ k. xs ++ replicate k v) left ∙ ap (λ x. xs ++ replicate many x) same
