-- The places that slots have among the values: no two slots have one.
use Rattle.std.proofs.Common.{◌≡◌, ◌≢◌, ◌<◌, ◌≤◌, ◌+◌, ℕ, zero, suc, Bool, true, false, List, [], ◌∷◌, ◌++◌, length, refl, sym, ap, ◌∙◌, subst, arith, nat_eq, nat_lt, get_or, set}
use Rattle.std.specs.Prelude.{None as Absent, Some, Option, option_map, slice_get, ◌&&◌, if◌then◌else◌}
use Rattle.std.proofs.lemmas.Bool.{eq-eqb, ltb-true}
use Rattle.std.proofs.lemmas.Option.{same_Some, none-some}
use Rattle.wy_event.specs.declared.record.Slot.{Slot}
use Rattle.wy_event.specs.declared.record.Slot.TheVariants as slot
use Rattle.wy_event.specs.Record.{same_slot}
use Rattle.wy_heap.specs.declared.block.Block.{Block}
use Rattle.wy_heap.specs.declared.block.Block.TheVariants.{Nothing, Object, Array, Text}
use Rattle.wy_heap.specs.declared.heap.Heap.{Heap}
use Rattle.wy_heap.specs.Plan.{Plan, fields_of, position_of}
use Rattle.wy_heap.specs.Block.{block_at, begin_of, length_of, Covers}
use Rattle.wy_heap.specs.Heap.{plan, field_place, element_place}
use Rattle.wy_heap.proofs.Places.{IsAt, position_of-is_at}

-- ---- lists

pub get-set_same : {X : Type 0} (xs : List X) (i : ℕ) (v : X) → i < length xs → slice_get (set xs i v) i ≡ Some v
get-set_same [] i v h = absurd (omega arith)
get-set_same (x ∷ xs) zero v h = refl
get-set_same (x ∷ xs) (suc i) v h = get-set_same xs i v (omega arith)

pub get-set_other : {X : Type 0} (xs : List X) (i j : ℕ) (v : X) → j ≢ i → slice_get (set xs i v) j ≡ slice_get xs j
get-set_other [] i j v h = refl
get-set_other (x ∷ xs) zero zero v h = absurd (h refl)
get-set_other (x ∷ xs) zero (suc j) v h = refl
get-set_other (x ∷ xs) (suc i) zero v h = refl
get-set_other (x ∷ xs) (suc i) (suc j) v h = get-set_other xs i j v (λ e. h (ap suc e))

pub get-append : {X : Type 0} (xs ys : List X) (i : ℕ) → i < length xs → slice_get (xs ++ ys) i ≡ slice_get xs i
get-append [] ys i h = absurd (omega arith)
get-append (x ∷ xs) ys zero h = refl
get-append (x ∷ xs) ys (suc i) h = get-append xs ys i (omega arith)

pub get-append_past : {X : Type 0} (xs ys : List X) (i : ℕ) → slice_get (xs ++ ys) (length xs + i) ≡ slice_get ys i
get-append_past [] ys i = let e : 0 + i ≡ i = omega arith in ap (λ n. slice_get ys n) e
get-append_past (x ∷ xs) ys i = let e : suc (length xs) + i ≡ suc (length xs + i) = omega arith in ap (λ n. slice_get (x ∷ (xs ++ ys)) n) e ∙ get-append_past xs ys i

-- ---- fields and elements

-- a block is an object that has the field there
pub record HasField (p : Plan) (b : Block) (f q : ℕ) : Type 0 where
  pub class : ℕ
  pub begin : ℕ
  pub many : ℕ
  pub place : ℕ
  pub is : b ≡ Object class begin many
  pub at : position_of (fields_of p class) f ≡ Some place
  pub sum : begin + place ≡ q

pub field_place-has_field : (p : Plan) (b : Block) (f q : ℕ) → field_place p b f ≡ Some q → HasField p b f q
unfolding field_place
field_place-has_field p Nothing f q e = absurd (none-some q e)
field_place-has_field p (Array k begin n) f q e = absurd (none-some q e)
field_place-has_field p (Text begin n) f q e = absurd (none-some q e)
field_place-has_field p (Object c begin n) f q e = by (position_of (fields_of p c) f) refl e
  where
    by : (o : Option ℕ) → position_of (fields_of p c) f ≡ o → option_map (λ k. begin + k) o ≡ Some q → HasField p (Object c begin n) f q
    by Absent is e = absurd (none-some q e)
    by (Some k) is e = record { class = c; begin = begin; many = n; place = k; is = refl; at = is; sum = same_Some (begin + k) q e }

-- a block is an array that has the element there
pub record HasElement (b : Block) (i q : ℕ) : Type 0 where
  pub type : ℕ
  pub begin : ℕ
  pub many : ℕ
  pub is : b ≡ Array type begin many
  pub below : i < many
  pub sum : begin + i ≡ q

pub element_place-has_element : (b : Block) (i q : ℕ) → element_place b i ≡ Some q → HasElement b i q
unfolding element_place
element_place-has_element Nothing i q e = absurd (none-some q e)
element_place-has_element (Object c begin n) i q e = absurd (none-some q e)
element_place-has_element (Text begin n) i q e = absurd (none-some q e)
element_place-has_element (Array k begin n) i q e = by (nat_lt i n) (ltb-true i n) e
  where
    by : (t : Bool) → (t ≡ true → i < n) → (if t then Some (begin + i) else Absent) ≡ Some q → HasElement (Array k begin n) i q
    by true below e = record { type = k; begin = begin; many = n; is = refl; below = below refl; sum = same_Some (begin + i) q e }
    by false below e = absurd (none-some q e)

-- ---- they are covered

covers : (b : Block) (begin many q : ℕ) → begin_of b ≡ begin → length_of b ≡ many → begin ≤ q → q < begin + many → Covers b q
covers b begin many q e f from below = record { from = omega (arith, e); below = omega (arith, e, f) }

pub field-covers : (h : Heap) (n f q : ℕ) → field_place (plan h) (block_at h.blocks.items n) f ≡ Some q → Covers (block_at h.blocks.items n) q
unfolding begin_of length_of plan
field-covers h n f q e =
    let has : HasField (plan h) (block_at h.blocks.items n) f q = field_place-has_field (plan h) (block_at h.blocks.items n) f q e in
    let at : IsAt (fields_of (plan h) has.class) f has.place = position_of-is_at (fields_of (plan h) has.class) f has.place has.at in
    let many : has.many ≡ length (fields_of (plan h) has.class) = h.is_apart.lengths n has.class has.begin has.many has.is in
    covers (block_at h.blocks.items n) has.begin has.many q (ap begin_of has.is) (ap length_of has.is) (omega (arith, has.sum)) (omega (arith, has.sum, at.below, many))

pub element-covers : (h : Heap) (n i q : ℕ) → element_place (block_at h.blocks.items n) i ≡ Some q → Covers (block_at h.blocks.items n) q
unfolding begin_of length_of
element-covers h n i q e =
    let has : HasElement (block_at h.blocks.items n) i q = element_place-has_element (block_at h.blocks.items n) i q e in
    covers (block_at h.blocks.items n) has.begin has.many q (ap begin_of has.is) (ap length_of has.is) (omega (arith, has.sum)) (omega (arith, has.sum, has.below))

-- ---- the place of a slot

-- the place of a field or an element among the values
unfoldable pub place_in : Heap → Slot → Option ℕ
place_in h (slot.Field object f) = field_place (plan h) (block_at h.blocks.items object) f
place_in h (slot.Elem array i) = element_place (block_at h.blocks.items array) i
place_in h _ = Absent

pub place-inside : (h : Heap) (x : Slot) (q : ℕ) → place_in h x ≡ Some q → q < length h.values.items
unfolding place_in
place-inside h slot.None q e = absurd (none-some q e)
place-inside h (slot.Local g i) q e = absurd (none-some q e)
place-inside h (slot.Static f) q e = absurd (none-some q e)
place-inside h (slot.Field o f) q e = h.is_apart.inside o q (field-covers h o f q e)
place-inside h (slot.Elem a i) q e = h.is_apart.inside a q (element-covers h a i q e)

-- no block is an object and an array
not_both : (b : Block) (c k m n x y : ℕ) → b ≡ Object c m x → b ≡ Array k n y → ⊥
not_both b c k m n x y e f = let g : Object c m x ≡ Array k n y = sym e ∙ f in cc

same_object : (b : Block) (c d m n x y : ℕ) → b ≡ Object c m x → b ≡ Object d n y → (c ≡ d) × (m ≡ n)
same_object b c d m n x y e f = let g : Object c m x ≡ Object d n y = sym e ∙ f in (cc, cc)

same_array : (b : Block) (k l m n x y : ℕ) → b ≡ Array k m x → b ≡ Array l n y → m ≡ n
same_array b k l m n x y e f = let g : Array k m x ≡ Array l n y = sym e ∙ f in cc

same_field : (h : Heap) (o f g q : ℕ) → field_place (plan h) (block_at h.blocks.items o) f ≡ Some q → field_place (plan h) (block_at h.blocks.items o) g ≡ Some q → f ≡ g
same_field h o f g q e e' =
    let b : Block = block_at h.blocks.items o in
    let has : HasField (plan h) b f q = field_place-has_field (plan h) b f q e in
    let has' : HasField (plan h) b g q = field_place-has_field (plan h) b g q e' in
    let same : (has.class ≡ has'.class) × (has.begin ≡ has'.begin) = same_object b has.class has'.class has.begin has'.begin has.many has'.many has.is has'.is in
    let at : IsAt (fields_of (plan h) has.class) f has.place = position_of-is_at (fields_of (plan h) has.class) f has.place has.at in
    let at' : IsAt (fields_of (plan h) has'.class) g has'.place = position_of-is_at (fields_of (plan h) has'.class) g has'.place has'.at in
    let places : has.place ≡ has'.place = omega (arith, has.sum, has'.sum, same.1) in
    sym at.is ∙ ap (λ c. get_or (fields_of (plan h) c) has.place 0) same.0 ∙ ap (λ k. get_or (fields_of (plan h) has'.class) k 0) places ∙ at'.is

same_element : (h : Heap) (a i j q : ℕ) → element_place (block_at h.blocks.items a) i ≡ Some q → element_place (block_at h.blocks.items a) j ≡ Some q → i ≡ j
same_element h a i j q e e' =
    let b : Block = block_at h.blocks.items a in
    let has : HasElement b i q = element_place-has_element b i q e in
    let has' : HasElement b j q = element_place-has_element b j q e' in
    let same : has.begin ≡ has'.begin = same_array b has.type has'.type has.begin has'.begin has.many has'.many has.is has'.is in
    omega (arith, has.sum, has'.sum, same)

both_true : (a b : Bool) → a ≡ true → b ≡ true → (a && b) ≡ true
both_true a b p q = ap (λ x. x && b) p ∙ q

-- no two slots have one place
pub same_place : (h : Heap) (x y : Slot) (q : ℕ) → place_in h x ≡ Some q → place_in h y ≡ Some q → same_slot y x ≡ true
unfolding place_in same_slot
same_place h slot.None y q e e' = absurd (none-some q e)
same_place h (slot.Local g i) y q e e' = absurd (none-some q e)
same_place h (slot.Static f) y q e e' = absurd (none-some q e)
same_place h (slot.Field o f) slot.None q e e' = absurd (none-some q e')
same_place h (slot.Field o f) (slot.Local g i) q e e' = absurd (none-some q e')
same_place h (slot.Field o f) (slot.Static g) q e e' = absurd (none-some q e')
same_place h (slot.Field o f) (slot.Field o' g) q e e' =
    let same : o' ≡ o = h.is_apart.apart o' o q (field-covers h o' g q e') (field-covers h o f q e) in
    both_true (nat_eq o' o) (nat_eq g f) (eq-eqb o' o same)
    (eq-eqb g f (same_field h o g f q (subst (λ (n : ℕ). field_place (plan h) (block_at h.blocks.items n) g ≡ Some q) same e') e))
same_place h (slot.Field o f) (slot.Elem a i) q e e' =
    let same : a ≡ o = h.is_apart.apart a o q (element-covers h a i q e') (field-covers h o f q e) in
    let has : HasField (plan h) (block_at h.blocks.items o) f q = field_place-has_field (plan h) (block_at h.blocks.items o) f q e in
    let has' : HasElement (block_at h.blocks.items o) i q = element_place-has_element (block_at h.blocks.items o) i q (subst (λ (n : ℕ). element_place (block_at h.blocks.items n) i ≡ Some q) same e') in
    absurd (not_both (block_at h.blocks.items o) has.class has'.type has.begin has'.begin has.many has'.many has.is has'.is)
same_place h (slot.Elem a i) slot.None q e e' = absurd (none-some q e')
same_place h (slot.Elem a i) (slot.Local g j) q e e' = absurd (none-some q e')
same_place h (slot.Elem a i) (slot.Static g) q e e' = absurd (none-some q e')
same_place h (slot.Elem a i) (slot.Field o g) q e e' =
    let same : o ≡ a = h.is_apart.apart o a q (field-covers h o g q e') (element-covers h a i q e) in
    let has : HasElement (block_at h.blocks.items a) i q = element_place-has_element (block_at h.blocks.items a) i q e in
    let has' : HasField (plan h) (block_at h.blocks.items a) g q = field_place-has_field (plan h) (block_at h.blocks.items a) g q (subst (λ (n : ℕ). field_place (plan h) (block_at h.blocks.items n) g ≡ Some q) same e') in
    absurd (not_both (block_at h.blocks.items a) has'.class has.type has'.begin has.begin has'.many has.many has'.is has.is)
same_place h (slot.Elem a i) (slot.Elem a' j) q e e' =
    let same : a' ≡ a = h.is_apart.apart a' a q (element-covers h a' j q e') (element-covers h a i q e) in
    both_true (nat_eq a' a) (nat_eq j i) (eq-eqb a' a same)
    (eq-eqb j i (same_element h a j i q (subst (λ (n : ℕ). element_place (block_at h.blocks.items n) j ≡ Some q) same e') e))
