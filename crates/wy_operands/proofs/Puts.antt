-- A value that is put on the stack in memory, and one that is made of the last of them.
use Rattle.std.proofs.Common.{◌≡◌, ℕ, ◌≤◌, ◌<◌, ◌+◌, ◌-◌, List, [], ◌∷◌, ◌++◌, length, get_or, take, drop, reverse, slice_range, refl, ap, ap₂, sym, ◌∙◌, arith}
use Rattle.std.proofs.lemmas.List.{take_at, drop_at, take_all, length-drop, length-append, length-take-le, drop-append-le, take-append-le, reverse-append, get_or-reverse, length-reverse}
use Rattle.wy_value.specs.declared.value.Value.{Value}
use Rattle.wy_value.specs.declared.value.Value.TheVariants.{None as Nothing}
use Rattle.wy_event.specs.declared.record.Use.{Use}
use Rattle.wy_operands.specs.declared.operands.Operand.{Operand}
use Rattle.wy_operands.specs.declared.operands.Operands.{Operands}
use Rattle.wy_operands.specs.Values.{given, top, under, under_many, at, uses_of_last}
use Rattle.wy_operands.specs.Layout.{Begins, carried, values_of}
use Rattle.wy_operands.proofs.Places.{under_past, uses_split, length-carried}

-- a value whose uses begin here
placed : (xs new : List Operand) (us : List Use) (v : Value) (from : ℕ) → new ≡ xs ++ record { value = v; from = from } ∷ [] →
    carried (reverse new) us ≡ given v (drop from us) ∷ carried (reverse xs) (take from us)
placed xs new us v from made = ap (λ ys. carried (reverse ys) us) made ∙ ap (λ ys. carried ys us) (reverse-append xs (record { value = v; from = from } ∷ []))

pub put_on : (old new : Operands) (v : Value) (from : ℕ) (more : List Use) → from ≡ length old.uses.items → new.values.items ≡ old.values.items ++ record { value = v; from = from } ∷ [] → new.uses.items ≡ old.uses.items ++ more →
    values_of new ≡ given v more ∷ values_of old
unfolding values_of
put_on old new v from more end values uses =
    placed old.values.items new.values.items new.uses.items v from values
    ∙ ap (λ n. given v (drop n new.uses.items) ∷ carried (reverse old.values.items) (take n new.uses.items)) end
    ∙ ap (λ us. given v (drop (length old.uses.items) us) ∷ carried (reverse old.values.items) (take (length old.uses.items) us)) uses
    ∙ ap₂ (λ us rest. given v us ∷ carried (reverse old.values.items) rest) (drop_at old.uses.items more (length old.uses.items) refl) (take_at old.uses.items more (length old.uses.items) refl)

-- the uses of the last so many, and more, begin where theirs do
pub put_over : (old new : Operands) (many from : ℕ) (v : Value) (more : List Use) → Begins old many from → new.values.items ≡ take (length old.values.items - many) old.values.items ++ record { value = v; from = from } ∷ [] → new.uses.items ≡ old.uses.items ++ more →
    values_of new ≡ given v (uses_of_last many (values_of old) ++ more) ∷ under_many many (values_of old)
unfolding values_of
put_over old new many from v more begins values uses =
    placed (take (length old.values.items - many) old.values.items) new.values.items new.uses.items v from values
    ∙ ap (λ us. given v (drop from us) ∷ carried (reverse (take (length old.values.items - many) old.values.items)) (take from us)) uses
    ∙ ap₂ (λ us rest. given v us ∷ carried (reverse (take (length old.values.items - many) old.values.items)) rest)
    (drop-append-le from old.uses.items more begins.within ∙ ap (λ us. us ++ more) begins.uses)
    (take-append-le from old.uses.items more begins.within)
    ∙ ap (λ rest. given v (uses_of_last many (values_of old) ++ more) ∷ rest) begins.rest

pub record Part (s : Operands) (above from to : ℕ) : Type 0 where
  pub in_order : from ≤ to
  pub uses : slice_range s.uses.items from to ≡ (at above (values_of s)).uses

-- between where the uses of one more begin, and those of the ones above it
pub part_is : (s : Operands) (above many from to : ℕ) → many ≡ ℕ.suc above → Begins s many from → Begins s above to → Part s above from to
part_is s above many from to one more fewer =
    let split : drop from s.uses.items ≡ (at above (values_of s)).uses ++ drop to s.uses.items = more.uses ∙ ap (λ n. uses_of_last n (values_of s)) one ∙ uses_split above (values_of s) ∙ ap (λ us. (at above (values_of s)).uses ++ us) (sym fewer.uses) in
    let count : length s.uses.items - from ≡ length (at above (values_of s)).uses + (length s.uses.items - to) =
    sym (length-drop from s.uses.items) ∙ ap length split ∙ length-append (at above (values_of s)).uses (drop to s.uses.items) ∙ ap (λ n. length (at above (values_of s)).uses + n) (length-drop to s.uses.items) in
    let own : length (at above (values_of s)).uses ≡ to - from = omega (arith, more.within, fewer.within, count) in
    record {
      in_order = omega (arith, more.within, fewer.within, count);
      uses = ap (take (to - from)) split ∙ take_at (at above (values_of s)).uses (drop to s.uses.items) (to - from) own;
    }

-- between where the uses of the last three begin, and those of the top
pub under_top : (s : Operands) (from to : ℕ) → Begins s 3 from → Begins s 1 to → (from ≤ to) × (slice_range s.uses.items from to ≡ uses_of_last 2 (under (values_of s)))
under_top s from to more fewer =
    let split : drop from s.uses.items ≡ uses_of_last 2 (under (values_of s)) ++ drop to s.uses.items = more.uses ∙ ap (λ us. uses_of_last 2 (under (values_of s)) ++ us) (sym fewer.uses) in
    let count : length s.uses.items - from ≡ length (uses_of_last 2 (under (values_of s))) + (length s.uses.items - to) =
    sym (length-drop from s.uses.items) ∙ ap length split ∙ length-append (uses_of_last 2 (under (values_of s))) (drop to s.uses.items) ∙ ap (λ n. length (uses_of_last 2 (under (values_of s))) + n) (length-drop to s.uses.items) in
    let own : length (uses_of_last 2 (under (values_of s))) ≡ to - from = omega (arith, more.within, fewer.within, count) in
    (omega (arith, more.within, fewer.within, count), ap (take (to - from)) split ∙ take_at (uses_of_last 2 (under (values_of s))) (drop to s.uses.items) (to - from) own)

at_carried : (os : List Operand) (us : List Use) (n : ℕ) (d : Operand) → n < length os → (at n (carried os us)).value ≡ (get_or os n d).value
at_carried [] us n d low = absurd (omega arith)
at_carried (o ∷ os) us ℕ.zero d low = refl
at_carried (o ∷ os) us (ℕ.suc n) d low = at_carried os (take o.from us) n d (omega arith)

pub value_is : (s : Operands) (n : ℕ) (d : Operand) → n < length s.values.items → (get_or s.values.items (length s.values.items - 1 - n) d).value ≡ (at n (values_of s)).value
unfolding values_of
value_is s n d low =
    let there : n < length (reverse s.values.items) = omega (arith, length-reverse s.values.items) in
    sym (at_carried (reverse s.values.items) s.uses.items n d there ∙ ap (λ o. o.value) (get_or-reverse s.values.items n d low))

pub none_there : (s : Operands) (n : ℕ) → length s.values.items ≤ n → at n (values_of s) ≡ given Nothing []
unfolding values_of
none_there s n past =
    let few : length (carried (reverse s.values.items) s.uses.items) ≤ n = omega (arith, length-carried (reverse s.values.items) s.uses.items, length-reverse s.values.items) in
    ap top (under_past n (carried (reverse s.values.items) s.uses.items) few)

pub length-values_of : (s : Operands) → length (values_of s) ≡ length s.values.items
unfolding values_of
length-values_of s = length-carried (reverse s.values.items) s.uses.items ∙ length-reverse s.values.items

-- the uses of one that is kept of three
pub put_second : (old new : Operands) (first second third : ℕ) (v : Value) → Begins old 3 first → Begins old 2 second → Begins old 1 third → v ≡ (at 1 (values_of old)).value →
    new.values.items ≡ take (length old.values.items - 3) old.values.items ++ record { value = v; from = first } ∷ [] → new.uses.items ≡ take first old.uses.items ++ slice_range old.uses.items second third →
    values_of new ≡ at 1 (values_of old) ∷ under_many 3 (values_of old)
unfolding values_of
put_second old new first second third v low middle high value values uses =
    let count : length (take first old.uses.items) ≡ first = length-take-le first old.uses.items low.within in
    placed (take (length old.values.items - 3) old.values.items) new.values.items new.uses.items v first values
    ∙ ap (λ us. given v (drop first us) ∷ carried (reverse (take (length old.values.items - 3) old.values.items)) (take first us)) uses
    ∙ ap₂ (λ us rest. given v us ∷ carried (reverse (take (length old.values.items - 3) old.values.items)) rest)
    (drop_at (take first old.uses.items) (slice_range old.uses.items second third) first count ∙ (part_is old 1 2 second third refl middle high).uses)
    (take_at (take first old.uses.items) (slice_range old.uses.items second third) first count)
    ∙ ap₂ (λ x rest. given x (at 1 (values_of old)).uses ∷ rest) value low.rest

-- what is copied from a list behind it
pub part_after : (us : List Use) (from to : ℕ) → to ≡ length us → from ≤ to → slice_range us from to ≡ drop from us
part_after us from to end low = take_all (to - from) (drop from us) (omega (arith, length-drop from us))
