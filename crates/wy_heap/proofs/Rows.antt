-- The rows of layouts: the fields of a class and of those above it.
use Rattle.std.proofs.Common.{◌≡◌, ◌<◌, ◌≤◌, ◌+◌, ◌-◌, ℕ, zero, suc, Bool, true, false, List, [], ◌∷◌, ◌++◌, length, refl, sym, ap, ◌∙◌, arith, nat_eq, get_or, map, append_assoc, append-nil}
use Rattle.std.specs.Prelude.{None as Absent, Some, Option, if◌then◌else◌}
use Rattle.std.specs.declared.vec.Vec.{Vec}
use Rattle.std.specs.declared.alloc.Global.{Global}
use Rattle.std.proofs.lemmas.Bool.{eqb-true}
use Rattle.std.proofs.lemmas.List.{get_or_past, length-map}
use Rattle.wy_kernel.specs.View.{present}
use Rattle.wy_heap.specs.declared.layout.Row.{Row}
use Rattle.wy_heap.specs.declared.layout.Layouts.{Layouts}
use Rattle.wy_heap.specs.Plan.{fields_above, fields_up, own_of}
use Rattle.wy_heap.specs.Layouts.{plan_in}
use Rattle.wy_heap.specs.Layout.{IsRow, is_known, lists_of, no_offset}
use Rattle.wy_heap.proofs.Owns.{get_or-map}

pub row_of : (l : Layouts) (c : ℕ) (row : Row) → get_or l.rows.items c Absent ≡ Some row → IsRow (plan_in l) l.offsets.items c row
row_of l c row e = l.is_laid_out.rows c row e

-- a row that is worked out is inside
pub known_inside : (rows : List (Option Row)) (c : ℕ) → is_known rows c ≡ true → c < length rows
unfolding is_known
known_inside [] c e = absurd (grind arith)
known_inside (x ∷ rows) zero e = omega arith
known_inside (x ∷ rows) (suc c) e = let h : c < length rows = known_inside rows c e in omega arith

-- ---- the fields of a class and of those above it

module _ (l : Layouts) where
  own_at : (c : ℕ) → get_or (lists_of l.own.items) c [] ≡ own_of (plan_in l) c
  unfolding own_of
  own_at c = l.is_laid_out.own.each c

  -- no class has a number past the last
  pub none_past : (k c : ℕ) → length l.above.items ≤ c → fields_up (plan_in l) k c ≡ []
  unfolding fields_up fields_above
  none_past zero c past = refl
  none_past (suc k) c past =
      let own_past : length (lists_of l.own.items) ≤ c = omega (arith, past, l.is_laid_out.a_list_a_class, length-map l.own.items (λ (v : Vec ℕ Global). v.items)) in
      let above_past : length (map present l.above.items) ≤ c = omega (arith, past, length-map l.above.items present) in
      ap (λ xs. xs ++ fields_above (fields_up (plan_in l) k) (get_or (map present l.above.items) c Absent)) (sym (own_at c) ∙ get_or_past (lists_of l.own.items) c [] own_past)
      ∙ ap (λ o. fields_above (fields_up (plan_in l) k) o) (get_or_past (map present l.above.items) c Absent above_past)

  above_is : (k d : ℕ) → fields_above (fields_up (plan_in l) k) (present d) ≡ fields_up (plan_in l) k d
  unfolding present fields_above
  above_is k d = by (nat_eq d no_offset) (eqb-true d no_offset)
    where
      by : (b : Bool) → (b ≡ true → d ≡ no_offset) → fields_above (fields_up (plan_in l) k) (if b then Absent else Some d) ≡ fields_up (plan_in l) k d
      by true same = let past : length l.above.items ≤ d = omega (arith, same refl, l.is_laid_out.few) in sym (none_past k d past)
      by false same = refl

  pub one_up : (k c d : ℕ) (v : Vec ℕ Global) → c < length l.above.items → v ≡ get_or l.own.items c v → d ≡ get_or l.above.items c d → fields_up (plan_in l) (suc k) c ≡ v.items ++ fields_up (plan_in l) k d
  unfolding fields_up
  one_up k c d v inside own above =
      let own_inside : c < length l.own.items = omega (arith, inside, l.is_laid_out.a_list_a_class) in
      ap (λ xs. xs ++ fields_above (fields_up (plan_in l) k) (get_or (map present l.above.items) c Absent)) (sym (own_at c) ∙ get_or-map (λ (v : Vec ℕ Global). v.items) l.own.items c v [] own_inside ∙ ap (λ (v : Vec ℕ Global). v.items) (sym own))
      ∙ ap (λ o. v.items ++ fields_above (fields_up (plan_in l) k) o) (get_or-map present l.above.items c d Absent inside ∙ ap present (sym above))
      ∙ ap (λ xs. v.items ++ xs) (above_is k d)

  -- a class is taken, and the one above it is next
  pub goes_up : (row more all : List ℕ) (many i c d : ℕ) (v : Vec ℕ Global) → row ++ fields_up (plan_in l) (many - i) c ≡ all → i < many → more ≡ row ++ v.items → c < length l.above.items → v ≡ get_or l.own.items c v → d ≡ get_or l.above.items c d → more ++ fields_up (plan_in l) (many - (i + 1)) d ≡ all
  goes_up row more all many i c d v so_far below e inside own above =
      let left : many - i ≡ suc (many - (i + 1)) = omega arith in
      ap (λ xs. xs ++ fields_up (plan_in l) (many - (i + 1)) d) e
      ∙ append_assoc row v.items (fields_up (plan_in l) (many - (i + 1)) d)
      ∙ ap (λ xs. row ++ xs) (sym (one_up (many - (i + 1)) c d v inside own above))
      ∙ ap (λ n. row ++ fields_up (plan_in l) n c) (sym left)
      ∙ so_far

  pub stops_past : (row all : List ℕ) (n c : ℕ) → row ++ fields_up (plan_in l) n c ≡ all → length l.above.items ≤ c → row ≡ all
  stops_past row all n c so_far past = sym (append-nil row) ∙ ap (λ xs. row ++ xs) (sym (none_past n c past)) ∙ so_far

  pub stops_over : (row all : List ℕ) (many i c : ℕ) → row ++ fields_up (plan_in l) (many - i) c ≡ all → many ≤ i → row ≡ all
  unfolding fields_up
  stops_over row all many i c so_far over =
      let left : many - i ≡ 0 = omega arith in
      sym (append-nil row) ∙ ap (λ n. row ++ fields_up (plan_in l) n c) (sym left) ∙ so_far

-- a class with a row has a code
pub known_code : (l : Layouts) (c : ℕ) → is_known l.rows.items c ≡ true → c + 16 < 4294967296
known_code l c known = let inside : c < length l.rows.items = known_inside l.rows.items c known in omega (arith, inside, l.is_laid_out.a_row_a_class, l.is_laid_out.few)
