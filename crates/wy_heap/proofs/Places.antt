-- The places of fields: by offsets in rows, and of static fields.
use Rattle.std.proofs.Common.{◌≡◌, ◌≢◌, ◌<◌, ◌≤◌, ℕ, zero, suc, Bool, true, false, List, [], ◌∷◌, length, refl, sym, ap, ◌∙◌, subst, arith, nat_eq, get_or}
use Rattle.std.specs.Prelude.{None as Absent, Some, Option, option_map, slice_get, ◌&&◌, if◌then◌else◌}
use Rattle.std.proofs.lemmas.Bool.{eqb-true, eq-eqb}
use Rattle.std.proofs.lemmas.Option.{same_Some, none-some, slice_get_within, get_or_from_slice_get}
use Rattle.wy_heap.specs.declared.plan.FieldPlan.{FieldPlan}
use Rattle.wy_heap.specs.Plan.{Plan, field_at, position_of}
use Rattle.wy_heap.specs.Layout.{IsPlaced, no_offset}
use Rattle.wy_heap.specs.Heap.{static_place}

-- ---- places in a row

-- the field stands at this place
pub record IsAt (row : List ℕ) (f k : ℕ) : Type 0 where
  pub below : k < length row
  pub is : get_or row k 0 ≡ f

at_suc : (x : ℕ) (row : List ℕ) (f k : ℕ) → IsAt row f k → IsAt (x ∷ row) f (suc k)
at_suc x row f k at = record { below = omega (arith, at.below); is = at.is }

pub position_of-is_at : (row : List ℕ) (f k : ℕ) → position_of row f ≡ Some k → IsAt row f k
unfolding position_of
position_of-is_at [] f k e = absurd (none-some k e)
position_of-is_at (x ∷ row) f k e = at (nat_eq x f) (eqb-true x f) (position_of row f) (position_of-is_at row f) e
  where
    at : (b : Bool) → (b ≡ true → x ≡ f) → (o : Option ℕ) → ((j : ℕ) → o ≡ Some j → IsAt row f j) → (if b then Some zero else option_map suc o) ≡ Some k → IsAt (x ∷ row) f k
    at true same o rest e = subst (λ (k : ℕ). IsAt (x ∷ row) f k) (same_Some 0 k e) (record { below = omega arith; is = same refl })
    at false same Absent rest e = absurd (none-some k e)
    at false same (Some j) rest e = subst (λ (k : ℕ). IsAt (x ∷ row) f k) (same_Some (suc j) k e) (at_suc x row f j (rest j refl))

-- a field that stands somewhere has a place
pub record HasPlace (row : List ℕ) (f : ℕ) : Type 0 where
  pub place : ℕ
  pub is : position_of row f ≡ Some place

pub is_at-has_place : (row : List ℕ) (f k : ℕ) → IsAt row f k → HasPlace row f
unfolding position_of
is_at-has_place [] f k at = absurd (omega (arith, at.below))
is_at-has_place (x ∷ row) f zero at = record { place = 0; is = ap (λ b. if b then Some zero else option_map suc (position_of row f)) (eq-eqb x f at.is) }
is_at-has_place (x ∷ row) f (suc k) at = with_rest (is_at-has_place row f k (record { below = omega (arith, at.below); is = at.is }))
  where
    by : (b : Bool) (j : ℕ) → position_of row f ≡ Some j → (m : ℕ) × ((if b then Some zero else option_map suc (position_of row f)) ≡ Some m)
    by true j e = (0, refl)
    by false j e = (suc j, ap (option_map suc) e)

    with_rest : HasPlace row f → HasPlace (x ∷ row) f
    with_rest there = let found : (m : ℕ) × ((if nat_eq x f then Some zero else option_map suc (position_of row f)) ≡ Some m) = by (nat_eq x f) there.place there.is in record { place = found.0; is = found.1 }

-- each place in a row that is placed is the offset of its field
placed_at : (offsets row : List ℕ) (f k : ℕ) → IsPlaced offsets row → IsAt row f k → get_or offsets f no_offset ≡ k
placed_at offsets row f k placed at = ap (λ g. get_or offsets g no_offset) (sym at.is) ∙ placed.each k at.below

pub position_of-by_offset : (offsets row : List ℕ) (f o : ℕ) → IsPlaced offsets row → o ≡ get_or offsets f no_offset → IsAt row f o → position_of row f ≡ Some o
position_of-by_offset offsets row f o placed e at =
    let there : HasPlace row f = is_at-has_place row f o at in
    let same : get_or offsets f no_offset ≡ there.place = placed_at offsets row f there.place placed (position_of-is_at row f there.place there.is) in
    there.is ∙ ap Some (sym same ∙ sym e)

pub position_of-missing : (offsets row : List ℕ) (f o : ℕ) → IsPlaced offsets row → o ≡ get_or offsets f no_offset → (IsAt row f o → ⊥) → position_of row f ≡ Absent
position_of-missing offsets row f o placed e none = by (position_of row f) refl
  where
    by : (p : Option ℕ) → position_of row f ≡ p → position_of row f ≡ Absent
    by Absent is = is
    by (Some k) is =
        let at : IsAt row f k = position_of-is_at row f k is in
        absurd (none (subst (λ (k : ℕ). IsAt row f k) (sym (placed_at offsets row f k placed at) ∙ sym e) at))

-- ---- an offset that was looked up

past_end : (xs : List ℕ) (i : ℕ) → slice_get xs i ≡ Absent → length xs ≤ i
past_end [] i e = omega arith
past_end (x ∷ xs) zero e = absurd (none-some x (sym e))
past_end (x ∷ xs) (suc i) e = let h : length xs ≤ i = past_end xs i e in omega arith

pub by_offset-there : (offsets row : List ℕ) (f o x : ℕ) → IsPlaced offsets row → o ≡ get_or offsets f no_offset → slice_get row o ≡ Some x → x ≡ f → position_of row f ≡ Some o
by_offset-there offsets row f o x placed e got is = position_of-by_offset offsets row f o placed e (record { below = slice_get_within row o x got; is = get_or_from_slice_get row o x 0 got ∙ is })

pub by_offset-other : (offsets row : List ℕ) (f o x : ℕ) → IsPlaced offsets row → o ≡ get_or offsets f no_offset → slice_get row o ≡ Some x → x ≢ f → position_of row f ≡ Absent
by_offset-other offsets row f o x placed e got other = position_of-missing offsets row f o placed e (λ at. other (sym (get_or_from_slice_get row o x 0 got) ∙ at.is))

pub by_offset-past : (offsets row : List ℕ) (f o : ℕ) → IsPlaced offsets row → o ≡ get_or offsets f no_offset → slice_get row o ≡ Absent → position_of row f ≡ Absent
by_offset-past offsets row f o placed e got = let past : length row ≤ o = past_end row o got in position_of-missing offsets row f o placed e (λ at. omega (arith, at.below))

-- ---- the places of static fields

both : (a b : Bool) (f : ℕ) → a ≡ true → b ≡ true → (if a && b then Some f else Absent) ≡ Some f
both a b f p q = ap (λ x. if x && b then Some f else Absent) p ∙ ap (λ y. if y then Some f else Absent) q

not_first : (a b : Bool) (f : ℕ) → a ≡ false → (if a && b then Some f else Absent) ≡ Absent
not_first a b f p = ap (λ x. if x && b then Some f else Absent) p

not_second : (a b : Bool) (f : ℕ) → b ≡ false → (if a && b then Some f else Absent) ≡ Absent
not_second true b f q = ap (λ y. if y then Some f else Absent) q
not_second false b f q = refl

pub place-there : (p : Plan) (begun : List Bool) (f : ℕ) (d : FieldPlan) → d ≡ field_at p.fields f → d.is_static ≡ true → get_or begun d.class false ≡ true → static_place p begun f ≡ Some f
unfolding static_place
place-there p begun f d e is made =
    both (field_at p.fields f).is_static (get_or begun (field_at p.fields f).class false) f
    (sym (ap (λ x. x.is_static) e) ∙ is) (sym (ap (λ x. get_or begun x.class false) e) ∙ made)

pub place-none : (p : Plan) (begun : List Bool) (f : ℕ) (d : FieldPlan) → d ≡ field_at p.fields f → d.is_static ≡ false → static_place p begun f ≡ Absent
unfolding static_place
place-none p begun f d e is =
    not_first (field_at p.fields f).is_static (get_or begun (field_at p.fields f).class false) f (sym (ap (λ x. x.is_static) e) ∙ is)

pub place-none_begun : (p : Plan) (begun : List Bool) (f : ℕ) (d : FieldPlan) → d ≡ field_at p.fields f → get_or begun d.class false ≡ false → static_place p begun f ≡ Absent
unfolding static_place
place-none_begun p begun f d e made =
    not_second (field_at p.fields f).is_static (get_or begun (field_at p.fields f).class false) f (sym (ap (λ x. get_or begun x.class false) e) ∙ made)
