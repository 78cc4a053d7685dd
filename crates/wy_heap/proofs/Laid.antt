-- Layouts stay right where offsets are given and a row is put in.
use Rattle.std.proofs.Common.{◌≡◌, ◌≢◌, ◌<◌, ◌≤◌, ℕ, zero, suc, Bool, true, false, List, length, refl, sym, ap, ◌∙◌, subst, arith, nat_eq, get_or, set, replicate, get_or-set_same, get_or-set_other, length-set}
use Rattle.std.specs.Prelude.{None as Absent, Some, Option, is_some}
use Rattle.std.specs.declared.vec.Vec.{Vec}
use Rattle.std.specs.declared.alloc.Global.{Global}
use Rattle.std.proofs.lemmas.Bool.{eqb-true, eq-eqb}
use Rattle.std.proofs.lemmas.Option.{none-some, same_Some}
use Rattle.std.proofs.lemmas.List.{length-replicate}
use Rattle.wy_heap.specs.declared.plan.FieldPlan.{FieldPlan}
use Rattle.wy_heap.specs.declared.layout.Row.{Row}
use Rattle.wy_heap.specs.Plan.{Plan}
use Rattle.wy_heap.specs.Layout.{AreOwn, IsLaidOut, IsPlaced, IsRow, KeepsOffsets, is_known, lists_of, no_offset, plan_with}

stay_placed : (offsets more row : List ℕ) → IsPlaced offsets row → KeepsOffsets offsets more → IsPlaced more row
stay_placed offsets more row placed kept = record { few = placed.few; each = each }
  where
    each : (k : ℕ) → k < length row → get_or more (get_or row k 0) no_offset ≡ k
    each k below =
        let was : get_or offsets (get_or row k 0) no_offset ≡ k = placed.each k below in
        let there : get_or offsets (get_or row k 0) no_offset ≢ no_offset = λ e. omega (arith, placed.few, was) in
        kept.each (get_or row k 0) there ∙ was

stays_row : (plan : Plan) (offsets more : List ℕ) (c : ℕ) (row : Row) → IsRow plan offsets c row → KeepsOffsets offsets more → IsRow plan more c row
stays_row plan offsets more c row is kept = record { fields = is.fields; firsts = is.firsts; placed = stay_placed offsets more row.fields.items is.placed kept }

module _ (fields : List FieldPlan) (above : List ℕ) (owns : List (Vec ℕ Global)) (rows : List (Option Row)) (offsets : List ℕ) (laid : IsLaidOut fields above owns rows offsets) where
  pub stay_laid : (more : List ℕ) → KeepsOffsets offsets more → IsLaidOut fields above owns rows more
  stay_laid more kept = record {
    few = laid.few;
    a_list_a_class = laid.a_list_a_class;
    own = laid.own;
    a_row_a_class = laid.a_row_a_class;
    rows = λ c row is. stays_row (plan_with fields above) offsets more c row (laid.rows c row is) kept;
  }

  pub one_more_row : (c : ℕ) (row : Row) → c < length rows → IsRow (plan_with fields above) offsets c row → IsLaidOut fields above owns (set rows c (Some row)) offsets
  one_more_row c row inside right = record {
    few = laid.few;
    a_list_a_class = laid.a_list_a_class;
    own = laid.own;
    a_row_a_class = length-set rows c (Some row) ∙ laid.a_row_a_class;
    rows = λ d other is. by d other (nat_eq d c) refl is;
  }
    where
      by : (d : ℕ) (other : Row) (b : Bool) → nat_eq d c ≡ b → get_or (set rows c (Some row)) d Absent ≡ Some other → IsRow (plan_with fields above) offsets d other
      by d other true e is =
          let here : d ≡ c = eqb-true d c e in
          let same : row ≡ other = same_Some row other (sym (get_or-set_same rows c (Some row) Absent inside) ∙ ap (λ k. get_or (set rows c (Some row)) k Absent) (sym here) ∙ is) in
          subst (λ (k : ℕ). IsRow (plan_with fields above) offsets k other) (sym here) (subst (λ (r : Row). IsRow (plan_with fields above) offsets c r) same right)
      by d other false e is =
          let elsewhere : d ≢ c = λ same. let yes_same : nat_eq d c ≡ true = eq-eqb d c same in cc in
          laid.rows d other (sym (get_or-set_other rows c d (Some row) Absent elsewhere) ∙ is)

-- what is known stays known, and the row is known then
pub known_there : (rows : List (Option Row)) (c : ℕ) (row : Row) → c < length rows → is_known (set rows c (Some row)) c ≡ true
unfolding is_known
known_there rows c row inside = ap is_some (get_or-set_same rows c (Some row) Absent inside)

pub stay_known : (rows : List (Option Row)) (c d : ℕ) (row : Row) → c < length rows → is_known rows d ≡ true → is_known (set rows c (Some row)) d ≡ true
unfolding is_known
stay_known rows c d row inside was = by (nat_eq d c) (eqb-true d c) refl
  where
    by : (b : Bool) → (b ≡ true → d ≡ c) → nat_eq d c ≡ b → is_known (set rows c (Some row)) d ≡ true
    by true same e = ap (is_known (set rows c (Some row))) (same refl) ∙ known_there rows c row inside
    by false same e =
        let elsewhere : d ≢ c = λ s. let yes_same : nat_eq d c ≡ true = eq-eqb d c s in cc in
        ap is_some (get_or-set_other rows c d (Some row) Absent elsewhere) ∙ was

-- where nothing is worked out
pub none_laid : (fields : List FieldPlan) (above : List ℕ) (owns : List (Vec ℕ Global)) (rows : List (Option Row)) (offsets : List ℕ) (n : ℕ) → length above ≤ 16777200 → n ≡ length above → length owns ≡ n → AreOwn fields (length fields) (lists_of owns) → rows ≡ replicate n Absent → IsLaidOut fields above owns rows offsets
none_laid fields above owns rows offsets n few many a_list own none = record {
  few = few;
  a_list_a_class = a_list ∙ many;
  own = own;
  a_row_a_class = ap length none ∙ length-replicate n Absent ∙ many;
  rows = λ c row is. absurd (none-some row (sym (nothing n c) ∙ ap (λ rs. get_or rs c Absent) (sym none) ∙ is));
}
  where
    nothing : (n c : ℕ) → get_or {A = Option Row} (replicate n Absent) c Absent ≡ Absent
    nothing zero c = refl
    nothing (suc n) zero = refl
    nothing (suc n) (suc c) = nothing n c
