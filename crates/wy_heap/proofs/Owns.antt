-- The fields of each class, found one after another.
use Rattle.std.proofs.Common.{◌≡◌, ◌≢◌, ◌<◌, ◌+◌, ℕ, zero, suc, Bool, true, false, List, [], ◌∷◌, ◌++◌, length, refl, sym, ap, ◌∙◌, arith, nat_eq, get_or, set, map, replicate, get_or-set_same, get_or-set_other, add-one}
use Rattle.std.specs.Prelude.{not, ◌&&◌, if◌then◌else◌}
use Rattle.std.specs.declared.vec.Vec.{Vec}
use Rattle.std.specs.declared.alloc.Global.{Global}
use Rattle.std.proofs.lemmas.Bool.{eqb-true, eq-eqb}
use Rattle.std.proofs.lemmas.List.{length-map, length-replicate, map-append, map-set, replicate_more}
use Rattle.wy_heap.specs.declared.plan.FieldPlan.{FieldPlan}
use Rattle.wy_heap.specs.Plan.{field_at, is_own, own_below}
use Rattle.wy_heap.specs.Layout.{AddsTo, AreOwn, lists_of}

pub get_or-map : {X Y : Type 0} (g : X → Y) (xs : List X) (i : ℕ) (d : X) (e : Y) → i < length xs → get_or (map g xs) i e ≡ g (get_or xs i d)
get_or-map g [] i d e h = absurd (omega arith)
get_or-map g (x ∷ xs) zero d e h = refl
get_or-map g (x ∷ xs) (suc i) d e h = get_or-map g xs i d e (omega arith)

pub adds : (owns : List (Vec ℕ Global)) (c f : ℕ) (old pushed : Vec ℕ Global) → c < length owns → pushed.items ≡ old.items ++ f ∷ [] → old ≡ get_or owns c old → AddsTo c f (lists_of owns) (lists_of (set owns c pushed))
adds owns c f old pushed inside items was = record {
  inside = omega (arith, inside, length-map owns (λ (v : Vec ℕ Global). v.items));
  is = map-set (λ (v : Vec ℕ Global). v.items) owns c pushed ∙ ap (λ xs. set (lists_of owns) c xs) (items ∙ ap (λ xs. xs ++ f ∷ []) (ap (λ (v : Vec ℕ Global). v.items) was ∙ sym (get_or-map (λ (v : Vec ℕ Global). v.items) owns c old [] inside)));
}

-- one more class, without a field
pub one_more : (owns more : List (Vec ℕ Global)) (n : ℕ) (v : Vec ℕ Global) → lists_of owns ≡ replicate n [] → v.items ≡ [] → more ≡ owns ++ v ∷ [] → lists_of more ≡ replicate (n + 1) []
one_more owns more n v is empty e =
    ap lists_of e ∙ map-append (λ (v : Vec ℕ Global). v.items) owns (v ∷ []) ∙ ap (λ xs. xs ++ v.items ∷ []) is ∙ ap (λ x. replicate n [] ++ x ∷ []) empty ∙ replicate_more n []

pub as_many : (owns : List (Vec ℕ Global)) (n : ℕ) → lists_of owns ≡ replicate n [] → length owns ≡ n
as_many owns n e = sym (length-map owns (λ (v : Vec ℕ Global). v.items)) ∙ ap length e ∙ length-replicate n []

pub nothing_own : (fields : List FieldPlan) (n : ℕ) → AreOwn fields 0 (replicate n [])
unfolding own_below
nothing_own fields n = record { each = λ c. none n c }
  where
    none : (n c : ℕ) → get_or {A = List ℕ} (replicate n []) c [] ≡ []
    none zero c = refl
    none (suc n) zero = refl
    none (suc n) (suc c) = none n c

below_skipped : (fields : List FieldPlan) (c n : ℕ) → is_own c (field_at fields n) ≡ false → own_below fields c (suc n) ≡ own_below fields c n
unfolding own_below
below_skipped fields c n e = ap (λ b. if b then own_below fields c n ++ n ∷ [] else own_below fields c n) e

below_added : (fields : List FieldPlan) (c n : ℕ) → is_own c (field_at fields n) ≡ true → own_below fields c (suc n) ≡ own_below fields c n ++ n ∷ []
unfolding own_below
below_added fields c n e = ap (λ b. if b then own_below fields c n ++ n ∷ [] else own_below fields c n) e

pub skips : (fields : List FieldPlan) (n : ℕ) (owns : List (List ℕ)) (d : FieldPlan) → AreOwn fields n owns → d ≡ field_at fields n → d.is_static ≡ true → AreOwn fields (n + 1) owns
unfolding is_own
skips fields n owns d are here static = record { each = λ c. are.each c ∙ sym (below_skipped fields c n (not_own c)) ∙ ap (own_below fields c) (sym (add-one n)) }
  where
    not_own : (c : ℕ) → is_own c (field_at fields n) ≡ false
    not_own c = ap (λ b. not b && nat_eq (field_at fields n).class c) (ap (λ x. x.is_static) (sym here) ∙ static)

pub takes : (fields : List FieldPlan) (n : ℕ) (owns more : List (List ℕ)) (d : FieldPlan) → AreOwn fields n owns → d ≡ field_at fields n → d.is_static ≡ false → AddsTo d.class n owns more → AreOwn fields (n + 1) more
unfolding is_own
takes fields n owns more d are here static adds = record { each = λ c. by c (nat_eq d.class c) refl ∙ ap (own_below fields c) (sym (add-one n)) }
  where
    own_is : (c : ℕ) → is_own c (field_at fields n) ≡ nat_eq d.class c
    own_is c = ap (λ (x : FieldPlan). not x.is_static && nat_eq x.class c) (sym here) ∙ ap (λ b. not b && nat_eq d.class c) static

    by : (c : ℕ) (b : Bool) → nat_eq d.class c ≡ b → get_or more c [] ≡ own_below fields c (suc n)
    by c true e =
        let same : d.class ≡ c = eqb-true d.class c e in
        ap (λ xs. get_or xs c []) adds.is
        ∙ ap (λ k. get_or (set owns d.class (get_or owns d.class [] ++ n ∷ [])) k []) (sym same)
        ∙ get_or-set_same owns d.class (get_or owns d.class [] ++ n ∷ []) [] adds.inside
        ∙ ap (λ k. get_or owns k [] ++ n ∷ []) same
        ∙ ap (λ xs. xs ++ n ∷ []) (are.each c)
        ∙ sym (below_added fields c n (own_is c ∙ e))
    by c false e =
        let other : c ≢ d.class = λ same. let yes_same : nat_eq d.class c ≡ true = eq-eqb d.class c (sym same) in cc in
        ap (λ xs. get_or xs c []) adds.is ∙ get_or-set_other owns d.class c (get_or owns d.class [] ++ n ∷ []) [] other ∙ are.each c ∙ sym (below_skipped fields c n (own_is c ∙ e))
