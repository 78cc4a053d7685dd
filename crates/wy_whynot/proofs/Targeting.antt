-- Each target of calls is noted at its first.
use Rattle.std.proofs.Common.{◌≡◌, ◌∙◌, ◌++◌, ◌∷◌, [], ℕ, Bool, true, false, not, cond, List, refl, sym, ap, ap₂, eqb-true, eq-eqb, append-nil}
use Rattle.std.specs.Prelude.{◌||◌, filter, nat_eq}
use Rattle.std.specs.List.{list_any}
use Rattle.std.proofs.lemmas.List.Elements.{filter-append}
use Rattle.wy_value.specs.declared.value.Value.TheVariants as value
use Rattle.wy_event.specs.declared.record.Kind.TheVariants as event
use Rattle.wy_index.specs.declared.found.Hit.{Hit}
use Rattle.wy_whynot.specs.declared.item.Made.{Made}
use Rattle.wy_whynot.specs.Evidence.{has_another, made_by, targets_of}
use Rattle.wy_whynot.specs.Targets.{has_target, with_target}

-- a method other than c is among those of which c was left out exactly if it is among all
any_but : (c m : ℕ) → nat_eq c m ≡ false → (xs : List Made) → list_any (has_target m) (filter (has_another c) xs) ≡ list_any (has_target m) xs
any_but c m apart [] = refl
any_but c m apart (x ∷ xs) = by_test (nat_eq x.method c) refl (any_but c m apart xs)
  where
    other : nat_eq x.method c ≡ true → nat_eq x.method m ≡ false
    other e = ap (λ n. nat_eq n m) (eqb-true x.method c e) ∙ apart

    by_test : (b : Bool) → nat_eq x.method c ≡ b → list_any (has_target m) (filter (has_another c) xs) ≡ list_any (has_target m) xs
        → list_any (has_target m) (cond (not b) (x ∷ filter (has_another c) xs) (filter (has_another c) xs)) ≡ (nat_eq x.method m || list_any (has_target m) xs)
    by_test true e rest = rest ∙ ap (λ t. t || list_any (has_target m) xs) (sym (other e))
    by_test false e rest = ap (λ t. nat_eq x.method m || t) rest

-- the one that is left out is the one that was added
filter_one : (c : ℕ) (x : Made) → (b : Bool) → nat_eq x.method c ≡ b → filter (has_another c) (x ∷ []) ≡ cond b [] (x ∷ [])
filter_one c x true e = ap (λ b. cond (not b) (x ∷ []) []) e
filter_one c x false e = ap (λ b. cond (not b) (x ∷ []) []) e

nat_eq-sym : (a b : ℕ) (t : Bool) → nat_eq a b ≡ t → nat_eq b a ≡ t
nat_eq-sym a b true e = eq-eqb b a (sym (eqb-true a b e))
nat_eq-sym a b false e = by_test (nat_eq b a) refl
  where
    by_test : (t : Bool) → nat_eq b a ≡ t → t ≡ false
    by_test true f = sym (eq-eqb a b (sym (eqb-true b a f))) ∙ e
    by_test false f = refl

step : (c call : Hit) (ts : List Made) → (same any : Bool) → nat_eq c.entity call.entity ≡ same → list_any (has_target call.entity) ts ≡ any
    → made_by c ∷ filter (has_another c.entity) (cond any ts (ts ++ made_by call ∷ [])) ≡ with_target (made_by c ∷ filter (has_another c.entity) ts) call
step c call ts true true s a = ap (λ b. cond (b || list_any (has_target call.entity) (filter (has_another c.entity) ts)) (made_by c ∷ filter (has_another c.entity) ts) ((made_by c ∷ filter (has_another c.entity) ts) ++ made_by call ∷ [])) (sym s)
step c call ts true false s a =
    ap (λ xs. made_by c ∷ xs) (filter-append (has_another c.entity) ts (made_by call ∷ []) ∙ ap (λ xs. filter (has_another c.entity) ts ++ xs) (filter_one c.entity (made_by call) true (nat_eq-sym c.entity call.entity true s)) ∙ append-nil (filter (has_another c.entity) ts))
    ∙ ap (λ b. cond (b || list_any (has_target call.entity) (filter (has_another c.entity) ts)) (made_by c ∷ filter (has_another c.entity) ts) ((made_by c ∷ filter (has_another c.entity) ts) ++ made_by call ∷ [])) (sym s)
step c call ts false true s a =
    ap₂ (λ b t. cond (b || t) (made_by c ∷ filter (has_another c.entity) ts) ((made_by c ∷ filter (has_another c.entity) ts) ++ made_by call ∷ [])) (sym s) (sym (any_but c.entity call.entity s ts ∙ a))
step c call ts false false s a =
    ap (λ xs. made_by c ∷ xs) (filter-append (has_another c.entity) ts (made_by call ∷ []) ∙ ap (λ xs. filter (has_another c.entity) ts ++ xs) (filter_one c.entity (made_by call) false (nat_eq-sym c.entity call.entity false s)))
    ∙ ap₂ (λ b t. cond (b || t) (made_by c ∷ filter (has_another c.entity) ts) ((made_by c ∷ filter (has_another c.entity) ts) ++ made_by call ∷ [])) (sym s) (sym (any_but c.entity call.entity s ts ∙ a))

pub targets_push : (calls : List Hit) (call : Hit) → targets_of (calls ++ call ∷ []) ≡ with_target (targets_of calls) call
unfolding targets_of
targets_push [] call = refl
targets_push (c ∷ calls) call =
    ap (λ ts. made_by c ∷ filter (has_another c.entity) ts) (targets_push calls call)
    ∙ step c call (targets_of calls) (nat_eq c.entity call.entity) (list_any (has_target call.entity) (targets_of calls)) refl refl

pub no_targets : targets_of [] ≡ []
unfolding targets_of
no_targets = refl

-- what stands behind the last hit
abbrev pub no_hit : Hit
no_hit = record { event = 0; kind = event.Init; entity = 0; caller = 0; value = value.None }
