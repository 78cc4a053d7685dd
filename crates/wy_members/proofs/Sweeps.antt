-- What is known of fields grows by what follows from it, up to all constant variables.
use Rattle.std.proofs.Common.{◌≡◌, ℕ, zero, suc, ◌+◌, ◌<◌, ◌≤◌, Bool, true, false, cond, List, [], ◌∷◌, Option, Some, None, refl, sym, ◌∙◌, ap, subst, length, arith, ◌↔◌, ◌⊎◌, inl, inr, below_more}
use Rattle.std.specs.Prelude.{slice_get, slice_set, is_some, MatchBool}
use Rattle.std.proofs.lemmas.Bool.{cases_lt}
use Rattle.std.proofs.lemmas.Option.{slice_get_past}
use Rattle.wy_syntax.specs.Syntax.{Expression}
use Rattle.wy_kernel.specs.Table.{Table, ConstantValue}
use Rattle.wy_constant.specs.Fields.{the, field_constant}
use Rattle.wy_members.specs.Constants.{with_constants, without_constants, told, initial_value_of, IsConstant, by_initializer}
use Rattle.wy_members.specs.Sweep.{AreConstants, news, IsFinished, unknown, GoesOn}
use Rattle.wy_members.proofs.Least.{IsClosed, has_all, one_value}

-- a new value belongs to a field that has none, and is told
new_is_unknown : (o told : Option ConstantValue) (v : ConstantValue) → cond (is_some o) None told ≡ Some v → o ≡ None
new_is_unknown None told v e = refl
new_is_unknown (Some w) told v e = cc

new_is_told : (o told : Option ConstantValue) (v : ConstantValue) → cond (is_some o) None told ≡ Some v → told ≡ Some v
new_is_told None told v e = e
new_is_told (Some w) told v e = cc

unknown_less : (xs : List (Option ConstantValue)) (k : ℕ) (v : ConstantValue) → k < length xs → the (slice_get xs k) ≡ None → unknown (slice_set xs k (Some v)) < unknown xs
unknown_less [] k v lt e = absurd (omega arith)
unknown_less (None ∷ xs) zero v lt e = omega arith
unknown_less (Some w ∷ xs) zero v lt e = absurd (cc)
unknown_less (None ∷ xs) (suc k) v lt e = let h = unknown_less xs k v (omega arith) e in omega arith
unknown_less (Some w ∷ xs) (suc k) v lt e = unknown_less xs k v (omega arith) e

pub learned_less : (t : Table) (all : List (Option Expression)) (k : ℕ) (v : ConstantValue) → news t all k ≡ Some v → k < length t.constants → unknown (slice_set t.constants k (Some v)) < unknown t.constants
learned_less t all k v e lt = unknown_less t.constants k v lt (new_is_unknown (field_constant t k) (told t all k) v e)

-- a place of the list after a write has what was written, or is another and has what it had
written_or_old : (xs : List (Option ConstantValue)) (k j : ℕ) (x y : Option ConstantValue) → slice_get (slice_set xs k x) j ≡ Some y → ((j ≡ k) × (x ≡ y)) ⊎ (slice_get xs j ≡ Some y)
written_or_old [] k j x y e = inr e
written_or_old (a ∷ xs) zero zero x y e = inl (refl, cc)
written_or_old (a ∷ xs) zero (suc j) x y e = inr e
written_or_old (a ∷ xs) (suc k) zero x y e = inr e
written_or_old (a ∷ xs) (suc k) (suc j) x y e = elim (written_or_old xs k j x y e) [ inl h ↦ inl (ap suc h.0, h.1) | inr h ↦ inr h ]

learned_sound : (t : Table) (all : List (Option Expression)) (k : ℕ) (v : ConstantValue) → news t all k ≡ Some v → AreConstants t all → AreConstants (with_constants t (slice_set t.constants k (Some v))) all
learned_sound t all k v e sound j w h =
    let rows = without_constants t in
    let here : IsConstant rows all k v = by_initializer t.constants sound (new_is_told (field_constant t k) (told t all k) v e) in
    elim (written_or_old t.constants k j (Some v) (Some w) h) [
      | inl s ↦ at (sym s.0) (some_same s.1) here
      | inr old ↦ sound j w old
    ]
  where
    some_same : {a b : ConstantValue} → Some a ≡ Some b → a ≡ b
    some_same p = cc

    at : {i : ℕ} {x : ConstantValue} → k ≡ i → v ≡ x → IsConstant (without_constants t) all k v → IsConstant (without_constants t) all i x
    at {i} {x} p q c = let P : ℕ → Type 0 = λ n. IsConstant (without_constants t) all n x in let Q : ConstantValue → Type 0 = λ y. IsConstant (without_constants t) all k y in subst P p (subst Q q c)

pub learned : (t new : Table) (all : List (Option Expression)) (k : ℕ) (v : ConstantValue) → news t all k ≡ Some v → new ≡ with_constants t (slice_set t.constants k (Some v)) → GoesOn all t new
learned t new all k v e is = let P : Table → Type 0 = λ x. GoesOn all t x in subst P (sym is) (record { rows = refl; constants = learned_sound t all k v e })

pub goes_on_itself : (all : List (Option Expression)) (t : Table) → GoesOn all t t
goes_on_itself all t = record { rows = refl; constants = λ h. h }

pub goes_on : (all : List (Option Expression)) (t u v : Table) → GoesOn all t u → GoesOn all u v → GoesOn all t v
goes_on all t u v g h = record { rows = h.rows ∙ g.rows; constants = λ c. h.constants (g.constants c) }

-- ---- the end

the_some : (o : Option (Option ConstantValue)) (v : ConstantValue) → the o ≡ Some v → o ≡ Some (Some v)
the_some (Some c) v e = ap Some e
the_some None v e = cc

closed : (t : Table) (all : List (Option Expression)) → AreConstants t all → IsFinished t all → IsClosed (without_constants t) all t.constants
closed t all sound finished k v e = by_known (field_constant t k) refl (finished k)
  where
    by_known : (o : Option ConstantValue) → field_constant t k ≡ o → cond (is_some o) None (told t all k) ≡ None → slice_get t.constants k ≡ Some (Some v)
    by_known None g none = absurd (cc)
    by_known (Some w) g none =
        let here : slice_get t.constants k ≡ Some (Some w) = the_some (slice_get t.constants k) w g in
        let same : w ≡ v = one_value (without_constants t) all (sound k w here) v (by_initializer t.constants sound e) in
        here ∙ ap (λ x. Some (Some x)) same

-- a finished table with constants alone has exactly the constant variables
pub exact : (t : Table) (all : List (Option Expression)) → AreConstants t all → IsFinished t all → (k : ℕ) (v : ConstantValue) → (slice_get t.constants k ≡ Some (Some v)) ↔ IsConstant (without_constants t) all k v
exact t all sound finished k v = (sound k v, λ c. has_all (without_constants t) all t.constants (closed t all sound finished) c)

-- ---- one sweep

-- after the fields below a number: a value was found, or the table is as far as before and nothing follows for any of them
pub record Swept (all : List (Option Expression)) (old now : Table) (found : Bool) (below : ℕ) : Type 0 where
  pub goes_on : GoesOn all old now
  pub result : MatchBool found (unknown now.constants < unknown old.constants) ((unknown now.constants ≡ unknown old.constants) × ((j : ℕ) → j < below → news now all j ≡ None))

pub swept_further : (all : List (Option Expression)) (old now next : Table) (found after : Bool) (k : ℕ) → Swept all old now found k → news now all k ≡ None → next ≡ now → after ≡ found → Swept all old next after (k + 1)
swept_further all old now next found after k h none same_table same =
    let P : Table → Type 0 = λ t. Swept all old t after (k + 1) in
    let Q : Bool → Type 0 = λ b. Swept all old now b (k + 1) in
    subst P (sym same_table) (subst Q (sym same) (record { goes_on = h.goes_on; result = by found h.result }))
  where
    by : (b : Bool) → MatchBool b (unknown now.constants < unknown old.constants) ((unknown now.constants ≡ unknown old.constants) × ((j : ℕ) → j < k → news now all j ≡ None)) →
        MatchBool b (unknown now.constants < unknown old.constants) ((unknown now.constants ≡ unknown old.constants) × ((j : ℕ) → j < k + 1 → news now all j ≡ None))
    by true g = g
    by false g = (g.0, below_more _ _ g.1 none)

pub swept_new : (all : List (Option Expression)) (old now next : Table) (found after : Bool) (k : ℕ) (v : ConstantValue) → Swept all old now found k → news now all k ≡ Some v → k < length now.constants →
    next ≡ with_constants now (slice_set now.constants k (Some v)) → after ≡ true → Swept all old next after (k + 1)
swept_new all old now next found after k v h new lt is same =
    let less : unknown (slice_set now.constants k (Some v)) < unknown now.constants = learned_less now all k v new lt in
    let fewer : unknown next.constants < unknown old.constants = ap_less (ap (λ (t : Table). unknown t.constants) is) less (by found h.result) in
    let Q : Bool → Type 0 = λ b. Swept all old next b (k + 1) in
    subst Q (sym same) (record { goes_on = goes_on all old now next h.goes_on (learned now next all k v new is); result = fewer })
  where
    by : (b : Bool) → MatchBool b (unknown now.constants < unknown old.constants) ((unknown now.constants ≡ unknown old.constants) × ((j : ℕ) → j < k → news now all j ≡ None)) → unknown now.constants ≤ unknown old.constants
    by true g = omega arith
    by false g = let e = g.0 in omega arith

    ap_less : {a b c d : ℕ} → a ≡ b → b < c → c ≤ d → a < d
    ap_less e l m = omega arith

no_news_past : (t : Table) (all : List (Option Expression)) (k : ℕ) → length t.fields ≤ k → news t all k ≡ None
no_news_past t all k past = none (is_some (field_constant t k)) (ap (λ f. initial_value_of t f (slice_get all k)) (slice_get_past t.fields k past))
  where
    none : (b : Bool) → told t all k ≡ None → cond b None (told t all k) ≡ None
    none true e = refl
    none false e = e

pub swept_all : (all : List (Option Expression)) (old now : Table) (found : Bool) (k many : ℕ) → Swept all old now found k → many ≤ k → many ≡ length old.fields →
    MatchBool found (unknown now.constants < unknown old.constants) (IsFinished now all)
swept_all all old now found k many h end is = by found h.result
  where
    by : (b : Bool) → MatchBool b (unknown now.constants < unknown old.constants) ((unknown now.constants ≡ unknown old.constants) × ((j : ℕ) → j < k → news now all j ≡ None)) →
        MatchBool b (unknown now.constants < unknown old.constants) (IsFinished now all)
    by true g = g
    by false g = λ j. (let same : length now.fields ≡ length old.fields = ap (λ (t : Table). length t.fields) h.goes_on.rows in
        elim (cases_lt j k) [ inl lt ↦ g.1 j lt | inr le ↦ no_news_past now all j (omega arith) ])
