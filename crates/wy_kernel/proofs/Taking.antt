-- A list that takes the elements which it lacks, one after another, takes each of them.
use Rattle.std.proofs.Common.{◌≡◌, ℕ, zero, suc, ◌<◌, ◌≤◌, ◌+◌, Bool, true, false, ◌||◌, List, [], ◌∷◌, ◌++◌, length, append_assoc, append-nil, refl, sym, ◌∙◌, ap, subst, arith, ◌⊎◌, inl, inr, nat_eq, eq-eqb, rules, cond, Option, Some, Result, Ok, Err}
use Rattle.std.specs.Prelude.{None as Absent}
use Rattle.std.specs.Prelude.{OnOk}
use Rattle.std.specs.Option.{option_to_list}
use Rattle.std.specs.List.{Contains, IsDistinct, list_any}
use Rattle.std.specs.Cmp.{nat_eq_equiv}
use Rattle.std.proofs.lemmas.List.Elements.{Contains-append_left, Contains-append_right, Contains-append_cases}
use Rattle.std.proofs.lemmas.Map.Keys.{IsDistinct-push}
use Rattle.wy_kernel.specs.Rows.{TakesEach}
use Rattle.wy_kernel.specs.View.{NONE, present}
use Rattle.wy_kernel.proofs.Supertypes.{contained}

none_in : {A : Type 0} (x : ℕ) → Contains [] x → A
none_in x (k, lt, e) = absurd (omega arith)

-- what an equal list takes
pub takes_none : (xs ys : List ℕ) → ys ≡ xs → TakesEach xs [] ys
takes_none xs ys e =
    let P : List ℕ → Type 0 = λ w. TakesEach xs [] w in
    subst P (sym e) (record { front = ([], sym (append-nil xs)); only = λ x h. inl h; each = λ x h. none_in x h; once = λ d. d })

one_in : (x y : ℕ) → Contains (y ∷ []) x → y ≡ x
one_in x y (zero, lt, e) = e
one_in x y (suc k, lt, e) = absurd (omega arith)

flipped : (x : ℕ) (xs : List ℕ) → list_any (nat_eq x) xs ≡ list_any (λ y. nat_eq y x) xs
flipped x [] = refl
flipped x (y ∷ ys) =
    let e : nat_eq x y ≡ nat_eq y x = grind arith in
    ap (λ b. b || list_any (nat_eq x) ys) e ∙ ap (λ b. nat_eq y x || b) (flipped x ys)

pub takes_known : (xs ys : List ℕ) (x : ℕ) → list_any (λ y. nat_eq y x) xs ≡ true → ys ≡ xs → TakesEach xs (x ∷ []) ys
takes_known xs ys x known e =
    let P : List ℕ → Type 0 = λ w. TakesEach xs (x ∷ []) w in
    let Q : ℕ → Type 0 = λ y. Contains xs y in
    subst P (sym e) (record {
      front = ([], sym (append-nil xs));
      only = λ y h. inl h;
      each = λ y h. subst Q (one_in y x h) (contained x xs (flipped x xs ∙ known));
      once = λ d. d;
    })

pub takes_new : (xs ys : List ℕ) (x : ℕ) → list_any (λ y. nat_eq y x) xs ≡ false → ys ≡ xs ++ x ∷ [] → TakesEach xs (x ∷ []) ys
takes_new xs ys x fresh e =
    let P : List ℕ → Type 0 = λ w. TakesEach xs (x ∷ []) w in
    subst P (sym e) (record {
      front = (x ∷ [], refl);
      only = λ y h. Contains-append_cases xs (x ∷ []) y h;
      each = λ y h. Contains-append_right xs (x ∷ []) y h;
      once = λ d. IsDistinct-push nat_eq_equiv xs x d (flipped x xs ∙ fresh);
    })

kept : (xs ys : List ℕ) (more : List ℕ) (x : ℕ) → TakesEach xs more ys → Contains xs x → Contains ys x
kept xs ys more x t h = let P : List ℕ → Type 0 = λ w. Contains w x in subst P (sym t.front.1) (Contains-append_left xs t.front.0 x h)

pub takes_both : (xs ys zs ds es fs : List ℕ) → TakesEach xs ds ys → TakesEach ys es zs → fs ≡ ds ++ es → TakesEach xs fs zs
takes_both xs ys zs ds es fs a b is =
    let P : List ℕ → Type 0 = λ w. TakesEach xs w zs in
    let all : zs ≡ xs ++ (a.front.0 ++ b.front.0) = b.front.1 ∙ ap (λ w. w ++ b.front.0) a.front.1 ∙ append_assoc xs a.front.0 b.front.0 in
    let only : (x : ℕ) → Contains zs x → Contains xs x ⊎ Contains (ds ++ es) x =
    λ x h. elim (b.only x h) [
      | inl y ↦ elim (a.only x y) [ inl z ↦ inl z | inr z ↦ inr (Contains-append_left ds es x z) ]
      | inr y ↦ inr (Contains-append_right ds es x y)
    ] in
    let each : (x : ℕ) → Contains (ds ++ es) x → Contains zs x =
    λ x h. elim (Contains-append_cases ds es x h) [ inl y ↦ kept ys zs es x b (a.each x y) | inr y ↦ b.each x y ] in
    subst P (sym is) (record { front = (a.front.0 ++ b.front.0, all); only = only; each = each; once = λ d. b.once (a.once d) })

-- ---- a superclass that may be absent

pub takes_present : (xs ys : List ℕ) (n : ℕ) → (n ≡ NONE → ⊥) → TakesEach xs (n ∷ []) ys → TakesEach xs (option_to_list (present n)) ys
unfolding present
takes_present xs ys n some t =
    let differs : nat_eq n NONE ≡ false = search rules in
    let P : Bool → Type 0 = λ b. TakesEach xs (option_to_list (cond b Absent (Some n))) ys in subst P (sym differs) t

pub takes_absent : (xs ys : List ℕ) (n : ℕ) → n ≡ NONE → ys ≡ xs → TakesEach xs (option_to_list (present n)) ys
unfolding present
takes_absent xs ys n none e =
    let P : Bool → Type 0 = λ b. TakesEach xs (option_to_list (cond b Absent (Some n))) ys in subst P (sym (eq-eqb n NONE none)) (takes_none xs ys e)

pub if_ok : {A E P Q : Type 0} (r : Result A E) → (P → Q) → OnOk r P → OnOk r Q
if_ok (Ok a) f p = f p
if_ok (Err e) f p = p
