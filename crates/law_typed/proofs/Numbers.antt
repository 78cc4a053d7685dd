-- The number of a statement that stands among the places of a program is one of its statements' numbers.
use Rattle.std.proofs.Common.{◌≡◌, ℕ, zero, suc, ◌+◌, ◌<◌, ◌≤◌, ◌==◌, Bool, true, false, refl, ◌∙◌, ap, List, [], ◌∷◌, length, Option, Some, arith, ◌&&◌, ◌||◌, cond}
use Rattle.std.specs.Prelude.{slice_index_or, nat_lt, count_by, find, unwrap_or}
use Rattle.std.specs.List.{Contains, AllByRecursion}
use Rattle.std.proofs.lemmas.List.Recursion.{is_count_by}
use Rattle.std.proofs.lemmas.Bool.Decides.{Decides-ltb}
use Rattle.wy_elab_body.specs.declared.place.Place.{Place}
use Rattle.wy_elab_body.specs.Places.{stands_before, order_of, number_at}
use Rattle.wy_elab_body.specs.Jumps.{Around, is_among, reach_of}
use Rattle.wy_kernel.specs.Program.{library_statements}

-- how many pass
tally : (Place → Bool) → List Place → ℕ
tally f [] = 0
tally f (x ∷ xs) = cond (f x) (1 + tally f xs) (tally f xs)

tally_is : (f : Place → Bool) (xs : List Place) → tally f xs ≡ count_by f xs
unfolding tally
tally_is f xs = is_count_by (tally f) f refl (λ x ys. refl) xs

tally_step : (n m : ℕ) (b : Bool) → n ≤ m → cond b (1 + n) n ≤ suc m
tally_step n m true h = omega arith
tally_step n m false h = omega arith

tally_all : (f : Place → Bool) (xs : List Place) → tally f xs ≤ length xs
unfolding tally
tally_all f [] = omega arith
tally_all f (x ∷ xs) = tally_step (tally f xs) (length xs) (f x) (tally_all f xs)

tally_less : (n m : ℕ) (b : Bool) → n < m → cond b (1 + n) n < suc m
tally_less n m true h = omega arith
tally_less n m false h = omega arith

tally_no : (n m : ℕ) (b : Bool) → b ≡ false → n ≤ m → cond b (1 + n) n < suc m
tally_no n m true e h = absurd (cc)
tally_no n m false e h = omega arith

-- fewer pass than there are, where one doesn't
tally_below : (f : Place → Bool) (xs : List Place) (k : ℕ) (x : Place) → k < length xs → slice_index_or xs k x ≡ x → f x ≡ false → tally f xs < length xs
unfolding tally
tally_below f [] k x lt is e = absurd (omega (arith, lt))
tally_below f (y ∷ ys) zero x lt is e = tally_no (tally f ys) (length ys) (f y) (ap f is ∙ e) (tally_all f ys)
tally_below f (y ∷ ys) (suc k) x lt is e = tally_less (tally f ys) (length ys) (f y) (tally_below f ys k x (omega (arith, lt)) is e)

lt_self : (n : ℕ) → nat_lt n n ≡ false
lt_self n = by (nat_lt n n) refl
  where
    by : (b : Bool) → nat_lt n n ≡ b → b ≡ false
    by true e = let lt : n < n = (Decides-ltb n n).0 e in absurd (omega (arith, lt))
    by false e = refl

not_before : (a b : Bool) (c : Bool) → a ≡ false → b ≡ false → a || c && b ≡ false
not_before false false true e f = refl
not_before false false false e f = refl
not_before true b c e f = absurd (cc)
not_before false true c e f = absurd (cc)

not_before_itself : (q : Place) → stands_before q q ≡ false
not_before_itself q = not_before (nat_lt q.site q.site) (nat_lt (order_of q.role) (order_of q.role)) (q.site == q.site) (lt_self q.site) (lt_self (order_of q.role))

pub number_below : (all : List Place) (q : Place) → Contains all q → number_at all q < library_statements + length all
unfolding number_at
number_below all q (k, lt, is) =
    let f : Place → Bool = λ x. stands_before x q in
    let h : tally f all < length all = tally_below f all k q lt is (not_before_itself q) in
    let e : tally f all ≡ count_by f all = tally_is f all in omega (arith, h, e)

-- ---- reaches

found_by : (P : ℕ → Type 0) (x own : ℕ) (more : Option ℕ) (b : Bool) → P x → P (unwrap_or more own) → P (unwrap_or (cond b (Some x) more) own)
found_by P x own more true h k = h
found_by P x own more false h k = k

found_among : (P : ℕ → Type 0) (f : ℕ → Bool) (xs : List ℕ) (own : ℕ) → AllByRecursion P xs → P own → P (unwrap_or (find f xs) own)
found_among P f [] own h k = k
found_among P f (x ∷ xs) own h k = found_by P x own (find f xs) (f x) h.0 (found_among P f xs own h.1 k)

-- a test reaches to the end of a statement that contains it, or of its own
pub reach_among : (P : ℕ → Type 0) (a : Around) (own : ℕ) (targets : List ℕ) → AllByRecursion P a.enclosing → P own → P (reach_of a own targets)
unfolding reach_of
reach_among P a own targets h k = found_among P (is_among targets) a.enclosing own h k
