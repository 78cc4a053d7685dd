-- Numbers of names, as names are numbered one after another.
use Rattle.std.proofs.Common.{◌≡◌, ℕ, ◌+◌, Bool, true, false, cond, List, [], ◌∷◌, ◌++◌, length, Option, Some, None, refl, sym, ◌∙◌, ap, subst, arith, ◌≤◌, add-zero}
use Rattle.std.specs.Prelude.{is_some, nat_lt, ◌<◌, IfSome}
use Rattle.std.specs.Str.{bytes_eq}
use Rattle.std.specs.List.{position, position_from, position_or_len}
use Rattle.std.proofs.lemmas.Bool.Decides.{nat_tests}
use Rattle.std.specs.Map.{update}
use Rattle.std.proofs.lemmas.Slice.Eq.{bytes_eq-Decides}
use Rattle.wy_table.specs.Names.{numbered_also}
use Rattle.wy_table.proofs.FirstNumbers.{absent, not_also}
use Rattle.wy_members.specs.Numbers.{numbered_all}

same_names : (a b : List ℕ) → bytes_eq a b ≡ true → a ≡ b
same_names a b e = (bytes_eq-Decides a b).0 e

pub bytes_eq_sym : (a b : List ℕ) → bytes_eq a b ≡ bytes_eq b a
bytes_eq_sym a b = let ab = bytes_eq-Decides a b in let ba = bytes_eq-Decides b a in
    by_cases (bytes_eq a b) (bytes_eq b a) (λ e. ba.1 (sym (ab.0 e))) (λ e. ab.1 (sym (ba.0 e)))
  where
    by_cases : (p q : Bool) → (p ≡ true → q ≡ true) → (q ≡ true → p ≡ true) → p ≡ q
    by_cases true q f g = sym (f refl)
    by_cases false true f g = g refl
    by_cases false false f g = refl

updated : (f : List ℕ → Option ℕ) (name q : List ℕ) (next : ℕ) (b : Bool) → bytes_eq name q ≡ b → f name ≡ None → cond b (Some next) (f q) ≡ numbered_also (f q) b next
updated f name q next true e none = sym (ap (λ o. numbered_also o true next) (ap f (sym (same_names name q e)) ∙ none))
updated f name q next false e none = not_also (f q) next

pub numbered_update : (f : List ℕ → Option ℕ) (name q : List ℕ) (next : ℕ) → f name ≡ None → update bytes_eq f name (Some next) q ≡ numbered_also (f q) (bytes_eq q name) next
numbered_update f name q next none = updated f name q next (bytes_eq name q) refl none ∙ ap (λ b. numbered_also (f q) b next) (bytes_eq_sym name q)

all_numbered : (name : List ℕ) (n next : ℕ) (names : List (List ℕ)) → numbered_all name (Some n) next names ≡ Some n
all_numbered name n next [] = refl
all_numbered name n next (x ∷ rest) = all_numbered name n (next + 1) rest

-- names that are numbered in turn have the numbers of their first places
pub numbered_by_place : (name : List ℕ) (next : ℕ) (names : List (List ℕ)) → numbered_all name None next names ≡ position_from (bytes_eq name) next names
numbered_by_place name next [] = refl
numbered_by_place name next (x ∷ rest) = step (bytes_eq name x) (numbered_by_place name (next + 1) rest)
  where
    step : (b : Bool) → numbered_all name None (next + 1) rest ≡ position_from (bytes_eq name) (next + 1) rest →
        numbered_all name (numbered_also None b next) (next + 1) rest ≡ cond b (Some next) (position_from (bytes_eq name) (next + 1) rest)
    step true e = all_numbered name next (next + 1) rest
    step false e = e

pub numbered_behind : (name : List ℕ) (number : Option ℕ) (next : ℕ) (front back : List (List ℕ)) →
    numbered_all name (numbered_all name number next front) (next + length front) back ≡ numbered_all name number next (front ++ back)
numbered_behind name number next [] back = ap (λ n. numbered_all name number n back) (add-zero next)
numbered_behind name number next (x ∷ front) back =
    let o = numbered_also number (bytes_eq name x) next in
    ap (λ n. numbered_all name (numbered_all name o (next + 1) front) n back) (omega arith) ∙ numbered_behind name o (next + 1) front back

-- those of two lists, the second behind the first
pub numbered_whole : (name : List ℕ) (at_first front_number number : Option ℕ) (front back : List (List ℕ)) (many : ℕ) → at_first ≡ None → many ≡ length front →
    front_number ≡ numbered_all name at_first 0 front → number ≡ numbered_all name front_number many back → number ≡ position_from (bytes_eq name) 0 (front ++ back)
numbered_whole name at_first front_number number front back many nothing length_is first second =
    second
    ∙ ap (λ o. numbered_all name o many back) (first ∙ ap (λ o. numbered_all name o 0 front) nothing)
    ∙ ap (λ n. numbered_all name (numbered_all name None 0 front) n back) (length_is ∙ omega arith)
    ∙ numbered_behind name None 0 front back
    ∙ numbered_by_place name 0 (front ++ back)

-- a first place is below the number of elements
pub position_below : (p : List ℕ → Bool) (xs : List (List ℕ)) (many : ℕ) (o : Option ℕ) → length xs ≤ many → o ≡ position p xs → IfSome o (λ k. k < many)
position_below p xs many o few e = subst (λ r. IfSome r (λ k. k < many)) (sym e) (at (position_or_len p xs) (nat_lt (position_or_len p xs) (length xs)) refl)
  where
    at : (k : ℕ) (b : Bool) → nat_lt k (length xs) ≡ b → IfSome (cond b (Some k) None) (λ n. n < many)
    at k true less = let h = less in grind (arith, nat_tests)
    at k false less = tt
