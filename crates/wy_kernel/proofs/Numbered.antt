-- What a search for a number finds: a statement of the list that has it, and one wherever the list has one.
use Rattle.std.proofs.Common.{◌≡◌, ℕ, zero, suc, ◌<◌, Bool, true, false, refl, sym, ap, ◌∙◌, subst, arith, List, [], ◌∷◌, ◌++◌, length, slice_index_or, slice_get, map, Option, Some, cond, Bor, find, Any, Contains}
use Rattle.std.specs.Prelude.{None as Absent, IsSome}
use Rattle.std.proofs.lemmas.Bool.{eqb-true, eq-eqb}
use Rattle.wy_kernel.specs.declared.form.Stmt.{Stmt}
use Rattle.wy_kernel.specs.Form.{Statement}
use Rattle.wy_kernel.specs.Statements.{number_of, has_number}
use Rattle.wy_kernel.specs.View.{statement}
use Rattle.wy_kernel.proofs.Found.{seen, found_before, found_behind}

the_same : (x y : Statement) → Some x ≡ Some y → x ≡ y
the_same x y e = cc

pub found_number : (n : ℕ) (xs : List Statement) (s : Statement) → find (has_number n) xs ≡ Some s → number_of s ≡ n
found_number n [] s e = absurd (cc)
found_number n (x ∷ xs) s e = go (has_number n x) refl e (found_number n xs s)
  where
    go : (b : Bool) → has_number n x ≡ b → cond b (Some x) (find (has_number n) xs) ≡ Some s → (find (has_number n) xs ≡ Some s → number_of s ≡ n) → number_of s ≡ n
    go true is f rest = subst (λ y. number_of y ≡ n) (the_same x s f) (eqb-true (number_of x) n is)
    go false is f rest = rest f

pub found_listed : (n : ℕ) (xs : List Statement) (s : Statement) → find (has_number n) xs ≡ Some s → Contains xs s
found_listed n [] s e = absurd (cc)
found_listed n (x ∷ xs) s e = go (has_number n x) e (found_listed n xs s)
  where
    go : (b : Bool) → cond b (Some x) (find (has_number n) xs) ≡ Some s → (find (has_number n) xs ≡ Some s → Contains xs s) → Contains (x ∷ xs) s
    go true f rest = (0, omega arith, the_same x s f)
    go false f rest = let r = rest f in (suc r.0, omega (arith, r.1), r.2)

not_absent : (n : ℕ) (xs : List Statement) (k : ℕ) (x : Statement) → k < length xs → slice_index_or xs k x ≡ x → number_of x ≡ n → find (has_number n) xs ≡ Absent → ⊥
not_absent n [] k x within is e none = absurd (omega (arith, within))
not_absent n (y ∷ ys) zero x within is e none = go (has_number n y) (eq-eqb (number_of y) n (ap number_of is ∙ e)) none
  where
    go : (b : Bool) → b ≡ true → cond b (Some y) (find (has_number n) ys) ≡ Absent → ⊥
    go true t f = absurd (cc)
    go false t f = absurd (cc)
not_absent n (y ∷ ys) (suc k) x within is e none = go (has_number n y) none (not_absent n ys k x (omega (arith, within)) is e)
  where
    go : (b : Bool) → cond b (Some y) (find (has_number n) ys) ≡ Absent → (find (has_number n) ys ≡ Absent → ⊥) → ⊥
    go true f rest = absurd (cc)
    go false f rest = rest f

module _ (n : ℕ) (xs ys : List Statement) where
  -- where the first list has none, the second has one
  pub is_there : (o r : Option (Bor Stmt)) → o ≡ Absent → seen o ≡ find (has_number n) xs → seen r ≡ find (has_number n) ys → Any (λ s. number_of s ≡ n) (xs ++ ys) → IsSome r
  is_there o (Some b) none e f a = refl
  is_there o Absent none e f a = absurd (not_absent n (xs ++ ys) a.0 a.1 a.2 a.3 a.4 (sym (found_behind (has_number n) xs ys o Absent none e f)))

  pub in_first : (o : Option (Bor Stmt)) (b : Bor Stmt) → o ≡ Some b → seen o ≡ find (has_number n) xs → find (has_number n) (xs ++ ys) ≡ Some (statement b.now)
  in_first o b is e = sym (found_before (has_number n) xs ys o b is e)

  pub in_second : (o r : Option (Bor Stmt)) (b : Bor Stmt) → o ≡ Absent → seen o ≡ find (has_number n) xs → r ≡ Some b → seen r ≡ find (has_number n) ys → find (has_number n) (xs ++ ys) ≡ Some (statement b.now)
  in_second o r b none e is f = sym (found_behind (has_number n) xs ys o (Some (statement b.now)) none e (ap seen (sym is) ∙ f))

-- a number of the list is that of a statement
pub has_statement : (n k : ℕ) (xs : List Statement) → slice_get (map number_of xs) k ≡ Some n → Any (λ s. number_of s ≡ n) xs
has_statement n k [] e = absurd (cc)
has_statement n zero (x ∷ xs) e = (0, x, omega arith, refl, cc)
has_statement n (suc k) (x ∷ xs) e = let r = has_statement n k xs e in (suc r.0, r.1, omega (arith, r.2), r.3, r.4)
