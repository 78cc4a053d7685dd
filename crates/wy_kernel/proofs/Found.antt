-- A search through statements and those within them, one after another.
use Rattle.std.proofs.Common.{◌≡◌, ℕ, suc, ◌+◌, ◌<◌, Bool, refl, sym, ap, ◌∙◌, List, ◌++◌, ◌∷◌, length, map, drop, get_or, Option, Some, cond, Bor, find, add-one, drop-cons}
use Rattle.std.specs.Prelude.{None as Absent}
use Rattle.std.specs.Prelude.{option_map}
use Rattle.std.specs.List.{flat_map}
use Rattle.std.specs.Option.{option_or}
use Rattle.std.proofs.lemmas.List.Folds.{find-append}
use Rattle.std.proofs.lemmas.Bool.{eq-eqb, ne_eqb}
use Rattle.wy_kernel.specs.declared.form.Stmt.{Stmt}
use Rattle.wy_kernel.specs.declared.form.Body.{Body}
use Rattle.wy_kernel.specs.Form as plain
use Rattle.wy_kernel.specs.Statements.{has_number, statements, statements_within, statements_of_body, statements_of_bodies}
use Rattle.wy_kernel.specs.View.{act, body_of, statement}
use Rattle.wy_kernel.proofs.Views.{view_statement}

abbrev pub seen : Option (Bor Stmt) → Option plain.Statement
seen o = option_map (λ (b : Bor Stmt). statement b.now) o

-- what was found in the first list is what is found in both
pub found_before : (p : plain.Statement → Bool) (xs ys : List plain.Statement) (o : Option (Bor Stmt)) (b : Bor Stmt) → o ≡ Some b → seen o ≡ find p xs → Some (statement b.now) ≡ find p (xs ++ ys)
found_before p xs ys o b is e = sym (find-append p xs ys ∙ ap (λ f. option_or f (find p ys)) (sym e ∙ ap seen is))

-- where nothing was found in the first list, it is what is found in the second
pub found_behind : (p : plain.Statement → Bool) (xs ys : List plain.Statement) (o : Option (Bor Stmt)) (r : Option plain.Statement) → o ≡ Absent → seen o ≡ find p xs → r ≡ find p ys → r ≡ find p (xs ++ ys)
found_behind p xs ys o r is e f = f ∙ sym (find-append p xs ys ∙ ap (λ g. option_or g (find p ys)) (sym e ∙ ap seen is))

pub found_here : (s : Stmt) (n : ℕ) → s.number ≡ n → Some (statement s) ≡ find (has_number n) (statements (statement s))
found_here s n e = ap Some (view_statement s) ∙ sym (ap (λ x. find (has_number n) (statements x)) (view_statement s) ∙ ap (λ b. cond b (Some (plain.Stmt s.number s.site s.askable s.reach (act s.form))) (find (has_number n) (statements_within (act s.form)))) (eq-eqb s.number n e))

pub found_within : (s : Stmt) (n : ℕ) (r : Option plain.Statement) → (s.number ≡ n → ⊥) → r ≡ find (has_number n) (statements_within (act s.form)) → r ≡ find (has_number n) (statements (statement s))
found_within s n r e f = f ∙ sym (ap (λ x. find (has_number n) (statements x)) (view_statement s) ∙ ap (λ b. cond b (Some (plain.Stmt s.number s.site s.askable s.reach (act s.form))) (find (has_number n) (statements_within (act s.form)))) (ne_eqb s.number n e))

-- what was found in the first of those that are left, which have the answer, is the answer
module _ (p : plain.Statement → Bool) (within : List plain.Statement) (left rest : List plain.Statement) (s : plain.Statement) (first : left ≡ s ∷ rest) (has : find p within ≡ find p (flat_map statements left)) where
  pub found_in_first : (o : Option (Bor Stmt)) (b : Bor Stmt) → o ≡ Some b → seen o ≡ find p (statements s) → Some (statement b.now) ≡ find p within
  found_in_first o b there e = found_before p (statements s) (flat_map statements rest) o b there e ∙ sym (has ∙ ap (λ l. find p (flat_map statements l)) first)

  -- where it was not, the others have the answer
  pub others_have : (o : Option (Bor Stmt)) → o ≡ Absent → seen o ≡ find p (statements s) → find p within ≡ find p (flat_map statements rest)
  others_have o none e = has ∙ ap (λ l. find p (flat_map statements l)) first ∙ sym (found_behind p (statements s) (flat_map statements rest) o (find p (flat_map statements rest)) none e refl)

module _ {X : Type 0} (p : plain.Statement → Bool) (first : X → List plain.Statement) (all : List X → List plain.Statement) (more : (x : X) (rest : List X) → all (x ∷ rest) ≡ first x ++ all rest) where
  left_at : (xs : List X) (i : ℕ) (x : X) → i < length xs → x ≡ get_or xs i x → find p (all xs) ≡ find p (all (drop i xs)) → find p (all xs) ≡ find p (first x ++ all (drop (i + 1) xs))
  left_at xs i x within is e =
      e ∙ ap (λ l. find p (all l)) (drop-cons xs i x within ∙ ap (λ y. y ∷ drop (suc i) xs) (sym is)) ∙ ap (find p) (more x (drop (suc i) xs)) ∙ ap (λ k. find p (first x ++ all (drop k xs))) (sym (add-one i))

  -- what was found in the part at an index
  pub found_at : (xs : List X) (i : ℕ) (x : X) (o : Option (Bor Stmt)) (b : Bor Stmt) → i < length xs → x ≡ get_or xs i x → find p (all xs) ≡ find p (all (drop i xs)) → o ≡ Some b → seen o ≡ find p (first x) → Some (statement b.now) ≡ find p (all xs)
  found_at xs i x o b within is e there f = found_before p (first x) (all (drop (i + 1) xs)) o b there f ∙ sym (left_at xs i x within is e)

  -- nothing was found there
  pub go_on : (xs : List X) (i : ℕ) (x : X) (o : Option (Bor Stmt)) → i < length xs → x ≡ get_or xs i x → find p (all xs) ≡ find p (all (drop i xs)) → o ≡ Absent → seen o ≡ find p (first x) → find p (all xs) ≡ find p (all (drop (i + 1) xs))
  go_on xs i x o within is e there f = left_at xs i x within is e ∙ sym (found_behind p (first x) (all (drop (i + 1) xs)) o (find p (all (drop (i + 1) xs))) there f refl)

abbrev pub of_bodies : List (Option Body) → List plain.Statement
of_bodies xs = statements_of_bodies (map (option_map body_of) xs)

pub more_bodies : (b : Option Body) (rest : List (Option Body)) → of_bodies (b ∷ rest) ≡ statements_of_body (option_map body_of b) ++ of_bodies rest
more_bodies b rest = refl
