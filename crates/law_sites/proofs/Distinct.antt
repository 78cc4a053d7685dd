-- What the list of a program's choices has no more often than its text has signs, it has once.
use Rattle.std.proofs.Common.{◌≡◌, arith, ℕ, ◌+◌, ◌≤◌, cond, false, ◌==◌, List, [], ◌∷◌, Ok}
use Rattle.std.specs.Prelude.{nat_eq}
use Rattle.std.specs.List.{IsDistinct, AllByRecursion}
use Rattle.std.proofs.lemmas.Bool.Decides.{nat_tests}
use Rattle.wy_tree.specs.Ast.{Ast}
use Rattle.wy_tree.specs.Grammar.{WellFormed}
use Rattle.wy_kernel.specs.Program.{Program}
use Rattle.wy_syntax.specs.Declarations.{unit}
use Rattle.wy_elab_stmt.specs.Elaborates.{Elaborates}
use Rattle.law_structure.proofs.Elaborated.{made_from}
use Rattle.law_structure.proofs.Productions.{unit_full}
use Rattle.law_sites.specs.Choices.{choice_sites, ChoicesStandApart}
use Rattle.law_sites.proofs.Fewer.{times}
use Rattle.law_sites.proofs.FewPrograms.{program_few}
use Rattle.law_sites.proofs.Rising.{each_once}
use Rattle.law_sites.proofs.RisingClasses.{unit_rises}

none_alike : (x y t : ℕ) → cond (y == x) 1 0 + t ≡ 0 → (nat_eq x y ≡ false) × (t ≡ 0)
none_alike x y t h = (grind (arith, nat_tests), grind (arith, nat_tests))

all_other : (x : ℕ) (ys : List ℕ) → times x ys ≡ 0 → AllByRecursion (λ y. nat_eq x y ≡ false) ys
all_other x [] h = tt
all_other x (y ∷ ys) h = let parts = none_alike x y (times x ys) h in (parts.0, all_other x ys parts.1)

none_left : (x t : ℕ) → cond (x == x) 1 0 + t ≤ 1 → t ≡ 0
none_left x t h = grind (arith, nat_tests)

no_more_left : (x n t : ℕ) → cond (x == n) 1 0 + t ≤ 1 → t ≤ 1
no_more_left x n t h = grind (arith, nat_tests)

pub distinct : (xs : List ℕ) → ((n : ℕ) → times n xs ≤ 1) → IsDistinct nat_eq xs
unfolding IsDistinct
distinct [] h = tt
distinct (x ∷ xs) h = (all_other x xs (none_left x (times x xs) (h x)), distinct xs (λ n. no_more_left x n (times n xs) (h n)))

no_more : (x y : ℕ) → x ≤ y → y ≤ 1 → x ≤ 1
no_more x y h i = omega arith

pub choices_stand_apart : (tree : Ast) → WellFormed tree → (count : ℕ) (p : Program) → Elaborates (unit 0 tree) count (Ok p) → ChoicesStandApart p
choices_stand_apart tree well count p h =
    let few = program_few (unit 0 tree) p (made_from (unit 0 tree) count p h) in
    distinct (choice_sites p) (λ n. no_more (times n (choice_sites p)) _ (few.by n) (each_once (unit_rises 0 tree (unit_full tree well)) n))
