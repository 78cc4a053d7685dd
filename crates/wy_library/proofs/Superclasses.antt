-- The constructors of the classes below Throwable, one class after another.
use Rattle.std.proofs.Common.{◌≡◌, ap, sym, ◌∙◌, ℕ, ◌+◌, ◌<◌, ◌≤◌, List, [], ◌∷◌, ◌++◌, length, get_or, drop, drop-cons, add-one, append_assoc, refl, arith}
use Rattle.std.specs.Prelude.{Option, flat_map}
use Rattle.std.proofs.Math.ListN.{drop_of_length-le}
use Rattle.std.proofs.lemmas.List.{append-nil}
use Rattle.wy_kernel.specs.Program.{Body}
use Rattle.wy_kernel.specs.Builtin as builtin
use Rattle.wy_library.specs.Library.{constructors_below, constructors_from, constructors_of, below_throwable}

abbrev pub superclasses : List ℕ
superclasses = 2 ∷ 2 ∷ 3 ∷ 5 ∷ 5 ∷ 5 ∷ 5 ∷ 9 ∷ 5 ∷ 5 ∷ 12 ∷ 12 ∷ 5 ∷ 5 ∷ 5 ∷ []

pub by_superclasses : constructors_from 3 superclasses ≡ flat_map constructors_of below_throwable
unfolding constructors_from builtin.classes
by_superclasses = refl

unrolled : (c d : ℕ) (rest : List ℕ) → constructors_from c (d ∷ rest) ≡ constructors_below c d ++ constructors_from (c + 1) rest
unfolding constructors_from
unrolled c d rest = refl

-- one class more; xs are the superclasses
pub next_class : (xs : List ℕ) (i : ℕ) (front after r : List (Option Body)) → i < length xs → after ≡ front ++ constructors_below (3 + i) (get_or xs i 0) →
    front ++ constructors_from (3 + i) (drop i xs) ≡ r → after ++ constructors_from (3 + (i + 1)) (drop (i + 1) xs) ≡ r
next_class xs i front after r less puts known =
    let d = get_or xs i 0 in
    let number : 3 + (i + 1) ≡ 3 + i + 1 = omega arith in
    ap (λ n. after ++ constructors_from n (drop (i + 1) xs)) number
    ∙ ap (λ z. z ++ constructors_from (3 + i + 1) (drop (i + 1) xs)) puts
    ∙ append_assoc front (constructors_below (3 + i) d) (constructors_from (3 + i + 1) (drop (i + 1) xs))
    ∙ ap (λ z. front ++ z) (sym (unrolled (3 + i) d (drop (i + 1) xs)))
    ∙ ap (λ k. front ++ constructors_from (3 + i) (d ∷ drop k xs)) (add-one i)
    ∙ ap (λ z. front ++ constructors_from (3 + i) z) (sym (drop-cons xs i 0 less))
    ∙ known

pub all_classes : (xs : List ℕ) (i : ℕ) (all r : List (Option Body)) → length xs ≤ i → all ++ constructors_from (3 + i) (drop i xs) ≡ r → all ≡ r
unfolding constructors_from
all_classes xs i all r done known = sym (ap (λ z. all ++ constructors_from (3 + i) z) (drop_of_length-le xs done) ∙ append-nil all) ∙ known
