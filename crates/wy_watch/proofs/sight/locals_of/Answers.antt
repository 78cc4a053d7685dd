use Rattle.std.proofs.Common.{◌≡◌, ◌∙◌, ◌<◌, ◌≤◌, ℕ, List, length, map, min, take, sym, ap, ⊎_elim, arith}
use Rattle.std.proofs.lemmas.Bool.{cases_lt}
use Rattle.std.proofs.lemmas.List.{take_all, take-map}
use Rattle.std.proofs.Math.Seq.{take-length}
use Rattle.wy_kernel.specs.View.{NONE, local_of}
use Rattle.wy_watch.proofs.sight.locals_of.Goals as goal

-- so many as there are, or as may be
cut : {X : Type 0} (xs : List X) (n k : ℕ) → k ≡ min (length xs) n → take k xs ≡ take n xs
cut xs n k is = ⊎_elim
    (λ (less : length xs < n). let all : k ≡ length xs = omega (arith, is, less) in ap (λ j. take j xs) all ∙ take-length xs ∙ sym (take_all n xs (omega (arith, less))))
    (λ (le : n ≤ length xs). let most : k ≡ n = omega (arith, is, le) in ap (λ j. take j xs) most)
    (cases_lt (length xs) n)

pub returns-in-Some-clause-locals : goal.returns-in-Some-clause-locals
returns-in-Some-clause-locals c =
    let all = c.in-Some.body.now.locals.items in
    let as_slice = c.deref.ensures.value in
    let least : c.min.result ≡ min (length all) NONE = omega (arith, c.min.ensures, c.len.ensures) in
    rw c.in-Some.is (ap (λ l. map local_of (take c.min.result l)) as_slice ∙ ap (map local_of) (cut all NONE c.min.result least) ∙ sym (take-map local_of NONE all))
