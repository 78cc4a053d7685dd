-- Methods by their numbers, in loops over a list of them.
use Rattle.std.proofs.Common.{◌≡◌, ℕ, ◌<◌, ◌≤◌, ◌+◌, List, length, get_or, Some, sym, ◌∙◌, ap, subst, arith, below_more}
use Rattle.std.specs.Prelude.{slice_get}
use Rattle.std.specs.List.{Contains}
use Rattle.std.proofs.lemmas.List.Elements.{Contains-get_or}
use Rattle.std.proofs.lemmas.Option.{slice_get-get_or}
use Rattle.wy_kernel.specs.Program.{Method}
use Rattle.wy_kernel.specs.Table.{Table}
use Rattle.wy_overloads.specs.Choice.{IsMethod}
use Rattle.wy_overloads.proofs.Members.{same_method as one_method}

-- it holds of each method that stands in the list before a place
abbrev pub EachBefore : Table → List ℕ → ℕ → (ℕ → Method → Type 0) → Type 0
EachBefore t numbers n P = (i : ℕ) → i < n → (m : Method) → IsMethod t (get_or numbers i 0) m → P (get_or numbers i 0) m

pub one_listed : (t : Table) (numbers : List ℕ) (n : ℕ) (P : ℕ → Method → Type 0) (m : Method) → IsMethod t (get_or numbers n 0) m → EachBefore t numbers n P → P (get_or numbers n 0) m → EachBefore t numbers (n + 1) P
one_listed t numbers n P m there before here =
    below_more (λ i. (x : Method) → IsMethod t (get_or numbers i 0) x → P (get_or numbers i 0) x) n before
    (λ x e. (let R : Method → Type 0 = λ y. P (get_or numbers n 0) y in subst R (one_method t (get_or numbers n 0) m x there e) here))

pub each_listed : (t : Table) (numbers : List ℕ) (n : ℕ) (P : ℕ → Method → Type 0) → length numbers ≤ n → EachBefore t numbers n P → (k : ℕ) (m : Method) → Contains numbers k → IsMethod t k m → P k m
each_listed t numbers n P le all k m (i, lt, e) is =
    let found : Some (get_or numbers i 0) ≡ Some k = sym (slice_get-get_or numbers i 0 lt) ∙ slice_get-get_or numbers i k lt ∙ ap Some e in
    let same : get_or numbers i 0 ≡ k = cc in
    let Q : ℕ → Type 0 = λ j. (x : Method) → IsMethod t j x → P j x in
    subst Q same (all i (omega arith)) m is

-- what the list has at a place is the number of a method
pub in_list : (t : Table) (numbers : List ℕ) (i : ℕ) → ((k : ℕ) → Contains numbers k → k < length t.methods) → i < length numbers → get_or numbers i 0 < length t.methods
in_list t numbers i range lt = range (get_or numbers i 0) (Contains-get_or numbers i 0 lt)
