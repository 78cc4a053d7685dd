-- The names of classes.
use Rattle.std.proofs.Common.{◌≡◌, ◌∙◌, ap₂, append_assoc, List, ◌≤◌, ◌<◌, ℕ, suc, [], ◌++◌, length, map, true, false, refl, sym, ap, arith}
use Rattle.std.specs.Prelude.{codes, nat_lt}
use Rattle.std.proofs.lemmas.Bool.{le-leb, lt-leb}
use Rattle.std.proofs.lemmas.List.{get_or_past, length-map}
use Rattle.wy_kernel.specs.declared.program.Program.{Program as Memory}
use Rattle.wy_kernel.specs.Parts.{program_of}
use Rattle.wy_kernel.specs.Program.{Program, class, full_name, is_source}
use Rattle.wy_kernel.specs.View.{class_of}

-- a class that the program hasn't has no name
pub nameless : (p : Memory) (c : ℕ) → length p.classes.items ≤ c → [] ≡ (class (program_of p) c).name
unfolding class
nameless p c le = sym (ap (λ x. x.name) (get_or_past (map class_of p.classes.items) c _ (let long : length (map class_of p.classes.items) ≡ length p.classes.items = simp length-map in omega (arith, long))))

pub built_in : (p : Program) (c : ℕ) → c < 18 → codes "java.lang." ++ (class p c).name ≡ full_name p c
unfolding full_name is_source
built_in p c low =
    let is : nat_lt c 18 ≡ true = le-leb (suc c) 18 (omega (arith, low)) in
    rw is refl

pub of_source : (p : Program) (c : ℕ) → 18 ≤ c → (class p c).name ≡ full_name p c
unfolding full_name is_source
of_source p c high =
    let is : nat_lt c 18 ≡ false = lt-leb (suc c) 18 (omega (arith, high)) in
    rw is refl

-- a class of the library behind a text
pub built_in_behind : (p : Program) (c : ℕ) (old mid new library own : List ℕ) → c < 18 → library ≡ codes "java.lang." → own ≡ (class p c).name → mid ≡ old ++ library → new ≡ mid ++ own → new ≡ old ++ full_name p c
built_in_behind p c old mid new library own low is named first second =
    second ∙ ap₂ (λ (a b : List ℕ). a ++ b) (first ∙ ap (λ (l : List ℕ). old ++ l) is) named ∙ append_assoc old (codes "java.lang.") (class p c).name ∙ ap (λ (l : List ℕ). old ++ l) (built_in p c low)
