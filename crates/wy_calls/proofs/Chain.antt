-- The search for the method that runs, step by step.
use Rattle.std.proofs.Common.{◌≡◌, ◌≤◌, ℕ, ◌+◌, true, false, List, [], ◌∷◌, length, map, Option, Some, refl, sym, ap, ◌∙◌, arith, add-one, inl, inr}
use Rattle.std.specs.Prelude.{None as Absent, ◌&&◌, nat_eq}
use Rattle.std.proofs.lemmas.Bool.Decides.{eqb_tells}
use Rattle.std.proofs.lemmas.List.{get_or_past, length-map}
use lib.Pointwise.{pointwise}
use Rattle.wy_kernel.specs.Program.{Program, Method, class, method, runs_as, declared_in, or_above, find_method, dispatch, same_units}
use Rattle.wy_kernel.specs.declared.types.Method.{Method as Row}
use Rattle.wy_kernel.specs.declared.program.Program.{Program as Memory}
use Rattle.wy_kernel.specs.Parts.{program_of}
use Rattle.wy_kernel.specs.View.{class_of, method_of, present}
use Rattle.wy_calls.specs.Dispatch.{above, found_in}

-- names are compared unit by unit
pub same_by_units : (xs ys : List ℕ) → pointwise nat_eq xs ys ≡ same_units xs ys
unfolding same_units
same_by_units [] [] = refl
same_by_units [] (y ∷ ys) = refl
same_by_units (x ∷ xs) [] = refl
same_by_units (x ∷ xs) (y ∷ ys) = ap (λ b. nat_eq x y && b) (same_by_units xs ys)

pub nobody : present 4294967295 ≡ Absent
unfolding present
nobody = refl

pub somebody : (n : ℕ) → (n ≡ 4294967295 → ⊥) → present n ≡ Some n
unfolding present
somebody n other = elim (eqb_tells n 4294967295) as (λ _. present n ≡ Some n) [ inl a ↦ absurd (other a.1) | inr b ↦ rw b.0 refl ]

-- a class that the program hasn't has nothing above it
pub nothing_above : (p : Memory) (c : ℕ) → length p.classes.items ≤ c → present 4294967295 ≡ above (program_of p) c
unfolding class
nothing_above p c le = nobody ∙ sym (ap (λ x. x.above) (get_or_past (map class_of p.classes.items) c _ (let long : length (map class_of p.classes.items) ≡ length p.classes.items = simp length-map in omega (arith, long))))

-- a search that finds the method ends, and else it goes on above
pub ends_here : (p : Program) (longest n m c k : ℕ) → longest ≡ n + 1 → declared_in c (method p m) 0 p.methods ≡ Some k → find_method p longest m c ≡ k
unfolding find_method or_above
ends_here p longest n m c k long is = rw (long, add-one, is) refl

pub goes_on : (p : Program) (longest n m c d : ℕ) → longest ≡ n + 1 → declared_in c (method p m) 0 p.methods ≡ Absent → above p c ≡ Some d → find_method p longest m c ≡ find_method p n m d
unfolding find_method or_above
goes_on p longest n m c d long is up = rw (long, add-one, is, up) refl

pub ends_at_top : (p : Program) (longest n m c : ℕ) → longest ≡ n + 1 → declared_in c (method p m) 0 p.methods ≡ Absent → above p c ≡ Absent → find_method p longest m c ≡ m
unfolding find_method or_above
ends_at_top p longest n m c long is up = rw (long, add-one, is, up) refl

-- the methods of a class, one after another
pub is_found : (c n : ℕ) (m other : Method) (rest : List Method) → runs_as c m other ≡ true → declared_in c m n (other ∷ rest) ≡ Some n
unfolding declared_in
is_found c n m other rest is = rw is refl

pub is_passed : (c n : ℕ) (m other : Method) (rest : List Method) → runs_as c m other ≡ false → declared_in c m n (other ∷ rest) ≡ declared_in c m (n + 1) rest
unfolding declared_in
is_passed c n m other rest is = rw (is, add-one) refl

pub none_is_left : (c n : ℕ) (m : Method) → declared_in c m n [] ≡ Absent
unfolding declared_in
none_is_left c n m = refl

-- the search begins at the class, with as many steps as a chain may have
pub begins : (p : Memory) (n m c : ℕ) → n ≡ length p.classes.items → find_method (program_of p) (n + 1) m c ≡ dispatch (program_of p) m c
unfolding dispatch
begins p n m c is = let long : length (map class_of p.classes.items) ≡ length p.classes.items = simp length-map in rw (add-one, is, long) refl

pub none_is_longer : (p : Program) (m c : ℕ) → find_method p 0 m c ≡ m
unfolding find_method
none_is_longer p m c = refl

-- what was searched for is what the definition searches for
pub searched : (p : Memory) (c m : ℕ) (r : Option ℕ) (called : Row) → r ≡ found_in p c called → method_of called ≡ method (program_of p) m → declared_in c (method (program_of p) m) 0 (map method_of p.methods.items) ≡ r
searched p c m r called is this = ap (λ x. declared_in c x 0 (map method_of p.methods.items)) (sym this) ∙ sym is
