-- Each site of a program is in its range.
use Rattle.std.proofs.Common.{◌≡◌, refl, sym, ap, subst, ◌∙◌, arith, inl, inr, ℕ, zero, suc, ◌<◌, ◌≤◌, Bool, true, false, List, [], ◌∷◌, ◌++◌, length, Some}
use Rattle.std.specs.Prelude.{slice_get, nat_lt, nat_le, ◌&&◌, ◌-◌}
use Rattle.std.specs.List.{list_all}
use Rattle.std.proofs.lemmas.Bool.{and_parts, not-true}
use Rattle.std.proofs.lemmas.Bool.Decides.{nat_tests}
use Rattle.wy_kernel.specs.Program.{Program, Body, Method, first_source_class, is_source}
use Rattle.wy_kernel.specs.Builtin as builtin
use Rattle.wy_kernel.specs.Builtin.{method_site}
use Rattle.wy_kernel.specs.Table.{Table}
use Rattle.wy_members.specs.Declarations.{CompilationUnit, class_by_class, methods_of, table}
use Rattle.wy_members.proofs.Library.{how_many}
use Rattle.law_structure.proofs.Elaborated.{MadeFrom}
use Rattle.wy_typing.specs.Sites.{IsToken, HasSites, BodySited}
use Rattle.wy_typing.specs.Expressions.{IsMethod}
use Rattle.law_in_range.specs.InRange.{IsSite, SitesInRange}
use Rattle.law_own_traces.proofs.Wider.{body_so}

-- ---- methods of the library

in_first : {X : Type 0} (xs ys : List X) (k : ℕ) (x : X) → k < length xs → slice_get (xs ++ ys) k ≡ Some x → slice_get xs k ≡ Some x
in_first [] ys k x less e = absurd (omega arith)
in_first (y ∷ xs) ys zero x less e = e
in_first (y ∷ xs) ys (suc k) x less e = in_first xs ys k x (omega arith) e

-- its sites are those of methods of the library
abbrev is_of_library : Method → Bool
is_of_library m = nat_le (method_site 0) m.site && nat_lt m.site (method_site 36)

all_of_library : list_all is_of_library builtin.methods ≡ true
unfolding builtin.methods builtin.first_methods
all_of_library = refl

pub passing : {X : Type 0} (test : X → Bool) (xs : List X) (i : ℕ) (x : X) → list_all test xs ≡ true → slice_get xs i ≡ Some x → test x ≡ true
passing test [] i x all e = absurd (cc)
passing test (y ∷ ys) zero x all e = let same : y ≡ x = cc in ap test (sym same) ∙ (and_parts (test y) (list_all test ys) all).0
passing test (y ∷ ys) (suc i) x all e = passing test ys i x (and_parts (test y) (list_all test ys) all).1 e

site_of_library : (n : ℕ) (m : Method) → is_of_library m ≡ true → IsSite n m.site
site_of_library n m e =
    let parts = and_parts (nat_le (method_site 0) m.site) (nat_lt m.site (method_site 36)) e in
    let low : method_site 0 ≤ m.site = (let f = parts.0 in grind (arith, nat_tests)) in
    let high : m.site < method_site 36 = (let f = parts.1 in grind (arith, nat_tests)) in
    let many = how_many.1 in
    inr (m.site - method_site 0, omega arith, omega arith)

-- ---- the program

method_by : (n : ℕ) (k : ℕ) (b : Body) (p : Program) → HasSites n p → slice_get p.bodies k ≡ Some (Some b) → (c : Bool) → nat_lt k (length builtin.methods) ≡ c → BodySited (IsSite n) b
method_by n k b p h e true c =
    let less : k < length builtin.methods = grind (arith, nat_tests) in
    body_so (λ site. site ≡ method_site k) (IsSite n) (λ site is. inr (k, less, is)) b (h.library k b less e)
method_by n k b p h e false c =
    let behind : length builtin.methods ≤ k = grind (arith, nat_tests) in
    body_so (IsToken n) (IsSite n) (λ site token. inl token) b (h.bodies k b behind e)

class_behind : (c : ℕ) → is_source c ≡ true → length builtin.classes ≤ c
unfolding is_source
class_behind c e = let many = how_many.0 in let no : nat_lt c first_source_class ≡ false = not-true (nat_lt c first_source_class) e in grind (arith, nat_tests)

-- the methods of the library come first
methods_begin : (unit : CompilationUnit) (p : Program) → MadeFrom unit p → p.methods ≡ builtin.methods ++ class_by_class (methods_of unit) unit
unfolding table
methods_begin unit p m = ap (λ (q : Program). q.methods) (sym m.is) ∙ ap (λ (t : Table). t.methods) m.is_table.rows

main_by : (n : ℕ) (unit : CompilationUnit) (p : Program) → MadeFrom unit p → HasSites n p → (m : Method) → IsMethod p p.main m → (c : Bool) → nat_lt p.main (length builtin.methods) ≡ c → IsSite n m.site
main_by n unit p made h m e true c =
    let less : p.main < length builtin.methods = grind (arith, nat_tests) in
    let there = subst (λ (ms : List Method). slice_get ms p.main ≡ Some m) (methods_begin unit p made) e in
    site_of_library n m (passing is_of_library builtin.methods p.main m all_of_library (in_first builtin.methods (class_by_class (methods_of unit) unit) p.main m less there))
main_by n unit p made h m e false c =
    let behind : length builtin.methods ≤ p.main = grind (arith, nat_tests) in
    inl (h.methods p.main m behind e)

pub sites_fit : (n : ℕ) (unit : CompilationUnit) (p : Program) → MadeFrom unit p → HasSites n p → SitesInRange n p
sites_fit n unit p made h = record {
  methods = λ k b e. method_by n k b p h e (nat_lt k (length builtin.methods)) refl;
  initializers = λ c b e. body_so (IsToken n) (IsSite n) (λ site token. inl token) b (h.initializers c b e);
  classes = λ c k source e. inl (h.classes c k (class_behind c source) e);
  main = λ m e. main_by n unit p made h m e (nat_lt p.main (length builtin.methods)) refl;
}
