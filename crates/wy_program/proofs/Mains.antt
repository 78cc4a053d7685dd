-- Main is declared by the text, and its name stands at one of its tokens.
use Rattle.std.proofs.Common.{◌≡◌, ◌∙◌, refl, sym, ap, subst, arith, ℕ, zero, suc, ◌<◌, ◌≤◌, Bool, true, false, ◌&&◌, List, [], ◌∷◌, ◌++◌, length, Some, slice_get}
use Rattle.std.proofs.lemmas.List.{length-map}
use Rattle.std.proofs.Math.Logic.{∥∥₁_elim}
use Rattle.std.proofs.Props.{props}
use Rattle.std.specs.List.{list_all}
use Rattle.wy_kernel.specs.Program.{Program, Method, method}
use Rattle.wy_kernel.specs.Parts.{program_of}
use Rattle.wy_kernel.specs.View.{method_of}
use Rattle.wy_kernel.specs.Builtin as builtin
use Rattle.wy_kernel.specs.declared.program.Program as memory
use Rattle.wy_kernel.specs.declared.types.MethodForm.{MethodForm}
use Rattle.wy_kernel.specs.declared.types.MethodForm.TheVariants as kind
use Rattle.wy_typing.specs.Programs.{IsProgram}
use Rattle.wy_typing.specs.Sites.{HasSites}
use Rattle.std.proofs.lemmas.Option.{slice_get_within}
use Rattle.wy_program.proofs.Bodies.{indexed}

-- ---- no method of the library is static

abbrev has_receiver : MethodForm → Bool
has_receiver kind.Static = false
has_receiver _ = true

library_has_receivers : list_all (λ (m : Method). has_receiver m.form) builtin.methods ≡ true
unfolding builtin.methods builtin.first_methods
library_has_receivers = refl

first_true : (a b : Bool) → (a && b) ≡ true → a ≡ true
first_true true b e = refl
first_true false b e = e

second_true : (a b : Bool) → (a && b) ≡ true → b ≡ true
second_true true b e = e
second_true false b e = absurd cc

behind : (f : Method → Bool) (xs rest : List Method) (k : ℕ) (m : Method) → list_all f xs ≡ true → slice_get (xs ++ rest) k ≡ Some m → f m ≡ false → length xs ≤ k
behind f [] rest k m a e n = omega arith
behind f (x ∷ xs) rest zero m a e n = let same : x ≡ m = cc in let yes : f m ≡ true = ap f (sym same) ∙ first_true (f x) (list_all f xs) a in absurd cc
behind f (x ∷ xs) rest (suc k) m a e n = let less = behind f xs rest k m (second_true (f x) (list_all f xs) a) e n in omega (arith, less)

-- so main is none of its methods
main_behind : (p : Program) → IsProgram p → length builtin.methods ≤ p.main
main_behind p h =
    let first = h.declarations.library_methods in
    let main = h.main in
    let found : slice_get (builtin.methods ++ first.0) p.main ≡ Some main.method = subst (λ (ms : List Method). slice_get ms p.main ≡ Some main.method) first.1 main.found in
    behind (λ (m : Method). has_receiver m.form) builtin.methods first.0 p.main main.method library_has_receivers found (ap has_receiver main.static)

-- ---- main in memory

pub main_among : (p : memory.Program) → ∥ IsProgram (program_of p) ∥₁ → p.main < length p.methods.items
main_among p g = ∥∥₁_elim g (hlevel props) (λ h. let i = slice_get_within (program_of p).methods p.main h.main.method h.main.found in let e = length-map p.methods.items method_of in omega (arith, i, e))

main_is : (p : Program) (m : Method) → slice_get p.methods p.main ≡ Some m → method p p.main ≡ m
unfolding method
main_is p m e = indexed p.methods p.main m _ e

pub main_stands : (p : memory.Program) (n site : ℕ) → ∥ IsProgram (program_of p) ∥₁ → ∥ HasSites n (program_of p) ∥₁ → site ≡ (method (program_of p) p.main).site → site < n
main_stands p n site g s e =
    ∥∥₁_elim g (hlevel props) (λ h. ∥∥₁_elim s (hlevel props) (λ sites.
    let token : h.main.method.site < n = sites.methods p.main h.main.method (main_behind (program_of p) h) h.main.found in
    let same : (method (program_of p) p.main).site ≡ h.main.method.site = ap (λ (m : Method). m.site) (main_is (program_of p) h.main.method h.main.found) in
    subst (λ k. k < n) (sym (e ∙ same)) token))
