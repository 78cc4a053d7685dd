-- The body of main in memory.
use Rattle.std.proofs.Common.{◌≡◌, refl, ℕ, zero, suc, ◌<◌, List, [], ◌∷◌, length, arith, Option, Some, None, option_map, slice_get}
use Rattle.std.specs.Prelude.{slice_index_or}
use Rattle.std.proofs.lemmas.List.{length-map}
use Rattle.std.proofs.lemmas.Option.{slice_get_within}
use Rattle.std.proofs.Math.Logic.{∥∥₁_elim}
use Rattle.std.proofs.Props.{props}
use Rattle.std.specs.Option.{IsSome}
use Rattle.wy_kernel.specs.Program.{Body, body}
use Rattle.wy_kernel.specs.Parts.{program_of}
use Rattle.wy_kernel.specs.View.{body_of}
use Rattle.wy_kernel.specs.declared.program.Program.{Program}
use Rattle.wy_typing.specs.Programs.{IsProgram}

pub indexed : {X : Type 0} (xs : List X) (k : ℕ) (x d : X) → slice_get xs k ≡ Some x → slice_index_or xs k d ≡ x
indexed [] k x d e = absurd (cc)
indexed (y ∷ ys) zero x d e = cc
indexed (y ∷ ys) (suc k) x d e = indexed ys k x d e

pub main_within : (p : Program) → ∥ IsProgram (program_of p) ∥₁ → p.main < length p.bodies.items
main_within p g = ∥∥₁_elim g (hlevel props) (λ h. let i = slice_get_within (program_of p).bodies p.main (Some h.main.body.0) h.main.body.1 in let e = length-map p.bodies.items (option_map body_of) in omega arith)

there : {X : Type 0} (o : Option X) (r : Option Body) (f : X → Body) (b : Body) → option_map f o ≡ r → r ≡ Some b → IsSome o
there None r f b e is = absurd (cc)
there (Some x) r f b e is = refl

body_there : (p : Program) (b : Body) → slice_get (program_of p).bodies p.main ≡ Some (Some b) → body (program_of p) p.main ≡ Some b
unfolding body
body_there p b e = indexed (program_of p).bodies p.main (Some b) None e

pub main_has_body : {X : Type 0} (p : Program) (o : Option X) (f : X → Body) → ∥ IsProgram (program_of p) ∥₁ → option_map f o ≡ body (program_of p) p.main → IsSome o
main_has_body p o f g e = ∥∥₁_elim g (hlevel props) (λ h. there o (body (program_of p) p.main) f h.main.body.0 e (body_there p h.main.body.0 h.main.body.1))
