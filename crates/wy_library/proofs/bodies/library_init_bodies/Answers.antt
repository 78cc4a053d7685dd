use Rattle.std.proofs.Common.{◌≡◌, ℕ, ◌∙◌, ap, ◌∷◌, [], ◌++◌, refl, arith}
use Rattle.std.specs.Prelude.{map, option_map, replicate, Option, None}
use Rattle.std.proofs.lemmas.List.{map-append, replicate-append-replicate}
use Rattle.wy_kernel.specs.Builtin as builtin
use Rattle.wy_kernel.specs.Program as parts
use Rattle.wy_kernel.specs.View.{body_of}
use Rattle.wy_library.specs.Library.{library_init_bodies}
use Rattle.wy_library.proofs.bodies.library_init_bodies.Goals as goal

pub loop-class-preserved : goal.loop-class-preserved
loop-class-preserved c =
    ap (map (option_map body_of)) c.in_ok-push.ensures.items ∙ map-append (option_map body_of) _ (None ∷ [])
    ∙ ap (λ z. z ++ None ∷ []) c.loop-class.invariant ∙ replicate-append-replicate c.loop-class._class 1 None

all_of_them : replicate 18 (let none : Option parts.Body = None in none) ≡ library_init_bodies
unfolding library_init_bodies builtin.classes
all_of_them = refl

pub returns : goal.returns
returns c =
    let many : c.loop-class._class ≡ 18 = omega arith in
    c.loop-class.invariant ∙ ap (λ (n : ℕ). replicate n None) many ∙ all_of_them
