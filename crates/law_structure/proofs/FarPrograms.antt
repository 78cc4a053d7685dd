-- The tests in all bodies of every program reach as far as they should.
use Rattle.std.proofs.Common.{refl, ℕ, Ok}
use Rattle.wy_kernel.specs.Program.{Program}
use Rattle.wy_library.specs.Library.{library_bodies}
use Rattle.wy_members.specs.Declarations.{CompilationUnit}
use Rattle.wy_elab_body.specs.Jumps.{targets, targets_within, targets_of_other}
use Rattle.wy_elab_stmt.specs.Elaborates.{Elaborates}
use Rattle.law_structure.specs.Outermost.{BodyReachesAsFar, AllTestsReachAsFar}
use Rattle.law_structure.proofs.Far.{row_far}
use Rattle.law_structure.proofs.FarBodies.{InOwnBody, method_far, constructor_far, implied_constructor_far, initializer_far, fields_far}
use Rattle.law_structure.proofs.EachBody.{BodyHas, BodiesHave, library_has, OfMembers, AnyMember, every_body}

members_far : OfMembers BodyReachesAsFar InOwnBody AnyMember
members_far = record {
  method = λ w h result b i. method_far w h result b;
  written = λ w c k h own brace parts end i. constructor_far w c k h own brace parts;
  unwritten = implied_constructor_far;
  initializer = λ w k role is_static b i. initializer_far w k role b;
  fields = λ w c k role is_static ms ty all i. fields_far _ _ _ w c is_static ty all;
  row = λ w k role xs h. (refl, row_far _ _ _ xs h);
}

library_far : BodiesHave BodyReachesAsFar library_bodies
unfolding targets targets_within targets_of_other
library_far =
    library_has (BodyHas BodyReachesAsFar) (refl, (refl, tt)) (refl, (refl, tt)) (refl, tt) (refl, (refl, tt)) (refl, (refl, tt)) (refl, (refl, ((refl, refl, tt), (refl, tt))))
    (λ c k. (refl, (refl, tt))) (λ c k. (refl, (refl, tt)))

pub all_tests_far : (unit : CompilationUnit) (count : ℕ) (p : Program) → Elaborates unit count (Ok p) → AllTestsReachAsFar p
all_tests_far = every_body BodyReachesAsFar InOwnBody members_far library_far
