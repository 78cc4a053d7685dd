-- All bodies of every program are sound.
use Rattle.std.proofs.Common.{refl, inl, inr, ℕ, Ok}
use Rattle.wy_kernel.specs.Program.{Program, Body}
use Rattle.wy_library.specs.Library.{library_bodies}
use Rattle.wy_members.specs.Declarations.{CompilationUnit}
use Rattle.wy_elab_stmt.specs.Elaborates.{Elaborates}
use Rattle.law_structure.specs.Within.{IsBodyOf}
use Rattle.law_structure.specs.Jumps.{AllJumpsGoOut}
use Rattle.law_structure.specs.Reaches.{AllReach}
use Rattle.law_structure.proofs.Sound.{nowhere, Sound, jumps_of_sound, reaches_of_sound}
use Rattle.law_structure.proofs.Made.{row_sound}
use Rattle.law_structure.proofs.Bodies.{InOwnBody, method_sound, constructor_sound, implied_constructor_sound, initializer_sound, fields_sound}
use Rattle.law_structure.proofs.EachBody.{BodyHas, BodiesHave, library_has, OfMembers, AnyMember, every_body}

pub members_sound : OfMembers (Sound nowhere nowhere) InOwnBody AnyMember
members_sound = record {
  method = λ w h result b i. method_sound w h result b;
  written = λ w c k h own brace parts end i. constructor_sound w c k h own brace parts;
  unwritten = implied_constructor_sound;
  initializer = λ w k role is_static b i. initializer_sound w k role b;
  fields = λ w c k role is_static ms ty all i. fields_sound _ _ w c is_static ty all;
  row = λ w k role xs h. (refl, row_sound _ _ xs h);
}

pub library_sound : BodiesHave (Sound nowhere nowhere) library_bodies
library_sound =
    library_has (BodyHas (Sound nowhere nowhere)) (refl, (refl, tt)) (refl, (refl, tt)) (refl, tt) (refl, (refl, tt)) (refl, (refl, tt)) (refl, (refl, ((inl (inr refl), refl, tt), (refl, tt))))
    (λ c k. (refl, (refl, tt))) (λ c k. (refl, (refl, tt)))

body_sound : (unit : CompilationUnit) (tokens : ℕ) (p : Program) → Elaborates unit tokens (Ok p) → (b : Body) → IsBodyOf p b → Sound nowhere nowhere b.block
body_sound = every_body (Sound nowhere nowhere) InOwnBody members_sound library_sound

pub all_jumps_go_out : (unit : CompilationUnit) (tokens : ℕ) (p : Program) → Elaborates unit tokens (Ok p) → AllJumpsGoOut p
all_jumps_go_out unit tokens p h b c = jumps_of_sound b.block (body_sound unit tokens p h b c)

pub all_reach : (unit : CompilationUnit) (tokens : ℕ) (p : Program) → Elaborates unit tokens (Ok p) → AllReach p
all_reach unit tokens p h b c = reaches_of_sound b.block (body_sound unit tokens p h b c)
