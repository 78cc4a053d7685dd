-- Jumps stay in their body: where the jumps of a statement are sound, each goes to the end of a statement that it stands in.
use Rattle.std.proofs.Common.{◌≡◌, refl, inl, inr, ℕ, Ok}
use Rattle.std.specs.Prelude.{◌⊎◌, Some}
use Rattle.std.proofs.lemmas.List.Elements.{Contains-append_left, Contains-append_right}
use Rattle.wy_kernel.specs.Form.{Statement, Stmt, Act, Block, Eval, Declare, If, While, Do, For, Labelled, Jump, Return, Throw, Try, Print, Other, nothing, this, Statements, done, first, Catches, uncaught, catch}
use Rattle.wy_kernel.specs.Program.{Program, Body}
use Rattle.wy_kernel.specs.Statements.{number_of}
use Rattle.wy_library.specs.Library.{library_bodies}
use Rattle.wy_members.specs.Declarations.{CompilationUnit}
use Rattle.wy_members.proofs.Contained.{contained}
use Rattle.wy_elab_stmt.specs.Elaborates.{Elaborates}
use Rattle.law_structure.specs.Within.{IsBodyOf}
use Rattle.law_structure.proofs.Sound.{Numbers, and_one, nowhere, Sound, SoundAct, SoundOther, SoundAll, SoundCatches}
use Rattle.law_structure.proofs.Made.{row_sound}
use Rattle.law_structure.proofs.Bodies.{InOwnBody, method_sound, constructor_sound, implied_constructor_sound, initializer_sound, fields_sound}
use Rattle.law_structure.proofs.EachBody.{BodyHas, BodiesHave, library_has, OfMembers, AnyMember, every_body}
use Rattle.law_in_range.specs.InRange.{JumpsTo, ActJumpsTo, OtherJumpsTo, AllJumpTo, CatchesJumpTo, NoJumpLeaves}
use Rattle.law_structure.proofs.Programs.{members_sound, library_sound}

-- each of the numbers is one of these, or that of the statement
abbrev Leading : Numbers → Numbers → ℕ → Type 0
Leading J I n = (k : ℕ) → J k → I k ⊎ (k ≡ n)

more_leading : (J I : Numbers) (n m : ℕ) → Leading J I n → Leading J (and_one I n) m
more_leading J I n m h k j = inl (h k j)

-- in the body of a loop also those of the loop and of its body
loop_leading : (J I : Numbers) (n m : ℕ) → Leading J I n → Leading (and_one (and_one J n) m) (and_one I n) m
loop_leading J I n m h k (inl (inl j)) = inl (h k j)
loop_leading J I n m h k (inl (inr e)) = inl (inr e)
loop_leading J I n m h k (inr e) = inr e

label_leading : (J I : Numbers) (n m : ℕ) → Leading J I n → Leading (and_one J n) (and_one I n) m
label_leading J I n m h k (inl j) = inl (h k j)
label_leading J I n m h k (inr e) = inl (inr e)

mutual
  pub sound_jumps : (J R I : Numbers) (s : Statement) → Leading J I (number_of s) → Sound J R s → JumpsTo I s
  sound_jumps J R I (Stmt number site askable reach act) l h = act_jumps J (and_one R number) I number reach act l h

  act_jumps : (J R I : Numbers) (n reach : ℕ) (a : Act) → Leading J I n → SoundAct J R n reach a → ActJumpsTo (and_one I n) a
  act_jumps J R I n reach (Block parts) l h = all_jumps J R I n parts l h.1
  act_jumps J R I n reach (Eval value) l h = tt
  act_jumps J R I n reach (Declare local) l h = tt
  act_jumps J R I n reach (If test x y) l h = (sound_jumps J R (and_one I n) x (more_leading J I n (number_of x) l) h.1, other_jumps J R I n y l h.2)
  act_jumps J R I n reach (While test body) l h = sound_jumps (and_one (and_one J n) (number_of body)) R (and_one I n) body (loop_leading J I n (number_of body) l) h.1
  act_jumps J R I n reach (Do body test) l h = sound_jumps (and_one (and_one J n) (number_of body)) R (and_one I n) body (loop_leading J I n (number_of body) l) h.1
  act_jumps J R I n reach (For inits test updates body) l h =
      (all_jumps J R I n inits l h.1, all_jumps J R I n updates l h.2, sound_jumps (and_one (and_one J n) (number_of body)) R (and_one I n) body (loop_leading J I n (number_of body) l) h.3)
  act_jumps J R I n reach (Labelled body) l h = sound_jumps (and_one J n) R (and_one I n) body (label_leading J I n (number_of body) l) h.1
  act_jumps J R I n reach (Jump target) l h = l target h.1
  act_jumps J R I n reach (Return value) l h = tt
  act_jumps J R I n reach (Throw value) l h = tt
  act_jumps J R I n reach (Try x catches y) l h =
      (sound_jumps J R (and_one I n) x (more_leading J I n (number_of x) l) h.1, catches_jump J R I n catches l h.2, other_jumps J R I n y l h.3)
  act_jumps J R I n reach (Print operand ty ends_line site) l h = tt

  other_jumps : (J R I : Numbers) (n : ℕ) (x : Other) → Leading J I n → SoundOther J R x → OtherJumpsTo (and_one I n) x
  other_jumps J R I n nothing l h = tt
  other_jumps J R I n (this s) l h = sound_jumps J R (and_one I n) s (more_leading J I n (number_of s) l) h

  all_jumps : (J R I : Numbers) (n : ℕ) (x : Statements) → Leading J I n → SoundAll J R x → AllJumpTo (and_one I n) x
  all_jumps J R I n done l h = tt
  all_jumps J R I n (first s rest) l h = (sound_jumps J R (and_one I n) s (more_leading J I n (number_of s) l) h.0, all_jumps J R I n rest l h.1)

  catches_jump : (J R I : Numbers) (n : ℕ) (x : Catches) → Leading J I n → SoundCatches J R x → CatchesJumpTo (and_one I n) x
  catches_jump J R I n uncaught l h = tt
  catches_jump J R I n (catch class local site block rest) l h =
      (sound_jumps J R (and_one I n) block (more_leading J I n (number_of block) l) h.0, catches_jump J R I n rest l h.1)

-- ---- all bodies

pub jumps_stay : (unit : CompilationUnit) (count : ℕ) (p : Program) → Elaborates unit count (Ok p) → NoJumpLeaves p
jumps_stay unit count p h =
    let stays : (b : Body) → IsBodyOf p b → JumpsTo (λ target. ⊥) b.block =
    (λ b c. sound_jumps nowhere nowhere nowhere b.block (λ k j. inl j) (every_body (Sound nowhere nowhere) InOwnBody members_sound library_sound unit count p h b c)) in (
      λ k b e. stays b (Contains-append_left p.bodies p.init_bodies (Some b) (contained p.bodies k (Some b) e)),
      λ c b e. stays b (Contains-append_right p.bodies p.init_bodies (Some b) (contained p.init_bodies c (Some b) e)),
    )
