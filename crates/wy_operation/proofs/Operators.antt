-- Operators and casts on operands that are there.
use Rattle.std.proofs.Common.{◌≡◌, ◌∙◌, ℕ, Bool, true, false, List, refl, ap, Option, Some, Err}
use Rattle.std.specs.Prelude.{None as Absent, if◌then◌else◌}
use Rattle.wy_kernel.specs.declared.types.Ty.{Ty}
use Rattle.wy_kernel.specs.Program.{Program, is_below}
use Rattle.wy_value.specs.declared.value.Value.{Value}
use Rattle.wy_value.specs.declared.value.Value.TheVariants.{None as Nothing, Bool as Boolean}
use Rattle.wy_event.specs.declared.record.Use.{Use}
use Rattle.wy_steps.specs.Sets.{nothing}
use Rattle.wy_steps.specs.State.{Carried, Run, go_on, ◌>>=◌, return, choose}
use Rattle.wy_steps.specs.Steps.{joined, with_value}
use Rattle.wy_meaning.specs.World.{World, arithmetic, class_cast, fail, is_null, type_of}
use Rattle.wy_meaning.specs.Place.{divided}
use Rattle.wy_meaning.specs.Expression.{cast, instance_of}
use Rattle.wy_operation.specs.Around.{Ends}
use Rattle.wy_operation.specs.Operands.{Pair}
use Rattle.wy_operation.proofs.Exceptions.{fails}
use Rattle.wy_operation.proofs.Runs.{answers_next, done_first}
use Rattle.wy_state.specs.Agrees.{Shape, Onward, StepGives, itself}
use Rattle.wy_state.specs.Seen.{given}
use Rattle.wy_state.specs.declared.parts.Halt.{Halt}
use Rattle.wy_state.proofs.Onward.{onward_as, onward_same, onward_then}

-- two operands by the uses of both
pub pair_is : (left right : Value) (us : List Use) (o : Pair left right us) → joined Nothing o.first o.second ≡ given Nothing us
unfolding joined
pair_is left right us o = ap (given Nothing) o.are_joined

module _ (p : Program) (w : World nothing) (site : ℕ) (c : Carried nothing) (us : List Use) (is : c ≡ given Nothing us) (gives : Option Value) where
  pub divided_goes : (m : Shape) (v : Value) → gives ≡ Some v → Onward p m (divided w site c gives) m (return (given v us))
  unfolding divided with_value
  divided_goes m v some = rw (some, is) (onward_same p m (return (given v us)))

  pub divided_fails : (m n : Shape) (e : Halt) → gives ≡ Absent → Ends p e m (fail w arithmetic site (given Nothing us)) n → StepGives p (itself {X = Carried nothing}) (Err e) m (divided w site c gives) n
  unfolding divided
  divided_fails m n e none a = rw (none, is) (fails w arithmetic site (Carried nothing) p e m n (given Nothing us) a)

-- ---- casts

module _ (p : Program) (m : Shape) (w : World nothing) (is : w.program ≡ p) (ty found : Ty) (v : Value) (us : List Use) (typed : Onward p m (type_of v) m (return found)) where
  abbrev pub cast_as : ℕ → Ty → Run nothing (Carried nothing)
  cast_as site other = choose (is_null v) (return (given v us)) (choose (is_below w.program other ty) (return (given v us)) (fail w class_cast site (given v us)))

  below_is : is_below w.program found ty ≡ is_below p found ty
  below_is = ap (λ q. is_below q found ty) is

  cast_starts : (site : ℕ) → Onward p m (cast w ty (return (given v us)) site) m (cast_as site found)
  unfolding cast ◌>>=◌ go_on return
  cast_starts site = onward_as (λ s. refl) (done_first (type_of v) (cast_as site) found typed)

  pub cast_null : (site : ℕ) → is_null v ≡ true → Onward p m (cast w ty (return (given v us)) site) m (return (given v us))
  unfolding choose
  cast_null site null = onward_then (cast_starts site) (rw null (onward_same p m (return (given v us))))

  pub cast_fits : (site : ℕ) → is_null v ≡ false → is_below p found ty ≡ true → Onward p m (cast w ty (return (given v us)) site) m (return (given v us))
  unfolding choose
  cast_fits site null below = onward_then (cast_starts site) (rw (null, below_is ∙ below) (onward_same p m (return (given v us))))

  pub cast_fails : (site : ℕ) (n : Shape) (e : Halt) → is_null v ≡ false → is_below p found ty ≡ false → Ends p e m (fail w class_cast site (given v us)) n → StepGives p (itself {X = Carried nothing}) (Err e) m (cast w ty (return (given v us)) site) n
  unfolding choose
  cast_fails site n e null below a = answers_next p itself (Err e) m m n _ _ (cast_starts site) (rw (null, below_is ∙ below) (fails w class_cast site (Carried nothing) p e m n (given v us) a))

  abbrev pub is_one : Ty → Run nothing (Carried nothing)
  is_one other = return (with_value (Boolean (if is_null v then false else is_below w.program other ty)) (given v us))

  instance_starts : Onward p m (instance_of w ty (return (given v us))) m (is_one found)
  unfolding instance_of ◌>>=◌ go_on return
  instance_starts = onward_as (λ s. refl) (done_first (type_of v) is_one found typed)

  pub instance_null : is_null v ≡ true → Onward p m (instance_of w ty (return (given v us))) m (return (given (Boolean false) us))
  unfolding with_value
  instance_null null = onward_then instance_starts (rw null (onward_same p m _))

  pub instance_is : (b : Bool) → is_null v ≡ false → b ≡ is_below p found ty → Onward p m (instance_of w ty (return (given v us))) m (return (given (Boolean b) us))
  unfolding with_value
  instance_is b null below = onward_then instance_starts (rw (null, below, ← below_is) (onward_same p m _))
