-- An expression that stands as a statement is refused where it is refused elsewhere: so are calls of `print` and `println`.
use Rattle.std.proofs.Common.{◌≡◌, ℕ, true, List, Option, Some}
use Rattle.std.specs.Prelude.{None as Absent}
use Rattle.wy_kernel.specs.Form as kernel
use Rattle.wy_kernel.specs.declared.types.Ty.TheVariants.{Void}
use Rattle.wy_syntax.specs.Syntax.{Expression, InvokeOn, Row, Effect}
use Rattle.wy_constant.specs.Scope.{Scope}
use Rattle.wy_elab_expr.specs.Meaning.{Meaning, Formed, Gets, give as given, ◌>>=◌, formed}
use Rattle.wy_elab_expr.specs.Elaboration.{Stream, Input, Output, class_in, stream_in, print_operand, called_on_class, called_on_stream, called_on, elaborated, elaborated_all}
use Rattle.wy_elab_body.specs.Making.{give}
use Rattle.wy_elab_body.specs.Parts.{print_of, is_output, is_output_call, printing, performed}
use Rattle.wy_elab_body.specs.Statements.{Setting, effect}
use Rattle.law_refusals.proofs.Never.{Never, never_refuse, never_if, never_first, never_unbuilt, never_built}
use Rattle.law_refusals.proofs.Makes.{NeverIn, in_first, in_expressed}

-- ---- expressions that are statements

module _ (w : Setting) where
  print_by : (s : Scope) (object : Expression) (name : List ℕ) (args : Row) (token : ℕ) → (o : Option Stream) → is_output o ≡ true →
      Never (elim o as (λ _. Gets Meaning) [
        | Some stream ↦ (elaborated_all w.judgement w.table s args >>= λ ns. called_on_stream stream name ns token)
        | Absent ↦ elim (class_in w.table s object) as (λ _. Gets Meaning) [
          | Some c ↦ (elaborated_all w.judgement w.table s args >>= λ ns. called_on_class w.judgement w.table s c name ns token)
          | Absent ↦ (elaborated w.judgement w.table s object >>= λ m. elaborated_all w.judgement w.table s args >>= λ ns. called_on w.judgement w.table s m name ns token)
        ]
      ]) → Never (elaborated_all w.judgement w.table s args >>= λ ns. print_operand name ns token >>= λ p. given (print_of name token p))
  print_by s object name args token (Some Output) e n =
      never_built (elaborated_all w.judgement w.table s args) (λ ns. print_operand name ns token) (λ p. given (print_of name token p))
      (never_unbuilt (elaborated_all w.judgement w.table s args) (λ ns. print_operand name ns token) (λ p. Formed (kernel.Const kernel.Null) Void) n)
  print_by s object name args token (Some Input) e n = absurd (cc)
  print_by s object name args token Absent e n = absurd (cc)

  never_printing : (s : Scope) (e : Expression) → is_output_call w.table s e ≡ true → Never (elaborated w.judgement w.table s e) → Never (printing w.judgement w.table s e)
  unfolding printing is_output_call elaborated
  never_printing s (InvokeOn object name args token) h n = print_by s object name args token (stream_in w.table s object) h n
  never_printing s _ h n = never_refuse

  pub never_performed : (s : Scope) (e : Expression) → Never (elaborated w.judgement w.table s e) → Never (performed w.judgement w.table e s)
  unfolding performed
  never_performed s e n = never_if {b = is_output_call w.table s e} (λ h. never_printing s e h n) (λ h. never_first (λ m. formed m >>= λ form. given (kernel.Eval form)) n)

  pub in_effect : (s : Scope) (e : Effect) → Never (elaborated w.judgement w.table s e.value) → NeverIn s (effect w e)
  unfolding effect
  in_effect s e n = in_first (λ act. give _) (in_expressed (performed w.judgement w.table e.value) (never_performed s e.value n))
