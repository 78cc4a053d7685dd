-- Forms that break no rule themselves: literals, parentheses, and what is no expression.
use Rattle.std.specs.Prelude.{ℕ}
use Rattle.wy_kernel.specs.Table.{Table}
use Rattle.wy_tree.specs.Seen.{Tok}
use Rattle.wy_syntax.specs.Syntax.{Expression, Literal, Group, Wrong}
use Rattle.wy_constant.specs.declared.rule.Rule.{Rule}
use Rattle.wy_constant.specs.Scope.{Scope}
use Rattle.wy_elab_expr.specs.Operators.{Judgement}
use Rattle.law_refusals.specs.Breaches.{ExpressionBreaks}

pub data IsQuiet : Expression → Type 0 where
  literal : {value : Tok} {token : ℕ} → IsQuiet (Literal value token)
  group : {inner : Expression} {token : ℕ} → IsQuiet (Group inner token)
  wrong : IsQuiet Wrong

abbrev pub QuietFormsBreakNothing : Type 0
QuietFormsBreakNothing = (j : Judgement) (t : Table) (s : Scope) (e : Expression) (rule : Rule) (token : ℕ) → IsQuiet e → ExpressionBreaks j t s e rule token → ⊥
