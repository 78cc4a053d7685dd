-- The operands that the code lists, as what they say.
use Rattle.std.specs.Prelude.{◌≡◌, ℕ, List, [], ◌∷◌, map}
use Rattle.wy_kernel.specs.declared.form.Expr.{Expr}
use Rattle.wy_kernel.specs.Form.{Expression}
use Rattle.wy_kernel.specs.View.{expression}
use Rattle.wy_kernel.specs.Form as form
use Rattle.wy_event.specs.declared.record.Slot.{Slot}
use Rattle.wy_event.specs.declared.record.Slot.TheVariants as slot
use Rattle.wy_work.specs.declared.task.Task.{Task}
use Rattle.wy_work.specs.declared.task.Task.TheVariants as task
use Rattle.wy_work.specs.declared.task.ExprStep.TheVariants as step
use Rattle.wy_work.specs.declared.operand.Listed.{Listed}
use Rattle.wy_work.specs.declared.operand.Listed.TheVariants.{None, One, Two, Three, Row, Headed}

abbrev pub listed : Listed → List Expression
listed None = []
listed (One a) = expression a.now ∷ []
listed (Two a b) = expression a.now ∷ expression b.now ∷ []
listed (Three a b c) = expression a.now ∷ expression b.now ∷ expression c.now ∷ []
listed (Row es) = map expression es.now
listed (Headed a es) = expression a.now ∷ map expression es.now

abbrev pub rows : List Expr → List Expression
rows = map expression

-- the tasks that find them, the first on top
abbrev pub finding : Listed → List Task
finding None = []
finding (One a) = task.Expr a step.Find ∷ []
finding (Two a b) = task.Expr a step.Find ∷ task.Expr b step.Find ∷ []
finding (Three a b c) = task.Expr a step.Find ∷ task.Expr b step.Find ∷ task.Expr c step.Find ∷ []
finding (Row es) = task.Row es ∷ []
finding (Headed a es) = task.Expr a step.Find ∷ task.Row es ∷ []

-- what a form has that the code was given of it
abbrev pub IsTestOf : Expression → Expression → Type 0
IsTestOf (form.Cond f test if_true if_false site) e = test ≡ e
IsTestOf _ e = ⊥

abbrev pub IsNew : Expression → ℕ → ℕ → Type 0
IsNew (form.New c constructor args at) class site = (c ≡ class) × (at ≡ site)
IsNew _ class site = ⊥

abbrev pub IsUpdate : Expression → form.Place → Type 0
IsUpdate (form.Upd place op value value_ty ty wide gives_old site) at = place ≡ at
IsUpdate _ at = ⊥

-- the slot of a place that is a static field
abbrev pub IsStatic : form.Place → Slot → Type 0
IsStatic (form.Static f site) x = x ≡ slot.Static f
IsStatic _ x = ⊥
