-- The clause that is found is the one that the definition takes.
use Rattle.std.proofs.Common.{◌≡◌, ◌∙◌, ℕ, Bool, true, false, List, [], ◌∷◌, map, refl, ap, ap₂, Option, Some}
use Rattle.std.specs.Prelude.{None as Absent}
use Rattle.wy_kernel.specs.declared.form.Catch.{Catch}
use Rattle.wy_kernel.specs.Program.{Program, is_subclass}
use Rattle.wy_kernel.specs.View.{clause, clauses_of, statement}
use Rattle.wy_kernel.proofs.Views.{view_clause, view_statement}
use Rattle.wy_steps.specs.Sets.{nothing}
use Rattle.wy_steps.specs.State as run
use Rattle.wy_steps.specs.State.{State, Carried, Run, choose, leave}
use Rattle.wy_meaning.specs.World.{World}
use Rattle.wy_meaning.specs.Statement.{Clause, caught, exec, exec_catches, handle, number_of}
use Rattle.wy_operation.specs.Clauses.{taking}

module _ (w : World nothing) where
  -- a clause by what its block does
  abbrev pub clause_as : Catch → Clause nothing
  clause_as c = record { class = c.class; local = c.local; site = c.site; number = c.block.number; block = exec w (statement c.block) }

  -- what is done with an object that was thrown, by the clause that takes it
  abbrev pub taken : Option Catch → ℕ → Carried nothing → Run nothing (Unit {0})
  taken Absent e v = leave (run.Threw e v)
  taken (Some c) e v = caught (clause_as c) v

  pub clauses_are : (cs : List Catch) → exec_catches w (clauses_of (map clause cs)) ≡ map clause_as cs
  unfolding exec
  clauses_are [] = refl
  clauses_are (c ∷ cs) =
      ap (exec_catches w) (view_clause c (clauses_of (map clause cs))) ∙
      ap₂ (λ n rest. record { class = c.class; local = c.local; site = c.site; number = n; block = exec w (statement c.block) } ∷ rest) (ap number_of (view_statement c.block)) (clauses_are cs)

  -- the first clause, or those after it
  taken_next : (p : Program) (c : Catch) (cs : List Catch) (class e : ℕ) (v : Carried nothing) (s : State nothing) (b : Bool) → is_subclass p class c.class ≡ b →
      handle p (map clause_as cs) class e v s ≡ taken (taking p cs class) e v s →
      choose (is_subclass p class c.class) (caught (clause_as c) v) (handle p (map clause_as cs) class e v) s ≡ taken (taking p (c ∷ cs) class) e v s
  unfolding choose
  taken_next p c cs class e v s true is rest = rw is refl
  taken_next p c cs class e v s false is rest = rw is rest

  taken_is : (p : Program) (cs : List Catch) (class e : ℕ) (v : Carried nothing) (s : State nothing) → handle p (map clause_as cs) class e v s ≡ taken (taking p cs class) e v s
  unfolding handle
  taken_is p [] class e v s = refl
  taken_is p (c ∷ cs) class e v s = taken_next p c cs class e v s (is_subclass p class c.class) refl (taken_is p cs class e v s)

  pub handle_is : (p : Program) (cs : List Catch) (class e : ℕ) (v : Carried nothing) (s : State nothing) →
      handle p (exec_catches w (clauses_of (map clause cs))) class e v s ≡ taken (taking p cs class) e v s
  handle_is p cs class e v s = ap (λ xs. handle p xs class e v s) (clauses_are cs) ∙ taken_is p cs class e v s
