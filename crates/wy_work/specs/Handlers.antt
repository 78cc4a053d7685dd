-- What a clause of a `try` in memory does with an object that was thrown.
use Rattle.std.specs.Prelude.{ℕ}
use Rattle.wy_kernel.specs.declared.form.Catch.{Catch}
use Rattle.wy_kernel.specs.View.{statement}
use Rattle.wy_value.specs.declared.value.Value.{Value}
use Rattle.wy_steps.specs.Sets.{nothing}
use Rattle.wy_steps.specs.State.{Run}
use Rattle.wy_meaning.specs.World.{World}
use Rattle.wy_meaning.specs.Statement.{Clause, caught, exec, number_of}
use Rattle.wy_state.specs.Seen.{valued}

abbrev pub clause_of : World nothing → Catch → Clause nothing
clause_of w c = record { class = c.class; local = c.local; site = c.site; number = number_of (statement c.block); block = exec w (statement c.block) }

abbrev pub caught_by : World nothing → Catch → ℕ → Value → Run nothing (Unit {0})
caught_by w c event v = caught (clause_of w c) (valued event v)
