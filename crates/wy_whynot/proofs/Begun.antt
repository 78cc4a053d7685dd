-- A statement is executed exactly if it began.
use Rattle.std.proofs.Common.{◌≡◌, ℕ, true, false, not, List, refl, ap, eq-eqb}
use Rattle.wy_event.specs.declared.record.Cover.{Cover}
use Rattle.wy_event.specs.Record.{Recorded}
use Rattle.wy_static.specs.declared.point.Point.TheVariants as point
use Rattle.wy_whynot.specs.Executed.{cover_of, executed}

pub never_executed : (rs : List Recorded) (covers : List Cover) (n : ℕ) → (cover_of covers n).begins ≡ 0 → executed rs covers (point.Statement n) ≡ false
unfolding executed
never_executed rs covers n h = ap not (eq-eqb (cover_of covers n).begins 0 h)

pub start_executed : (rs : List Recorded) (covers : List Cover) → executed rs covers point.Start ≡ true
unfolding executed
start_executed rs covers = refl
