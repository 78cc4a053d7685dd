use Rattle.std.proofs.Common.{inl}
use Rattle.wy_top.proofs.exploring.refuse.Goals as goal

pub returns-in-Ok : goal.returns-in-Ok
returns-in-Ok g c = inl (c.in-Ok.answer, c.in-Ok.ensures, c.deliver.ensures)
