-- A block that has a digest begins below the number of events.
use Rattle.std.proofs.Common.{arith}
use Rattle.wy_page.proofs.pages.Pages.decode.Goals as goal

pub overflow_mul-first : goal.overflow_mul-first
overflow_mul-first c = omega (arith, c.requires, c.args.self.now.places.needed)
