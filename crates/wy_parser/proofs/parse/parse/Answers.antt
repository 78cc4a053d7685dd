use Rattle.std.proofs.Common.{ap, ◌∙◌}
use Rattle.wy_parser.specs.Symbols.{symbols_seen}
use Rattle.wy_parser.proofs.Whole.{tells_found}
use Rattle.wy_parser.proofs.Complete.{tells_only, tells_refused}
use Rattle.wy_parser.proofs.Places.{tells_placed, tells_last}
use Rattle.wy_parser.proofs.parse.parse.Goals as goal

pub returns-in-Ok-clause-found : goal.returns-in-Ok-clause-found
returns-in-Ok-clause-found c = tells_found _ _ _ c.whole_tree.ensures.exact (ap symbols_seen c.deref.ensures.value ∙ c.in-Ok.ensures)

pub returns-in-Ok-clause-only : goal.returns-in-Ok-clause-only
returns-in-Ok-clause-only c = tells_only _ _ _ c.whole_tree.ensures.exact (ap symbols_seen c.deref.ensures.value ∙ c.in-Ok.ensures)

pub returns-in-Ok-clause-refused : goal.returns-in-Ok-clause-refused
returns-in-Ok-clause-refused c = tells_refused _ _ _ c.whole_tree.ensures.exact (ap symbols_seen c.deref.ensures.value ∙ c.in-Ok.ensures)

pub returns-in-Ok-clause-place : goal.returns-in-Ok-clause-place
returns-in-Ok-clause-place c = tells_placed _ _ _ c.whole_tree.ensures.exact c.whole_tree.ensures.last (ap symbols_seen c.deref.ensures.value ∙ c.in-Ok.ensures)

pub returns-in-Ok-clause-last : goal.returns-in-Ok-clause-last
returns-in-Ok-clause-last c = tells_last _ _ _ c.whole_tree.ensures.last (ap symbols_seen c.deref.ensures.value ∙ c.in-Ok.ensures)
