-- Nothing stands yet, and no block is marked.
use Rattle.std.proofs.Common.{[], ◌++◌, refl}
use Rattle.wy_spelling.specs.Spelling.{opening}
use Rattle.wy_page.proofs.Taken.{begun}
use Rattle.wy_page.proofs.opening.Reading.begin.Goals as goal

pub returns : goal.returns
returns c = begun _ c.args.version c.args.program.now c.args.head.now c.place_behind-at.result c.place_behind-at.ensures refl c.behind.ensures (c.begin.ensures.marked (opening c.args.version c.args.head.now ++ [])) c.begin.ensures.from c.new.ensures.items refl
