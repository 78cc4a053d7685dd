-- As many records are told as there are.
use Rattle.wy_page.proofs.Told.{told_long}
use Rattle.wy_page.proofs.view.PagedViewPagesEventView.count.Goals as goal

pub returns-clause-told : goal.returns-clause-told
returns-clause-told g c = told_long c.args.self.now.pages (g.S.Shelf.held c.args.self.now.shelf.now)
