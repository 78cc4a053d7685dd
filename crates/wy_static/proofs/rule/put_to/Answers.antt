use Rattle.std.proofs.Common.{ap, sym, ◌∙◌, ◌++◌, ◌∷◌, []}
use Rattle.wy_kernel.specs.Statements.{number_of}
use Rattle.wy_kernel.proofs.Views.{view_statement}
use Rattle.wy_static.specs.declared.point.Point.TheVariants as point
use Rattle.wy_static.specs.Ways.{way}
use Rattle.wy_static.proofs.rule.put_to.Goals as goal

pub returns : goal.returns
returns c = c.in_ok-push.ensures.items ∙ ap (λ w. c.args.out.now.items ++ w ∷ []) (c.way.ensures ∙ ap (λ x. way c.args.kind c.args.owner (point.Statement (number_of x))) (sym (view_statement c.args.s.now)))
