use Rattle.std.proofs.Common.{arith, ap, ◌∙◌}
use Rattle.wy_tree.specs.Ast.{views, Node}
use Rattle.wy_parser.proofs.Runs.{closes_deep, closes_node}
use Rattle.wy_parser.proofs.read.closed_by.Goals as goal

pub returns-then-found-below-clause-read : goal.returns-then-found-below-clause-read
returns-then-found-below-clause-read c = closes_deep _ _ c.args.found.items.items _ (λ e. c.if-len-eq1.false (omega (arith, c.len.ensures, e, c.args.found.items.ok))) (omega (arith, c.args.found.known, c.if-found-below.true))

pub returns-clause-read : goal.returns-clause-read
returns-clause-read c = closes_node _ _ c.args.found.items.items _ _ (λ e. c.if-len-eq1.false (omega (arith, c.len.ensures, e, c.args.found.items.ok))) (omega (arith, c.args.found.known, c.if-found-below.false)) (c.node_of.ensures.tree ∙ ap (λ f. Node f (views c.args.found.items.items)) c.form_of.ensures)
