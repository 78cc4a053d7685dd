use Rattle.std.proofs.Common.{ap, ◌∙◌, map}
use Rattle.wy_tree.specs.Ast.{view}
use Rattle.wy_syntax.specs.Declarations.{declaration}
use Rattle.wy_syntax.specs.View.{declaration_of}
use Rattle.wy_syntax.proofs.Heads.{row_ends as ended}
use Rattle.wy_declaration.proofs.Programs.{declarations_go, declarations_end}
use Rattle.wy_declaration.proofs.program.declarations.Goals as goal

pub loop-part-preserved : goal.loop-part-preserved
loop-part-preserved c =
    declarations_go _ _ _ _ _ _ _ _ _ c.in_ok-push.ensures.items c.in-Some.ensures.trees c.in-Some.ensures.next
    (c.in_ok-declaration.ensures ∙ ap (λ n. declaration n (view c.in-Some.part.tree.now)) c.in-Some.ensures.at) c.loop-part.invariant

pub returns : goal.returns
returns c = ended (map declaration_of c.loop-part.found.items) _ _ (declarations_end c.loop-part.left.at _ c.in_default.ensures.trees) c.loop-part.invariant
