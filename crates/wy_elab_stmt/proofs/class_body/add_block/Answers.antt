use Rattle.std.proofs.Common.{ap, ◌∙◌, []}
use Rattle.wy_syntax.specs.Syntax as source
use Rattle.wy_syntax.specs.View.{block_of, class_of}
use Rattle.wy_elab_stmt.specs.Classes.{member}
use Rattle.wy_elab_stmt.specs.ClassViews.{at_rest, growth_of}
use Rattle.wy_elab_stmt.proofs.ClassParts.{static_block, instance_block, moved}
use Rattle.wy_elab_stmt.proofs.class_body.add_block.Goals as goal

pub returns-then-is_static : goal.returns-then-is_static
returns-then-is_static c = λ w n first second s.
    let same = ap (λ z. at_rest (member w n (class_of c.args.class.now) (growth_of c.args.growth.now first second) (source.Initializer z (block_of c.args.b.now)) c.args.texts.now)) c.if-is_static.true
    ∙ ap at_rest (static_block w n (class_of c.args.class.now) (growth_of c.args.growth.now first second) (block_of c.args.b.now) c.args.texts.now) in
    moved (λ u. growth_of c.add_static_block.new.growth [] []) c.add_static_block.result c.add_static_block.new.texts _ _ same (c.add_static_block.ensures w first second s)

pub returns-else-is_static : goal.returns-else-is_static
returns-else-is_static c = λ w n first second s.
    let same = ap (λ z. at_rest (member w n (class_of c.args.class.now) (growth_of c.args.growth.now first second) (source.Initializer z (block_of c.args.b.now)) c.args.texts.now)) c.if-is_static.false
    ∙ ap at_rest (instance_block w n (class_of c.args.class.now) (growth_of c.args.growth.now first second) (block_of c.args.b.now) c.args.texts.now) in
    moved (λ u. growth_of c.add_instance_block.new.growth [] []) c.add_instance_block.result c.add_instance_block.new.texts _ _ same (c.add_instance_block.ensures w first second s)
