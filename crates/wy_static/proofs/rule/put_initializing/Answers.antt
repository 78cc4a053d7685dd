use Rattle.wy_static.proofs.Rules.{initializes, needs_none}
use Rattle.wy_static.proofs.rule.put_initializing.Goals as goal

pub returns-in_ok-push : goal.returns-in_ok-push
returns-in_ok-push c = initializes c.args.out.now.items _ c.args.owner c.args.class c.args.site _ c.if-class-ge-FIRST_SOURCE_CLASS.true c.call_at.ensures c.in_ok-push.ensures.items

pub returns-else-class-ge-FIRST_SOURCE_CLASS : goal.returns-else-class-ge-FIRST_SOURCE_CLASS
returns-else-class-ge-FIRST_SOURCE_CLASS c = needs_none c.args.out.now.items c.args.owner c.args.class c.args.site c.if-class-ge-FIRST_SOURCE_CLASS.false
