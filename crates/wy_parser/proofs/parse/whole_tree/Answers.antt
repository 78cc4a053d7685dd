use Rattle.wy_parser.proofs.Places.{looked_within, last_left, last_none}
use Rattle.wy_parser.proofs.parse.whole_tree.Goals as goal

pub refusal-requires-in-Err-NoTree-clause-within : goal.refusal-requires-in-Err-NoTree-clause-within
refusal-requires-in-Err-NoTree-clause-within c = looked_within c.args.all.now _ (rw c.in-Err-NoTree.field-0-is at c.in-Err-NoTree.ensures.looks)

pub returns-in-Ok-clause-last : goal.returns-in-Ok-clause-last
returns-in-Ok-clause-last c = last_left _ c.args.all.now _ _ _ _ c.in-Ok.ensures.read c.in-Ok.ensures.looks c.min.ensures c.refusal.ensures.last

pub returns-in-Err-NoTree-clause-last : goal.returns-in-Err-NoTree-clause-last
returns-in-Err-NoTree-clause-last c =
    last_none _ c.args.all.now _ (rw c.in-Err-NoTree.field-0-is at c.in-Err-NoTree.ensures.read) (rw c.in-Err-NoTree.field-0-is at c.in-Err-NoTree.ensures.looks) c.refusal-in-Err-NoTree.ensures.last
