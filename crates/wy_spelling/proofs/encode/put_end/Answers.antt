use Rattle.wy_spelling.proofs.Lengths.{ends_on}
use Rattle.wy_spelling.proofs.encode.put_end.Goals as goal

pub returns : goal.returns
returns c = ends_on c.put_ending.result c.args.tail.now c.args.out.now.items c.put_tagged.new.out.items c.put_ending.new.out.items c.in_ok-put_tagged.ensures c.put_ending.ensures
