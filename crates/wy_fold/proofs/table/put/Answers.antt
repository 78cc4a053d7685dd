use Rattle.wy_fold.proofs.Tables.{put_there}
use Rattle.wy_fold.proofs.table.put.Goals as goal

pub returns : goal.returns
returns c = put_there c.args.rows.now.items c.args.line c.args.event c.index_mut.result.now c.push.new.self c.requires c.in_ok-push.ensures.items c.index_mut.ensures.value
