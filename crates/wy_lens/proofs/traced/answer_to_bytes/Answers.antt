use Rattle.wy_lens.specs.Views.{telling_of}
use Rattle.wy_lens.proofs.Replies.{opened_told, unopened_bytes}
use Rattle.wy_lens.proofs.traced.answer_to_bytes.Goals as goal

pub returns-in-Ok : goal.returns-in-Ok
returns-in-Ok c = opened_told c.args.bytes.now (telling_of c.args.telling) c.in-Ok.opening c.answer_to_open.result c.in-Ok.ensures.opens c.answer_to_open.ensures

pub returns-in-Err : goal.returns-in-Err
returns-in-Err c = unopened_bytes c.args.bytes.now (telling_of c.args.telling) c.in-Err.error c.unopened_by.result c.in-Err.ensures.refused c.unopened_by.ensures
