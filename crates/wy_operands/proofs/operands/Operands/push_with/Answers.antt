use Rattle.std.proofs.Common.{[], ◌∷◌, arith}
use Rattle.wy_operands.proofs.Puts.{put_on}
use Rattle.wy_operands.proofs.operands.Operands.push_with.Goals as goal

pub returns : goal.returns
returns c = put_on c.args.self.now _ c.args.value c.len-from.result (c.args.used ∷ []) (omega arith) (c.in_ok-push-2.ensures {u = tt}).items (c.in_ok-push.ensures {u = tt}).items
