use Rattle.std.proofs.Common.{sym, [], arith}
use Rattle.std.proofs.lemmas.List.{append-nil}
use Rattle.wy_operands.proofs.Puts.{put_on}
use Rattle.wy_operands.proofs.operands.Operands.push.Goals as goal

pub returns : goal.returns
returns c = put_on c.args.self.now _ c.args.value c.len-from.result [] (omega arith) (c.in_ok-push.ensures {u = tt}).items (sym (append-nil _))
