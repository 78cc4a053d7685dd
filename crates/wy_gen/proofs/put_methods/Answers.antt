use Rattle.std.proofs.Common.{rules, arith, string_bytes}
use Rattle.wy_gen.specs.Generated.{method}
use Rattle.wy_gen.proofs.Lines.{one_more}
use Rattle.wy_gen.proofs.put_methods.Goals as goal

pub loop-k-preserved : goal.loop-k-preserved
loop-k-preserved c = one_more (method c.args.n) (string_bytes c.loop-k.text) (string_bytes c.push_str.new.self) _ c.loop-k.k c.args.n (omega arith) (search rules) c.loop-k.invariant
