use Rattle.std.proofs.Common.{rules}
use Rattle.std.specs.Prelude.{nat_lt}
use Rattle.std.proofs.lemmas.List.Sorted.{IsPartitionPoint-from_clause, IsPartitionedBy-ltb}
use Rattle.wy_cert.specs.declared.certificate.Listed.{Listed}
use Rattle.wy_check.proofs.Ends.{lines_order, splits}
use Rattle.wy_check.proofs.answer.lines_below.Goals as goal

pub returns : goal.returns
returns c = λ high up.
    let ls = c.args.lines.now in
    let m = c.args.count in
    let i = c.partition_point-there.result in
    let point = IsPartitionPoint-from_clause (λ (l : Listed). nat_lt l.event m) ls i c.partition_point-there.ensures.partitioned (IsPartitionedBy-ltb (λ (l : Listed). l.event) ls m (lines_order 0 high ls up)) (λ a r f' k. search rules) in
    splits ls m i point
