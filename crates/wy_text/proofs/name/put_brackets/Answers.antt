use Rattle.std.proofs.Common.{◌∙◌, ◌++◌, ◌-◌, ap, arith}
use Rattle.wy_text.proofs.MemberNames.{all_pairs, one_more_pair}
use Rattle.wy_text.proofs.name.put_brackets.Goals as goal

pub loop-left-preserved : goal.loop-left-preserved
loop-left-preserved c =
    let e = c.in_ok-extend_from_slice.ensures {u = tt} in
    one_more_pair c.loop-left.name.items c.extend_from_slice.new.self.items _ c.loop-left.left (c.loop-left.left - 1) (omega arith) (e.items ∙ ap (λ xs. c.loop-left.name.items ++ xs) c.as_bytes.ensures.value) c.loop-left.invariant

pub returns : goal.returns
returns c = all_pairs c.loop-left.name.items _ c.loop-left.left (omega arith) c.loop-left.invariant
