use Rattle.std.proofs.Common.{◌≡◌, ◌-◌, ap, sym, ◌∙◌, length, get_or, arith}
use Rattle.wy_operands.proofs.Puts.{none_there, value_is}
use Rattle.wy_operands.proofs.operands.Operands.value_at.Goals as goal

pub returns-then-above-count : goal.returns-then-above-count
returns-then-above-count c = ap (λ v. v.value) (sym (none_there c.args.self.now c.args.above (omega arith)))

pub returns : goal.returns
returns c =
    let count : c.len-count.result ≡ length c.args.self.now.values.items = omega arith in
    ap (λ o. o.value) (c.index.ensures ∙ ap (λ n. get_or c.args.self.now.values.items (n - 1 - c.args.above) c.index.result.now) count)
    ∙ value_is c.args.self.now c.args.above c.index.result.now (omega arith)
