use Rattle.wy_overloads.proofs.Members.{counted_by_result}
use Rattle.wy_overloads.proofs.Related.{untrue}
use Rattle.wy_overloads.proofs.counting.is_counted.Goals as goal
use Rattle.wy_overloads.proofs.counting.is_counted.Goals.{else-not-m-via-then-not-m+else-is_nearest, else-not-m-via-else-not-m}

pub returns-then-has_lowest_result : goal.returns-then-has_lowest_result
returns-then-has_lowest_result c =
    counted_by_result _ _ _ _ _ c.nearest_has_body.ensures (c.has_lowest_result.ensures.0 c.if-has_lowest_result.true)
    (λ near concrete. elim c.else-not-m.branch [
      | else-not-m-via-then-not-m+else-is_nearest w ↦ untrue _ w.if-is_nearest.false (w.is_nearest.ensures.1 near)
      | else-not-m-via-else-not-m w ↦ (let abstract = w.if-not-m.false in cc)
    ])
