use Rattle.std.proofs.Common.{arith, ltb-true, refl}
use Rattle.wy_overloads.specs.LineageView.{lineage_of}
use Rattle.wy_kernel.specs.Subtyping.{same}
use Rattle.wy_overloads.proofs.Straight.{straight}
use Rattle.wy_overloads.proofs.Related as related
use Rattle.wy_overloads.proofs.subtyping.is_below.Goals as goal

pub returns-then-n-m : goal.returns-then-n-m
returns-then-n-m c =
    related.at (lineage_of c.args.lineage.now).classes _ _ _ _ _ c.in-Of-Of.is-0 c.in-Of-Of.is-1
    (related.arrays_exact _ _ _ _ _ _ (related.top_in c.args.lineage.now) c.if-n-m.true c.is_object.ensures)

pub returns-else-n-m : goal.returns-else-n-m
returns-else-n-m c =
    related.at (lineage_of c.args.lineage.now).classes _ _ _ _ _ c.in-Of-Of.is-0 c.in-Of-Of.is-1
    (related.neither _ (λ t. omega (arith, ltb-true c.in-Of-Of.n c.in-Of-Of.m t, c.if-n-m.false)) (related.not_deeper _ _ _ _ _ (related.top_in c.args.lineage.now) c.if-m-n.false c.if-n-m.false))

pub returns-in-Of-Void : goal.returns-in-Of-Void
returns-in-Of-Void c =
    related.at (lineage_of c.args.lineage.now).classes _ _ _ _ _ c.in-Of-Void.is-0 c.in-Of-Void.is-1
    (related.not_below (λ b. let e = related.below_void _ (straight _ (related.top_in c.args.lineage.now) b) in cc))

pub returns-in-Of-Null : goal.returns-in-Of-Null
returns-in-Of-Null c =
    related.at (lineage_of c.args.lineage.now).classes _ _ _ _ _ c.in-Of-Null.is-0 c.in-Of-Null.is-1
    (related.not_below (λ b. let e = related.below_null _ (straight _ (related.top_in c.args.lineage.now) b) in cc))

pub returns-in-Null-Of : goal.returns-in-Null-Of
returns-in-Null-Of c =
    related.null_at (lineage_of c.args.lineage.now).classes _ _ _ _ _ (related.top_in c.args.lineage.now) c.in-Null-Of.is-0 c.in-Null-Of.is-1 c.is_reference.ensures

pub returns-in-Null-Null : goal.returns-in-Null-Null
returns-in-Null-Null c =
    related.at (lineage_of c.args.lineage.now).classes _ _ _ _ _ c.in-Null-Null.is-0 c.in-Null-Null.is-1 (related.both _ refl same)

pub returns-in-Null-Void : goal.returns-in-Null-Void
returns-in-Null-Void c =
    related.at (lineage_of c.args.lineage.now).classes _ _ _ _ _ c.in-Null-Void.is-0 c.in-Null-Void.is-1
    (related.not_below (λ b. let e = related.below_void _ (straight _ (related.top_in c.args.lineage.now) b) in cc))

pub returns-in-Void-Void : goal.returns-in-Void-Void
returns-in-Void-Void c =
    related.at (lineage_of c.args.lineage.now).classes _ _ _ _ _ c.in-Void-Void.is-0 c.in-Void-Void.is-1 (related.both _ refl same)

pub returns-in-Void-Null : goal.returns-in-Void-Null
returns-in-Void-Null c =
    related.at (lineage_of c.args.lineage.now).classes _ _ _ _ _ c.in-Void-Null.is-0 c.in-Void-Null.is-1
    (related.not_below (λ b. let e = related.below_null _ (straight _ (related.top_in c.args.lineage.now) b) in cc))

pub returns-in-Void-Of : goal.returns-in-Void-Of
returns-in-Void-Of c =
    related.at (lineage_of c.args.lineage.now).classes _ _ _ _ _ c.in-Void-Of.is-0 c.in-Void-Of.is-1
    (related.not_below (λ b. let e = related.above_void _ (straight _ (related.top_in c.args.lineage.now) b) in cc))
