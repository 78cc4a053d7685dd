use Rattle.std.proofs.Common.{◌<◌, ◌∙◌, ap, arith, length}
use Rattle.std.proofs.lemmas.List.{get_or_default}
use Rattle.wy_heap.specs.Plan.{unplanned}
use Rattle.wy_heap.specs.Layout.{lists_of}
use Rattle.wy_heap.proofs.Owns.{as_many, nothing_own, skips, takes}
use Rattle.wy_heap.proofs.layout.own_fields.Goals as goal
use Rattle.wy_heap.proofs.layout.own_fields.Goals.{then-not-field+in_ok-number+in_ok-add_own, else-not-field}

pub loop-number-init : goal.loop-number-init
loop-number-init c = record {
  many = as_many c.in_ok-own.own.items c.args.classes c.in_ok-own.ensures;
  own = rw c.in_ok-own.ensures (nothing_own c.args.fields.now c.args.classes);
}

pub loop-number-preserved : goal.loop-number-preserved
loop-number-preserved c =
    let inside : c.loop-number.number < length c.args.fields.now = omega arith in
    elim c.if-not-field.branch [
      | then-not-field+in_ok-number+in_ok-add_own w ↦ record {
        many = ap (λ own. length own.items) w.own-is ∙ w.in_ok-add_own.ensures.many ∙ c.loop-number.invariant.many;
        own = rw w.own-is (takes c.args.fields.now c.loop-number.number (lists_of c.loop-number.own.items) (lists_of w.add_own.new.own.items) _ c.loop-number.invariant.own (get_or_default c.args.fields.now c.loop-number.number _ unplanned inside) w.if-not-field.true (rw w.in_ok-number.ensures at w.in_ok-add_own.ensures.added));
      }
      | else-not-field w ↦ record {
        many = ap (λ own. length own.items) w.own-is ∙ c.loop-number.invariant.many;
        own = rw w.own-is (skips c.args.fields.now c.loop-number.number (lists_of c.loop-number.own.items) _ c.loop-number.invariant.own (get_or_default c.args.fields.now c.loop-number.number _ unplanned inside) w.if-not-field.false);
      }
    ]
