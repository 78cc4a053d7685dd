use Rattle.std.proofs.Common.{sym, ◌∙◌, below_more}
use Rattle.std.specs.Prelude.{map}
use Rattle.std.proofs.lemmas.List.{length-map}
use Rattle.wy_kernel.specs.View.{class_of}
use Rattle.wy_table.proofs.Rows.{none_made}
use Rattle.wy_table.proofs.above.rows.Goals as goal

pub loop-c-init : goal.loop-c-init
loop-c-init c =
    none_made (λ row. row.items) (map class_of c.args.classes.now) c.args.numbers.now c.in_ok-rows.rows.items (c.in_ok-rows.ensures.long ∙ sym (length-map c.args.classes.now class_of)) c.in_ok-rows.ensures.empty

pub loop-c-2-preserved : goal.loop-c-2-preserved
loop-c-2-preserved c = record {
  begun = c.in_ok-make-2.ensures.made.begun;
  made = below_more _ _ (λ k lt. c.in_ok-make-2.ensures.made.stays k (c.loop-c-2.invariant.made k lt)) c.in_ok-make-2.ensures.made.here;
}
