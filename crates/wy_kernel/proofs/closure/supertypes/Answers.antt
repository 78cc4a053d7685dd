use Rattle.std.proofs.Common.{◌≡◌, ◌+◌, length, ap, sym, ◌∙◌, arith, rules, length-append}
use Rattle.std.specs.Prelude.{map}
use Rattle.std.proofs.lemmas.List.{length-map}
use Rattle.wy_kernel.specs.View.{class_of}
use Rattle.wy_kernel.proofs.Closing.{rows_so_far}
use Rattle.wy_kernel.proofs.closure.supertypes.Goals as goal

pub loop-c-preserved : goal.loop-c-preserved
loop-c-preserved c =
    record {
      many = simp length-append at (ap length c.in_ok-push.ensures.items) ∙ ap (λ n. n + 1) c.loop-c.invariant.many;
      each = rows_so_far (λ r. r.items) (map class_of c.args.classes.now) c.loop-c.rows.items c.push.new.self.items _ c.loop-c.c c.loop-c.invariant.many c.loop-c.invariant.each c.in_ok-push.ensures.items c.in_ok-supertypes_of.ensures;
    }

pub returns : goal.returns
returns c =
    let all : c.loop-c.c ≡ length c.args.classes.now = omega (arith, c.loop-c-test.false, c.loop-c.auto.c-end) in
    record {
      a_row_a_class = length-map c.loop-c.rows.items (λ r. r.items) ∙ c.loop-c.invariant.many ∙ all ∙ sym (length-map c.args.classes.now class_of);
      each = c.loop-c.invariant.each;
    }
