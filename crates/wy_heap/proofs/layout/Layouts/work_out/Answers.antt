use Rattle.std.proofs.Common.{◌≡◌, ◌<◌, ◌∙◌, ap, arith, length, map, reverse, subst, List, ℕ}
use Rattle.wy_heap.specs.declared.layout.Row.{Row}
use Rattle.wy_heap.specs.Plan.{fields_of, first_of}
use Rattle.wy_heap.specs.Layout.{IsPlaced}
use Rattle.wy_heap.specs.Layouts.{plan_in}
use Rattle.wy_heap.proofs.Laid.{known_there, one_more_row, stay_known, stay_laid}
use Rattle.wy_heap.proofs.layout.Layouts.work_out.Goals as goal

pub invariant_of-self : goal.invariant_of-self
invariant_of-self c = record { is_laid_out = stay_laid _ _ _ _ c.args.self.now.offsets.items c.args.self.now.is_laid_out c.place_fields.new.offsets.items c.place_fields.ensures.kept }

pub index_mut-requires : goal.index_mut-requires
index_mut-requires c = omega (arith, c.if-class-len.false, c.len.ensures)

pub invariant_of-self-2 : goal.invariant_of-self-2
unfolding fields_of
invariant_of-self-2 c =
    let inside : c.args.class < length c.args.self.now.rows.items = omega (arith, c.if-class-len.false, c.len.ensures, c.args.self.now.rows.ok) in
    let the_row : Row = record { fields = c.reverse.new.self; firsts = c.in_ok-firsts.firsts } in
    let fields : c.reverse.new.self.items ≡ fields_of (plan_in c.args.self.now) c.args.class = c.reverse.ensures.items ∙ ap (λ (xs : List ℕ). reverse xs) c.in_ok-fields.ensures in
    let firsts = c.in_ok-firsts.ensures ∙ ap (map (first_of (plan_in c.args.self.now))) (c.deref.ensures.value ∙ fields) in
    let placed = subst (λ (xs : List ℕ). IsPlaced c.place_fields.new.offsets.items xs) c.deref-2.ensures.value (c.place_fields.ensures.placed c.if-not-place_fields.false) in
    record {
      is_laid_out = one_more_row _ _ _ c.args.self.now.rows.items c.place_fields.new.offsets.items
          (stay_laid _ _ _ _ c.args.self.now.offsets.items c.args.self.now.is_laid_out c.place_fields.new.offsets.items c.place_fields.ensures.kept)
          c.args.class the_row inside (record { fields = fields; firsts = firsts; placed = placed });
    }

pub returns-clause-kept : goal.returns-clause-kept
returns-clause-kept c d was =
    let inside : c.args.class < length c.args.self.now.rows.items = omega (arith, c.if-class-len.false, c.len.ensures, c.args.self.now.rows.ok) in
    stay_known c.args.self.now.rows.items c.args.class d _ inside was

pub returns-clause-known : goal.returns-clause-known
returns-clause-known c =
    let inside : c.args.class < length c.args.self.now.rows.items = omega (arith, c.if-class-len.false, c.len.ensures, c.args.self.now.rows.ok) in
    known_there c.args.self.now.rows.items c.args.class _ inside
