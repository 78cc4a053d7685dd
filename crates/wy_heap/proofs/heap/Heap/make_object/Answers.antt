use Rattle.std.proofs.Common.{◌≡◌, ◌∙◌, ◌+◌, ◌++◌, ap, sym, arith, length, refl, map, append-nil, length-append}
use Rattle.std.proofs.lemmas.List.{length-map}
use Rattle.wy_heap.specs.declared.block.Block.TheVariants.{Object}
use Rattle.wy_heap.specs.Plan.{Plan, fields_of, first_of}
use Rattle.wy_heap.specs.Layouts.{plan_in}
use Rattle.wy_heap.specs.Heap.{plan}
use Rattle.wy_heap.proofs.Apart.{block_there, object_behind, one_more_apart, same_apart, same_first, set_others}
use Rattle.wy_heap.proofs.Made.{keeps, makes-object, on_err}
use Rattle.wy_heap.proofs.heap.Heap.make_object.Goals as goal

pub returns-in_err-length-clause-refused : goal.returns-in_err-length-clause-refused
unfolding plan
returns-in_err-length-clause-refused c =
    on_err c.from_residual.result (keeps c.args.self.now _ (record { same_plan = c.lay_out.ensures.plan; begun = refl; statics = refl; blocks = λ n. refl; values = refl; units = refl; elements = refl }))

pub invariant_of-self-in-Break-branch-2 : goal.invariant_of-self-in-Break-branch-2
invariant_of-self-in-Break-branch-2 c = record {
  is_apart = same_apart _ _ _ _ _ _ _ _ c.args.self.now.is_apart c.lay_out.ensures.plan (record { each = c.lay_out.ensures.kept }) c.make_room.ensures.same;
  is_first = same_first _ _ _ _ c.args.self.now.is_first c.lay_out.ensures.plan;
}

pub returns-in_err-make_room-clause-refused : goal.returns-in_err-make_room-clause-refused
unfolding plan
returns-in_err-make_room-clause-refused c =
    on_err c.from_residual-in_err-make_room.result (keeps c.args.self.now _ (record { same_plan = c.lay_out.ensures.plan; begun = refl; statics = refl; blocks = c.make_room.ensures.same; values = refl; units = refl; elements = refl }))

pub invariant_of-self-in-Break-branch-3 : goal.invariant_of-self-in-Break-branch-3
invariant_of-self-in-Break-branch-3 c = record {
  is_apart = same_apart _ _ _ _ _ _ _ _ c.args.self.now.is_apart c.lay_out.ensures.plan (record { each = c.lay_out.ensures.kept }) c.make_room.ensures.same;
  is_first = same_first _ _ _ _ c.args.self.now.is_first c.lay_out.ensures.plan;
}

pub returns-in_err-begin-clause-refused : goal.returns-in_err-begin-clause-refused
unfolding plan
returns-in_err-begin-clause-refused c =
    on_err c.from_residual-in_err-begin.result (keeps c.args.self.now _ (record { same_plan = c.lay_out.ensures.plan; begun = refl; statics = refl; blocks = c.make_room.ensures.same; values = refl; units = refl; elements = refl }))

pub invariant_of-self-in-Break-branch-4 : goal.invariant_of-self-in-Break-branch-4
invariant_of-self-in-Break-branch-4 c = record {
  is_apart = rw c.in_err-extend_from_slice.ensures.items (same_apart _ _ _ _ _ _ _ _ c.args.self.now.is_apart c.lay_out.ensures.plan (record { each = c.lay_out.ensures.kept }) c.make_room.ensures.same);
  is_first = same_first _ _ _ _ c.args.self.now.is_first c.lay_out.ensures.plan;
}

pub returns-in_err-extend_from_slice-clause-refused : goal.returns-in_err-extend_from_slice-clause-refused
unfolding plan
returns-in_err-extend_from_slice-clause-refused c =
    on_err c.from_residual-in_err-extend_from_slice.result (keeps c.args.self.now _ (record { same_plan = c.lay_out.ensures.plan; begun = refl; statics = refl; blocks = c.make_room.ensures.same; values = c.in_err-extend_from_slice.ensures.items; units = refl; elements = refl }))

pub invariant_of-self-2 : goal.invariant_of-self-2
invariant_of-self-2 c =
    let begin : c.in_ok-begin.begin ≡ length c.args.self.now.values.items = c.in_ok-begin.ensures ∙ ap length c.deref.ensures.value in
    let many : c.in_ok-length.length ≡ length (fields_of (plan_in c.args.self.now.layouts) c.args.class) = c.in_ok-length.ensures.many in
    let fields : length c.firsts.result.now ≡ c.in_ok-length.length =
    ap length c.firsts.ensures ∙ length-map (fields_of (plan_in c.lay_out.new.self) c.args.class) (first_of (plan_in c.lay_out.new.self)) ∙ ap (λ (p : Plan). length (fields_of p c.args.class)) c.lay_out.ensures.plan ∙ sym many in
    let more : length c.extend_from_slice.new.self.items ≡ length c.args.self.now.values.items + c.in_ok-length.length =
    ap length c.in_ok-extend_from_slice.ensures.items ∙ length-append c.args.self.now.values.items c.firsts.result.now ∙ ap (λ n. length c.args.self.now.values.items + n) fields in
    record {
      is_apart = one_more_apart _ _ c.args.self.now.layouts.rows.items _ c.args.self.now.blocks.items _ (length c.args.self.now.values.items) _ _ _ c.args.number (Object c.args.class (length c.args.self.now.values.items) c.in_ok-length.length)
          c.args.self.now.is_apart c.lay_out.ensures.plan (record { each = c.lay_out.ensures.kept })
          (set_others c.args.self.now.blocks.items c.make_room.new.blocks.items c.args.number _ c.make_room.ensures.same)
          (block_there c.make_room.new.blocks.items c.args.number _ _ c.in_ok-make_room.ensures.room (ap (λ b. Object c.args.class b c.in_ok-length.length) begin))
          (omega arith) (omega arith) (object_behind _ _ _ _ _ _ _ more c.in_ok-length.ensures.known many c.in_ok-length.ensures.code);
      is_first = same_first _ _ _ _ c.args.self.now.is_first c.lay_out.ensures.plan;
    }

pub returns-clause-made : goal.returns-clause-made
unfolding plan
returns-clause-made c =
    let begin : c.in_ok-begin.begin ≡ length c.args.self.now.values.items = c.in_ok-begin.ensures ∙ ap length c.deref.ensures.value in
    makes-object c.args.number c.args.class c.in_ok-length.length c.args.self.now _ (record {
      same_plan = c.lay_out.ensures.plan;
      begun = refl;
      statics = refl;
      block = block_there c.make_room.new.blocks.items c.args.number _ _ c.in_ok-make_room.ensures.room (ap (λ b. Object c.args.class b c.in_ok-length.length) begin);
      others = (set_others c.args.self.now.blocks.items c.make_room.new.blocks.items c.args.number _ c.make_room.ensures.same).each;
      values = c.in_ok-extend_from_slice.ensures.items ∙ ap (λ vs. c.args.self.now.values.items ++ vs) (c.firsts.ensures ∙ ap (λ (p : Plan). map (first_of p) (fields_of p c.args.class)) c.lay_out.ensures.plan);
      units = sym (append-nil c.args.self.now.units.items);
    }) refl
