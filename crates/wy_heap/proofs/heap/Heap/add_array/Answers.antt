use Rattle.std.proofs.Common.{◌≡◌, ◌+◌, ◌-◌, ◌++◌, length, arith, refl, sym, ap, ◌∙◌, length-append, append-nil, replicate, take}
use Rattle.std.proofs.lemmas.List.{length-replicate}
use Rattle.wy_kernel.specs.Program.{element_type, type_of_code}
use Rattle.wy_steps.specs.Steps.{default_value}
use Rattle.wy_heap.specs.Heap.{plan, element_count}
use Rattle.wy_heap.specs.declared.block.Block.TheVariants.{Array}
use Rattle.wy_heap.proofs.Apart.{array_behind, block_there, one_more_apart, same_apart, set_others}
use Rattle.wy_heap.proofs.Made.{keeps, makes-array, on_err, resized}
use Rattle.wy_heap.proofs.heap.Heap.add_array.Goals as goal

pub invariant_of-self : goal.invariant_of-self
invariant_of-self c = record {
  is_apart = same_apart _ _ _ _ _ _ _ _ c.args.self.now.is_apart refl (record { each = λ c known. known }) c.make_room.ensures.same;
  is_first = c.args.self.now.is_first;
}

pub returns-in_err-make_room-clause-refused : goal.returns-in_err-make_room-clause-refused
unfolding plan
returns-in_err-make_room-clause-refused c =
    on_err c.from_residual.result (keeps c.args.self.now _ (record { same_plan = refl; begun = refl; statics = refl; blocks = c.make_room.ensures.same; values = refl; units = refl; elements = refl }))

pub invariant_of-self-in-Break-branch-2 : goal.invariant_of-self-in-Break-branch-2
invariant_of-self-in-Break-branch-2 c = record {
  is_apart = same_apart _ _ _ _ _ _ _ _ c.args.self.now.is_apart refl (record { each = λ c known. known }) c.make_room.ensures.same;
  is_first = c.args.self.now.is_first;
}

pub returns-in_err-begin-clause-refused : goal.returns-in_err-begin-clause-refused
unfolding plan
returns-in_err-begin-clause-refused c =
    on_err c.from_residual-in_err-begin.result (keeps c.args.self.now _ (record { same_plan = refl; begun = refl; statics = refl; blocks = c.make_room.ensures.same; values = refl; units = refl; elements = refl }))

pub invariant_of-self-in-Break-branch-3 : goal.invariant_of-self-in-Break-branch-3
invariant_of-self-in-Break-branch-3 c = record {
  is_apart = rw c.in_err-resize.ensures.items (same_apart _ _ _ _ _ _ _ _ c.args.self.now.is_apart refl (record { each = λ c known. known }) c.make_room.ensures.same);
  is_first = c.args.self.now.is_first;
}

pub returns-in_err-resize-clause-refused : goal.returns-in_err-resize-clause-refused
unfolding plan
returns-in_err-resize-clause-refused c =
    on_err c.from_residual-in_err-resize.result (keeps c.args.self.now _ (record { same_plan = refl; begun = refl; statics = refl; blocks = c.make_room.ensures.same; values = c.in_err-resize.ensures.items; units = refl; elements = refl }))

pub overflow_add-self : goal.overflow_add-self
unfolding element_count
overflow_add-self c = omega (arith, c.requires)

pub invariant_of-self-2 : goal.invariant_of-self-2
invariant_of-self-2 c =
    let begin : c.in_ok-begin.begin ≡ length c.args.self.now.values.items = c.in_ok-begin.ensures ∙ ap length c.deref.ensures.value in
    let many : c.len.result ≡ length c.args.self.now.values.items = omega (arith, c.len.ensures, c.args.self.now.values.ok) in
    let values : c.resize.new.self.items ≡ c.args.self.now.values.items ++ replicate c.args.length c.first_of_element.result =
    resized c.args.self.now.values.items c.resize.new.self.items (c.len.result + c.args.length) c.len.result c.args.length c.first_of_element.result c.first_of_element.result (c.in_ok-resize.ensures.items ∙ ap (λ n. take (c.len.result + c.args.length) c.args.self.now.values.items ++ replicate (c.len.result + c.args.length - n) c.first_of_element.result) (sym c.len.ensures)) many refl refl in
    let more : length c.resize.new.self.items ≡ length c.args.self.now.values.items + c.args.length =
    ap length values ∙ length-append c.args.self.now.values.items (replicate c.args.length c.first_of_element.result) ∙ ap (λ n. length c.args.self.now.values.items + n) (length-replicate c.args.length c.first_of_element.result) in
    record {
      is_apart = one_more_apart _ _ _ _ c.args.self.now.blocks.items _ (length c.args.self.now.values.items) _ _ _ c.args.number (Array c.args.code (length c.args.self.now.values.items) c.args.length)
          c.args.self.now.is_apart refl (record { each = λ c known. known })
          (set_others c.args.self.now.blocks.items c.make_room.new.blocks.items c.args.number _ c.make_room.ensures.same)
          (block_there c.make_room.new.blocks.items c.args.number _ _ c.in_ok-make_room.ensures.room (ap (λ b. Array c.args.code b c.args.length) begin))
          (omega arith) (omega arith) (array_behind _ _ _ _ _ _ _ more);
      is_first = c.args.self.now.is_first;
    }

pub returns-clause-made : goal.returns-clause-made
unfolding plan element_count
returns-clause-made c =
    let begin : c.in_ok-begin.begin ≡ length c.args.self.now.values.items = c.in_ok-begin.ensures ∙ ap length c.deref.ensures.value in
    let many : c.len.result ≡ length c.args.self.now.values.items = omega (arith, c.len.ensures, c.args.self.now.values.ok) in
    makes-array c.args.number c.args.code c.args.length c.args.self.now _ (record {
      same_plan = refl;
      begun = refl;
      statics = refl;
      block = block_there c.make_room.new.blocks.items c.args.number _ _ c.in_ok-make_room.ensures.room (ap (λ b. Array c.args.code b c.args.length) begin);
      others = (set_others c.args.self.now.blocks.items c.make_room.new.blocks.items c.args.number _ c.make_room.ensures.same).each;
      values = resized c.args.self.now.values.items c.resize.new.self.items (c.len.result + c.args.length) c.len.result c.args.length c.first_of_element.result (default_value (element_type (type_of_code c.args.code))) (c.in_ok-resize.ensures.items ∙ ap (λ n. take (c.len.result + c.args.length) c.args.self.now.values.items ++ replicate (c.len.result + c.args.length - n) c.first_of_element.result) (sym c.len.ensures)) many refl c.first_of_element.ensures;
      units = sym (append-nil c.args.self.now.units.items);
    }) refl
