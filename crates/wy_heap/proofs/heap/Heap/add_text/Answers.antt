use Rattle.std.proofs.Common.{◌≡◌, ◌+◌, length, arith, refl, sym, ap, ◌∙◌, length-append, append-nil}
use Rattle.wy_heap.specs.Heap.{plan, unit_count}
use Rattle.wy_heap.specs.declared.block.Block.TheVariants.{Text}
use Rattle.wy_heap.proofs.Apart.{block_there, one_more_apart, same_apart, set_others, text_behind}
use Rattle.wy_heap.proofs.Made.{keeps, makes-text, on_err}
use Rattle.wy_heap.proofs.heap.Heap.add_text.Goals as goal

pub invariant_of-self : goal.invariant_of-self
invariant_of-self c = record {
  is_apart = same_apart _ _ _ _ _ _ _ _ c.args.self.now.is_apart refl (record { each = λ c known. known }) c.make_room.ensures.same;
  is_first = c.args.self.now.is_first;
}

pub returns-in_err-make_room-clause-refused : goal.returns-in_err-make_room-clause-refused
unfolding plan
returns-in_err-make_room-clause-refused c =
    on_err c.from_residual.result (keeps c.args.self.now _ (record { same_plan = refl; begun = refl; statics = refl; blocks = c.make_room.ensures.same; values = refl; units = refl; elements = refl }))

pub overflow_cast-begin : goal.overflow_cast-begin
unfolding unit_count
overflow_cast-begin c = omega (arith, c.requires, c.len-begin.ensures, c.args.self.now.units.ok)

pub invariant_of-self-in-Break-branch-2 : goal.invariant_of-self-in-Break-branch-2
invariant_of-self-in-Break-branch-2 c = record {
  is_apart = rw c.in_err-extend_from_slice.ensures.items (same_apart _ _ _ _ _ _ _ _ c.args.self.now.is_apart refl (record { each = λ c known. known }) c.make_room.ensures.same);
  is_first = c.args.self.now.is_first;
}

pub returns-in_err-extend_from_slice-clause-refused : goal.returns-in_err-extend_from_slice-clause-refused
unfolding plan
returns-in_err-extend_from_slice-clause-refused c =
    on_err c.from_residual-in_err-extend_from_slice.result (keeps c.args.self.now _ (record { same_plan = refl; begun = refl; statics = refl; blocks = c.make_room.ensures.same; values = refl; units = c.in_err-extend_from_slice.ensures.items; elements = refl }))

pub invariant_of-self-2 : goal.invariant_of-self-2
invariant_of-self-2 c =
    let begin : c.len-begin.result ≡ length c.args.self.now.units.items = omega (arith, c.len-begin.ensures, c.args.self.now.units.ok) in
    let more : length c.extend_from_slice.new.self.items ≡ length c.args.self.now.units.items + length c.args.units.now = ap length c.in_ok-extend_from_slice.ensures.items ∙ length-append c.args.self.now.units.items c.args.units.now in
    let inside = c.in_ok-make_room.ensures.room in
    record {
      is_apart = one_more_apart _ _ _ _ c.args.self.now.blocks.items _ _ _ (length c.args.self.now.units.items) _ c.args.number (Text (length c.args.self.now.units.items) (length c.args.units.now))
          c.args.self.now.is_apart refl (record { each = λ c known. known })
          (set_others c.args.self.now.blocks.items c.make_room.new.blocks.items c.args.number _ c.make_room.ensures.same)
          (block_there c.make_room.new.blocks.items c.args.number _ _ inside (ap (λ b. Text b (length c.args.units.now)) begin))
          (omega arith) (omega arith) (text_behind _ _ _ _ _ _ more);
      is_first = c.args.self.now.is_first;
    }

pub returns-clause-made : goal.returns-clause-made
unfolding plan
returns-clause-made c =
    let begin : c.len-begin.result ≡ length c.args.self.now.units.items = omega (arith, c.len-begin.ensures, c.args.self.now.units.ok) in
    makes-text c.args.number c.args.units.now c.args.self.now _ (record {
      same_plan = refl;
      begun = refl;
      statics = refl;
      block = block_there c.make_room.new.blocks.items c.args.number _ _ c.in_ok-make_room.ensures.room (ap (λ b. Text b (length c.args.units.now)) begin);
      others = (set_others c.args.self.now.blocks.items c.make_room.new.blocks.items c.args.number _ c.make_room.ensures.same).each;
      values = sym (append-nil c.args.self.now.values.items);
      units = c.in_ok-extend_from_slice.ensures.items;
    }) refl
