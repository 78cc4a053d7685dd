use Rattle.std.proofs.Common.{◌≡◌, true, false, ◌&&◌, ap, sym, ◌∙◌}
use Rattle.std.specs.Prelude.{if◌then◌else◌, Some, None}
use Rattle.std.specs.BTreeMap.{get}
use Rattle.std.specs.Ordering.{nat_cmp}
use Rattle.wy_event.specs.Record.{recorded}
use Rattle.wy_kernel.specs.View.{present}
use Rattle.wy_event.specs.Sources.{is_entity, or_else}
use Rattle.wy_index.specs.Found.{is_call}
use Rattle.wy_index.proofs.Firsts.{else_nothing}
use Rattle.wy_index.proofs.build.note_call.Goals as goal

pub returns-in_ok-note_first : goal.returns-in_ok-note_first
unfolding recorded
returns-in_ok-note_first c = λ q.
    let kind : is_call c.args.event.now.kind ≡ true = sym c.is_call.ensures ∙ c.if-is_call.true in
    c.in_ok-note_first.ensures q ∙ ap (λ b. or_else (get nat_cmp c.args.calls.now q) (if b && is_entity (present c.args.event.now.entity) q then Some c.args.n else None)) (sym kind)

pub returns-else-is_call : goal.returns-else-is_call
unfolding recorded
returns-else-is_call c = λ q.
    let kind : is_call c.args.event.now.kind ≡ false = sym c.is_call.ensures ∙ c.if-is_call.false in
    sym (ap (λ b. or_else (get nat_cmp c.args.calls.now q) (if b && is_entity (present c.args.event.now.entity) q then Some c.args.n else None)) kind ∙ else_nothing (get nat_cmp c.args.calls.now q))
