use Rattle.std.proofs.Common.{◌≡◌, true, false, ◌&&◌, ap, sym, ◌∙◌}
use Rattle.std.specs.Prelude.{if◌then◌else◌, Some, None}
use Rattle.wy_event.specs.Record.{recorded}
use Rattle.wy_kernel.specs.View.{present}
use Rattle.wy_event.specs.Sources.{is_entity, or_else}
use Rattle.wy_index.specs.Found.{is_init}
use Rattle.wy_index.proofs.Firsts.{else_nothing}
use Rattle.wy_check.specs.Writes.{first_of}
use Rattle.wy_check.proofs.history.note_init.Goals as goal

pub returns-in_ok-note_first : goal.returns-in_ok-note_first
unfolding recorded
returns-in_ok-note_first c = λ q.
    let kind : is_init c.args.event.now.kind ≡ true = sym c.is_init.ensures ∙ c.if-is_init.true in
    c.in_ok-note_first.ensures q ∙ ap (λ b. or_else (first_of c.args.inits.now q) (if b && is_entity (present c.args.event.now.entity) q then Some c.args.n else None)) (sym kind)

pub returns-else-is_init : goal.returns-else-is_init
unfolding recorded
returns-else-is_init c = λ q.
    let kind : is_init c.args.event.now.kind ≡ false = sym c.is_init.ensures ∙ c.if-is_init.false in
    sym (ap (λ b. or_else (first_of c.args.inits.now q) (if b && is_entity (present c.args.event.now.entity) q then Some c.args.n else None)) kind ∙ else_nothing (first_of c.args.inits.now q))
