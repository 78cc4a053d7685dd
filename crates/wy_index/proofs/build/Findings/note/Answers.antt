use Rattle.std.proofs.Common.{◌∷◌, [], ◌++◌, ◌∙◌, ap}
use Rattle.wy_event.specs.Record.{recorded}
use Rattle.wy_kernel.specs.View.{present}
use Rattle.wy_index.specs.Found.{body_at}
use Rattle.wy_index.proofs.Findings.{found_more}
use Rattle.wy_index.proofs.build.Findings.note.Goals as goal

pub returns : goal.returns
unfolding recorded
returns c = λ rs found is. found_more c.args.self.now _ rs (recorded c.args.event.now) c.args.n c.caller.result found is c.requires.refers
    c.in_ok-note_write.ensures
    (c.in_ok-push.ensures.items ∙ ap (λ m. c.args.self.now.made.items ++ m ∷ []) c.made_by.ensures)
    c.in_ok-note_print.ensures
    c.in_ok-note_call.ensures
    c.in_ok-note_init.ensures
    (c.caller.ensures ∙ ap (λ b. body_at b (present c.args.event.now.frame)) c.deref.ensures.value)
    c.in_ok-note_hit.ensures
    (c.in_ok-push-2.ensures.items ∙ ap (λ m. c.args.self.now.bodies.items ++ m ∷ []) c.body_of.ensures)
