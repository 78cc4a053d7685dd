use Rattle.std.proofs.Common.{◌∷◌, [], ◌++◌, ◌∙◌, ap}
use Rattle.wy_event.specs.Record.{recorded}
use Rattle.wy_check.specs.Writes.{write_of}
use Rattle.wy_check.proofs.Histories.{asked_more, seen_more}
use Rattle.wy_check.proofs.history.History.note.Goals as goal

pub returns-clause-seen : goal.returns-clause-seen
unfolding recorded
returns-clause-seen c = λ rs seen is. seen_more c.args.self.now _ rs (recorded c.args.event.now) c.args.n seen is
    c.in_ok-note_write.ensures
    (c.in_ok-push.ensures.items ∙ ap (λ b. c.args.self.now.made.items ++ b ∷ []) c.is_new.ensures)
    c.in_ok-note_init.ensures

pub returns-clause-keeps : goal.returns-clause-keeps
returns-clause-keeps c = λ x asked. asked_more c.args.self.now (record { writes = c.note_write.new.writes; made = c.push.new.self; inits = c.note_init.new.inits }) (λ y ws. ws ++ write_of y c.args.n (recorded c.args.event.now)) c.in_ok-note_write.ensures x asked
