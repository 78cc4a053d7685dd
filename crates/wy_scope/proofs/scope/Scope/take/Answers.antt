use Rattle.std.proofs.Common.{◌∙◌, ◌++◌, ◌∷◌, [], refl, ap}
use Rattle.std.specs.Prelude.{◌&&◌}
use Rattle.std.specs.Option.{option_or}
use Rattle.wy_event.specs.Record.{recorded}
use Rattle.wy_scope.specs.Kept.{comes_at, first_at, noted}
use Rattle.wy_scope.proofs.scope.Scope.take.Goals as goal

pub returns : goal.returns
unfolding recorded
returns c = record {
  call = refl;
  entry = refl;
  marks = c.in_ok-push.ensures.items ∙ ap (λ b. c.args.self.now.marks.items ++ b ∷ []) c.holds_frame-mark.ensures;
  firsts = λ q. c.in_ok-note_marked.ensures q
      ∙ ap (λ b. option_or (first_at c.args.self.now.firsts q) (noted (b && comes_at q (recorded c.args.event.now)) c.args.n)) c.holds_frame-mark.ensures;
}
