use Rattle.std.proofs.Common.{ap, arith, map, refl}
use Rattle.std.proofs.lemmas.List.{reverse-append, map-append}
use Rattle.wy_calls.specs.Calls.{CallFrame as Body, CallStack as Calls}
use Rattle.wy_operation.proofs.Runs.{done_first}
use Rattle.wy_work.proofs.machine.Machine.enter.Goals as goal

pub returns : goal.returns
returns g c = record {
  goes = λ p. rw c.in_ok-push_step.ensures (record {
    onward = λ f. done_first _ (λ u. f) tt (c.in_ok-enter.ensures.step p);
    work = refl;
    depth = omega (arith, c.requires);
    bodies = ap (λ (x : Calls). map (λ (f : Body). f.event) x.frames) c.in_ok-enter.ensures.calls;
    scopes = ap (λ (x : Calls). x.scopes) c.in_ok-enter.ensures.calls;
    values = simp (c.replace-waiting.ensures.after, c.new.ensures);
    saved = simp (c.in_ok-push.ensures.items, map-append, reverse-append, c.replace-waiting.ensures.value);
  });
}
