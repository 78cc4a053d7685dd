use Rattle.std.proofs.Common.{add-one, ap, map, refl, sym, ◌∙◌}
use Rattle.wy_calls.specs.Calls.{CallFrame as Body, CallStack as Calls, first_of, rest_of}
use Rattle.wy_operands.specs.Layout.{values_of}
use Rattle.wy_operation.proofs.Runs.{done_first}
use Rattle.wy_work.proofs.Rows.{events_rest, newest_rest, popped}
use Rattle.wy_work.proofs.machine.Machine.leave_body.Goals as goal

pub returns-clause-goes : goal.returns-clause-goes
returns-clause-goes g c p =
    let fs = c.args.self.now.state.calls.frames in
    let off = popped values_of c.args.self.now.saved.items c.pop.new.self.items c.in-Some.waiting c.in-Some.ensures.items in
    record {
      onward = λ f. rw (newest_rest fs) (done_first _ (λ u. f) tt (c.leave.ensures.step p));
      work = refl;
      depth = add-one c.args.self.now.depth;
      bodies = ap (λ (x : Calls). map (λ (y : Body). y.event) x.frames) c.leave.ensures.calls ∙ events_rest fs;
      scopes = ap (λ (x : Calls). x.scopes) c.leave.ensures.calls;
      values = sym (ap first_of off);
      saved = sym (ap rest_of off);
    }
