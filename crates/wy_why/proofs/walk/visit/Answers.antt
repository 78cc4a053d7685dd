-- The event is read, and marks its sources.
use Rattle.std.proofs.Common.{◌≡◌, ◌+◌, ◌*◌, ◌||◌, Bool, ℕ, List, Vec, Global, length, subst, sym, ap, ◌∙◌, arith}
use Rattle.std.proofs.lemmas.Option.{same_Some}
use Rattle.wy_event.specs.Numbers.{only, union_of}
use Rattle.wy_event.specs.Record.{Recorded, recorded}
use Rattle.wy_event.specs.Sources.{event_sources}
use Rattle.wy_view.specs.References.{RefersBelow}
use Rattle.wy_index.specs.Index.{IsIndexOf, owners_of}
use Rattle.wy_why.specs.declared.mark.Mark.{Mark}
use Rattle.wy_why.specs.Marks.{marked, taken}
use Rattle.wy_why.specs.Uses.{places_of}
use Rattle.wy_why.proofs.Marking.{or_no}
use Rattle.wy_why.proofs.Closures.{refers_up, sources_below}
use Rattle.wy_why.proofs.Walking.{told_one, told_record, sources_at, not_taken, written_back}
use Rattle.wy_why.proofs.walk.visit.Goals as goal

pub mark_sources-requires-clause-refers : goal.mark_sources-requires-clause-refers
mark_sources-requires-clause-refers g c = subst (λ n. RefersBelow n (recorded c.in_ok-event.event.now)) (sym (ap length c.deref_mut.ensures.value)) (refers_up c.args.k (length c.args.walk.now.marks.items) (recorded c.in_ok-event.event.now) (omega arith) c.in_ok-event.ensures.refers)

pub returns-clause-visited : goal.returns-clause-visited
unfolding recorded
returns-clause-visited g c =
    let told = g.V.EventView.tells c.args.view.now in
    let index = c.args.index.now in
    let owner = owners_of index in
    let flow = c.args.flow in
    let e = recorded c.in_ok-event.event.now in
    let old = c.args.walk.now.marks.items in
    let new = c.take.new.self.marks.items in
    let whole = c.requires.index in
    let long : length c.mark_sources.new.marks ≡ length old = c.mark_sources.auto.marks ∙ ap length c.deref_mut.ensures.value in
    let back = written_back c.args.walk.now.marks.len c.mark_sources.new.marks old (sym c.args.walk.now.marks.ok.0) long in
    let after = λ (rs : List Recorded) (is : IsIndexOf index rs) (all : Bool) (j : ℕ).
    ap (λ (v : Vec Mark Global). marked all v.items j) c.in_ok-take.ensures.marks ∙ ap (λ l. marked all l j) back ∙ c.mark_sources.ensures.marks rs is all j
    ∙ ap (λ l. marked all l j || union_of only (taken all flow (event_sources owner rs e)) j) c.deref_mut.ensures.value in
    record {
      in_all = c.in_ok-take.ensures.all;
      in_flow = c.in_ok-take.ensures.flow;
      room = ap (λ (v : Vec Mark Global). length v.items) c.in_ok-take.ensures.marks ∙ ap length back ∙ long;
      stay = λ all j le. after whole.records whole.is_index all j ∙ ap (λ b. marked all old j || b) (not_taken all flow c.args.k (event_sources owner whole.records e) j (sources_below owner whole.records c.args.k e c.in_ok-event.ensures.refers) le) ∙ or_no (marked all old j);
      marks = λ rs is all j.
          let same : rs ≡ whole.records = told_one told.records rs whole.records is whole.as_told in
          let at = told_record told.records rs c.args.k e is c.in_ok-event.ensures.record in
          after rs (subst (IsIndexOf index) (sym same) whole.is_index) all j ∙ ap (λ l. marked all old j || union_of only (taken all flow l) j) (sym (sources_at owner rs c.args.k e at));
      below = λ rs is r at. subst (RefersBelow c.args.k) (same_Some e r (sym (told_record told.records rs c.args.k e is c.in_ok-event.ensures.record) ∙ at)) c.in_ok-event.ensures.refers;
      steps = λ rs is l halvings.
          let at = told_record told.records rs c.args.k e is c.in_ok-event.ensures.record in
          omega (arith, c.in_ok-event.ensures.step, c.mark_sources.ensures.steps l halvings, ap (λ o. places_of o * (l + 1)) at);
    }
