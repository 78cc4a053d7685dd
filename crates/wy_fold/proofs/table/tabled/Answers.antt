use Rattle.std.proofs.Common.{◌∙◌, ℕ, [], ap, arith, get_or, map}
use Rattle.std.proofs.lemmas.List.{length-map, take_all}
use Rattle.std.specs.declared.vec.Vec.{Vec}
use Rattle.std.specs.declared.alloc.Global.{Global}
use Rattle.wy_event.specs.Record.{recorded}
use Rattle.wy_fold.specs.Groups.{lists_of}
use Rattle.wy_fold.specs.Places.{line_at, on_line}
use Rattle.wy_fold.proofs.Tables.{as_many, nothing_there, one_more_event, same_many}
use Rattle.wy_fold.proofs.table.tabled.Goals as goal

pub loop-event-init : goal.loop-event-init
loop-event-init c =
    let rs = map recorded c.args.records.now in
    record {
      inside = λ n. omega (arith, as_many c.in_ok-rows.rows.items _ c.in_ok-rows.ensures, c.greatest_line.ensures rs n);
      each = λ k. ap (λ xs. get_or xs k []) c.in_ok-rows.ensures ∙ nothing_there _ k;
    }

pub put-requires : goal.put-requires
put-requires c = omega (arith, c.line_at.ensures, c.loop-event.invariant.inside (get_or c.args.events.now c.loop-event.event-index 0))

pub loop-event-preserved : goal.loop-event-preserved
loop-event-preserved c =
    let at = line_at c.args.program.now.lines.items (map recorded c.args.records.now) in
    let events = c.args.events.now in
    let i = c.loop-event.event-index in
    let old = c.loop-event.rows.items in
    let new = c.put.new.rows.items in
    let is = rw (c.line_at.ensures) at c.in_ok-put.ensures in
    let many = same_many old new _ _ is in
    record {
      inside = λ n. omega (arith, many, c.loop-event.invariant.inside n);
      each = one_more_event at events i (lists_of old) (lists_of new) c.loop-event-test.true
          (omega (arith, length-map old (λ (v : Vec ℕ Global). v.items), c.loop-event.invariant.inside (get_or events i 0))) is c.loop-event.invariant.each;
    }

pub returns-clause-table : goal.returns-clause-table
returns-clause-table c =
    let at = line_at c.args.program.now.lines.items (map recorded c.args.records.now) in
    record {
      inside = c.loop-event.invariant.inside;
      each = λ k. c.loop-event.invariant.each k ∙ ap (on_line at k) (take_all c.loop-event.event-index c.args.events.now c.loop-event-test.false);
    }
