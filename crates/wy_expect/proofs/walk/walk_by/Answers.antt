use Rattle.std.proofs.Common.{◌≡◌, ◌<◌, ◌∙◌, ◌++◌, None, ap, arith, length, map, subst, sym, take}
use Rattle.std.specs.List.{flat_map}
use Rattle.std.proofs.lemmas.List.{length-map, take_all}
use Rattle.std.proofs.lemmas.Option.{same_Some}
use Rattle.wy_event.specs.Record.{recorded}
use Rattle.wy_kernel.specs.Parts.{program_of}
use Rattle.wy_telling.specs.Printed.{printed_by}
use Rattle.wy_view.proofs.Views.{keeps_itself, keeps_on}
use Rattle.wy_view.specs.Whole.{whole}
use Rattle.wy_expect.specs.Expected.{Begins, without_returns}
use Rattle.wy_expect.proofs.Walking.{put_front, put_inside, put_on}
use Rattle.wy_expect.proofs.walk.walk_by.Goals as goal

pub loop-n-init : goal.loop-n-init
loop-n-init g c = record {
  within = omega arith;
  keeps = keeps_itself (whole c.args.view.now.events.items None);
  printed = c.new-printed.ensures.items;
  begins = (c.args.expected.now, ap (λ xs. xs ++ c.args.expected.now) (sym c.new-printed.ensures.items));
}

pub loop-n-preserved : goal.loop-n-preserved
loop-n-preserved g c =
    let events = c.args.view.now.events.items in
    let rs = map recorded events in
    let now = map recorded c.loop-n.view.events.items in
    let v = c.loop-n.invariant in
    let same : now ≡ rs = same_Some now rs v.keeps.records in
    let lt : c.loop-n.n < length rs = omega (arith, length-map events recorded, c.count-n-end.ensures.count) in
    record {
      within = omega (arith, c.count-n-end.ensures.count);
      keeps = keeps_on (whole events None) (whole c.loop-n.view.events.items None) (whole c.put_plain.new.view.events.items None) v.keeps c.put_plain.ensures.keeps;
      printed = put_on (program_of c.args.program.now) rs now c.loop-n.n c.loop-n.printed.items c.put_plain.new.printed.items same lt (λ e at. c.in_ok-put_plain.ensures.printed e at c.in_ok-ends.ensures) v.printed;
      begins = subst (λ xs. Begins xs c.args.expected.now) c.as_slice.ensures.value (c.goes_on.ensures.0 c.if-not-goes_on.false);
    }

pub returns-then-not-goes_on-clause-walk : goal.returns-then-not-goes_on-clause-walk
returns-then-not-goes_on-clause-walk g c =
    let events = c.args.view.now.events.items in
    let rs = map recorded events in
    let now = map recorded c.loop-n.view.events.items in
    let v = c.loop-n.invariant in
    let same : now ≡ rs = same_Some now rs v.keeps.records in
    let lt : c.loop-n.n < length rs = omega (arith, length-map events recorded, c.count-n-end.ensures.count) in
    let more = put_on (program_of c.args.program.now) rs now c.loop-n.n c.loop-n.printed.items c.put_plain.new.printed.items same lt (λ e at. c.in_ok-put_plain.ensures.printed e at c.in_ok-ends.ensures) v.printed in
    record {
      finds = record {
        there = lt;
        before = subst (λ xs. Begins xs c.args.expected.now) v.printed v.begins;
        here = λ begun. let so = c.if-not-goes_on.true in let too = c.goes_on.ensures.1 (subst (λ xs. Begins xs c.args.expected.now) (sym (c.as_slice.ensures.value ∙ more)) begun) in cc;
      };
      to = more;
    }

pub returns-clause-walk : goal.returns-clause-walk
returns-clause-walk g c =
    let events = c.args.view.now.events.items in
    let rs = map recorded events in
    let p = program_of c.args.program.now in
    let v = c.loop-n.invariant in
    let all = take_all c.loop-n.n rs (omega (arith, length-map events recorded, v.within, c.count-n-end.ensures.count)) in
    let to = v.printed ∙ ap (λ xs. without_returns (flat_map (printed_by p rs) xs)) all in
    record { finds = subst (λ xs. Begins xs c.args.expected.now) to v.begins; to = to }

pub goes_on-requires-clause-inside : goal.goes_on-requires-clause-inside
goes_on-requires-clause-inside g c =
    let events = c.args.view.now.events.items in
    let rs = map recorded events in
    let now = map recorded c.loop-n.view.events.items in
    let same : now ≡ rs = same_Some now rs c.loop-n.invariant.keeps.records in
    let lt : c.loop-n.n < length rs = omega (arith, length-map events recorded, c.count-n-end.ensures.count) in
    let within = put_inside (program_of c.args.program.now) rs now c.loop-n.n c.loop-n.printed.items c.put_plain.new.printed.items same lt (λ e at. c.in_ok-put_plain.ensures.printed e at c.in_ok-ends.ensures) in
    omega (arith, c.len-before.ensures, ap length c.as_slice.ensures.value, within)

pub goes_on-requires-clause-begins : goal.goes_on-requires-clause-begins
goes_on-requires-clause-begins g c =
    let events = c.args.view.now.events.items in
    let rs = map recorded events in
    let now = map recorded c.loop-n.view.events.items in
    let same : now ≡ rs = same_Some now rs c.loop-n.invariant.keeps.records in
    let lt : c.loop-n.n < length rs = omega (arith, length-map events recorded, c.count-n-end.ensures.count) in
    let before = c.loop-n.printed.items in
    let len : c.len-before.result ≡ length before = omega (arith, c.len-before.ensures) in
    let front = put_front (program_of c.args.program.now) rs now c.loop-n.n before c.put_plain.new.printed.items same lt (λ e at. c.in_ok-put_plain.ensures.printed e at c.in_ok-ends.ensures) in
    let taken = ap (λ k. take k c.as_slice.result.now) len ∙ ap (take (length before)) c.as_slice.ensures.value ∙ front in
    subst (λ xs. Begins xs c.args.expected.now) (sym taken) c.loop-n.invariant.begins
