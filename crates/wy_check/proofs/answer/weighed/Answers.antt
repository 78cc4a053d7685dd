-- The lines whose events are there come first, and both passes are over them.
use Rattle.std.proofs.Common.{◌≡◌, ◌+◌, ◌*◌, ◌^◌, ◌<◌, ◌≤◌, length, refl, sym, ap, ◌∙◌, subst, arith}
use Rattle.std.specs.Prelude.{IfSome, List}
use Rattle.wy_event.specs.Record.{Recorded}
use Rattle.wy_view.proofs.Views.{at_most, more_reads}
use Rattle.wy_why.specs.Answer.{Rises}
use Rattle.wy_cert.specs.Spelling.{events}
use Rattle.wy_check.specs.Faults.{SplitsAt}
use Rattle.wy_check.proofs.Ends.{all_below, all_in_front, below_rises, few_rise, front_up, rises_to}
use Rattle.wy_check.proofs.Flows.{if_ok}
use Rattle.wy_check.proofs.answer.weighed.Goals as goal

pub ask_lines-requires : goal.ask_lines-requires
ask_lines-requires g c =
    let told = g.V.EventView.tells in
    let lines = c.lines_below-lines.result.now in
    let splits : SplitsAt c.count.result c.args.certificate.now.listed lines = subst (λ ls. SplitsAt c.count.result ls lines) c.as_slice.ensures (c.lines_below-lines.ensures (2 ^ 32) (subst (λ ls. Rises 0 (2 ^ 32) (events ls)) (sym c.as_slice.ensures) c.requires)) in
    all_below lines (told c.args.view.now).count (λ l has. subst (λ n. l.event < n) c.count.ensures.count (splits.below l has))

pub end_of-requires : goal.end_of-requires
end_of-requires g c =
    let lines = c.lines_below-lines.result.now in
    let splits : SplitsAt c.count.result c.args.certificate.now.listed lines = subst (λ ls. SplitsAt c.count.result ls lines) c.as_slice.ensures (c.lines_below-lines.ensures (2 ^ 32) (subst (λ ls. Rises 0 (2 ^ 32) (events ls)) (sym c.as_slice.ensures) c.requires)) in
    all_below lines 4294967295 (λ l has. let below = splits.below l has in omega (arith, below, c.count.auto))

pub weigh_lines-requires-clause-rises : goal.weigh_lines-requires-clause-rises
weigh_lines-requires-clause-rises g c =
    let lines = c.lines_below-lines.result.now in
    let splits : SplitsAt c.count.result c.args.certificate.now.listed lines = subst (λ ls. SplitsAt c.count.result ls lines) c.as_slice.ensures (c.lines_below-lines.ensures (2 ^ 32) (subst (λ ls. Rises 0 (2 ^ 32) (events ls)) (sym c.as_slice.ensures) c.requires)) in
    let up = front_up (2 ^ 32) c.count.result c.args.certificate.now.listed lines splits c.requires in
    c.end_of.ensures.rises (2 ^ 32) up

pub weigh_lines-requires-clause-end : goal.weigh_lines-requires-clause-end
weigh_lines-requires-clause-end g c =
    let told = g.V.EventView.tells in
    let lines = c.lines_below-lines.result.now in
    let splits : SplitsAt c.count.result c.args.certificate.now.listed lines = subst (λ ls. SplitsAt c.count.result ls lines) c.as_slice.ensures (c.lines_below-lines.ensures (2 ^ 32) (subst (λ ls. Rises 0 (2 ^ 32) (events ls)) (sym c.as_slice.ensures) c.requires)) in
    let within = c.end_of.ensures.within c.count.result (all_below lines c.count.result splits.below) in
    omega (arith, within, c.count.ensures.count, c.in_ok-history.ensures.keeps.count)

pub returns-clause-whole : goal.returns-clause-whole
returns-clause-whole g c = λ rs is.
    let told = g.V.EventView.tells in
    let listed = c.args.certificate.now.listed in
    let lines = c.lines_below-lines.result.now in
    let splits : SplitsAt c.count.result listed lines = subst (λ ls. SplitsAt c.count.result ls lines) c.as_slice.ensures (c.lines_below-lines.ensures (2 ^ 32) (subst (λ ls. Rises 0 (2 ^ 32) (events ls)) (sym c.as_slice.ensures) c.requires)) in
    let up = front_up (2 ^ 32) c.count.result listed lines splits c.requires in
    let long : length rs ≡ (told c.args.view.now).count = subst (λ o. IfSome o (λ (all : List Recorded). length all ≡ (told c.args.view.now).count)) is c.count.ensures.told in
    if_ok c.weigh_lines.result (λ w weighed. record {
      front = lines;
      end = c.end_of.result;
      splits = subst (λ n. SplitsAt n listed lines) (c.count.ensures.count ∙ sym long) splits;
      rises = c.requires;
      within = c.end_of.ensures.rises (2 ^ 32) up;
      weighed = weighed;
    }) (c.weigh_lines.ensures.weighed rs (c.in_ok-history.ensures.keeps.records ∙ is) c.in_ok-history.ensures.seen (c.in_ok-history.ensures.asked rs is))

pub returns-clause-below : goal.returns-clause-below
returns-clause-below g c =
    let told = g.V.EventView.tells in
    let listed = c.args.certificate.now.listed in
    let lines = c.lines_below-lines.result.now in
    let splits : SplitsAt c.count.result listed lines = subst (λ ls. SplitsAt c.count.result ls lines) c.as_slice.ensures (c.lines_below-lines.ensures (2 ^ 32) (subst (λ ls. Rises 0 (2 ^ 32) (events ls)) (sym c.as_slice.ensures) c.requires)) in
    let up = front_up (2 ^ 32) c.count.result listed lines splits c.requires in
    let within = c.end_of.ensures.within c.count.result (all_below lines c.count.result splits.below) in
    if_ok c.weigh_lines.result (λ w few le.
    let same : listed ≡ lines = all_in_front c.count.result listed lines splits (omega (arith, le, few)) in
    subst (λ ls. Rises 0 (told c.args.view.now).count (events ls)) (sym same)
    (rises_to 0 c.end_of.result (told c.args.view.now).count lines (c.end_of.ensures.rises (2 ^ 32) up) (omega (arith, within, c.count.ensures.count)))) c.weigh_lines.ensures.few

pub returns-clause-reads : goal.returns-clause-reads
returns-clause-reads g c =
    let told = g.V.EventView.tells in
    let listed = c.args.certificate.now.listed in
    let lines = c.lines_below-lines.result.now in
    let splits : SplitsAt c.count.result listed lines = subst (λ ls. SplitsAt c.count.result ls lines) c.as_slice.ensures (c.lines_below-lines.ensures (2 ^ 32) (subst (λ ls. Rises 0 (2 ^ 32) (events ls)) (sym c.as_slice.ensures) c.requires)) in
    let up = front_up (2 ^ 32) c.count.result listed lines splits c.requires in
    let within = c.end_of.ensures.within c.count.result (all_below lines c.count.result splits.below) in
    let few = few_rise 0 c.end_of.result lines (omega arith) (c.end_of.ensures.rises (2 ^ 32) up) in
    at_most (length lines + c.end_of.result) (2 * (told c.args.view.now).count) (told c.args.view.now).reads (told c.weigh_lines.new.view).reads (omega (arith, few, within, c.count.ensures.count))
    (more_reads (length lines) c.end_of.result (told c.args.view.now).reads (told c.ask_lines.new.view).reads (told c.weigh_lines.new.view).reads c.in_ok-history.ensures.reads c.weigh_lines.ensures.reads)

pub returns-in_err-history-clause-reads : goal.returns-in_err-history-clause-reads
returns-in_err-history-clause-reads g c =
    let told = g.V.EventView.tells in
    let listed = c.args.certificate.now.listed in
    let lines = c.lines_below-lines.result.now in
    let splits : SplitsAt c.count.result listed lines = subst (λ ls. SplitsAt c.count.result ls lines) c.as_slice.ensures (c.lines_below-lines.ensures (2 ^ 32) (subst (λ ls. Rises 0 (2 ^ 32) (events ls)) (sym c.as_slice.ensures) c.requires)) in
    let up = front_up (2 ^ 32) c.count.result listed lines splits c.requires in
    let few = few_rise 0 c.count.result lines (omega arith) (below_rises 0 (2 ^ 32) c.count.result lines up splits.below) in
    at_most (length lines) (2 * (told c.args.view.now).count) (told c.args.view.now).reads (told c.ask_lines.new.view).reads (omega (arith, few, c.count.ensures.count)) c.in_err-history.ensures.reads
