use Rattle.std.proofs.Common.{arith, sym, ◌∙◌}
use Rattle.wy_words.proofs.Scan.{scan_ends, scan_goes_on, scan_stops}
use Rattle.wy_words.proofs.words.are_spelled.Goals as goal

pub returns-then-not-may_stand : goal.returns-then-not-may_stand
returns-then-not-may_stand c =
    scan_stops c.args.words.now c.loop-word.word-index c.word-item.result c.loop-word.awaits_number c.as_str-word.result.now (omega arith) c.word-item.is c.as_str-word.ensures.value
    (sym c.may_stand.ensures ∙ c.if-not-may_stand.true) c.loop-word.invariant

pub loop-word-preserved : goal.loop-word-preserved
loop-word-preserved c =
    scan_goes_on c.args.words.now c.loop-word.word-index c.word-item.result c.loop-word.awaits_number c.eq-awaits_number.result c.as_str-word.result.now (omega arith) c.word-item.is c.as_str-word.ensures.value
    (sym c.may_stand.ensures ∙ c.if-not-may_stand.false) c.eq-awaits_number.ensures c.loop-word.invariant

pub returns : goal.returns
returns c = scan_ends c.args.words.now c.loop-word.word-index c.loop-word.awaits_number (omega arith) c.loop-word.invariant
