use Rattle.std.proofs.Common.{◌≡◌, ◌∙◌, ◌++◌, ◌∷◌, [], ap, arith, length, map, sym}
use Rattle.std.specs.List.{range_with_len}
use Rattle.std.proofs.lemmas.List.{length-map}
use Rattle.wy_event.specs.Record.{recorded}
use Rattle.wy_fold.proofs.Listing.{range_more}
use Rattle.wy_fold.proofs.listed.numbers.Goals as goal

pub loop-number-init : goal.loop-number-init
loop-number-init c = c.new-all.ensures.items

pub loop-number-preserved : goal.loop-number-preserved
loop-number-preserved c =
    c.in_ok-push.ensures.items ∙ ap (λ l. l ++ c.loop-number.number ∷ []) c.loop-number.invariant ∙ sym (range_more 0 c.loop-number.number c.loop-number.number (omega arith))

pub returns : goal.returns
returns c =
    let all : c.loop-number.number ≡ length (map recorded c.args.records.now) = omega (arith, length-map c.args.records.now recorded) in
    c.loop-number.invariant ∙ ap (range_with_len 0) all
