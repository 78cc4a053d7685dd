use Rattle.std.proofs.Common.{◌≡◌, ◌∙◌, IfOk, Some, map, subst}
use Rattle.wy_event.specs.Record.{recorded}
use Rattle.wy_kernel.specs.Parts.{program_of}
use Rattle.wy_expect.specs.Expected.{FindsOther, plain}
use Rattle.wy_expect.specs.Texts.{IsExpectText, other_text}
use Rattle.wy_expect.proofs.Staying.{follows_ok, same_records}
use Rattle.wy_expect.proofs.text.expect_text.Goals as goal

pub returns-in-Some : goal.returns-in-Some
returns-in-Some c =
    let o = c.args.opened.now in
    let p = program_of o.program.now in
    let lines = o.program.now.lines.items in
    let rs = map recorded o.view.events.items in
    let event = c.in-Some.event in
    let expected = plain c.args.file.now in
    let stays = c.in_ok-walk.ensures.stays in
    let same = same_records o c.walk.new.opened stays in
    let walked : c.as_slice.result.now ≡ expected = c.as_slice.ensures.value ∙ c.in_ok-expected.ensures in
    let asked : c.as_slice-in-Some.result.now ≡ expected = c.as_slice-in-Some.ensures.value ∙ c.in_ok-expected.ensures in
    let finds : FindsOther p rs expected (Some event) = subst (λ xs. FindsOther p rs xs (Some event)) walked (subst (FindsOther p rs c.as_slice.result.now) c.in-Some.is c.in_ok-walk.ensures.walk.finds) in
    let told : IfOk c.other_text.result (λ text. text.items ≡ other_text p lines c.args.source.now rs expected event) = rw (stays.program, same, asked) at c.other_text.ensures in
    follows_ok (λ text. text.items ≡ other_text p lines c.args.source.now rs expected event)
    (λ text. IsExpectText p lines c.args.source.now rs o.coverage.now c.args.tail.now c.args.file.now text.items)
    c.other_text.result (λ text is. (Some event, finds, is)) told
