-- The index is of these events, so its last print is theirs, and the answer is what that comes from.
use Rattle.std.proofs.Common.{◌≡◌, ◌∙◌, None, arith, length, vec_len}
use Rattle.std.specs.Prelude.{map}
use Rattle.std.proofs.lemmas.List.{length-map}
use Rattle.wy_event.specs.Record.{recorded}
use Rattle.wy_kernel.specs.Parts.{program_of}
use Rattle.wy_view.specs.Whole.{whole}
use Rattle.wy_ask.proofs.Opening.{index_of}
use Rattle.wy_reply.proofs.Answering.{answer_counted, data_counted, is_below, no_answer, no_data}
use Rattle.wy_reply.proofs.sizes.last.answer_sizes.Goals as goal

pub returns-in_default-clause-answer : goal.returns-in_default-clause-answer
returns-in_default-clause-answer g c =
    let rs = map recorded c.args.events.items in
    let is_index = index_of c.in-Ok.index (whole c.build.new.view.events.items None) rs c.build.ensures.keeps.records c.in-Ok.ensures.index in
    no_answer (program_of c.args.program.now) rs c.prints.result.now c.copied.result (c.prints.ensures rs is_index) (c.copied.ensures ∙ c.last.ensures.value) c.in_default.not-Some

pub returns-in_default-clause-data : goal.returns-in_default-clause-data
returns-in_default-clause-data g c =
    let rs = map recorded c.args.events.items in
    let is_index = index_of c.in-Ok.index (whole c.build.new.view.events.items None) rs c.build.ensures.keeps.records c.in-Ok.ensures.index in
    no_data (program_of c.args.program.now) rs c.prints.result.now c.copied.result (c.prints.ensures rs is_index) (c.copied.ensures ∙ c.last.ensures.value) c.in_default.not-Some

pub why-requires-clause-there : goal.why-requires-clause-there
why-requires-clause-there g c =
    let rs = map recorded c.args.events.items in
    let is_index = index_of c.in-Ok.index (whole c.build.new.view.events.items None) rs c.build.ensures.keeps.records c.in-Ok.ensures.index in
    omega (
      arith,
      is_below (program_of c.args.program.now) rs c.prints.result.now c.copied.result (c.prints.ensures rs is_index) (c.copied.ensures ∙ c.last.ensures.value) c.in-Some.event c.in-Some.is,
      length-map c.args.events.items recorded,
      c.build.ensures.keeps.count,
    )

pub returns-in-Ok-why-clause-answer : goal.returns-in-Ok-why-clause-answer
returns-in-Ok-why-clause-answer g c =
    let rs = map recorded c.args.events.items in
    let told = c.build.ensures.keeps.records in
    let built = c.in-Ok.ensures in
    let is_index = index_of c.in-Ok.index (whole c.build.new.view.events.items None) rs told built.index in
    let answer = c.in-Ok-why.ensures in
    let as_many : vec_len c.in-Ok-why.answer.all ≡ length c.in-Ok-why.answer.all.items = omega (arith, c.in-Ok-why.answer.all.ok.0) in
    c.len.ensures ∙ as_many
    ∙ answer_counted (program_of c.args.program.now) rs c.prints.result.now c.copied.result (c.prints.ensures rs is_index) (c.copied.ensures ∙ c.last.ensures.value) c.in-Some.event c.in-Some.is c.in-Ok.index built.owners c.in-Ok-why.answer.all.items (answer.all rs told)

pub returns-in-Ok-why-clause-data : goal.returns-in-Ok-why-clause-data
returns-in-Ok-why-clause-data g c =
    let rs = map recorded c.args.events.items in
    let told = c.build.ensures.keeps.records in
    let built = c.in-Ok.ensures in
    let is_index = index_of c.in-Ok.index (whole c.build.new.view.events.items None) rs told built.index in
    let answer = c.in-Ok-why.ensures in
    let as_many : vec_len c.in-Ok-why.answer.flow ≡ length c.in-Ok-why.answer.flow.items = omega (arith, c.in-Ok-why.answer.flow.ok.0) in
    c.len-in-Ok-why.ensures ∙ as_many
    ∙ data_counted (program_of c.args.program.now) rs c.prints.result.now c.copied.result (c.prints.ensures rs is_index) (c.copied.ensures ∙ c.last.ensures.value) c.in-Some.event c.in-Some.is c.in-Ok.index built.owners c.in-Ok-why.answer.flow.items (answer.flow rs told)
