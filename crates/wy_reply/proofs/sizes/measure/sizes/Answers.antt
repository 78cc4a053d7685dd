use Rattle.std.proofs.Common.{◌≡◌, ◌∙◌, arith, length, map, vec_len}
use Rattle.wy_event.specs.Record.{recorded}
use Rattle.wy_kernel.specs.Parts.{program_of}
use Rattle.wy_reply.proofs.Answering.{measured}
use Rattle.wy_reply.proofs.sizes.measure.sizes.Goals as goal

pub returns : goal.returns
returns c =
    let kept = c.in_ok-events.ensures in
    let as_many : vec_len c.in_ok-events.events ≡ length c.in_ok-events.events.items = omega (arith, c.in_ok-events.events.ok.0) in
    measured (program_of c.args.program.now) c.args.steps (map recorded c.in_ok-events.events.items) c.len-count.result c.in_ok-answer.answer c.in_ok-answer.«data» kept.events (c.len-count.ensures ∙ as_many ∙ kept.count) c.in_ok-answer.ensures.answer c.in_ok-answer.ensures.«data»
