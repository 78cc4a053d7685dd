-- What the recorder kept are the events of the run, which the laws of runs are about.
use Rattle.std.proofs.Common.{◌≡◌, ◌++◌, ◌∙◌, ap, map, sym, []}
use Rattle.wy_event.specs.Record.{recorded}
use Rattle.wy_kernel.specs.Parts.{program_of}
use Rattle.wy_meaning.specs.Run.{events}
use Rattle.wy_steps.specs.Sets.{nothing}
use Rattle.wy_reply.proofs.Referring.{all_refer_below, as_many, few}
use Rattle.wy_reply.proofs.sizes.kept.events_of_run.Goals as goal

pub returns-clause-events : goal.returns-clause-events
returns-clause-events c =
    c.take.ensures.taken ∙ c.in-Ok.ensures.recorded.taken.kept ∙ ap (λ es. es ++ events nothing (program_of c.args.program.now) [] c.args.steps) c.in_ok-recorder.ensures.none

pub returns-clause-count : goal.returns-clause-count
returns-clause-count c =
    let p = program_of c.args.program.now in
    let kept : map recorded c.take.result.items ≡ events nothing p [] c.args.steps =
    c.take.ensures.taken ∙ c.in-Ok.ensures.recorded.taken.kept ∙ ap (λ es. es ++ events nothing p [] c.args.steps) c.in_ok-recorder.ensures.none in
    as_many c.take.result.items (events nothing p [] c.args.steps) kept ∙ sym (c.references_point_below.ensures.counts p [] c.args.steps).1

pub returns-clause-few : goal.returns-clause-few
returns-clause-few c =
    let p = program_of c.args.program.now in
    let kept : map recorded c.take.result.items ≡ events nothing p [] c.args.steps =
    c.take.ensures.taken ∙ c.in-Ok.ensures.recorded.taken.kept ∙ ap (λ es. es ++ events nothing p [] c.args.steps) c.in_ok-recorder.ensures.none in
    few c.take.result.items (events nothing p [] c.args.steps) kept (c.references_point_below.ensures.counts p [] c.args.steps).0

pub returns-clause-refer_below : goal.returns-clause-refer_below
returns-clause-refer_below c =
    let p = program_of c.args.program.now in
    let kept : map recorded c.take.result.items ≡ events nothing p [] c.args.steps =
    c.take.ensures.taken ∙ c.in-Ok.ensures.recorded.taken.kept ∙ ap (λ es. es ++ events nothing p [] c.args.steps) c.in_ok-recorder.ensures.none in
    all_refer_below c.take.result.items (events nothing p [] c.args.steps) kept (c.references_point_below.ensures.records p [] c.args.steps)
