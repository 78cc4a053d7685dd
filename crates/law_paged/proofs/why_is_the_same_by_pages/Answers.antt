use Rattle.std.proofs.Common.{map, refl}
use Rattle.wy_event.specs.Record.{recorded}
use Rattle.law_paged.proofs.Same.{no_faults, one_answer, only_memory}
use Rattle.law_paged.proofs.why_is_the_same_by_pages.Goals as goal

pub returns-clause-same : goal.returns-clause-same
returns-clause-same g c =
    let rs = map recorded c.args.memory.now.events.items in
    one_answer c.why_in-by_pages.result c.why_in-in_memory.result _ _ (c.why_in-by_pages.ensures.all rs c.requires.told) (c.why_in-by_pages.ensures.flow rs c.requires.told) (c.why_in-in_memory.ensures.all rs refl) (c.why_in-in_memory.ensures.flow rs refl)

pub returns-clause-by_pages : goal.returns-clause-by_pages
returns-clause-by_pages g c = λ unrisen.
    only_memory c.why_in-by_pages.result _ _ (map recorded c.args.memory.now.events.items) c.requires.told unrisen c.why_in-by_pages.ensures.answers

pub returns-clause-in_memory : goal.returns-clause-in_memory
returns-clause-in_memory g c =
    only_memory c.why_in-in_memory.result _ _ (map recorded c.args.memory.now.events.items) refl no_faults c.why_in-in_memory.ensures.answers
