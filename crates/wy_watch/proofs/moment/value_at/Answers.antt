use Rattle.std.proofs.Common.{ap}
use Rattle.wy_kernel.specs.Parts.{program_of}
use Rattle.wy_syntax.specs.View.{expression_of}
use Rattle.wy_travel.proofs.Reading.{index_kept}
use Rattle.wy_watch.specs.Value.{value}
use Rattle.wy_watch.proofs.Looking.{look_behind}
use Rattle.wy_watch.proofs.moment.value_at.Goals as goal

pub value-requires-clause-fit : goal.value-requires-clause-fit
value-requires-clause-fit g c = record { owners = c.requires.owners; few_fields = c.requires.fields; few_locals = c.in_ok-standing.ensures.few }

pub value-requires-clause-index : goal.value-requires-clause-index
value-requires-clause-index g c = index_kept c.args.index.now _ _ c.in_ok-standing.ensures.keeps c.requires.index

pub returns-clause-looks : goal.returns-clause-looks
returns-clause-looks g c =
    look_behind _ _ _ _ _ _ c.in_ok-standing.ensures.keeps c.in_ok-standing.ensures.answers
    (λ rs told. ap (λ st. value (record { program = program_of c.args.program.now; records = rs; moment = c.args.event; standing = st }) (expression_of c.args.e.now)) (c.in_ok-standing.ensures.standing rs told))
    c.value.ensures.looks
