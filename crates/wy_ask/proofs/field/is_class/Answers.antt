use Rattle.std.proofs.Common.{◌∙◌, sym, ap, option_map}
use Rattle.wy_kernel.specs.Parts.{program_of}
use Rattle.wy_ask.proofs.Fields.{named_in_source, named_in_library, not_in_library}
use Rattle.wy_ask.proofs.field.is_class.Goals as goal

pub returns-then-number-ge-FIRST_SOURCE_CLASS : goal.returns-then-number-ge-FIRST_SOURCE_CLASS
returns-then-number-ge-FIRST_SOURCE_CLASS c =
    c.eq.ensures ∙ named_in_source (program_of c.args.program.now) c.args.number c.class_name-name.result.now c.args.word.now c.class_name-name.ensures c.if-number-ge-FIRST_SOURCE_CLASS.true

pub returns-in-Some : goal.returns-in-Some
returns-in-Some c =
    c.eq-in-Some.ensures
    ∙ named_in_library (program_of c.args.program.now) c.args.number c.class_name-name.result.now c.args.word.now c.in-Some.rest.now c.class_name-name.ensures c.if-number-ge-FIRST_SOURCE_CLASS.false
    (sym c.behind.ensures ∙ ap (option_map (λ rest. rest.now)) c.in-Some.is)

pub returns-in-None : goal.returns-in-None
returns-in-None c =
    not_in_library (program_of c.args.program.now) c.args.number c.args.word.now c.if-number-ge-FIRST_SOURCE_CLASS.false (sym c.behind.ensures ∙ ap (option_map (λ rest. rest.now)) c.in-None.is)
