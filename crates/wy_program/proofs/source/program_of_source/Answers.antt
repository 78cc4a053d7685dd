use Rattle.std.proofs.lemmas.Result.{err_from_is_err_and}
use Rattle.wy_program.proofs.Sources.{syntax_passes, types_go_on, program_goes_on, is_read}
use Rattle.wy_program.proofs.source.program_of_source.Goals as goal

pub returns-in_err-tree-clause-refused : goal.returns-in_err-tree-clause-refused
returns-in_err-tree-clause-refused c =
    let p = err_from_is_err_and c.from_residual-in_err-tree.result c.from_residual-in_err-tree.ensures.1 in
    rw p.1 (syntax_passes _ _ _ _ _ p.2 c.as_slice.ensures.value c.in_ok-tokens.ensures.found c.in_err-tree.ensures.refused)

pub returns-clause-program : goal.returns-clause-program
returns-clause-program c = program_goes_on _ _ _ _ _ c.typed.result c.as_slice.ensures.value c.as_slice-2.ensures.value c.in_ok-tokens.ensures.found c.in_ok-tree.ensures.found c.typed.ensures.found

pub returns-clause-refused : goal.returns-clause-refused
returns-clause-refused c = types_go_on _ _ _ _ _ c.typed.result c.as_slice.ensures.value c.as_slice-2.ensures.value c.in_ok-tokens.ensures.found c.in_ok-tree.ensures.found c.typed.ensures.refused

pub typed-requires-clause-read : goal.typed-requires-clause-read
typed-requires-clause-read c = is_read _ _ _ _ _ c.as_slice.ensures.value c.as_slice-2.ensures.value c.in_ok-tokens.ensures.found c.in_ok-tree.ensures.found
