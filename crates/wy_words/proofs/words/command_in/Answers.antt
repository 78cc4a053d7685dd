use Rattle.std.proofs.Common.{◌∙◌, sym, ap, option_map, option_and_then}
use Rattle.clap.specs.Matches.{found_of}
use Rattle.clap.specs.Walk.{rows_of}
use Rattle.wy_words.specs.Reading.{command_named}
use Rattle.wy_words.specs.Views.{asking_of}
use Rattle.wy_words.proofs.Parsed.{found_so, nothing_found}
use Rattle.wy_words.proofs.words.command_in.Goals as goal

pub returns-in_err-name : goal.returns-in_err-name
returns-in_err-name c = rw c.from_residual.ensures (sym (nothing_found c.args.matches.now (sym c.in_err-name.ensures.variant)))

pub returns-in_err-asking_in : goal.returns-in_err-asking_in
returns-in_err-asking_in c =
    let there = found_so c.args.matches.now c.in_ok-name.name.now (rows_of (found_of c.in_ok-name.found.now)) c.in_ok-name.ensures.name c.in_ok-name.ensures.rows in
    rw c.from_residual-in_err-asking_in.ensures (sym (there ∙ ap (option_and_then (command_named c.in_ok-name.name.now)) (sym c.asking_in.ensures ∙ ap (option_map asking_of) c.in_err-asking_in.was)))

pub returns : goal.returns
returns c =
    let there = found_so c.args.matches.now c.in_ok-name.name.now (rows_of (found_of c.in_ok-name.found.now)) c.in_ok-name.ensures.name c.in_ok-name.ensures.rows in
    c.command_named.ensures ∙ sym (there ∙ ap (option_and_then (command_named c.in_ok-name.name.now)) (sym c.asking_in.ensures ∙ ap (option_map asking_of) c.in_ok-asking_in.was))
