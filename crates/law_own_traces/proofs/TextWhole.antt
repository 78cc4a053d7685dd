-- The program of a text fits its text, put together.
use Rattle.wy_tree.specs.Ast.{tokens}
use Rattle.std.specs.Prelude.{length}
use Rattle.wy_syntax.specs.Declarations.{unit}
use Rattle.law_structure.proofs.Elaborated.{made_from}
use Rattle.law_sites.specs.Laws.{SitesAreTokens}
use Rattle.law_own_traces.specs.Laws.{TreesFitTheirTexts}
use Rattle.law_own_traces.proofs.Standing.{sites_fit}
use Rattle.law_own_traces.proofs.Staying.{jumps_stay}
use Rattle.law_own_traces.proofs.Final.{string_is_final}
use Rattle.law_own_traces.proofs.Calls.{word_before, whole_seen}
use Rattle.law_own_traces.proofs.Printing.{line_by}
use Rattle.law_own_traces.proofs.PrintingClasses.{program_lined}
use Rattle.law_own_traces.proofs.ClassCalls.{unit_calls}
use Rattle.law_own_traces.proofs.Ending.{lines_end}

pub all_fit : SitesAreTokens → TreesFitTheirTexts
all_fit are_tokens tree well count p h =
    let made = made_from (unit 0 tree) count p h in
    let W = word_before (tokens tree) in
    record {
      sites = sites_fit (length (tokens tree)) (unit 0 tree) p made (are_tokens tree well count p h);
      final = string_is_final (unit 0 tree) count p h made;
      jumps = jumps_stay (unit 0 tree) count p h;
      lines = lines_end (line_by W) p (program_lined W (unit 0 tree) p made (unit_calls W 0 tree (whole_seen tree well)));
    }
