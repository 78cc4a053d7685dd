use Rattle.law_program_parts.proofs.TypedNames.{names_agree, tables_have_rows}
use Rattle.law_program_parts.proofs.typed.the_table_of_a_text_says_what_the_text_says.Goals as goal

pub returns-clause-names : goal.returns-clause-names
returns-clause-names c = names_agree

pub returns-clause-rows : goal.returns-clause-rows
returns-clause-rows c = tables_have_rows
