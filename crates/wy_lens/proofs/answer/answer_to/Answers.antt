use Rattle.std.proofs.Common.{map, string_bytes}
use Rattle.wy_lens.specs.Due as due
use Rattle.wy_lens.specs.Due.{DueForFiles, DueForSource, DueForTrace}
use Rattle.wy_lens.specs.Texts.{help_text, usage_text, version_text}
use Rattle.wy_lens.specs.Views.{telling_of}
use Rattle.wy_lens.specs.declared.status.Status.TheVariants.{Done, Usage}
use Rattle.wy_lens.proofs.Said.{file_answers, known_pair, known_source, known_trace, never_usage, said_asked, said_causes, said_due, said_usage}
use Rattle.wy_lens.proofs.answer.answer_to.Goals as goal

pub returns-in-Some-Explain-clause-due : goal.returns-in-Some-Explain-clause-due
returns-in-Some-Explain-clause-due g c =
    file_answers (map string_bytes c.args.words.now) _ (λ files. DueForSource files c.in-Some-Explain.source.now) _ _ c.answer_to_file.result
    (known_source (map string_bytes c.args.words.now) _ c.in-Some-Explain.source.now (rw (c.in-Some-Explain.is, c.in-Some-Explain.field-0-is) at c.in_ok-source.ensures.asked)) c.answer_to_file.ensures.due

pub returns-in-Some-Explain-clause-usage : goal.returns-in-Some-Explain-clause-usage
returns-in-Some-Explain-clause-usage g c = never_usage (map string_bytes c.args.words.now) c.answer_to_file.result c.answer_to_file.ensures.asked

pub returns-in-Some-Tell-clause-due : goal.returns-in-Some-Tell-clause-due
returns-in-Some-Tell-clause-due g c =
    file_answers (map string_bytes c.args.words.now) _ (λ files. DueForTrace files c.in-Some-Tell.trace.now (telling_of c.in-Some-Tell.telling)) _ _ c.answer_to_trace.result
    (known_trace (map string_bytes c.args.words.now) _ c.in-Some-Tell.trace.now (telling_of c.in-Some-Tell.telling) (rw (c.in-Some-Tell.is, c.in-Some-Tell.field-0-is) at c.in_ok-source.ensures.asked)) c.answer_to_trace.ensures.due

pub returns-in-Some-Tell-clause-usage : goal.returns-in-Some-Tell-clause-usage
returns-in-Some-Tell-clause-usage g c = never_usage (map string_bytes c.args.words.now) c.answer_to_trace.result c.answer_to_trace.ensures.asked

pub returns-in-Some-Compare-clause-due : goal.returns-in-Some-Compare-clause-due
returns-in-Some-Compare-clause-due g c =
    file_answers (map string_bytes c.args.words.now) _ (λ files. DueForFiles c.in-Some-Compare.beside files c.in-Some-Compare.trace.now c.in-Some-Compare.other.now) _ _ c.answer_to_files.result
    (known_pair (map string_bytes c.args.words.now) _ c.in-Some-Compare.beside c.in-Some-Compare.trace.now c.in-Some-Compare.other.now (rw (c.in-Some-Compare.is, c.in-Some-Compare.field-0-is) at c.in_ok-source.ensures.asked)) c.answer_to_files.ensures.due

pub returns-in-Some-Compare-clause-usage : goal.returns-in-Some-Compare-clause-usage
returns-in-Some-Compare-clause-usage g c = never_usage (map string_bytes c.args.words.now) c.answer_to_files.result c.answer_to_files.ensures.asked

pub returns-in-Some-Help-clause-due : goal.returns-in-Some-Help-clause-due
returns-in-Some-Help-clause-due g c =
    said_due (map string_bytes c.args.words.now) _ Done help_text _ c.help.result (λ e. cc) (due.help (rw (c.in-Some-Help.is, c.in-Some-Help.field-0-is) at c.in_ok-source.ensures.asked)) c.help.ensures

pub returns-in-Some-Help-clause-causes : goal.returns-in-Some-Help-clause-causes
returns-in-Some-Help-clause-causes g c = said_causes Done help_text _ _ _ _ c.help.result (λ e. absurd cc) (λ e. absurd cc) c.help.ensures

pub returns-in-Some-Help-clause-usage : goal.returns-in-Some-Help-clause-usage
returns-in-Some-Help-clause-usage g c = never_usage (map string_bytes c.args.words.now) c.help.result (said_asked Done help_text c.help.result (λ e. cc) c.help.ensures)

pub returns-in-Some-Version-clause-due : goal.returns-in-Some-Version-clause-due
returns-in-Some-Version-clause-due g c =
    said_due (map string_bytes c.args.words.now) _ Done version_text _ c.version.result (λ e. cc) (due.version (rw (c.in-Some-Version.is, c.in-Some-Version.field-0-is) at c.in_ok-source.ensures.asked)) c.version.ensures

pub returns-in-Some-Version-clause-causes : goal.returns-in-Some-Version-clause-causes
returns-in-Some-Version-clause-causes g c = said_causes Done version_text _ _ _ _ c.version.result (λ e. absurd cc) (λ e. absurd cc) c.version.ensures

pub returns-in-Some-Version-clause-usage : goal.returns-in-Some-Version-clause-usage
returns-in-Some-Version-clause-usage g c = never_usage (map string_bytes c.args.words.now) c.version.result (said_asked Done version_text c.version.result (λ e. cc) c.version.ensures)

pub returns-in-None-clause-due : goal.returns-in-None-clause-due
returns-in-None-clause-due g c = said_due (map string_bytes c.args.words.now) _ Usage usage_text _ c.usage.result (λ e. cc) (due.usage (c.in_ok-source.ensures.refused c.in-None.is)) c.usage.ensures

pub returns-in-None-clause-causes : goal.returns-in-None-clause-causes
returns-in-None-clause-causes g c = said_causes Usage usage_text _ _ _ _ c.usage.result (λ e. absurd cc) (λ e. absurd cc) c.usage.ensures

pub returns-in-None-clause-usage : goal.returns-in-None-clause-usage
returns-in-None-clause-usage g c = said_usage (map string_bytes c.args.words.now) c.usage.result (c.in_ok-source.ensures.refused c.in-None.is)
