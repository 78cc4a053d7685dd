use Rattle.law_program_parts.proofs.RunningTexts.{classes_run}
use Rattle.law_program_parts.proofs.parts.classes_run_methods.Goals as goal

pub returns : goal.returns
returns c = classes_run c.declarations_stand.ensures
