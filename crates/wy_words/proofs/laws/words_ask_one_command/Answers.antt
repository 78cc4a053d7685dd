use Rattle.wy_words.proofs.Meant.{one_command}
use Rattle.wy_words.proofs.laws.words_ask_one_command.Goals as goal

pub returns : goal.returns
returns c = one_command
