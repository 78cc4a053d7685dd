use Rattle.wy_tree.proofs.Order.{first_character}
use Rattle.wy_tree.proofs.laws.a_literal_has_the_characters_of_its_text.Goals as goal

pub returns : goal.returns
returns c = first_character
