use Rattle.std.proofs.Common.{refl}
use Rattle.wy_declaration.specs.Parts.{parts_of}
use Rattle.wy_declaration.proofs.part.Part.parts.Goals as goal

pub returns : goal.returns
unfolding parts_of
returns c = record { tree = c.in_ok-trees.ensures; parts = refl; at = refl }
