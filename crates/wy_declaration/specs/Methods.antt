-- The methods of an interface in memory, one after another.
use Rattle.std.specs.Prelude.{◌≡◌, ◌<◌, [], ◌∷◌, length}
use Rattle.wy_syntax.specs.Declarations.{method_in, methods_in}
use Rattle.wy_declaration.specs.declared.part.Parts.{Parts}
use Rattle.wy_declaration.specs.Parts.{parts_of}

-- the methods of these parts by the first, and those behind it
pub record MethodFirst (all first behind : Parts) : Type 0 where
  pub methods : methods_in [] (parts_of all) ≡ method_in (parts_of first) ∷ methods_in [] (parts_of behind)
  pub fewer : length behind.trees.now < length all.trees.now
