-- Initializers in memory as contracts see them.
use Rattle.std.specs.Prelude.{List, map, Option, option_map}
use denote.Ref.{Bor}
use Rattle.wy_syntax.specs.declared.expression.Expression as memory
use Rattle.wy_syntax.specs.Syntax.{Expression}
use Rattle.wy_syntax.specs.View.{expression_of}

abbrev pub initializers_seen : List (Option (Bor memory.Expression)) → List (Option Expression)
initializers_seen all = map (option_map (λ (e : Bor memory.Expression). expression_of e.now)) all
