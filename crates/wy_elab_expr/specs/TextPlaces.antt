-- Where texts stand, by what they hold.
use Rattle.std.specs.Prelude.{◌≡◌, ℕ, List, Option, Vec}
use Rattle.std.specs.Global.{Global}
use Rattle.std.specs.List.{position_from}
use Rattle.std.specs.Str.{bytes_eq}
use Rattle.indexmap.specs.IndexMap.{IndexMap, get}
use Rattle.wy_elab_expr.specs.Meaning.{has_units}
use Rattle.wy_constant.specs.Scope.{FixedText}

-- the place of the text that holds these units
abbrev pub place_in : {S : Type 0} → IndexMap (Vec ℕ Global) ℕ S → Vec ℕ Global → Option ℕ
place_in places units = get (λ a b. bytes_eq a.items b.items) places units

-- of what texts hold, the place of the first that holds it
abbrev pub KeepsTextPlaces : {S : Type 0} → List FixedText → IndexMap (Vec ℕ Global) ℕ S → Type 0
KeepsTextPlaces texts places = (units : Vec ℕ Global) → place_in places units ≡ position_from (has_units units.items) 0 texts
