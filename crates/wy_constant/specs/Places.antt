-- Where the variables of a list stand, by their names.
use Rattle.std.specs.Prelude.{◌≡◌, ◌↔◌, ℕ, List, Some, String, map, slice_get, string_bytes}
use Rattle.std.specs.HashMap.{HashMap, get_by_text}
use Rattle.wy_constant.specs.declared.variable.Variable.{Variable}

abbrev pub name_of : Variable → List ℕ
name_of v = string_bytes v.name

-- a name has exactly the places of the variables of that name: so no two have one name
abbrev pub KeepsPlaces : {Y S : Type 0} → List Variable → HashMap (String Y) ℕ S → Type 0
KeepsPlaces variables places = (name : List ℕ) (place : ℕ) → get_by_text places name ≡ Some place ↔ slice_get (map name_of variables) place ≡ Some name
