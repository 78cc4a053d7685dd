-- The targets of calls as they are noted.
use Rattle.std.specs.Prelude.{◌≡◌, ℕ, Bool, ◌==◌, if◌then◌else◌, List, [], ◌∷◌, ◌++◌}
use Rattle.std.specs.List.{list_any}
use Rattle.std.specs.Ordering.{nat_cmp}
use Rattle.std.specs.BTreeSet.{BTreeSet, contains}
use Rattle.wy_index.specs.declared.found.Hit.{Hit}
use Rattle.wy_whynot.specs.declared.item.Made.{Made}
use Rattle.wy_whynot.specs.Evidence.{made_by}

abbrev pub has_target : ℕ → Made → Bool
has_target method made = made.method == method

abbrev pub with_target : List Made → Hit → List Made
with_target made call =
    if list_any (has_target call.entity) made then made else made ++ made_by call ∷ []

-- the methods that were noted
abbrev pub KnowsTargets : BTreeSet ℕ → List Made → Type 0
KnowsTargets methods made = (m : ℕ) → contains nat_cmp methods m ≡ list_any (has_target m) made
