-- Numbers that are kept under numbers.
use Rattle.std.specs.Prelude.{ℕ, Bool, List, [], ◌∷◌, Vec, Option, option_map, unwrap_or}
use Rattle.std.specs.Prelude.{◌-◌, length, slice_get, if◌then◌else◌}
use Rattle.std.specs.declared.alloc.Global.{Global}
use Rattle.std.specs.BTreeMap.{BTreeMap, get}
use Rattle.std.specs.Ordering.{nat_cmp}

abbrev pub Rows : Type 0
Rows = BTreeMap ℕ (Vec ℕ Global)

-- the numbers that are kept under a key
abbrev pub kept_under : Rows → ℕ → List ℕ
kept_under rows key = unwrap_or (option_map (λ v. v.items) (get nat_cmp rows key)) []

abbrev pub one_if : {X : Type 0} → Bool → X → List X
one_if b x = if b then x ∷ [] else []

abbrev pub last_of : List ℕ → Option ℕ
last_of xs = slice_get xs (length xs - 1)
