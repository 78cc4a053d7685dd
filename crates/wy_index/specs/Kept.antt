-- What a map keeps under a number.
use Rattle.std.specs.Prelude.{ℕ, List, [], Vec, option_map, unwrap_or}
use Rattle.std.specs.declared.alloc.Global.{Global}
use Rattle.std.specs.BTreeMap.{BTreeMap, get}
use Rattle.std.specs.Ordering.{nat_cmp}
use Rattle.wy_index.specs.declared.found.Hit.{Hit}

-- the hits that are kept under a site
abbrev pub kept_under : BTreeMap ℕ (Vec Hit Global) → ℕ → List Hit
kept_under hits site = unwrap_or (option_map (λ v. v.items) (get nat_cmp hits site)) []
