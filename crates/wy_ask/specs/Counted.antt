-- How many statements of each line had a place so far.
use Rattle.std.specs.Prelude.{ℕ, unwrap_or}
use Rattle.std.specs.BTreeMap.{BTreeMap, get}
use Rattle.std.specs.Ordering.{nat_cmp}

abbrev pub count_at : BTreeMap ℕ ℕ → ℕ → ℕ
count_at counts line = unwrap_or (get nat_cmp counts line) 0
