-- What one pass over the events has found so far.
use Rattle.std.specs.Prelude.{◌≡◌, ◌<◌, ◌^◌, ℕ, List, length, map, Some, IfSome}
use Rattle.std.specs.BTreeMap.{get}
use Rattle.std.specs.Ordering.{nat_cmp}
use Rattle.wy_event.specs.Record.{Recorded}
use Rattle.wy_view.specs.View.{Told}
use Rattle.wy_view.specs.References.{RefersBelow}
use Rattle.std.specs.Prelude.{slice_get}
use Rattle.wy_index.specs.declared.build.Findings.{Findings}
use Rattle.wy_index.specs.Found.{postings_in, made_by, prints_in, first_from, is_call_of, is_init_of, hits_in, body_of}
use Rattle.wy_index.specs.Kept.{kept_under}

-- in these records, each of which refers below itself
pub record HasFound (found : Findings) (rs : List Recorded) : Type 0 where
  pub refer_below : (n : ℕ) (r : Recorded) → slice_get rs n ≡ Some r → RefersBelow n r
  pub writes : found.writes.items ≡ postings_in rs
  pub made : found.made.items ≡ map made_by rs
  pub prints : found.prints.items ≡ prints_in rs
  pub calls : (method : ℕ) → get nat_cmp found.calls method ≡ first_from (is_call_of method) 0 rs
  pub inits : (class : ℕ) → get nat_cmp found.inits class ≡ first_from (is_init_of class) 0 rs
  pub hits : (site : ℕ) → kept_under found.hits site ≡ hits_in rs site
  pub bodies : found.bodies.items ≡ map (λ r. body_of (Some r)) rs

-- in records that can be numbered
pub record IsOfFew (found : Findings) : Type 0 where
  pub records : List Recorded
  pub has_found : HasFound found records
  pub few : length records < 2 ^ 32

-- in the records of a view, which are those that it tells where it tells them
pub record IsFoundIn (told : Told) (found : Findings) : Type 0 where
  pub records : List Recorded
  pub has_found : HasFound found records
  pub all : length records ≡ told.count
  pub few : length records < 2 ^ 32
  pub as_told : IfSome told.records (λ rs. rs ≡ records)
