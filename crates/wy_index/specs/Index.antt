-- Of which records an index is.
use Rattle.std.specs.Prelude.{◌≡◌, ◌<◌, ◌^◌, ℕ, List, map, length, slice_index, IfSome, IsPermutation}
use Rattle.std.specs.Ordering.{nat_cmp}
use Rattle.std.specs.BTreeMap.{get}
use Rattle.wy_event.specs.Record.{Recorded}
use Rattle.wy_event.specs.Sources.{Owners}
use Rattle.wy_view.specs.View.{Told}
use Rattle.wy_index.specs.declared.index.Index.{Index}
use Rattle.wy_index.specs.Kept.{kept_under}
use Rattle.wy_index.specs.Order.{IsInOrder}
use Rattle.wy_index.specs.Found.{postings_in, made_by, prints_in, first_from, is_call_of, is_init_of, hits_in}

-- the class of each static field, by the field's number
abbrev pub owners_of : Index → Owners
owners_of index f = slice_index index.owners.items f

-- an index of these records
pub record IsIndexOf (index : Index) (rs : List Recorded) : Type 0 where
  pub few : length rs < 2 ^ 32
  pub postings : IsPermutation (postings_in rs) index.postings
  pub in_order : IsInOrder index.postings
  pub made : index.made.items ≡ map made_by rs
  pub prints : index.prints.items ≡ prints_in rs
  pub calls : (method : ℕ) → get nat_cmp index.calls method ≡ first_from (is_call_of method) 0 rs
  pub inits : (class : ℕ) → get nat_cmp index.inits class ≡ first_from (is_init_of class) 0 rs
  pub hits : (site : ℕ) → kept_under index.hits site ≡ hits_in rs site

-- an index of the records of a view, which are those that it tells where it tells them
pub record IsIndexOfView (index : Index) (told : Told) : Type 0 where
  pub records : List Recorded
  pub is_index : IsIndexOf index records
  pub all : length records ≡ told.count
  pub as_told : IfSome told.records (λ rs. rs ≡ records)
