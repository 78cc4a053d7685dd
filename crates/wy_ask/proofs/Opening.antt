-- The records of an opened trace, and what a call leaves of it.
use Rattle.std.proofs.Common.{◌≡◌, ◌∙◌, List, length, refl, sym, ap, subst}
use Rattle.std.specs.Prelude.{IfSome, Option, Some}
use Rattle.wy_kernel.specs.Parts.{program_of}
use Rattle.wy_event.specs.Record.{Recorded}
use Rattle.wy_view.specs.View.{Keeps, Told}
use Rattle.wy_view.proofs.Views.{keeps_itself, keeps_on}
use Rattle.wy_index.specs.declared.index.Index.{Index}
use Rattle.wy_index.specs.Index.{IsIndexOf, IsIndexOfView}
use Rattle.wy_ask.specs.declared.opened.Opened.{Opened}
use Rattle.wy_ask.specs.Asked.{IsOf, owners}
use Rattle.wy_ask.specs.Opened.{IsOpenedOf, StaysOpened}

-- an index of a view is of the records that the view tells
pub index_of : (index : Index) (told : Told) (rs : List Recorded) → told.records ≡ Some rs → IsIndexOfView index told → IsIndexOf index rs
index_of index told rs is v =
    let same : rs ≡ v.records = subst (λ o. IfSome o (λ t. t ≡ v.records)) is v.as_told in
    subst (IsIndexOf index) (sym same) v.is_index

module _ {V : Type 0} (o : Opened V) (told : Told) (opened : IsOpenedOf told o) where
  -- by the records of its index
  pub of_index : IsOf (program_of o.program.now) o.index told.count opened.index.records
  of_index = record { is_index = opened.index.is_index; owners = opened.owners; all = opened.index.all }

  -- which are those that its view tells
  pub all_told : (rs : List Recorded) → told.records ≡ Some rs → length rs ≡ told.count
  all_told rs is =
      let same : rs ≡ opened.index.records = subst (λ x. IfSome x (λ t. t ≡ opened.index.records)) is opened.index.as_told in
      ap length same ∙ opened.index.all

  pub of_records : (rs : List Recorded) → told.records ≡ Some rs → IsOf (program_of o.program.now) o.index told.count rs
  of_records rs is = record { is_index = index_of o.index told rs is opened.index; owners = opened.owners; all = all_told rs is }

index_kept : (index : Index) (old new : Told) → Keeps old new → IsIndexOfView index old → IsIndexOfView index new
index_kept index old new keeps is = record {
  records = is.records;
  is_index = is.is_index;
  all = is.all ∙ sym keeps.count;
  as_told = subst (λ (o : Option (List Recorded)). IfSome o (λ rs. rs ≡ is.records)) (sym keeps.records) is.as_told;
}

-- a call leaves it opened
pub still_opened : {V : Type 0} (tells : V → Told) (old new : Opened V) → StaysOpened tells old new → IsOpenedOf (tells old.view) old → IsOpenedOf (tells new.view) new
still_opened tells old new stays is = record {
  few_fields = rw (stays.program) is.few_fields;
  index = rw (stays.index) (index_kept old.index (tells old.view) (tells new.view) stays.keeps is.index);
  owners = λ f. rw (stays.program, stays.index) (is.owners f);
}

pub stays_on : {V : Type 0} (tells : V → Told) (old mid new : Opened V) → StaysOpened tells old mid → StaysOpened tells mid new → StaysOpened tells old new
stays_on tells old mid new first then = record {
  program = then.program ∙ first.program;
  coverage = then.coverage ∙ first.coverage;
  index = then.index ∙ first.index;
  keeps = keeps_on (tells old.view) (tells mid.view) (tells new.view) first.keeps then.keeps;
}

pub stays_itself : {V : Type 0} (tells : V → Told) (o : Opened V) → StaysOpened tells o o
stays_itself tells o = record { program = refl; coverage = refl; index = refl; keeps = keeps_itself (tells o.view) }
