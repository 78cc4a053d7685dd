-- An opened trace in memory that was looked at.
use Rattle.std.proofs.Common.{◌≡◌, Err, IfOk, None, Ok, Result, map}
use Rattle.std.proofs.lemmas.Option.{same_Some}
use Rattle.wy_event.specs.Record.{recorded}
use Rattle.wy_view.specs.Whole.{whole}
use Rattle.wy_view.specs.declared.memory.MemoryView.{MemoryView}
use Rattle.wy_ask.specs.declared.opened.Opened.{Opened}
use Rattle.wy_ask.specs.Opened.{IsOpenedOf, StaysOpened}
use Rattle.wy_ask.proofs.Opening.{still_opened}

module _ (old new : Opened MemoryView) (stays : StaysOpened (λ v. whole v.events.items None) old new) where
  pub same_records : map recorded new.view.events.items ≡ map recorded old.view.events.items
  same_records = same_Some (map recorded new.view.events.items) (map recorded old.view.events.items) stays.keeps.records

  pub opened_still : IsOpenedOf (whole old.view.events.items None) old → IsOpenedOf (whole new.view.events.items None) new
  opened_still is = still_opened (λ v. whole v.events.items None) old new stays is

-- where one thing holds of an answer, so does what follows from it
pub follows_ok : {X E : Type 0} (P Q : X → Type 0) (r : Result X E) → ((x : X) → P x → Q x) → IfOk r P → IfOk r Q
follows_ok P Q (Ok x) follows h = follows x h
follows_ok P Q (Err e) follows h = tt
