-- The entries of a page are determined, and so is the page.
use Rattle.std.proofs.Common.{◌≡◌, ◌∙◌, ℕ, List, [], ◌∷◌, map, refl, sym, ap, ap₂, subst}
use Rattle.std.specs.List.{AllByRecursion, flat_map}
use Rattle.wy_event.specs.Record.{Recorded}
use Rattle.wy_event.specs.Sources.{Owners}
use Rattle.wy_cert.specs.Goodness.{AreSources}
use Rattle.wy_check.proofs.Spellings.{head_same, tail_same}
use Rattle.wy_check.proofs.Weights.{one_list}
use Rattle.wy_report.specs.Laws.{OneReport}
use Rattle.wy_report.specs.Page.{Entry, HasSources, page}
use Rattle.wy_report.specs.Pieces.{written}

module _ (owner : Owners) (rs : List Recorded) where
  -- entries of the same events, each with the sources of its event
  same_entries : (ks ls : List Entry) → map (λ (e : Entry). e.event) ks ≡ map (λ (e : Entry). e.event) ls → AllByRecursion (HasSources owner rs) ks → AllByRecursion (HasSources owner rs) ls → ks ≡ ls
  same_entries [] [] same first second = refl
  same_entries [] (l ∷ ls) same first second = absurd (cc)
  same_entries (k ∷ ks) [] same first second = absurd (cc)
  same_entries (k ∷ ks) (l ∷ ls) same first second =
      let events : List Entry → List ℕ = λ es. map (λ (e : Entry). e.event) es in
      let event = head_same k.event l.event (events ks) (events ls) same in
      let sources = one_list owner rs l.event k.sources l.sources (subst (λ n. AreSources owner rs n k.sources) event first.0.0) second.0.0 in
      let rest = same_entries ks ls (tail_same k.event l.event (events ks) (events ls) same) first.1 second.1 in
      ap₂ (λ e es. e ∷ es) (ap₂ (λ n ss. record { event = n; sources = ss }) event sources) rest

pub one_report : OneReport
one_report p lines source rs event x y (ks, are, is) (ls, also, so) =
    is ∙ ap (λ es. flat_map written (page p lines source rs event es)) (same_entries _ rs ks ls (are.events ∙ sym also.events) are.sources also.sources) ∙ sym so
