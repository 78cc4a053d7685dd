-- The rows of events as they are put.
use Rattle.std.proofs.Common.{◌≡◌, ◌∙◌, ◌<◌, ◌≤◌, ◌+◌, ℕ, Bool, true, List, [], ◌∷◌, ◌++◌, length, get_or, refl, sym, ap, ap₂, append_assoc, append-nil, arith}
use Rattle.std.specs.List.{AllByRecursion, flat_map}
use Rattle.std.proofs.lemmas.List.{map-append, take_all, take_more}
use Rattle.std.proofs.lemmas.List.Concat.{flat_map-append}
use Rattle.wy_kernel.specs.Program.{Program}
use Rattle.wy_event.specs.Numbers.{Numbers}
use Rattle.wy_event.specs.Record.{Recorded}
use Rattle.wy_event.specs.Sources.{Owners}
use Rattle.wy_why.specs.declared.source.Source.{Source}
use Rattle.wy_fold.specs.Places.{line_at}
use Rattle.wy_report.specs.declared.line.Mark.{Mark}
use Rattle.wy_report.specs.Page.{Entry, HasSources, entry_row, event_row, event_text, mark_of}
use Rattle.wy_report.specs.Pieces.{written}
use Rattle.wy_report.specs.Rows.{PutsEntry, PutsRows}

-- the row that was put of an event, with its mark, its line, its text and its sources as they were found
pub entry_put : (p : Program) (lines : List ℕ) (owner : Owners) (rs : List Recorded) (many n : ℕ) (of_data : Bool) (out new : List ℕ) (m : Mark) (k : ℕ) (t text : List ℕ) (s sources : List Source)
    → new ≡ out ++ flat_map written (event_row many n m k t s) → m ≡ mark_of true of_data → k ≡ line_at lines rs n → t ≡ text → text ≡ event_text p lines rs n of_data → s ≡ sources
    → HasSources owner rs (record { event = n; sources = sources }) → PutsEntry p lines owner rs many n of_data out new
entry_put p lines owner rs many n of_data out new m k t text s sources is of_mark of_line shown of_text of_sources has =
    let mark = mark_of true of_data in
    let line = line_at lines rs n in
    let told = event_text p lines rs n of_data in
    let row : Mark → ℕ → List ℕ → List Source → List ℕ = λ a b c d. out ++ flat_map written (event_row many n a b c d) in
    (sources, has, is ∙ ap (λ x. row x k t s) of_mark ∙ ap (λ x. row mark x t s) of_line ∙ ap (λ x. row mark line x s) (shown ∙ of_text) ∙ ap (row mark line told) of_sources)

each_push : {X : Type 0} (P : X → Type 0) (xs : List X) (x : X) → AllByRecursion P xs → P x → AllByRecursion P (xs ++ x ∷ [])
each_push P [] x all is = (is, tt)
each_push P (y ∷ xs) x all is = (all.0, each_push P xs x all.1 is)

module _ (p : Program) (lines : List ℕ) (owner : Owners) (rs : List Recorded) (by_data : Numbers) (many : ℕ) (first : List ℕ) (all : List ℕ) where
  pub begins : PutsRows p lines owner rs by_data many first first all 0
  begins = record { entries = []; listed = refl; said = tt; text = sym (append-nil first) }

  pub one_more_row : (n e : ℕ) (of_data : Bool) (out new : List ℕ) → PutsRows p lines owner rs by_data many first out all n → n < length all → e ≡ get_or all n 0 → of_data ≡ by_data e
      → PutsEntry p lines owner rs many e of_data out new → PutsRows p lines owner rs by_data many first new all (n + 1)
  one_more_row n e of_data out new rows lt is star put =
      let entry : Entry = record { event = e; sources = put.0 } in
      let row = entry_row p lines rs by_data many in
      let so_far = flat_map row rows.entries in
      let marked : new ≡ out ++ flat_map written (row entry) =
      put.2 ∙ ap (λ b. out ++ flat_map written (event_row many e (mark_of true b) (line_at lines rs e) (event_text p lines rs e b) put.0)) star in
      record {
        entries = rows.entries ++ entry ∷ [];
        listed = map-append (λ (k : Entry). k.event) rows.entries (entry ∷ []) ∙ ap₂ (λ a b. a ++ b ∷ []) rows.listed is ∙ sym (take_more all n 0 lt);
        said = each_push (HasSources owner rs) rows.entries entry rows.said put.1;
        text = marked ∙ ap (λ t. t ++ flat_map written (row entry)) rows.text ∙ append_assoc first (flat_map written so_far) (flat_map written (row entry))
            ∙ ap (λ t. first ++ t) (sym (flat_map-append written so_far (row entry))
            ∙ ap (λ ps. flat_map written (so_far ++ ps)) (sym (append-nil (row entry))) ∙ ap (flat_map written) (sym (flat_map-append row rows.entries (entry ∷ []))));
      }

  pub whole_rows : (n : ℕ) (out : List ℕ) → PutsRows p lines owner rs by_data many first out all n → length all ≤ n → PutsRows p lines owner rs by_data many first out all (length all)
  whole_rows n out rows le = record {
    entries = rows.entries;
    listed = rows.listed ∙ take_all n all le ∙ sym (take_all (length all) all (omega arith));
    said = rows.said;
    text = rows.text;
  }
