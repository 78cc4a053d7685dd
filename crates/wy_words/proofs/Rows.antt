-- What rows have of an argument, and what one row more changes.
use Rattle.std.proofs.Common.{◌≡◌, ◌∙◌, Bool, true, false, ◌||◌, List, [], ◌∷◌, ◌++◌, Option, Some, None, is_some, refl, ap}
use Rattle.std.specs.Prelude.{if◌then◌else◌, bytes_eq, find, option_and_then, slice_get}
use Rattle.std.proofs.lemmas.Bool.{both_ways}
use Rattle.std.proofs.lemmas.List.{append-nil}
use Rattle.clap.specs.Values.{reading_of}
use Rattle.clap.specs.Walk.{Row, Text, at_row, first_of, has_row, more_values, without, with_values}
use Rattle.clap.specs.declared.builder.value_parser.ValueParser.TheVariants as vp
use Rattle.clap.specs.declared.parser.matches.ValueSource.TheVariants.{CommandLine}

-- the row of an argument that is used once
abbrev pub row : Text → Text → Row
row id value = record { id = id; values = value ∷ []; count = None; source = Some CommandLine; reading = reading_of vp.String }

abbrev pub one_more : Text → Text → List Row → List Row
one_more id value rows = rows ++ (row id value ∷ [])

-- the first value of an argument in the rows, and None where it has no row
pub record Has (rows : List Row) (id : Text) (value : Option Text) : Type 0 where
  pub first : first_of id rows ≡ value
  pub there : has_row id rows ≡ is_some value

or_false : (u v : Bool) → (u || v) ≡ false → (u ≡ false) × (v ≡ false)
or_false false v is = (refl, is)
or_false true v is = absurd (both_ways true is refl)

-- an argument without a row gets one at the end
added_row : (id : Text) (change : Row → List Row) (missing rows : List Row) → has_row id rows ≡ false → at_row id change missing rows ≡ rows ++ missing
added_row id change missing [] none = refl
added_row id change missing (r ∷ rs) none =
    let h = or_false (bytes_eq r.id id) (has_row id rs) none in
    ap (λ v. if v then change r ++ rs else r ∷ at_row id change missing rs) h.0 ∙ ap (λ v. r ∷ v) (added_row id change missing rs h.1)

pub used_once : (id value : Text) (rows : List Row) → has_row id rows ≡ false
    → with_values id (reading_of vp.String) CommandLine (value ∷ []) (without id rows) ≡ one_more id value rows
used_once id value rows none =
    ap (at_row id (more_values CommandLine (value ∷ [])) (row id value ∷ [])) (added_row id (λ _. []) [] rows none ∙ append-nil rows)
    ∙ added_row id (more_values CommandLine (value ∷ [])) (row id value ∷ []) rows none

abbrev value_in : Option Row → Option Text
value_in o = option_and_then (λ (r : Row). slice_get r.values 0) o

first_added : (id value : Text) (rows : List Row) → bytes_eq id id ≡ true → has_row id rows ≡ false → first_of id (one_more id value rows) ≡ Some value
first_added id value [] same none = ap (λ v. value_in (if v then Some (row id value) else None)) same
first_added id value (r ∷ rs) same none =
    let h = or_false (bytes_eq r.id id) (has_row id rs) none in
    ap (λ v. value_in (if v then Some r else find (λ s. bytes_eq s.id id) (one_more id value rs))) h.0 ∙ first_added id value rs same h.1

there_added : (id value : Text) (rows : List Row) → bytes_eq id id ≡ true → has_row id (one_more id value rows) ≡ true
there_added id value [] same = ap (λ v. v || false) same
there_added id value (r ∷ rs) same = go (bytes_eq r.id id) (there_added id value rs same)
  where
    go : (v : Bool) → has_row id (one_more id value rs) ≡ true → (v || has_row id (one_more id value rs)) ≡ true
    go true h = refl
    go false h = h

pub has_added : (id value : Text) (rows : List Row) → bytes_eq id id ≡ true → Has rows id None → Has (one_more id value rows) id (Some value)
has_added id value rows same h = record { first = first_added id value rows same h.there; there = there_added id value rows same }

first_kept : (other id value : Text) (rows : List Row) → bytes_eq other id ≡ false → first_of id (one_more other value rows) ≡ first_of id rows
first_kept other id value [] differs = ap (λ v. value_in (if v then Some (row other value) else None)) differs
first_kept other id value (r ∷ rs) differs = go (bytes_eq r.id id) (first_kept other id value rs differs)
  where
    go : (v : Bool) → first_of id (one_more other value rs) ≡ first_of id rs
        → value_in (if v then Some r else find (λ s. bytes_eq s.id id) (one_more other value rs)) ≡ value_in (if v then Some r else find (λ s. bytes_eq s.id id) rs)
    go true h = refl
    go false h = h

there_kept : (other id value : Text) (rows : List Row) → bytes_eq other id ≡ false → has_row id (one_more other value rows) ≡ has_row id rows
there_kept other id value [] differs = ap (λ v. v || false) differs
there_kept other id value (r ∷ rs) differs = ap (λ v. bytes_eq r.id id || v) (there_kept other id value rs differs)

pub has_kept : (other id value : Text) (rows : List Row) (o : Option Text) → bytes_eq other id ≡ false → Has rows id o → Has (one_more other value rows) id o
has_kept other id value rows o differs h =
    record { first = first_kept other id value rows differs ∙ h.first; there = there_kept other id value rows differs ∙ h.there }
