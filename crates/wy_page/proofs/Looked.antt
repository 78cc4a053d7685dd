-- An event of a block that is held is the record of its number.
use Rattle.std.proofs.Common.{◌≡◌, ℕ, zero, suc, ◌+◌, ◌*◌, ◌<◌, List, [], ◌∷◌, map, take, drop, Option, Some, None, refl, sym, ap, ◌∙◌, subst, arith}
use Rattle.std.specs.Prelude.{◌/◌, ◌%◌, Contains, IfSome, IsSome, nat_eq, option_map, slice_get, Vec}
use Rattle.std.specs.declared.alloc.Global.{Global}
use Rattle.std.specs.Map.{lookup}
use Rattle.std.proofs.Math.Logic.{∥∥₁_elim}
use Rattle.std.proofs.Props.{props}
use Rattle.std.proofs.lemmas.Bool.{eqb-true}
use Rattle.std.proofs.lemmas.Map.Views.{Contains-from_lookup}
use Rattle.std.proofs.lemmas.Option.{slice_get-map}
use Rattle.wy_event.specs.declared.record.Event.{Event}
use Rattle.wy_event.specs.Record.{Recorded, recorded}
use Rattle.wy_outside.specs.Shelf.{Files}
use Rattle.wy_view.specs.References.{RefersBelow}
use Rattle.wy_page.specs.declared.pages.Pages.{Pages}
use Rattle.wy_page.specs.Blocks.{block_length, block_of}
use Rattle.wy_page.specs.Paged.{IsOfShelf, records_of, records_told}
use Rattle.wy_page.proofs.Told.{records_named}

got_behind : {X : Type 0} (m i : ℕ) (xs : List X) → slice_get (drop m xs) i ≡ slice_get xs (i + m)
got_behind zero i xs = let same : i ≡ i + 0 = omega arith in ap (slice_get xs) same
got_behind (suc m) i [] = refl
got_behind (suc m) i (x ∷ xs) = let same : suc (i + m) ≡ i + suc m = omega arith in got_behind m i xs ∙ ap (slice_get (x ∷ xs)) same

got_within : {X : Type 0} (k i : ℕ) (xs : List X) → i < k → slice_get (take k xs) i ≡ slice_get xs i
got_within zero i xs within = absurd (omega (arith, within))
got_within (suc k) i [] within = refl
got_within (suc k) zero (x ∷ xs) within = refl
got_within (suc k) (suc i) (x ∷ xs) within = got_within k i xs (omega (arith, within))

-- the place of an event in its block
module _ (n : ℕ) where
  abbrev pub block : ℕ
  block = n / block_length

  abbrev pub place : ℕ
  place = n % block_length

  got_in_block : {X : Type 0} (xs : List X) → slice_get (block_of block xs) place ≡ slice_get xs n
  got_in_block xs =
      let same : place + block_length * block ≡ n = omega arith in
      got_within block_length place (drop (block_length * block) xs) (omega arith) ∙ got_behind (block_length * block) place xs ∙ ap (slice_get xs) same

  -- what a look at it finds
  module _ (p : Pages) (held : Option Files) (e : Event) (of : ∥ IsOfShelf p held ∥₁) where
    pub record Found : Type 0 where
      pub refers : RefersBelow n (recorded e)
      pub record_is : IfSome (records_told p held) (λ rs. slice_get rs n ≡ Some (recorded e))

    found : (events : Vec Event Global) → lookup (nat_eq block) p.held.entries ≡ Some events → slice_get events.items place ≡ Some e → Found
    found events there is =
        let among : Contains p.held.entries (block, events) = Contains-from_lookup (eqb-true) block events p.held.entries there in
        let below = (p.blocks (block, events) among).refer place e is in
        record { refers = subst (λ (m : ℕ). RefersBelow m (recorded e)) (omega arith) below; record_is = by held of }
      where
        told : (files : Files) → IsOfShelf p (Some files) → IfSome (records_told p (Some files)) (λ rs. slice_get rs n ≡ Some (recorded e))
        told files (bytes, named, of) =
            let records = records_of p.version p.starts p.count bytes in
            let among : Contains p.held.entries (block, events) = Contains-from_lookup (eqb-true) block events p.held.entries there in
            let here : slice_get (map recorded events.items) place ≡ Some (recorded e) = slice_get-map recorded events.items place ∙ ap (option_map recorded) is in
            subst (λ (o : Option (List Recorded)). IfSome o (λ rs. slice_get rs n ≡ Some (recorded e))) (sym (records_named p files bytes named))
            (sym (got_in_block records) ∙ ap (λ l. slice_get l place) (sym (of.held (block, events) among)) ∙ here)

        by : (held : Option Files) → ∥ IsOfShelf p held ∥₁ → IfSome (records_told p held) (λ rs. slice_get rs n ≡ Some (recorded e))
        by None of = tt
        by (Some files) of = ∥∥₁_elim of (hlevel props) (λ is. told files is)

    pub looked : IsSome (lookup (nat_eq block) p.held.entries) → IfSome (lookup (nat_eq block) p.held.entries) (λ events. slice_get events.items place ≡ Some e) → Found
    looked some is = by (lookup (nat_eq block) p.held.entries) refl some is where
      by : (o : Option (Vec Event Global)) → lookup (nat_eq block) p.held.entries ≡ o → IsSome o → IfSome o (λ events. slice_get events.items place ≡ Some e) → Found
      by None there some is = absurd cc
      by (Some events) there some is = found events there is
