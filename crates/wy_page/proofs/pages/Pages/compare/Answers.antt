-- The digest is the one that was kept, or another.
use Rattle.std.proofs.Common.{◌≡◌, Some, true, refl, sym, ap, ◌∙◌}
use Rattle.std.specs.Prelude.{slice_get}
use Rattle.std.proofs.lemmas.Option.{slice_get-get_or}
use Rattle.std.proofs.lemmas.Slice.Eq.{bytes_eq-Decides}
use Rattle.wy_page.proofs.pages.Pages.compare.Goals as goal

pub returns-then-eq-clause-same : goal.returns-then-eq-clause-same
returns-then-eq-clause-same c =
    let digests = c.args.self.now.digests.items in
    let kept = c.index.result.now in
    let found = c.digest-found.result in
    let there : slice_get digests c.args.block ≡ Some kept = slice_get-get_or digests c.args.block kept c.requires ∙ ap Some (sym c.index.ensures) in
    let same : kept ≡ found = (bytes_eq-Decides kept found).0 (sym c.eq.ensures ∙ c.if-eq.true) in
    (there ∙ ap Some (same ∙ c.digest-found.ensures), refl)

pub returns-clause-changed : goal.returns-clause-changed
returns-clause-changed c =
    let digests = c.args.self.now.digests.items in
    let kept = c.index.result.now in
    let found = c.digest-found.result in
    let there : slice_get digests c.args.block ≡ Some kept = slice_get-get_or digests c.args.block kept c.requires ∙ ap Some (sym c.index.ensures) in
    record {
      file = record { name = refl; version = refl; starts = refl; digests = refl; seal = refl; count = refl };
      held = refl;
      loads = refl;
      reads = refl;
      changes = c.one_more-self.ensures.rose;
      kept_is = there;
      found_is = c.digest-found.ensures;
      differ = λ same. let both : true ≡ _ = sym ((bytes_eq-Decides kept found).1 same) ∙ sym c.eq.ensures ∙ c.if-eq.false in cc;
    }
