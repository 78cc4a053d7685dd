use Rattle.std.proofs.Common.{◌∙◌, refl, sym}
use Rattle.wy_lens.specs.declared.status.Status.TheVariants.{Done}
use Rattle.wy_lens.proofs.Pairs.{one_source, other_sources}
use Rattle.wy_lens.proofs.pair.compared.Goals as goal

pub returns-then-not-same_source : goal.returns-then-not-same_source
returns-then-not-same_source c =
    other_sources c.args.good c.args.bad c.args.name.now c.other_source.result
    (λ same. c.same_source.ensures.other c.if-not-same_source.true (c.as_slice.ensures ∙ same ∙ sym c.as_slice-2.ensures)) c.other_source.ensures

pub returns : goal.returns
returns c =
    one_source c.args.good c.args.bad c.args.name.now (record { status = Done; text = c.in_ok-text.text }) (sym c.as_slice.ensures ∙ c.same_source.ensures.same c.if-not-same_source.false ∙ c.as_slice-2.ensures) refl (rw (c.into_vec.ensures, c.into_vec-2.ensures, c.ends_alike-alike.ensures) at c.in_ok-text.ensures)
