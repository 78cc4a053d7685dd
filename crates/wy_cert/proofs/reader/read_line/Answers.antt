-- The number of a line's event, and then its sources.
use Rattle.std.proofs.Common.{◌≡◌, ◌∷◌, ◌++◌, [], List, ℕ, Some, None, refl, sym, ap, ◌∙◌, arith}
use Rattle.std.specs.Prelude.{option_map}
use Rattle.std.specs.List.{flat_map}
use Rattle.std.proofs.lemmas.Option.{none-some}
use Rattle.std.proofs.lemmas.Result.{err_from_is_err_and}
use Rattle.wy_why.specs.declared.source.Source.{Source}
use Rattle.wy_cert.specs.Spelling.{line_feed, source_text}
use Rattle.wy_cert.specs.Reading.{seen}
use Rattle.wy_cert.proofs.Lines.{line_same, line_sources, line_split}
use Rattle.wy_cert.proofs.Reading.{parts_of, source_ends}
use Rattle.wy_cert.proofs.reader.read_line.Goals as goal

pub returns-in_default-clause-only : goal.returns-in_default-clause-only
returns-in_default-clause-only c = λ rest new l adds.
    let behind : List ℕ = flat_map source_text l.sources ++ line_feed ∷ rest in
    let there = c.number_at.ensures.only l.event behind adds.fits.0 (source_ends l.sources rest) (adds.spelled ∙ line_split l rest) in
    absurd (none-some _ (sym (ap (option_map (seen {X = ℕ})) c.in_default.is) ∙ there))

pub returns-then-from-least-clause-only : goal.returns-then-from-least-clause-only
returns-then-from-least-clause-only c = λ rest new l adds.
    let behind : List ℕ = flat_map source_text l.sources ++ line_feed ∷ rest in
    let same = parts_of c.in-Some.event l.event c.in-Some.rest.now behind (c.in-Some.ensures.only l.event behind adds.fits.0 (source_ends l.sources rest) (adds.spelled ∙ line_split l rest)) in
    absurd (omega (arith, same.0, adds.above, c.from.ensures, c.if-from-least.true))

pub returns-in_err-rest-clause-only : goal.returns-in_err-rest-clause-only
returns-in_err-rest-clause-only c = λ rest new l adds.
    let behind : List ℕ = flat_map source_text l.sources ++ line_feed ∷ rest in
    let same = parts_of c.in-Some.event l.event c.in-Some.rest.now behind (c.in-Some.ensures.only l.event behind adds.fits.0 (source_ends l.sources rest) (adds.spelled ∙ line_split l rest)) in
    let memory = c.in_err-rest.ensures.only rest (c.new-sources.result.items ++ l.sources) l.sources (line_sources c.new-sources.result.items l c.in-Some.rest.now rest adds.fits same.1) in
    let p = err_from_is_err_and c.from_residual.result c.from_residual.ensures.1 in
    rw (p.1, p.2) memory

pub returns-clause-only : goal.returns-clause-only
returns-clause-only c = λ rest new l adds.
    let behind : List ℕ = flat_map source_text l.sources ++ line_feed ∷ rest in
    let same = parts_of c.in-Some.event l.event c.in-Some.rest.now behind (c.in-Some.ensures.only l.event behind adds.fits.0 (source_ends l.sources rest) (adds.spelled ∙ line_split l rest)) in
    let read = c.in_ok-rest.ensures.only rest (c.new-sources.result.items ++ l.sources) l.sources (line_sources c.new-sources.result.items l c.in-Some.rest.now rest adds.fits same.1) in
    let sources = c.new.ensures ∙ read.1 ∙ ap (λ ss. ss ++ l.sources) c.new-sources.ensures.items in
    (same.0, read.0, c.in_ok-push.ensures.items ∙ ap (λ k. c.args.listed.now.items ++ k ∷ []) (line_same c.in-Some.event l c.new.result same.0 sources) ∙ sym adds.added)
