-- A source more, or the end of the line.
use Rattle.std.proofs.Common.{◌≡◌, ◌∷◌, ◌++◌, List, ℕ, Some, None, sym, ap, ◌∙◌}
use Rattle.std.specs.Prelude.{option_map}
use Rattle.std.specs.List.{flat_map}
use Rattle.std.proofs.lemmas.Option.{none-some}
use Rattle.wy_why.specs.declared.source.Source.{Source}
use Rattle.wy_cert.specs.Spelling.{line_feed, source_text, space}
use Rattle.wy_cert.specs.Reading.{seen}
use Rattle.wy_cert.proofs.Reading.{after_in, behind_none, behind_some, ends_within, next_is, one_within, rest_read, source_ends}
use Rattle.wy_cert.proofs.reader.read_sources.Goals as goal

pub returns-in_default-clause-only : goal.returns-in_default-clause-only
returns-in_default-clause-only c = λ rest new all adds.
    let left = c.loop-rest.rest.now in
    let tail = behind_some space left c.behind.result c.behind.ensures (sym c.is_some.ensures ∙ c.loop-rest-test.true) in
    let next = next_is c.args.sources.now.items c.loop-rest.sources.items c.args.bytes.now left c.loop-rest.invariant new all rest adds tail.0 tail.1 in
    let behind : List ℕ = flat_map source_text next.1 ++ line_feed ∷ rest in
    let there = c.source_at.ensures.only next.0 behind next.2.1 (source_ends next.1 rest) next.2.2 in
    absurd (none-some _ (sym (ap (option_map (seen {X = Source})) c.in_default.is) ∙ there))

pub loop-rest-preserved : goal.loop-rest-preserved
loop-rest-preserved c =
    let found = c.in-Some.ensures.found in
    one_within c.args.sources.now.items c.loop-rest.sources.items c.args.bytes.now c.loop-rest.rest.now c.loop-rest.invariant c.in-Some.source c.in-Some.more.now c.push.new.self.items
    found.1 found.0 c.in_ok-push.ensures.items c.in-Some.ensures.only

pub returns-clause-only : goal.returns-clause-only
returns-clause-only c = λ rest new all adds.
    let left = c.loop-rest.rest.now in
    let none = behind_none space left c.behind.result c.behind.ensures (sym c.is_some.ensures ∙ c.loop-rest-test.false) in
    let ends = ends_within c.args.sources.now.items c.loop-rest.sources.items c.args.bytes.now left c.loop-rest.invariant new all rest adds none in
    rest_read c.behind-2.result c.ok_or.result rest c.loop-rest.sources.items new (c.behind-2.ensures ∙ after_in line_feed left rest ends.1) c.ok_or.ensures.value (sym ends.0)
