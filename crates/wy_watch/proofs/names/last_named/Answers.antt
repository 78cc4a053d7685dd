use Rattle.std.proofs.Common.{◌≡◌, ◌∙◌, get_or, map, sym, ap, arith}
use Rattle.std.proofs.Math.ListN.{get_or-map}
use Rattle.std.proofs.lemmas.List.{length-map}
use Rattle.std.specs.Str.{bytes_eq}
use Rattle.wy_kernel.specs.View.{local_of}
use Rattle.wy_watch.specs.Sight.{sight_seen}
use Rattle.wy_watch.specs.Names.{last_named, later, write_if, write_of}
use Rattle.wy_watch.proofs.Lasting.{none_left, one_more, rest_of}
use Rattle.wy_watch.proofs.names.last_named.Goals as goal

pub loop-index-preserved : goal.loop-index-preserved
loop-index-preserved g c = record {
  last = λ rs is.
      let s = sight_seen rs c.args.sight.now in
      let f = c.args.at.now.frame in
      let name = c.args.name.now in
      let i = c.loop-index.index in
      let locals = c.args.at.now.locals.now in
      let all = map local_of locals in
      let r = c.index-at-index.result in
      let here : get_or all i (local_of r) ≡ local_of (get_or locals i r) = get_or-map local_of locals i r in
      let same = c.write_if-written.ensures.write rs is ∙ sym (ap (λ l. write_if (bytes_eq l.name name) (write_of s f i)) here) in
      one_more s f name all i (local_of r) (omega (arith, length-map locals local_of, c.loop-index-test.true)) c.loop-index.found (last_named s f name 0 all)
      (c.loop-index.invariant.last rs is) c.write_if-written.result same
      ∙ ap (λ o. later o (rest_of s f name all i (local_of r))) (sym c.later-found.ensures);
  forward = omega (arith, c.loop-index.invariant.forward, c.write_if-written.ensures.forward);
}

pub returns-clause-last : goal.returns-clause-last
returns-clause-last g c = λ rs is.
    let s = sight_seen rs c.args.sight.now in
    let locals = c.args.at.now.locals.now in
    let all = map local_of locals in
    none_left s c.args.at.now.frame c.args.name.now all c.loop-index.index c.loop-index.found (last_named s c.args.at.now.frame c.args.name.now 0 all)
    (omega (arith, length-map locals local_of, c.loop-index-test.false)) (c.loop-index.invariant.last rs is)
