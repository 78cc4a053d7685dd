-- An event more is noted, and a block where it is the last of one.
use Rattle.std.proofs.Common.{◌≡◌, ◌+◌, ◌*◌, ◌<◌, ◌≤◌, [], ◌∷◌, ◌++◌, length, refl, arith}
use Rattle.wy_page.specs.Blocks.{block_length}
use Rattle.wy_page.proofs.Marked.{alone_marked, block_marked, noted, noted_more, on_three}
use Rattle.wy_page.proofs.marks.Marks.note.Goals as goal

pub returns-then-self-eq0-clause-marked : goal.returns-then-self-eq0-clause-marked
returns-then-self-eq0-clause-marked c =
    let m = c.args.self.now in
    let end = c.args.end in
    on_three c.close.result
    (λ starts digests from places all here a.
    let full : m.count + 1 ≡ block_length * length m.digests.items + block_length = omega (arith, a.whole, a.others, c.if-self-eq0.true) in
    let up : m.from ≤ end = omega (arith, m.order, c.requires.more) in
    block_marked m c.close.new.self (places ++ end ∷ []) all c.args.bytes.now c.args.base (m.count + 1) end (noted_more m.starts.items m.digests.items m.from m.count m.end places all (noted m places all a) end) full c.requires.from up here starts digests from c.close.ensures.count c.close.ensures.end)
    c.close.ensures.starts c.close.ensures.digests c.close.ensures.moved

pub returns-else-self-eq0-clause-marked : goal.returns-else-self-eq0-clause-marked
returns-else-self-eq0-clause-marked c = λ places all here a.
    let m = c.args.self.now in
    let few : m.count + 1 < block_length * length m.digests.items + block_length = omega (arith, a.others, c.if-self-eq0.false) in
    alone_marked m _ places all c.args.end a refl refl refl refl refl few
