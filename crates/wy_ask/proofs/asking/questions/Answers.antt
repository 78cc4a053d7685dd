use Rattle.std.proofs.Common.{◌∙◌, sym}
use Rattle.wy_ask.proofs.Opening.{all_told, index_of}
use Rattle.wy_ask.proofs.asking.questions.Goals as goal

pub all_listed-requires : goal.all_listed-requires
all_listed-requires g c =
    let v = c.requires.index in
    record { index = (v.records, v.is_index, v.all ∙ sym (c.count-count.ensures.count ∙ c.stores_in.ensures.keeps.count)) }

pub returns-clause-listed : goal.returns-clause-listed
returns-clause-listed g c = λ rs told.
    let o = c.args.opened.now in
    let tells = g.V.EventView.tells o.view in
    c.in_ok-all_listed.ensures.listed rs (index_of o.index tells rs told c.requires.index)
    (all_told o tells c.requires rs told ∙ sym (c.count-count.ensures.count ∙ c.stores_in.ensures.keeps.count)) (c.in_ok-stores.ensures.stored rs told)
