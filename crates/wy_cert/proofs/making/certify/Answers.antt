-- The first line, and a line for each event of the answer.
use Rattle.std.proofs.Common.{◌≡◌, ◌+◌, ◌<◌, ◌^◌, length, sym, ap, ◌∙◌, subst, arith}
use Rattle.std.specs.Prelude.{IfSome}
use Rattle.hex.specs.Hex.{encode_lower}
use Rattle.wy_index.specs.Index.{owners_of}
use Rattle.wy_why.specs.Answer.{Rises}
use Rattle.wy_why.proofs.Walking.{told_one}
use Rattle.wy_cert.specs.Made.{IsMade}
use Rattle.wy_cert.specs.Spelling.{head_text}
use Rattle.wy_cert.proofs.Made.{all_made, rises_up}
use Rattle.wy_cert.proofs.Members.{few_rise}
use Rattle.wy_cert.proofs.making.certify.Goals as goal

pub overflow_cast-len : goal.overflow_cast-len
overflow_cast-len g c = omega (arith, few_rise 0 (c.args.event + 1) c.in_ok-answer.answer.all.items c.in_ok-answer.ensures.rises.0 (omega arith), c.requires.there, c.requires.index.is_index.few, c.requires.index.all, c.len.ensures, c.in_ok-answer.answer.all.ok.0)

pub put_lines-requires-clause-there : goal.put_lines-requires-clause-there
put_lines-requires-clause-there g c =
    let told = g.V.EventView.tells in
    subst (Rises 0 (told c.why.new.view).count) (sym c.deref.ensures.value)
    (rises_up 0 (c.args.event + 1) (told c.why.new.view).count c.in_ok-answer.answer.all.items (omega (arith, c.requires.there, c.in_ok-answer.ensures.keeps.count)) c.in_ok-answer.ensures.rises.0)

pub put_lines-requires-clause-index : goal.put_lines-requires-clause-index
put_lines-requires-clause-index g c =
    let keeps = c.in_ok-answer.ensures.keeps in
    let w = c.requires.index in
    record {
      records = w.records;
      is_index = w.is_index;
      all = w.all ∙ sym keeps.count;
      as_told = subst (λ o. IfSome o (λ rs. rs ≡ w.records)) (sym keeps.records) w.as_told;
    }

pub returns-clause-certificate : goal.returns-clause-certificate
returns-clause-certificate g c = λ rs is.
    let told = g.V.EventView.tells in
    let before = told c.args.view.now in
    let after = told c.why.new.view in
    let w = c.requires.index in
    let all = c.in_ok-answer.answer.all.items in
    let out = c.put_lines.new.out.items in
    let count : c.len.result ≡ length all = c.len.ensures ∙ c.in_ok-answer.answer.all.ok.0 in
    let same : rs ≡ w.records = told_one before.records rs w.records is w.as_told in
    let long : length rs ≡ before.count = ap length same ∙ w.all in
    let made : IsMade c.args.index.now after c.in_ok-out.out.items out all (length all) = subst (λ l. IsMade c.args.index.now after c.in_ok-out.out.items out l (length l)) c.deref.ensures.value c.in_ok-put_lines.ensures.lines in
    all_made c.args.index.now after out all (length all) c.args.seal.now c.args.event rs (c.in_ok-answer.ensures.keeps.records ∙ is)
    (subst (λ first. IsMade c.args.index.now after first out all (length all)) (c.in_ok-out.ensures.text ∙ ap (head_text (encode_lower c.args.seal.now) c.args.event) count) made)
    (omega arith) (c.in_ok-answer.ensures.all rs is) c.in_ok-answer.ensures.rises.0 (omega (arith, long, c.requires.there)) (omega (arith, ap length same, w.is_index.few)) c.in_ok-out.ensures.digits
