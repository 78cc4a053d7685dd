use Rattle.std.proofs.Common.{◌≡◌, ◌∙◌, [], true, false, cond, sym, ap, rules}
use Rattle.std.specs.Prelude.{filter}
use Rattle.wy_index.specs.Found.{hits_in}
use Rattle.wy_whynot.specs.Evidence.{is_call_from, made_of, targets_of}
use Rattle.wy_whynot.proofs.evidence.made_of.Goals as goal

pub returns-then-not-calls_method : goal.returns-then-not-calls_method
unfolding made_of
returns-then-not-calls_method c = λ rs is.
    let none : c.calls_method.result ≡ false = search rules in
    c.new.ensures.items ∙ ap (λ b. cond b (targets_of (filter (is_call_from c.args.body) (hits_in rs c.args.link.now.site))) []) (sym none ∙ c.calls_method.ensures)

pub returns : goal.returns
unfolding made_of
returns c = λ rs is.
    let calls : c.calls_method.result ≡ true = search rules in
    c.in_ok-made.ensures ∙ ap (λ hs. targets_of (filter (is_call_from c.args.body) hs)) (c.at_site.ensures rs is)
    ∙ ap (λ b. cond b (targets_of (filter (is_call_from c.args.body) (hits_in rs c.args.link.now.site))) []) (sym calls ∙ c.calls_method.ensures)
