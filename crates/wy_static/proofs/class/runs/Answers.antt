use Rattle.std.proofs.Common.{ℕ, ◌++◌, ◌∷◌, [], List, map, take, take_all, get_or, sym, ap, ◌∙◌}
use Rattle.std.proofs.lemmas.List.{map-append, take_more}
use Rattle.std.proofs.lemmas.List.Filters.{dedup_is}
use Rattle.wy_kernel.specs.Program.{dispatch}
use Rattle.wy_static.specs.Seen.{seen_by}
use Rattle.wy_static.proofs.Receiving.{settled}
use Rattle.wy_static.proofs.class.runs.Goals as goal

pub loop-receiver-preserved : goal.loop-receiver-preserved
loop-receiver-preserved c =
    let f = dispatch (seen_by c.args.dispatcher.now) c.args.method in
    let receivers = c.args.receivers.now in
    let i = c.loop-receiver.receiver-index in
    c.in_ok-push.ensures.items
    ∙ ap (λ (l : List ℕ). l ++ c.dispatch.result ∷ []) c.loop-receiver.invariant
    ∙ ap (λ (n : ℕ). map f (take i receivers) ++ n ∷ []) c.dispatch.ensures
    ∙ sym (map-append f (take i receivers) (get_or receivers i 0 ∷ []))
    ∙ ap (λ (ns : List ℕ). map f ns) (sym (take_more receivers i 0 c.loop-receiver-test.true))

pub returns : goal.returns
returns c =
    let f = dispatch (seen_by c.args.dispatcher.now) c.args.method in
    let all = c.loop-receiver.invariant ∙ ap (λ (xs : List ℕ). map f xs) (take_all c.loop-receiver.receiver-index c.args.receivers.now c.loop-receiver-test.false) in
    settled _ _ _ (map f c.args.receivers.now) all c.sort_unstable.ensures.permutation (dedup_is _ _ _ c.dedup.ensures.filtered)
