use Rattle.std.proofs.Common.{◌∙◌, ap, ap₂, map, sym}
use Rattle.std.proofs.lemmas.List.{drop-map, take-map}
use Rattle.std.proofs.lemmas.Result.{IfOk-weaker}
use Rattle.wy_tree.specs.Tokens.{spanned_token}
use Rattle.wy_explain.specs.Windows.{front_of, window_at}
use Rattle.wy_explain.proofs.text.window_at.Goals as goal

pub returns : goal.returns
returns c =
    let front_is = ap (map spanned_token) c.split.ensures.0 ∙ sym (take-map spanned_token c.args.token c.args.tokens.now) in
    let back_is = ap (map spanned_token) c.split.ensures.1 ∙ sym (drop-map spanned_token c.args.token c.args.tokens.now) in
    IfOk-weaker c.around.result _ _ (λ w is. is ∙ ap₂ (λ f b. window_at c.args.source.now (front_of c.args.source.now f) b) front_is back_is) c.around.ensures
