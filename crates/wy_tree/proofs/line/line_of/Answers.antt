use Rattle.std.proofs.Common.{ℕ, zero, suc, ◌≡◌, ◌∙◌, ◌<◌, ◌-◌, min, List, [], ◌∷◌, length, map, get_or, refl, sym, ap, arith}
use Rattle.std.proofs.lemmas.List.{length-map}
use Rattle.std.proofs.lemmas.Bool.{ltb-true}
use Rattle.wy_tree.specs.declared.token.Spanned.{Spanned}
use Rattle.wy_tree.specs.Lines.{line_of}
use Rattle.wy_tree.specs.Tokens.{SpannedToken, spanned_token}
use Rattle.wy_tree.proofs.line.line_of.Goals as goal

line_at : (tokens : List Spanned) (i : ℕ) (d : Spanned) → i < length tokens → get_or (map (λ (t : SpannedToken). t.line) (map spanned_token tokens)) i 1 ≡ (get_or tokens i d).line
line_at [] i d lt = absurd (omega arith)
line_at (t ∷ tokens) zero d lt = refl
line_at (t ∷ tokens) (suc i) d lt = line_at tokens i d (omega arith)

number_is : (tokens : List Spanned) (number i j : ℕ) → i ≡ min number j → j ≡ length tokens - 1 → i ≡ min number (length (map spanned_token tokens) - 1)
number_is tokens number i j e f = e ∙ ap (λ z. min number z) f ∙ ap (λ z. min number (z - 1)) (sym (length-map tokens spanned_token))

line_is : (tokens : List Spanned) (number i j : ℕ) (here : Spanned) → i ≡ min number j → j ≡ length tokens - 1 → i < length tokens → here ≡ get_or tokens i here → here.line ≡ line_of (map spanned_token tokens) number
line_is tokens number i j here e f lt g =
    ap (λ (s : Spanned). s.line) g ∙ sym (line_at tokens i here lt) ∙ ap (λ k. get_or (map (λ (t : SpannedToken). t.line) (map spanned_token tokens)) k 1) (number_is tokens number i j e f)

pub returns-in-Some : goal.returns-in-Some
returns-in-Some c =
    line_is c.args.tokens.now c.args.token c.min-number.result c.saturating_sub.result c.in-Some.spanned.now c.min-number.ensures c.saturating_sub.ensures
    (ltb-true _ _ (sym c.in-Some.ensures.lookup.0)) c.in-Some.ensures.lookup.1
