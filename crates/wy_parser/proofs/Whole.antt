-- All the tokens.
use Rattle.std.proofs.Common.{◌≡◌, ◌≤◌, List, [], ◌∷◌, Some, None, Result, Ok, Err, IfOk, refl, sym, ◌∙◌, ap, append-nil, arith}
use Rattle.wy_tree.specs.Seen.{Tok}
use Rattle.wy_tree.specs.Ast.{Ast, tokens, view, deep}
use Rattle.wy_tree.specs.declared.grammar.Sort.TheVariants as sorts
use Rattle.wy_tree.specs.declared.tree.Tree.{Tree}
use Rattle.wy_parser.specs.Prediction.{continued_level}
use Rattle.wy_parser.specs.Reading.{Read, reader}
use Rattle.wy_parser.specs.Parsed.{without_rest, whole, Tells}
use Rattle.wy_tree.specs.Trees.{IsTreeOf}
use Rattle.wy_parser.specs.declared.parse.ParseError.{ParseError}
use Rattle.wy_parser.proofs.Following.{Told, reader_follows}
use Rattle.wy_parser.proofs.Sound.{reader_sound}

without_rest_ok : (r : Read) (t : Ast) → without_rest r ≡ Some t → r ≡ Some (t, [])
without_rest_ok None t e = absurd (cc)
without_rest_ok (Some (a, [])) t e = let f : a ≡ t = cc in ap (λ z. Some (z, [])) f
without_rest_ok (Some (a, o ∷ s)) t e = absurd (cc)

pub whole_sound : (s : List Tok) (t : Ast) → whole s ≡ Some t → IsTreeOf s t
unfolding whole
whole_sound s t e =
    let i = reader_sound 300 24 sorts.Unit s (t, []) (without_rest_ok (reader 300 24 sorts.Unit s) t e) in
    ((i.is, i.shallow), sym (i.spelled ∙ append-nil (tokens t)))

pub tells_found : (r : Result Tree ParseError) (s u : List Tok) → Tells r (whole s) → s ≡ u → IfOk r (λ t. IsTreeOf u (view t))
tells_found (Ok t) s u e f = let w = whole_sound s (view t) e in (w.0, w.1 ∙ f)
tells_found (Err d) s u e f = tt

-- a tree whose choices its tokens tell is found
pub whole_told : (t : Ast) → Told sorts.Unit t [] → deep t ≤ 300 → whole (tokens t) ≡ Some t
unfolding whole continued_level
whole_told t w le = ap (λ z. without_rest (reader 300 24 sorts.Unit z)) (sym (append-nil (tokens t))) ∙ ap without_rest (reader_follows 300 sorts.Unit t [] w refl le (omega arith))
