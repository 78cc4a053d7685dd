-- Trees that are still to be gone through, the first of them last.
use Rattle.std.proofs.Common.{◌≡◌, ◌<◌, ◌+◌, ap, sym, ◌∙◌, List, [], ◌∷◌, ◌++◌, refl, arith, map, reverse, append_assoc}
use Rattle.std.proofs.lemmas.List.{reverse-append, map-append}
use Rattle.std.specs.Borrow.{Bor}
use Rattle.std.specs.declared.alloc.Global.{Global}
use Rattle.std.specs.declared.vec.Vec.{Vec}
use Rattle.wy_tree.specs.Seen.{Tok, seen}
use Rattle.wy_tree.specs.Ast.{Asts, none, more, view, views, views_of, joined, tokens, tokens_all, size, sizes}
use Rattle.wy_tree.specs.declared.token.Token.{Token}
use Rattle.wy_tree.specs.declared.tree.Form.{Form}
use Rattle.wy_tree.specs.declared.tree.Tree.{Tree}
use Rattle.wy_tree.specs.declared.tree.Tree.TheVariants as trees
use Rattle.wy_tree.proofs.Views.{view_leaf, view_node}

pushed : (old new : List (Bor Tree)) (b : Bor Tree) → new ≡ old ++ (b ∷ []) → views_of (reverse new) ≡ more (view b.now) (views_of (reverse old))
pushed old new b e = ap (λ z. views_of (reverse z)) e ∙ ap views_of (reverse-append old (b ∷ []))

last_joined : (before : List Tree) (t : Tree) (q : Asts) → joined (views (before ++ (t ∷ []))) q ≡ joined (views before) (more (view t) q)
last_joined [] t q = refl
last_joined (u ∷ before) t q = ap (more (view u)) (last_joined before t q)

pub kept : (old new : List (Bor Tree)) (left before : List Tree) (b : Bor Tree) (whole : Asts) → left ≡ before ++ (b.now ∷ []) → new ≡ old ++ (b ∷ []) → joined (views left) (views_of (reverse old)) ≡ whole
    → joined (views before) (views_of (reverse new)) ≡ whole
kept old new left before b whole e f g =
    ap (joined (views before)) (pushed old new b f) ∙ sym (last_joined before b.now (views_of (reverse old))) ∙ sym (ap (λ z. joined (views z) (views_of (reverse old))) e) ∙ g

tokens_joined : (a b : Asts) → tokens_all (joined a b) ≡ tokens_all a ++ tokens_all b
tokens_joined none b = refl
tokens_joined (more t a) b = ap (λ z. tokens t ++ z) (tokens_joined a b) ∙ sym (append_assoc (tokens t) (tokens_all a) (tokens_all b))

sizes_joined : (a b : Asts) → sizes (joined a b) ≡ sizes a + sizes b
sizes_joined none b = omega arith
sizes_joined (more t a) b = omega (arith, sizes_joined a b)

pub leaf_smaller : (old new : List (Bor Tree)) (b : Bor Tree) (t : Token) → old ≡ new ++ (b ∷ []) → b.now ≡ trees.Leaf t → sizes (views_of (reverse new)) < sizes (views_of (reverse old))
leaf_smaller old new b t e f =
    let p = ap sizes (pushed new old b e) in
    let q : size (view b.now) ≡ 1 = ap size (ap view f ∙ view_leaf t) in
    omega (arith, p, q)

pub leaf_kept : (old new : List (Bor Tree)) (b : Bor Tree) (t u : Token) (found found' : List Token) (whole : List Tok) → old ≡ new ++ (b ∷ []) → b.now ≡ trees.Leaf t → found' ≡ found ++ (u ∷ []) → seen u ≡ seen t
    → map seen found ++ tokens_all (views_of (reverse old)) ≡ whole → map seen found' ++ tokens_all (views_of (reverse new)) ≡ whole
leaf_kept old new b t u found found' whole e f g h w =
    let rest = tokens_all (views_of (reverse new)) in
    let p : tokens_all (views_of (reverse old)) ≡ seen t ∷ rest = ap tokens_all (pushed new old b e) ∙ ap (λ z. tokens z ++ rest) (ap view f ∙ view_leaf t) in
    ap (λ z. map seen z ++ rest) g ∙ ap (λ z. z ++ rest) (map-append seen found (u ∷ [])) ∙ append_assoc (map seen found) (seen u ∷ []) rest
    ∙ ap (λ z. map seen found ++ (z ∷ rest)) h ∙ sym (ap (λ z. map seen found ++ z) p) ∙ w

pub node_smaller : (old new put : List (Bor Tree)) (b : Bor Tree) (f : Form) (v : Vec Tree Global) → old ≡ new ++ (b ∷ []) → b.now ≡ trees.Node f v → views_of (reverse put) ≡ joined (views v.items) (views_of (reverse new))
    → sizes (views_of (reverse put)) < sizes (views_of (reverse old))
node_smaller old new put b f v e g h =
    let p = ap sizes (pushed new old b e) in
    let q : size (view b.now) ≡ sizes (views v.items) + 1 = ap size (ap view g ∙ view_node f v) in
    let r = ap sizes h ∙ sizes_joined (views v.items) (views_of (reverse new)) in
    omega (arith, p, q, r)

pub node_kept : (old new put : List (Bor Tree)) (b : Bor Tree) (f : Form) (v : Vec Tree Global) (done whole : List Tok) → old ≡ new ++ (b ∷ []) → b.now ≡ trees.Node f v → views_of (reverse put) ≡ joined (views v.items) (views_of (reverse new))
    → done ++ tokens_all (views_of (reverse old)) ≡ whole → done ++ tokens_all (views_of (reverse put)) ≡ whole
node_kept old new put b f v done whole e g h w =
    let rest = tokens_all (views_of (reverse new)) in
    let p : tokens_all (views_of (reverse old)) ≡ tokens_all (views v.items) ++ rest = ap tokens_all (pushed new old b e) ∙ ap (λ z. tokens z ++ rest) (ap view g ∙ view_node f v) in
    ap (λ z. done ++ z) (ap tokens_all h ∙ tokens_joined (views v.items) (views_of (reverse new)) ∙ sym p) ∙ w
