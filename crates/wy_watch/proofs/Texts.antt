-- From the tokens of a text to what it declares: each step finds the one thing that there is, or finds that there is none.
use Rattle.std.proofs.Common.{◌≡◌, ◌∙◌, ℕ, suc, ◌+◌, ◌<◌, ◌≤◌, List, [], ◌∷◌, length, length-append, map, refl, sym, ap, subst, arith}
use Rattle.std.proofs.lemmas.List.{length-map}
use Rattle.wy_tree.specs.Ast.{Ast, Asts, Leaf, Node, none, more, tokens, tokens_all}
use Rattle.wy_tree.specs.Seen.{Tok}
use Rattle.wy_tree.specs.Tokens.{SpannedToken, spanned_token, Tokens}
use Rattle.wy_tree.specs.TokenLaws.{InOrder, TokensInOrder}
use Rattle.wy_tree.specs.Trees.{IsTreeOf}
use Rattle.wy_tree.specs.declared.token.Spanned.{Spanned}
use Rattle.wy_parser.specs.Symbols.{spanned_seen}
use Rattle.wy_syntax.specs.Names.{width, widths}
use Rattle.wy_syntax.specs.Syntax.{Declaration}
use Rattle.wy_syntax.specs.Declarations.{unit}
use Rattle.wy_watch.specs.Watched.{Declares}

-- ---- how many

-- each token has a byte
within : (place line size : ℕ) (spans : List SpannedToken) → place ≤ size → InOrder place line size spans → place + length spans ≤ size
within place line size [] le o = omega arith
within place line size (t ∷ spans) le h =
    let from : place ≤ t.start = h.0 in
    let some : t.start < t.end = h.1 in
    let rest = within t.end t.line size spans h.2 h.4 in
    omega (arith, from, some, rest)

pub as_many : (ts : List Spanned) → length (map spanned_token ts) ≡ length ts
as_many [] = refl
as_many (t ∷ ts) = ap suc (as_many ts)

-- no more tokens than bytes
pub few_tokens : TokensInOrder → (source : List ℕ) (ts : List Spanned) (limit : ℕ) → length source ≤ limit → Tokens source (map spanned_token ts) → length ts ≤ limit
few_tokens law source ts limit short read =
    let few = within 0 1 (length source) (map spanned_token ts) (omega arith) (law source (map spanned_token ts) read) in
    omega (arith, short, few, as_many ts)

-- a tree is as wide as its tokens are many
mutual
  pub as_wide : (t : Ast) → width t ≡ length (tokens t)
  as_wide (Leaf o) = refl
  as_wide (Node f parts) = all_as_wide parts

  pub all_as_wide : (ts : Asts) → widths ts ≡ length (tokens_all ts)
  all_as_wide none = refl
  all_as_wide (more t rest) =
      let first : width t ≡ length (tokens t) = as_wide t in
      let others : widths rest ≡ length (tokens_all rest) = all_as_wide rest in
      omega (arith, length-append (tokens t) (tokens_all rest))

-- ---- what is found

-- the tokens of a text, as a parser sees them
pub unplaced : (ts : List Spanned) → map (λ (t : SpannedToken). t.token) (map spanned_token ts) ≡ map spanned_seen ts
unplaced [] = refl
unplaced (t ∷ ts) = ap (λ z. spanned_seen t ∷ z) (unplaced ts)

pub tree_fits : (ts : List Spanned) (t : Ast) (limit : ℕ) → length ts ≤ limit → IsTreeOf (map spanned_seen ts) t → 0 + width t ≤ limit
tree_fits ts t limit few (w, is) =
    let wide : width t ≡ length (tokens t) = as_wide t in
    let same : length (tokens t) ≡ length (map spanned_seen ts) = ap length is in
    omega (arith, few, wide, same, length-map ts spanned_seen)

module _ (source : List ℕ) (ts : List Spanned) (only : (spans : List SpannedToken) → Tokens source spans → spans ≡ map spanned_token ts) where
  -- any tree of the text is one of these tokens
  along : (all : List Declaration) (d : Declares source all) → IsTreeOf (map spanned_seen ts) d.tree
  along all d = subst (λ (s : List Tok). IsTreeOf s d.tree) (ap (map (λ (t : SpannedToken). t.token)) (only d.spans d.read) ∙ unplaced ts) d.reads

  pub no_tree : ((t : Ast) → ¬ IsTreeOf (map spanned_seen ts) t) → (all : List Declaration) → ¬ Declares source all
  no_tree lacks all d = lacks d.tree (along all d)

  module _ (t : Ast) (read : Tokens source (map spanned_token ts)) (tree : IsTreeOf (map spanned_seen ts) t) (alone : (u : Ast) → IsTreeOf (map spanned_seen ts) u → u ≡ t) where
    pub declares : Declares source (unit 0 t)
    declares = record {
      spans = map spanned_token ts;
      read = read;
      tree = t;
      reads = subst (λ (s : List Tok). IsTreeOf s t) (sym (unplaced ts)) tree;
      declared = refl;
    }

    pub only_those : (all : List Declaration) → Declares source all → all ≡ unit 0 t
    only_those all d = sym d.declared ∙ ap (unit 0) (alone d.tree (along all d))
