-- The token that is named is one that may be named: what agrees through it has no tree.
use Rattle.std.proofs.Common.{◌≡◌, ◌<◌, ◌≤◌, ◌+◌, ◌-◌, ℕ, List, [], ◌∷◌, ◌++◌, Some, None, Result, Ok, Err, IfErr, length, refl, sym, ◌∙◌, ap, subst, arith}
use Rattle.std.specs.Prelude.{take, drop, min}
use Rattle.std.proofs.lemmas.List.{length-drop, take-append-drop}
use Rattle.wy_tree.specs.Seen.{Tok}
use Rattle.wy_tree.specs.Ast.{Ast}
use Rattle.wy_tree.specs.Trees.{HasNoTree}
use Rattle.wy_tree.specs.declared.grammar.Sort.TheVariants as sorts
use Rattle.wy_tree.specs.declared.tree.Tree.{Tree}
use Rattle.wy_parser.specs.Symbols.{symbols_seen}
use Rattle.wy_parser.specs.declared.symbol.Symbol.{Symbol}
use Rattle.wy_parser.specs.Reading.{Read, reader}
use Rattle.wy_parser.specs.Looks.{later, looked, looked_whole}
use Rattle.wy_parser.specs.Parsed.{without_rest, whole, Tells, NamesLast}
use Rattle.wy_parser.specs.Causes.{AllowsSyntax, IsPlaced}
use Rattle.wy_parser.specs.declared.parse.ParseError.{ParseError}
use Rattle.wy_parser.specs.declared.parse.ParseError.TheVariants as errors
use Rattle.wy_parser.proofs.Sights.{less_not, le_same, le_then, less_then}
use Rattle.wy_parser.proofs.Looks.{length_seen, min_left, min_right, looked_falls, Alike, lost, alike, refuses_alike}
use Rattle.wy_parser.proofs.Complete.{read_back}

-- what was looked at of a reading, with what is left
abbrev seen_of : Read → ℕ → ℕ
seen_of r n = later r n (λ t s m. min m (length s))

seen_falls : (r : Read) (n : ℕ) → seen_of r n ≤ n
seen_falls None n = le_same n
seen_falls (Some x) n = min_left n (length x.1)

pub whole_falls : (s : List Tok) → looked_whole s ≤ length s
unfolding looked_whole
whole_falls s =
    le_then _ _ _ (seen_falls (reader 300 24 sorts.Unit s) (looked 300 24 sorts.Unit s (length s))) (looked_falls 300 24 sorts.Unit s (length s))

left_over : (t : Ast) (q u v : List Tok) (n : ℕ) → length u < min n (length (q ++ u)) → without_rest (Some (t, q ++ v)) ≡ None
left_over t [] u v n h = absurd (less_not (length u) _ h (min_right n (length u)))
left_over t (o ∷ q) u v n h = refl

-- What has no tree has none after another rest, if no token of the rest was looked at.
whole_alike : (p u v : List Tok) → length u < looked_whole (p ++ u) → whole (p ++ u) ≡ None → whole (p ++ v) ≡ None
unfolding whole looked_whole
whole_alike p u v h e =
    by (refuses_alike 300 24 sorts.Unit p u v (length (p ++ u)) (less_then _ _ _ h (seen_falls (reader 300 24 sorts.Unit (p ++ u)) (looked 300 24 sorts.Unit (p ++ u) (length (p ++ u))))))
  where
    by : Alike u v (reader 300 24 sorts.Unit (p ++ u)) (reader 300 24 sorts.Unit (p ++ v)) → without_rest (reader 300 24 sorts.Unit (p ++ v)) ≡ None
    by (lost f) = ap without_rest f
    by (alike t q f g) =
        ap without_rest g ∙ left_over t q u v (looked 300 24 sorts.Unit (p ++ u) (length (p ++ u))) (subst (λ z. length u < seen_of z (looked 300 24 sorts.Unit (p ++ u) (length (p ++ u)))) f h)

treeless : (s : List Tok) → whole s ≡ None → HasNoTree s
treeless s e = λ t w. let f = read_back s t w in let g : Some t ≡ None = sym f ∙ e in cc

allows : (s : List Tok) (at : ℕ) → whole s ≡ None → at + looked_whole s ≡ length s → AllowsSyntax s at
allows s at e f = (
  omega (arith, f),
  λ lt u agree.
      let split : take (at + 1) s ++ drop (at + 1) s ≡ s = take-append-drop (at + 1) s in
      let short : length (drop (at + 1) s) ≡ length s - (at + 1) = length-drop (at + 1) s in
      let near : length (drop (at + 1) s) < looked_whole s = omega (arith, short, f, lt) in
      let none_here : whole (take (at + 1) s ++ drop (at + 1) s) ≡ None = ap whole split ∙ e in
      let none_there : whole (take (at + 1) s ++ drop (at + 1) u) ≡ None =
      whole_alike (take (at + 1) s) (drop (at + 1) s) (drop (at + 1) u) (subst (λ z. length (drop (at + 1) s) < looked_whole z) (sym split) near) none_here in
      treeless u (ap whole (sym (take-append-drop (at + 1) u)) ∙ ap (λ z. whole (z ++ drop (at + 1) u)) (sym agree) ∙ none_there),
)

-- what parsing returned, in the words of its contract
pub tells_placed : (r : Result Tree ParseError) (s u : List Tok) → Tells r (whole s) → IfErr r (λ d. NamesLast d (length s) (looked_whole s)) → s ≡ u → IfErr r (λ d. IsPlaced u d)
tells_placed (Ok t) s u e f same_one = tt
tells_placed (Err (errors.Syntax at)) s u e f same_one = subst (λ z. IsPlaced z (errors.Syntax at)) same_one (allows s at e f)
tells_placed (Err errors.NoMemory) s u e f same_one = tt

pub tells_last : (r : Result Tree ParseError) (s u : List Tok) → IfErr r (λ d. NamesLast d (length s) (looked_whole s)) → s ≡ u → IfErr r (λ d. NamesLast d (length u) (looked_whole u))
tells_last r s u w e = subst (λ z. IfErr r (λ d. NamesLast d (length z) (looked_whole z))) e w

-- the last token that was looked at of a whole text
pub looked_within : (s : List Symbol) (n : ℕ) → n ≡ looked 300 24 sorts.Unit (symbols_seen s) (length s) → n ≤ length s
looked_within s n e = subst (λ z. z ≤ length s) (sym e) (looked_falls 300 24 sorts.Unit (symbols_seen s) (length s))

named : (d : ParseError) (s : List Symbol) (n m : ℕ) → n ≡ m → NamesLast d (length s) n → NamesLast d (length (symbols_seen s)) m
named d s n m e f = subst (λ z. NamesLast d z m) (sym (length_seen s)) (subst (NamesLast d (length s)) e f)

sooner : (s : List Symbol) (n : ℕ) → n ≡ looked 300 24 sorts.Unit (symbols_seen s) (length s) → n ≡ looked 300 24 sorts.Unit (symbols_seen s) (length (symbols_seen s))
sooner s n e = e ∙ ap (looked 300 24 sorts.Unit (symbols_seen s)) (sym (length_seen s))

pub last_left : (d : ParseError) (s r : List Symbol) (t : Ast) (n m : ℕ) → reader 300 24 sorts.Unit (symbols_seen s) ≡ Some (t, symbols_seen r) → n ≡ looked 300 24 sorts.Unit (symbols_seen s) (length s) → m ≡ min n (length r)
    → NamesLast d (length s) m → NamesLast d (length (symbols_seen s)) (looked_whole (symbols_seen s))
unfolding looked_whole
last_left d s r t n m e f g =
    named d s m (looked_whole (symbols_seen s))
    (g ∙ ap (λ z. min z (length r)) (sooner s n f) ∙ ap (min (looked 300 24 sorts.Unit (symbols_seen s) (length (symbols_seen s)))) (sym (length_seen r))
    ∙ sym (ap (λ z. seen_of z (looked 300 24 sorts.Unit (symbols_seen s) (length (symbols_seen s)))) e))

pub last_none : (d : ParseError) (s : List Symbol) (n : ℕ) → reader 300 24 sorts.Unit (symbols_seen s) ≡ None → n ≡ looked 300 24 sorts.Unit (symbols_seen s) (length s)
    → NamesLast d (length s) n → NamesLast d (length (symbols_seen s)) (looked_whole (symbols_seen s))
unfolding looked_whole
last_none d s n e f =
    named d s n (looked_whole (symbols_seen s)) (sooner s n f ∙ sym (ap (λ z. seen_of z (looked 300 24 sorts.Unit (symbols_seen s) (length (symbols_seen s)))) e))
