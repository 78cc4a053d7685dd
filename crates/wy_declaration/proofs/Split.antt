-- Parts by the first of them, and by those in front.
use Rattle.std.proofs.Common.{◌≡◌, ℕ, zero, suc, ◌+◌, ◌-◌, ◌<◌, ◌≤◌, List, [], ◌∷◌, length, take, drop, get_or, refl, ap, sym, ◌∙◌, arith}
use Rattle.wy_tree.specs.Ast.{Ast, Asts, none, more, view, views}
use Rattle.wy_tree.specs.declared.tree.Tree.{Tree}
use Rattle.wy_syntax.specs.Names.{width, widths}
use Rattle.wy_syntax.specs.Declarations.{placed}
use Rattle.wy_syntax.proofs.Shapes.{one_before}
use Rattle.wy_declaration.specs.declared.part.Part.{Part}
use Rattle.wy_declaration.specs.declared.part.Parts.{Parts}
use Rattle.wy_declaration.specs.Parts.{parts_of, IsEmpty, Splits}

pub placed_none : (n : ℕ) (ts : List Tree) → length ts < 1 → placed n (views ts) ≡ []
unfolding placed
placed_none n [] low = refl
placed_none n (t ∷ ts) low = absurd (omega (arith, low))

views_none : (ts : List Tree) → length ts < 1 → views ts ≡ none
views_none [] low = refl
views_none (t ∷ ts) low = absurd (omega (arith, low))

pub empty : (p : Parts) → length p.trees.now < 1 → IsEmpty p
unfolding parts_of
empty p low = record { parts = placed_none p.at p.trees.now low; trees = views_none p.trees.now low }

placed_more : (n m k : ℕ) (ts rest : Asts) (t : Ast) → ts ≡ more t rest → k ≡ n → m ≡ n + width t → placed n ts ≡ record { at = k; entity = t } ∷ placed m rest
unfolding placed
placed_more n m k ts rest t shape ek em = rw (shape, ek, em) refl

rest_is : (ts : List Tree) → take (length ts) ts ≡ ts
rest_is [] = refl
rest_is (t ∷ ts) = ap (λ z. t ∷ z) (rest_is ts)

behind_is : (t : Tree) (ts : List Tree) → take (length (t ∷ ts) - 1) ts ≡ ts
behind_is t ts = let e : length (t ∷ ts) - 1 ≡ length ts = omega arith in ap (λ n. take n ts) e ∙ rest_is ts

length_behind : (ts : List Tree) → 1 ≤ length ts → length ts ≡ length (take (length ts - 1) (drop 1 ts)) + 1
length_behind [] low = absurd (omega (arith, low))
length_behind (t ∷ ts) low = let e : length (take (length (t ∷ ts) - 1) ts) ≡ length ts = ap length (behind_is t ts) in omega (arith, e)

pub splits : (p : Parts) (t : Tree) (w : ℕ) (first : Part) (behind : Parts)
    → 1 ≤ length p.trees.now → t ≡ get_or p.trees.now 0 t → w ≡ width (view t) → first.at ≡ p.at → first.tree.now ≡ t → behind.at ≡ p.at + w
    → behind.trees.now ≡ take (length p.trees.now - 1) (drop 1 p.trees.now) → Splits p first behind
unfolding parts_of
splits p t w first behind low et ew ea ei eb er =
    let shape = one_before p.trees.now t low et ∙ ap (λ z. more z (views (take (length p.trees.now - 1) (drop 1 p.trees.now)))) (sym (ap view ei)) ∙ ap (λ z. more (view first.tree.now) (views z)) (sym er) in
    let next = eb ∙ ap (λ z. p.at + z) (ew ∙ ap (λ z. width (view z)) (sym ei)) in
    record {
      parts = placed_more p.at behind.at first.at _ _ _ shape ea next;
      trees = shape;
      count = length_behind p.trees.now low ∙ ap (λ z. length z + 1) (sym er);
      at = ea;
      next = next;
    }

-- as many parts as trees
placed_length : (n : ℕ) (ts : List Tree) → length (placed n (views ts)) ≡ length ts
unfolding placed
placed_length n [] = refl
placed_length n (t ∷ ts) = ap suc (placed_length (n + width (view t)) ts)

pub count_of : (p : Parts) → length (parts_of p) ≡ length p.trees.now
unfolding parts_of
count_of p = placed_length p.at p.trees.now

-- the parts in front are those of the trees in front
placed_take : (k n : ℕ) (ts : List Tree) → placed n (views (take k ts)) ≡ take k (placed n (views ts))
unfolding placed
placed_take zero n ts = refl
placed_take (suc k) n [] = refl
placed_take (suc k) n (t ∷ ts) = ap (λ z. record { at = n; entity = view t } ∷ z) (placed_take k (n + width (view t)) ts)

pub in_front : (p front : Parts) (k : ℕ) → front.at ≡ p.at → front.trees.now ≡ take k p.trees.now → parts_of front ≡ take k (parts_of p)
unfolding parts_of
in_front p front k ea et = ap (λ z. placed z (views front.trees.now)) ea ∙ ap (λ z. placed p.at (views z)) et ∙ placed_take k p.at p.trees.now

pub widths_take : (k : ℕ) (ts : List Tree) → widths (views (take k ts)) ≤ widths (views ts)
widths_take zero ts = omega arith
widths_take (suc k) [] = omega arith
widths_take (suc k) (t ∷ ts) = omega (arith, widths_take k ts)
