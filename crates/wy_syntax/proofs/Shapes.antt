-- A list of trees by its length and its trees, as the parts that contracts see.
use Rattle.std.proofs.Common.{◌≡◌, ℕ, ◌-◌, ◌<◌, ◌≤◌, suc, List, [], ◌∷◌, length, get_or, take, drop, refl, ap, sym, ◌∙◌, arith, Result, IfOk}
use Rattle.std.proofs.lemmas.Result.{IfOk-weaker}
use Rattle.wy_tree.specs.declared.tree.Tree.{Tree}
use Rattle.wy_tree.specs.declared.tree.Tree.TheVariants as trees
use Rattle.wy_tree.specs.declared.tree.Form.{Form}
use Rattle.wy_tree.specs.declared.token.Token.{Token}
use Rattle.std.specs.declared.alloc.Global.{Global}
use Rattle.std.specs.declared.vec.Vec.{Vec}
use Rattle.wy_tree.specs.Seen.{seen}
use Rattle.wy_tree.specs.Ast.{Ast, Asts, Leaf, Node, none, more, view, views}
use Rattle.wy_tree.proofs.Views.{view_leaf, view_node}

-- what is said of a value, said of what equals it
pub carried : {X E Y : Type 0} (r : Result X E) (f : X → Y) (a b : Y) → a ≡ b → IfOk r (λ x. f x ≡ a) → IfOk r (λ x. f x ≡ b)
carried r f a b e h = IfOk-weaker r _ _ (λ x p. p ∙ e) h

pub leaf_is : (t : Tree) (o : Token) → t ≡ trees.Leaf o → view t ≡ Leaf (seen o)
leaf_is t o e = ap view e ∙ view_leaf o

pub node_is : (t : Tree) (f : Form) (v : Vec Tree Global) → t ≡ trees.Node f v → view t ≡ Node f (views v.items)
node_is t f v e = ap view e ∙ view_node f v

-- how many parts
abbrev pub count : Asts → ℕ
count none = 0
count (more t rest) = suc (count rest)

pub counted : (ts : List Tree) → count (views ts) ≡ length ts
counted [] = refl
counted (t ∷ ts) = ap suc (counted ts)

pub not_counted : (ts : List Tree) (k : ℕ) → (length ts ≡ k → ⊥) → count (views ts) ≡ k → ⊥
not_counted ts k h e = h (sym (counted ts) ∙ e)

rest_is : (ts : List Tree) → take (length ts) ts ≡ ts
rest_is [] = refl
rest_is (t ∷ ts) = ap (λ z. t ∷ z) (rest_is ts)

pub one_is : (ts : List Tree) (a : Tree) → 1 ≤ length ts → length ts < 2 → a ≡ get_or ts 0 a → views ts ≡ more (view a) none
one_is [] a low high p = absurd (omega (arith, low))
one_is (x ∷ []) a low high p = rw (p) refl
one_is (x ∷ y ∷ ts) a low high p = absurd (omega (arith, high))

pub two_are : (ts : List Tree) (a b : Tree) → 2 ≤ length ts → length ts < 3 → a ≡ get_or ts 0 a → b ≡ get_or ts 1 b → views ts ≡ more (view a) (more (view b) none)
two_are [] a b low high p q = absurd (omega (arith, low))
two_are (x ∷ []) a b low high p q = absurd (omega (arith, low))
two_are (x ∷ y ∷ []) a b low high p q = rw (p, q) refl
two_are (x ∷ y ∷ z ∷ ts) a b low high p q = absurd (omega (arith, high))

pub three_are : (ts : List Tree) (a b c : Tree) → 3 ≤ length ts → length ts < 4 → a ≡ get_or ts 0 a → b ≡ get_or ts 1 b → c ≡ get_or ts 2 c
    → views ts ≡ more (view a) (more (view b) (more (view c) none))
three_are [] a b c low high p q r = absurd (omega (arith, low))
three_are (x ∷ []) a b c low high p q r = absurd (omega (arith, low))
three_are (x ∷ y ∷ []) a b c low high p q r = absurd (omega (arith, low))
three_are (x ∷ y ∷ z ∷ []) a b c low high p q r = rw (p, q, r) refl
three_are (x ∷ y ∷ z ∷ w ∷ ts) a b c low high p q r = absurd (omega (arith, high))

pub four_are : (ts : List Tree) (a b c d : Tree) → 4 ≤ length ts → length ts < 5 → a ≡ get_or ts 0 a → b ≡ get_or ts 1 b → c ≡ get_or ts 2 c → d ≡ get_or ts 3 d
    → views ts ≡ more (view a) (more (view b) (more (view c) (more (view d) none)))
four_are [] a b c d low high p q r s = absurd (omega (arith, low))
four_are (x ∷ []) a b c d low high p q r s = absurd (omega (arith, low))
four_are (x ∷ y ∷ []) a b c d low high p q r s = absurd (omega (arith, low))
four_are (x ∷ y ∷ z ∷ []) a b c d low high p q r s = absurd (omega (arith, low))
four_are (x ∷ y ∷ z ∷ w ∷ []) a b c d low high p q r s = rw (p, q, r, s) refl
four_are (x ∷ y ∷ z ∷ w ∷ v ∷ ts) a b c d low high p q r s = absurd (omega (arith, high))

pub five_are : (ts : List Tree) (a b c d e : Tree) → 5 ≤ length ts → length ts < 6
    → a ≡ get_or ts 0 a → b ≡ get_or ts 1 b → c ≡ get_or ts 2 c → d ≡ get_or ts 3 d → e ≡ get_or ts 4 e
    → views ts ≡ more (view a) (more (view b) (more (view c) (more (view d) (more (view e) none))))
five_are [] a b c d e low high p q r s t = absurd (omega (arith, low))
five_are (x ∷ []) a b c d e low high p q r s t = absurd (omega (arith, low))
five_are (x ∷ y ∷ []) a b c d e low high p q r s t = absurd (omega (arith, low))
five_are (x ∷ y ∷ z ∷ []) a b c d e low high p q r s t = absurd (omega (arith, low))
five_are (x ∷ y ∷ z ∷ w ∷ []) a b c d e low high p q r s t = absurd (omega (arith, low))
five_are (x ∷ y ∷ z ∷ w ∷ v ∷ []) a b c d e low high p q r s t = rw (p, q, r, s, t) refl
five_are (x ∷ y ∷ z ∷ w ∷ v ∷ u ∷ ts) a b c d e low high p q r s t = absurd (omega (arith, high))

pub six_are : (ts : List Tree) (a b c d e f : Tree) → 6 ≤ length ts → length ts < 7
    → a ≡ get_or ts 0 a → b ≡ get_or ts 1 b → c ≡ get_or ts 2 c → d ≡ get_or ts 3 d → e ≡ get_or ts 4 e → f ≡ get_or ts 5 f
    → views ts ≡ more (view a) (more (view b) (more (view c) (more (view d) (more (view e) (more (view f) none)))))
six_are [] a b c d e f low high p q r s t u = absurd (omega (arith, low))
six_are (x ∷ []) a b c d e f low high p q r s t u = absurd (omega (arith, low))
six_are (x ∷ y ∷ []) a b c d e f low high p q r s t u = absurd (omega (arith, low))
six_are (x ∷ y ∷ z ∷ []) a b c d e f low high p q r s t u = absurd (omega (arith, low))
six_are (x ∷ y ∷ z ∷ w ∷ []) a b c d e f low high p q r s t u = absurd (omega (arith, low))
six_are (x ∷ y ∷ z ∷ w ∷ v ∷ []) a b c d e f low high p q r s t u = absurd (omega (arith, low))
six_are (x ∷ y ∷ z ∷ w ∷ v ∷ k ∷ []) a b c d e f low high p q r s t u = rw (p, q, r, s, t, u) refl
six_are (x ∷ y ∷ z ∷ w ∷ v ∷ k ∷ l ∷ ts) a b c d e f low high p q r s t u = absurd (omega (arith, high))

pub seven_are : (ts : List Tree) (a b c d e f g : Tree) → 7 ≤ length ts → length ts < 8
    → a ≡ get_or ts 0 a → b ≡ get_or ts 1 b → c ≡ get_or ts 2 c → d ≡ get_or ts 3 d → e ≡ get_or ts 4 e → f ≡ get_or ts 5 f → g ≡ get_or ts 6 g
    → views ts ≡ more (view a) (more (view b) (more (view c) (more (view d) (more (view e) (more (view f) (more (view g) none))))))
seven_are [] a b c d e f g low high p q r s t u v = absurd (omega (arith, low))
seven_are (x ∷ []) a b c d e f g low high p q r s t u v = absurd (omega (arith, low))
seven_are (x ∷ y ∷ []) a b c d e f g low high p q r s t u v = absurd (omega (arith, low))
seven_are (x ∷ y ∷ z ∷ []) a b c d e f g low high p q r s t u v = absurd (omega (arith, low))
seven_are (x ∷ y ∷ z ∷ w ∷ []) a b c d e f g low high p q r s t u v = absurd (omega (arith, low))
seven_are (x ∷ y ∷ z ∷ w ∷ i ∷ []) a b c d e f g low high p q r s t u v = absurd (omega (arith, low))
seven_are (x ∷ y ∷ z ∷ w ∷ i ∷ k ∷ []) a b c d e f g low high p q r s t u v = absurd (omega (arith, low))
seven_are (x ∷ y ∷ z ∷ w ∷ i ∷ k ∷ l ∷ []) a b c d e f g low high p q r s t u v = rw (p, q, r, s, t, u, v) refl
seven_are (x ∷ y ∷ z ∷ w ∷ i ∷ k ∷ l ∷ m ∷ ts) a b c d e f g low high p q r s t u v = absurd (omega (arith, high))

-- the first parts, and those behind them as a slice has them
pub one_before : (ts : List Tree) (a : Tree) → 1 ≤ length ts → a ≡ get_or ts 0 a → views ts ≡ more (view a) (views (take (length ts - 1) (drop 1 ts)))
one_before [] a low p = absurd (omega (arith, low))
one_before (x ∷ ts) a low p = rw (p) (ap (λ z. more (view x) (views z)) (sym (ap (λ n. take n ts) (omega arith) ∙ rest_is ts)))

pub two_before : (ts : List Tree) (a b : Tree) → 2 ≤ length ts → a ≡ get_or ts 0 a → b ≡ get_or ts 1 b
    → views ts ≡ more (view a) (more (view b) (views (take (length ts - 2) (drop 2 ts))))
two_before [] a b low p q = absurd (omega (arith, low))
two_before (x ∷ []) a b low p q = absurd (omega (arith, low))
two_before (x ∷ y ∷ ts) a b low p q = rw (p, q) (ap (λ z. more (view x) (more (view y) (views z))) (sym (ap (λ n. take n ts) (omega arith) ∙ rest_is ts)))

pub three_before : (ts : List Tree) (a b c : Tree) → 3 ≤ length ts → a ≡ get_or ts 0 a → b ≡ get_or ts 1 b → c ≡ get_or ts 2 c
    → views ts ≡ more (view a) (more (view b) (more (view c) (views (take (length ts - 3) (drop 3 ts)))))
three_before [] a b c low p q r = absurd (omega (arith, low))
three_before (x ∷ []) a b c low p q r = absurd (omega (arith, low))
three_before (x ∷ y ∷ []) a b c low p q r = absurd (omega (arith, low))
three_before (x ∷ y ∷ z ∷ ts) a b c low p q r = rw (p, q, r) (ap (λ w. more (view x) (more (view y) (more (view z) (views w)))) (sym (ap (λ n. take n ts) (omega arith) ∙ rest_is ts)))

pub four_before : (ts : List Tree) (a b c d : Tree) → 4 ≤ length ts → a ≡ get_or ts 0 a → b ≡ get_or ts 1 b → c ≡ get_or ts 2 c → d ≡ get_or ts 3 d
    → views ts ≡ more (view a) (more (view b) (more (view c) (more (view d) (views (take (length ts - 4) (drop 4 ts))))))
four_before [] a b c d low p q r s = absurd (omega (arith, low))
four_before (x ∷ []) a b c d low p q r s = absurd (omega (arith, low))
four_before (x ∷ y ∷ []) a b c d low p q r s = absurd (omega (arith, low))
four_before (x ∷ y ∷ z ∷ []) a b c d low p q r s = absurd (omega (arith, low))
four_before (x ∷ y ∷ z ∷ w ∷ ts) a b c d low p q r s = rw (p, q, r, s) (ap (λ k. more (view x) (more (view y) (more (view z) (more (view w) (views k))))) (sym (ap (λ n. take n ts) (omega arith) ∙ rest_is ts)))

-- a part by what it is
pub with_first : (ts : Asts) (a b : Ast) (rest : Asts) → ts ≡ more a rest → a ≡ b → ts ≡ more b rest
with_first ts a b rest shape e = shape ∙ ap (λ z. more z rest) e

pub with_second : (ts : Asts) (a : Ast) (rest found : Asts) → ts ≡ more a rest → rest ≡ found → ts ≡ more a found
with_second ts a rest found shape e = shape ∙ ap (λ z. more a z) e

pub with_third : (ts : Asts) (a b : Ast) (rest found : Asts) → ts ≡ more a (more b rest) → rest ≡ found → ts ≡ more a (more b found)
with_third ts a b rest found shape e = shape ∙ ap (λ z. more a (more b z)) e
