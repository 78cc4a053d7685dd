-- Declarators, heads of `for`, labels and values by the shape of their parts.
use Rattle.std.proofs.Common.{◌≡◌, ℕ, ◌+◌, ◌<◌, Bool, true, false, List, [], ◌∷◌, ◌++◌, map, length, Option, Some, refl, ap, sym, ◌∙◌, arith}
use Rattle.std.specs.Prelude.{None}
use Rattle.wy_tree.specs.Ast.{Ast, Asts, Leaf, Node, none, more, views}
use Rattle.wy_tree.specs.Conditions.{pairs}
use Rattle.wy_tree.specs.declared.tree.Tree.{Tree}
use Rattle.wy_tree.specs.declared.kind.Kind.TheVariants as kinds
use Rattle.wy_tree.specs.declared.tree.Form.TheVariants as form
use Rattle.wy_syntax.specs.Syntax as plain
use Rattle.wy_syntax.specs.Names.{width, is_leaf, named, written}
use Rattle.wy_syntax.specs.Expressions.{expression, initial}
use Rattle.wy_syntax.specs.Statements.{initial_in, lone_declarator, declarator, declarator_list, declarators, effect, effects, effects_behind, for_parts, label, value, thrown, declared}
use Rattle.wy_syntax.specs.View.{declarator_of, effect_of}
use Rattle.wy_syntax.specs.declared.statement.Declarator.{Declarator}
use Rattle.wy_syntax.specs.declared.statement.Effect.{Effect}

-- a row with one more at its end, and what follows
pub row_grown : {A B : Type 0} (f : A → B) (found grown : List A) (x : A) (e : B) (rest all : List B)
    → grown ≡ found ++ (x ∷ []) → f x ≡ e → map f found ++ (e ∷ rest) ≡ all → map f grown ++ rest ≡ all
row_grown {A} {B} f found grown x e rest all eg ex h =
    ap (λ z. map f z ++ rest) eg ∙ pushed found ∙ ap (λ z. map f found ++ (z ∷ rest)) ex ∙ h
  where
    pushed : (xs : List A) → map f (xs ++ (x ∷ [])) ++ rest ≡ map f xs ++ (f x ∷ rest)
    pushed [] = refl
    pushed (y ∷ ys) = ap (λ z. f y ∷ z) (pushed ys)

pub row_alone : {A B : Type 0} (f : A → B) (start grown : List A) (x : A) (e : B) → start ≡ [] → grown ≡ start ++ (x ∷ []) → f x ≡ e → map f grown ≡ e ∷ []
row_alone f start grown x e es eg ex = ap (map f) (eg ∙ ap (λ z. z ++ (x ∷ [])) es) ∙ ap (λ z. z ∷ []) ex

pub row_ends : {B : Type 0} (row rest all : List B) → rest ≡ [] → row ++ rest ≡ all → row ≡ all
row_ends {B} row rest all e h = sym (ap (λ z. row ++ z) e ∙ nil row) ∙ h
  where
    nil : (xs : List B) → xs ++ [] ≡ xs
    nil [] = refl
    nil (x ∷ xs) = ap (λ z. x ∷ z) (nil xs)

-- ---- declarators

pub initial_here : (n w : ℕ) (ts rest : Asts) (x v : Ast) (g : plain.Initial) (all : Option plain.Initial)
    → ts ≡ more x (more v rest) → is_leaf kinds.Assign x ≡ true → w ≡ width x → g ≡ initial (n + w) v → initial_in n ts ≡ all → Some g ≡ all
unfolding initial_in
initial_here n w ts rest x v g all shape is ew eg h = sym (rw (shape, is, eg, ew) refl) ∙ h

pub initial_on : (n w : ℕ) (ts tail rest : Asts) (x v : Ast) (all : Option plain.Initial)
    → ts ≡ more x tail → tail ≡ more v rest → is_leaf kinds.Assign x ≡ false → w ≡ width x → initial_in n ts ≡ all → initial_in (n + w) tail ≡ all
unfolding initial_in
initial_on n w ts tail rest x v all shape after other ew h = sym (rw (shape, after, other, ew) refl) ∙ h

pub initial_alone : (n : ℕ) (ts : Asts) (x : Ast) (rest : List Tree) (all : Option plain.Initial) → ts ≡ more x (views rest) → length rest < 1 → initial_in n ts ≡ all → None ≡ all
unfolding initial_in
initial_alone n ts x [] all shape low h = sym (rw (shape) refl) ∙ h
initial_alone n ts x (t ∷ rest) all shape low h = absurd (omega (arith, low))

pub initial_end : (n : ℕ) (ts : List Tree) (all : Option plain.Initial) → length ts < 1 → initial_in n (views ts) ≡ all → None ≡ all
unfolding initial_in
initial_end n [] all low h = h
initial_end n (t ∷ ts) all low h = absurd (omega (arith, low))

pub not_declarator : (n : ℕ) (t : Ast) → ((ts : Asts) → t ≡ Node form.Decl ts → ⊥) → lone_declarator n t ≡ declarator n t
unfolding declarator
not_declarator n (Leaf o) h = refl
not_declarator n (Node form.Decl ts) h = absurd (h ts refl)
not_declarator n (Node _ ts) h = refl

pub empty_declarator : (n : ℕ) (t : Ast) (ts : List Tree) → t ≡ Node form.Decl (views ts) → length ts < 1 → lone_declarator n t ≡ declarator n t
unfolding declarator
empty_declarator n t [] node low = rw (node) refl
empty_declarator n t (u ∷ ts) node low = absurd (omega (arith, low))

pub declarator_is : (n w : ℕ) (t : Ast) (ts rest : Asts) (x : Ast) (name : plain.Named) (k : ℕ) (i : Option plain.Initial)
    → t ≡ Node form.Decl ts → ts ≡ more x rest → w ≡ width x → name ≡ named n x → k ≡ pairs rest → i ≡ initial_in (n + w) rest
    → (let d : plain.Declarator = record { name = name; brackets = k; initial = i } in d) ≡ declarator n t
unfolding declarator
declarator_is n w t ts rest x name k i node shape ew en ek ei = rw (node, shape, en, ek, ei, ew) refl

pub list_go : (n w m : ℕ) (found grown : List Declarator) (d : Declarator) (ts rest : Asts) (v k : Ast) (all : List plain.Declarator)
    → grown ≡ found ++ (d ∷ []) → ts ≡ more v (more k rest) → w ≡ width v → m ≡ width k → declarator_of d ≡ declarator n v
    → map declarator_of found ++ declarator_list n ts ≡ all → map declarator_of grown ++ declarator_list (n + (w + m)) rest ≡ all
unfolding declarator_list
list_go n w m found grown d ts rest v k all eg shape ew em ed h =
    row_grown declarator_of found grown d (declarator n v) _ all eg ed
    (ap (λ p. map declarator_of found ++ (declarator n v ∷ declarator_list p rest)) (omega (arith, ew, em)) ∙ ap (λ z. map declarator_of found ++ declarator_list n z) (sym shape) ∙ h)

pub list_none : (n : ℕ) (ts : List Tree) → length ts < 1 → declarator_list n (views ts) ≡ []
unfolding declarator_list
list_none n [] low = refl
list_none n (t ∷ ts) low = absurd (omega (arith, low))

pub list_last : (n : ℕ) (found grown : List Declarator) (d : Declarator) (ts : Asts) (v : Ast) (all : List plain.Declarator)
    → grown ≡ found ++ (d ∷ []) → ts ≡ more v none → declarator_of d ≡ declarator n v → map declarator_of found ++ declarator_list n ts ≡ all → map declarator_of grown ≡ all
unfolding declarator_list
list_last n found grown d ts v all eg shape ed h =
    row_ends (map declarator_of grown) [] all refl (row_grown declarator_of found grown d (declarator n v) [] all eg ed (ap (λ z. map declarator_of found ++ declarator_list n z) (sym shape) ∙ h))

pub no_list : (n : ℕ) (t : Ast) → ((ts : Asts) → t ≡ Node form.Decls ts → ⊥) → declarator n t ∷ [] ≡ declarators n t
unfolding declarators
no_list n (Leaf o) h = refl
no_list n (Node form.Decls ts) h = absurd (h ts refl)
no_list n (Node _ ts) h = refl

pub list_is : (n : ℕ) (t : Ast) (ts : Asts) → t ≡ Node form.Decls ts → declarator_list n ts ≡ declarators n t
unfolding declarators
list_is n t ts node = rw (node) refl

-- ---- heads

pub effects_go : (n w k : ℕ) (found grown : List Effect) (d : Effect) (ts rest : Asts) (mark e : Ast) (all : List plain.Effect)
    → grown ≡ found ++ (d ∷ []) → ts ≡ more mark (more e rest) → is_leaf kinds.Comma mark ≡ true → w ≡ width mark → k ≡ width e → effect_of d ≡ effect (n + w) e
    → map effect_of found ++ effects_behind n ts ≡ all → map effect_of grown ++ effects_behind (n + w + k) rest ≡ all
unfolding effects_behind
effects_go n w k found grown d ts rest mark e all eg shape is ew ek ed h =
    row_grown effect_of found grown d (effect (n + w) e) _ all eg ed (ap (λ r. map effect_of found ++ r) (sym (rw (shape, is, ew, ek) refl)) ∙ h)

pub effects_stop : (n : ℕ) (ts rest : Asts) (mark e : Ast) → ts ≡ more mark (more e rest) → is_leaf kinds.Comma mark ≡ false → effects_behind n ts ≡ []
unfolding effects_behind
effects_stop n ts rest mark e shape other = rw (shape, other) refl

pub effects_end : (n : ℕ) (ts : List Tree) → length ts < 2 → effects_behind n (views ts) ≡ []
unfolding effects_behind
effects_end n [] low = refl
effects_end n (t ∷ []) low = refl
effects_end n (t ∷ u ∷ ts) low = absurd (omega (arith, low))

pub effects_none : (n : ℕ) (ts : List Tree) (start : List Effect) → start ≡ [] → length ts < 1 → map effect_of start ≡ effects n (views ts)
unfolding effects
effects_none n [] start es low = ap (map effect_of) es
effects_none n (t ∷ ts) start es low = absurd (omega (arith, low))

pub effects_closed : (n : ℕ) (ts rest : Asts) (e : Ast) (start : List Effect) → start ≡ [] → ts ≡ more e rest → is_leaf kinds.CloseParen e ≡ true → map effect_of start ≡ effects n ts
unfolding effects
effects_closed n ts rest e start es shape is = ap (map effect_of) es ∙ sym (rw (shape, is) refl)

pub effects_are : (n w : ℕ) (start grown : List Effect) (d : Effect) (ts rest : Asts) (e : Ast)
    → start ≡ [] → grown ≡ start ++ (d ∷ []) → ts ≡ more e rest → is_leaf kinds.CloseParen e ≡ false → w ≡ width e → effect_of d ≡ effect n e
    → map effect_of grown ++ effects_behind (n + w) rest ≡ effects n ts
unfolding effects
effects_are n w start grown d ts rest e es eg shape other ew ed =
    ap (λ z. z ++ effects_behind (n + w) rest) (row_alone effect_of start grown d (effect n e) es eg ed) ∙ sym (rw (shape, other, ew) refl)

pub for_nothing : (n : ℕ) (ts : List Tree) → (length ts ≡ 2 → ⊥) → length ts < 3 → plain.ForInit.Nothing ≡ for_parts n (views ts)
for_nothing n [] two low = refl
for_nothing n (t ∷ []) two low = refl
for_nothing n (t ∷ u ∷ []) two low = absurd (two refl)
for_nothing n (t ∷ u ∷ v ∷ ts) two low = absurd (omega (arith, low))

pub no_label : (n : ℕ) (ts : List Tree) → (length ts ≡ 2 → ⊥) → None ≡ label n (views ts)
no_label n [] two = refl
no_label n (t ∷ []) two = refl
no_label n (t ∷ u ∷ []) two = absurd (two refl)
no_label n (t ∷ u ∷ v ∷ ts) two = refl

pub no_value : (n : ℕ) (ts : List Tree) → (length ts ≡ 2 → ⊥) → None ≡ value n (views ts)
no_value n [] two = refl
no_value n (t ∷ []) two = refl
no_value n (t ∷ u ∷ []) two = absurd (two refl)
no_value n (t ∷ u ∷ v ∷ ts) two = refl

-- ---- statements that hold no other

pub throw_is : (n m : ℕ) (ts rest : Asts) (e : Ast) (x : plain.Expression) → ts ≡ more e rest → x ≡ expression m e → plain.Throw x n ≡ thrown n m ts
throw_is n m ts rest e x shape ex = rw (shape, ex) refl

pub no_throw : (n m : ℕ) (ts : List Tree) → length ts < 1 → plain.Statement.Unknown ≡ thrown n m (views ts)
no_throw n m [] low = refl
no_throw n m (t ∷ ts) low = absurd (omega (arith, low))

pub declared_is : (b : Bool) (n w : ℕ) (ts rest : Asts) (ty all : Ast) (t : plain.WrittenType) (ds : List plain.Declarator)
    → ts ≡ more ty (more all rest) → w ≡ width ty → t ≡ written n ty → ds ≡ declarators (n + w) all → plain.Declare b t ds ≡ declared b n ts
declared_is b n w ts rest ty all t ds shape ew et ed = rw (shape, et, ed, ew) refl

pub not_declared : (b : Bool) (n : ℕ) (ts : List Tree) → length ts < 2 → plain.Statement.Unknown ≡ declared b n (views ts)
not_declared b n [] low = refl
not_declared b n (t ∷ []) low = refl
not_declared b n (t ∷ u ∷ ts) low = absurd (omega (arith, low))
