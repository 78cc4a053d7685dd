-- Each production of an expression by the shape of its parts.
use Rattle.std.proofs.Common.{◌≡◌, ℕ, ◌+◌, ◌<◌, true, false, List, [], ◌∷◌, ◌++◌, map, length, refl, ap, sym, ◌∙◌, arith}
use Rattle.wy_tree.specs.Seen.{Tok}
use Rattle.wy_tree.specs.Ast.{Ast, Asts, Leaf, Node, none, more, views}
use Rattle.wy_tree.specs.Kinds.{kind_of, same}
use Rattle.wy_tree.specs.declared.tree.Tree.{Tree}
use Rattle.wy_tree.specs.declared.kind.Kind.TheVariants as kinds
use Rattle.wy_tree.specs.declared.tree.Form.{Form}
use Rattle.wy_tree.specs.declared.tree.Form.TheVariants as form
use Rattle.wy_syntax.specs.Syntax as plain
use Rattle.wy_syntax.specs.Names.{width, is_leaf, name_of, named, base_named, written}
use Rattle.wy_syntax.specs.Expressions.{joined, assigned, prefixed, empty_pairs, is_mark, is_braced, stepped, three, four, expression, assignment, choice, binary, unary, cast, postfix, primary, creation, array, sizes, listed, elements, inside, arguments_of, arguments, initial}
use Rattle.wy_syntax.specs.View.{expression_of, element_of}
use Rattle.wy_syntax.specs.declared.expression.Expression.{Expression}
use Rattle.wy_syntax.specs.declared.expression.Element.{Element}
use Rattle.wy_syntax.proofs.Shapes.{count, not_counted}
use Rattle.wy_syntax.proofs.Rows.{followed, elements_followed}

pub expression_leaf : (n : ℕ) (t : Ast) (o : Tok) → t ≡ Leaf o → Rattle.wy_syntax.specs.Expressions.leaf o n ≡ expression n t
unfolding expression
expression_leaf n t o e = rw e refl

-- ---- a production by its form

pub of_expr : (n : ℕ) (f : Form) (ts : Asts) → f ≡ form.Expr → assignment n ts ≡ expression n (Node f ts)
unfolding expression
of_expr n f ts e = rw e refl

pub of_cond : (n : ℕ) (f : Form) (ts : Asts) → f ≡ form.Cond → choice n ts ≡ expression n (Node f ts)
unfolding expression
of_cond n f ts e = rw e refl

pub of_binary : (n : ℕ) (f : Form) (ts : Asts) → f ≡ form.Binary → binary n ts ≡ expression n (Node f ts)
unfolding expression
of_binary n f ts e = rw e refl

pub of_unary : (n : ℕ) (f : Form) (ts : Asts) → f ≡ form.Unary → unary n ts ≡ expression n (Node f ts)
unfolding expression
of_unary n f ts e = rw e refl

pub of_cast : (n : ℕ) (f : Form) (ts : Asts) → f ≡ form.Cast → cast n ts ≡ expression n (Node f ts)
unfolding expression
of_cast n f ts e = rw e refl

pub of_postfix : (n : ℕ) (f : Form) (ts : Asts) → f ≡ form.Postfix → postfix n ts ≡ expression n (Node f ts)
unfolding expression
of_postfix n f ts e = rw e refl

pub of_primary : (n : ℕ) (f : Form) (ts : Asts) → f ≡ form.Primary → primary n ts ≡ expression n (Node f ts)
unfolding expression
of_primary n f ts e = rw e refl

pub of_new : (n : ℕ) (f : Form) (ts : Asts) → f ≡ form.New → creation n ts ≡ expression n (Node f ts)
unfolding expression
of_new n f ts e = rw e refl

pub of_no_expression : (n : ℕ) (f : Form) (ts : Asts)
    → (f ≡ form.Expr → ⊥) → (f ≡ form.Cond → ⊥) → (f ≡ form.Binary → ⊥) → (f ≡ form.Unary → ⊥) → (f ≡ form.Cast → ⊥) → (f ≡ form.Postfix → ⊥) → (f ≡ form.Primary → ⊥) → (f ≡ form.New → ⊥)
    → plain.Wrong ≡ expression n (Node f ts)
unfolding expression
of_no_expression n form.Expr ts a b c d e f g h = absurd (a refl)
of_no_expression n form.Cond ts a b c d e f g h = absurd (b refl)
of_no_expression n form.Binary ts a b c d e f g h = absurd (c refl)
of_no_expression n form.Unary ts a b c d e f g h = absurd (d refl)
of_no_expression n form.Cast ts a b c d e f g h = absurd (e refl)
of_no_expression n form.Postfix ts a b c d e f g h = absurd (f refl)
of_no_expression n form.Primary ts a b c d e f g h = absurd (g refl)
of_no_expression n form.New ts a b c d e f g h = absurd (h refl)
of_no_expression n _ ts a b c d e f g h = refl

-- ---- assignments, choices and operators

pub assignment_is : (n w : ℕ) (ts : Asts) (l s v : Ast) (o : Tok) (x y : plain.Expression)
    → ts ≡ more l (more s (more v none)) → s ≡ Leaf o → w ≡ width l → x ≡ expression n l → y ≡ expression (n + w + 1) v → assigned o x y (n + w) ≡ assignment n ts
unfolding assignment
assignment_is n w ts l s v o x y shape leaf ew ex ey = rw (shape ∙ ap (λ z. more l (more z (more v none))) leaf, ex, ey, ew) refl

pub assignment_of_node : (n : ℕ) (ts : Asts) (l s v : Ast) (f : Form) (ps : Asts) → ts ≡ more l (more s (more v none)) → s ≡ Node f ps → plain.Wrong ≡ assignment n ts
unfolding assignment
assignment_of_node n ts l s v f ps shape node = rw (shape ∙ ap (λ z. more l (more z (more v none))) node) refl

no_assignment : (n : ℕ) (ts : Asts) → (count ts ≡ 3 → ⊥) → plain.Wrong ≡ assignment n ts
unfolding assignment
no_assignment n none h = refl
no_assignment n (more a none) h = refl
no_assignment n (more a (more (Node f ps) rest)) h = refl
no_assignment n (more a (more (Leaf o) none)) h = refl
no_assignment n (more a (more (Leaf o) (more c none))) h = absurd (h refl)
no_assignment n (more a (more (Leaf o) (more c (more d rest)))) h = refl

pub assignment_wrong : (n : ℕ) (ts : List Tree) → (length ts ≡ 3 → ⊥) → plain.Wrong ≡ assignment n (views ts)
assignment_wrong n ts h = no_assignment n (views ts) (not_counted ts 3 h)

pub choice_is : (n w k u v : ℕ) (ts : Asts) (c q a colon b : Ast) (x y z : plain.Expression)
    → ts ≡ more c (more q (more a (more colon (more b none)))) → w ≡ width c → k ≡ width q → u ≡ width a → v ≡ width colon
    → x ≡ expression n c → y ≡ expression (n + w + k) a → z ≡ expression (n + w + k + u + v) b → plain.Choice x y z (n + w) ≡ choice n ts
unfolding choice
choice_is n w k u v ts c q a colon b x y z shape ew ek eu ev ex ey ez = rw (shape, ex, ey, ez, ew, ek, eu, ev) refl

no_choice : (n : ℕ) (ts : Asts) → (count ts ≡ 5 → ⊥) → plain.Wrong ≡ choice n ts
unfolding choice
no_choice n none h = refl
no_choice n (more a none) h = refl
no_choice n (more a (more b none)) h = refl
no_choice n (more a (more b (more c none))) h = refl
no_choice n (more a (more b (more c (more d none)))) h = refl
no_choice n (more a (more b (more c (more d (more e none))))) h = absurd (h refl)
no_choice n (more a (more b (more c (more d (more e (more f rest)))))) h = refl

pub choice_wrong : (n : ℕ) (ts : List Tree) → (length ts ≡ 5 → ⊥) → plain.Wrong ≡ choice n (views ts)
choice_wrong n ts h = no_choice n (views ts) (not_counted ts 5 h)

pub binary_is : (n w : ℕ) (ts : Asts) (l s r : Ast) (o : Tok) (x y : plain.Expression)
    → ts ≡ more l (more s (more r none)) → s ≡ Leaf o → same (kind_of o) kinds.Instanceof ≡ false → w ≡ width l → x ≡ expression n l → y ≡ expression (n + w + 1) r
    → joined o x y (n + w) ≡ binary n ts
unfolding binary
binary_is n w ts l s r o x y shape leaf other ew ex ey = rw (shape ∙ ap (λ z. more l (more z (more r none))) leaf, other, ex, ey, ew) refl

pub binary_instance : (n w : ℕ) (ts : Asts) (l s r : Ast) (o : Tok) (x : plain.Expression)
    → ts ≡ more l (more s (more r none)) → s ≡ Leaf o → same (kind_of o) kinds.Instanceof ≡ true → w ≡ width l → x ≡ expression n l
    → plain.InstanceOf x (written (n + w + 1) r) (n + w) ≡ binary n ts
unfolding binary
binary_instance n w ts l s r o x shape leaf is ew ex = rw (shape ∙ ap (λ z. more l (more z (more r none))) leaf, is, ex, ew) refl

pub binary_of_node : (n : ℕ) (ts : Asts) (l s r : Ast) (f : Form) (ps : Asts) → ts ≡ more l (more s (more r none)) → s ≡ Node f ps → plain.Wrong ≡ binary n ts
unfolding binary
binary_of_node n ts l s r f ps shape node = rw (shape ∙ ap (λ z. more l (more z (more r none))) node) refl

no_binary : (n : ℕ) (ts : Asts) → (count ts ≡ 3 → ⊥) → plain.Wrong ≡ binary n ts
unfolding binary
no_binary n none h = refl
no_binary n (more a none) h = refl
no_binary n (more a (more (Node f ps) rest)) h = refl
no_binary n (more a (more (Leaf o) none)) h = refl
no_binary n (more a (more (Leaf o) (more c none))) h = absurd (h refl)
no_binary n (more a (more (Leaf o) (more c (more d rest)))) h = refl

pub binary_wrong : (n : ℕ) (ts : List Tree) → (length ts ≡ 3 → ⊥) → plain.Wrong ≡ binary n (views ts)
binary_wrong n ts h = no_binary n (views ts) (not_counted ts 3 h)

pub unary_is : (n : ℕ) (ts : Asts) (s e : Ast) (o : Tok) (x : plain.Expression)
    → ts ≡ more s (more e none) → s ≡ Leaf o → x ≡ expression (n + 1) e → prefixed o x n ≡ unary n ts
unfolding unary
unary_is n ts s e o x shape leaf ex = rw (shape, leaf, ex) refl

pub unary_of_node : (n : ℕ) (ts : Asts) (s e : Ast) (f : Form) (ps : Asts) → ts ≡ more s (more e none) → s ≡ Node f ps → plain.Wrong ≡ unary n ts
unfolding unary
unary_of_node n ts s e f ps shape node = rw (shape, node) refl

no_unary : (n : ℕ) (ts : Asts) → (count ts ≡ 2 → ⊥) → plain.Wrong ≡ unary n ts
unfolding unary
no_unary n none h = refl
no_unary n (more (Node f ps) rest) h = refl
no_unary n (more (Leaf o) none) h = refl
no_unary n (more (Leaf o) (more c none)) h = absurd (h refl)
no_unary n (more (Leaf o) (more c (more d rest))) h = refl

pub unary_wrong : (n : ℕ) (ts : List Tree) → (length ts ≡ 2 → ⊥) → plain.Wrong ≡ unary n (views ts)
unary_wrong n ts h = no_unary n (views ts) (not_counted ts 2 h)

pub cast_is : (n w k u : ℕ) (ts : Asts) (paren t close e : Ast) (x : plain.Expression)
    → ts ≡ more paren (more t (more close (more e none))) → w ≡ width paren → k ≡ width t → u ≡ width close → x ≡ expression (n + w + k + u) e
    → plain.Cast (written (n + w) t) x n ≡ cast n ts
unfolding cast
cast_is n w k u ts paren t close e x shape ew ek eu ex = rw (shape, ex, ew, ek, eu) refl

no_cast : (n : ℕ) (ts : Asts) → (count ts ≡ 4 → ⊥) → plain.Wrong ≡ cast n ts
unfolding cast
no_cast n none h = refl
no_cast n (more a none) h = refl
no_cast n (more a (more b none)) h = refl
no_cast n (more a (more b (more c none))) h = refl
no_cast n (more a (more b (more c (more d none)))) h = absurd (h refl)
no_cast n (more a (more b (more c (more d (more e rest))))) h = refl

pub cast_wrong : (n : ℕ) (ts : List Tree) → (length ts ≡ 4 → ⊥) → plain.Wrong ≡ cast n (views ts)
cast_wrong n ts h = no_cast n (views ts) (not_counted ts 4 h)

-- ---- steps

pub postfix_is : (n w : ℕ) (ts : Asts) (e : Ast) (steps : Asts) (x : plain.Expression)
    → ts ≡ more e steps → w ≡ width e → x ≡ expression n e → stepped x (n + w) steps ≡ postfix n ts
unfolding postfix
postfix_is n w ts e steps x shape ew ex = rw (shape, ex, ew) refl

pub postfix_wrong : (n : ℕ) (ts : List Tree) → length ts < 1 → plain.Wrong ≡ postfix n (views ts)
unfolding postfix
postfix_wrong n [] h = refl
postfix_wrong n (t ∷ ts) h = absurd (omega (arith, h))

-- ---- calls, parentheses, members and elements

pub primary_call : (n w : ℕ) (ts : Asts) (f args : Ast) (row : plain.Row)
    → ts ≡ more f (more args none) → w ≡ width f → row ≡ arguments_of (n + w) args → plain.Invoke (name_of f) row (n + w) ≡ primary n ts
unfolding primary
primary_call n w ts f args row shape ew er = rw (shape, er, ew) refl

pub primary_three : (n : ℕ) (ts : Asts) (a b c : Ast) → ts ≡ more a (more b (more c none)) → three n a b c (expression n a) (expression (n + width a) b) ≡ primary n ts
unfolding primary
primary_three n ts a b c shape = rw (shape) refl

pub primary_four : (n : ℕ) (ts : Asts) (a b c d : Ast) → ts ≡ more a (more b (more c (more d none)))
    → four n a b c (expression n a) (expression (n + width a + width b) c) (arguments_of (n + width a + width b + width c) d) ≡ primary n ts
unfolding primary
primary_four n ts a b c d shape = rw (shape) refl

pub primary_wrong : (n : ℕ) (ts : List Tree) → (length ts ≡ 2 → ⊥) → (length ts ≡ 3 → ⊥) → (length ts ≡ 4 → ⊥) → plain.Wrong ≡ primary n (views ts)
unfolding primary
primary_wrong n [] two three four = refl
primary_wrong n (a ∷ []) two three four = refl
primary_wrong n (a ∷ b ∷ []) two three four = absurd (two refl)
primary_wrong n (a ∷ b ∷ c ∷ []) two three four = absurd (three refl)
primary_wrong n (a ∷ b ∷ c ∷ d ∷ []) two three four = absurd (four refl)
primary_wrong n (a ∷ b ∷ c ∷ d ∷ e ∷ ts) two three four = refl

-- ---- creations

pub creation_object : (n w k : ℕ) (ts : Asts) (word c args : Ast) (row : plain.Row)
    → ts ≡ more word (more c (more args none)) → w ≡ width word → k ≡ width c → row ≡ arguments_of (n + w + k) args → plain.NewObject (named (n + w) c) row n ≡ creation n ts
unfolding creation
creation_object n w k ts word c args row shape ew ek er = rw (shape, er, ew, ek) refl

by_brackets : (n : ℕ) (word base : Ast) (brackets : Asts) → (count brackets ≡ 1 → ⊥) → array n (n + width word) base brackets ≡ creation n (more word (more base brackets))
unfolding creation
by_brackets n word base none h = refl
by_brackets n word base (more a none) h = absurd (h refl)
by_brackets n word base (more a (more b rest)) h = refl

pub creation_array : (n w : ℕ) (ts : Asts) (word base : Ast) (brackets : List Tree)
    → ts ≡ more word (more base (views brackets)) → (length brackets ≡ 1 → ⊥) → w ≡ width word → array n (n + w) base (views brackets) ≡ creation n ts
creation_array n w ts word base brackets shape h ew = rw (shape, ew) (by_brackets n word base (views brackets) (not_counted brackets 1 h))

pub creation_wrong : (n : ℕ) (ts : List Tree) → length ts < 2 → plain.Wrong ≡ creation n (views ts)
unfolding creation
creation_wrong n [] h = refl
creation_wrong n (t ∷ []) h = refl
creation_wrong n (t ∷ u ∷ ts) h = absurd (omega (arith, h))

pub array_sized : (n at w : ℕ) (base : Ast) (brackets : Asts) (bracket x : Ast) (behind : Asts) (b : plain.Base) (row : plain.Row) (pairs : ℕ)
    → brackets ≡ more bracket (more x behind) → is_leaf kinds.CloseBracket x ≡ false → w ≡ width base → b ≡ base_named base → row ≡ sizes (at + w) brackets → pairs ≡ empty_pairs behind
    → plain.NewArray b at row pairs n ≡ array n at base brackets
array_sized n at w base brackets bracket x behind b row pairs shape other ew eb er ep = rw (er, shape, other, eb, ep, ew) refl

pub array_listed : (n at w k u : ℕ) (base : Ast) (brackets : Asts) (bracket x : Ast) (behind : Asts) (b : plain.Base) (pairs : ℕ)
    → brackets ≡ more bracket (more x behind) → is_leaf kinds.CloseBracket x ≡ true → w ≡ width base → k ≡ width bracket → u ≡ width x → b ≡ base_named base → pairs ≡ empty_pairs brackets
    → listed n b at pairs (at + w + k + u) behind ≡ array n at base brackets
array_listed n at w k u base brackets bracket x behind b pairs shape is ew ek eu eb ep = rw (ep, shape, is, eb, ew, ek, eu) refl

pub array_wrong : (n at : ℕ) (base : Ast) (ts : List Tree) → length ts < 2 → plain.Wrong ≡ array n at base (views ts)
array_wrong n at base [] h = refl
array_wrong n at base (t ∷ []) h = refl
array_wrong n at base (t ∷ u ∷ ts) h = absurd (omega (arith, h))

-- ---- rows

grow : (found grown : List Expression) (x : Expression) (e : plain.Expression) (rest all : plain.Row)
    → grown ≡ found ++ (x ∷ []) → expression_of x ≡ e → followed (map expression_of found) (plain.more e rest) ≡ all → followed (map expression_of grown) rest ≡ all
grow found grown x e rest all eg ex h =
    ap (λ z. followed (map expression_of z) rest) eg ∙ pushed found x rest ∙ ap (λ z. followed (map expression_of found) (plain.more z rest)) ex ∙ h
  where
    pushed : (es : List Expression) (d : Expression) (r : plain.Row) → followed (map expression_of (es ++ (d ∷ []))) r ≡ followed (map expression_of es) (plain.more (expression_of d) r)
    pushed [] d r = refl
    pushed (e0 ∷ es) d r = ap (λ z. plain.more (expression_of e0) z) (pushed es d r)

pub arguments_go : (n w m : ℕ) (found grown : List Expression) (x : Expression) (ts rest : Asts) (v k : Ast) (all : plain.Row)
    → grown ≡ found ++ (x ∷ []) → ts ≡ more v (more k rest) → w ≡ width v → m ≡ width k → expression_of x ≡ expression n v
    → followed (map expression_of found) (arguments n ts) ≡ all → followed (map expression_of grown) (arguments (n + (w + m)) rest) ≡ all
unfolding arguments
arguments_go n w m found grown x ts rest v k all eg shape ew em ex h =
    grow found grown x (expression n v) _ all eg ex
    (ap (λ p. followed (map expression_of found) (plain.more (expression n v) (arguments p rest))) (omega (arith, ew, em)) ∙ ap (λ z. followed (map expression_of found) (arguments n z)) (sym shape) ∙ h)

pub arguments_end : (n : ℕ) (ts : List Tree) → length ts < 2 → plain.none ≡ arguments n (views ts)
unfolding arguments
arguments_end n [] h = refl
arguments_end n (t ∷ []) h = refl
arguments_end n (t ∷ u ∷ ts) h = absurd (omega (arith, h))

pub sizes_go : (n w k m : ℕ) (found grown : List Expression) (x : Expression) (ts rest : Asts) (b s c : Ast) (all : plain.Row)
    → grown ≡ found ++ (x ∷ []) → ts ≡ more b (more s (more c rest)) → is_leaf kinds.CloseBracket s ≡ false → w ≡ width b → k ≡ width s → m ≡ width c → expression_of x ≡ expression (n + w) s
    → followed (map expression_of found) (sizes n ts) ≡ all → followed (map expression_of grown) (sizes (n + w + (k + m)) rest) ≡ all
unfolding sizes
sizes_go n w k m found grown x ts rest b s c all eg shape other ew ek em ex h =
    grow found grown x (expression (n + w) s) _ all eg ex
    (ap (λ r. followed (map expression_of found) r) (sym (rw (shape, other) (rw (ew) (ap (λ p. plain.more (expression (n + width b) s) (sizes p rest)) (omega (arith, ek, em)))))) ∙ h)

pub sizes_stop : (n : ℕ) (ts : Asts) (b s c : Ast) (rest : Asts) → ts ≡ more b (more s (more c rest)) → is_leaf kinds.CloseBracket s ≡ true → plain.none ≡ sizes n ts
unfolding sizes
sizes_stop n ts b s c rest shape is = rw (shape, is) refl

pub sizes_end : (n : ℕ) (ts : List Tree) → length ts < 3 → plain.none ≡ sizes n (views ts)
unfolding sizes
sizes_end n [] h = refl
sizes_end n (t ∷ []) h = refl
sizes_end n (t ∷ u ∷ []) h = refl
sizes_end n (t ∷ u ∷ v ∷ ts) h = absurd (omega (arith, h))

pub arguments_of_is : (n w : ℕ) (t : Ast) (ts : Asts) (paren : Ast) (rest : Asts) → t ≡ Node form.Args ts → ts ≡ more paren rest → w ≡ width paren → arguments (n + w) rest ≡ arguments_of n t
unfolding arguments_of
arguments_of_is n w t ts paren rest node shape ew = rw (node, shape, ew) refl

pub arguments_of_nothing : (n : ℕ) (t : Ast) (ts : List Tree) → t ≡ Node form.Args (views ts) → length ts < 1 → plain.none ≡ arguments_of n t
unfolding arguments_of
arguments_of_nothing n t [] node h = rw (node) refl
arguments_of_nothing n t (u ∷ ts) node h = absurd (omega (arith, h))

pub no_arguments_of : (n : ℕ) (t : Ast) → ((ts : Asts) → t ≡ Node form.Args ts → ⊥) → plain.none ≡ arguments_of n t
unfolding arguments_of
no_arguments_of n (Leaf o) h = refl
no_arguments_of n (Node form.Args ts) h = absurd (h ts refl)
no_arguments_of n (Node _ ts) h = refl

-- ---- elements in braces

pub listed_here : (n : ℕ) (base : plain.Base) (at brackets m : ℕ) (ts : Asts) (x : Ast) (behind : Asts) (es : plain.Elements) (all : plain.Expression)
    → ts ≡ more x behind → is_leaf kinds.OpenBrace x ≡ true → es ≡ elements m behind → listed n base at brackets m ts ≡ all → plain.NewList base at brackets es m n ≡ all
unfolding listed
listed_here n base at brackets m ts x behind es all shape is ee h = sym (rw (shape, is, ee) refl) ∙ h

pub listed_on : (n : ℕ) (base : plain.Base) (at brackets m w : ℕ) (ts : Asts) (x : Ast) (behind : Asts) (all : plain.Expression)
    → ts ≡ more x behind → is_leaf kinds.OpenBrace x ≡ false → w ≡ width x → listed n base at brackets m ts ≡ all → listed n base at brackets (m + w) behind ≡ all
unfolding listed
listed_on n base at brackets m w ts x behind all shape other ew h = sym (rw (shape, other, ew) refl) ∙ h

pub listed_wrong : (n : ℕ) (base : plain.Base) (at brackets m : ℕ) (ts : List Tree) (all : plain.Expression) → length ts < 1 → listed n base at brackets m (views ts) ≡ all → plain.Wrong ≡ all
unfolding listed
listed_wrong n base at brackets m [] all low h = h
listed_wrong n base at brackets m (t ∷ ts) all low h = absurd (omega (arith, low))

pub element_on : (before w m : ℕ) (found grown : List Element) (e : Element) (ts rest : Asts) (x mark : Ast) (all : plain.Elements)
    → grown ≡ found ++ (e ∷ []) → ts ≡ more x (more mark rest) → is_mark x ≡ false → w ≡ width x → m ≡ width mark
    → ((r : plain.Elements) → element_of e r ≡ plain.element before (initial (before + 1) x) r)
    → elements_followed (map element_of found) (elements before ts) ≡ all → elements_followed (map element_of grown) (elements (before + (w + m)) rest) ≡ all
unfolding elements
element_on before w m found grown e ts rest x mark all eg shape other ew em ee h =
    ap (λ z. elements_followed (map element_of z) (elements (before + (w + m)) rest)) eg ∙ pushed found e _
    ∙ ap (λ r. elements_followed (map element_of found) r) (ee _ ∙ sym (rw (shape, other) (ap (λ p. plain.element before (initial (before + 1) x) (elements p rest)) (omega (arith, ew, em))))) ∙ h
  where
    pushed : (es : List Element) (d : Element) (r : plain.Elements) → elements_followed (map element_of (es ++ (d ∷ []))) r ≡ elements_followed (map element_of es) (element_of d r)
    pushed [] d r = refl
    pushed (e0 ∷ es) d r = ap (element_of e0) (pushed es d r)

pub elements_stop : (n : ℕ) (ts : Asts) (x mark : Ast) (rest : Asts) → ts ≡ more x (more mark rest) → is_mark x ≡ true → plain.no_more ≡ elements n ts
unfolding elements
elements_stop n ts x mark rest shape is = rw (shape, is) refl

pub elements_end : (n : ℕ) (ts : List Tree) → length ts < 2 → plain.no_more ≡ elements n (views ts)
unfolding elements
elements_end n [] h = refl
elements_end n (t ∷ []) h = refl
elements_end n (t ∷ u ∷ ts) h = absurd (omega (arith, h))

pub inside_is : (n : ℕ) (ts : Asts) (x : Ast) (o : Tok) (rest : Asts) → ts ≡ more x rest → x ≡ Leaf o → elements n rest ≡ inside n (Node form.Init ts)
unfolding inside
inside_is n ts x o rest shape leaf = rw (shape ∙ ap (λ z. more z rest) leaf) refl

pub inside_of_node : (n : ℕ) (ts : Asts) (x : Ast) (f : Form) (ps rest : Asts) → ts ≡ more x rest → x ≡ Node f ps → plain.no_more ≡ inside n (Node form.Init ts)
unfolding inside
inside_of_node n ts x f ps rest shape node = rw (shape ∙ ap (λ z. more z rest) node) refl

pub inside_nothing : (n : ℕ) (ts : List Tree) → length ts < 1 → plain.no_more ≡ inside n (Node form.Init (views ts))
unfolding inside
inside_nothing n [] h = refl
inside_nothing n (t ∷ ts) h = absurd (omega (arith, h))

pub not_braced : (t : Ast) → ((ts : Asts) → t ≡ Node form.Init ts → ⊥) → is_braced t ≡ false
not_braced (Leaf o) h = refl
not_braced (Node form.Init ts) h = absurd (h ts refl)
not_braced (Node _ ts) h = refl
