-- Each production of a statement by the shape of its parts.
use Rattle.std.proofs.Common.{◌≡◌, ℕ, ◌+◌, ◌<◌, Bool, true, false, List, [], ◌∷◌, ◌++◌, map, length, Option, Some, refl, ap, sym, ◌∙◌, arith}
use Rattle.std.specs.Prelude.{None}
use Rattle.wy_tree.specs.Seen.{Tok}
use Rattle.wy_tree.specs.Ast.{Ast, Asts, Leaf, Node, none, more, views}
use Rattle.wy_tree.specs.Conditions.{leaf_kind, first_kind}
use Rattle.wy_tree.specs.declared.tree.Tree.{Tree}
use Rattle.wy_tree.specs.declared.kind.Kind.{Kind}
use Rattle.wy_tree.specs.declared.kind.Kind.TheVariants as kinds
use Rattle.wy_tree.specs.declared.tree.Form.{Form}
use Rattle.wy_tree.specs.declared.tree.Form.TheVariants as form
use Rattle.wy_syntax.specs.Syntax as plain
use Rattle.wy_syntax.specs.Names.{width, widths, is_leaf, named, written}
use Rattle.wy_syntax.specs.Expressions.{expression}
use Rattle.wy_syntax.specs.Statements.{effect, effects, for_init, label, value, thrown, declared, declarators, caught, statement, braces, block, statements, by_word, branch, otherwise, loop_while, loop_do, loop_for, behind_init, for_test, for_tested, body_behind, other, tried, catches, clause, last_of}
use Rattle.wy_syntax.specs.View.{Clause, statement_of, clause_of, clauses_before}
use Rattle.wy_syntax.specs.declared.statement.Statement.{Statement}
use Rattle.wy_syntax.specs.declared.statement.Catch.{Catch}
use Rattle.wy_syntax.proofs.Shapes.{count, not_counted}
use Rattle.wy_syntax.proofs.Rows.{statements_before}

pub of_block : (n : ℕ) (f : Form) (ts : Asts) → f ≡ form.Block → plain.Statement.Block (braces n ts) ≡ statement n (Node f ts)
unfolding statement
of_block n f ts e = rw e refl

pub of_stmt : (n : ℕ) (f : Form) (ts : Asts) → f ≡ form.Stmt → by_word (first_kind ts) n ts ≡ statement n (Node f ts)
unfolding statement
of_stmt n f ts e = rw e refl

pub of_no_statement : (n : ℕ) (f : Form) (ts : Asts) → (f ≡ form.Block → ⊥) → (f ≡ form.Stmt → ⊥) → plain.Statement.Unknown ≡ statement n (Node f ts)
unfolding statement
of_no_statement n form.Block ts a b = absurd (a refl)
of_no_statement n form.Stmt ts a b = absurd (b refl)
of_no_statement n _ ts a b = refl

-- ---- blocks

pub braces_are : (n w : ℕ) (ts rest : Asts) (b : Ast) (row : plain.Statements) (e : ℕ)
    → ts ≡ more b rest → w ≡ width b → row ≡ statements (n + w) rest → e ≡ widths rest → plain.braced n row (n + e) ≡ braces n ts
unfolding braces
braces_are n w ts rest b row e shape ew er ee = rw (shape, er, ee, ew) refl

pub no_braces : (n : ℕ) (ts : List Tree) → length ts < 1 → plain.braced n plain.done n ≡ braces n (views ts)
unfolding braces
no_braces n [] low = refl
no_braces n (t ∷ ts) low = absurd (omega (arith, low))

pub block_node : (n : ℕ) (t : Ast) (f : Form) (ts : Asts) → t ≡ Node f ts → braces n ts ≡ block n t
unfolding block
block_node n t f ts e = rw e refl

pub block_leaf : (n : ℕ) (t : Ast) (o : Tok) → t ≡ Leaf o → plain.braced n plain.done n ≡ block n t
unfolding block
block_leaf n t o e = rw e refl

pub statements_go : (n w : ℕ) (found grown : List Statement) (s : Statement) (ts tail rest : Asts) (v k : Ast) (all : plain.Statements)
    → grown ≡ found ++ (s ∷ []) → ts ≡ more v tail → tail ≡ more k rest → w ≡ width v → statement_of s ≡ statement n v
    → statements_before (map statement_of found) (statements n ts) ≡ all → statements_before (map statement_of grown) (statements (n + w) tail) ≡ all
unfolding statements
statements_go n w found grown s ts tail rest v k all eg shape after ew es h =
    ap (λ z. statements_before (map statement_of z) (statements (n + w) tail)) eg ∙ pushed found
    ∙ ap (λ r. statements_before (map statement_of found) r) (ap (λ z. plain.first z (statements (n + w) tail)) es ∙ sym (rw (shape, after, ew) refl)) ∙ h
  where
    pushed : (xs : List Statement) → statements_before (map statement_of (xs ++ (s ∷ []))) (statements (n + w) tail) ≡ statements_before (map statement_of xs) (plain.first (statement_of s) (statements (n + w) tail))
    pushed [] = refl
    pushed (y ∷ ys) = ap (λ z. plain.first (statement_of y) z) (pushed ys)

pub statements_alone : (n : ℕ) (ts : Asts) (x : Ast) (rest : List Tree) → ts ≡ more x (views rest) → length rest < 1 → plain.done ≡ statements n ts
unfolding statements
statements_alone n ts x [] shape low = rw (shape) refl
statements_alone n ts x (t ∷ rest) shape low = absurd (omega (arith, low))

pub statements_end : (n : ℕ) (ts : List Tree) → length ts < 1 → plain.done ≡ statements n (views ts)
unfolding statements
statements_end n [] low = refl
statements_end n (t ∷ ts) low = absurd (omega (arith, low))

-- ---- a statement by its first word

pub by_word_is : (n : ℕ) (k : Kind) (ts : Asts) (x : Ast) (rest : Asts) → ts ≡ more x rest → k ≡ leaf_kind x → by_word k n (more x rest) ≡ by_word (first_kind ts) n ts
by_word_is n k ts x rest shape ek = rw (shape, ek) refl

pub by_no_word : (n : ℕ) (ts : List Tree) → length ts < 1 → plain.Statement.Unknown ≡ by_word (first_kind (views ts)) n (views ts)
unfolding by_word
by_no_word n [] low = refl
by_no_word n (t ∷ ts) low = absurd (omega (arith, low))

pub word_if : (n w : ℕ) (k : Kind) (x : Ast) (rest : Asts) → k ≡ kinds.If → w ≡ width x → branch n (n + w) rest ≡ by_word k n (more x rest)
unfolding by_word
word_if n w k x rest ek ew = rw (ek, ew) refl

pub word_while : (n w : ℕ) (k : Kind) (x : Ast) (rest : Asts) → k ≡ kinds.While → w ≡ width x → loop_while n (n + w) rest ≡ by_word k n (more x rest)
unfolding by_word
word_while n w k x rest ek ew = rw (ek, ew) refl

pub word_do : (n w : ℕ) (k : Kind) (x : Ast) (rest : Asts) → k ≡ kinds.Do → w ≡ width x → loop_do n (n + w) rest ≡ by_word k n (more x rest)
unfolding by_word
word_do n w k x rest ek ew = rw (ek, ew) refl

pub word_for : (n w : ℕ) (k : Kind) (x : Ast) (rest : Asts) → k ≡ kinds.For → w ≡ width x → loop_for n (n + w) rest ≡ by_word k n (more x rest)
unfolding by_word
word_for n w k x rest ek ew = rw (ek, ew) refl

pub word_break : (n w : ℕ) (k : Kind) (x : Ast) (rest : Asts) → k ≡ kinds.Break → w ≡ width x → plain.Break (label (n + w) rest) n ≡ by_word k n (more x rest)
unfolding by_word
word_break n w k x rest ek ew = rw (ek, ew) refl

pub word_continue : (n w : ℕ) (k : Kind) (x : Ast) (rest : Asts) → k ≡ kinds.Continue → w ≡ width x → plain.Continue (label (n + w) rest) n ≡ by_word k n (more x rest)
unfolding by_word
word_continue n w k x rest ek ew = rw (ek, ew) refl

pub word_return : (n w : ℕ) (k : Kind) (x : Ast) (rest : Asts) → k ≡ kinds.Return → w ≡ width x → plain.Return (value (n + w) rest) n ≡ by_word k n (more x rest)
unfolding by_word
word_return n w k x rest ek ew = rw (ek, ew) refl

pub word_throw : (n w : ℕ) (k : Kind) (x : Ast) (rest : Asts) → k ≡ kinds.Throw → w ≡ width x → thrown n (n + w) rest ≡ by_word k n (more x rest)
unfolding by_word
word_throw n w k x rest ek ew = rw (ek, ew) refl

pub word_try : (n w : ℕ) (k : Kind) (x : Ast) (rest : Asts) → k ≡ kinds.Try → w ≡ width x → tried n (n + w) rest ≡ by_word k n (more x rest)
unfolding by_word
word_try n w k x rest ek ew = rw (ek, ew) refl

pub word_final : (n w : ℕ) (k : Kind) (x : Ast) (rest : Asts) → k ≡ kinds.Final → w ≡ width x → declared true (n + w) rest ≡ by_word k n (more x rest)
unfolding by_word
word_final n w k x rest ek ew = rw (ek, ew) refl

pub word_other : (n : ℕ) (k : Kind) (x : Ast) (rest : Asts)
    → (k ≡ kinds.If → ⊥) → (k ≡ kinds.While → ⊥) → (k ≡ kinds.Do → ⊥) → (k ≡ kinds.For → ⊥) → (k ≡ kinds.Break → ⊥) → (k ≡ kinds.Continue → ⊥) → (k ≡ kinds.Return → ⊥) → (k ≡ kinds.Throw → ⊥) → (k ≡ kinds.Try → ⊥) → (k ≡ kinds.Final → ⊥)
    → other n x rest ≡ by_word k n (more x rest)
unfolding by_word
word_other n kinds.If x rest a b c d e f g h i j = absurd (a refl)
word_other n kinds.While x rest a b c d e f g h i j = absurd (b refl)
word_other n kinds.Do x rest a b c d e f g h i j = absurd (c refl)
word_other n kinds.For x rest a b c d e f g h i j = absurd (d refl)
word_other n kinds.Break x rest a b c d e f g h i j = absurd (e refl)
word_other n kinds.Continue x rest a b c d e f g h i j = absurd (f refl)
word_other n kinds.Return x rest a b c d e f g h i j = absurd (g refl)
word_other n kinds.Throw x rest a b c d e f g h i j = absurd (h refl)
word_other n kinds.Try x rest a b c d e f g h i j = absurd (i refl)
word_other n kinds.Final x rest a b c d e f g h i j = absurd (j refl)
word_other n _ x rest a b c d e f g h i j = refl

pub branch_is : (n m w k u v : ℕ) (ts rest : Asts) (paren e close s : Ast) (x : plain.Expression) (y : plain.Statement) (z : plain.Other)
    → ts ≡ more paren (more e (more close (more s rest))) → w ≡ width paren → k ≡ width e → u ≡ width close → v ≡ width s
    → x ≡ expression (m + w) e → y ≡ statement (m + w + k + u) s → z ≡ otherwise (m + w + k + u + v) rest → plain.If x y z n ≡ branch n m ts
unfolding branch
branch_is n m w k u v ts rest paren e close s x y z shape ew ek eu ev ex ey ez = rw (shape, ex, ey, ez, ew, ek, eu, ev) refl

pub no_branch : (n m : ℕ) (ts : List Tree) → length ts < 4 → plain.Statement.Unknown ≡ branch n m (views ts)
unfolding branch
no_branch n m [] low = refl
no_branch n m (a ∷ []) low = refl
no_branch n m (a ∷ b ∷ []) low = refl
no_branch n m (a ∷ b ∷ c ∷ []) low = refl
no_branch n m (a ∷ b ∷ c ∷ d ∷ ts) low = absurd (omega (arith, low))

pub otherwise_is : (n w : ℕ) (ts : Asts) (word s : Ast) (y : plain.Statement) → ts ≡ more word (more s none) → w ≡ width word → y ≡ statement (n + w) s → plain.present y ≡ otherwise n ts
unfolding otherwise
otherwise_is n w ts word s y shape ew ey = rw (shape, ey, ew) refl

pub no_otherwise : (n : ℕ) (ts : List Tree) → (length ts ≡ 2 → ⊥) → plain.absent ≡ otherwise n (views ts)
unfolding otherwise
no_otherwise n [] two = refl
no_otherwise n (a ∷ []) two = refl
no_otherwise n (a ∷ b ∷ []) two = absurd (two refl)
no_otherwise n (a ∷ b ∷ c ∷ ts) two = refl

pub while_is : (n m w k u : ℕ) (ts : Asts) (paren e close s : Ast) (x : plain.Expression) (y : plain.Statement)
    → ts ≡ more paren (more e (more close (more s none))) → w ≡ width paren → k ≡ width e → u ≡ width close → x ≡ expression (m + w) e → y ≡ statement (m + w + k + u) s
    → plain.While x y n ≡ loop_while n m ts
unfolding loop_while
while_is n m w k u ts paren e close s x y shape ew ek eu ex ey = rw (shape, ex, ey, ew, ek, eu) refl

pub no_while : (n m : ℕ) (ts : List Tree) → (length ts ≡ 4 → ⊥) → plain.Statement.Unknown ≡ loop_while n m (views ts)
unfolding loop_while
no_while n m [] four = refl
no_while n m (a ∷ []) four = refl
no_while n m (a ∷ b ∷ []) four = refl
no_while n m (a ∷ b ∷ c ∷ []) four = refl
no_while n m (a ∷ b ∷ c ∷ d ∷ []) four = absurd (four refl)
no_while n m (a ∷ b ∷ c ∷ d ∷ e ∷ ts) four = refl

pub do_is : (n m w k u : ℕ) (ts rest : Asts) (s word paren e : Ast) (x : plain.Statement) (y : plain.Expression)
    → ts ≡ more s (more word (more paren (more e rest))) → w ≡ width s → k ≡ width word → u ≡ width paren → x ≡ statement m s → y ≡ expression (m + w + k + u) e
    → plain.Do x y n ≡ loop_do n m ts
unfolding loop_do
do_is n m w k u ts rest s word paren e x y shape ew ek eu ex ey = rw (shape, ex, ey, ew, ek, eu) refl

pub no_do : (n m : ℕ) (ts : List Tree) → length ts < 4 → plain.Statement.Unknown ≡ loop_do n m (views ts)
unfolding loop_do
no_do n m [] low = refl
no_do n m (a ∷ []) low = refl
no_do n m (a ∷ b ∷ []) low = refl
no_do n m (a ∷ b ∷ c ∷ []) low = refl
no_do n m (a ∷ b ∷ c ∷ d ∷ ts) low = absurd (omega (arith, low))

-- ---- `for`

pub for_semicolon : (n m w k : ℕ) (ts rest : Asts) (paren x : Ast)
    → ts ≡ more paren (more x rest) → is_leaf kinds.Semicolon x ≡ true → w ≡ width paren → k ≡ width x → for_test n plain.ForInit.Nothing (m + w + k) rest ≡ loop_for n m ts
unfolding loop_for
for_semicolon n m w k ts rest paren x shape is ew ek = rw (shape, is, ew, ek) refl

pub for_given : (n m w k : ℕ) (ts rest : Asts) (paren x : Ast) (i : plain.ForInit)
    → ts ≡ more paren (more x rest) → is_leaf kinds.Semicolon x ≡ false → w ≡ width paren → k ≡ width x → i ≡ for_init (m + w) x → behind_init n i (m + w + k) rest ≡ loop_for n m ts
unfolding loop_for
for_given n m w k ts rest paren x i shape other ew ek ei = rw (shape, other, ei, ew, ek) refl

pub no_for : (n m : ℕ) (ts : List Tree) → length ts < 2 → plain.Statement.Unknown ≡ loop_for n m (views ts)
unfolding loop_for
no_for n m [] low = refl
no_for n m (a ∷ []) low = refl
no_for n m (a ∷ b ∷ ts) low = absurd (omega (arith, low))

pub behind_is : (n m w : ℕ) (i : plain.ForInit) (ts rest : Asts) (s : Ast) → ts ≡ more s rest → w ≡ width s → for_test n i (m + w) rest ≡ behind_init n i m ts
unfolding behind_init
behind_is n m w i ts rest s shape ew = rw (shape, ew) refl

pub nothing_behind : (n m : ℕ) (i : plain.ForInit) (ts : List Tree) → length ts < 1 → plain.Statement.Unknown ≡ behind_init n i m (views ts)
unfolding behind_init
nothing_behind n m i [] low = refl
nothing_behind n m i (a ∷ ts) low = absurd (omega (arith, low))

pub test_absent : (n m w : ℕ) (i : plain.ForInit) (ts tail rest : Asts) (x y : Ast)
    → ts ≡ more x tail → tail ≡ more y rest → is_leaf kinds.Semicolon x ≡ true → w ≡ width x → for_tested n i None (m + w) tail ≡ for_test n i m ts
unfolding for_test
test_absent n m w i ts tail rest x y shape after is ew = rw (shape, after, is, ew) refl

pub test_given : (n m w k : ℕ) (i : plain.ForInit) (ts tail rest : Asts) (x y : Ast) (e : plain.Expression)
    → ts ≡ more x tail → tail ≡ more y rest → is_leaf kinds.Semicolon x ≡ false → w ≡ width x → k ≡ width y → e ≡ expression m x → for_tested n i (Some e) (m + w + k) rest ≡ for_test n i m ts
unfolding for_test
test_given n m w k i ts tail rest x y e shape after other ew ek ee = rw (shape, after, other, ee, ew, ek) refl

pub test_alone : (n m : ℕ) (i : plain.ForInit) (ts : Asts) (x : Ast) (rest : List Tree) → ts ≡ more x (views rest) → length rest < 1 → plain.Statement.Unknown ≡ for_test n i m ts
unfolding for_test
test_alone n m i ts x [] shape low = rw (shape) refl
test_alone n m i ts x (t ∷ rest) shape low = absurd (omega (arith, low))

pub no_test : (n m : ℕ) (i : plain.ForInit) (ts : List Tree) → length ts < 1 → plain.Statement.Unknown ≡ for_test n i m (views ts)
unfolding for_test
no_test n m i [] low = refl
no_test n m i (a ∷ ts) low = absurd (omega (arith, low))

pub tested_is : (n m : ℕ) (i : plain.ForInit) (t : Option plain.Expression) (us : List plain.Effect) (b : plain.Statement) (ts : Asts)
    → us ≡ effects m ts → b ≡ body_behind m ts → plain.For i t us b n ≡ for_tested n i t m ts
tested_is n m i t us b ts eu eb = rw (eu, eb) refl

pub body_here : (n w : ℕ) (ts tail rest : Asts) (x s : Ast) (all : plain.Statement)
    → ts ≡ more x tail → tail ≡ more s rest → is_leaf kinds.CloseParen x ≡ true → w ≡ width x → body_behind n ts ≡ all → statement (n + w) s ≡ all
unfolding body_behind
body_here n w ts tail rest x s all shape after is ew h = sym (rw (shape, after, is, ew) refl) ∙ h

pub body_on : (n w : ℕ) (ts tail rest : Asts) (x s : Ast) (all : plain.Statement)
    → ts ≡ more x tail → tail ≡ more s rest → is_leaf kinds.CloseParen x ≡ false → w ≡ width x → body_behind n ts ≡ all → body_behind (n + w) tail ≡ all
unfolding body_behind
body_on n w ts tail rest x s all shape after other ew h = sym (rw (shape, after, other, ew) refl) ∙ h

pub body_alone : (n : ℕ) (ts : Asts) (x : Ast) (rest : List Tree) (all : plain.Statement) → ts ≡ more x (views rest) → length rest < 1 → body_behind n ts ≡ all → plain.Statement.Unknown ≡ all
unfolding body_behind
body_alone n ts x [] all shape low h = sym (rw (shape) refl) ∙ h
body_alone n ts x (t ∷ rest) all shape low h = absurd (omega (arith, low))

pub body_end : (n : ℕ) (ts : List Tree) (all : plain.Statement) → length ts < 1 → body_behind n (views ts) ≡ all → plain.Statement.Unknown ≡ all
unfolding body_behind
body_end n [] all low h = h
body_end n (t ∷ ts) all low h = absurd (omega (arith, low))

-- ---- expressions, labels and declarations

pub other_effect : (n : ℕ) (x semicolon : Ast) (ts : Asts) → ts ≡ more semicolon none → plain.Perform (effect n x) ≡ other n x ts
unfolding other
other_effect n x semicolon ts shape = rw (shape) refl

pub other_two : (n : ℕ) (x y z : Ast) (ts : Asts) → ts ≡ more y (more z none) → other n x (more y (more z none)) ≡ other n x ts
other_two n x y z ts shape = ap (other n x) (sym shape)

pub other_nothing : (n : ℕ) (x : Ast) (ts : List Tree) → (length ts ≡ 1 → ⊥) → (length ts ≡ 2 → ⊥) → plain.Statement.Unknown ≡ other n x (views ts)
unfolding other
other_nothing n x [] one two = refl
other_nothing n x (a ∷ []) one two = absurd (one refl)
other_nothing n x (a ∷ b ∷ []) one two = absurd (two refl)
other_nothing n x (a ∷ b ∷ c ∷ ts) one two = refl

pub labelled_is : (n w k : ℕ) (x y z : Ast) (s : plain.Statement)
    → is_leaf kinds.Colon y ≡ true → w ≡ width x → k ≡ width y → s ≡ statement (n + w + k) z → plain.Labelled (named n x) s ≡ other n x (more y (more z none))
unfolding other
labelled_is n w k x y z s is ew ek es = rw (is, es, ew, ek) refl

pub not_labelled : (n : ℕ) (x y z : Ast) → is_leaf kinds.Colon y ≡ false → plain.Declare false (written n x) (declarators (n + width x) y) ≡ other n x (more y (more z none))
unfolding other
not_labelled n x y z other = rw (other) refl

-- ---- `try`

pub try_is : (n m w : ℕ) (ts rest : Asts) (b : Ast) (x : plain.Braced) (cs : plain.Catches) (l : plain.Last)
    → ts ≡ more b rest → w ≡ width b → x ≡ block m b → cs ≡ catches (m + w) rest → l ≡ last_of (m + w) rest → plain.Try x cs l n ≡ tried n m ts
unfolding tried
try_is n m w ts rest b x cs l shape ew ex ec el = rw (shape, ex, ec, el, ew) refl

pub no_try : (n m : ℕ) (ts : List Tree) → length ts < 1 → plain.Statement.Unknown ≡ tried n m (views ts)
unfolding tried
no_try n m [] low = refl
no_try n m (a ∷ ts) low = absurd (omega (arith, low))

pub catches_go : (n w : ℕ) (found grown : List Catch) (ts rest : Asts) (f : Form) (ps : Asts) (all : plain.Catches)
    → ((r : plain.Catches) → clauses_before (map clause_of grown) r ≡ clauses_before (map clause_of found) (clause n ps r)) → ts ≡ more (Node f ps) rest → w ≡ widths ps
    → clauses_before (map clause_of found) (catches n ts) ≡ all → clauses_before (map clause_of grown) (catches (n + w) rest) ≡ all
unfolding catches
catches_go n w found grown ts rest f ps all eg shape ew h =
    eg _ ∙ ap (λ r. clauses_before (map clause_of found) r) (sym (rw (shape, ew) refl)) ∙ h

pub catches_stop : (n : ℕ) (ts rest : Asts) (o : Tok) → ts ≡ more (Leaf o) rest → plain.uncaught ≡ catches n ts
unfolding catches
catches_stop n ts rest o shape = rw (shape) refl

pub catches_end : (n : ℕ) (ts : List Tree) → length ts < 1 → plain.uncaught ≡ catches n (views ts)
unfolding catches
catches_end n [] low = refl
catches_end n (t ∷ ts) low = absurd (omega (arith, low))

-- one clause more at the end
pub clause_grown : (found grown : List Catch) (c : Catch) (k : Clause)
    → grown ≡ found ++ (c ∷ []) → ((r : plain.Catches) → clause_of c r ≡ k r) → (r : plain.Catches) → clauses_before (map clause_of grown) r ≡ clauses_before (map clause_of found) (k r)
clause_grown found grown c k eg ek r =
    ap (λ z. clauses_before (map clause_of z) r) eg ∙ pushed found ∙ ap (clauses_before (map clause_of found)) (ek r)
  where
    pushed : (xs : List Catch) → clauses_before (map clause_of (xs ++ (c ∷ []))) r ≡ clauses_before (map clause_of xs) (clause_of c r)
    pushed [] = refl
    pushed (y ∷ ys) = ap (clause_of y) (pushed ys)

pub clause_six : (n w k : ℕ) (ts : Asts) (word paren class x close b : Ast) (r : plain.Catches)
    → ts ≡ more word (more paren (more class (more x (more close (more b none))))) → w ≡ width word → k ≡ width paren
    → caught false (n + w + k) class x (block (n + w + k + width class + width x + width close) b) r ≡ clause n ts r
unfolding clause
clause_six n w k ts word paren class x close b r shape ew ek = rw (shape, ew, ek) refl

pub clause_seven : (n w k u : ℕ) (ts : Asts) (word paren is_final class x close b : Ast) (r : plain.Catches)
    → ts ≡ more word (more paren (more is_final (more class (more x (more close (more b none)))))) → w ≡ width word → k ≡ width paren → u ≡ width is_final
    → caught true (n + w + k + u) class x (block (n + w + k + u + width class + width x + width close) b) r ≡ clause n ts r
unfolding clause
clause_seven n w k u ts word paren is_final class x close b r shape ew ek eu = rw (shape, ew, ek, eu) refl

pub no_clause : (n : ℕ) (ts : List Tree) (r : plain.Catches) → (length ts ≡ 6 → ⊥) → (length ts ≡ 7 → ⊥) → r ≡ clause n (views ts) r
unfolding clause
no_clause n [] r six seven = refl
no_clause n (a ∷ []) r six seven = refl
no_clause n (a ∷ b ∷ []) r six seven = refl
no_clause n (a ∷ b ∷ c ∷ []) r six seven = refl
no_clause n (a ∷ b ∷ c ∷ d ∷ []) r six seven = refl
no_clause n (a ∷ b ∷ c ∷ d ∷ e ∷ []) r six seven = refl
no_clause n (a ∷ b ∷ c ∷ d ∷ e ∷ f ∷ []) r six seven = absurd (six refl)
no_clause n (a ∷ b ∷ c ∷ d ∷ e ∷ f ∷ g ∷ []) r six seven = absurd (seven refl)
no_clause n (a ∷ b ∷ c ∷ d ∷ e ∷ f ∷ g ∷ h ∷ ts) r six seven = refl

pub last_here : (n w : ℕ) (ts tail rest : Asts) (x s : Ast) (b : plain.Braced) (all : plain.Last)
    → ts ≡ more x tail → tail ≡ more s rest → is_leaf kinds.Finally x ≡ true → w ≡ width x → b ≡ block (n + w) s → last_of n ts ≡ all → plain.finally b ≡ all
unfolding last_of
last_here n w ts tail rest x s b all shape after is ew eb h = sym (rw (shape, after, is, eb, ew) refl) ∙ h

pub last_on : (n w : ℕ) (ts tail rest : Asts) (x s : Ast) (all : plain.Last)
    → ts ≡ more x tail → tail ≡ more s rest → is_leaf kinds.Finally x ≡ false → w ≡ width x → last_of n ts ≡ all → last_of (n + w) tail ≡ all
unfolding last_of
last_on n w ts tail rest x s all shape after other ew h = sym (rw (shape, after, other, ew) refl) ∙ h

pub last_alone : (n : ℕ) (ts : Asts) (x : Ast) (rest : List Tree) (all : plain.Last) → ts ≡ more x (views rest) → length rest < 1 → last_of n ts ≡ all → plain.nowhere ≡ all
unfolding last_of
last_alone n ts x [] all shape low h = sym (rw (shape) refl) ∙ h
last_alone n ts x (t ∷ rest) all shape low h = absurd (omega (arith, low))

pub last_end : (n : ℕ) (ts : List Tree) (all : plain.Last) → length ts < 1 → last_of n (views ts) ≡ all → plain.nowhere ≡ all
unfolding last_of
last_end n [] all low h = h
last_end n (t ∷ ts) all low h = absurd (omega (arith, low))
