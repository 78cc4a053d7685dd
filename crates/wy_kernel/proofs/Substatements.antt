-- The statements within a form are those of its substatements, one after another.
use Rattle.std.proofs.Common.{◌≡◌, ℕ, suc, ◌≤◌, ◌+◌, arith, refl, sym, ap, ◌∙◌, List, [], ◌∷◌, ◌++◌, length, map, append-nil, append_assoc, Bor, Option}
use Rattle.std.specs.Prelude.{option_map}
use Rattle.std.specs.List.{flat_map}
use Rattle.std.proofs.lemmas.List.{length-append, map-append}
use Rattle.std.proofs.lemmas.List.Concat.{flat_map-append}
use Rattle.wy_kernel.specs.declared.form.Stmt.{Stmt}
use Rattle.wy_kernel.specs.declared.form.Catch.{Catch}
use Rattle.wy_kernel.specs.declared.form.StmtForm.{StmtForm}
use Rattle.wy_kernel.specs.declared.form.Body.{Body}
use Rattle.wy_kernel.specs.Form.{Statement, Act}
use Rattle.wy_kernel.specs.Statements.{statements, statements_within, statements_of_all, statements_of_body, statements_of_bodies, statements_of_catches}
use Rattle.wy_kernel.specs.Substatements.{block_of, statement_seen, statements_seen}
use Rattle.wy_kernel.specs.View.{act, body_of, clause, clauses_of, statement, statements_of}
use Rattle.wy_kernel.proofs.Views.{view_clause, view_statement}

-- of what comes, by what a form says
pub of_form : (s : StmtForm) (f : Act) (come seen : List Statement) → act s ≡ f → come ≡ seen → flat_map statements seen ≡ statements_within f → flat_map statements come ≡ statements_within (act s)
of_form s f come seen is e has = ap (flat_map statements) e ∙ has ∙ sym (ap statements_within is)

pub row_has : (row : List Stmt) → flat_map statements (map statement row) ≡ statements_of_all (statements_of (map statement row))
row_has [] = refl
row_has (s ∷ rest) = ap (λ l. statements (statement s) ++ l) (row_has rest)

pub last_row_has : (row : List Stmt) → flat_map statements (map statement row ++ []) ≡ flat_map statements (map statement row)
last_row_has row = ap (flat_map statements) (append-nil (map statement row))

pub blocks_have : (catches : List Catch) → flat_map statements (map block_of catches) ≡ statements_of_catches (clauses_of (map clause catches))
blocks_have [] = refl
blocks_have (c ∷ rest) = ap (λ l. statements (statement c.block) ++ l) (blocks_have rest) ∙ sym (ap statements_of_catches (view_clause c (clauses_of (map clause rest))))

-- one row behind another
pub both_have : (xs ys : List Statement) (l m : List Statement) → flat_map statements xs ≡ l → flat_map statements ys ≡ m → flat_map statements (xs ++ ys) ≡ l ++ m
both_have xs ys l m e f = flat_map-append statements xs ys ∙ ap (λ z. z ++ flat_map statements ys) e ∙ ap (λ z. l ++ z) f

pub rows_are : (a b c x y z : List Stmt) → a ≡ x → b ≡ y → c ≡ z → map statement a ++ (map statement b ++ map statement c) ≡ map statement x ++ (map statement y ++ map statement z)
rows_are a b c x y z e f g = ap (λ r. map statement r ++ (map statement b ++ map statement c)) e ∙ ap (λ r. map statement x ++ (map statement r ++ map statement c)) f ∙ ap (λ r. map statement x ++ (map statement y ++ map statement r)) g

pub clauses_are : (a x : List Stmt) (b y : List Catch) (c : List Stmt) → a ≡ x → b ≡ y → map statement a ++ (map block_of b ++ (map statement c ++ [])) ≡ map statement x ++ (map block_of y ++ (map statement c ++ []))
clauses_are a x b y c e f = ap (λ r. map statement r ++ (map block_of b ++ (map statement c ++ []))) e ∙ ap (λ r. map statement x ++ (map block_of r ++ (map statement c ++ []))) f

-- a statement is one more than those within it
pub one_more : (s : Stmt) → length (statements (statement s)) ≡ suc (length (statements_within (act s.form)))
one_more s = ap (λ x. length (statements x)) (view_statement s)

-- of those that are left the first is no more than all, and so are the others
pub no_more : (left rest : List Statement) (s : Statement) (n : ℕ) → left ≡ s ∷ rest → length (flat_map statements left) ≤ n → (length (statements s) ≤ n) × (length (flat_map statements rest) ≤ n)
no_more left rest s n is within =
    let both : length (flat_map statements left) ≡ length (statements s) + length (flat_map statements rest) = ap (λ l. length (flat_map statements l)) is ∙ length-append (statements s) (flat_map statements rest) in
    (omega (arith, both, within), omega (arith, both, within))

-- ---- a list of statements that grows

-- the statement itself is found, and those within it are left
pub own_found : (old : List (Bor Stmt)) (s : Bor Stmt) (left : List Statement) → left ≡ statements_within (act s.now.form) → statements_seen (old ++ s ∷ []) ++ left ≡ statements_seen old ++ statements (statement s.now)
own_found old s left is =
    ap (λ (l : List Statement). l ++ left) (map-append statement_seen old (s ∷ [])) ∙ append_assoc (statements_seen old) (statement s.now ∷ []) left
    ∙ ap (λ (l : List Statement). statements_seen old ++ statement s.now ∷ l) is
    ∙ ap (λ (x : Statement). statements_seen old ++ x ∷ statements_within (act s.now.form)) (view_statement s.now) ∙ sym (ap (λ x. statements_seen old ++ statements x) (view_statement s.now))

-- the first of those that are left is found
pub first_found : (old new all left rest : List Statement) (s : Statement) → left ≡ s ∷ rest → new ≡ old ++ statements s → old ++ flat_map statements left ≡ all → new ++ flat_map statements rest ≡ all
first_found old new all left rest s is found before =
    ap (λ l. l ++ flat_map statements rest) found ∙ append_assoc old (statements s) (flat_map statements rest) ∙ ap (λ l. old ++ flat_map statements l) (sym is) ∙ before

-- none is left
pub all_found : (old all left : List Statement) → left ≡ [] → old ++ flat_map statements left ≡ all → old ≡ all
all_found old all left none before = sym (append-nil old) ∙ ap (λ l. old ++ flat_map statements l) (sym none) ∙ before

abbrev pub of_body : Option Body → List Statement
of_body b = statements_of_body (option_map body_of b)

pub of_bodies : (bodies : List (Option Body)) → flat_map of_body bodies ≡ statements_of_bodies (map (option_map body_of) bodies)
of_bodies [] = refl
of_bodies (b ∷ rest) = ap (λ l. of_body b ++ l) (of_bodies rest)
