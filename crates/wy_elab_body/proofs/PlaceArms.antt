-- The places of the statements in a source statement, at each of its forms in memory; and lists that grow at their ends.
use Rattle.std.proofs.Common.{◌≡◌, ap, sym, ◌∙◌, map, List, [], ◌∷◌, ◌++◌, Option, Some, ℕ, ◌+◌, ◌<◌, Bool, append_assoc, take, length, get_or, refl}
use Rattle.std.specs.Prelude.{None as Absent}
use Rattle.std.specs.Prelude.{OnOk, Result, Ok, Err}
use Rattle.std.proofs.lemmas.List.{append-nil}
use Rattle.wy_elab_body.proofs.Taken.{map_taken}
use Rattle.std.specs.declared.alloc.Global.{Global}
use Rattle.std.specs.declared.boxed.Box.{Box}
use Rattle.std.specs.declared.vec.Vec.{Vec}
use Rattle.wy_syntax.specs.declared.name.Named.{Named}
use Rattle.wy_syntax.specs.declared.name.WrittenType.{WrittenType}
use Rattle.wy_syntax.specs.declared.expression.Expression.{Expression}
use Rattle.wy_syntax.specs.declared.statement.Declarator.{Declarator}
use Rattle.wy_syntax.specs.declared.statement.Effect.{Effect}
use Rattle.wy_syntax.specs.declared.statement.ForInit.{ForInit}
use Rattle.wy_syntax.specs.declared.statement.Statement.{Statement}
use Rattle.wy_syntax.specs.declared.statement.Catch.{Catch}
use Rattle.wy_syntax.specs.declared.statement.Block.{Block}
use Rattle.wy_syntax.specs.declared.statement.Statement.TheVariants as form
use Rattle.wy_syntax.specs.Syntax as plain
use Rattle.wy_syntax.specs.View.{other_body_of, declarators_of, effect_of, for_init_of, statement_of, block_of, clause_of, statements_of, clauses_of}
use Rattle.wy_elab_body.specs.declared.place.Place.{Place}
use Rattle.wy_elab_body.specs.Places.{written, places, block_places, all_places, other_places, last_places, catch_places, declarator_places, effect_places, init_places}
use Rattle.wy_elab_body.specs.Views.{last_seen}
use Rattle.wy_syntax.proofs.StatementViews.{view_block, view_empty, view_declare, view_effect, view_if, view_while, view_do, view_for, view_labelled, view_break, view_continue, view_return, view_throw, view_try, view_wrong, view_braced, view_clause}

pub of_block : (block : Block) → places (statement_of (form.Block block)) ≡ block_places (block_of block)
unfolding places
of_block block = ap places (view_block block)

pub of_empty : (token : ℕ) → places (statement_of (form.Empty token)) ≡ written token ∷ []
unfolding places
of_empty token = ap places (view_empty token)

pub of_declare : (is_final : Bool) (ty : WrittenType) (all : Vec Declarator Global) → places (statement_of (form.Declare is_final ty all)) ≡ declarator_places (declarators_of all)
unfolding places
of_declare is_final ty all = ap places (view_declare is_final ty all)

pub of_effect : (effect : Effect) → places (statement_of (form.Effect effect)) ≡ written effect.token ∷ []
unfolding places
of_effect effect = ap places (view_effect effect)

pub of_if : (test : Expression) (main : Box Statement Global) (last : Option (Box Statement Global)) (token : ℕ) → places (statement_of (form.If test main last token)) ≡ written token ∷ (places (statement_of main.value) ++ other_places (other_body_of last))
unfolding places
of_if test main last token = ap places (view_if test main last token)

pub of_while : (test : Expression) (body : Box Statement Global) (token : ℕ) → places (statement_of (form.While test body token)) ≡ written token ∷ places (statement_of body.value)
unfolding places
of_while test body token = ap places (view_while test body token)

pub of_do : (body : Box Statement Global) (test : Expression) (token : ℕ) → places (statement_of (form.Do body test token)) ≡ written token ∷ places (statement_of body.value)
unfolding places
of_do body test token = ap places (view_do body test token)

pub of_for : (init : ForInit) (test : Option Expression) (updates : Vec Effect Global) (body : Box Statement Global) (token : ℕ) → places (statement_of (form.For init test updates body token)) ≡ written token ∷ (init_places (for_init_of init) ++ effect_places (map effect_of updates.items) ++ places (statement_of body.value))
unfolding places
of_for init test updates body token = ap places (view_for init test updates body token)

pub of_labelled : (name : Named) (body : Box Statement Global) → places (statement_of (form.Labelled name body)) ≡ written name.token ∷ places (statement_of body.value)
unfolding places
of_labelled name body = ap places (view_labelled name body)

pub of_break : (label : Option Named) (token : ℕ) → places (statement_of (form.Break label token)) ≡ written token ∷ []
unfolding places
of_break label token = ap places (view_break label token)

pub of_continue : (label : Option Named) (token : ℕ) → places (statement_of (form.Continue label token)) ≡ written token ∷ []
unfolding places
of_continue label token = ap places (view_continue label token)

pub of_return : (value : Option Expression) (token : ℕ) → places (statement_of (form.Return value token)) ≡ written token ∷ []
unfolding places
of_return value token = ap places (view_return value token)

pub of_throw : (value : Expression) (token : ℕ) → places (statement_of (form.Throw value token)) ≡ written token ∷ []
unfolding places
of_throw value token = ap places (view_throw value token)

pub of_try : (main : Block) (catches : Vec Catch Global) (last : Option Block) (token : ℕ) → places (statement_of (form.Try main catches last token)) ≡ written token ∷ (block_places (block_of main) ++ catch_places (clauses_of (map clause_of catches.items)) ++ last_places (last_seen last))
unfolding places
of_try main catches last token = ap places (view_try main catches last token)

pub of_wrong : places (statement_of form.Wrong) ≡ []
unfolding places
of_wrong = ap places view_wrong

pub of_braces : (b : Block) → block_places (block_of b) ≡ written b.brace ∷ all_places (statements_of (map statement_of b.parts.items))
unfolding places
of_braces b = ap block_places (view_braced b)

pub of_no_other : other_places (other_body_of Absent) ≡ []
unfolding places
of_no_other = refl

pub of_other : (s : Box Statement Global) → other_places (other_body_of (Some s)) ≡ places (statement_of s.value)
unfolding places
of_other s = refl

pub of_no_last : last_places (last_seen Absent) ≡ []
unfolding places
of_no_last = refl

pub of_last : (b : Block) → last_places (last_seen (Some b)) ≡ block_places (block_of b)
unfolding places
of_last b = refl

-- ---- rows

pub behind_nothing : (all : List Place) → all ++ [] ≡ all
behind_nothing all = append-nil all

all_more : (xs : List plain.Statement) (s : plain.Statement) → all_places (statements_of (xs ++ s ∷ [])) ≡ all_places (statements_of xs) ++ places s
unfolding places
all_more [] s = append-nil (places s)
all_more (x ∷ rest) s = ap (λ z. places x ++ z) (all_more rest s) ∙ sym (append_assoc (places x) (all_places (statements_of rest)) (places s))

pub all_taken : (xs : List Statement) (i : ℕ) (x : Statement) → i < length xs → x ≡ get_or xs i x →
    all_places (statements_of (map statement_of (take (i + 1) xs))) ≡ all_places (statements_of (map statement_of (take i xs))) ++ places (statement_of x)
all_taken xs i x less is = ap (λ ys. all_places (statements_of ys)) (map_taken statement_of xs i x less is) ∙ all_more (map statement_of (take i xs)) (statement_of x)

pub all_begun : (xs : List Statement) → all_places (statements_of (map statement_of (take 0 xs))) ≡ []
unfolding places
all_begun [] = refl
all_begun (x ∷ rest) = refl

of_clause : (c : Catch) (rest : plain.Catches) → catch_places (clause_of c rest) ≡ block_places (block_of c.block) ++ catch_places rest
unfolding places
of_clause c rest = ap catch_places (view_clause c rest)

of_no_clauses : catch_places (clauses_of []) ≡ []
unfolding places
of_no_clauses = refl

catches_more : (xs : List Catch) (c : Catch) → catch_places (clauses_of (map clause_of xs ++ clause_of c ∷ [])) ≡ catch_places (clauses_of (map clause_of xs)) ++ block_places (block_of c.block)
catches_more [] c = of_clause c (clauses_of []) ∙ ap (λ z. block_places (block_of c.block) ++ z) of_no_clauses ∙ append-nil (block_places (block_of c.block)) ∙ ap (λ z. z ++ block_places (block_of c.block)) (sym of_no_clauses)
catches_more (x ∷ rest) c =
    of_clause x (clauses_of (map clause_of rest ++ clause_of c ∷ [])) ∙ ap (λ z. block_places (block_of x.block) ++ z) (catches_more rest c)
    ∙ sym (append_assoc (block_places (block_of x.block)) (catch_places (clauses_of (map clause_of rest))) (block_places (block_of c.block)))
    ∙ ap (λ z. z ++ block_places (block_of c.block)) (sym (of_clause x (clauses_of (map clause_of rest))))

pub catches_taken : (xs : List Catch) (i : ℕ) (x : Catch) → i < length xs → x ≡ get_or xs i x →
    catch_places (clauses_of (map clause_of (take (i + 1) xs))) ≡ catch_places (clauses_of (map clause_of (take i xs))) ++ block_places (block_of x.block)
catches_taken xs i x less is = ap (λ ys. catch_places (clauses_of ys)) (map_taken clause_of xs i x less is) ∙ catches_more (take i xs) x

pub catches_begun : (xs : List Catch) → catch_places (clauses_of (map clause_of (take 0 xs))) ≡ []
unfolding places
catches_begun [] = refl
catches_begun (x ∷ rest) = refl

pub all_done : all_places plain.done ≡ []
unfolding places
all_done = refl

pub no_catches : catch_places plain.uncaught ≡ []
unfolding places
no_catches = refl

pub four_more : (a b d e f : List Place) (x : Place) (xs ys zs : List Place) → b ≡ a ++ x ∷ [] → d ≡ b ++ xs → e ≡ d ++ ys → f ≡ e ++ zs → f ≡ a ++ x ∷ (xs ++ ys ++ zs)
four_more a b d e f x xs ys zs h i j k =
    k ∙ ap (λ z. z ++ zs) (j ∙ ap (λ z. z ++ ys) (i ∙ ap (λ z. z ++ xs) h))
    ∙ ap (λ z. z ++ ys ++ zs) (append_assoc a (x ∷ []) xs) ∙ ap (λ z. z ++ zs) (append_assoc a (x ∷ xs) ys) ∙ append_assoc a (x ∷ xs ++ ys) zs

pub on_ok : {X E : Type 0} (r : Result X E) (P Q : Type 0) → (P → Q) → OnOk r P → OnOk r Q
on_ok (Ok x) P Q f h = f h
on_ok (Err e) P Q f h = tt
