-- The bodies of a program class by class, and the program that they make.
use Rattle.std.proofs.Common.{◌≡◌, ap, sym, ◌∙◌, ℕ, suc, ◌+◌, ◌<◌, ◌≤◌, add-one, drop, get_or, List, [], ◌∷◌, ◌++◌, map, length, append_assoc, refl, Result, Ok, Err, Option, Some}
use Rattle.std.specs.Prelude.{None}
use Rattle.std.proofs.lemmas.List.{append-nil}
use Rattle.std.proofs.Math.ListN.{drop_of_length-le}
use Rattle.wy_kernel.specs.Table.{Table}
use Rattle.wy_kernel.specs.Program as parts
use Rattle.wy_syntax.specs.declared.declaration.Declaration as memory
use Rattle.wy_syntax.specs.Syntax.{ClassSyntax, Declaration}
use Rattle.wy_syntax.specs.Syntax as source
use Rattle.wy_syntax.specs.View.{declaration_of}
use Rattle.wy_constant.specs.declared.rule.TypeError.{TypeError}
use Rattle.wy_constant.specs.declared.rule.TypeError.TheVariants as error
use Rattle.wy_constant.specs.Refusal.{Refusal, Fails, refused}
use Rattle.wy_constant.specs.Scope.{FixedText}
use Rattle.wy_constant.specs.Scopes.{text_of}
use Rattle.wy_constant.specs.declared.variable.FixedText as memory_text
use Rattle.std.specs.declared.alloc.Global.{Global}
use Rattle.std.specs.declared.vec.Vec.{Vec}
use Rattle.wy_elab_body.specs.declared.place.Place.{Place}
use Rattle.wy_members.specs.Declarations.{CompilationUnit, classes_of}
use Rattle.wy_elab_expr.specs.Meaning.{onward}
use Rattle.wy_elab_expr.specs.Operators.{Judgement}
use Rattle.wy_elab_body.specs.Places.{places_of}
use Rattle.wy_elab_body.specs.Statements.{Setting}
use Rattle.wy_elab_stmt.specs.Classes.{ClassBodies, class_bodies}
use Rattle.wy_elab_stmt.specs.Program.{Bodies, bodies_from, bodies_of, and_more, no_bodies, main_of, from_texts, again, with_main, program_with, program, setting, library_text, in_order}
use Rattle.wy_elab_body.proofs.Walks.{next_here}
use Rattle.wy_elab_stmt.specs.Whole.{and_class, declared_behind, both, behind_bodies, of_library, texts_in, made_from, made, main_or_refused, program_from}
use Rattle.wy_kernel.specs.Program.{library_statements}

abbrev Behind : Type 0
Behind = (Bodies × ℕ) × List FixedText

abbrev behind : Bodies → ℕ → List FixedText → Behind
behind bodies number texts = ((bodies, number), texts)

abbrev given : Bodies → ℕ → List FixedText → Result Behind Refusal
given bodies number texts = Ok (behind bodies number texts)

abbrev held : Bodies → List FixedText → Result (Bodies × List FixedText) Refusal
held bodies texts = Ok (bodies, texts)

-- ---- one class after another

both_more : (front : Bodies) (k : ClassBodies) (rest : Bodies) → both front (and_more k rest) ≡ both (and_class front k) rest
both_more front k rest =
    let methods = append_assoc front.methods k.bodies rest.methods in
    let initializers = append_assoc front.initializers (k.initializer ∷ []) rest.initializers in
    λ i. record { methods = sym methods i; initializers = sym initializers i }

along : (front : Bodies) (k : ClassBodies) (r : Result (Bodies × List FixedText) Refusal) →
    behind_bodies front (onward (λ xs texts. Ok (and_more k xs, texts)) r) ≡ behind_bodies (and_class front k) r
along front k (Ok p) = ap (λ z. Ok (z, p.1)) (both_more front k p.0)
along front k (Err e) = refl

unrolled : (w : Setting) (c : ℕ) (k : ClassSyntax) (rest : List ClassSyntax) (texts : List FixedText) →
    bodies_from w c (k ∷ rest) texts ≡ onward (λ x t. onward (λ xs u. Ok (and_more x xs, u)) (bodies_from w (suc c) rest t)) (class_bodies w c k texts)
unfolding bodies_from
unrolled w c k rest texts = refl

class_goes : (w : Setting) (c : ℕ) (front : Bodies) (k : ClassSyntax) (rest : List ClassSyntax) (x : ClassBodies) (texts after : List FixedText) → class_bodies w c k texts ≡ Ok (x, after) →
    behind_bodies front (bodies_from w c (k ∷ rest) texts) ≡ behind_bodies (and_class front x) (bodies_from w (c + 1) rest after)
class_goes w c front k rest x texts after is =
    ap (behind_bodies front) (unrolled w c k rest texts ∙ ap (λ r. onward (λ y t. onward (λ xs u. Ok (and_more y xs, u)) (bodies_from w (suc c) rest t)) r) is)
    ∙ along front x (bodies_from w (suc c) rest after)
    ∙ ap (λ n. behind_bodies (and_class front x) (bodies_from w n rest after)) (sym (add-one c))

class_fails : (w : Setting) (c : ℕ) (front : Bodies) (k : ClassSyntax) (rest : List ClassSyntax) (e : Refusal) (texts : List FixedText) → class_bodies w c k texts ≡ Err e →
    behind_bodies front (bodies_from w c (k ∷ rest) texts) ≡ Err e
class_fails w c front k rest e texts is =
    ap (behind_bodies front) (unrolled w c k rest texts ∙ ap (λ r. onward (λ y t. onward (λ xs u. Ok (and_more y xs, u)) (bodies_from w (suc c) rest t)) r) is)

-- ---- one declaration after another

passed : (w : Setting) (c n : ℕ) (front new : Bodies) (rest : List Declaration) (texts after : List FixedText) → given front c texts ≡ given new n after →
    behind_bodies front (bodies_from w c (classes_of rest) texts) ≡ behind_bodies new (bodies_from w n (classes_of rest) after)
passed w c n front new rest texts after is =
    let same : behind front c texts ≡ behind new n after = cc in
    ap (λ (z : Behind). behind_bodies z.0.0 (bodies_from w z.0.1 (classes_of rest) z.1)) same

declared_goes : (w : Setting) (c n : ℕ) (front new : Bodies) (d : Declaration) (rest : List Declaration) (texts after : List FixedText) → declared_behind w front c d texts ≡ Ok ((new, n), after) →
    behind_bodies front (bodies_from w c (classes_of (d ∷ rest)) texts) ≡ behind_bodies new (bodies_from w n (classes_of rest) after)
declared_goes w c n front new source.Declaration.Nothing rest texts after is = passed w c n front new rest texts after is
declared_goes w c n front new source.Declaration.Unknown rest texts after is = passed w c n front new rest texts after is
declared_goes w c n front new (source.Declared k) rest texts after is = by (class_bodies w c k texts) refl is
  where
    by : (r : Result (ClassBodies × List FixedText) Refusal) → class_bodies w c k texts ≡ r → onward (λ x t. given (and_class front x) (c + 1) t) r ≡ given new n after →
        behind_bodies front (bodies_from w c (k ∷ classes_of rest) texts) ≡ behind_bodies new (bodies_from w n (classes_of rest) after)
    by (Ok p) e f = class_goes w c front k (classes_of rest) p.0 texts p.1 e ∙ passed w (c + 1) n (and_class front p.0) new rest p.1 after f
    by (Err d) e f = absurd (cc)

declared_fails : (w : Setting) (c : ℕ) (front : Bodies) (d : Declaration) (rest : List Declaration) (e : Refusal) (texts : List FixedText) → declared_behind w front c d texts ≡ Err e →
    behind_bodies front (bodies_from w c (classes_of (d ∷ rest)) texts) ≡ Err e
declared_fails w c front source.Declaration.Nothing rest e texts is = absurd (cc)
declared_fails w c front source.Declaration.Unknown rest e texts is = absurd (cc)
declared_fails w c front (source.Declared k) rest e texts is = by (class_bodies w c k texts) refl is
  where
    by : (r : Result (ClassBodies × List FixedText) Refusal) → class_bodies w c k texts ≡ r → onward (λ x t. given (and_class front x) (c + 1) t) r ≡ Err e →
        behind_bodies front (bodies_from w c (k ∷ classes_of rest) texts) ≡ Err e
    by (Ok p) f g = absurd (cc)
    by (Err d) f g = let same : d ≡ e = cc in class_fails w c front k (classes_of rest) d texts f ∙ ap (λ z. Err z) same

-- the same for declarations in memory, at an index
pub next_declaration : (w : Setting) (ys : List memory.Declaration) (i : ℕ) (y : memory.Declaration) (c n : ℕ) (front new : Bodies) (texts after : List FixedText) (r : Result (Bodies × List FixedText) Refusal) →
    i < length ys → y ≡ get_or ys i y → declared_behind w front c (declaration_of y) texts ≡ Ok ((new, n), after) →
    behind_bodies front (bodies_from w c (classes_of (map declaration_of (drop i ys))) texts) ≡ r → behind_bodies new (bodies_from w n (classes_of (map declaration_of (drop (i + 1) ys))) after) ≡ r
next_declaration w ys i y c n front new texts after r less at is known =
    sym (declared_goes w c n front new (declaration_of y) (map declaration_of (drop (i + 1) ys)) texts after is)
    ∙ ap (λ z. behind_bodies front (bodies_from w c (classes_of (map declaration_of z)) texts)) (sym (next_here ys i y less at)) ∙ known

pub declaration_stops : (w : Setting) (ys : List memory.Declaration) (i : ℕ) (y : memory.Declaration) (c : ℕ) (front : Bodies) (e : TypeError) (texts : List FixedText) (r : Result (Bodies × List FixedText) Refusal) →
    i < length ys → y ≡ get_or ys i y → Fails e (declared_behind w front c (declaration_of y) texts) →
    behind_bodies front (bodies_from w c (classes_of (map declaration_of (drop i ys))) texts) ≡ r → Fails e r
declaration_stops w ys i y c front error.NoMemory texts r less at is known = tt
declaration_stops w ys i y c front (error.Broken rule token) texts r less at is known =
    sym known ∙ ap (λ z. behind_bodies front (bodies_from w c (classes_of (map declaration_of z)) texts)) (next_here ys i y less at)
    ∙ declared_fails w c front (declaration_of y) (map declaration_of (drop (i + 1) ys)) (refused rule token) texts is

both_none : (all : Bodies) → both all no_bodies ≡ all
both_none all =
    let methods = append-nil all.methods in
    let initializers = append-nil all.initializers in
    λ i. record { methods = methods i; initializers = initializers i }

pub declarations_end : (w : Setting) (ys : List memory.Declaration) (i c : ℕ) (all : Bodies) (texts : List FixedText) (r : Result (Bodies × List FixedText) Refusal) → length ys ≤ i →
    behind_bodies all (bodies_from w c (classes_of (map declaration_of (drop i ys))) texts) ≡ r → r ≡ Ok (all, texts)
unfolding bodies_from
declarations_end w ys i c all texts r less known =
    sym known ∙ ap (λ z. behind_bodies all (bodies_from w c (classes_of (map declaration_of z)) texts)) (drop_of_length-le ys less) ∙ ap (λ z. Ok (z, texts)) (both_none all)

-- ---- the program of what was made

program_is : (j : Judgement) (t : Table) (unit : CompilationUnit) (tokens main : ℕ) (p : Bodies × List FixedText) → made (setting j t unit) unit ≡ Ok p → main_or_refused (main_of t unit) tokens ≡ Ok main →
    program j t unit tokens ≡ Ok (program_from t (library_statements + length (places_of t unit)) main p)
unfolding program
program_is j t unit tokens main p bodies found = first (bodies_of w unit (library_text ∷ [])) bodies
  where
    w : Setting
    w = setting j t unit

    all : ℕ → Bodies × List FixedText → parts.Program
    all m q = program_from t (library_statements + length (places_of t unit)) m q

    third : (o : Option ℕ) (q : Bodies × List FixedText) → main_or_refused o tokens ≡ Ok main → held (both of_library q.0) q.1 ≡ Ok p → with_main t unit tokens o q.0 q.1 ≡ Ok (all main p)
    third (Some m) q e f = let m_is : m ≡ main = cc in let p_is : (both of_library q.0, q.1) ≡ p = cc in ap (λ n. Ok (all n (both of_library q.0, q.1))) m_is ∙ ap (λ z. Ok (all main z)) p_is
    third None q e f = absurd (cc)

    second : (r : Result (Bodies × List FixedText) Refusal) → behind_bodies of_library r ≡ Ok p → again j t unit tokens r ≡ Ok (all main p)
    second (Ok q) e = third (main_of t unit) q found e
    second (Err e) f = absurd (cc)

    first : (r : Result (Bodies × List FixedText) Refusal) → made_from w unit (texts_in r) ≡ Ok p → from_texts j t unit tokens r ≡ Ok (all main p)
    first (Ok q) e = second (bodies_of w unit (in_order q.1)) e
    first (Err e) f = absurd (cc)

bodies_refused : (j : Judgement) (t : Table) (unit : CompilationUnit) (tokens : ℕ) (e : Refusal) → made (setting j t unit) unit ≡ Err e → program j t unit tokens ≡ Err e
unfolding program
bodies_refused j t unit tokens e bodies = first (bodies_of (setting j t unit) unit (library_text ∷ [])) bodies
  where
    second : (r : Result (Bodies × List FixedText) Refusal) → behind_bodies of_library r ≡ Err e → again j t unit tokens r ≡ Err e
    second (Ok q) f = absurd (cc)
    second (Err d) f = let same : d ≡ e = cc in ap (λ z. Err z) same

    first : (r : Result (Bodies × List FixedText) Refusal) → made_from (setting j t unit) unit (texts_in r) ≡ Err e → from_texts j t unit tokens r ≡ Err e
    first (Ok q) f = second (bodies_of (setting j t unit) unit (in_order q.1)) f
    first (Err d) f = let same : d ≡ e = cc in ap (λ z. Err z) same

main_refused : (j : Judgement) (t : Table) (unit : CompilationUnit) (tokens : ℕ) (p : Bodies × List FixedText) (e : Refusal) → made (setting j t unit) unit ≡ Ok p → main_or_refused (main_of t unit) tokens ≡ Err e →
    program j t unit tokens ≡ Err e
unfolding program
main_refused j t unit tokens p e bodies none = first (bodies_of (setting j t unit) unit (library_text ∷ [])) bodies
  where
    third : (o : Option ℕ) (q : Bodies × List FixedText) → main_or_refused o tokens ≡ Err e → with_main t unit tokens o q.0 q.1 ≡ Err e
    third (Some m) q f = absurd (cc)
    third None q f = let same : refused _ tokens ≡ e = cc in ap (λ z. Err z) same

    second : (r : Result (Bodies × List FixedText) Refusal) → behind_bodies of_library r ≡ Ok p → again j t unit tokens r ≡ Err e
    second (Ok q) f = third (main_of t unit) q none
    second (Err d) f = absurd (cc)

    first : (r : Result (Bodies × List FixedText) Refusal) → made_from (setting j t unit) unit (texts_in r) ≡ Ok p → from_texts j t unit tokens r ≡ Err e
    first (Ok q) f = second (bodies_of (setting j t unit) unit (in_order q.1)) f
    first (Err d) f = absurd (cc)

pub program_made : (j : Judgement) (t : Table) (unit : CompilationUnit) (tokens many main : ℕ) (p : Bodies × List FixedText) (statements : ℕ) (places : List Place) (whole : parts.Program) → many ≡ tokens →
    made (setting j t unit) unit ≡ Ok p → main_or_refused (main_of t unit) many ≡ Ok main → places ≡ places_of t unit → statements ≡ library_statements + length places →
    whole ≡ program_from t statements main p → program j t unit tokens ≡ Ok whole
program_made j t unit tokens many main p statements places whole same bodies found at count is =
    program_is j t unit tokens main p bodies (ap (main_or_refused (main_of t unit)) (sym same) ∙ found)
    ∙ ap (λ z. Ok z) (sym (is ∙ ap (λ n. program_from t n main p) (count ∙ ap (λ (xs : List Place). library_statements + length xs) at)))

pub bodies_stop : (j : Judgement) (t : Table) (unit : CompilationUnit) (tokens : ℕ) (e : TypeError) → Fails e (made (setting j t unit) unit) → Fails e (program j t unit tokens)
bodies_stop j t unit tokens error.NoMemory h = tt
bodies_stop j t unit tokens (error.Broken rule token) h = bodies_refused j t unit tokens (refused rule token) h

pub main_stops : (j : Judgement) (t : Table) (unit : CompilationUnit) (tokens many : ℕ) (p : Bodies × List FixedText) (e : TypeError) → many ≡ tokens → made (setting j t unit) unit ≡ Ok p →
    Fails e (main_or_refused (main_of t unit) many) → Fails e (program j t unit tokens)
main_stops j t unit tokens many p error.NoMemory same bodies h = tt
main_stops j t unit tokens many p (error.Broken rule token) same bodies h =
    main_refused j t unit tokens p (refused rule token) bodies (ap (main_or_refused (main_of t unit)) (sym same) ∙ h)

pub same_units : (all : List memory_text.FixedText) → map (λ (v : Vec ℕ Global). v.items) (map (λ (t : memory_text.FixedText). t.units) all) ≡ map (λ (t : FixedText). t.units) (map text_of all)
same_units [] = refl
same_units (x ∷ all) = ap (λ z. x.units.items ∷ z) (same_units all)
