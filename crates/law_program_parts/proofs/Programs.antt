-- The bodies of a whole program.
use Rattle.std.proofs.Common.{◌≤◌, arith, ◌≡◌, ℕ, zero, suc, true, false, refl, sym, ◌∙◌, ap, subst, List, [], ◌∷◌, ◌++◌, length, Option, Some, None}
use Rattle.std.specs.Prelude.{slice_get}
use Rattle.std.specs.List.{AllByRecursion}
use Rattle.std.proofs.lemmas.List.{length-map}
use Rattle.std.proofs.lemmas.List.Elements.{All-contains, All-from_recursion}
use Rattle.wy_kernel.specs.Program.{Program, Method, Body, first_source_class}
use Rattle.wy_kernel.specs.Table.{Table}
use Rattle.wy_kernel.specs.Builtin as builtin
use Rattle.wy_constant.specs.Scope.{FixedText}
use Rattle.wy_members.specs.Declarations.{CompilationUnit, classes_of}
use Rattle.wy_members.proofs.Contained.{contained}
use Rattle.wy_elab_expr.specs.Operators.{Judgement}
use Rattle.wy_library.specs.Library.{library_bodies, library_init_bodies}
use Rattle.wy_elab_stmt.specs.Program.{in_order, setting, program_with}
use Rattle.wy_elab_body.specs.Places.{places_of}
use Rattle.wy_typing.specs.Expressions.{IsMethod, HasBody}
use Rattle.wy_typing.specs.Programs.{IsBody, IsBodyOf}
use Rattle.law_typed.specs.Library.{HasLibrary}
use Rattle.law_typed.proofs.Fitting.{library_fits}
use Rattle.law_typed.specs.StatementsTyped.{Makes}
use Rattle.law_typed.proofs.Constructing.{all_joined}
use Rattle.law_program_parts.proofs.TypedMade.{MadeOf, made_of}
use Rattle.law_program_parts.proofs.Bodies.{bodies_are_typed}
use Rattle.law_program_parts.proofs.Rows as rows_proof
use Rattle.law_program_parts.specs.Rows.{NamesAgree, AllStand, InitFits, RowFits, RowsFit, rows_from}
use Rattle.law_program_parts.specs.Shapes.{RowsStand}
use Rattle.law_program_parts.specs.Programs.{HasRows, MethodsHaveBodies, BodiesFit, ProgramsAreTyped}
use Rattle.law_program_parts.proofs.Shapes.{join, bodies_stand}

library_stands : RowsStand builtin.methods library_bodies
unfolding builtin.methods builtin.first_methods library_bodies
library_stands = (tt, (tt, (tt, (tt, (tt, (tt, (tt, (tt, (tt, (tt, (tt, (tt, (tt, (tt, (tt, (tt, (tt, (tt, (tt, (tt, (tt, (tt, (tt, (tt, (tt, (tt, (tt, (tt, (tt, (tt, (tt, (tt, (tt, (tt, (tt, (tt, tt))))))))))))))))))))))))))))))))))))

has_row : (ms : List Method) (bs : List (Option Body)) (k : ℕ) (m : Method) → RowsStand ms bs → slice_get ms k ≡ Some m → m.is_abstract ≡ false → (b : Body) × (slice_get bs k ≡ Some (Some b))
has_row [] bs k m h e f = absurd (cc)
has_row (x ∷ xs) [] k m h e f = absurd h
has_row (x ∷ xs) (Some b ∷ bs) zero m h e f = (b, refl)
has_row (x ∷ xs) (None ∷ bs) zero m h e f = let is : x ≡ m = cc in let no : false ≡ true = sym f ∙ ap (λ (y : Method). y.is_abstract) (sym is) ∙ h.0 in absurd (cc)
has_row (x ∷ xs) (b ∷ bs) (suc k) m h e f = has_row xs bs k m h.1 e f

pub methods_have_bodies : MethodsHaveBodies
methods_have_bodies j t unit tokens p rows keep e k m found concrete =
    let d = made_of j t unit tokens p e in
    let stand = bodies_stand (setting j t unit) unit first_source_class (classes_of unit) (in_order d.first.1) d.texts d.bodies keep d.made in
    let P : List Method → Type 0 = λ l. RowsStand l (library_bodies ++ d.bodies.methods) in
    let whole : RowsStand t.methods (library_bodies ++ d.bodies.methods) = subst P (sym rows) (join builtin.methods (rows_from unit first_source_class (classes_of unit)) library_bodies d.bodies.methods library_stands stand) in
    let Q : Program → Type 0 = λ x. IsMethod x k m → HasBody x k in
    subst Q d.is (λ is. has_row t.methods (library_bodies ++ d.bodies.methods) k m whole is concrete) found

-- ---- types

fit_both : (p : Program) (ms : List Method) (bs : List (Option Body)) → RowsStand ms bs → ((k : ℕ) (m : Method) (b : Body) → slice_get ms k ≡ Some m → slice_get bs k ≡ Some (Some b) → IsBodyOf p m b) → RowsFit p ms bs
fit_both p [] [] h f = tt
fit_both p [] (b ∷ bs) h f = absurd h
fit_both p (m ∷ ms) [] h f = absurd h
fit_both p (m ∷ ms) (Some b ∷ bs) h f = (f 0 m b refl refl, fit_both p ms bs h.1 (λ k. f (suc k)))
fit_both p (m ∷ ms) (None ∷ bs) h f = (h.0, fit_both p ms bs h.1 (λ k. f (suc k)))

fit_at : (p : Program) (ms : List Method) (bs : List (Option Body)) (k : ℕ) (m : Method) (b : Body) → RowsFit p ms bs → slice_get ms k ≡ Some m → slice_get bs k ≡ Some (Some b) → IsBodyOf p m b
fit_at p [] bs k m b h e f = absurd (cc)
fit_at p (x ∷ xs) [] k m b h e f = absurd h
fit_at p (x ∷ xs) (y ∷ ys) zero m b h e f =
    let P : Method → Type 0 = λ z. RowFits p z y in let Q : Option Body → Type 0 = λ z. RowFits p m z in
    let is : x ≡ m = cc in let same : y ≡ Some b = cc in subst Q same (subst P is h.0)
fit_at p (x ∷ xs) (y ∷ ys) (suc k) m b h e f = fit_at p xs ys k m b h.1 e f

init_at : (p : Program) (bs : List (Option Body)) (c : ℕ) (b : Body) → AllByRecursion (InitFits p) bs → slice_get bs c ≡ Some (Some b) → IsBody p [] None b
init_at p bs c b h e = All-contains (InitFits p) bs (Some b) (All-from_recursion (InitFits p) bs h) (contained bs c (Some b) e)

library_inits : (p : Program) → AllByRecursion (InitFits p) library_init_bodies
unfolding library_init_bodies builtin.classes
library_inits p = (tt, (tt, (tt, (tt, (tt, (tt, (tt, (tt, (tt, (tt, (tt, (tt, (tt, (tt, (tt, (tt, (tt, (tt, tt))))))))))))))))))

typed_at : (j : Judgement) (t : Table) (unit : CompilationUnit) (p : Program) → HasRows t unit → HasLibrary p → Makes p t.constants j (places_of t unit) → NamesAgree p unit → AllStand p t.constants (places_of t unit) first_source_class (classes_of unit) → MadeOf j t unit p → BodiesFit p
typed_at j t unit p rows library made names stand d =
    let Q : Program → Type 0 = λ x. HasLibrary x → Makes x t.constants j (places_of t unit) → NamesAgree x unit → AllStand x t.constants (places_of t unit) first_source_class (classes_of unit) → BodiesFit x in
    subst Q d.is (λ lib mk nm st. of_program lib mk nm st) library made names stand
  where
    of_program : HasLibrary (program_with t unit d.main d.bodies d.texts) → Makes (program_with t unit d.main d.bodies d.texts) t.constants j (places_of t unit) → NamesAgree (program_with t unit d.main d.bodies d.texts) unit →
        AllStand (program_with t unit d.main d.bodies d.texts) t.constants (places_of t unit) first_source_class (classes_of unit) → BodiesFit (program_with t unit d.main d.bodies d.texts)
    of_program lib mk nm st =
        let x : Program = program_with t unit d.main d.bodies d.texts in
        let enough : length d.texts ≤ length x.fixed_texts = omega (arith, length-map d.texts (λ (y : FixedText). y.units)) in
        let f = bodies_are_typed x t.constants j (places_of t unit) unit first_source_class (classes_of unit) (in_order d.first.1) d.texts d.bodies mk nm st d.made enough in
        let P : List Method → Type 0 = λ l. RowsFit x l (library_bodies ++ d.bodies.methods) in
        let all : RowsFit x t.methods (library_bodies ++ d.bodies.methods) = subst P (sym rows)
        (rows_proof.join x builtin.methods (rows_from unit first_source_class (classes_of unit)) library_bodies d.bodies.methods (fit_both x builtin.methods library_bodies library_stands (λ k m b e is. library_fits x k m b lib e is)) f.0) in
        record {
          bodies = λ k m b e is. fit_at x t.methods (library_bodies ++ d.bodies.methods) k m b all e is;
          initializers = λ c b e. init_at x (library_init_bodies ++ d.bodies.initializers) c b (all_joined (InitFits x) library_init_bodies d.bodies.initializers (library_inits x) f.1) e;
        }

pub programs_are_typed : ProgramsAreTyped
programs_are_typed j t unit tokens p rows library made names stand e = typed_at j t unit p rows library made names stand (made_of j t unit tokens p e)
