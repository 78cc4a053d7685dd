-- The block of a whole body, by the locals that the body has at its end.
use Rattle.std.proofs.Common.{◌≡◌, ℕ, ◌≤◌, Bool, true, false, refl, subst, List, [], length, Option, Some, Result, Ok}
use Rattle.std.specs.Prelude.{slice_get}
use Rattle.std.specs.List.{All}
use Rattle.wy_kernel.specs.declared.types.Ty.{Ty}
use Rattle.wy_kernel.specs.Program.{Program}
use Rattle.wy_kernel.specs.Subtyping.{class_type}
use Rattle.wy_kernel.specs.Table.{ConstantValue}
use Rattle.wy_constant.specs.Refusal.{Refusal}
use Rattle.wy_constant.specs.Scope.{FixedText}
use Rattle.wy_elab_expr.specs.Operators.{Judgement}
use Rattle.wy_elab_body.specs.Making.{Making, Makes, this_local, begun, with_texts}
use Rattle.wy_elab_body.specs.Jumps.{alone}
use Rattle.wy_elab_body.specs.Statements.{block}
use Rattle.wy_typing.specs.Programs.{IsTypeIn}
use Rattle.law_typed.specs.StatementsTyped.{setting, types, BlocksAreTyped}
use Rattle.law_typed.proofs.Steps as steps
use Rattle.law_typed.proofs.Steps.{Sure, begins_self}
use Rattle.law_typed.proofs.Stating as stating

this_first : (class : ℕ) (has_this : Bool) (site : ℕ) → has_this ≡ true → slice_get (types (this_local has_this class site)) 0 ≡ Some (class_type class)
this_first class true site e = refl
this_first class false site e = absurd (cc)

this_many : (class : ℕ) (has_this : Bool) (site : ℕ) → (begun class has_this site).scope.next ≡ length (this_local has_this class site)
unfolding begun
this_many class true site = refl
this_many class false site = refl

-- a body at its beginning, with some texts
pub begun_inv : (p : Program) (constants : List (Option ConstantValue)) (j : Judgement) (L : List Ty) (class : ℕ) (has_this : Bool) (site : ℕ) (texts : List FixedText) → All (IsTypeIn p) (types (begun class has_this site).locals) → steps.Inv p constants j L class has_this (with_texts (begun class has_this site) texts)
unfolding begun
begun_inv p constants j L class has_this site texts known = record { variables = tt; own = this_first class has_this site; next = this_many class has_this site; known = known; of_class = refl; with_this = refl }

-- what is made of a whole body has its property, by the locals at its end
pub at_end : {A : Type 0} (p : Program) (constants : List (Option ConstantValue)) (j : Judgement) (class : ℕ) (has_this : Bool) (Q : List Ty → A → Type 0) (f : Makes A) (m after : Making) (x : A) →
    ((L : List Ty) → Sure p constants j L class has_this Unit (λ y. Unit {0}) Unit (Q L) f) → ((L : List Ty) → steps.Inv p constants j L class has_this m) → f m ≡ Ok (x, after) → length after.texts ≤ length p.fixed_texts →
    Q (types after.locals) x × All (IsTypeIn p) (types after.locals) × steps.BeginsAt (types after.locals) (types m.locals)
at_end p constants j class has_this Q f m after x h i e lt =
    let L : List Ty = types after.locals in
    let S = h L in
    let P : Result _ Refusal → Type 0 = λ r. steps.After p constants j L class has_this (λ y. Unit {0}) m r in
    let R : Result _ Refusal → Type 0 = λ r. steps.HasAt p constants j L class has_this (Q L) r in
    let kept = subst P e (S.keeps tt m (i L)) in
    let known = kept.0.known in
    (subst R e (S.finds tt tt m (i L)) (record { front = begins_self L; known = known }) lt, known, kept.1)

-- no text is lost up to the end
pub grown_at_end : {A : Type 0} (p : Program) (constants : List (Option ConstantValue)) (j : Judgement) (class : ℕ) (has_this : Bool) (Q : List Ty → A → Type 0) (f : Makes A) (m after : Making) (x : A) →
    ((L : List Ty) → Sure p constants j L class has_this Unit (λ y. Unit {0}) Unit (Q L) f) → ((L : List Ty) → steps.Inv p constants j L class has_this m) → f m ≡ Ok (x, after) → length m.texts ≤ length after.texts
grown_at_end {A} p constants j class has_this Q f m after x h i e =
    let L : List Ty = types after.locals in
    let S = h L in
    let P : Result (A × Making) Refusal → Type 0 = λ r. steps.After p constants j L class has_this (λ y. Unit {0}) m r in
    let R : Result (A × Making) Refusal → Type 0 = λ r. steps.Longer p constants j L class has_this m r in
    let kept = subst P e (S.keeps tt m (i L)) in
    subst R e (S.grows tt m (i L)) (record { front = begins_self L; known = kept.0.known })

pub blocks_are_typed : BlocksAreTyped
unfolding begun
blocks_are_typed p constants j all outcome class has_this site n b x after made fits ok places known e lt =
    (at_end p constants j class has_this (λ L. stating.TypedIn p constants j all L class has_this outcome made fits) (block (setting p constants j all) (alone n outcome) b) (begun class has_this site) after x
    (λ L. stating.blocked p constants j all L class has_this outcome made fits (alone n outcome) b (stating.alone_fits p constants j all L class has_this outcome made fits n) places ok)
    (λ L. begun_inv p constants j L class has_this site [] known) e lt).0
