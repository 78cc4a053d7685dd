-- What statements and forms lead to, one after another.
use Rattle.std.proofs.Common.{◌≡◌, ℕ, suc, ◌+◌, ◌<◌, ◌≤◌, not, cond, refl, sym, ap, ◌∙◌, ⊎_elim, ◌⊎◌, List, [], ◌++◌, ◌∷◌, length, drop, get_or, map, Option, Result, OnOk, append_assoc, add-one, drop-cons, lt-ltb, le-ltb}
use Rattle.std.specs.List.{flat_map}
use Rattle.std.proofs.lemmas.List.{append-nil}
use Rattle.std.specs.declared.alloc.Global.{Global}
use Rattle.std.specs.declared.boxed.Box.{Box}
use Rattle.std.specs.declared.vec.Vec.{Vec}
use Rattle.wy_kernel.specs.declared.operator.Primitive.{Primitive}
use Rattle.wy_kernel.specs.declared.operator.UnOp.{UnOp}
use Rattle.wy_kernel.specs.declared.operator.BinOp.{BinOp}
use Rattle.wy_kernel.specs.declared.types.Ty.{Ty}
use Rattle.wy_kernel.specs.declared.form.LibOp.{LibOp}
use Rattle.wy_kernel.specs.declared.form.Const.{Const}
use Rattle.wy_kernel.specs.declared.form.Expr.{Expr}
use Rattle.wy_kernel.specs.declared.form.Expr.TheVariants as expr
use Rattle.wy_kernel.specs.declared.form.Place.{Place}
use Rattle.wy_kernel.specs.declared.form.Place.TheVariants as places
use Rattle.wy_kernel.specs.declared.form.Stmt.{Stmt}
use Rattle.wy_kernel.specs.declared.form.StmtForm.{StmtForm}
use Rattle.wy_kernel.specs.declared.form.StmtForm.TheVariants as form
use Rattle.wy_kernel.specs.declared.form.Catch.{Catch}
use Rattle.wy_kernel.specs.Form as plain
use Rattle.wy_kernel.specs.Program.{Program, is_source}
use Rattle.wy_kernel.specs.View.{act, clause, clauses_of, expression, statement, statements_of}
use Rattle.wy_kernel.specs.View.{place as place_seen}
use Rattle.wy_kernel.proofs.Views.{view_statement, view_clause, view_block, view_eval, view_declare, view_if, view_while, view_do, view_for, view_labelled, view_jump, view_return, view_throw, view_try}
use Rattle.wy_static.specs.declared.point.LinkKind.{LinkKind}
use Rattle.wy_static.specs.declared.point.LinkKind.TheVariants as kind
use Rattle.wy_static.specs.declared.point.Point.TheVariants as point
use Rattle.wy_static.specs.declared.way.Owner.{Owner}
use Rattle.wy_static.specs.declared.way.Goal.TheVariants.{Known}
use Rattle.wy_static.specs.declared.way.Way.{Way}
use Rattle.wy_static.specs.Ways.{act_forms, call_at, flow, form_ways, in_order, initializing, owned_ways, owner_of, placing, printing, statement_ways, to, to_catch, to_catches}
use Rattle.wy_static.proofs.Behind.{Leaves, at, behind_on, leaf}
use Rattle.wy_kernel.proofs.ExpressionViews.{view_const, view_str, view_un, view_bin, view_conv, view_cast, view_instance, view_new_array, view_lib, view_local, view_field, view_elem}

pub owner : (s : Stmt) → (o : Owner) → o ≡ record { point = point.Statement s.number; site = s.site } → o ≡ owner_of (statement s)
owner s o is = is ∙ sym (ap owner_of (view_statement s))

-- a source class has its initialization, and one of the library has none
pub initializes : (old new : List Way) (o : Owner) (c site : ℕ) (w : Way) → 18 ≤ c → w ≡ call_at o site (Known (point.Init c)) → new ≡ old ++ w ∷ [] → new ≡ old ++ initializing o c site
unfolding is_source
initializes old new o c site w le is e = e ∙ ap (λ x. old ++ x ∷ []) is ∙ ap (λ b. old ++ cond (not b) (call_at o site (Known (point.Init c)) ∷ []) []) (sym (le-ltb c 18 le))

pub needs_none : (old : List Way) (o : Owner) (c site : ℕ) → c < 18 → old ≡ old ++ initializing o c site
unfolding is_source
needs_none old o c site lt = sym (append-nil old) ∙ ap (λ b. old ++ cond (not b) (call_at o site (Known (point.Init c)) ∷ []) []) (sym (lt-ltb c 18 lt))

-- ---- places

pub no_static : (p : Program) (old : List Way) (o : Owner) (x : Place) → ((index : ℕ) × (x ≡ places.Local index)) ⊎ (((object : Box Expr Global) × (field : ℕ) × (site : ℕ) × (x ≡ places.Field object field site)) ⊎ ((array : Box Expr Global) × (index : Box Expr Global) × (site : ℕ) × (x ≡ places.Elem array index site)))
    → old ≡ old ++ placing p o (place_seen x)
no_static p old o x =
    ⊎_elim (λ h. leaf (placing p o) old (place_seen x) _ (ap place_seen h.1 ∙ view_local _) refl)
    (⊎_elim (λ h. leaf (placing p o) old (place_seen x) _ (ap place_seen h.3 ∙ view_field _ _ _) refl)
    (λ h. leaf (placing p o) old (place_seen x) _ (ap place_seen h.3 ∙ view_elem _ _ _) refl))

-- ---- forms that lead nowhere by themselves

abbrev pub LeadsNowhere : Expr → Type 0
LeadsNowhere e = ((value : Const) × (e ≡ expr.Const value)) ⊎ (((text : ℕ) × (e ≡ expr.Str text)) ⊎ (((op : UnOp) × (operand : Box Expr Global) × (e ≡ expr.Un op operand))
    ⊎ (((op : BinOp) × (left : Box Expr Global) × (right : Box Expr Global) × (site : ℕ) × (e ≡ expr.Bin op left right site)) ⊎ (((to : Primitive) × (operand : Box Expr Global) × (e ≡ expr.Conv to operand))
    ⊎ (((ty : Ty) × (operand : Box Expr Global) × (site : ℕ) × (e ≡ expr.Cast ty operand site)) ⊎ (((ty : Ty) × (operand : Box Expr Global) × (e ≡ expr.InstanceOf ty operand))
    ⊎ (((ty : Ty) × (dims : Vec Expr Global) × (elements : Vec Expr Global) × (sites : Vec ℕ Global) × (site : ℕ) × (e ≡ expr.NewArray ty dims elements sites site))
    ⊎ ((op : LibOp) × (args : Vec Expr Global) × (site : ℕ) × (e ≡ expr.Lib op args site)))))))))

pub nowhere : (p : Program) (old : List Way) (o : Owner) (e : Expr) → LeadsNowhere e → old ≡ old ++ form_ways p o (expression e)
nowhere p old o e =
    let none = leaf (form_ways p o) old (expression e) in
    ⊎_elim (λ h. none _ (ap expression h.1 ∙ view_const _) refl)
    (⊎_elim (λ h. none _ (ap expression h.1 ∙ view_str _) refl)
    (⊎_elim (λ h. none _ (ap expression h.2 ∙ view_un _ _) refl)
    (⊎_elim (λ h. none _ (ap expression h.4 ∙ view_bin _ _ _ _) refl)
    (⊎_elim (λ h. none _ (ap expression h.2 ∙ view_conv _ _) refl)
    (⊎_elim (λ h. none _ (ap expression h.3 ∙ view_cast _ _ _) refl)
    (⊎_elim (λ h. none _ (ap expression h.2 ∙ view_instance _ _) refl)
    (⊎_elim (λ h. none _ (ap expression h.5 ∙ view_new_array _ _ _ _ _) refl)
    (λ h. none _ (ap expression h.3 ∙ view_lib _ _ _) refl))))))))

-- ---- statements that print nothing, and those without an expression of their own

abbrev pub PrintsNothing : StmtForm → Type 0
PrintsNothing s = ((parts : Vec Stmt Global) × (s ≡ form.Block parts)) ⊎ (((value : Expr) × (s ≡ form.Eval value)) ⊎ (((local : ℕ) × (s ≡ form.Declare local))
    ⊎ (((test : Expr) × (main : Box Stmt Global) × (last : Option (Box Stmt Global)) × (s ≡ form.If test main last)) ⊎ (((test : Expr) × (body : Box Stmt Global) × (s ≡ form.While test body))
    ⊎ (((body : Box Stmt Global) × (test : Expr) × (s ≡ form.Do body test)) ⊎ (((inits : Vec Stmt Global) × (test : Option Expr) × (updates : Vec Stmt Global) × (body : Box Stmt Global) × (s ≡ form.For inits test updates body))
    ⊎ (((body : Box Stmt Global) × (s ≡ form.Labelled body)) ⊎ (((target : ℕ) × (s ≡ form.Jump target)) ⊎ (((value : Option Expr) × (s ≡ form.Return value)) ⊎ (((value : Expr) × (s ≡ form.Throw value))
    ⊎ ((main : Box Stmt Global) × (catches : Vec Catch Global) × (last : Option (Box Stmt Global)) × (s ≡ form.Try main catches last))))))))))))

pub prints_none : (p : Program) (old : List Way) (o : Owner) (s : StmtForm) → PrintsNothing s → old ≡ old ++ printing p o (act s)
prints_none p old o s =
    let none = leaf (printing p o) old (act s) in
    ⊎_elim (λ h. none _ (ap act h.1 ∙ view_block _) refl)
    (⊎_elim (λ h. none _ (ap act h.1 ∙ view_eval _) refl)
    (⊎_elim (λ h. none _ (ap act h.1 ∙ view_declare _) refl)
    (⊎_elim (λ h. none _ (ap act h.3 ∙ view_if _ _ _) refl)
    (⊎_elim (λ h. none _ (ap act h.2 ∙ view_while _ _) refl)
    (⊎_elim (λ h. none _ (ap act h.2 ∙ view_do _ _) refl)
    (⊎_elim (λ h. none _ (ap act h.4 ∙ view_for _ _ _ _) refl)
    (⊎_elim (λ h. none _ (ap act h.1 ∙ view_labelled _) refl)
    (⊎_elim (λ h. none _ (ap act h.1 ∙ view_jump _) refl)
    (⊎_elim (λ h. none _ (ap act h.1 ∙ view_return _) refl)
    (⊎_elim (λ h. none _ (ap act h.1 ∙ view_throw _) refl)
    (λ h. none _ (ap act h.3 ∙ view_try _ _ _) refl)))))))))))

abbrev pub HasNone : StmtForm → Type 0
HasNone s = ((parts : Vec Stmt Global) × (s ≡ form.Block parts)) ⊎ (((local : ℕ) × (s ≡ form.Declare local)) ⊎ (((body : Box Stmt Global) × (s ≡ form.Labelled body)) ⊎ (((target : ℕ) × (s ≡ form.Jump target))
    ⊎ ((main : Box Stmt Global) × (catches : Vec Catch Global) × (last : Option (Box Stmt Global)) × (s ≡ form.Try main catches last)))))

pub has_none : (old : List (Owner × plain.Expression)) (o : Owner) (s : StmtForm) → HasNone s → old ≡ old ++ act_forms o (act s)
has_none old o s =
    let none = leaf (act_forms o) old (act s) in
    ⊎_elim (λ h. none _ (ap act h.1 ∙ view_block _) refl)
    (⊎_elim (λ h. none _ (ap act h.1 ∙ view_declare _) refl)
    (⊎_elim (λ h. none _ (ap act h.1 ∙ view_labelled _) refl)
    (⊎_elim (λ h. none _ (ap act h.1 ∙ view_jump _) refl)
    (λ h. none _ (ap act h.3 ∙ view_try _ _ _) refl))))

pub flows_none : (o : Owner) → Leaves (flow o)
flows_none o = record { eval = λ _. refl; declare = λ _. refl; jump = λ _. refl; return_ = λ _. refl; throw = λ _. refl; print = λ _ _ _ _. refl }

-- ---- rows

abbrev pub of_catch : Owner → Catch → List Way
of_catch o c = to_catch o c.site (statement c.block)

pub of_catches : (o : Owner) (clauses : List Catch) → flat_map (of_catch o) clauses ≡ to_catches o (clauses_of (map clause clauses))
of_catches o [] = refl
of_catches o (c ∷ rest) = ap (λ l. of_catch o c ++ l) (of_catches o rest) ∙ sym (ap (to_catches o) (view_clause c (clauses_of (map clause rest))))

abbrev pub ordered : LinkKind → Owner → List Stmt → List Way
ordered k o parts = in_order k o (statements_of (map statement parts))

-- a row goes on behind its first statement
pub order_goes_on : (total out mid : List Way) (k : LinkKind) (o p : Owner) (parts : List Stmt) (i : ℕ) (s : Stmt) → i < length parts → s ≡ get_or parts i s
    → out ++ ordered k o (drop i parts) ≡ total → mid ≡ out ++ to k o (statement s) → p ≡ owner_of (statement s) → mid ++ ordered kind.Next p (drop (i + 1) parts) ≡ total
order_goes_on total out mid k o p parts i s lt is so_far e own =
    let split : drop i parts ≡ s ∷ drop (suc i) parts = drop-cons parts i s lt ∙ ap (λ y. y ∷ drop (suc i) parts) (sym is) in
    ap (λ j. mid ++ ordered kind.Next p (drop j parts)) (add-one i)
    ∙ ap (λ q. mid ++ ordered kind.Next q (drop (suc i) parts)) own
    ∙ ap (λ (l : List Way). l ++ ordered kind.Next (owner_of (statement s)) (drop (suc i) parts)) e
    ∙ append_assoc out (to k o (statement s)) (ordered kind.Next (owner_of (statement s)) (drop (suc i) parts))
    ∙ ap (λ l. out ++ ordered k o l) (sym split)
    ∙ so_far

pub order_ends : (total out : List Way) (k : LinkKind) (o : Owner) (parts : List Stmt) (i : ℕ) → length parts ≤ i → drop i parts ≡ [] → out ++ ordered k o (drop i parts) ≡ total → out ≡ total
order_ends total out k o parts i le is e = sym (append-nil out) ∙ ap (λ l. out ++ ordered k o l) (sym is) ∙ e

-- ---- a statement

pub statement_goes : {U E : Type 0} (p : Program) (r : Result U E) (s : Stmt) (o : Owner) (forms_found : List (Owner × plain.Expression)) (old first second new : List Way) → o ≡ owner_of (statement s)
    → forms_found ≡ act_forms o (act s.form) → first ≡ old ++ flow o (act s.form) → second ≡ first ++ printing p o (act s.form)
    → OnOk r (new ≡ second ++ flat_map (owned_ways p) forms_found) → OnOk r (new ≡ old ++ statement_ways p (statement s))
statement_goes p r s o found old first second new own are e f g =
    let q : Owner = owner_of (plain.Stmt s.number s.site s.askable s.reach (act s.form)) in
    let same : o ≡ q = own ∙ ap owner_of (view_statement s) in
    let a : List Way = flow o (act s.form) in
    let b : List Way = printing p o (act s.form) in
    let c : List Way = flat_map (owned_ways p) found in
    let whole : a ++ (b ++ c) ≡ statement_ways p (statement s) =
    ap (λ l. a ++ (b ++ flat_map (owned_ways p) l)) are
    ∙ ap (λ x. flow x (act s.form) ++ (printing p x (act s.form) ++ flat_map (owned_ways p) (act_forms x (act s.form)))) same
    ∙ sym (ap (statement_ways p) (view_statement s)) in
    at (λ (l : List Way). l) r old new (statement_ways p (statement s)) (a ++ (b ++ c)) (sym whole)
    (behind_on r old first new a (b ++ c) e (behind_on r first second new b c f g))
