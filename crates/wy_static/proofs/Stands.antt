-- In what statements, arms and clauses stand, one after another.
use Rattle.std.proofs.Common.{◌≡◌, ℕ, Bool, refl, sym, ap, ◌∙◌, ⊎_elim, ◌⊎◌, List, [], ◌++◌, ◌∷◌, map, Option, Result, OnOk}
use Rattle.std.specs.List.{flat_map}
use Rattle.std.specs.declared.alloc.Global.{Global}
use Rattle.std.specs.declared.boxed.Box.{Box}
use Rattle.std.specs.declared.vec.Vec.{Vec}
use Rattle.wy_kernel.specs.declared.operator.Primitive.{Primitive}
use Rattle.wy_kernel.specs.declared.operator.UnOp.{UnOp}
use Rattle.wy_kernel.specs.declared.operator.BinOp.{BinOp}
use Rattle.wy_kernel.specs.declared.types.Ty.{Ty}
use Rattle.wy_kernel.specs.declared.form.CallForm.{CallForm}
use Rattle.wy_kernel.specs.declared.form.LibOp.{LibOp}
use Rattle.wy_kernel.specs.declared.form.Const.{Const}
use Rattle.wy_kernel.specs.declared.form.Expr.{Expr}
use Rattle.wy_kernel.specs.declared.form.Expr.TheVariants as expr
use Rattle.wy_kernel.specs.declared.form.Place.{Place}
use Rattle.wy_kernel.specs.declared.form.Stmt.{Stmt}
use Rattle.wy_kernel.specs.declared.form.StmtForm.{StmtForm}
use Rattle.wy_kernel.specs.declared.form.StmtForm.TheVariants as form
use Rattle.wy_kernel.specs.declared.form.Catch.{Catch}
use Rattle.wy_kernel.specs.Form as plain
use Rattle.wy_kernel.specs.View.{NONE, act, clause, clauses_of, expression, statement}
use Rattle.wy_kernel.proofs.Views.{view_statement, view_clause, view_block, view_eval, view_declare, view_if, view_while, view_do, view_for, view_labelled, view_jump, view_return, view_throw, view_print}
use Rattle.wy_static.specs.declared.point.Point.TheVariants as point
use Rattle.wy_static.specs.declared.way.Owner.{Owner}
use Rattle.wy_static.specs.declared.standing.Standing.{Standing}
use Rattle.wy_static.specs.Ways.{act_forms, owner_of}
use Rattle.wy_static.specs.Standings.{arm_standings, catch_standings, form_standings, standing, standings_in, try_standings}
use Rattle.wy_static.proofs.Behind.{at, behind_on, leaf}
use Rattle.wy_kernel.proofs.ExpressionViews.{view_const, view_str, view_read, view_set, view_upd, view_un, view_bin, view_conv, view_cast, view_instance, view_new, view_new_array, view_call, view_cat, view_lib}

-- a form without arms
abbrev pub HasNoArm : Expr → Type 0
HasNoArm e = ((value : Const) × (e ≡ expr.Const value)) ⊎ (((text : ℕ) × (e ≡ expr.Str text)) ⊎ (((place : Place) × (e ≡ expr.Read place)) ⊎ (((place : Place) × (value : Box Expr Global) × (site : ℕ) × (e ≡ expr.Set place value site))
    ⊎ (((place : Place) × (op : BinOp) × (value : Option (Box Expr Global)) × (value_ty : Ty) × (ty : Ty) × (wide : Option Primitive) × (gives_old : Bool) × (site : ℕ) × (e ≡ expr.Upd place op value value_ty ty wide gives_old site))
    ⊎ (((op : UnOp) × (operand : Box Expr Global) × (e ≡ expr.Un op operand)) ⊎ (((op : BinOp) × (left : Box Expr Global) × (right : Box Expr Global) × (site : ℕ) × (e ≡ expr.Bin op left right site))
    ⊎ (((to : Primitive) × (operand : Box Expr Global) × (e ≡ expr.Conv to operand)) ⊎ (((ty : Ty) × (operand : Box Expr Global) × (site : ℕ) × (e ≡ expr.Cast ty operand site)) ⊎ (((ty : Ty) × (operand : Box Expr Global) × (e ≡ expr.InstanceOf ty operand))
    ⊎ (((class : ℕ) × (constructor : ℕ) × (args : Vec Expr Global) × (site : ℕ) × (e ≡ expr.New class constructor args site)) ⊎ (((ty : Ty) × (dims : Vec Expr Global) × (elements : Vec Expr Global) × (sites : Vec ℕ Global) × (site : ℕ) × (e ≡ expr.NewArray ty dims elements sites site))
    ⊎ (((kind : CallForm) × (method : ℕ) × (receiver : Option (Box Expr Global)) × (ty : Ty) × (args : Vec Expr Global) × (site : ℕ) × (e ≡ expr.Call kind method receiver ty args site))
    ⊎ (((left : Box Expr Global) × (right : Box Expr Global) × (left_ty : Ty) × (right_ty : Ty) × (site : ℕ) × (e ≡ expr.Cat left right left_ty right_ty site)) ⊎ ((op : LibOp) × (args : Vec Expr Global) × (site : ℕ) × (e ≡ expr.Lib op args site)))))))))))))))

pub no_arm : (m n : ℕ) (old : List Standing) (e : Expr) → HasNoArm e → old ≡ old ++ form_standings m n (expression e)
no_arm m n old e =
    let none = leaf (form_standings m n) old (expression e) in
    ⊎_elim (λ h. none _ (ap expression h.1 ∙ view_const _) refl)
    (⊎_elim (λ h. none _ (ap expression h.1 ∙ view_str _) refl)
    (⊎_elim (λ h. none _ (ap expression h.1 ∙ view_read _) refl)
    (⊎_elim (λ h. none _ (ap expression h.3 ∙ view_set _ _ _) refl)
    (⊎_elim (λ h. none _ (ap expression h.8 ∙ view_upd _ _ _ _ _ _ _ _) refl)
    (⊎_elim (λ h. none _ (ap expression h.2 ∙ view_un _ _) refl)
    (⊎_elim (λ h. none _ (ap expression h.4 ∙ view_bin _ _ _ _) refl)
    (⊎_elim (λ h. none _ (ap expression h.2 ∙ view_conv _ _) refl)
    (⊎_elim (λ h. none _ (ap expression h.3 ∙ view_cast _ _ _) refl)
    (⊎_elim (λ h. none _ (ap expression h.2 ∙ view_instance _ _) refl)
    (⊎_elim (λ h. none _ (ap expression h.4 ∙ view_new _ _ _ _) refl)
    (⊎_elim (λ h. none _ (ap expression h.5 ∙ view_new_array _ _ _ _ _) refl)
    (⊎_elim (λ h. none _ (ap expression h.6 ∙ view_call _ _ _ _ _ _) refl)
    (⊎_elim (λ h. none _ (ap expression h.5 ∙ view_cat _ _ _ _ _) refl)
    (λ h. none _ (ap expression h.3 ∙ view_lib _ _ _) refl))))))))))))))

-- every statement but a `try`
abbrev pub HasNoClause : StmtForm → Type 0
HasNoClause s = ((parts : Vec Stmt Global) × (s ≡ form.Block parts)) ⊎ (((value : Expr) × (s ≡ form.Eval value)) ⊎ (((local : ℕ) × (s ≡ form.Declare local))
    ⊎ (((test : Expr) × (main : Box Stmt Global) × (last : Option (Box Stmt Global)) × (s ≡ form.If test main last)) ⊎ (((test : Expr) × (body : Box Stmt Global) × (s ≡ form.While test body))
    ⊎ (((body : Box Stmt Global) × (test : Expr) × (s ≡ form.Do body test)) ⊎ (((inits : Vec Stmt Global) × (test : Option Expr) × (updates : Vec Stmt Global) × (body : Box Stmt Global) × (s ≡ form.For inits test updates body))
    ⊎ (((body : Box Stmt Global) × (s ≡ form.Labelled body)) ⊎ (((target : ℕ) × (s ≡ form.Jump target)) ⊎ (((value : Option Expr) × (s ≡ form.Return value)) ⊎ (((value : Expr) × (s ≡ form.Throw value))
    ⊎ ((operand : Option Expr) × (ty : Ty) × (ends_line : Bool) × (site : ℕ) × (s ≡ form.Print operand ty ends_line site))))))))))))

pub no_clause : (m : ℕ) (old : List Standing) (s : StmtForm) → HasNoClause s → old ≡ old ++ try_standings m (act s)
no_clause m old s =
    let none = leaf (try_standings m) old (act s) in
    ⊎_elim (λ h. none _ (ap act h.1 ∙ view_block _) refl)
    (⊎_elim (λ h. none _ (ap act h.1 ∙ view_eval _) refl)
    (⊎_elim (λ h. none _ (ap act h.1 ∙ view_declare _) refl)
    (⊎_elim (λ h. none _ (ap act h.3 ∙ view_if _ _ _) refl)
    (⊎_elim (λ h. none _ (ap act h.2 ∙ view_while _ _) refl)
    (⊎_elim (λ h. none _ (ap act h.2 ∙ view_do _ _) refl)
    (⊎_elim (λ h. none _ (ap act h.4 ∙ view_for _ _ _ _) refl)
    (⊎_elim (λ h. none _ (ap act h.1 ∙ view_labelled _) refl)
    (⊎_elim (λ h. none _ (ap act h.1 ∙ view_jump _) refl)
    (⊎_elim (λ h. none _ (ap act h.1 ∙ view_return _) refl)
    (⊎_elim (λ h. none _ (ap act h.1 ∙ view_throw _) refl)
    (λ h. none _ (ap act h.4 ∙ view_print _ _ _ _) refl)))))))))))

abbrev pub of_clause : ℕ → Catch → List Standing
of_clause m c = standing m NONE (point.Catch c.site) ∷ []

pub of_clauses : (m : ℕ) (clauses : List Catch) → flat_map (of_clause m) clauses ≡ catch_standings m (clauses_of (map clause clauses))
of_clauses m [] = refl
of_clauses m (c ∷ rest) = ap (λ l. of_clause m c ++ l) (of_clauses m rest) ∙ sym (ap (catch_standings m) (view_clause c (clauses_of (map clause rest))))

pub statement_stands : {U E : Type 0} (m : ℕ) (r : Result U E) (s : Stmt) (o : Owner) (found : List (Owner × plain.Expression)) (old first second new : List Standing) → o ≡ owner_of (statement s)
    → found ≡ act_forms o (act s.form) → first ≡ old ++ standing m s.number (point.Statement s.number) ∷ [] → second ≡ first ++ flat_map (arm_standings m s.number) found
    → OnOk r (new ≡ second ++ try_standings m (act s.form)) → OnOk r (new ≡ old ++ standings_in m (statement s))
statement_stands m r s o found old first second new own are e f g =
    let own_place : List Standing = standing m s.number (point.Statement s.number) ∷ [] in
    let arms : List Standing = flat_map (arm_standings m s.number) found in
    let clauses : List Standing = try_standings m (act s.form) in
    let whole : own_place ++ (arms ++ clauses) ≡ standings_in m (statement s) =
    ap (λ l. own_place ++ (flat_map (arm_standings m s.number) l ++ clauses)) are
    ∙ ap (λ x. own_place ++ (flat_map (arm_standings m s.number) (act_forms x (act s.form)) ++ clauses)) (own ∙ ap owner_of (view_statement s))
    ∙ sym (ap (standings_in m) (view_statement s)) in
    at (λ (l : List Standing). l) r old new (standings_in m (statement s)) (own_place ++ (arms ++ clauses)) (sym whole)
    (behind_on r old first new own_place (arms ++ clauses) e (behind_on r first second new arms clauses f g))
