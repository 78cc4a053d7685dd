-- Whole bodies, by their headers.
use Rattle.std.proofs.Common.{arith, ◌≡◌, ℕ, ◌+◌, ◌<◌, ◌≤◌, Bool, true, false, refl, sym, ◌∙◌, ap, subst, List, [], ◌∷◌, ◌++◌, length, Option, Some, None, Result, Ok, Err, append_assoc}
use Rattle.std.specs.List.{All}
use Rattle.std.proofs.lemmas.List.Elements.{All-nil, All-cons}
use Rattle.wy_kernel.specs.declared.types.Base.{Base}
use Rattle.wy_kernel.specs.declared.types.Base.TheVariants.{Primitive as Basic, Class as Named}
use Rattle.wy_kernel.specs.declared.types.Ty.{Ty}
use Rattle.wy_kernel.specs.declared.types.Ty.TheVariants.{Void, Of}
use Rattle.wy_kernel.specs.Form as kernel
use Rattle.wy_kernel.specs.Program.{Program}
use Rattle.wy_kernel.specs.Subtyping.{class_type}
use Rattle.wy_kernel.specs.Table.{Table, BeginsWith, ConstantValue}
use Rattle.wy_syntax.specs.Syntax.{WrittenType, Parameter, Header, Braced, Statements, OwnCall, ClassSyntax}
use Rattle.wy_syntax.specs.Syntax as source
use Rattle.wy_constant.specs.Refusal.{Refusal}
use Rattle.wy_constant.specs.Scope.{Variable, FixedText, denoted, declared_as}
use Rattle.wy_constant.specs.Fields.{class_named}
use Rattle.wy_elab_expr.specs.Operators.{Judgement}
use Rattle.wy_elab_expr.specs.Elaboration.{type_written, type_with, named_type, with_brackets}
use Rattle.wy_elab_body.specs.declared.place.Place.{Place}
use Rattle.wy_elab_body.specs.Places.{block_places}
use Rattle.wy_elab_body.specs.Making.{Making, Makes, give, onward, ◌>>=◌, expressed, declaring, local, after_scope, this_local, begun, with_texts}
use Rattle.wy_elab_body.specs.Parts.{Outcome, NoValue, ValueOf}
use Rattle.wy_elab_body.specs.Jumps.{alone}
use Rattle.wy_elab_body.specs.Statements.{Setting, number, block}
use Rattle.wy_elab_body.specs.Bodies.{body_of, declared_type, parameter, parameters, outcome_of, brace_of, method_block}
use Rattle.wy_typing.specs.Types.{IsValueType}
use Rattle.wy_typing.specs.Programs.{IsTypeIn, IsBody}
use Rattle.law_typed.specs.ExpressionsTyped.{table_of}
use Rattle.law_typed.specs.StatementsTyped.{setting, Makes as MakesProgram, types, result_of, OutcomeFits, AreAmong}
use Rattle.law_typed.specs.Bodies.{BaseDenotes, Denotes, ParamsDenote, ResultDenotes, this_of, FitsHeader, MethodsAreTyped}
use Rattle.law_typed.specs.StatementsWritten.{BlockWritten}
use Rattle.law_typed.proofs.Steps as steps
use Rattle.law_typed.proofs.Steps.{Sure, types_behind}
use Rattle.law_typed.proofs.Stating as stating
use Rattle.law_typed.proofs.Blocking.{begun_inv, at_end, grown_at_end}

-- what was made last, and what was made before it
pub made_on : {A B : Type 0} (k : A → Makes B) (r : Result (A × Making) Refusal) (z : B × Making) → onward k r ≡ Ok z → (q : A × Making) × (r ≡ Ok q) × (k q.0 q.1 ≡ Ok z)
made_on k (Ok q) z e = (q, refl, e)
made_on k (Err x) z e = absurd (cc)

one_made : {A : Type 0} (a b : A × Making) (r : Result (A × Making) Refusal) → r ≡ Ok a → r ≡ Ok b → a ≡ b
one_made a b r e f = cc

none_made : {A P : Type 0} (x : Refusal) (b : A × Making) (r : Result (A × Making) Refusal) → r ≡ Err x → r ≡ Ok b → P
none_made x b r e f = absurd (cc)

types_of_this : (has_this : Bool) (c site : ℕ) → types (this_local has_this c site) ≡ this_of has_this c
types_of_this true c site = refl
types_of_this false c site = refl

module _ (p : Program) (constants : List (Option ConstantValue)) (j : Judgement) (all : List Place) (made : MakesProgram p constants j all) where
  abbrev T : Table
  T = table_of p constants

  abbrev w : Setting
  w = setting p constants j all

  -- ---- written types

  abbrev IsDeclared : WrittenType → ℕ → Making → Ty × Making → Type 0
  IsDeclared ty more m q = Denotes p.classes ty more q.0 × (q.1 ≡ m)

  class_declared : (name : List ℕ) (o : Option ℕ) (brackets more token : ℕ) (m : Making) (q : Ty × Making) → class_named p.classes name ≡ o →
      (expressed (λ s. named_type o brackets token) >>= λ x. give (with_brackets x more)) m ≡ Ok q → ((b : Base) × BaseDenotes p.classes (source.Class name) b × (q.0 ≡ Of b (brackets + more))) × (q.1 ≡ m)
  unfolding expressed
  class_declared name (Some c) brackets more token m q is e =
      let same = one_made (Of (Named c) (brackets + more), m) q _ refl e in
      ((Named c, (c, is, refl), sym (ap (λ (z : Ty × Making). z.0) same)), sym (ap (λ (z : Ty × Making). z.1) same))
  class_declared name None brackets more token m q is e = none_made _ q _ refl e

  base_declared : (base : source.Base) (brackets more token : ℕ) (m : Making) (q : Ty × Making) →
      (expressed (λ s. type_with T base brackets token) >>= λ x. give (with_brackets x more)) m ≡ Ok q → ((b : Base) × BaseDenotes p.classes base b × (q.0 ≡ Of b (brackets + more))) × (q.1 ≡ m)
  unfolding expressed
  base_declared (source.Basic k) brackets more token m q e =
      let same = one_made (Of (Basic k) (brackets + more), m) q _ refl e in
      ((Basic k, refl, sym (ap (λ (z : Ty × Making). z.0) same)), sym (ap (λ (z : Ty × Making). z.1) same))
  base_declared (source.Class name) brackets more token m q e = class_declared name (class_named p.classes name) brackets more token m q refl e

  pub type_declared : (ty : WrittenType) (more : ℕ) (m : Making) (q : Ty × Making) → declared_type w ty more m ≡ Ok q → IsDeclared ty more m q
  unfolding type_written
  type_declared ty more m q e = base_declared ty.base ty.brackets more ty.token m q e

  -- ---- parameters

  abbrev Behind : List Parameter → Making → Making → Type 0
  Behind ps m after = (tys : List Ty) × ParamsDenote p.classes ps tys × (types after.locals ≡ types m.locals ++ tys)

  local_behind : (m : Making) (name : List ℕ) (site : ℕ) (ty : Ty) (o : Option Variable) (q : ℕ × Making) → after_scope m (local name site ty) (declared_as o m.scope name ty false None site) ≡ Ok q → types q.1.locals ≡ types m.locals ++ ty ∷ []
  local_behind m name site ty None q e = ap (λ (z : ℕ × Making). types z.1.locals) (sym (one_made _ q _ refl e)) ∙ types_behind m.locals (local name site ty)
  local_behind m name site ty (Some v) q e = none_made _ q _ refl e

  declaring_behind : (q : Parameter) (ty : Ty) (m : Making) (z : ℕ × Making) → declaring q.name ty false m ≡ Ok z → types z.1.locals ≡ types m.locals ++ ty ∷ []
  unfolding declaring
  declaring_behind q ty m z e = local_behind m q.name.name q.name.token ty (denoted m.scope q.name.name) z e

  one_behind : (q : Parameter) (m : Making) (z : ℕ × Making) → parameter w q m ≡ Ok z → (ty : Ty) × Denotes p.classes q.ty q.brackets ty × (types z.1.locals ≡ types m.locals ++ ty ∷ [])
  one_behind q m z e =
      let a = made_on (λ ty. declaring q.name ty false) (declared_type w q.ty q.brackets m) z e in
      let d = type_declared q.ty q.brackets m a.0 a.1 in
      (a.0.0, d.0, declaring_behind q a.0.0 a.0.1 z a.2 ∙ ap (λ (x : Making). types x.locals ++ a.0.0 ∷ []) d.1)

  pub all_behind : (ps : List Parameter) (m : Making) (z : Unit {0} × Making) → parameters w ps m ≡ Ok z → Behind ps m z.1
  unfolding parameters
  all_behind [] m z e = ([], tt, ap (λ (x : Unit {0} × Making). types x.1.locals) (sym (one_made (tt, m) z _ refl e)) ∙ sym (steps.with_none (types m.locals)))
  all_behind (q ∷ qs) m z e =
      let a = made_on (λ k. parameters w qs) (parameter w q m) z e in
      let one = one_behind q m a.0 a.1 in let rest = all_behind qs a.0.1 z a.2 in
      (one.0 ∷ rest.0, (one.1, rest.1), rest.2 ∙ ap (λ l. l ++ rest.0) one.2 ∙ append_assoc (types m.locals) (one.0 ∷ []) rest.0)

  -- ---- what is kept up to the block

  module _ (L : List Ty) (c : ℕ) (has_this : Bool) where
    abbrev Keeps : Making → Type 0
    Keeps m = steps.Inv p constants j L c has_this m

    pub kept_by : {A : Type 0} (R : A → Type 0) (f : Makes A) (m : Making) (z : A × Making) → Sure p constants j L c has_this Unit R Unit (λ y. Unit {0}) f → Keeps m → f m ≡ Ok z → Keeps z.1
    kept_by R f m z h i e = let P : Result _ Refusal → Type 0 = λ r. steps.After p constants j L c has_this R m r in (subst P e (h.keeps tt m i)).0

    pub declared_sure : {K H : Type 0} (ty : WrittenType) (more : ℕ) → Sure p constants j L c has_this K (IsTypeIn p) H (λ y. Unit {0}) (declared_type w ty more)
    declared_sure ty more =
        steps.next p constants j L c has_this (IsTypeIn p) (λ y. Unit {0}) (expressed (λ s. type_written T ty)) (λ x. give (with_brackets x more)) (stating.type_sure p constants j all L c has_this NoValue made tt ty)
        (λ x. steps.given p constants j L c has_this (with_brackets x more) (λ y. stating.with_more p x more y.1) (λ y h. tt))

    parameter_sure : {K H : Type 0} (q : Parameter) → Sure p constants j L c has_this K (λ y. Unit {0}) H (λ y. Unit {0}) (parameter w q)
    parameter_sure q =
        steps.next p constants j L c has_this (IsTypeIn p) (λ y. Unit {0}) (declared_type w q.ty q.brackets) (λ ty. declaring q.name ty false) (declared_sure q.ty q.brackets)
        (λ ty. stating.no_finding p constants j all L c has_this NoValue made tt (declaring q.name ty false) (steps.declaring_sure p constants j L c has_this q.name ty false (λ y. y.1)))

    pub parameters_sure : {K H : Type 0} (qs : List Parameter) → Sure p constants j L c has_this K (λ y. Unit {0}) H (λ y. Unit {0}) (parameters w qs)
    unfolding parameters
    parameters_sure [] = steps.given p constants j L c has_this tt (λ y. tt) (λ y h. tt)
    parameters_sure (q ∷ qs) =
        steps.next p constants j L c has_this (λ y. Unit {0}) (λ y. Unit {0}) (parameter w q) (λ k. parameters w qs) (parameter_sure q) (λ k. parameters_sure qs)

  -- ---- methods

  abbrev IsOutcome : Option WrittenType → Making → Outcome × Making → Type 0
  IsOutcome result m q = (out : Ty) × ResultDenotes p.classes result out × OutcomeFits q.0 × (result_of q.0 ≡ Some out) × (q.1 ≡ m)

  outcome_made : (result : Option WrittenType) (m : Making) (q : Outcome × Making) → outcome_of w result m ≡ Ok q → IsOutcome result m q
  outcome_made None m q e =
      let same = one_made (NoValue, m) q _ refl e in
      let P : Outcome × Making → Type 0 = λ z. IsOutcome None m z in subst P same (Void, refl, tt, refl, refl)
  outcome_made (Some ty) m q e =
      let a = made_on (λ t. give (ValueOf t)) (declared_type w ty 0 m) q e in
      let d = type_declared ty 0 m a.0 a.1 in
      let same = one_made (ValueOf a.0.0, a.0.1) q _ refl a.2 in
      let P : Outcome × Making → Type 0 = λ z. IsOutcome (Some ty) m z in subst P same (a.0.0, d.0, value_written a.0.0 d.0, refl, d.1)
    where
      value_written : (x : Ty) → Denotes p.classes ty 0 x → IsValueType x
      value_written x h = subst IsValueType (sym h.2) tt

  this_known : (c : ℕ) (has_this : Bool) (site : ℕ) → c < length p.classes → All (IsTypeIn p) (types (this_local has_this c site))
  this_known c true site lt = All-cons (IsTypeIn p) (class_type c) [] (record { variable = tt; known = lt }) (All-nil (IsTypeIn p))
  this_known c false site lt = All-nil (IsTypeIn p)

  pub begun_known : (c : ℕ) (has_this : Bool) (site : ℕ) → c < length p.classes → All (IsTypeIn p) (types (begun c has_this site).locals)
  unfolding begun
  begun_known c has_this site lt = this_known c has_this site lt

  pub begun_types : (c : ℕ) (has_this : Bool) (site : ℕ) (texts : List FixedText) → types (with_texts (begun c has_this site) texts).locals ≡ this_of has_this c
  unfolding begun
  begun_types c has_this site texts = types_of_this has_this c site

  pub begins_with : (l xs ys zs : List Ty) → BeginsWith l xs → xs ≡ ys ++ zs → BeginsWith l (ys ++ zs)
  begins_with l xs ys zs h e = (h.0, h.1 ∙ ap (λ (k : List Ty). k ++ h.0) e)

  pub method_typed : (c : ℕ) (has_this : Bool) (site : ℕ) (h : Header) (result : Option WrittenType) (b : Braced) (texts : List FixedText) (x : kernel.Statement) (after : Making) (end : ℕ) → c < length p.classes → BlockWritten b → AreAmong all (block_places b) →
      method_block w h result b (with_texts (begun c has_this site) texts) ≡ Ok (x, after) → length after.texts ≤ length p.fixed_texts → FitsHeader p has_this c h result (body_of x after end)
  unfolding method_block
  method_typed c has_this site h result b texts x after end lt ok places e fit =
      let m : Making = with_texts (begun c has_this site) texts in
      let a = made_on (λ o. parameters w h.params >>= λ ps. block w (alone (number w (brace_of b)) o) b) (outcome_of w result m) (x, after) e in
      let o = outcome_made result m a.0 a.1 in
      let d = made_on (λ ps. block w (alone (number w (brace_of b)) a.0.0) b) (parameters w h.params a.0.1) (x, after) a.2 in
      let ps = all_behind h.params a.0.1 d.0 d.1 in
      let kept : (L : List Ty) → Keeps L c has_this m = λ L. begun_inv p constants j L c has_this site texts (begun_known c has_this site lt) in
      let moved : (L : List Ty) → Keeps L c has_this a.0.1 = λ L. (let P : Making → Type 0 = λ y. Keeps L c has_this y in subst P (sym o.4) (kept L)) in
      let at : (L : List Ty) → Keeps L c has_this d.0.1 = λ L. kept_by L c has_this (λ y. Unit {0}) (parameters w h.params) a.0.1 d.0 (parameters_sure L c has_this h.params) (moved L) d.1 in
      let made_block = at_end p constants j c has_this (λ L. stating.TypedIn p constants j all L c has_this a.0.0 made o.2) (block w (alone (number w (brace_of b)) a.0.0) b) d.0.1 after x
      (λ L. stating.blocked p constants j all L c has_this a.0.0 made o.2 (alone (number w (brace_of b)) a.0.0) b (stating.alone_fits p constants j all L c has_this a.0.0 made o.2 (number w (brace_of b))) places ok)
      at d.2 fit in
      let first : types d.0.1.locals ≡ this_of has_this c ++ ps.0 = ps.2 ∙ ap (λ (y : Making). types y.locals ++ ps.0) o.4 ∙ ap (λ (l : List Ty). l ++ ps.0) (begun_types c has_this site texts) in
      let P : Option Ty → Type 0 = λ r. IsBody p (this_of has_this c ++ ps.0) r (body_of x after end) in
      (ps.0, o.0, ps.1, o.1, subst P o.3 (record { locals = made_block.1; begins = begins_with (types after.locals) (types d.0.1.locals) (this_of has_this c) ps.0 made_block.2 first; block = made_block.0 }))

  pub method_grown : (c : ℕ) (has_this : Bool) (site : ℕ) (h : Header) (result : Option WrittenType) (b : Braced) (texts : List FixedText) (x : kernel.Statement) (after : Making) → c < length p.classes → BlockWritten b → AreAmong all (block_places b) →
      method_block w h result b (with_texts (begun c has_this site) texts) ≡ Ok (x, after) → length texts ≤ length after.texts
  unfolding method_block
  method_grown c has_this site h result b texts x after lt ok places e =
      let m : Making = with_texts (begun c has_this site) texts in
      let a = made_on (λ o. parameters w h.params >>= λ ps. block w (alone (number w (brace_of b)) o) b) (outcome_of w result m) (x, after) e in
      let o = outcome_made result m a.0 a.1 in
      let d = made_on (λ ps. block w (alone (number w (brace_of b)) a.0.0) b) (parameters w h.params a.0.1) (x, after) a.2 in
      let kept : (L : List Ty) → Keeps L c has_this m = λ L. begun_inv p constants j L c has_this site texts (begun_known c has_this site lt) in
      let moved : (L : List Ty) → Keeps L c has_this a.0.1 = λ L. (let P : Making → Type 0 = λ y. Keeps L c has_this y in subst P (sym o.4) (kept L)) in
      let at : (L : List Ty) → Keeps L c has_this d.0.1 = λ L. kept_by L c has_this (λ y. Unit {0}) (parameters w h.params) a.0.1 d.0 (parameters_sure L c has_this h.params) (moved L) d.1 in
      let in_params = grown_at_end p constants j c has_this (λ L y. Unit {0}) (parameters w h.params) a.0.1 d.0.1 d.0.0 (λ L. parameters_sure L c has_this h.params) moved d.1 in
      let in_block' = grown_at_end p constants j c has_this (λ L. stating.TypedIn p constants j all L c has_this a.0.0 made o.2) (block w (alone (number w (brace_of b)) a.0.0) b) d.0.1 after x
      (λ L. stating.blocked p constants j all L c has_this a.0.0 made o.2 (alone (number w (brace_of b)) a.0.0) b (stating.alone_fits p constants j all L c has_this a.0.0 made o.2 (number w (brace_of b))) places ok)
      at d.2 in
      let start = ap (λ (y : Making). length y.texts) o.4 in
      omega (arith, in_params, in_block', start)

pub methods_are_typed : MethodsAreTyped
methods_are_typed p constants j all c has_this site h result b texts x after end made lt ok places e fit =
    method_typed p constants j all made c has_this site h result b texts x after end lt ok places e fit
