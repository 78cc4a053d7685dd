-- The calls that begin a constructor, and whole constructors.
use Rattle.std.proofs.Common.{◌≡◌, ℕ, zero, suc, ◌<◌, ◌≤◌, ◌==◌, Bool, true, false, refl, sym, ◌∙◌, ap, subst, List, [], ◌∷◌, ◌++◌, length, Option, Some, None, Result, Ok, Err, arith, inl, inr, if◌then◌else◌}
use Rattle.std.specs.Prelude.{slice_get}
use Rattle.std.specs.List.{AllByRecursion, Contains, position_from}
use Rattle.std.proofs.lemmas.Bool.{eqb-true}
use Rattle.wy_kernel.specs.declared.types.Ty.{Ty}
use Rattle.wy_kernel.specs.declared.types.Ty.TheVariants.{Void, Null}
use Rattle.wy_kernel.specs.declared.types.MethodForm.{MethodForm}
use Rattle.wy_kernel.specs.declared.types.MethodForm.TheVariants as kind
use Rattle.wy_kernel.specs.Form as kernel
use Rattle.wy_kernel.specs.Program.{Program, Method}
use Rattle.wy_kernel.specs.Subtyping.{Below, same, to_object, class_type}
use Rattle.wy_kernel.specs.Table.{Table, ConstantValue}
use Rattle.wy_syntax.specs.Syntax.{Header, Statements, OwnCall, ClassSyntax}
use Rattle.wy_constant.specs.Refusal.{Refusal}
use Rattle.wy_constant.specs.Scope.{Scope, FixedText}
use Rattle.wy_constant.specs.Fields.{superclass}
use Rattle.wy_elab_expr.specs.Operators.{Judgement}
use Rattle.wy_elab_expr.specs.Members.{this_form}
use Rattle.wy_elab_body.specs.declared.place.Place.{Place}
use Rattle.wy_elab_body.specs.declared.place.Role.{Role}
use Rattle.wy_elab_body.specs.declared.place.Role.TheVariants.{ConstructorBody, SuperCall, FieldsCall, Written}
use Rattle.wy_elab_body.specs.Places.{at, written, all_places, calls_superclass, has_fields_unit, place_if}
use Rattle.wy_elab_body.specs.Places as standing
use Rattle.wy_elab_body.specs.Making.{Making, Makes, give, ◌>>=◌, expressed, begun, with_texts}
use Rattle.wy_elab_body.specs.Parts.{NoValue, constructor_called, constructor_call, object_called, constructor_form}
use Rattle.wy_elab_body.specs.Jumps.{alone, inside}
use Rattle.wy_elab_body.specs.Statements.{Setting, number, plain, statements, joined, row_of}
use Rattle.wy_elab_body.specs.Bodies.{implied, body_of, parameters, or_object, superclass_of, implied_super_call, is_unit, is_fields_unit, fields_call, implied_fields_call, own_call, no_call, written_super_call, first_calls, constructor_block, implied_constructor_block}
use Rattle.wy_typing.specs.Expressions as typing
use Rattle.wy_typing.specs.Expressions.{HasType, IsMethod}
use Rattle.wy_typing.specs.Statements.{Within, IsTyped, Acts, AllTyped}
use Rattle.wy_typing.specs.Programs.{IsBody}
use Rattle.law_typed.specs.ExpressionsTyped.{table_of}
use Rattle.law_typed.specs.ExpressionsWritten.{AreWritten}
use Rattle.law_typed.proofs.Bringing.{both_true, none_of}
use Rattle.law_typed.proofs.Finding.{found_at, superclass_below}
use Rattle.law_typed.proofs.Sequence as found
use Rattle.law_typed.specs.StatementsTyped.{setting, Makes as MakesProgram, types, AreAmong}
use Rattle.law_typed.specs.Bodies.{this_of, FitsHeader, CallWritten, ConstructorsAreTyped, ImpliedConstructorsAreTyped}
use Rattle.law_typed.specs.StatementsWritten.{AllWritten}
use Rattle.law_typed.proofs.Steps as steps
use Rattle.law_typed.proofs.Steps.{Sure}
use Rattle.law_typed.proofs.Numbers.{number_below}
use Rattle.law_typed.proofs.Parting as parts
use Rattle.law_typed.proofs.Stating as stating
use Rattle.law_typed.proofs.Blocking.{begun_inv, at_end, grown_at_end}
use Rattle.law_typed.proofs.Embodying as whole

no_row : {X : Type 0} (xs : List X) (c : ℕ) → slice_get xs c ≡ None → length xs ≤ c
no_row [] c e = omega arith
no_row (x ∷ xs) zero e = let no : ⊥ = cc in absurd no
no_row (x ∷ xs) (suc c) e = let i : length xs ≤ c = no_row xs c e in omega arith

pub all_joined : {X : Type 0} (P : X → Type 0) (xs ys : List X) → AllByRecursion P xs → AllByRecursion P ys → AllByRecursion P (xs ++ ys)
all_joined P [] ys h k = k
all_joined P (x ∷ xs) ys h k = (h.0, all_joined P xs ys h.1 k)

place_there : (all : List Place) (b : Bool) (site : ℕ) (role : Role) → b ≡ true → AreAmong all (place_if b site role) → Contains all (at site role)
place_there all true site role e h = h.0
place_there all false site role e h = absurd (cc)

unit_form : (f : MethodForm) → is_unit f ≡ true → f ≡ kind.Fields
unit_form kind.Fields e = refl
unit_form kind.Static e = none_of e
unit_form kind.Instance e = none_of e
unit_form kind.Constructor e = none_of e

module _ (p : Program) (constants : List (Option ConstantValue)) (j : Judgement) (all : List Place) (c : ℕ) (made : MakesProgram p constants j all) where
  abbrev T : Table
  T = table_of p constants

  abbrev w : Setting
  w = setting p constants j all

  module _ (L : List Ty) where
    abbrev W : Within
    W = stating.W p constants j all L c true NoValue made tt

    abbrev Surely : {A : Type 0} → Type 0 → (A → Type 0) → Makes A → Type 0
    Surely H Q f = Sure p constants j L c true Unit (λ y. Unit {0}) H Q f

    abbrev AllSo : List kernel.Statement → Type 0
    AllSo xs = AllByRecursion (IsTyped W) xs

    -- `this` is the first local of the body
    abbrev ThisIs : Type 0
    ThisIs = slice_get L 0 ≡ Some (class_type c)

    this_at : (m : Making) → steps.Inv p constants j L c true m → steps.Ends p constants j L c true m → ThisIs
    this_at m i e =
        let h = (steps.agrees p constants j L c true m i e).own i.with_this in
        let P : ℕ → Type 0 = λ x. slice_get L 0 ≡ Some (class_type x) in subst P i.of_class h

    this_after : {A : Type 0} (Q : A → Type 0) (m : Making) (r : Result (A × Making) Refusal) → steps.Inv p constants j L c true m → steps.After p constants j L c true (λ y. Unit {0}) m r → (ThisIs → steps.HasAt p constants j L c true Q r) → steps.HasAt p constants j L c true Q r
    this_after Q m (Ok q) i h k = λ e lt. k (this_at m i (steps.earlier p constants j L c true m q.1 h.1 e)) e lt
    this_after Q m (Err x) i h k = tt

    knowing_this : {A : Type 0} {H : Type 0} (Q : A → Type 0) (f : Makes A) → Surely (H × ThisIs) Q f → Surely H Q f
    knowing_this Q f h = record { keeps = h.keeps; grows = h.grows; finds = λ y v m i. this_after Q m (f m) i (h.keeps y m i) (λ t. h.finds y (v, t) m i) }

    implied_typed : (site : ℕ) (role : Role) (act : kernel.Act) → Contains all (at site role) → Acts W act → IsTyped W (implied w site role act)
    implied_typed site role act h k = (let lt = number_below all (at site role) h in omega (arith, lt, made.statements), inl refl, k)

    -- ---- the superclass's constructor

    above_by : (o : Option ℕ) → superclass (slice_get p.classes c) ≡ o → Below p.classes (class_type c) (class_type (or_object o))
    above_by (Some d) e = superclass_below p.classes c d e
    above_by None e = to_object tt

    above_below : Below p.classes (class_type c) (class_type (superclass_of w c))
    above_below = above_by (superclass (slice_get p.classes c)) refl

    from_here : (s : Scope) (d : ℕ) → s.class ≡ c → Below p.classes (class_type c) (class_type d) → Below p.classes (class_type s.class) (class_type d)
    from_here s d is h = let P : ℕ → Type 0 = λ x. Below p.classes (class_type x) (class_type d) in subst P (sym is) h

    abbrev HasSome : kernel.Expression → Type 0
    HasSome e = (ty : Ty) × HasType p L e ty

    super_sure : {H : Type 0} (site : ℕ) → AreAmong all (place_if (calls_superclass T c) site SuperCall) → Surely H AllSo (implied_super_call w c site)
    unfolding implied_super_call
    super_sure site places =
        steps.if_either p constants j L c true (calls_superclass T c) _ _
        (λ e. steps.next p constants j L c true (λ y. Unit {0}) HasSome (expressed (constructor_called j T (superclass_of w c) [] site)) (λ x. give (implied w site SuperCall (kernel.Eval x) ∷ []))
        (stating.part_sure p constants j all L c true NoValue made tt HasSome (constructor_called j T (superclass_of w c) [] site)
        (λ s g is t. found.under HasSome (constructor_called j T (superclass_of w c) [] site s) (λ h. (h, tt)) (parts.constructor_called_sound p constants j L s g (superclass_of w c) [] site t (from_here s (superclass_of w c) is above_below))))
        (λ x. steps.given p constants j L c true (implied w site SuperCall (kernel.Eval x) ∷ []) (λ y. tt)
        (λ y h. (implied_typed site SuperCall (kernel.Eval x) (place_there all (calls_superclass T c) site SuperCall e places) h.1, tt))))
        (λ e. steps.given p constants j L c true [] (λ y. tt) (λ y h. tt))

    -- ---- the instance initializers

    unit_typed : (k : ℕ) (m : Method) (site : ℕ) → ThisIs → IsMethod p k m → is_fields_unit c m ≡ true → HasSome (constructor_form c k kernel.none site)
    unit_typed k m site this is e =
        let h = both_true (m.class == c) _ e in
        let own : m.class ≡ c = eqb-true m.class c h.0 in
        let form = unit_form m.form h.1 in
        let P : ℕ → Type 0 = λ x. HasSome (constructor_form x k kernel.none site) in
        let Q : ℕ → Type 0 = λ x. HasType p L this_form (class_type x) in
        let R : List Ty → Type 0 = λ l. typing.GivesAll p L kernel.none l in
        subst P own (
          m.result,
          typing.begun is (inr form) (made.methods.bodies k m is (made.methods.never_abstract k m is (inl (inr form))))
              (typing.fitting (subst Q (sym own) (typing.read (typing.local this))) (inl refl)) (subst R (sym (made.methods.units k m is form)) typing.nothing),
        )

    unit_at : (k : ℕ) (o : Option Method) (site : ℕ) → ThisIs → slice_get p.methods k ≡ o → position_from (is_fields_unit c) 0 p.methods ≡ Some k → HasSome (constructor_form c k kernel.none site)
    unit_at k (Some m) site this is e = unit_typed k m site this is ((found_at (is_fields_unit c) p.methods k e).passes m is)
    unit_at k None site this is e = absurd (omega (arith, no_row p.methods k is, (found_at (is_fields_unit c) p.methods k e).inside))

    unit_called : (o : Option ℕ) (site : ℕ) → ThisIs → position_from (is_fields_unit c) 0 p.methods ≡ o → HasSome (fields_call o c site)
    unit_called (Some k) site this e = unit_at k (slice_get p.methods k) site this refl e
    unit_called None site this e = (Null, typing.constant)

    unit_by : (b : Bool) (site : ℕ) → ThisIs → AreAmong all (place_if b site FieldsCall) → AllSo (if b then implied w site FieldsCall (kernel.Eval (fields_call (position_from (is_fields_unit c) 0 p.methods) c site)) ∷ [] else [])
    unit_by true site this places = (implied_typed site FieldsCall (kernel.Eval (fields_call (position_from (is_fields_unit c) 0 p.methods) c site)) places.0 (unit_called (position_from (is_fields_unit c) 0 p.methods) site this refl), tt)
    unit_by false site this places = tt

    fields_typed : (k : ClassSyntax) (site : ℕ) → ThisIs → AreAmong all (place_if (has_fields_unit k) site FieldsCall) → AllSo (implied_fields_call w c k site)
    unfolding implied_fields_call
    fields_typed k site this places = unit_by (has_fields_unit k) site this places

    -- ---- written calls

    own_sure : {H : Type 0} (d : ℕ) (call : OwnCall) → Below p.classes (class_type c) (class_type d) → AreWritten call.args → Contains all (written call.token) → Surely H AllSo (own_call w c d call)
    unfolding own_call
    own_sure d call le ok place =
        steps.next p constants j L c true (λ y. Unit {0}) HasSome (expressed (constructor_call j T d call.args call.paren)) (λ x. give (plain w call.token true (kernel.Eval x) ∷ []))
        (stating.part_sure p constants j all L c true NoValue made tt HasSome (constructor_call j T d call.args call.paren)
        (λ s g is t. parts.constructor_call_sound p constants j L s g d call.args call.paren t (from_here s d is le) ok))
        (λ x. steps.given p constants j L c true (plain w call.token true (kernel.Eval x) ∷ []) (λ y. tt) (λ y h. (stating.plain_typed p constants j all L c true NoValue made tt call.token true (kernel.Eval x) place h.1, tt)))

    none_sure : {H : Type 0} (call : OwnCall) → AreWritten call.args → Surely H AllSo (no_call w call)
    unfolding no_call
    none_sure call ok =
        steps.next p constants j L c true (λ y. Unit {0}) (λ y. Unit {0}) (expressed (object_called j T call.args call.paren)) (λ x. give [])
        (stating.part_sure p constants j all L c true NoValue made tt (λ y. Unit {0}) (object_called j T call.args call.paren) (λ s g is t. parts.object_called_sound p constants j L s g call.args call.paren ok))
        (λ x. steps.given p constants j L c true [] (λ y. tt) (λ y h. tt))

    written_sure : {H : Type 0} (call : OwnCall) → AreWritten call.args → AreAmong all (place_if (calls_superclass T c) call.token Written) → Surely H AllSo (written_super_call w c call)
    unfolding written_super_call
    written_sure call ok places =
        steps.if_either p constants j L c true (calls_superclass T c) _ _ (λ e. own_sure (superclass_of w c) call above_below ok (place_there all (calls_superclass T c) call.token Written e places)) (λ e. none_sure call ok)

    with_fields : {H : Type 0} (f : Makes (List kernel.Statement)) (k : ClassSyntax) (site : ℕ) → Surely (H × ThisIs) AllSo f → AreAmong all (place_if (has_fields_unit k) site FieldsCall) → Surely H AllSo (f >>= λ xs. give (xs ++ implied_fields_call w c k site))
    with_fields f k site h places =
        knowing_this AllSo (f >>= λ xs. give (xs ++ implied_fields_call w c k site))
        (steps.next p constants j L c true (λ y. Unit {0}) AllSo f (λ xs. give (xs ++ implied_fields_call w c k site)) h
        (λ xs. steps.given p constants j L c true (xs ++ implied_fields_call w c k site) (λ y. tt) (λ y v. all_joined (IsTyped W) xs (implied_fields_call w c k site) v.1 (fields_typed k site v.0.1 places))))

    -- what a constructor calls first
    calls_by : {H : Type 0} (k : ClassSyntax) (site : ℕ) (call : OwnCall) (b : Bool) → AreWritten call.args →
        AreAmong all (if b then place_if (calls_superclass T c) call.token Written ++ place_if (has_fields_unit k) site FieldsCall else written call.token ∷ []) →
        Surely H AllSo (if b then (written_super_call w c call >>= λ xs. give (xs ++ implied_fields_call w c k site)) else own_call w c c call)
    calls_by k site call true ok places =
        with_fields (written_super_call w c call) k site (written_sure call ok (stating.of_front (Contains all) (place_if (calls_superclass T c) call.token Written) (place_if (has_fields_unit k) site FieldsCall) places))
        (stating.of_back (Contains all) (place_if (calls_superclass T c) call.token Written) (place_if (has_fields_unit k) site FieldsCall) places)
    calls_by k site call false ok places = own_sure c call same ok places.0

    calls_sure : {H : Type 0} (k : ClassSyntax) (site : ℕ) (own : Option OwnCall) → CallWritten own → AreAmong all (standing.first_calls T c k site own) → Surely H AllSo (first_calls w c k site own)
    unfolding first_calls
    calls_sure k site None ok places =
        with_fields (implied_super_call w c site) k site (super_sure site (stating.of_front (Contains all) (place_if (calls_superclass T c) site SuperCall) (place_if (has_fields_unit k) site FieldsCall) places))
        (stating.of_back (Contains all) (place_if (calls_superclass T c) site SuperCall) (place_if (has_fields_unit k) site FieldsCall) places)
    calls_sure k site (Some call) ok places = calls_by k site call call.is_super ok places

    -- ---- whole constructors

    abbrev Rest : ClassSyntax → ℕ → Option OwnCall → ℕ → Statements → Makes kernel.Statement
    Rest k site own brace parts =
        first_calls w c k site own >>= λ calls. statements w (inside (alone (number w brace) NoValue) (number w brace)) parts >>= λ xs. give (plain w brace false (kernel.Block (joined calls xs)))

    rest_sure : (k : ClassSyntax) (site : ℕ) (own : Option OwnCall) (brace : ℕ) (parts : Statements) → CallWritten own → AllWritten parts → AreAmong all (standing.first_calls T c k site own) → AreAmong all (written brace ∷ all_places parts) → Surely Unit (IsTyped W) (Rest k site own brace parts)
    rest_sure k site own brace parts ok good places here =
        let a = inside (alone (number w brace) NoValue) (number w brace) in
        let fits = stating.inside_fits p constants j all L c true NoValue made tt (alone (number w brace) NoValue) (number w brace) (stating.alone_fits p constants j all L c true NoValue made tt (number w brace)) (stating.numbered p constants j all L c true NoValue made tt brace here.0) in
        steps.next p constants j L c true (λ y. Unit {0}) AllSo (first_calls w c k site own) (λ calls. statements w a parts >>= λ xs. give (plain w brace false (kernel.Block (joined calls xs))))
        (calls_sure k site own ok places)
        (λ calls. steps.next p constants j L c true (λ y. Unit {0}) (AllTyped W) (statements w a parts) (λ xs. give (plain w brace false (kernel.Block (joined calls xs))))
        (steps.under p constants j L c true (statements w a parts) (λ y. tt) (λ y v. tt) (stating.all_stated p constants j all L c true NoValue made tt a parts fits here.1 good))
        (λ xs. steps.given p constants j L c true (plain w brace false (kernel.Block (joined calls xs))) (λ y. tt)
        (λ y v. stating.plain_typed p constants j all L c true NoValue made tt brace false (kernel.Block (joined calls xs)) here.0 (stating.joined_typed p constants j all L c true NoValue made tt calls xs v.0.1 v.1))))

    row_typed : (xs : List kernel.Statement) → AllSo xs → AllTyped W (row_of xs)
    row_typed [] h = tt
    row_typed (x ∷ xs) h = (h.0, row_typed xs h.1)

    implied_sure : (k : ClassSyntax) → AreAmong all (standing.first_calls T c k k.name.token None) → Contains all (at k.name.token ConstructorBody) → Surely Unit (IsTyped W) (implied_constructor_block w c k)
    unfolding implied_constructor_block
    implied_sure k places here =
        steps.next p constants j L c true (λ y. Unit {0}) AllSo (first_calls w c k k.name.token None) (λ calls. give (implied w k.name.token ConstructorBody (kernel.Block (row_of calls))))
        (calls_sure k k.name.token None tt places)
        (λ calls. steps.given p constants j L c true (implied w k.name.token ConstructorBody (kernel.Block (row_of calls))) (λ y. tt)
        (λ y v. implied_typed k.name.token ConstructorBody (kernel.Block (row_of calls)) here (row_typed calls v.1)))

  pub constructor_typed : (k : ClassSyntax) (site : ℕ) (h : Header) (own : Option OwnCall) (brace : ℕ) (parts : Statements) (texts : List FixedText) (x : kernel.Statement) (after : Making) (end : ℕ) → c < length p.classes → CallWritten own → AllWritten parts →
      AreAmong all (standing.first_calls T c k h.name.token own) → AreAmong all (written brace ∷ all_places parts) →
      constructor_block w c k h own brace parts (with_texts (begun c true site) texts) ≡ Ok (x, after) → length after.texts ≤ length p.fixed_texts → FitsHeader p true c h None (body_of x after end)
  unfolding constructor_block
  constructor_typed k site h own brace parts texts x after end lt ok good places here e fit =
      let m : Making = with_texts (begun c true site) texts in
      let d = whole.made_on (λ ps. Rest [] k h.name.token own brace parts) (parameters w h.params m) (x, after) e in
      let ps = whole.all_behind p constants j all made h.params m d.0 d.1 in
      let at_params : (L : List Ty) → steps.Inv p constants j L c true d.0.1 = λ L. whole.kept_by p constants j all made L c true (λ y. Unit {0}) (parameters w h.params) m d.0 (whole.parameters_sure p constants j all made L c true h.params) (begun_inv p constants j L c true site texts (whole.begun_known p constants j all made c true site lt)) d.1 in
      let block = at_end p constants j c true (λ L. stating.TypedIn p constants j all L c true NoValue made tt) (Rest [] k h.name.token own brace parts) d.0.1 after x
      (λ L. rest_sure L k h.name.token own brace parts ok good places here) at_params d.2 fit in
      let first : types d.0.1.locals ≡ this_of true c ++ ps.0 = ps.2 ∙ ap (λ (l : List Ty). l ++ ps.0) (whole.begun_types p constants j all made c true site texts) in
      (ps.0, Void, ps.1, refl, record { locals = block.1; begins = whole.begins_with p constants j all made (types after.locals) (types d.0.1.locals) (this_of true c) ps.0 block.2 first; block = block.0 })

  pub implied_constructor_typed : (k : ClassSyntax) (site : ℕ) (texts : List FixedText) (x : kernel.Statement) (after : Making) (end : ℕ) → c < length p.classes → AreAmong all (standing.first_calls T c k k.name.token None) → Contains all (at k.name.token ConstructorBody) →
      implied_constructor_block w c k (with_texts (begun c true site) texts) ≡ Ok (x, after) → length after.texts ≤ length p.fixed_texts → IsBody p (this_of true c) (Some Void) (body_of x after end)
  implied_constructor_typed k site texts x after end lt places here e fit =
      let m : Making = with_texts (begun c true site) texts in
      let block = at_end p constants j c true (λ L. stating.TypedIn p constants j all L c true NoValue made tt) (implied_constructor_block w c k) m after x
      (λ L. implied_sure L k places here) (λ L. begun_inv p constants j L c true site texts (whole.begun_known p constants j all made c true site lt)) e fit in
      let P : List Ty → Type 0 = λ l. steps.BeginsAt (types after.locals) l in
      record { locals = block.1; begins = subst P (whole.begun_types p constants j all made c true site texts) block.2; block = block.0 }

  pub constructor_grown : (k : ClassSyntax) (site : ℕ) (h : Header) (own : Option OwnCall) (brace : ℕ) (parts : Statements) (texts : List FixedText) (x : kernel.Statement) (after : Making) → c < length p.classes → CallWritten own → AllWritten parts →
      AreAmong all (standing.first_calls T c k h.name.token own) → AreAmong all (written brace ∷ all_places parts) →
      constructor_block w c k h own brace parts (with_texts (begun c true site) texts) ≡ Ok (x, after) → length texts ≤ length after.texts
  unfolding constructor_block
  constructor_grown k site h own brace parts texts x after lt ok good places here e =
      let m : Making = with_texts (begun c true site) texts in
      let d = whole.made_on (λ ps. Rest [] k h.name.token own brace parts) (parameters w h.params m) (x, after) e in
      let begin : (L : List Ty) → steps.Inv p constants j L c true m = λ L. begun_inv p constants j L c true site texts (whole.begun_known p constants j all made c true site lt) in
      let at_params : (L : List Ty) → steps.Inv p constants j L c true d.0.1 = λ L. whole.kept_by p constants j all made L c true (λ y. Unit {0}) (parameters w h.params) m d.0 (whole.parameters_sure p constants j all made L c true h.params) (begin L) d.1 in
      let in_params = grown_at_end p constants j c true (λ L y. Unit {0}) (parameters w h.params) m d.0.1 d.0.0 (λ L. whole.parameters_sure p constants j all made L c true h.params) begin d.1 in
      let in_rest = grown_at_end p constants j c true (λ L. stating.TypedIn p constants j all L c true NoValue made tt) (Rest [] k h.name.token own brace parts) d.0.1 after x
      (λ L. rest_sure L k h.name.token own brace parts ok good places here) at_params d.2 in
      omega (arith, in_params, in_rest)

  pub implied_grown : (k : ClassSyntax) (site : ℕ) (texts : List FixedText) (x : kernel.Statement) (after : Making) → c < length p.classes → AreAmong all (standing.first_calls T c k k.name.token None) → Contains all (at k.name.token ConstructorBody) →
      implied_constructor_block w c k (with_texts (begun c true site) texts) ≡ Ok (x, after) → length texts ≤ length after.texts
  implied_grown k site texts x after lt places here e =
      grown_at_end p constants j c true (λ L. stating.TypedIn p constants j all L c true NoValue made tt) (implied_constructor_block w c k) (with_texts (begun c true site) texts) after x
      (λ L. implied_sure L k places here) (λ L. begun_inv p constants j L c true site texts (whole.begun_known p constants j all made c true site lt)) e

pub constructors_are_typed : ConstructorsAreTyped
constructors_are_typed p constants j all c k site h own brace parts texts x after end made lt ok good places here e fit =
    constructor_typed p constants j all c made k site h own brace parts texts x after end lt ok good places here e fit

pub implied_constructors_are_typed : ImpliedConstructorsAreTyped
implied_constructors_are_typed p constants j all c k site texts x after end made lt places here e fit =
    implied_constructor_typed p constants j all c made k site texts x after end lt places here e fit
