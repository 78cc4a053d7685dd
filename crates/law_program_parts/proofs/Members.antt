-- All bodies of a class.
use Rattle.std.proofs.Common.{◌≡◌, ℕ, ◌≤◌, Bool, true, false, not, refl, sym, ◌∙◌, ap, subst, List, [], ◌∷◌, ◌++◌, length, Option, Some, None, Ok, arith, inl, if◌then◌else◌, append_assoc}
use Rattle.std.specs.List.{AllByRecursion, Contains}
use Rattle.std.proofs.lemmas.List.{append-nil}
use Rattle.wy_kernel.specs.declared.types.Ty.{Ty}
use Rattle.wy_kernel.specs.declared.types.Ty.TheVariants.{Void}
use Rattle.wy_kernel.specs.Form as kernel
use Rattle.wy_kernel.specs.Program.{Program, Body}
use Rattle.wy_kernel.specs.Table.{BeginsWith, ConstantValue}
use Rattle.wy_syntax.specs.Syntax.{Member, ClassSyntax, Declarator}
use Rattle.wy_syntax.specs.Syntax as source
use Rattle.wy_constant.specs.Scope.{FixedText}
use Rattle.wy_elab_expr.specs.Operators.{Judgement}
use Rattle.wy_elab_expr.specs.Meaning.{◌>>=◌}
use Rattle.wy_elab_expr.specs.Meaning as meaning
use Rattle.wy_elab_body.specs.declared.place.Place.{Place}
use Rattle.wy_elab_body.specs.declared.place.Role.{Role}
use Rattle.wy_elab_body.specs.declared.place.Role.TheVariants.{InitializerBody, FieldsBody}
use Rattle.wy_elab_body.specs.Places.{at, written, has_fields_unit, declares_constructor}
use Rattle.wy_elab_body.specs.Making.{Making, Makes, begun, resumed, with_texts}
use Rattle.wy_elab_body.specs.Statements.{Setting, row_of}
use Rattle.wy_elab_body.specs.Bodies.{Growing, Growth, nothing_yet, body_of, implied_body, initializer_block, field_initials, method_block, constructor_block, implied_constructor_block, end_of}
use Rattle.wy_elab_stmt.specs.Classes.{ClassBodies, whole, with_body, grown, in_initializer, in_fields, is_static, member, members, implied_constructor, none_yet, fields_body, finished, of_class}
use Rattle.wy_typing.specs.Statements.{AllTyped}
use Rattle.wy_typing.specs.Programs.{IsBody}
use Rattle.law_typed.specs.StatementsTyped.{setting, Makes as MakesProgram, types}
use Rattle.law_typed.specs.Bodies.{this_of, FitsHeader}
use Rattle.law_typed.specs.StatementsWritten.{OptionWritten}
use Rattle.law_typed.proofs.Numbers.{number_below}
use Rattle.law_typed.proofs.Steps as steps
use Rattle.law_typed.proofs.Steps.{begins_self, all_weaker}
use Rattle.law_typed.proofs.Embodying as methods
use Rattle.law_typed.proofs.Constructing as constructors
use Rattle.law_typed.proofs.Initializing as initializing
use Rattle.law_typed.proofs.Blocking.{begun_inv}
use Rattle.law_program_parts.specs.Classes.{HasInitial, FieldStands, MemberStands, ClassStands, MembersFit, UnitFits, ImpliedFits, ClassFits, ClassesAreTyped}
use Rattle.law_program_parts.proofs.Growing as growing
use Rattle.law_program_parts.proofs.Growing.{found_on, one_found, resumed_on}

-- a body from its beginning to its end
whole_on : (m : Making) (end : ℕ) (f : Makes kernel.Statement) (texts after : List FixedText) (b : Body) → whole m end f texts ≡ Ok (b, after) → (q : kernel.Statement × Making) × (f (with_texts m texts) ≡ Ok q) × (body_of q.0 q.1 end ≡ b) × (q.1.texts ≡ after)
whole_on m end f texts after b e =
    let a = found_on (λ q. meaning.give (body_of q.0 q.1 end)) (resumed m f texts) (b, after) e in
    let d = resumed_on m f texts a.0 a.1 in
    let same = one_found (body_of a.0.0.0 a.0.0.1 end, a.0.1) (b, after) _ refl a.2 in
    (a.0.0, d.0, ap (λ (z : Body × List FixedText). z.0) same, sym d.1 ∙ ap (λ (z : Body × List FixedText). z.1) same)

module _ (p : Program) (constants : List (Option ConstantValue)) (j : Judgement) (all : List Place) (c : ℕ) (k : ClassSyntax) (made : MakesProgram p constants j all) (stands : ClassStands p constants all c k) where
  abbrev n : ℕ
  n = length p.fixed_texts

  abbrev w : Setting
  w = setting p constants j all

  abbrev Fits : Bool → Growing → ℕ → Type 0
  Fits b g many = growing.GrowingFits p constants j all c made b g many

  pub record GrowthFits (g : Growth) (many : ℕ) : Type 0 where
    pub initializer : Fits false g.initializer many
    pub fields : Fits true g.fields many

  -- what a member adds
  abbrev OneFits : Member → List (Option Body) → Type 0
  OneFits (source.Method h result None) new = new ≡ None ∷ []
  OneFits (source.Method h result (Some block)) new = (b : Body) × (new ≡ Some b ∷ []) × FitsHeader p (not (is_static h.modifiers)) c h result b
  OneFits (source.Constructor h own brace parts end) new = (b : Body) × (new ≡ Some b ∷ []) × FitsHeader p true c h None b
  OneFits (source.Initializer b block) new = new ≡ []
  OneFits (source.Fields ms ty ds) new = new ≡ []
  OneFits source.Member.Nothing new = new ≡ []
  OneFits source.Member.Unknown new = new ≡ []

  fit_more : (m : Member) (rest : List Member) (one more : List (Option Body)) → OneFits m one → MembersFit p c rest more → MembersFit p c (m ∷ rest) (one ++ more)
  fit_more (source.Method h result None) rest one more e f = let P : List (Option Body) → Type 0 = λ x. MembersFit p c (source.Method h result None ∷ rest) (x ++ more) in subst P (sym e) f
  fit_more (source.Method h result (Some block)) rest one more e f = let P : List (Option Body) → Type 0 = λ x. MembersFit p c (source.Method h result (Some block) ∷ rest) (x ++ more) in subst P (sym e.1) (e.2, f)
  fit_more (source.Constructor h own brace parts end) rest one more e f = let P : List (Option Body) → Type 0 = λ x. MembersFit p c (source.Constructor h own brace parts end ∷ rest) (x ++ more) in subst P (sym e.1) (e.2, f)
  fit_more (source.Initializer b block) rest one more e f = let P : List (Option Body) → Type 0 = λ x. MembersFit p c (source.Initializer b block ∷ rest) (x ++ more) in subst P (sym e) f
  fit_more (source.Fields ms ty ds) rest one more e f = let P : List (Option Body) → Type 0 = λ x. MembersFit p c (source.Fields ms ty ds ∷ rest) (x ++ more) in subst P (sym e) f
  fit_more source.Member.Nothing rest one more e f = let P : List (Option Body) → Type 0 = λ x. MembersFit p c (source.Member.Nothing ∷ rest) (x ++ more) in subst P (sym e) f
  fit_more source.Member.Unknown rest one more e f = let P : List (Option Body) → Type 0 = λ x. MembersFit p c (source.Member.Unknown ∷ rest) (x ++ more) in subst P (sym e) f

  pub record Done (Q : List (Option Body) → Type 0) (g : Growth) (texts : List FixedText) (z : Growth × List FixedText) : Type 0 where
    pub growth : GrowthFits z.0 (length z.1)
    pub grows : length texts ≤ length z.1
    pub new : List (Option Body)
    pub bodies : z.0.bodies ≡ g.bodies ++ new
    pub fits : length z.1 ≤ n → Q new

  -- a piece of the class's initializer, or of its instance initializers
  in_initializer_done : (m : Member) (g : Growth) (texts : List FixedText) (z : Growth × List FixedText) (f : Makes (List kernel.Statement)) → OneFits m [] → GrowthFits g (length texts) → ((L : List Ty) → steps.Sure p constants j L c false Unit (λ y. Unit {0}) Unit (initializing.AllSo p constants j all L c false made) f) →
      in_initializer g f texts ≡ Ok z → Done (OneFits m) g texts z
  in_initializer_done m g texts z f one i h e =
      let a = found_on (λ x. meaning.give (record g { initializer = x })) (grown g.initializer f texts) z e in
      let d = growing.grown_fits p constants j all c made false g.initializer a.0.0 f texts a.0.1 h i.initializer a.1 in
      let P : Growth × List FixedText → Type 0 = λ y. Done (OneFits m) g texts y in
      subst P (one_found (record g { initializer = a.0.0 }, a.0.1) z _ refl a.2)
      (record { growth = record { initializer = d.0; fields = growing.later p constants j all c made true g.fields (length texts) (length a.0.1) d.1 i.fields }; grows = d.1; new = []; bodies = sym (append-nil g.bodies); fits = λ lt. one })

  in_fields_done : (m : Member) (g : Growth) (texts : List FixedText) (z : Growth × List FixedText) (f : Makes (List kernel.Statement)) → OneFits m [] → GrowthFits g (length texts) → ((L : List Ty) → steps.Sure p constants j L c true Unit (λ y. Unit {0}) Unit (initializing.AllSo p constants j all L c true made) f) →
      in_fields g f texts ≡ Ok z → Done (OneFits m) g texts z
  in_fields_done m g texts z f one i h e =
      let a = found_on (λ x. meaning.give (record g { fields = x })) (grown g.fields f texts) z e in
      let d = growing.grown_fits p constants j all c made true g.fields a.0.0 f texts a.0.1 h i.fields a.1 in
      let P : Growth × List FixedText → Type 0 = λ y. Done (OneFits m) g texts y in
      subst P (one_found (record g { fields = a.0.0 }, a.0.1) z _ refl a.2)
      (record { growth = record { initializer = growing.later p constants j all c made false g.initializer (length texts) (length a.0.1) d.1 i.initializer; fields = d.0 }; grows = d.1; new = []; bodies = sym (append-nil g.bodies); fits = λ lt. one })

  -- a whole body
  body_done : (m : Member) (g : Growth) (texts : List FixedText) (z : Growth × List FixedText) (start : Making) (end : ℕ) (f : Makes kernel.Statement) → GrowthFits g (length texts) →
      ((x : kernel.Statement) (after : Making) → f (with_texts start texts) ≡ Ok (x, after) → length texts ≤ length after.texts × (length after.texts ≤ n → OneFits m (Some (body_of x after end) ∷ []))) →
      meaning.onward (λ b. meaning.give (with_body g (Some b))) (whole start end f texts) ≡ Ok z → Done (OneFits m) g texts z
  body_done m g texts z start end f i h e =
      let a = found_on (λ b. meaning.give (with_body g (Some b))) (whole start end f texts) z e in
      let d = whole_on start end f texts a.0.1 a.0.0 a.1 in
      let u = h d.0.0 d.0.1 d.1 in
      let P : Growth × List FixedText → Type 0 = λ y. Done (OneFits m) g texts y in
      let grows : length texts ≤ length a.0.1 = subst (λ (t : List FixedText). length texts ≤ length t) d.3 u.0 in
      let fits : length a.0.1 ≤ n → OneFits m (Some a.0.0 ∷ []) = λ lt. (let Q : Body → Type 0 = λ b. OneFits m (Some b ∷ []) in subst Q d.2 (u.1 (subst (λ (t : List FixedText). length t ≤ n) (sym d.3) lt))) in
      subst P (one_found (with_body g (Some a.0.0), a.0.1) z _ refl a.2)
      (record {
        growth = record { initializer = growing.later p constants j all c made false g.initializer (length texts) (length a.0.1) grows i.initializer; fields = growing.later p constants j all c made true g.fields (length texts) (length a.0.1) grows i.fields };
        grows = grows;
        new = Some a.0.0 ∷ [];
        bodies = refl;
        fits = fits;
      })

  -- ---- the pieces

  initial_place : (d : Declarator) (o : Option source.Initial) → d.initial ≡ o → initializing.is_some_initial o → HasInitial d
  initial_place d (Some i) e h = (i, e)
  initial_place d None e h = absurd h

  fields_said : (s : Bool) (ty : source.WrittenType) (ds : List Declarator) → AllByRecursion (FieldStands p c all s ty) ds → AllByRecursion (λ (d : Declarator). OptionWritten d.initial) ds
  fields_said s ty ds h = all_weaker (FieldStands p c all s ty) (λ (d : Declarator). OptionWritten d.initial) ds (λ d x. x.said) h

  pieces : (b s : Bool) (ty : source.WrittenType) (ds : List Declarator) → (s ≡ false → b ≡ true) → AllByRecursion (FieldStands p c all s ty) ds → (L : List Ty) → steps.Sure p constants j L c b Unit (λ y. Unit {0}) Unit (initializing.AllSo p constants j all L c b made) (field_initials w c s ty ds)
  pieces b s ty ds this h L =
      initializing.initials_sure p constants j all L c b made s ty ds this
      (all_weaker (FieldStands p c all s ty) _ ds (λ d x. x.declared) h)
      (all_weaker (FieldStands p c all s ty) (λ (d : Declarator). initializing.is_some_initial d.initial → Contains all (written d.name.token)) ds (λ d x i. x.place (initial_place d d.initial refl i)) h)
      (fields_said s ty ds h)

  fields_by : (ms : List source.Placed) (ty : source.WrittenType) (ds : List Declarator) (s : Bool) (g : Growth) (texts : List FixedText) (z : Growth × List FixedText) → AllByRecursion (FieldStands p c all s ty) ds → GrowthFits g (length texts) →
      (if s then in_initializer g (field_initials w c true ty ds) else in_fields g (field_initials w c false ty ds)) texts ≡ Ok z → Done (OneFits (source.Fields ms ty ds)) g texts z
  fields_by ms ty ds true g texts z h i e = in_initializer_done (source.Fields ms ty ds) g texts z (field_initials w c true ty ds) refl i (pieces false true ty ds (λ x. absurd (cc)) h) e
  fields_by ms ty ds false g texts z h i e = in_fields_done (source.Fields ms ty ds) g texts z (field_initials w c false ty ds) refl i (pieces true false ty ds (λ x. refl) h) e

  nothing_done : (m : Member) (g : Growth) (texts : List FixedText) (z : Growth × List FixedText) → OneFits m [] → GrowthFits g (length texts) → meaning.give g texts ≡ Ok z → Done (OneFits m) g texts z
  nothing_done m g texts z one i e =
      let P : Growth × List FixedText → Type 0 = λ y. Done (OneFits m) g texts y in
      subst P (one_found (g, texts) z _ refl e) (record { growth = i; grows = le_self (length texts); new = []; bodies = sym (append-nil g.bodies); fits = λ lt. one })
    where
      le_self : (a : ℕ) → a ≤ a
      le_self a = omega arith

  bodiless_done : (h : source.Header) (result : Option source.WrittenType) (g : Growth) (texts : List FixedText) (z : Growth × List FixedText) → GrowthFits g (length texts) → meaning.give (with_body g None) texts ≡ Ok z → Done (OneFits (source.Method h result None)) g texts z
  bodiless_done h result g texts z i e =
      let P : Growth × List FixedText → Type 0 = λ y. Done (OneFits (source.Method h result None)) g texts y in
      subst P (one_found (with_body g None, texts) z _ refl e) (record { growth = record { initializer = i.initializer; fields = i.fields }; grows = le_self (length texts); new = None ∷ []; bodies = refl; fits = λ lt. refl })
    where
      le_self : (a : ℕ) → a ≤ a
      le_self a = omega arith

  member_done : (m : Member) (g : Growth) (texts : List FixedText) (z : Growth × List FixedText) → MemberStands p constants all c k m → GrowthFits g (length texts) → member w c k g m texts ≡ Ok z → Done (OneFits m) g texts z
  unfolding member
  member_done (source.Initializer true b) g texts z h i e =
      in_initializer_done (source.Initializer true b) g texts z (initializer_block w k InitializerBody b) refl i (λ L. initializing.initializer_sure p constants j all L c false made k InitializerBody b h.0 h.1 h.2) e
  member_done (source.Initializer false b) g texts z h i e =
      in_fields_done (source.Initializer false b) g texts z (initializer_block w k FieldsBody b) refl i (λ L. initializing.initializer_sure p constants j all L c true made k FieldsBody b h.0 h.1 h.2) e
  member_done (source.Fields ms ty ds) g texts z h i e = fields_by ms ty ds (is_static ms) g texts z h i e
  member_done (source.Method hd result None) g texts z h i e = bodiless_done hd result g texts z i e
  member_done (source.Method hd result (Some b)) g texts z h i e =
      body_done (source.Method hd result (Some b)) g texts z (begun c (not (is_static hd.modifiers)) hd.name.token) (end_of b) (method_block w hd result b) i
      (λ x after is. (
        methods.method_grown p constants j all made c (not (is_static hd.modifiers)) hd.name.token hd result b texts x after stands.class h.1 h.0 is,
        λ lt. (body_of x after (end_of b), refl, methods.method_typed p constants j all made c (not (is_static hd.modifiers)) hd.name.token hd result b texts x after (end_of b) stands.class h.1 h.0 is lt),
      )) e
  member_done (source.Constructor hd own brace parts end) g texts z h i e =
      body_done (source.Constructor hd own brace parts end) g texts z (begun c true hd.name.token) end (constructor_block w c k hd own brace parts) i
      (λ x after is. (
        constructors.constructor_grown p constants j all c made k hd.name.token hd own brace parts texts x after stands.class h.2 h.3 h.0 h.1 is,
        λ lt. (body_of x after end, refl, constructors.constructor_typed p constants j all c made k hd.name.token hd own brace parts texts x after end stands.class h.2 h.3 h.0 h.1 is lt),
      )) e
  member_done source.Member.Nothing g texts z h i e = nothing_done source.Member.Nothing g texts z refl i e
  member_done source.Member.Unknown g texts z h i e = nothing_done source.Member.Unknown g texts z refl i e

  members_done : (ms : List Member) (g : Growth) (texts : List FixedText) (z : Growth × List FixedText) → AllByRecursion (MemberStands p constants all c k) ms → GrowthFits g (length texts) → members w c k g ms texts ≡ Ok z → Done (MembersFit p c ms) g texts z
  unfolding members
  members_done [] g texts z h i e =
      let P : Growth × List FixedText → Type 0 = λ y. Done (MembersFit p c []) g texts y in
      subst P (one_found (g, texts) z _ refl e) (record { growth = i; grows = le_self (length texts); new = []; bodies = sym (append-nil g.bodies); fits = λ lt. tt })
    where
      le_self : (a : ℕ) → a ≤ a
      le_self a = omega arith
  members_done (m ∷ rest) g texts z h i e =
      let a = found_on (λ next. members w c k next rest) (member w c k g m texts) z e in
      let one = member_done m g texts a.0 h.0 i a.1 in
      let more = members_done rest a.0.0 a.0.1 z h.1 one.growth a.2 in
      record {
        growth = more.growth;
        grows = omega (arith, one.grows, more.grows);
        new = one.new ++ more.new;
        bodies = more.bodies ∙ ap (λ (l : List (Option Body)). l ++ more.new) one.bodies ∙ append_assoc g.bodies one.new more.new;
        fits = λ lt. fit_more m rest one.new more.new (one.fits (omega (arith, more.grows, lt))) (more.fits lt);
      }

  -- ---- the class

  row_typed : (b : Bool) (L : List Ty) (xs : List kernel.Statement) → initializing.AllSo p constants j all L c b made xs → AllTyped (initializing.W p constants j all L c b made) (row_of xs)
  row_typed b L [] h = tt
  row_typed b L (x ∷ xs) h = (h.0, row_typed b L xs h.1)

  implied_typed : (b : Bool) (role : Role) (g : Growing) (many : ℕ) → Contains all (at k.name.token role) → Fits b g many → many ≤ n → IsBody p (this_of b c) None (implied_body w k role g)
  implied_typed b role g many here h lt =
      let known = (h.inv (types g.making.locals)).known in
      let less = number_below all (at k.name.token role) here in
      record { locals = known; begins = h.begins; block = (omega (arith, less, made.statements), inl refl, row_typed b (types g.making.locals) g.parts (h.parts (types g.making.locals) (begins_self (types g.making.locals)) known lt)) }

  start_fits : (b : Bool) (texts : List FixedText) → Fits b (nothing_yet c b k.name.token) (length texts)
  start_fits b texts = record {
    inv = λ L. started L;
    begins = (let P : List Ty → Type 0 = λ l. BeginsWith l (this_of b c) in subst P (sym (methods.begun_types p constants j all made c b k.name.token [])) (begins_self (this_of b c)));
    parts = λ L front known lt. tt;
  }
    where
      started : (L : List Ty) → steps.Inv p constants j L c b (begun c b k.name.token)
      started L = plain_inv L (begun_inv p constants j L c b k.name.token [] (methods.begun_known p constants j all made c b k.name.token stands.class))
        where
          plain_inv : (L : List Ty) → steps.Inv p constants j L c b (with_texts (begun c b k.name.token) []) → steps.Inv p constants j L c b (begun c b k.name.token)
          plain_inv L i = record { variables = i.variables; own = i.own; next = i.next; known = i.known; of_class = i.of_class; with_this = i.with_this }

  unit_by : (b : Bool) (g : Growing) (many : ℕ) → has_fields_unit k ≡ b → Fits true g many → many ≤ n → UnitFits p c b (if b then Some (implied_body w k FieldsBody g) ∷ [] else [])
  unit_by true g many e h lt = implied_typed true FieldsBody g many (stands.fields e) h lt
  unit_by false g many e h lt = tt

  record ImpliedDone (b : Bool) (texts : List FixedText) (q : List (Option Body) × List FixedText) : Type 0 where
    pub grows : length texts ≤ length q.1
    pub fits : length q.1 ≤ n → ImpliedFits p c b q.0

  implied_by : (b : Bool) (texts : List FixedText) (q : List (Option Body) × List FixedText) → declares_constructor k ≡ b →
      (if b then meaning.give [] else (whole (begun c true k.name.token) k.name.token (implied_constructor_block w c k) >>= λ body. meaning.give (Some body ∷ []))) texts ≡ Ok q → ImpliedDone b texts q
  implied_by true texts q e is =
      let P : List (Option Body) × List FixedText → Type 0 = λ y. ImpliedDone true texts y in
      subst P (one_found ([], texts) q _ refl is) (record { grows = le_self (length texts); fits = λ lt. tt })
    where
      le_self : (a : ℕ) → a ≤ a
      le_self a = omega arith
  implied_by false texts q e is =
      let a = found_on (λ body. meaning.give (Some body ∷ [])) (whole (begun c true k.name.token) k.name.token (implied_constructor_block w c k) texts) q is in
      let d = whole_on (begun c true k.name.token) k.name.token (implied_constructor_block w c k) texts a.0.1 a.0.0 a.1 in
      let h = stands.constructor e in
      let grows = constructors.implied_grown p constants j all c made k k.name.token texts d.0.0 d.0.1 stands.class h.1 h.0 d.1 in
      let P : List (Option Body) × List FixedText → Type 0 = λ y. ImpliedDone false texts y in
      let Q : Body → Type 0 = λ b. IsBody p (this_of true c) (Some Void) b in
      subst P (one_found (Some a.0.0 ∷ [], a.0.1) q _ refl a.2)
      (record {
        grows = subst (λ (t : List FixedText). length texts ≤ length t) d.3 grows;
        fits = λ lt. subst Q d.2 (constructors.implied_constructor_typed p constants j all c made k k.name.token texts d.0.0 d.0.1 k.name.token stands.class h.1 h.0 d.1 (subst (λ (t : List FixedText). length t ≤ n) (sym d.3) lt));
      })

  implied_done : (texts : List FixedText) (q : List (Option Body) × List FixedText) → implied_constructor w c k texts ≡ Ok q → ImpliedDone (declares_constructor k) texts q
  unfolding implied_constructor
  implied_done texts q e = implied_by (declares_constructor k) texts q refl e

  pub class_typed : (texts after : List FixedText) (x : ClassBodies) → of_class w c k texts ≡ Ok (x, after) → length after ≤ n → ClassFits p c k x
  class_typed texts after x e lt =
      let a = found_on (λ implied. members w c k (none_yet c k) k.members >>= λ g. meaning.give (finished w k implied g)) (implied_constructor w c k texts) (x, after) e in
      let d = found_on (λ g. meaning.give (finished w k a.0.0 g)) (members w c k (none_yet c k) k.members a.0.1) (x, after) a.2 in
      let implied = implied_done texts a.0 a.1 in
      let ms = members_done k.members (none_yet c k) a.0.1 d.0 stands.members (record { initializer = start_fits false a.0.1; fields = start_fits true a.0.1 }) d.1 in
      let same = one_found (finished w k a.0.0 d.0.0, d.0.1) (x, after) _ refl d.2 in
      let P : ClassBodies × List FixedText → Type 0 = λ y. length y.1 ≤ n → ClassFits p c k y.0 in
      subst P same (λ less. record {
        unit = fields_body w k d.0.0.fields;
        implied = a.0.0;
        members = ms.new;
        bodies = ap (λ (l : List (Option Body)). fields_body w k d.0.0.fields ++ a.0.0 ++ l) ms.bodies;
        unit_fits = unit_by (has_fields_unit k) d.0.0.fields (length d.0.1) refl ms.growth.fields less;
        implied_fits = implied.fits (omega (arith, ms.grows, less));
        members_fit = ms.fits less;
        initializer = implied_body w k InitializerBody d.0.0.initializer;
        there = refl;
        initializer_fits = implied_typed false InitializerBody d.0.0.initializer (length d.0.1) stands.initializer ms.growth.initializer less;
      }) lt

  -- no text is lost in a class
  pub class_grown : (texts after : List FixedText) (x : ClassBodies) → of_class w c k texts ≡ Ok (x, after) → length texts ≤ length after
  class_grown texts after x e =
      let a = found_on (λ implied. members w c k (none_yet c k) k.members >>= λ g. meaning.give (finished w k implied g)) (implied_constructor w c k texts) (x, after) e in
      let d = found_on (λ g. meaning.give (finished w k a.0.0 g)) (members w c k (none_yet c k) k.members a.0.1) (x, after) a.2 in
      let implied = implied_done texts a.0 a.1 in
      let ms = members_done k.members (none_yet c k) a.0.1 d.0 stands.members (record { initializer = start_fits false a.0.1; fields = start_fits true a.0.1 }) d.1 in
      let same = ap (λ (z : ClassBodies × List FixedText). length z.1) (one_found (finished w k a.0.0 d.0.0, d.0.1) (x, after) _ refl d.2) in
      omega (arith, implied.grows, ms.grows, same)

pub classes_are_typed : ClassesAreTyped
classes_are_typed p constants j all c k texts after x made stands e lt = class_typed p constants j all c k made stands texts after x e lt
