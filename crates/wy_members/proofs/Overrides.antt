-- Cycles, and what overrides, implements and has no body though it may not, part by part, are those by the rules.
use Rattle.std.proofs.Common.{◌≡◌, ℕ, ◌+◌, Bool, true, ◌||◌, List, Option, Some, ◌⊎◌, inl, inr, refl, sym, ◌∙◌, subst}
use Rattle.std.specs.Prelude.{None as Absent}
use Rattle.std.specs.Prelude.{slice_get}
use Rattle.wy_kernel.specs.Program.{Class, Method, first_source_class}
use Rattle.wy_kernel.specs.Subtyping.{class_type, Substitutable}
use Rattle.wy_syntax.specs.declared.declaration.Modifier.TheVariants as modifier
use Rattle.wy_syntax.specs.Syntax.{Named, Header, Braced, Member, ClassSyntax}
use Rattle.wy_syntax.specs.Syntax as syntax
use Rattle.wy_overloads.specs.Choice.{Equivalent}
use Rattle.wy_members.specs.Least.{Among, Here}
use Rattle.wy_members.specs.Within.{CycleAt, OverridesAt, InheritsAt, WrongAboveAt, WrongBodyIn, WantsBody, ExtendsWrongly, NotExtended, NamesClass, HasWrongAbove, BadOverridesIn, NotImplementedsIn}
use Rattle.wy_members.specs.Declarations.{CompilationUnit, classes_of, has, table}
use Rattle.wy_members.specs.Broken.{compared, IsSourceClass, HasMember, Extends, Overrides, IsCycle, above_itself, IsJudged, HasWrongSupertype, extends_interface, implements_class, extends_final, extends_library, HasWrongMethod, wrong_result, static_against_instance, overrides_final, inherited_results, inherited_static, IsNotImplemented, declares_abstract, left_in, body_missing, body_too_much, abstract_constructor, static_without_body, private_without_body, header_without_body, header_with_body, constructor_header, Breaks}
use Rattle.wy_constant.specs.declared.rule.Rule.TheVariants as rule
use Rattle.wy_members.proofs.Contained.{contained, placed, in_numbered, of_numbered}

module _ (unit : CompilationUnit) where
  abbrev classes : List Class
  classes = (table unit).classes

  -- ---- Cycle

  abbrev pub Cycles : ℕ → Type 0
  Cycles = Among classes (CycleAt classes)

  pub cycle_of_parts : (n : ℕ) → Cycles n → IsCycle unit n
  cycle_of_parts n (c, row, at, h) = subst (IsCycle unit) h.1 (above_itself at h.0)

  pub cycle_in_parts : (n : ℕ) → IsCycle unit n → Cycles n
  cycle_in_parts _ (above_itself {c} {row} at h) = (c, row, at, (h, refl))

  -- ---- BadOverride

  abbrev pub BadOverrides : ℕ → Type 0
  BadOverrides = BadOverridesIn unit classes (compared unit) (classes_of unit)

  at_token : (c m n : ℕ) → m ≡ n → HasWrongSupertype unit c m → HasWrongSupertype unit c n
  at_token c m n e h = subst (HasWrongSupertype unit c) e h

  extends_wrongly : (c : ℕ) (k : ClassSyntax) → IsSourceClass unit c k → (above : Option Named) → k.above ≡ above → ExtendsWrongly unit classes above → HasWrongSupertype unit c k.name.token
  extends_wrongly c k w Absent is h = absurd h
  extends_wrongly c k w (Some name) is (d, row, denotes, found, wrong) =
      let extends : Extends unit c k d row = record { name = name; written = w; clause = is; denotes = denotes; found = found } in
      elim wrong [
        | inl i ↦ extends_interface extends i
        | inr rest ↦ elim rest [ inl f ↦ extends_final extends f | inr l ↦ extends_library extends l.0 l.1 l.2 ]
      ]

  implements_wrongly : (c : ℕ) (k : ClassSyntax) → IsSourceClass unit c k → (i : ℕ) (name : Named) → slice_get k.interfaces i ≡ Some name → NamesClass unit classes name → HasWrongSupertype unit c k.name.token
  implements_wrongly c k w i name at (d, row, denotes, found, wrong) =
      implements_class (record { name = name; written = w; clause = contained k.interfaces i name at; denotes = denotes; found = found }) wrong

  supertype_of_parts : (n : ℕ) → Among (classes_of unit) (WrongAboveAt unit classes) n → Breaks unit rule.BadOverride n
  supertype_of_parts n (i, k, at, h) =
      let w = in_numbered first_source_class (classes_of unit) i k at in
      let c = first_source_class + i in
      (c, h.0.0, inl (at_token c k.name.token n h.1 (elim h.0.1 [ inl e ↦ extends_wrongly c k w k.above refl e | inr m ↦ implements_wrongly c k w m.0 m.1 m.2 m.3 ])))

  overriding_of_parts : (n : ℕ) → Among (compared unit).methods (OverridesAt classes (compared unit)) n → Breaks unit rule.BadOverride n
  overriding_of_parts n (i, m, at, h) =
      let w = h.0.1 in
      let overrides : Overrides (compared unit) m.class m w.0 w.1 = record { method = contained (compared unit).methods i m at; own = refl; same = (w.2, w.3.0); elsewhere = w.3.1 } in (
        m.class,
        h.0.0,
        inr (subst (HasWrongMethod (compared unit) m.class) h.1
            (elim w.3.2 [ inl s ↦ wrong_result overrides s | inr r ↦ elim r [ inl f ↦ static_against_instance overrides f | inr g ↦ overrides_final overrides g ] ])),
      )

  inheriting_of_parts : (n : ℕ) → Among (compared unit).classes (InheritsAt classes (compared unit)) n → Breaks unit rule.BadOverride n
  inheriting_of_parts n (c, row, at, h) =
      let w = h.0.1 in (
        c,
        h.0.0,
        inr (subst (HasWrongMethod (compared unit) c) h.1
            (elim w.3.1 [ inl none ↦ inherited_results at w.3.0 none | inr d ↦ inherited_static d.0 at w.3.0 (d.2, d.3.0) d.3.1 ])),
      )

  pub override_of_parts : (n : ℕ) → BadOverrides n → Breaks unit rule.BadOverride n
  override_of_parts n h = elim h [ inl s ↦ supertype_of_parts n s | inr rest ↦ elim rest [ inl o ↦ overriding_of_parts n o | inr i ↦ inheriting_of_parts n i ] ]

  above_in_parts : (c : ℕ) (k : ClassSyntax) → IsSourceClass unit c k → IsJudged unit c → HasWrongAbove unit classes k → BadOverrides k.name.token
  above_in_parts c k w judged wrong =
      let at = of_numbered first_source_class (classes_of unit) c k w in
      inl (at.0, k, at.1, ((subst (IsJudged unit) (sym at.2) judged, wrong), refl))

  extends_in_parts : (c d : ℕ) (k : ClassSyntax) (row : Class) → Extends unit c k d row → IsJudged unit c → NotExtended classes d row → BadOverrides k.name.token
  extends_in_parts c d k row e judged wrong =
      above_in_parts c k e.written judged (inl (subst (ExtendsWrongly unit classes) (sym e.clause) (d, row, e.denotes, e.found, wrong)))

  supertype_in_parts : (c : ℕ) → IsJudged unit c → (n : ℕ) → HasWrongSupertype unit c n → BadOverrides n
  supertype_in_parts c judged _ (extends_interface {k} {d} {row} e i) = extends_in_parts c d k row e judged (inl i)
  supertype_in_parts c judged _ (extends_final {k} {d} {row} e f) = extends_in_parts c d k row e judged (inr (inl f))
  supertype_in_parts c judged _ (extends_library {k} {d} {row} e l o t) = extends_in_parts c d k row e judged (inr (inr (l, o, t)))
  supertype_in_parts c judged _ (implements_class {k} {d} {row} e i) =
      let p = placed k.interfaces e.name e.clause in
      above_in_parts c k e.written judged (inr (p.0, e.name, p.1, (d, row, e.denotes, e.found, i)))

  overrides_in_parts : (c : ℕ) → IsJudged unit c → (k : ℕ) (m other : Method) → Overrides (compared unit) c m k other → (Substitutable (compared unit).classes m.result other.result → ⊥) ⊎ (m.form ≡ other.form → ⊥) ⊎ (other.is_final ≡ true) → BadOverrides m.site
  overrides_in_parts c judged k m other o conflict =
      let p = placed (compared unit).methods m o.method in
      let same = subst (λ x. Equivalent (compared unit) (class_type x) m k other) (sym o.own) o.same in
      inr (inl (p.0, m, p.1, ((subst (IsJudged unit) (sym o.own) judged, (k, other, same.0, (same.1, λ e. o.elsewhere (e ∙ o.own), conflict))), refl)))

  method_in_parts : (c : ℕ) → IsJudged unit c → (n : ℕ) → HasWrongMethod (compared unit) c n → BadOverrides n
  method_in_parts c judged _ (wrong_result {k} {m} {other} o s) = overrides_in_parts c judged k m other o (inl s)
  method_in_parts c judged _ (static_against_instance {k} {m} {other} o f) = overrides_in_parts c judged k m other o (inr (inl f))
  method_in_parts c judged _ (overrides_final {k} {m} {other} o g) = overrides_in_parts c judged k m other o (inr (inr g))
  method_in_parts c judged _ (inherited_results {row} {k} {m} at inherits none) = inr (inr (c, row, at, ((judged, (k, m, inherits.has.0, (inherits, inl none))), refl)))
  method_in_parts c judged _ (inherited_static {row} {k} {m} {other} j at inherits same differs) = inr (inr (c, row, at, ((judged, (k, m, inherits.has.0, (inherits, inr (j, other, same.0, (same.1, differs))))), refl)))

  pub override_in_parts : (n : ℕ) → Breaks unit rule.BadOverride n → BadOverrides n
  override_in_parts n (c, judged, h) = elim h [ inl s ↦ supertype_in_parts c judged n s | inr m ↦ method_in_parts c judged n m ]

  -- ---- NotImplemented

  abbrev pub NotImplementeds : ℕ → Type 0
  NotImplementeds = NotImplementedsIn (table unit) (compared unit) (classes_of unit)

  wrong_body : (c : ℕ) (k : ClassSyntax) (m : Member) → HasMember unit c k m → (n : ℕ) → WrongBodyIn k.is_interface m n → IsNotImplemented unit c n
  wrong_body c k syntax.Member.Nothing has n h = absurd h
  wrong_body c k (syntax.Initializer is_static block) has n h = absurd h
  wrong_body c k (syntax.Fields ms ty declarators) has n h = absurd h
  wrong_body c k (syntax.Method g result Absent) has n h =
      subst (IsNotImplemented unit c) h.1 (elim h.0 [ inl a ↦ body_missing has refl a | inr r ↦ elim r [ inl s ↦ static_without_body has refl s | inr p ↦ private_without_body has refl p ] ])
  wrong_body c k (syntax.Method g result (Some body)) has n h = subst (IsNotImplemented unit c) h.1 (body_too_much has refl h.0)
  wrong_body c k (syntax.Constructor g own_call brace parts end) has n h = subst (IsNotImplemented unit c) h.1 (abstract_constructor has refl h.0)
  wrong_body c k syntax.Member.Unknown has n h = absurd h

  pub implemented_of_parts : (n : ℕ) → NotImplementeds n → Breaks unit rule.NotImplemented n
  implemented_of_parts n h =
      elim h [
        | inl (k, m, at, d) ↦ (m.class, d.0.0, subst (IsNotImplemented unit m.class) d.1 (declares_abstract d.0.2.1 d.0.2.2 (contained (table unit).methods k m at) refl d.0.1))
        | inr rest ↦ elim rest [
          | inl (c, row, at, l) ↦ (c, l.0.0, subst (IsNotImplemented unit c) l.1 (left_in at l.0.1 l.0.2.3.0 l.0.2.3.1 l.0.2.3.2))
          | inr (i, k, at, w) ↦ (first_source_class + i, w.0, wrong_body (first_source_class + i) k w.1.1 (record { written = in_numbered first_source_class (classes_of unit) i k at; member = contained k.members w.1.0 w.1.1 w.1.2 }) n w.1.3)
        ]
      ]

  body_in_parts : (c : ℕ) (k : ClassSyntax) (m : Member) → IsJudged unit c → HasMember unit c k m → (n : ℕ) → WrongBodyIn k.is_interface m n → NotImplementeds n
  body_in_parts c k m judged has n wrong =
      let at = of_numbered first_source_class (classes_of unit) c k has.written in
      let p = placed k.members m has.member in
      inr (inr (at.0, k, at.1, (subst (IsJudged unit) (sym at.2) judged, (p.0, m, p.1, wrong))))

  without_body : (in_interface : Bool) (m : Member) (h : Header) → header_without_body m ≡ Some h → WantsBody in_interface h → WrongBodyIn in_interface m h.name.token
  without_body in_interface syntax.Member.Nothing h is wants = absurd (cc)
  without_body in_interface (syntax.Initializer is_static block) h is wants = absurd (cc)
  without_body in_interface (syntax.Fields ms ty declarators) h is wants = absurd (cc)
  without_body in_interface (syntax.Method g result Absent) h is wants = let same : h ≡ g = cc in subst (λ (x : Header). Here (WantsBody in_interface x) x.name.token h.name.token) same (wants, refl)
  without_body in_interface (syntax.Method g result (Some body)) h is wants = absurd (cc)
  without_body in_interface (syntax.Constructor g own_call brace parts end) h is wants = absurd (cc)
  without_body in_interface syntax.Member.Unknown h is wants = absurd (cc)

  with_body : (in_interface : Bool) (m : Member) (h : Header) → header_with_body m ≡ Some h → (in_interface || has modifier.Abstract h.modifiers) ≡ true → WrongBodyIn in_interface m h.name.token
  with_body in_interface syntax.Member.Nothing h is wants = absurd (cc)
  with_body in_interface (syntax.Initializer is_static block) h is wants = absurd (cc)
  with_body in_interface (syntax.Fields ms ty declarators) h is wants = absurd (cc)
  with_body in_interface (syntax.Method g result Absent) h is wants = absurd (cc)
  with_body in_interface (syntax.Method g result (Some body)) h is wants = let same : h ≡ g = cc in subst (λ (x : Header). Here ((in_interface || has modifier.Abstract x.modifiers) ≡ true) x.name.token h.name.token) same (wants, refl)
  with_body in_interface (syntax.Constructor g own_call brace parts end) h is wants = absurd (cc)
  with_body in_interface syntax.Member.Unknown h is wants = absurd (cc)

  of_constructor : (in_interface : Bool) (m : Member) (h : Header) → constructor_header m ≡ Some h → has modifier.Abstract h.modifiers ≡ true → WrongBodyIn in_interface m h.name.token
  of_constructor in_interface syntax.Member.Nothing h is wants = absurd (cc)
  of_constructor in_interface (syntax.Initializer is_static block) h is wants = absurd (cc)
  of_constructor in_interface (syntax.Fields ms ty declarators) h is wants = absurd (cc)
  of_constructor in_interface (syntax.Method g result body) h is wants = absurd (cc)
  of_constructor in_interface (syntax.Constructor g own_call brace parts end) h is wants = let same : h ≡ g = cc in subst (λ (x : Header). Here (has modifier.Abstract x.modifiers ≡ true) x.name.token h.name.token) same (wants, refl)
  of_constructor in_interface syntax.Member.Unknown h is wants = absurd (cc)

  implemented_at : (c : ℕ) → IsJudged unit c → (n : ℕ) → IsNotImplemented unit c n → NotImplementeds n
  implemented_at c judged _ (declares_abstract {row} {m} at concrete member own abstract) =
      let p = placed (table unit).methods m member in
      inl (p.0, m, p.1, ((subst (IsJudged unit) (sym own) judged, abstract, (row, subst (λ x. slice_get classes x ≡ Some row) (sym own) at, concrete)), refl))
  implemented_at c judged _ (left_in {row} {k} {m} at concrete inherits counts abstract) = inr (inl (c, row, at, ((judged, concrete, (k, m, inherits.has.0, (inherits, counts, abstract))), refl)))
  implemented_at c judged _ (body_missing {k} {m} {h} has is wants) = body_in_parts c k m judged has h.name.token (without_body k.is_interface m h is (inl wants))
  implemented_at c judged _ (body_too_much {k} {m} {h} has is wants) = body_in_parts c k m judged has h.name.token (with_body k.is_interface m h is wants)
  implemented_at c judged _ (abstract_constructor {k} {m} {h} has is wants) = body_in_parts c k m judged has h.name.token (of_constructor k.is_interface m h is wants)
  implemented_at c judged _ (static_without_body {k} {m} {h} has is wants) = body_in_parts c k m judged has h.name.token (without_body k.is_interface m h is (inr (inl wants)))
  implemented_at c judged _ (private_without_body {k} {m} {h} has is wants) = body_in_parts c k m judged has h.name.token (without_body k.is_interface m h is (inr (inr wants)))

  pub implemented_in_parts : (n : ℕ) → Breaks unit rule.NotImplemented n → NotImplementeds n
  implemented_in_parts n (c, judged, h) = implemented_at c judged n h
