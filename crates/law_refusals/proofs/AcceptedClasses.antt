-- What breaks a rule in a class is refused.
use Rattle.std.proofs.Common.{◌≡◌, ◌∙◌, ap, sym, subst, refl, ℕ, Bool, true, false, List, ◌++◌, Result, Ok, Err, Some}
use Rattle.std.specs.Prelude.{not, if◌then◌else◌}
use Rattle.std.specs.Prelude.{None as Absent}
use Rattle.wy_kernel.specs.Form as kernel
use Rattle.wy_kernel.specs.Program.{Body}
use Rattle.wy_syntax.specs.Syntax.{WrittenType, Declarator, OwnCall, Header, Braced, Statements, Member, ClassSyntax}
use Rattle.wy_syntax.specs.Syntax as source
use Rattle.wy_constant.specs.declared.rule.Rule.{Rule}
use Rattle.wy_constant.specs.Refusal.{Refusal}
use Rattle.wy_constant.specs.Scope.{Scope, FixedText, body_of}
use Rattle.wy_elab_expr.specs.Meaning.{Gets, give}
use Rattle.wy_elab_expr.specs.Operators.{Settles}
use Rattle.wy_elab_body.specs.declared.place.Role.{Role}
use Rattle.wy_elab_body.specs.declared.place.Role.TheVariants.{InitializerBody, FieldsBody}
use Rattle.wy_elab_body.specs.Places.{declares_constructor}
use Rattle.wy_elab_body.specs.Making.{Making, Makes, begun, resumed, rejoined, with_texts}
use Rattle.wy_elab_body.specs.Statements.{Setting, block}
use Rattle.wy_elab_body.specs.Bodies.{Growing, Growth, around_initializer, end_of, method_block, constructor_block, implied_constructor_block, initializer_block, field_initials}
use Rattle.wy_elab_body.specs.Bodies as bodies
use Rattle.wy_elab_stmt.specs.Classes.{whole, with_body, grown, in_initializer, in_fields, is_static, member, members, implied_constructor, none_yet, class_bodies}
use Rattle.law_refusals.specs.Members.{HasBadStart}
use Rattle.law_refusals.specs.Units.{Grows, InMembers, IsBrokenMember, IsBrokenClass}
use Rattle.law_refusals.specs.Units as units
use Rattle.law_refusals.proofs.ExpressionParts.{gives}
use Rattle.law_refusals.specs.Laws.{KnowsLibrary}
use Rattle.law_refusals.proofs.Never.{Never, never_if, never_then, never_else, never_bind, never_first}
use Rattle.law_refusals.proofs.Makes.{NeverIn, in_first, Steady, Any, any, steady_bind, steady_give}
use Rattle.law_refusals.proofs.Steadies.{steady_of_block}
use Rattle.law_refusals.proofs.AcceptedBodies.{broken_block, broken_method, broken_implied, broken_constructor, steady_fields, broken_fields}

-- ---- bodies that go on

rejoined_is : {A : Type 0} (r : Result (A × Making) Refusal) (p : A × Making) (v : List FixedText) → rejoined r ≡ Ok (p, v) → r ≡ Ok p
rejoined_is {A} (Ok q) p v e = let pair : ◌≡◌ {A = (A × Making) × List FixedText} (q, q.1.texts) (p, v) = cc in ap (λ (z : (A × Making) × List FixedText). Ok z.0) pair
rejoined_is (Err x) p v e = absurd (cc)

never_resumed : {A : Type 0} (m : Making) (f : Makes A) → NeverIn m.scope f → Never (resumed m f)
unfolding resumed
never_resumed m f n = record { at = λ u p v e. n.at (with_texts m u) refl p.0 p.1 (rejoined_is (f (with_texts m u)) p v e) }

never_whole : (m : Making) (end : ℕ) (f : Makes kernel.Statement) → NeverIn m.scope f → Never (whole m end f)
never_whole m end f n = never_first (λ p. give (bodies.body_of p.0 p.1 end)) (never_resumed m f n)

never_grown : (g : Growing) (f : Makes (List kernel.Statement)) → NeverIn g.making.scope f → Never (grown g f)
never_grown g f n = never_first (λ p. give (record { making = p.1; parts = g.parts ++ p.0 })) (never_resumed g.making f n)

begun_scope : (c : ℕ) (has_this : Bool) (site : ℕ) → body_of c has_this ≡ (begun c has_this site).scope
unfolding begun
begun_scope c has_this site = refl

never_begun : (c : ℕ) (has_this : Bool) (site end : ℕ) (f : Makes kernel.Statement) → NeverIn (body_of c has_this) f → Never (whole (begun c has_this site) end f)
never_begun c has_this site end f n = never_whole (begun c has_this site) end f (let P : Scope → Type 0 = λ z. NeverIn z f in subst P (begun_scope c has_this site) n)

-- where bodies go on from one scope, they go on to one
goes_on : {A : Type 0} (m n : Making) (f : Makes A) (u v x y : List FixedText) (p q : A × Making) → Steady Any f f → m.scope ≡ n.scope → resumed m f u ≡ Ok (p, v) → resumed n f x ≡ Ok (q, y) → p.1.scope ≡ q.1.scope
unfolding resumed
goes_on m n f u v x y p q t same e h = (t.at (with_texts m u) (with_texts n x) p.0 q.0 p.1 q.1 same (rejoined_is (f (with_texts m u)) p v e) (rejoined_is (f (with_texts n x)) q y h)).1

given_is : {A : Type 0} (a b : A) (u v : List FixedText) → give a u ≡ Ok (b, v) → a ≡ b
given_is {A} a b u v e = let pair : ◌≡◌ {A = A × List FixedText} (a, u) (b, v) = cc in ap (λ (z : A × List FixedText). z.0) pair

grown_on : (g h : Growing) (f : Makes (List kernel.Statement)) (u v x y : List FixedText) (p q : Growing) → Steady Any f f → g.making.scope ≡ h.making.scope → grown g f u ≡ Ok (p, v) → grown h f x ≡ Ok (q, y) → p.making.scope ≡ q.making.scope
grown_on g h f u v x y p q t same e i =
    let a = gives (resumed g.making f) (λ z. give (record { making = z.1; parts = g.parts ++ z.0 })) u v p e in
    let b = gives (resumed h.making f) (λ z. give (record { making = z.1; parts = h.parts ++ z.0 })) x y q i in
    ap (λ (z : Growing). z.making.scope) (sym (given_is _ p a.between v a.second)) ∙ goes_on g.making h.making f u a.between x b.between a.value b.value t same a.first b.first
    ∙ ap (λ (z : Growing). z.making.scope) (given_is _ q b.between y b.second)

-- two growths of a class, in the same scopes
record AreLevel (g h : Growth) : Type 0 where
  initializer : g.initializer.making.scope ≡ h.initializer.making.scope
  fields : g.fields.making.scope ≡ h.fields.making.scope

module _ (w : Setting) (g : Settles w.table w.judgement) (l : KnowsLibrary w.table) (c : ℕ) (k : ClassSyntax) where
  level_in_initializer : (a b p q : Growth) (f : Makes (List kernel.Statement)) (u v x y : List FixedText) → Steady Any f f → AreLevel a b → in_initializer a f u ≡ Ok (p, v) → in_initializer b f x ≡ Ok (q, y) → AreLevel p q
  level_in_initializer a b p q f u v x y t same e h =
      let i = gives (grown a.initializer f) (λ z. give (record a { initializer = z })) u v p e in
      let o = gives (grown b.initializer f) (λ z. give (record b { initializer = z })) x y q h in
      let first = given_is (record a { initializer = i.value }) p i.between v i.second in
      let second = given_is (record b { initializer = o.value }) q o.between y o.second in
      record {
        initializer = ap (λ (z : Growth). z.initializer.making.scope) (sym first) ∙ grown_on a.initializer b.initializer f u i.between x o.between i.value o.value t same.initializer i.first o.first ∙ ap (λ (z : Growth). z.initializer.making.scope) second;
        fields = ap (λ (z : Growth). z.fields.making.scope) (sym first) ∙ same.fields ∙ ap (λ (z : Growth). z.fields.making.scope) second;
      }

  level_in_fields : (a b p q : Growth) (f : Makes (List kernel.Statement)) (u v x y : List FixedText) → Steady Any f f → AreLevel a b → in_fields a f u ≡ Ok (p, v) → in_fields b f x ≡ Ok (q, y) → AreLevel p q
  level_in_fields a b p q f u v x y t same e h =
      let i = gives (grown a.fields f) (λ z. give (record a { fields = z })) u v p e in
      let o = gives (grown b.fields f) (λ z. give (record b { fields = z })) x y q h in
      let first = given_is (record a { fields = i.value }) p i.between v i.second in
      let second = given_is (record b { fields = o.value }) q o.between y o.second in
      record {
        initializer = ap (λ (z : Growth). z.initializer.making.scope) (sym first) ∙ same.initializer ∙ ap (λ (z : Growth). z.initializer.making.scope) second;
        fields = ap (λ (z : Growth). z.fields.making.scope) (sym first) ∙ grown_on a.fields b.fields f u i.between x o.between i.value o.value t same.fields i.first o.first ∙ ap (λ (z : Growth). z.fields.making.scope) second;
      }

  level_given : (a b p q : Growth) (u v x y : List FixedText) → AreLevel a b → give a u ≡ Ok (p, v) → give b x ≡ Ok (q, y) → AreLevel p q
  level_given a b p q u v x y same e h =
      let first = given_is a p u v e in
      let second = given_is b q x y h in
      record {
        initializer = ap (λ (z : Growth). z.initializer.making.scope) (sym first) ∙ same.initializer ∙ ap (λ (z : Growth). z.initializer.making.scope) second;
        fields = ap (λ (z : Growth). z.fields.making.scope) (sym first) ∙ same.fields ∙ ap (λ (z : Growth). z.fields.making.scope) second;
      }

  steady_initializer : (role : Role) (b : Braced) → Steady Any (initializer_block w k role b) (initializer_block w k role b)
  steady_initializer role b = steady_bind (steady_of_block w (around_initializer w k role) b) (λ x y r. steady_give _ _ any)

  level_if : (s : Bool) (a b p q : Growth) (ty : WrittenType) (all : List Declarator) (u v x y : List FixedText) → AreLevel a b → (if s then in_initializer a (field_initials w c true ty all) else in_fields a (field_initials w c false ty all)) u ≡ Ok (p, v) →
      (if s then in_initializer b (field_initials w c true ty all) else in_fields b (field_initials w c false ty all)) x ≡ Ok (q, y) → AreLevel p q
  level_if true a b p q ty all u v x y same e h = level_in_initializer a b p q (field_initials w c true ty all) u v x y (steady_fields w g l c true ty all) same e h
  level_if false a b p q ty all u v x y same e h = level_in_fields a b p q (field_initials w c false ty all) u v x y (steady_fields w g l c false ty all) same e h

  level_member : (a b p q : Growth) (m : Member) (u v x y : List FixedText) → AreLevel a b → member w c k a m u ≡ Ok (p, v) → member w c k b m x ≡ Ok (q, y) → AreLevel p q
  unfolding member
  level_member a b p q (source.Initializer true z) u v x y same e h = level_in_initializer a b p q (initializer_block w k InitializerBody z) u v x y (steady_initializer InitializerBody z) same e h
  level_member a b p q (source.Initializer false z) u v x y same e h = level_in_fields a b p q (initializer_block w k FieldsBody z) u v x y (steady_initializer FieldsBody z) same e h
  level_member a b p q (source.Fields ms ty all) u v x y same e h = level_if (is_static ms) a b p q ty all u v x y same e h
  level_member a b p q (source.Method i result Absent) u v x y same e h = level_given (with_body a Absent) (with_body b Absent) p q u v x y (record { initializer = same.initializer; fields = same.fields }) e h
  level_member a b p q (source.Method i result (Some z)) u v x y same e h =
      let f : Gets Body = whole (begun c (not (is_static i.modifiers)) i.name.token) (end_of z) (method_block w i result z) in
      let n = gives f (λ body. give (with_body a (Some body))) u v p e in
      let o = gives f (λ body. give (with_body b (Some body))) x y q h in
      level_given (with_body a (Some n.value)) (with_body b (Some o.value)) p q n.between v o.between y (record { initializer = same.initializer; fields = same.fields }) n.second o.second
  level_member a b p q (source.Constructor i own brace parts end) u v x y same e h =
      let f : Gets Body = whole (begun c true i.name.token) end (constructor_block w c k i own brace parts) in
      let n = gives f (λ body. give (with_body a (Some body))) u v p e in
      let o = gives f (λ body. give (with_body b (Some body))) x y q h in
      level_given (with_body a (Some n.value)) (with_body b (Some o.value)) p q n.between v o.between y (record { initializer = same.initializer; fields = same.fields }) n.second o.second
  level_member a b p q source.Member.Nothing u v x y same e h = level_given a b p q u v x y same e h
  level_member a b p q source.Member.Unknown u v x y same e h = level_given a b p q u v x y same e h

  -- ---- members

  of_scope : {A : Type 0} {s t : Scope} (f : Makes A) → s ≡ t → NeverIn s f → NeverIn t f
  of_scope f e n = let P : Scope → Type 0 = λ z. NeverIn z f in subst P e n

  broken_member : {a b : Growth} {m : Member} {r : Rule} {token : ℕ} → AreLevel a b → IsBrokenMember w c k a m r token → Never (member w c k b m)
  unfolding member
  broken_member {b = b} same (units.of_method {h = h} {result = result} {b = z} bad) =
      never_first _ (never_begun c (not (is_static h.modifiers)) h.name.token (end_of z) (method_block w h result z) (broken_method w g l bad))
  broken_member {b = b} same (units.of_constructor {h = h} {own = own} {brace = brace} {end = end} {parts = parts} bad) =
      never_first _ (never_begun c true h.name.token end (constructor_block w c k h own brace parts) (broken_constructor w g l bad))
  broken_member {b = b} same (units.of_static_block {b = z} bad) =
      never_first _ (never_grown b.initializer (initializer_block w k InitializerBody z) (in_first _ (of_scope (block w (around_initializer w k InitializerBody) z) same.initializer (broken_block w g l bad))))
  broken_member {b = b} same (units.of_block {b = z} bad) =
      never_first _ (never_grown b.fields (initializer_block w k FieldsBody z) (in_first _ (of_scope (block w (around_initializer w k FieldsBody) z) same.fields (broken_block w g l bad))))
  broken_member {b = b} same (units.of_static_fields {modifiers = ms} {ty = ty} {all = all} e bad) =
      never_then (is_static ms) _ e (never_first _ (never_grown b.initializer (field_initials w c true ty all) (of_scope (field_initials w c true ty all) same.initializer (broken_fields w g l bad))))
  broken_member {b = b} same (units.of_fields {modifiers = ms} {ty = ty} {all = all} e bad) =
      never_else (is_static ms) _ e (never_first _ (never_grown b.fields (field_initials w c false ty all) (of_scope (field_initials w c false ty all) same.fields (broken_fields w g l bad))))

  broken_among : {a there b : Growth} {all : List Member} {m : Member} {r : Rule} {token : ℕ} → AreLevel a b → InMembers w c k a all there m → IsBrokenMember w c k there m r token → Never (members w c k b all)
  unfolding members
  broken_among {b = b} same (units.InMembers.here {m = m} {rest = rest}) bad = never_first (λ next. members w c k next rest) (broken_member same bad)
  broken_among {a = a} {b = b} same (units.InMembers.later {next = next} {other = other} {rest = rest} grows among) bad =
      never_bind (member w c k b other) (λ n. members w c k n rest)
      (λ n u v is. broken_among (level_member a b next n other grows.before grows.after u v same grows.made is) among bad)

  level_self : (a : Growth) → AreLevel a a
  level_self a = record { initializer = refl; fields = refl }

  never_implied : k.is_interface ≡ false → declares_constructor k ≡ false → {r : Rule} {token : ℕ} → HasBadStart w (body_of c true) c k.name.token Absent r token → Never (implied_constructor w c k)
  unfolding implied_constructor
  never_implied plain e bad = never_else (declares_constructor k) _ e (never_first _ (never_begun c true k.name.token k.name.token (implied_constructor_block w c k) (broken_implied w g k bad)))

  pub broken_class : {r : Rule} {token : ℕ} → IsBrokenClass w c k r token → Never (class_bodies w c k)
  unfolding class_bodies
  broken_class (units.implied plain none bad) = never_else k.is_interface _ plain (never_first _ (never_implied plain none bad))
  broken_class (units.of_member among bad) =
      let n : Never (members w c k (none_yet c k) k.members) = broken_among (level_self (none_yet c k)) among bad in
      never_if {b = k.is_interface} (λ e. never_first _ n) (λ e. never_bind (implied_constructor w c k) _ (λ x u v is. never_first _ n))
