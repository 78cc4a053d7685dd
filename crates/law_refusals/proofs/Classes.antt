-- Where the bodies of a class are refused, something in them breaks the rule.
use Rattle.std.proofs.Common.{◌≡◌, ◌∙◌, ap, subst, refl, ℕ, Bool, true, false, List, [], ◌∷◌, ◌++◌, Option, Some, Result, Ok, Err}
use Rattle.std.specs.Prelude.{not}
use Rattle.std.specs.Prelude.{None as Absent}
use Rattle.std.specs.List.{All}
use Rattle.std.proofs.lemmas.List.Elements.{All-head, All-tail}
use Rattle.wy_kernel.specs.Form as kernel
use Rattle.wy_kernel.specs.Program.{Body}
use Rattle.wy_syntax.specs.Syntax.{WrittenType, Declarator, Placed, OwnCall, Header, Braced, Statements, Member, ClassSyntax}
use Rattle.wy_syntax.specs.Syntax as source
use Rattle.wy_constant.specs.Refusal.{Refusal}
use Rattle.wy_constant.specs.Scope.{Scope, body_of}
use Rattle.wy_elab_expr.specs.Meaning.{Gets, give, ◌>>=◌}
use Rattle.wy_elab_expr.specs.Operators.{Settles}
use Rattle.wy_elab_body.specs.declared.place.Role.{Role}
use Rattle.wy_elab_body.specs.Jumps.{Around}
use Rattle.wy_elab_body.specs.declared.place.Role.TheVariants.{InitializerBody, FieldsBody}
use Rattle.wy_elab_body.specs.Places.{declares_constructor}
use Rattle.wy_elab_body.specs.Making as making
use Rattle.wy_elab_body.specs.Making.{Making, Makes, begun, resumed, rejoined, with_texts}
use Rattle.wy_elab_body.specs.Statements.{Setting, block}
use Rattle.wy_elab_body.specs.Bodies.{Growing, Growth, around_initializer, end_of, method_block, constructor_block, implied_constructor_block, initializer_block, field_initials}
use Rattle.wy_elab_body.specs.Bodies as bodies
use Rattle.wy_elab_stmt.specs.Classes.{whole, with_body, grown, in_initializer, in_fields, is_static, member, members, implied_constructor, none_yet, finished, of_class, of_interface, class_bodies}
use Rattle.law_refusals.proofs.Walk.{Only, only_give, only_if, only_bind, only_weaker}
use Rattle.law_well_formed.specs.Complete.{IsCompleteDeclarator, IsCompleteBlock, AreCompleteStatements, HasCompleteCall, IsCompleteMember, IsCompleteClass}
use Rattle.law_refusals.specs.Members.{IsBrokenMethod, IsBrokenConstructor, HasBadStart, HasBadField, IsBrokenBlock}
use Rattle.law_refusals.proofs.Steps.{OnlyFrom, from_give, from_bind, from_weaker}
use Rattle.law_refusals.proofs.Nested.{block_due}
use Rattle.law_refusals.proofs.Bodies.{method_due, constructor_due, implied_due, field_due}
use Rattle.law_refusals.specs.Units.{Grows, InMembers, IsBrokenMember, IsBrokenClass}
use Rattle.law_refusals.specs.Units as units

-- ---- bodies that go on

rejoined_by : {A : Type 0} (r : Result (A × Making) Refusal) (x : Refusal) → rejoined r ≡ Err x → r ≡ Err x
rejoined_by (Ok p) x h = absurd (cc)
rejoined_by (Err y) x h = let same : y ≡ x = cc in ap Err same

resumed_only : {A : Type 0} {P : Refusal → Type 0} (m : Making) (f : Makes A) → ((b : Making) → b.scope ≡ m.scope → OnlyFrom P f b) → Only P (resumed m f)
unfolding resumed
resumed_only m f k = record { at = λ texts x h. (k (with_texts m texts) refl).at x (rejoined_by (f (with_texts m texts)) x h) }

whole_only : {P : Refusal → Type 0} (m : Making) (end : ℕ) (f : Makes kernel.Statement) → ((b : Making) → b.scope ≡ m.scope → OnlyFrom P f b) → Only P (whole m end f)
whole_only m end f k = only_bind {m = resumed m f} {f = λ p. give (bodies.body_of p.0 p.1 end)} (resumed_only m f k) (λ p u v is. only_give)

grown_only : {P : Refusal → Type 0} (g : Growing) (f : Makes (List kernel.Statement)) → ((b : Making) → b.scope ≡ g.making.scope → OnlyFrom P f b) → Only P (grown g f)
grown_only g f k = only_bind {m = resumed g.making f} {f = λ p. give (record { making = p.1; parts = g.parts ++ p.0 })} (resumed_only g.making f k) (λ p u v is. only_give)

begun_scope : (c : ℕ) (has_this : Bool) (site : ℕ) → (begun c has_this site).scope ≡ body_of c has_this
unfolding begun
begun_scope c has_this site = refl

module _ (w : Setting) (g : Settles w.table w.judgement) (c : ℕ) (k : ClassSyntax) where
  abbrev MemberBroken : Growth → Member → Refusal → Type 0
  MemberBroken growth m r = IsBrokenMember w c k growth m r.rule r.token

  -- a block, a method and the rest, from here
  block_from : (a : Around) (x : Braced) (b : Making) → IsCompleteBlock x → OnlyFrom (λ r. IsBrokenBlock w a b.scope x r.rule r.token) (block w a x) b
  block_from a x b h = record { at = λ r e. block_due w g a x b r.rule r.token h e }

  initializer_from : (role : Role) (x : Braced) (s : Scope) (b : Making) → b.scope ≡ s → IsCompleteBlock x → OnlyFrom (λ r. IsBrokenBlock w (around_initializer w k role) s x r.rule r.token) (initializer_block w k role x) b
  initializer_from role x s b same h =
      from_bind {f = block w (around_initializer w k role) x} {g = λ y. making.give (y ∷ [])}
      (from_weaker (λ r q. let Q : Scope → Type 0 = λ z. IsBrokenBlock w (around_initializer w k role) z x r.rule r.token in subst Q same q) (block_from (around_initializer w k role) x b h)) (λ y d is. from_give)

  fields_from : (is_static_one : Bool) (ty : WrittenType) (all : List Declarator) (s : Scope) (b : Making) → b.scope ≡ s → All IsCompleteDeclarator all → OnlyFrom (λ r. HasBadField w c is_static_one ty s all r.rule r.token) (field_initials w c is_static_one ty all) b
  fields_from is_static_one ty all s b same h =
      record { at = λ r e. let Q : Scope → Type 0 = λ z. HasBadField w c is_static_one ty z all r.rule r.token in subst Q same (field_due w g c is_static_one ty all b r.rule r.token h e) }

  in_initializer_only : {P : Refusal → Type 0} (growth : Growth) (f : Makes (List kernel.Statement)) → ((b : Making) → b.scope ≡ growth.initializer.making.scope → OnlyFrom P f b) → Only P (in_initializer growth f)
  in_initializer_only growth f h = only_bind {m = grown growth.initializer f} {f = λ x. give (record growth { initializer = x })} (grown_only growth.initializer f h) (λ x u v is. only_give)

  in_fields_only : {P : Refusal → Type 0} (growth : Growth) (f : Makes (List kernel.Statement)) → ((b : Making) → b.scope ≡ growth.fields.making.scope → OnlyFrom P f b) → Only P (in_fields growth f)
  in_fields_only growth f h = only_bind {m = grown growth.fields f} {f = λ x. give (record growth { fields = x })} (grown_only growth.fields f h) (λ x u v is. only_give)

  method_from : (h : Header) (result : Option WrittenType) (x : Braced) (s : Scope) (b : Making) → b.scope ≡ s → IsCompleteBlock x → OnlyFrom (λ r. IsBrokenMethod w s h result x r.rule r.token) (method_block w h result x) b
  method_from h result x s b same written =
      record { at = λ r e. let Q : Scope → Type 0 = λ z. IsBrokenMethod w z h result x r.rule r.token in subst Q same (method_due w g h result x b r.rule r.token written e) }

  constructor_from : (h : Header) (own : Option OwnCall) (brace : ℕ) (parts : Statements) (s : Scope) (b : Making) → b.scope ≡ s → HasCompleteCall own → AreCompleteStatements parts →
      OnlyFrom (λ r. IsBrokenConstructor w s c k h own brace parts r.rule r.token) (constructor_block w c k h own brace parts) b
  constructor_from h own brace parts s b same call written =
      record { at = λ r e. let Q : Scope → Type 0 = λ z. IsBrokenConstructor w z c k h own brace parts r.rule r.token in subst Q same (constructor_due w g c k h own brace parts b r.rule r.token call written e) }

  member_only : (growth : Growth) (m : Member) → IsCompleteMember m → Only (MemberBroken growth m) (member w c k growth m)
  unfolding member
  member_only growth (source.Initializer true x) h =
      in_initializer_only growth (initializer_block w k InitializerBody x) (λ b same. from_weaker (λ r q. units.of_static_block q) (initializer_from InitializerBody x growth.initializer.making.scope b same h))
  member_only growth (source.Initializer false x) h =
      in_fields_only growth (initializer_block w k FieldsBody x) (λ b same. from_weaker (λ r q. units.of_block q) (initializer_from FieldsBody x growth.fields.making.scope b same h))
  member_only growth (source.Fields ms ty all) h =
      only_if {b = is_static ms} {m = in_initializer growth (field_initials w c true ty all)} {n = in_fields growth (field_initials w c false ty all)}
      (λ e. in_initializer_only growth (field_initials w c true ty all) (λ b same. from_weaker (λ r q. units.of_static_fields e q) (fields_from true ty all growth.initializer.making.scope b same h)))
      (λ e. in_fields_only growth (field_initials w c false ty all) (λ b same. from_weaker (λ r q. units.of_fields e q) (fields_from false ty all growth.fields.making.scope b same h)))
  member_only growth (source.Method h result Absent) written = only_give
  member_only growth (source.Method h result (Some x)) written =
      only_bind {m = whole (begun c (not (is_static h.modifiers)) h.name.token) (end_of x) (method_block w h result x)} {f = λ body. give (with_body growth (Some body))}
      (whole_only (begun c (not (is_static h.modifiers)) h.name.token) (end_of x) (method_block w h result x)
      (λ b same. from_weaker (λ r q. units.of_method q) (method_from h result x (body_of c (not (is_static h.modifiers))) b (same ∙ begun_scope c (not (is_static h.modifiers)) h.name.token) written)))
      (λ body u v is. only_give)
  member_only growth (source.Constructor h own brace parts end) written =
      only_bind {m = whole (begun c true h.name.token) end (constructor_block w c k h own brace parts)} {f = λ body. give (with_body growth (Some body))}
      (whole_only (begun c true h.name.token) end (constructor_block w c k h own brace parts)
      (λ b same. from_weaker (λ r q. units.of_constructor q) (constructor_from h own brace parts (body_of c true) b (same ∙ begun_scope c true h.name.token) written.0 written.1)))
      (λ body u v is. only_give)
  member_only growth source.Member.Nothing h = only_give
  member_only growth source.Member.Unknown h = only_give

  -- one of the members breaks the rule
  record MembersBroken (growth : Growth) (rest : List Member) (r : Refusal) : Type 0 where
    there : Growth
    part : Member
    stands : InMembers w c k growth rest there part
    broken : MemberBroken there part r

  members_only : (growth : Growth) (rest : List Member) → All IsCompleteMember rest → Only (MembersBroken growth rest) (members w c k growth rest)
  unfolding members
  members_only growth [] h = only_give
  members_only growth (m ∷ rest) h =
      only_bind {m = member w c k growth m} {f = λ next. members w c k next rest}
      (only_weaker (λ r q. record { there = growth; part = m; stands = units.InMembers.here; broken = q }) (member_only growth m (All-head IsCompleteMember m rest h)))
      (λ next u v is. only_weaker (λ r q. record { there = q.there; part = q.part; stands = units.InMembers.later (record { before = u; after = v; made = is }) q.stands; broken = q.broken })
      (members_only next rest (All-tail IsCompleteMember m rest h)))

  abbrev ClassBroken : Refusal → Type 0
  ClassBroken r = IsBrokenClass w c k r.rule r.token

  of_members : IsCompleteClass k → Only ClassBroken (members w c k (none_yet c k) k.members)
  of_members h = only_weaker (λ r q. units.of_member q.stands q.broken) (members_only (none_yet c k) k.members h)

  implied_only : k.is_interface ≡ false → Only ClassBroken (implied_constructor w c k)
  unfolding implied_constructor
  implied_only plain =
      let body : Gets Body = whole (begun c true k.name.token) k.name.token (implied_constructor_block w c k) in
      only_if {b = declares_constructor k} {m = give []} {n = body >>= λ x. give (Some x ∷ [])} (λ e. only_give)
      (λ e. only_bind {m = body} {f = λ x. give (Some x ∷ [])}
      (whole_only (begun c true k.name.token) k.name.token (implied_constructor_block w c k)
      (λ b same. record { at = λ r h. let Q : Scope → Type 0 = λ z. HasBadStart w z c k.name.token Absent r.rule r.token in units.implied plain e (subst Q (same ∙ begun_scope c true k.name.token) (implied_due w g c k b r.rule r.token h)) }))
      (λ x u v is. only_give))

  pub class_only : IsCompleteClass k → Only ClassBroken (class_bodies w c k)
  unfolding class_bodies
  class_only h =
      only_if {b = k.is_interface} {m = of_interface w c k} {n = of_class w c k}
      (λ e. only_bind {m = members w c k (none_yet c k) k.members} {f = λ growth. give (record { bodies = growth.bodies; initializer = Absent })} (of_members h) (λ growth u v is. only_give))
      (λ e. only_bind {m = implied_constructor w c k} {f = λ first. members w c k (none_yet c k) k.members >>= λ growth. give (finished w k first growth)} (implied_only e)
      (λ first u v is. only_bind {m = members w c k (none_yet c k) k.members} {f = λ growth. give (finished w k first growth)} (of_members h) (λ growth x y it. only_give)))
