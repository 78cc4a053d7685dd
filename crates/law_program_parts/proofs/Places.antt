-- The places of a class and of its members are among those of its text.
use Rattle.std.proofs.Common.{◌≡◌, sym, ap, subst, ℕ, ◌+◌, Bool, true, false, List, [], ◌∷◌, ◌++◌, if◌then◌else◌}
use Rattle.std.specs.Prelude.{Option, Some, None, slice_get, flat_map, filter, is_some, not}
use Rattle.std.specs.List.{Contains, enumerate_from}
use Rattle.std.proofs.lemmas.List.Elements.{Contains-append_left, Contains-append_right}
use Rattle.wy_kernel.specs.Program.{Program, Class, first_source_class}
use Rattle.wy_kernel.specs.Table.{Table, ConstantValue}
use Rattle.wy_syntax.specs.Syntax.{Declarator, OwnCall, Member, ClassSyntax}
use Rattle.wy_constant.specs.Fields.{superclass}
use Rattle.wy_members.specs.Declarations.{CompilationUnit, classes_of}
use Rattle.wy_members.proofs.Contained.{placed, in_flat, in_mapped, in_numbered}
use Rattle.wy_elab_body.specs.declared.place.Place.{Place}
use Rattle.wy_elab_body.specs.declared.place.Role.{Role}
use Rattle.wy_elab_body.specs.declared.place.Role.TheVariants.{InitializerBody, FieldsBody, ConstructorBody, SuperCall, FieldsCall, Written}
use Rattle.wy_elab_body.specs.Places.{at, written, is_object, calls_superclass, has_fields_unit, declares_constructor, place_if, implied_calls, first_calls, initialized_places, member_places, implied_constructor_places, class_places, places_of}
use Rattle.law_typed.specs.ExpressionsTyped.{table_of}
use Rattle.law_program_parts.proofs.MembersLists.{Within, here, later, kept}

-- ---- a class among all

pub class_within : (t : Table) (unit : CompilationUnit) (i : ℕ) (k : ClassSyntax) → slice_get (classes_of unit) i ≡ Some k → Within (places_of t unit) (class_places t (first_source_class + i) k)
class_within t unit i k e x h =
    let numbered = placed (enumerate_from first_source_class (classes_of unit)) (first_source_class + i, k) (in_numbered first_source_class (classes_of unit) i k e) in
    in_flat (λ (q : ℕ × ClassSyntax). class_places t q.0 q.1) (enumerate_from first_source_class (classes_of unit)) numbered.0 (first_source_class + i, k) x numbered.1 h

-- ---- what stands in a class

module _ (t : Table) (c : ℕ) (k : ClassSyntax) (is_class : k.is_interface ≡ false) where
  abbrev initializer_place : Place
  initializer_place = at k.name.token InitializerBody

  abbrev fields_place : List Place
  fields_place = place_if (has_fields_unit k) k.name.token FieldsBody

  abbrev of_members : List Place
  of_members = flat_map (member_places t c k) k.members

  abbrev whole : List Place
  whole = initializer_place ∷ (fields_place ++ implied_constructor_places t c k ++ of_members)

  in_class : Within (class_places t c k) whole
  unfolding class_places
  in_class x h = let P : Bool → Type 0 = λ b. Contains (if b then [] else whole) x in subst P (sym is_class) h

  pub initializer_within : Contains (class_places t c k) initializer_place
  initializer_within = in_class initializer_place (here initializer_place (fields_place ++ implied_constructor_places t c k ++ of_members))

  where_so : (b : Bool) (site : ℕ) (role : Role) → b ≡ true → Contains (place_if b site role) (at site role)
  where_so true site role e = here (at site role) []
  where_so false site role e = absurd (cc)

  pub fields_within : has_fields_unit k ≡ true → Contains (class_places t c k) (at k.name.token FieldsBody)
  fields_within e =
      let x : Place = at k.name.token FieldsBody in
      in_class x (later initializer_place _ x (Contains-append_left (fields_place ++ implied_constructor_places t c k) of_members x (Contains-append_left fields_place (implied_constructor_places t c k) x
      (where_so (has_fields_unit k) k.name.token FieldsBody e))))

  constructor_within : Within (class_places t c k) (implied_constructor_places t c k)
  constructor_within x h =
      in_class x (later initializer_place _ x (Contains-append_left (fields_place ++ implied_constructor_places t c k) of_members x (Contains-append_right fields_place (implied_constructor_places t c k) x h)))

  implied_within : declares_constructor k ≡ false → Within (class_places t c k) (at k.name.token ConstructorBody ∷ implied_calls t c k k.name.token)
  implied_within e x h =
      let P : Bool → Type 0 = λ b. Contains (if b then [] else at k.name.token ConstructorBody ∷ implied_calls t c k k.name.token) x in
      constructor_within x (subst P (sym e) h)

  pub implied_place : declares_constructor k ≡ false → Contains (class_places t c k) (at k.name.token ConstructorBody)
  implied_place e = implied_within e (at k.name.token ConstructorBody) (here (at k.name.token ConstructorBody) (implied_calls t c k k.name.token))

  pub implied_calls_within : declares_constructor k ≡ false → Within (class_places t c k) (implied_calls t c k k.name.token)
  implied_calls_within e x h = implied_within e x (later (at k.name.token ConstructorBody) (implied_calls t c k k.name.token) x h)

  pub member_within : (j : ℕ) (m : Member) → slice_get k.members j ≡ Some m → Within (class_places t c k) (member_places t c k m)
  member_within j m e x h =
      in_class x (later initializer_place _ x (Contains-append_right (fields_place ++ implied_constructor_places t c k) of_members x (in_flat (member_places t c k) k.members j m x e h)))

-- ---- the calls that begin a constructor

same_superclass : (p : Program) (constants : List (Option ConstantValue)) (t : Table) (c : ℕ) → p.classes ≡ t.classes → calls_superclass (table_of p constants) c ≡ calls_superclass t c
unfolding calls_superclass
same_superclass p constants t c e = ap (λ (classes : List Class). not (is_object (superclass (slice_get classes c)))) e

pub same_calls : (p : Program) (constants : List (Option ConstantValue)) (t : Table) (c : ℕ) (k : ClassSyntax) (site : ℕ) (own : Option OwnCall) → p.classes ≡ t.classes →
    first_calls (table_of p constants) c k site own ≡ first_calls t c k site own
same_calls p constants t c k site None e = ap (λ (b : Bool). place_if b site SuperCall ++ place_if (has_fields_unit k) site FieldsCall) (same_superclass p constants t c e)
same_calls p constants t c k site (Some call) e =
    ap (λ (b : Bool). if call.is_super then place_if b call.token Written ++ place_if (has_fields_unit k) site FieldsCall else written call.token ∷ []) (same_superclass p constants t c e)

-- ---- fields with values

pub initialized_within : (ds : List Declarator) (n : ℕ) (d : Declarator) → slice_get ds n ≡ Some d → is_some d.initial ≡ true → Contains (initialized_places ds) (written d.name.token)
initialized_within ds n d e given =
    let test : Declarator → Bool = λ d. is_some d.initial in
    let some = placed (filter test ds) d (kept test ds n d e given) in
    in_mapped (λ (d : Declarator). written d.name.token) (filter test ds) some.0 d some.1
