-- The members of each class of a well-formed tree stand among its places and its fields.
use Rattle.std.proofs.Common.{◌≡◌, ◌∙◌, refl, sym, ap, subst, arith, ℕ, suc, ◌+◌, ◌<◌, Bool, true, false, List, [], ◌∷◌, length}
use Rattle.std.specs.Prelude.{Some, None, slice_get, is_some}
use Rattle.std.specs.List.{AllByRecursion, Contains}
use Rattle.std.proofs.lemmas.List.Elements.{All-contains, Contains-append_left, Contains-append_right}
use Rattle.std.proofs.lemmas.Map.Keys.{any_passes_from_place}
use Rattle.std.proofs.lemmas.Option.{slice_get_within}
use Rattle.wy_kernel.specs.Program.{Program, Class, first_source_class}
use Rattle.wy_kernel.specs.Table.{Table}
use Rattle.wy_syntax.specs.Syntax.{Declarator, Member, ClassSyntax}
use Rattle.wy_syntax.specs.Syntax as source
use Rattle.wy_syntax.specs.Declarations.{unit}
use Rattle.wy_members.specs.Declarations.{CompilationUnit, classes_of, initializes_objects, table}
use Rattle.wy_members.specs.Refusal.{KeepsRules}
use Rattle.wy_members.proofs.Contained.{contained}
use Rattle.wy_members.proofs.InRange.{many_classes}
use Rattle.wy_elab_body.specs.declared.place.Place.{Place}
use Rattle.wy_elab_body.specs.declared.place.Role.TheVariants.{InitializerBody, FieldsBody, ConstructorBody}
use Rattle.wy_elab_body.specs.Places.{at, written, block_places, all_places, first_calls, implied_calls, initialized_places, member_places, class_places, places_of}
use Rattle.wy_elab_stmt.specs.Classes.{is_static}
use Rattle.law_typed.specs.StatementsTyped.{AreAmong}
use Rattle.law_typed.specs.StatementsWritten.{OptionWritten}
use Rattle.law_program_parts.specs.Classes.{FieldStands, MemberStands, ClassStands}
use Rattle.law_program_parts.specs.Rows.{DeclarationStands, AllStand}
use Rattle.law_program_parts.specs.Shapes.{DeclarationKeeps, AllKeep}
use Rattle.law_well_formed.specs.Written.{MemberWritten, ClassWritten, UnitWritten}
use Rattle.law_program_parts.specs.BodiesLaws.{TreesKeep}
use Rattle.law_program_parts.proofs.BodiesLists.{all_at, at_all}
use Rattle.law_program_parts.specs.MembersLaws.{TreesStand}
use Rattle.law_program_parts.proofs.MembersLists.{Within, all_within}
use Rattle.law_program_parts.proofs.Places.{class_within, initializer_within, fields_within, implied_place, implied_calls_within, member_within, same_calls, initialized_within}
use Rattle.law_program_parts.proofs.Fields.{field_declared}

-- classes each of which stands stand all, the first of number c
all_stand : (p : Program) (t : Table) (all : List Place) (c : ℕ) (ks : List ClassSyntax) → ((i : ℕ) (k : ClassSyntax) → slice_get ks i ≡ Some k → DeclarationStands p t.constants all (c + i) k k.is_interface) → AllStand p t.constants all c ks
all_stand p t all c [] h = tt
all_stand p t all c (k ∷ ks) h = (
  let P : ℕ → Type 0 = λ n. DeclarationStands p t.constants all n k k.is_interface in subst P (omega arith) (h 0 k refl),
  all_stand p t all (suc c) ks (λ i x e. let P : ℕ → Type 0 = λ n. DeclarationStands p t.constants all n x x.is_interface in subst P (omega arith) (h (suc i) x e)),
)

module _ (unit : CompilationUnit) (keeps : KeepsRules unit) (said : UnitWritten unit) (t : Table) (p : Program) (classes : p.classes ≡ t.classes) (classes_are : p.classes ≡ (table unit).classes) (fields_are : p.fields ≡ (table unit).fields) where
  abbrev all : List Place
  all = places_of t unit

  module _ (i : ℕ) (k : ClassSyntax) (at_class : slice_get (classes_of unit) i ≡ Some k) (is_class : k.is_interface ≡ false) where
    abbrev c : ℕ
    c = first_source_class + i

    in_class : Within all (class_places t c k)
    in_class = class_within t unit i k at_class

    class_said : ClassWritten k
    class_said = All-contains ClassWritten (classes_of unit) k said (contained (classes_of unit) i k at_class)

    begins : (j : ℕ) (m : Member) → slice_get k.members j ≡ Some m → initializes_objects m ≡ true → Contains all (at k.name.token FieldsBody)
    begins j m e is = in_class (at k.name.token FieldsBody) (fields_within t c k is_class (any_passes_from_place initializes_objects k.members j m e is))

    field_stands : (j : ℕ) (ms : List source.Placed) (ty : source.WrittenType) (ds : List Declarator) → slice_get k.members j ≡ Some (source.Fields ms ty ds) → Within all (initialized_places ds) → AllByRecursion (λ (d : Declarator). OptionWritten d.initial) ds →
        (n : ℕ) (d : Declarator) → slice_get ds n ≡ Some d → FieldStands p c all (is_static ms) ty d
    field_stands j ms ty ds e within h n d f = record {
      declared = field_declared unit keeps i k at_class j ms ty ds e p classes_are fields_are n d f;
      place = λ given. within (written d.name.token) (initialized_within ds n d f (ap (λ o. is_some o) given.1));
      said = at_all (λ (d : Declarator). OptionWritten d.initial) ds n d h f;
    }

    member_by : (j : ℕ) (m : Member) → slice_get k.members j ≡ Some m → MemberWritten m → Within all (member_places t c k m) → MemberStands p t.constants all c k m
    unfolding member_places
    member_by j (source.Initializer true block) e h within = (in_class (at k.name.token InitializerBody) (initializer_within t c k is_class), all_within all (block_places block) within, h)
    member_by j (source.Initializer false block) e h within = (begins j (source.Initializer false block) e refl, all_within all (block_places block) within, h)
    member_by j (source.Fields ms ty ds) e h within = all_at (FieldStands p c all (is_static ms) ty) ds (field_stands j ms ty ds e within h)
    member_by j (source.Method h result None) e g within = tt
    member_by j (source.Method h result (Some block)) e g within = (all_within all (block_places block) within, g)
    member_by j (source.Constructor h own brace parts end) e g within =
        let calls : List Place = first_calls t c k h.name.token own in
        let block : List Place = written brace ∷ all_places parts in (
          subst (AreAmong all) (sym (same_calls p t.constants t c k h.name.token own classes)) (all_within all calls (λ x f. within x (Contains-append_left calls block x f))),
          all_within all block (λ x f. within x (Contains-append_right calls block x f)),
          g.0,
          g.1,
        )
    member_by j source.Member.Nothing e h within = tt
    member_by j source.Member.Unknown e h within = tt

    member_stands : (j : ℕ) (m : Member) → slice_get k.members j ≡ Some m → MemberStands p t.constants all c k m
    member_stands j m e =
        member_by j m e (All-contains MemberWritten k.members m class_said (contained k.members j m e)) (λ x h. in_class x (member_within t c k is_class j m e x h))

    class_stands : ClassStands p t.constants all c k
    class_stands =
        let within : i < length (classes_of unit) = slice_get_within (classes_of unit) i k at_class in
        let many = many_classes unit in
        record {
          class = subst (λ (cs : List Class). c < length cs) (sym classes_are) (omega arith);
          initializer = in_class (at k.name.token InitializerBody) (initializer_within t c k is_class);
          fields = λ e. in_class (at k.name.token FieldsBody) (fields_within t c k is_class e);
          constructor = λ e. (
            in_class (at k.name.token ConstructorBody) (implied_place t c k is_class e),
            subst (AreAmong all) (sym (same_calls p t.constants t c k k.name.token None classes)) (all_within all (implied_calls t c k k.name.token) (λ x h. in_class x (implied_calls_within t c k is_class e x h))),
          );
          members = all_at (MemberStands p t.constants all c k) k.members member_stands;
        }

  declaration_by : (i : ℕ) (k : ClassSyntax) → slice_get (classes_of unit) i ≡ Some k → (b : Bool) → k.is_interface ≡ b → DeclarationKeeps k b → DeclarationStands p t.constants all (first_source_class + i) k b
  declaration_by i k e true is h = h
  declaration_by i k e false is h = (class_stands i k e is, h)

  pub unit_stands : AllKeep (classes_of unit) → AllStand p t.constants all first_source_class (classes_of unit)
  unit_stands h = all_stand p t all first_source_class (classes_of unit) (λ i k e. declaration_by i k e k.is_interface refl (at_all (λ (k : ClassSyntax). DeclarationKeeps k k.is_interface) (classes_of unit) i k h e))

pub trees_stand : TreesKeep → TreesStand
trees_stand bodies tree well said keeps t is p classes fields =
    unit_stands (unit 0 tree) keeps said t p classes (classes ∙ ap (λ (x : Table). x.classes) is.rows) (fields ∙ ap (λ (x : Table). x.fields) is.rows) (bodies tree well keeps)
