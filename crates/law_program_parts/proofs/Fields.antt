-- Each field of a class is the first one of its name, of the type that it is written with.
use Rattle.std.proofs.Common.{◌≡◌, ◌∙◌, refl, sym, ap, subst, inl, inr, arith, ℕ, zero, suc, ◌+◌, ◌<◌, ◌≤◌, true, List, [], ◌++◌, eqb-true, eq-eqb}
use Rattle.std.specs.Prelude.{Option, Some, None, slice_get, flat_map, unwrap_or, option_to_list, bytes_eq, ◌==◌, ◌⊎◌}
use Rattle.std.specs.List.{Contains, enumerate_from}
use Rattle.std.proofs.lemmas.Bool.{and_parts, and_from}
use Rattle.std.proofs.lemmas.List.Elements.{Contains-append_left, Contains-append_right}
use Rattle.std.proofs.lemmas.Slice.Eq.{bytes_eq-Decides}
use Rattle.wy_kernel.specs.Program.{Program, Class, Field, object_class, first_source_class}
use Rattle.wy_kernel.specs.Builtin as builtin
use Rattle.wy_syntax.specs.Syntax.{Named, WrittenType, Declarator, Placed, Member, ClassSyntax}
use Rattle.wy_syntax.specs.Syntax as source
use Rattle.wy_constant.specs.declared.rule.Rule.TheVariants as rule
use Rattle.wy_constant.specs.Fields.{is_field, declared_field}
use Rattle.wy_members.specs.Declarations.{CompilationUnit, classes_of, denoted, class_or_object, base_type, field_row, fields_in, fields_of, class_by_class, table}
use Rattle.wy_members.specs.Broken.{named_by, named_in, thrown_in, again_field, unknown_class}
use Rattle.wy_members.specs.Refusal.{KeepsRules}
use Rattle.wy_members.proofs.Contained.{contained, placed, in_flat, in_mapped, in_numbered}
use Rattle.wy_elab_stmt.specs.Classes.{is_static}
use Rattle.law_typed.specs.Bodies.{BaseDenotes, IsDeclared}
use Rattle.law_program_parts.proofs.TypedNames.{named_as_denoted}
use Rattle.law_program_parts.proofs.MembersLists.{here, First, first_found}

-- ---- the first of its name

of_class : (c : ℕ) (name : List ℕ) (f : Field) → is_field c name f ≡ true → f.class ≡ c
of_class c name f e = eqb-true f.class c (and_parts (f.class == c) (bytes_eq f.name name) e).0

of_name : (c : ℕ) (name : List ℕ) (f : Field) → is_field c name f ≡ true → f.name ≡ name
of_name c name f e = (bytes_eq-Decides f.name name).0 (and_parts (f.class == c) (bytes_eq f.name name) e).1

earlier_or_same : (i j : ℕ) → i ≤ j → (i < j) ⊎ (i ≡ j)
earlier_or_same zero zero le = inr refl
earlier_or_same zero (suc j) le = inl (omega arith)
earlier_or_same (suc i) zero le = absurd (omega arith)
earlier_or_same (suc i) (suc j) le = one_more (earlier_or_same i j (omega arith))
  where
    one_more : (i < j) ⊎ (i ≡ j) → (suc i < suc j) ⊎ (suc i ≡ suc j)
    one_more (inl less) = inl (omega arith)
    one_more (inr same) = inr (omega arith)

module _ (unit : CompilationUnit) (keeps : KeepsRules unit) where
  -- an earlier one of the same name would break a rule (JLS 8.3)
  alone : (c n : ℕ) (name : List ℕ) (f : Field) → slice_get (table unit).fields n ≡ Some f → f.class ≡ c → f.name ≡ name → First (is_field c name) (table unit).fields 0 n → declared_field (table unit).fields c name ≡ Some n
  alone c n name f e own called first = by (earlier_or_same first.place n first.not_later)
    where
      by : (first.place < n) ⊎ (first.place ≡ n) → declared_field (table unit).fields c name ≡ Some n
      by (inl less) =
          absurd (keeps rule.Duplicate f.site (again_field (first.place, n, less, first.stands, e) (of_class c name first.one first.passes ∙ sym own) (of_name c name first.one first.passes ∙ sym called)))
      by (inr same) = first.found ∙ ap (λ (i : ℕ). Some i) (omega arith)

  pub declared_at : (n : ℕ) (f : Field) → slice_get (table unit).fields n ≡ Some f → declared_field (table unit).fields f.class f.name ≡ Some n
  declared_at n f e =
      alone f.class n f.name f e refl refl
      (first_found (is_field f.class f.name) (table unit).fields 0 n f e (and_from (f.class == f.class) (bytes_eq f.name f.name) (eq-eqb f.class f.class refl) ((bytes_eq-Decides f.name f.name).1 refl)))

  module _ (i : ℕ) (k : ClassSyntax) (at_class : slice_get (classes_of unit) i ≡ Some k) (j : ℕ) (ms : List Placed) (ty : WrittenType) (ds : List Declarator) (at_member : slice_get k.members j ≡ Some (source.Fields ms ty ds)) where
    abbrev c : ℕ
    c = first_source_class + i

    row_among : (n : ℕ) (d : Declarator) → slice_get ds n ≡ Some d → Contains (table unit).fields (field_row unit c ms ty d)
    unfolding table
    row_among n d e =
        let row : Field = field_row unit c ms ty d in
        let numbered = placed (enumerate_from first_source_class (classes_of unit)) (c, k) (in_numbered first_source_class (classes_of unit) i k at_class) in
        let in_member : Contains (fields_in unit c (source.Fields ms ty ds)) row = in_mapped (field_row unit c ms ty) ds n d e in
        let in_class : Contains (fields_of unit c k) row = in_flat (fields_in unit c) k.members j (source.Fields ms ty ds) row at_member in_member in
        Contains-append_right builtin.fields (class_by_class (fields_of unit) unit) row
        (in_flat (λ (q : ℕ × ClassSyntax). fields_of unit q.0 q.1) (enumerate_from first_source_class (classes_of unit)) numbered.0 (c, k) row numbered.1 in_class)

    -- ---- the type

    -- a name that denotes nothing would break a rule (JLS 6.5.5)
    name_denotes : (name : List ℕ) (token : ℕ) → Contains (named_in (source.Fields ms ty ds)) (record { name = name; token = token }) → denoted unit name ≡ Some (class_or_object unit name)
    name_denotes name token there = by (denoted unit name) refl
      where
        by : (o : Option ℕ) → denoted unit name ≡ o → denoted unit name ≡ Some (unwrap_or (denoted unit name) object_class)
        by (Some x) e = e ∙ ap (λ (y : ℕ). Some y) (sym (ap (λ (o : Option ℕ). unwrap_or o object_class) e))
        by None e =
            let n : Named = record { name = name; token = token } in
            let said : List Named = flat_map (λ (m : Member). named_in m ++ thrown_in m) k.members in
            let in_member : Contains (named_in (source.Fields ms ty ds) ++ thrown_in (source.Fields ms ty ds)) n = Contains-append_left (named_in (source.Fields ms ty ds)) (thrown_in (source.Fields ms ty ds)) n there in
            let in_members : Contains said n = in_flat (λ (m : Member). named_in m ++ thrown_in m) k.members j (source.Fields ms ty ds) n at_member in_member in
            absurd (keeps rule.UnknownName token (unknown_class {k = k} {n = n} (contained (classes_of unit) i k at_class) (Contains-append_right (option_to_list k.above ++ k.interfaces) said n in_members) e))

    base_denotes : (classes : List Class) → classes ≡ (table unit).classes → (base : source.Base) → ty.base ≡ base → BaseDenotes classes base (base_type unit base)
    base_denotes classes is (source.Basic q) e = refl
    base_denotes classes is (source.Class name) e =
        let n : Named = record { name = name; token = ty.token } in
        let P : source.Base → Type 0 = λ b. Contains (named_by b ty.token ++ []) n in
        (class_or_object unit name, named_as_denoted unit classes name is ∙ name_denotes name ty.token (subst P (sym e) (here n [])), refl)

    -- ---- a field of the program

    pub field_declared : (p : Program) → p.classes ≡ (table unit).classes → p.fields ≡ (table unit).fields → (n : ℕ) (d : Declarator) → slice_get ds n ≡ Some d → IsDeclared p c (is_static ms) ty d
    field_declared p classes fields n d e =
        let row : Field = field_row unit c ms ty d in
        let found = placed (table unit).fields row (row_among n d e) in
        record {
          number = found.0;
          field = row;
          first = ap (λ (fs : List Field). declared_field fs c d.name.name) fields ∙ declared_at found.0 row found.1;
          found = ap (λ (fs : List Field). slice_get fs found.0) fields ∙ found.1;
          static = refl;
          type = (base_type unit ty.base, base_denotes p.classes classes ty.base refl, refl);
        }
